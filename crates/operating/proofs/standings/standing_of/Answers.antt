use Rattle.std.proofs.Common.{◌≡◌, false, refl}
use Rattle.authenticators.specs.Directory.{is_listed}
use Rattle.operating.proofs.standings.standing_of.Goals as goal

pub unreachable-requires : goal.unreachable-requires
unreachable-requires g c =
    let told : is_listed c.args.store.now.directory c.args.node ≡ false = c.in_default.ensures.unknown.0 refl in
    cc (told, c.requires)
