use Rattle.std.proofs.Common.{◌≡◌, ◌∙◌, [], ◌∷◌, ◌++◌, ap, ap₂}
use Rattle.lms_sign.specs.Signing.{public_key}
use Rattle.simulation.specs.Fixtures.{public_of}
use Rattle.simulation.proofs.Listings.{listed_twice}
use Rattle.simulation.proofs.playing.list.Goals as goal

pub returns : goal.returns
returns c =
    let id = c.args.member.id in
    let first : c.public_key.result ≡ public_of id 0 = c.public_key.ensures ∙ ap public_key c.in_ok-key.ensures in
    let second : c.public_key-2.result ≡ public_of id 1 = c.public_key-2.ensures ∙ ap public_key c.in_ok-next.ensures in
    listed_twice c.args.directory.now c.add.new.self c.add_key.new.self id _ c.public_key.result c.public_key-2.result c.in_ok-add.ensures.added c.in_ok-add_key.ensures.added
    ∙ ap₂ (λ a b. c.args.directory.now ++ (id, a ∷ b ∷ []) ∷ []) first second
