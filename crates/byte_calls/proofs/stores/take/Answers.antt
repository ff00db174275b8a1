use Rattle.std.proofs.Common.{◌≡◌, Ok, subst}
use Rattle.authenticators.specs.Directory.{Listing}
use Rattle.byte_calls.specs.Stores.{valid_item_of}
use Rattle.byte_calls.proofs.stores.take.Goals as goal

pub returns-clause-taken : goal.returns-clause-taken
returns-clause-taken g c =
    let found = c.in_ok-checked.checked.item in
    record {
      item = found;
      spelled = c.in_ok-checked.ensures.spelled;
      valid = subst (λ (ds : Listing). valid_item_of ds c.args.text.now ≡ Ok found.fields) c.directory.ensures.kept c.in_ok-checked.ensures.exact;
      told = c.in_ok-new.ensures.told;
      taken = c.in_ok-new.ensures.taken;
    }
