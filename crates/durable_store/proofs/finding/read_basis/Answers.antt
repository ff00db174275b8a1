use Rattle.std.proofs.Common.{rules, ◌≡◌, ◌∙◌, ap, true, false, List, ℕ, [], ◌∷◌, ◌++◌}
use Rattle.std.specs.Prelude.{◌≢◌}
use Rattle.journal.specs.Journal.{recovered}
use Rattle.durable_store.proofs.Found.{no_directory, nothing_found, other_directory, other_program}
use Rattle.durable_store.proofs.finding.read_basis.Goals as goal

pub returns-then-not-is_same-clause-shown : goal.returns-then-not-is_same-clause-shown
returns-then-not-is_same-clause-shown g c = λ ds.
    let other : c.in-Some.first.items ≢ c.index-basis-0.result.items = search rules in
    let text = rw c.in-Some.is at c.in_ok-first.ensures.text in
    record {
      texts = c.in-Some.first.items ∷ [];
      is_all = false;
      are_found = nothing_found _ _ _ c.requires.nothing text.1;
      show = other_program c.args.basis.now c.index-basis-0.result c.in-Some.first.items c.requires.two c.index-basis-0.is other;
    }

pub returns-in_default-2-clause-shown : goal.returns-in_default-2-clause-shown
returns-in_default-2-clause-shown g c = λ ds.
    let same : c.in-Some.first.items ≡ c.index-basis-0.result.items = search rules in
    let text = rw c.in-Some.is at c.in_ok-first.ensures.text in
    let ended : recovered (g.D.Device.seen c.next_text-2.new.reading.device) ≡ recovered (g.D.Device.found c.next_text.new.reading.device) = search rules in
    record {
      texts = c.in-Some.first.items ∷ [];
      is_all = true;
      are_found = ended ∙ nothing_found _ _ _ c.requires.nothing text.1;
      show = no_directory c.args.basis.now c.index-basis-0.result c.in-Some.first.items c.requires.two c.index-basis-0.is same;
    }

pub returns-then-not-is_same-2-clause-shown : goal.returns-then-not-is_same-2-clause-shown
returns-then-not-is_same-2-clause-shown g c = λ ds.
    let same : c.in-Some.first.items ≡ c.index-basis-0.result.items = search rules in
    let other : c.in-Some-2.second.items ≢ c.index-basis-1.result.items = search rules in
    let text = rw c.in-Some.is at c.in_ok-first.ensures.text in
    let next = rw c.in-Some-2.is at c.in_ok-second.ensures.text in
    let first = nothing_found _ _ _ c.requires.nothing text.1 in
    record {
      texts = c.in-Some.first.items ∷ c.in-Some-2.second.items ∷ [];
      is_all = false;
      are_found = next.1 ∙ ap (λ (t : List (List ℕ)). t ++ c.in-Some-2.second.items ∷ []) first;
      show = other_directory false c.args.basis.now c.index-basis-0.result c.index-basis-1.result c.in-Some.first.items c.in-Some-2.second.items c.requires.two c.index-basis-0.is c.index-basis-1.is same other;
    }
