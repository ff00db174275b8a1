use Rattle.std.proofs.Common.{◌≡◌, ℕ, List, [], ◌∷◌, Option, Some, None, if◌then◌else◌, refl}
use Rattle.log_chain.specs.declared.entry.Entry.{Entry}
use Rattle.item_forms.specs.Segments.{has_no_entry, last_seq}
use Rattle.explanations.proofs.deviating.last_of.Goals as goal

abbrev Told : Option ℕ → List Entry → Type 0
Told n es = n ≡ (if has_no_entry es then None else Some (last_seq es))

some : (es : List Entry) (n : ℕ) → Told (Some n) es → n ≡ last_seq es
some [] n e = absurd cc
some (x ∷ es) n e = cc

none : (es : List Entry) → Told None es → 0 ≡ last_seq es
none [] e = refl
none (x ∷ es) e = absurd cc

pub returns-in-Some : goal.returns-in-Some
returns-in-Some c = some c.args.segment.now.entries _ c.in-Some.ensures

pub returns-in-None : goal.returns-in-None
returns-in-None c = none c.args.segment.now.entries c.in-None.ensures
