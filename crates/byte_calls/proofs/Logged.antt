-- Where an entry of a list is not written, the list is not.
use Rattle.std.proofs.Common.{◌≡◌, ◌⊎◌, ◌<◌, ℕ, List, length, get_or, inl, inr, sym, subst}
use Rattle.std.specs.List.{All}
use Rattle.std.proofs.lemmas.List.Elements.{All-get_or}
use Rattle.log_chain.specs.declared.entry.Entry.{Entry}
use Rattle.item_forms.specs.Spelling.{FitsEntry}
use Rattle.byte_calls.specs.declared.refusal.Refusal.{Refusal}
use Rattle.byte_calls.specs.declared.refusal.Refusal.TheVariants.{Memory, TooLong}

pub not_written : (es : List Entry) (i : ℕ) (e : Entry) (f : Refusal) → i < length es → e ≡ get_or es i e → (f ≡ Memory) ⊎ ((f ≡ TooLong) × ¬ (FitsEntry e)) → (f ≡ Memory) ⊎ ((f ≡ TooLong) × ¬ (All FitsEntry es))
not_written es i e f less is (inl memory) = inl memory
not_written es i e f less is (inr long) = inr (long.0, λ all. long.1 (subst FitsEntry (sym is) (All-get_or FitsEntry es i e less all)))
