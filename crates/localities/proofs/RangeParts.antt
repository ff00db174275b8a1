-- Parts by ranges, joined.
use Rattle.std.proofs.Common.{◌≡◌, ℕ, zero, suc, ◌<◌, refl, subst, inl, inr, arith}
use Rattle.std.specs.Prelude.{◌==◌}
use Rattle.std.proofs.lemmas.Bool.{cases_lt, eq-eqb}
use Rattle.evidence_set.specs.ItemSets.{Items, Has, IsWithin, JoinsAreLeastUpperBounds, JoinsAsExpected, SetsAsExpected}
use Rattle.localities.specs.Parts.{PartsAsExpected}
use Rattle.localities.specs.Ranges.{Key, RangesAreParts, has_key, keys_of, range_part, ranges_joined}
use Rattle.localities.proofs.Keyed.{some_key}
use Rattle.localities.proofs.Picked.{passes_some}

module _ (parts : PartsAsExpected) (joins : JoinsAsExpected) (bounds : JoinsAreLeastUpperBounds) (sets : SetsAsExpected) (deal : Key → ℕ) (width : ℕ) where
  no_more : (n : ℕ) (E : Items) → IsWithin (ranges_joined deal width n E) E
  no_more zero E x h = absurd (sets.none x h)
  no_more (suc n) E x h = elim ((joins.members (ranges_joined deal width n E) (range_part deal width E n) x).0 h) [
    | inl before ↦ no_more n E x before
    | inr here ↦ parts.within (has_key deal width n) E x here
  ]

  of_part : (n k : ℕ) (E : Items) → k < n → IsWithin (range_part deal width E k) (ranges_joined deal width n E)
  of_part zero k E below x h = absurd (omega arith)
  of_part (suc n) k E below x h = elim (cases_lt k n) [
    | inl before ↦ (joins.members (ranges_joined deal width n E) (range_part deal width E n) x).1 (inl (of_part n k E before x h))
    | inr over ↦
        let last : k ≡ n = omega arith in
        (joins.members (ranges_joined deal width n E) (range_part deal width E n) x).1 (inr (subst (λ (m : ℕ). Has (range_part deal width E m) x) last h))
  ]

  -- each item has some key, and is in that key's part
  all_there : (n : ℕ) (E : Items) → ((key : Key) → deal key < n) → IsWithin E (ranges_joined deal width n E)
  all_there n E below x h =
      let s = some_key width x.fields in
      of_part n (deal s.0) E (below s.0) x ((parts.members (has_key deal width (deal s.0)) E x).1 (h, passes_some (λ (l : Key). deal l == deal s.0) (keys_of width x.fields) s.0 s.1 (eq-eqb (deal s.0) (deal s.0) refl)))

  whole : (n : ℕ) (E : Items) → ((key : Key) → deal key < n) → ranges_joined deal width n E ≡ E
  whole n E below = bounds.one (ranges_joined deal width n E) E (no_more n E) (all_there n E below)

pub are_parts : PartsAsExpected → JoinsAsExpected → JoinsAreLeastUpperBounds → SetsAsExpected → RangesAreParts
are_parts parts joins bounds sets = record {
  join = λ deal width k A B. parts.join (has_key deal width k) A B;
  whole = λ deal width n E below. whole parts joins bounds sets deal width n E below;
  valid = λ ds deal width k E valid. parts.valid (has_key deal width k) ds E valid;
}
