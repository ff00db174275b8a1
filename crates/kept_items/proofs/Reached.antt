-- What contradicts a segment lies within its reach.
use Rattle.std.proofs.Common.{◌≡◌, ◌≢◌, ℕ, ◌+◌, ◌<◌, ◌≤◌, Bool, true, false, List, [], ◌∷◌, Option, Some, None, refl, sym, ap, ◌∙◌, inl, inr, arith}
use Rattle.std.specs.Prelude.{◌⊎◌, ◌-◌, ◌^◌, if◌then◌else◌}
use Rattle.std.specs.Cmp.Lexicographic.{bytes_decides}
use Rattle.std.proofs.lemmas.Option.{same_Some}
use Rattle.log_chain.specs.declared.entry.Entry.{Entry}
use Rattle.log_chain.specs.Chain.{Rising, base}
use Rattle.replay_verifier.specs.Deviation.{is_base}
use Rattle.item_forms.specs.declared.forms.Fields.{Fields}
use Rattle.item_forms.specs.declared.forms.Fields.TheVariants as form
use Rattle.item_forms.specs.declared.forms.Segment.{Segment}
use Rattle.item_forms.specs.Segments.{first_seq, last_seq}
use Rattle.proofs.specs.Contradictions.{Contradicts}
use Rattle.proofs.proofs.Contradicting.{contradicts-decides, rising-decides}
use Rattle.kept_items.specs.declared.reach.Reach.{Reach}
use Rattle.kept_items.specs.Keeping.{DenialsAreWithinReach, IsWithin, above, low_number, segment_reach}

-- ---- where a segment begins

low_at_base : (prev : List ℕ) (first : ℕ) → is_base prev ≡ true → low_number prev first ≡ 0
low_at_base prev first e = ap (λ (b : Bool). if b then 0 else above first) e

low_behind : (prev : List ℕ) (first : ℕ) → is_base prev ≡ false → low_number prev first ≡ above first
low_behind prev first e = ap (λ (b : Bool). if b then 0 else above first) e

abbrev rising_reach : Segment → Reach
rising_reach s = record { low = low_number s.prev (first_seq s.entries); last = last_seq s.entries }

reach_rising : (s : Segment) → Rising s.entries → segment_reach s ≡ rising_reach s
reach_rising s up = ap (λ (b : Bool). if b then rising_reach s else record { low = 2 ^ 64 - 1; last = 0 }) ((rising-decides s.entries).1 up)

-- ---- denials

rising_ends : (e : Entry) (es : List Entry) → Rising (e ∷ es) → e.seq ≤ last_seq (e ∷ es)
rising_ends e [] up = omega arith
rising_ends e (f ∷ es) up = let more = rising_ends f es up.1 in omega (arith, up.0, more)

first_to_last : (es : List Entry) → es ≢ [] → Rising es → first_seq es ≤ last_seq es
first_to_last [] some up = absurd (some refl)
first_to_last (e ∷ es) some up = rising_ends e es up

low_by : (s : Segment) (seq : ℕ) (b : Bool) → is_base s.prev ≡ b → first_seq s.entries ≤ seq + 1 ⊎ (s.prev ≡ base) → low_number s.prev (first_seq s.entries) ≤ seq + 2
low_by s seq true e h = let none = low_at_base s.prev (first_seq s.entries) e in omega (arith, none)
low_by s seq false e (inl le) = let here = low_behind s.prev (first_seq s.entries) e in omega (arith, here, le)
low_by s seq false e (inr is) = let yes = (bytes_decides s.prev base).1 is in absurd (cc (yes, e))

reach_of : (s : Segment) (seq : ℕ) (hash : List ℕ) → Contradicts seq hash s → (low_number s.prev (first_seq s.entries) ≤ seq + 2) × (seq ≤ last_seq s.entries)
reach_of s seq hash h =
    let ends = first_to_last s.entries h.some h.rising in
    elim h.case [
      | inl out ↦ (low_by s seq (is_base s.prev) refl (inl (omega (arith, out.from))), omega (arith, out.to))
      | inr more ↦ elim more [
        | inl off ↦ (low_by s seq (is_base s.prev) refl (inl (omega (arith, off.before))), omega (arith, off.before, ends))
        | inr before ↦ (low_by s seq (is_base s.prev) refl (inr before.begins), omega (arith, before.below, ends))
      ]
    ]

within : (s : Segment) (seq : ℕ) (hash : List ℕ) (r : Reach) → segment_reach s ≡ r → Contradicts seq hash s → IsWithin seq r
within s seq hash r is h =
    let whole : rising_reach s ≡ r = sym (reach_rising s h.rising) ∙ is in
    let low = ap (λ (q : Reach). q.low) whole in
    let last = ap (λ (q : Reach). q.last) whole in
    let both = reach_of s seq hash h in
    record { from = omega (arith, low, both.0); to = omega (arith, last, both.1) }

pub denials_are_within_reach : DenialsAreWithinReach
denials_are_within_reach a (form.Auth b) r is h = absurd cc
denials_are_within_reach a (form.Segment s) r is h = within s a.seq a.hash r (same_Some (segment_reach s) r is) ((contradicts-decides a.seq a.hash s).0 h)
denials_are_within_reach a (form.Audit c) r is h = absurd cc
denials_are_within_reach a (form.Send m) r is h = absurd cc
denials_are_within_reach a (form.Ack b) r is h = absurd cc
