-- The statements at the positions of an item are those that stand in it.
use Rattle.std.proofs.Common.{◌≡◌, ℕ, zero, suc, ◌-◌, Bool, true, false, List, [], ◌∷◌, Option, Some, None, refl, sym, ap, subst, ◌∙◌, ◌⊎◌, inl, inr, ⊎_elim, arith}
use Rattle.std.specs.Prelude.{◌==◌, slice_get}
use Rattle.std.specs.Option.{option_map}
use Rattle.std.specs.List.{Contains, cons_option}
use Rattle.std.proofs.lemmas.Bool.Decides.{Decides-eqb}
use Rattle.std.proofs.lemmas.List.Elements.{Contains-append_cases, Contains-append_left, Contains-append_right}
use Rattle.std.proofs.lemmas.Option.{same_Some}
use Rattle.log_chain.specs.declared.entry.Entry.{Entry}
use Rattle.authenticators.specs.declared.authenticator.Authenticator.{Authenticator}
use Rattle.item_forms.specs.declared.forms.Fields.{Fields}
use Rattle.item_forms.specs.declared.forms.Fields.TheVariants as form
use Rattle.item_forms.specs.declared.forms.Segment.{Segment}
use Rattle.item_forms.specs.declared.forms.Statement.{Statement}
use Rattle.evidence_item.specs.declared.findings.Findings.{Findings}
use Rattle.evidence_item.specs.declared.findings.Findings.TheVariants as found
use Rattle.evidence_item.specs.declared.findings.SegmentFindings.{SegmentFindings}
use Rattle.evidence_item.specs.Statements.{first_named, named}
use Rattle.kept_evidence.specs.Telling.{told_quote, told_quotes, told_segment, told_statements}
use Rattle.kept_evidence.proofs.Members.{first, here_or_later, later, none_here}
use Rattle.kept_items.specs.Positions.{either_at, end_said, in_segment, quote_at, quote_by, stated_in}

-- ---- quotes

here_quote : (o : Option Authenticator) (rest : List Authenticator) (a : Authenticator) → o ≡ Some a → Contains (cons_option o rest) a
here_quote None rest a is = absurd cc
here_quote (Some b) rest a is = subst (Contains (b ∷ rest)) (same_Some b a is) (first b rest)

later_quote : (o : Option Authenticator) (rest : List Authenticator) (a : Authenticator) → Contains rest a → Contains (cons_option o rest) a
later_quote None rest a has = has
later_quote (Some b) rest a has = later b rest a has

quote_cases : (o : Option Authenticator) (rest : List Authenticator) (a : Authenticator) → Contains (cons_option o rest) a → (o ≡ Some a) ⊎ Contains rest a
quote_cases None rest a has = inr has
quote_cases (Some b) rest a has = ⊎_elim (λ is. inl (ap Some is)) (λ more. inr more) (here_or_later b rest a has)

quoted_stands : (es : List Entry) (hs : List (Option (List ℕ))) (k : ℕ) (a : Authenticator) → quote_by (slice_get es k) (slice_get hs k) ≡ Some a → Contains (told_quotes es hs) a
quoted_stands [] hs k a is = absurd cc
quoted_stands (e ∷ es) [] zero a is = absurd cc
quoted_stands (e ∷ es) [] (suc k) a is = absurd (none_by (slice_get es k) is)
  where
    none_by : (o : Option Entry) → quote_by o None ≡ Some a → ⊥
    none_by None h = cc
    none_by (Some f) h = cc
quoted_stands (e ∷ es) (h ∷ hs) zero a is = here_quote (told_quote e h) (told_quotes es hs) a is
quoted_stands (e ∷ es) (h ∷ hs) (suc k) a is = later_quote (told_quote e h) (told_quotes es hs) a (quoted_stands es hs k a is)

stands_quoted : (es : List Entry) (hs : List (Option (List ℕ))) (a : Authenticator) → Contains (told_quotes es hs) a → (k : ℕ) × (quote_by (slice_get es k) (slice_get hs k) ≡ Some a)
stands_quoted [] hs a has = absurd (none_here a has)
stands_quoted (e ∷ es) [] a has = absurd (none_here a has)
stands_quoted (e ∷ es) (h ∷ hs) a has = ⊎_elim
    (λ is. (zero, is))
    (λ more. let t = stands_quoted es hs a more in (suc t.0, t.1))
    (quote_cases (told_quote e h) (told_quotes es hs) a has)

-- ---- one or two

one_of_two : (o p : Option Authenticator) (k : ℕ) (a : Authenticator) → either_at o p k ≡ Some a → (o ≡ Some a) ⊎ (p ≡ Some a)
one_of_two o p k a h = by_case (k == 0) refl
  where
    second : (e : Bool) → (k == 0) ≡ false → (k == 1) ≡ e → (o ≡ Some a) ⊎ (p ≡ Some a)
    second true z t = let is : either_at o p k ≡ p = rw (z, t) refl in inr (sym is ∙ h)
    second false z t = let is : either_at o p k ≡ None = rw (z, t) refl in absurd (cc (is, h))

    by_case : (e : Bool) → (k == 0) ≡ e → (o ≡ Some a) ⊎ (p ≡ Some a)
    by_case true z = let is : either_at o p k ≡ o = rw z refl in inl (sym is ∙ h)
    by_case false z = second (k == 1) z refl

only_one : (b a : Authenticator) (k : ℕ) → either_at (Some b) None k ≡ Some a → Contains (b ∷ []) a
only_one b a k h = ⊎_elim (λ is. subst (Contains (b ∷ [])) (same_Some b a is) (first b [])) (λ none. absurd cc) (one_of_two (Some b) None k a h)

both_of : (b c a : Authenticator) (k : ℕ) → either_at (Some b) (Some c) k ≡ Some a → Contains (b ∷ c ∷ []) a
both_of b c a k h = ⊎_elim
    (λ is. subst (Contains (b ∷ c ∷ [])) (same_Some b a is) (first b (c ∷ [])))
    (λ is. later b (c ∷ []) a (subst (Contains (c ∷ [])) (same_Some c a is) (first c [])))
    (one_of_two (Some b) (Some c) k a h)

only_back : (b a : Authenticator) → Contains (b ∷ []) a → (k : ℕ) × (either_at (Some b) None k ≡ Some a)
only_back b a has = ⊎_elim (λ is. (0, ap Some is)) (λ more. absurd (none_here a more)) (here_or_later b [] a has)

both_back : (b c a : Authenticator) → Contains (b ∷ c ∷ []) a → (k : ℕ) × (either_at (Some b) (Some c) k ≡ Some a)
both_back b c a has = ⊎_elim (λ is. (0, ap Some is)) (λ more. ⊎_elim (λ is. (1, ap Some is)) (λ none. absurd (none_here a none)) (here_or_later c [] a more)) (here_or_later b (c ∷ []) a has)

named_of : (node : ℕ) (o : Option Statement) (a : Authenticator) → option_map (named node) o ≡ Some a → Contains (first_named node o) a
named_of node None a is = absurd cc
named_of node (Some s) a is = subst (Contains (named node s ∷ [])) (same_Some (named node s) a is) (first (named node s) [])

named_back : (node : ℕ) (o : Option Statement) (a : Authenticator) → Contains (first_named node o) a → option_map (named node) o ≡ Some a
named_back node None a has = absurd (none_here a has)
named_back node (Some s) a has = ⊎_elim (λ is. ap Some is) (λ none. absurd (none_here a none)) (here_or_later (named node s) [] a has)

-- ---- segments

segment_stands : (s : Segment) (f : SegmentFindings) (k : ℕ) (a : Authenticator) → in_segment s f k ≡ Some a → Contains (told_segment s f) a
segment_stands s f k a h = by_case (k == 0) refl
  where
    by_case : (e : Bool) → (k == 0) ≡ e → Contains (told_segment s f) a
    by_case true z =
        let is : in_segment s f k ≡ Some (end_said s f) = rw z refl in
        subst (Contains (told_segment s f)) (same_Some (end_said s f) a (sym is ∙ h)) (first (end_said s f) (told_quotes s.entries f.quotes))
    by_case false z =
        let is : in_segment s f k ≡ quote_at s f (k - 1) = rw z refl in
        later (end_said s f) (told_quotes s.entries f.quotes) a (quoted_stands s.entries f.quotes (k - 1) a (sym is ∙ h))

not_zero : (k : ℕ) (b : Bool) → (suc k == 0) ≡ b → (suc k == 0) ≡ false
not_zero k true e = let at = (Decides-eqb (suc k) 0).0 e in absurd (omega (arith, at))
not_zero k false e = e

segment_back : (s : Segment) (f : SegmentFindings) (a : Authenticator) → Contains (told_segment s f) a → (k : ℕ) × (in_segment s f k ≡ Some a)
segment_back s f a has = ⊎_elim
    (λ is. (0, ap Some is))
    (λ more.
    let t = stands_quoted s.entries f.quotes a more in
    let z : (suc t.0 == 0) ≡ false = not_zero t.0 (suc t.0 == 0) refl in
    let is : in_segment s f (suc t.0) ≡ quote_at s f (suc t.0 - 1) = rw z refl in
    let at : (suc t.0 - 1) ≡ t.0 = omega arith in
    (suc t.0, is ∙ ap (λ n. quote_at s f n) at ∙ t.1))
    (here_or_later (end_said s f) (told_quotes s.entries f.quotes) a has)

-- ---- items

pub stands : (x : Fields) (f : Option Findings) (k : ℕ) (a : Authenticator) → stated_in x f k ≡ Some a → Contains (told_statements x f) a
stands (form.Auth b) f k a h = only_one b a k h
stands (form.Segment s) (Some (found.Segment f)) k a h = segment_stands s f k a h
stands (form.Segment s) (Some (found.Send g)) k a h = absurd cc
stands (form.Segment s) (Some (found.Ack g i)) k a h = absurd cc
stands (form.Segment s) None k a h = absurd cc
stands (form.Audit c) f k a h = ⊎_elim
    (λ last. Contains-append_right (first_named c.node c.first) (named c.node c.last ∷ []) a (subst (Contains (named c.node c.last ∷ [])) (same_Some (named c.node c.last) a last) (first (named c.node c.last) [])))
    (λ one. Contains-append_left (first_named c.node c.first) (named c.node c.last ∷ []) a (named_of c.node c.first a one))
    (one_of_two (Some (named c.node c.last)) (option_map (named c.node) c.first) k a h)
stands (form.Send m) (Some (found.Send g)) k a h = only_one _ a k h
stands (form.Send m) (Some (found.Segment f)) k a h = absurd cc
stands (form.Send m) (Some (found.Ack g i)) k a h = absurd cc
stands (form.Send m) None k a h = absurd cc
stands (form.Ack b) (Some (found.Ack g i)) k a h = both_of _ _ a k h
stands (form.Ack b) (Some (found.Segment f)) k a h = absurd cc
stands (form.Ack b) (Some (found.Send g)) k a h = absurd cc
stands (form.Ack b) None k a h = absurd cc

pub has_position : (x : Fields) (f : Option Findings) (a : Authenticator) → Contains (told_statements x f) a → (k : ℕ) × (stated_in x f k ≡ Some a)
has_position (form.Auth b) f a has = only_back b a has
has_position (form.Segment s) (Some (found.Segment f)) a has = segment_back s f a has
has_position (form.Segment s) (Some (found.Send g)) a has = absurd (none_here a has)
has_position (form.Segment s) (Some (found.Ack g i)) a has = absurd (none_here a has)
has_position (form.Segment s) None a has = absurd (none_here a has)
has_position (form.Audit c) f a has = ⊎_elim
    (λ one. (1, named_back c.node c.first a one))
    (λ last. ⊎_elim (λ is. (0, ap Some is)) (λ none. absurd (none_here a none)) (here_or_later (named c.node c.last) [] a last))
    (Contains-append_cases (first_named c.node c.first) (named c.node c.last ∷ []) a has)
has_position (form.Send m) (Some (found.Send g)) a has = only_back _ a has
has_position (form.Send m) (Some (found.Segment f)) a has = absurd (none_here a has)
has_position (form.Send m) (Some (found.Ack g i)) a has = absurd (none_here a has)
has_position (form.Send m) None a has = absurd (none_here a has)
has_position (form.Ack b) (Some (found.Ack g i)) a has = both_back _ _ a has
has_position (form.Ack b) (Some (found.Segment f)) a has = absurd (none_here a has)
has_position (form.Ack b) (Some (found.Send g)) a has = absurd (none_here a has)
has_position (form.Ack b) None a has = absurd (none_here a has)
