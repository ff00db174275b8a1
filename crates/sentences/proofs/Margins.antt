-- Of the lines of nodes those that are not indented are the nodes' own.
use Rattle.std.proofs.Common.{◌≡◌, ◌<◌, ◌+◌, ◌^◌, suc, ◌==◌, ◌≢◌, ◌++◌, ℕ, List, [], ◌∷◌, All, Bool, true, false, not, if◌then◌else◌, refl, ap, sym, ◌∙◌, arith, codes, decimal, string_bytes, length}
use Rattle.std.specs.List.{AllByRecursion, flat_map}
use Rattle.std.proofs.lemmas.Bool.Decides.{nat_tests}
use Rattle.sentences.specs.Texts.{in_line, in_one_line, is_margin, margin, margin_behind, node_text, sentence_text, ending_of, row_line}
use Rattle.evidence_set.specs.declared.indication.Indication.{Indication}
use Rattle.evidence_set.specs.declared.indication.Indication.TheVariants.{Trusted, Suspected, Exposed}
use Rattle.sentences.specs.declared.explanation.NodeExplanation.{NodeExplanation}
use Rattle.sentences.specs.declared.explanation.Sentence.{Sentence}
use Rattle.std.specs.Str.Parse.{AllDigits}
use Rattle.std.proofs.lemmas.Fmt.{decimal_is_IsNumeral}
use Rattle.std.proofs.lemmas.Str.Parse.{digit_from_value}
use mathlib.Core.List.{append_assoc}

-- whether no byte is a line feed
all : List ℕ → Bool
all [] = true
all (b ∷ xs) = if b == 10 then false else all xs

-- a byte within a line
abbrev pub IsWithin : ℕ → Type 0
IsWithin b = b ≢ 10

-- behind a line feed nothing of the line before counts
behind_feed : (so : Bool) (text : List ℕ) → margin_behind 10 so text ≡ margin text
unfolding is_margin margin_behind
behind_feed so [] = refl
behind_feed so (b ∷ text) = refl

-- within a line that is one all is kept, and within another nothing
step : (t : Bool) (b : ℕ) (kept other : List ℕ) → t ≡ true → (if t then b ∷ kept else other) ≡ b ∷ kept
step true b kept other _ = refl
step false b kept other e = absurd cc

skip : (t : Bool) (b : ℕ) (kept other : List ℕ) → t ≡ false → (if t then b ∷ kept else other) ≡ other
skip false b kept other _ = refl
skip true b kept other e = absurd cc

within : (before : ℕ) (so : Bool) (b : ℕ) → IsWithin before → is_margin before so b ≡ so
unfolding is_margin
within before so b h = go (before == 10) refl
  where
    go : (t : Bool) → (before == 10) ≡ t → (if t then not (b == 32) else so) ≡ so
    go false _ = refl
    go true e = absurd (h (grind (arith, nat_tests)))

-- a line that is one: all of it is kept
kept_line : (before : ℕ) (xs more : List ℕ) → IsWithin before → AllByRecursion IsWithin xs → margin_behind before true (xs ++ 10 ∷ more) ≡ xs ++ 10 ∷ margin more
unfolding margin_behind
kept_line before [] more h _ = step (is_margin before true 10) 10 (margin_behind 10 true more) (margin_behind 10 (is_margin before true 10) more) (within before true 10 h)
kept_line before (b ∷ xs) more h k =
    let rest : margin_behind b true (xs ++ 10 ∷ more) ≡ xs ++ 10 ∷ margin more = kept_line b xs more k.0 k.1 in
    step (is_margin before true b) b (margin_behind b true (xs ++ 10 ∷ more)) (margin_behind b (is_margin before true b) (xs ++ 10 ∷ more)) (within before true b h)
    ∙ ap (λ z. b ∷ z) rest

-- a line that is none: nothing of it is
skipped_line : (before : ℕ) (xs more : List ℕ) → IsWithin before → AllByRecursion IsWithin xs → margin_behind before false (xs ++ 10 ∷ more) ≡ margin more
unfolding margin_behind
skipped_line before [] more h _ =
    skip (is_margin before false 10) 10 (margin_behind 10 true more) (margin_behind 10 (is_margin before false 10) more) (within before false 10 h)
    ∙ behind_feed (is_margin before false 10) more
skipped_line before (b ∷ xs) more h k =
    let rest : margin_behind b false (xs ++ 10 ∷ more) ≡ margin more = skipped_line b xs more k.0 k.1 in
    skip (is_margin before false b) b (margin_behind b true (xs ++ 10 ∷ more)) (margin_behind b (is_margin before false b) (xs ++ 10 ∷ more)) (within before false b h)
    ∙ ap (λ so. margin_behind b so (xs ++ 10 ∷ more)) (within before false b h) ∙ rest

-- a text in one line has no line feed
in_line_within : (b : ℕ) → IsWithin (in_line b)
in_line_within b = grind (arith, nat_tests)

one_line : (text : List ℕ) → AllByRecursion IsWithin (in_one_line text)
one_line [] = tt
one_line (b ∷ text) = (in_line_within b, one_line text)

-- a sentence is in no line of the margin
indented : (xs more : List ℕ) → AllByRecursion IsWithin xs → margin (32 ∷ 32 ∷ (xs ++ 10 ∷ more)) ≡ margin more
unfolding is_margin margin_behind
indented xs more h = skipped_line 32 xs more (λ e. omega (arith, e)) h

regrouped : (xs more : List ℕ) → (xs ++ 10 ∷ []) ++ more ≡ xs ++ 10 ∷ more
regrouped xs more = append_assoc xs (10 ∷ []) more

sentence_out : (s : Sentence) (more : List ℕ) → margin (sentence_text s ++ more) ≡ margin more
sentence_out s more =
    let text : List ℕ = in_one_line (string_bytes s.text) in
    ap (λ z. margin (32 ∷ 32 ∷ z)) (regrouped (in_one_line (string_bytes s.text)) more)
    ∙ indented (in_one_line (string_bytes s.text)) more (one_line (string_bytes s.text))

sentences_out : (sentences : List Sentence) (more : List ℕ) → margin (flat_map sentence_text sentences ++ more) ≡ margin more
sentences_out [] more = refl
sentences_out (s ∷ sentences) more =
    ap margin (append_assoc (sentence_text s) (flat_map sentence_text sentences) more)
    ∙ sentence_out s (flat_map sentence_text sentences ++ more)
    ∙ sentences_out sentences more

-- what stands behind a node's number, without its line feed
word : Indication → Bool → List ℕ
word Trusted false = codes " trusted"
word Suspected false = codes " suspected"
word Exposed false = codes " exposed"
word Trusted true = codes " trusted (no item)"
word Suspected true = codes " suspected (no item)"
word Exposed true = codes " exposed (no item)"

tested : (xs : List ℕ) → all xs ≡ true → AllByRecursion IsWithin xs
unfolding all
tested [] _ = tt
tested (b ∷ xs) h = go (b == 10) refl (λ e. tested xs e) h
  where
    go : (t : Bool) → (b == 10) ≡ t → (all xs ≡ true → AllByRecursion IsWithin xs) → (if t then false else all xs) ≡ true → AllByRecursion IsWithin (b ∷ xs)
    go true _ _ e = absurd cc
    go false f rest e = ((λ g. grind (arith, nat_tests)), rest e)

word_within : (i : Indication) (n : Bool) → AllByRecursion IsWithin (word i n)
unfolding all word
word_within Trusted false = tested (codes " trusted") refl
word_within Suspected false = tested (codes " suspected") refl
word_within Exposed false = tested (codes " exposed") refl
word_within Trusted true = tested (codes " trusted (no item)") refl
word_within Suspected true = tested (codes " suspected (no item)") refl
word_within Exposed true = tested (codes " exposed (no item)") refl

word_ends : (i : Indication) (n : Bool) → ending_of i n ≡ word i n ++ 10 ∷ []
unfolding word
word_ends Trusted false = refl
word_ends Suspected false = refl
word_ends Exposed false = refl
word_ends Trusted true = refl
word_ends Suspected true = refl
word_ends Exposed true = refl

digits_within : (ds : List ℕ) → AllDigits 10 ds → AllByRecursion IsWithin ds
digits_within [] _ = tt
digits_within (d ∷ ds) h = ((λ e. omega (arith, e, digit_from_value d h.0)), digits_within ds h.1)

both : (xs ys : List ℕ) → AllByRecursion IsWithin xs → AllByRecursion IsWithin ys → AllByRecursion IsWithin (xs ++ ys)
both [] ys _ h = h
both (x ∷ xs) ys k h = (k.0, both xs ys k.1 h)

starts : (d : ℕ) → 47 < d → is_margin 10 true d ≡ true
unfolding is_margin
starts d h = grind (arith, nat_tests)

-- a line that begins with a digit
line_kept : (ds ws more : List ℕ) → 0 < length ds → AllDigits 10 ds → AllByRecursion IsWithin ws → margin ((ds ++ (ws ++ 10 ∷ [])) ++ more) ≡ (ds ++ (ws ++ 10 ∷ [])) ++ margin more
unfolding margin_behind
line_kept [] ws more h _ _ = absurd (omega (arith, h))
line_kept (d ∷ ds) ws more _ k h =
    let range : 47 < d = omega (arith, digit_from_value d k.0) in
    let not_feed : IsWithin d = (λ e. omega (arith, e, digit_from_value d k.0)) in
    let all_within : AllByRecursion IsWithin (ds ++ ws) = both ds ws (digits_within ds k.1) h in
    let group : (ds ++ (ws ++ 10 ∷ [])) ++ more ≡ (ds ++ ws) ++ 10 ∷ more = ap (λ z. z ++ more) (sym (append_assoc ds ws (10 ∷ []))) ∙ regrouped (ds ++ ws) more in
    let ungroup : (ds ++ ws) ++ 10 ∷ margin more ≡ (ds ++ (ws ++ 10 ∷ [])) ++ margin more = sym (regrouped (ds ++ ws) (margin more)) ∙ ap (λ z. z ++ margin more) (append_assoc ds ws (10 ∷ [])) in
    step (is_margin 10 true d) d (margin_behind d true ((ds ++ (ws ++ 10 ∷ [])) ++ more)) (margin_behind d (is_margin 10 true d) ((ds ++ (ws ++ 10 ∷ [])) ++ more)) (starts d range)
    ∙ ap (λ z. d ∷ margin_behind d true z) group
    ∙ ap (λ z. d ∷ z) (kept_line d (ds ++ ws) more not_feed all_within)
    ∙ ap (λ z. d ∷ z) ungroup

line_of : ℕ → Indication → Bool → List ℕ
line_of n i none = decimal n ++ ending_of i none

row_kept : (n : ℕ) (i : Indication) (none : Bool) (more : List ℕ) → n < 2 ^ 64 → margin (line_of n i none ++ more) ≡ line_of n i none ++ margin more
unfolding line_of
row_kept n i none more h =
    let numeral = decimal_is_IsNumeral n h in
    let kept : margin ((decimal n ++ (word i none ++ 10 ∷ [])) ++ more) ≡ (decimal n ++ (word i none ++ 10 ∷ [])) ++ margin more = line_kept (decimal n) (word i none) more numeral.0.0 numeral.0.1 (word_within i none) in
    ap (λ z. margin ((decimal n ++ z) ++ more)) (word_ends i none) ∙ kept ∙ ap (λ z. (decimal n ++ z) ++ margin more) (sym (word_ends i none))

-- a node behind others
node_told : (n : NodeExplanation) (more : List ℕ) → n.node < 2 ^ 64 → margin (node_text n ++ more) ≡ row_line n ++ margin more
unfolding line_of
node_told n more h =
    ap margin (append_assoc (row_line n) (flat_map sentence_text n.sentences.items) more)
    ∙ row_kept n.node n.indication n.has_no_item (flat_map sentence_text n.sentences.items ++ more) h
    ∙ ap (λ z. row_line n ++ z) (sentences_out n.sentences.items more)

told : (nodes : List NodeExplanation) → AllByRecursion (λ n. n.node < 2 ^ 32) nodes → margin (flat_map node_text nodes) ≡ flat_map row_line nodes
unfolding margin_behind
told [] _ = refl
told (n ∷ nodes) h = node_told n (flat_map node_text nodes) (omega (arith, h.0)) ∙ ap (λ z. row_line n ++ z) (told nodes h.1)

by_recursion : (nodes : List NodeExplanation) → All (λ n. n.node < 2 ^ 32) nodes → AllByRecursion (λ n. n.node < 2 ^ 32) nodes
by_recursion [] h = tt
by_recursion (n ∷ nodes) h = (h 0 n (omega arith), by_recursion nodes (λ k d lt. h (suc k) d (omega (arith, lt))))

pub all_told : (nodes : List NodeExplanation) → All (λ n. n.node < 2 ^ 32) nodes → margin (flat_map node_text nodes) ≡ flat_map row_line nodes
all_told nodes h = told nodes (by_recursion nodes h)
