-- What is written of a node tells what is said of it.
use Rattle.std.proofs.Common.{◌≡◌, ℕ, Bool, true, false, List, [], ◌∷◌, ◌++◌, append_assoc, codes, decimal, refl, sym, ◌∙◌, ap, arith}
use Rattle.evidence_set.specs.declared.indication.Indication.{Indication}
use Rattle.evidence_set.specs.declared.indication.Indication.TheVariants.{Trusted, Suspected, Exposed}
use Rattle.evidence_set.specs.Names.{name_of}
use Rattle.answers.specs.declared.standings.Standing.{Standing}
use Rattle.answers.specs.declared.style.Style.{Style}
use Rattle.answers.specs.declared.style.Style.TheVariants as style
use Rattle.answers.specs.Json.{indication_members, known_member, literal_of}
use Rattle.answers.specs.Texts.{StandingsAreTold, standing_text}

behind : (front xs ys : List ℕ) → front ++ xs ≡ front ++ ys → xs ≡ ys
behind [] xs ys h = h
behind (n ∷ front) xs ys h =
    let same : front ++ xs ≡ front ++ ys = cc in
    behind front xs ys same

abbrev first : List ℕ → ℕ
first [] = 0
first (n ∷ ns) = n

-- the words differ in their first letters
same_word : (x y : List ℕ) (a b : Indication) → name_of a ++ x ≡ name_of b ++ y → a ≡ b
same_word x y Trusted Trusted h = refl
same_word x y Trusted Suspected h = let e : 116 ≡ 115 = ap first h in absurd (omega (arith, e))
same_word x y Trusted Exposed h = let e : 116 ≡ 101 = ap first h in absurd (omega (arith, e))
same_word x y Suspected Trusted h = let e : 115 ≡ 116 = ap first h in absurd (omega (arith, e))
same_word x y Suspected Suspected h = refl
same_word x y Suspected Exposed h = let e : 115 ≡ 101 = ap first h in absurd (omega (arith, e))
same_word x y Exposed Trusted h = let e : 101 ≡ 116 = ap first h in absurd (omega (arith, e))
same_word x y Exposed Suspected h = let e : 101 ≡ 115 = ap first h in absurd (omega (arith, e))
same_word x y Exposed Exposed h = refl

-- and so do the literals
same_literal : (end : List ℕ) (a b : Bool) → literal_of a ++ end ≡ literal_of b ++ end → a ≡ b
same_literal end true true h = refl
same_literal end true false h = let e : 116 ≡ 102 = ap first h in absurd (omega (arith, e))
same_literal end false true h = let e : 102 ≡ 116 = ap first h in absurd (omega (arith, e))
same_literal end false false h = refl

-- behind what is written before the word, whatever is written behind it
word_between : (front x y : List ℕ) (a b : Indication) → (front ++ name_of a) ++ x ≡ (front ++ name_of b) ++ y → a ≡ b
word_between front x y a b h = same_word x y a b (behind front (name_of a ++ x) (name_of b ++ y) (sym (append_assoc front (name_of a) x) ∙ h ∙ append_assoc front (name_of b) y))

-- in an object the literal stands behind the word
grouped : (front word quote member end : List ℕ) → (((front ++ word) ++ quote) ++ member) ++ end ≡ (front ++ word) ++ (quote ++ (member ++ end))
grouped front word quote member end = append_assoc ((front ++ word) ++ quote) member end ∙ append_assoc (front ++ word) quote (member ++ end)

object_word : (front quote member_a member_b end : List ℕ) (a b : Indication) → (((front ++ name_of a) ++ quote) ++ member_a) ++ end ≡ (((front ++ name_of b) ++ quote) ++ member_b) ++ end → a ≡ b
object_word front quote member_a member_b end a b h =
    word_between front (quote ++ (member_a ++ end)) (quote ++ (member_b ++ end)) a b (sym (grouped front (name_of a) quote member_a end) ∙ h ∙ grouped front (name_of b) quote member_b end)

object_member : (front quote member_a member_b end : List ℕ) (a b : Indication) → (((front ++ name_of a) ++ quote) ++ member_a) ++ end ≡ (((front ++ name_of b) ++ quote) ++ member_b) ++ end → member_a ++ end ≡ member_b ++ end
object_member front quote member_a member_b end a b h =
    let word : b ≡ a = sym (object_word front quote member_a member_b end a b h) in
    let ahead : List ℕ = (front ++ name_of a) ++ quote in
    let same : (ahead ++ member_a) ++ end ≡ (ahead ++ member_b) ++ end = h ∙ ap (λ (i : Indication). (((front ++ name_of i) ++ quote) ++ member_b) ++ end) word in
    behind ahead (member_a ++ end) (member_b ++ end) (sym (append_assoc ahead member_a end) ∙ same ∙ append_assoc ahead member_b end)

literal_behind : (name end : List ℕ) (a b : Bool) → (name ++ literal_of a) ++ end ≡ (name ++ literal_of b) ++ end → a ≡ b
literal_behind name end a b h = same_literal end a b (behind name (literal_of a ++ end) (literal_of b ++ end) (sym (append_assoc name (literal_of a) end) ∙ h ∙ append_assoc name (literal_of b) end))

-- what stands before a node's word
before : ℕ → List ℕ
before node = codes "{" ++ (codes "\"node\":" ++ decimal node ++ codes ",\"indication\":\"")

opened : (brace number blank word end : List ℕ) → brace ++ (((number ++ blank) ++ word) ++ end) ≡ ((brace ++ (number ++ blank)) ++ word) ++ end
opened brace number blank word end =
    sym (append_assoc brace ((number ++ blank) ++ word) end) ∙ ap (λ (l : List ℕ). l ++ end) (sym (append_assoc brace (number ++ blank) word))

object_text : (node : ℕ) (x : Standing) → standing_text style.Json (node, x) ≡ (((before node ++ name_of x.indication) ++ codes "\"") ++ known_member x.known) ++ codes "}"
unfolding before indication_members
object_text node x =
    ap (λ (l : List ℕ). (l ++ known_member x.known) ++ codes "}") (opened (codes "{") (codes "\"node\":" ++ decimal node) (codes ",\"indication\":\"") (name_of x.indication) (codes "\""))

object_same : (node : ℕ) (a b : Standing) → standing_text style.Json (node, a) ≡ standing_text style.Json (node, b)
    → (((before node ++ name_of a.indication) ++ codes "\"") ++ known_member a.known) ++ codes "}" ≡ (((before node ++ name_of b.indication) ++ codes "\"") ++ known_member b.known) ++ codes "}"
object_same node a b h = sym (object_text node a) ∙ h ∙ object_text node b

known_told : (node : ℕ) (a b : Standing) → standing_text style.Json (node, a) ≡ standing_text style.Json (node, b) → a.known ≡ b.known
unfolding known_member
known_told node a b h =
    literal_behind (codes ",\"known\":") (codes "}") a.known b.known (object_member (before node) (codes "\"") (known_member a.known) (known_member b.known) (codes "}") a.indication b.indication (object_same node a b h))

indication_told : (s : Style) (node : ℕ) (a b : Standing) → standing_text s (node, a) ≡ standing_text s (node, b) → a.indication ≡ b.indication
indication_told style.Lines node a b h = word_between (decimal node ++ codes " ") (codes "\n") (codes "\n") a.indication b.indication h
indication_told style.Json node a b h = object_word (before node) (codes "\"") (known_member a.known) (known_member b.known) (codes "}") a.indication b.indication (object_same node a b h)

pub told : StandingsAreTold
told = record { indication = indication_told; known = known_told }
