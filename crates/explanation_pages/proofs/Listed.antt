-- Texts one behind the other.
use Rattle.std.proofs.Common.{◌≡◌, ◌<◌, ◌+◌, ◌∙◌, ◌++◌, ◌∷◌, Bool, true, false, ℕ, List, [], ap, append_assoc, get_or, length, refl, sym, take}
use Rattle.std.proofs.lemmas.List.{append-nil, take_more}
use Rattle.std.specs.List.{flat_map}
use Rattle.evidence_set.specs.declared.indication.Indication.{Indication}
use Rattle.evidence_set.specs.declared.indication.Indication.TheVariants.{Trusted, Suspected, Exposed}
use Rattle.evidence_set.specs.Names.{name_of}
use Rattle.page_text.specs.Escaping.{escaped, seen, spelled}
use Rattle.page_text.specs.Pages.{head_of}
use Rattle.sentences.specs.declared.basis.Basis.{Basis}
use Rattle.sentences.specs.declared.explanation.NodeExplanation.{NodeExplanation}
use Rattle.sentences.specs.Texts.{mark_of}
use Rattle.explanation_pages.specs.Shown.{Shows, entries_text, front_text, title_text}
use Rattle.explanation_pages.specs.within.Growing.{Lists}

-- two and three texts behind one
pub two_behind : (old one two a b : List ℕ) → one ≡ old ++ a → two ≡ one ++ b → two ≡ old ++ (a ++ b)
two_behind old one two a b first second = second ∙ ap (λ (t : List ℕ). t ++ b) first ∙ append_assoc old a b

pub three_behind : (old one two three a b c : List ℕ) → one ≡ old ++ a → two ≡ one ++ b → three ≡ two ++ c → three ≡ old ++ (a ++ (b ++ c))
three_behind old one two three a b c first second third = two_behind old one three a (b ++ c) first (two_behind one two three b c second third)

-- a text with another value of what it is made of
pub of_same : (old now value other : List ℕ) (f : List ℕ → List ℕ) → now ≡ old ++ f value → value ≡ other → now ≡ old ++ f other
of_same old now value other f is same = is ∙ ap (λ (v : List ℕ). old ++ f v) same

-- a page to which was added twice, and the list of the nodes with what begins and what ends it
pub grown : (old one two : List ℕ) → ((more : List ℕ) × (one ≡ old ++ more)) → ((more : List ℕ) × (two ≡ one ++ more)) → ((more : List ℕ) × (two ≡ old ++ more))
grown old one two first second = (first.0 ++ second.0, two_behind old one two first.0 second.0 first.1 second.1)

pub listed : (old one two three : List ℕ) (nodes : List NodeExplanation) → ((more : List ℕ) × (one ≡ old ++ more)) → two ≡ one ++ entries_text nodes → ((more : List ℕ) × (three ≡ two ++ more)) → Lists old three nodes
listed old one two three nodes begun entries ended = record { before = begun.0; behind = ended.0; is = three_behind old one two three begun.0 (entries_text nodes) ended.0 begun.1 entries ended.1 }

-- the texts of the first of a list, and one more
flat_more : {A : Type 0} (f : A → List ℕ) (xs : List A) (x : A) → flat_map f (xs ++ x ∷ []) ≡ flat_map f xs ++ f x
flat_more f [] x = append-nil (f x)
flat_more f (y ∷ ys) x = ap (λ (t : List ℕ). f y ++ t) (flat_more f ys x) ∙ sym (append_assoc (f y) (flat_map f ys) (f x))

pub one_more : {A : Type 0} (f : A → List ℕ) (old before now : List ℕ) (xs : List A) (i : ℕ) (x : A) → before ≡ old ++ flat_map f (take i xs) → i < length xs → x ≡ get_or xs i x → now ≡ before ++ f x → now ≡ old ++ flat_map f (take (i + 1) xs)
one_more {A} f old before now xs i x so_far below at is =
    let next : flat_map f (take (i + 1) xs) ≡ flat_map f (take i xs) ++ f (get_or xs i x) = ap (flat_map f) (take_more xs i x below) ∙ flat_more f (take i xs) (get_or xs i x) in
    is ∙ ap (λ (t : List ℕ). t ++ f x) so_far ∙ append_assoc old (flat_map f (take i xs)) (f x) ∙ ap (λ (y : A). old ++ (flat_map f (take i xs) ++ f y)) at ∙ ap (λ (t : List ℕ). old ++ t) (sym next)

-- texts one behind the other, in other groups
regroup : (f m b e h o : List ℕ) → ((f ++ m) ++ (b ++ (e ++ h))) ++ o ≡ f ++ ((m ++ b) ++ (e ++ (h ++ o)))
regroup f m b e h o = simp append_assoc

parts : (head h front f middle body before entries behind list more end text : List ℕ) → head ≡ h → front ≡ head ++ f → body ≡ front ++ middle → list ≡ body ++ (before ++ (entries ++ behind)) → end ≡ list ++ more → text ≡ end
    → text ≡ h ++ (f ++ ((middle ++ before) ++ (entries ++ (behind ++ more))))
parts head h front f middle body before entries behind list more end text at_head fronted grown listed ended is =
    let l : List ℕ = before ++ (entries ++ behind) in
    let to_body : body ≡ head ++ (f ++ middle) = two_behind head front body f middle fronted grown in
    let to_list : list ≡ head ++ ((f ++ middle) ++ l) = two_behind head body list (f ++ middle) l to_body listed in
    let to_end : end ≡ head ++ (((f ++ middle) ++ l) ++ more) = two_behind head list end ((f ++ middle) ++ l) more to_list ended in
    let rest : List ℕ = f ++ ((middle ++ before) ++ (entries ++ (behind ++ more))) in
    is ∙ to_end ∙ ap (λ (t : List ℕ). head ++ t) (regroup f middle before entries behind more) ∙ ap (λ (t : List ℕ). t ++ rest) at_head

-- a page of its parts
pub shown : (basis : Basis) (summary style title head front middle body list end text : List ℕ) (nodes : List NodeExplanation)
    → title ≡ title_text basis summary → head ≡ head_of title style → front ≡ head ++ front_text basis summary → body ≡ front ++ middle → Lists body list nodes → ((more : List ℕ) × (end ≡ list ++ more)) → text ≡ end
    → Shows basis summary nodes text
shown basis summary style title head front middle body list end text nodes named begun fronted grown lists ended is = record {
  style = style;
  between = middle ++ lists.before;
  behind = lists.behind ++ ended.0;
  is = parts head (head_of (title_text basis summary) style) front (front_text basis summary) middle body lists.before (entries_text nodes) lists.behind list ended.0 end text (begun ∙ ap (λ (t : List ℕ). head_of t style) named) fronted grown
      lists.is ended.1 is;
}

-- what is said of a node stands as it is
plain_name : (i : Indication) → escaped (name_of i) ≡ name_of i
unfolding spelled seen
plain_name Trusted = refl
plain_name Suspected = refl
plain_name Exposed = refl

plain_mark : (b : Bool) → escaped (mark_of b) ≡ mark_of b
unfolding spelled seen
plain_mark true = refl
plain_mark false = refl

pub said : (i : Indication) (b : Bool) → escaped (name_of i) ++ (escaped (mark_of b) ++ []) ≡ name_of i ++ mark_of b
said i b = ap (λ (t : List ℕ). t ++ (escaped (mark_of b) ++ [])) (plain_name i) ∙ ap (λ (t : List ℕ). name_of i ++ t) (append-nil (escaped (mark_of b)) ∙ plain_mark b)
