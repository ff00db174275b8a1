-- What is written in pieces.
use Rattle.std.proofs.Common.{◌≡◌, ℕ, ◌+◌, ◌<◌, List, [], ◌∷◌, ◌++◌, Option, length, get_or, take, sym, ap, subst, ◌∙◌, append_assoc}
use Rattle.std.specs.Io.KnownBytes.{Appends}
use Rattle.std.specs.List.{flat_map}
use Rattle.std.proofs.KnownBytes.{Appends-trans}
use Rattle.std.proofs.lemmas.List.{flat_map_more, take_more}
use Rattle.evidence.specs.within.Pieces.{Sends}

-- more is put behind what was gathered
pub sent_more : (a b c : Option (List ℕ)) (gathered left text more : List ℕ) → Sends a b gathered text → Sends b c left (gathered ++ more) → Sends a c left (text ++ more)
sent_more a b c gathered left text more (first, went, is) (second, goes, rest) =
    let whole : text ++ more ≡ (first ++ second) ++ left =
    ap (λ (t : List ℕ). t ++ more) is ∙ append_assoc first gathered more ∙ ap (λ (t : List ℕ). first ++ t) rest ∙ sym (append_assoc first second left) in
    (first ++ second, Appends-trans a b c first second went goes, whole)

-- the last piece is written
pub sent_all : (a b c : Option (List ℕ)) (left text : List ℕ) → Sends a b left text → Appends b c left → Appends a c text
sent_all a b c left text (first, went, is) goes = subst (Appends a c) (sym is) (Appends-trans a b c first left went goes)

-- the text with one item more
pub one_more : {X : Type 0} (f : X → List ℕ) (front : List ℕ) (xs : List X) (n : ℕ) (x : X) → n < length xs → x ≡ get_or xs n x → (front ++ flat_map f (take n xs)) ++ f x ≡ front ++ flat_map f (take (n + 1) xs)
one_more {X} f front xs n x inside is =
    flat_map_more f front (take n xs) x ∙ ap (λ (y : X). front ++ flat_map f (take n xs ++ y ∷ [])) is ∙ ap (λ (l : List X). front ++ flat_map f l) (sym (take_more xs n x inside))
