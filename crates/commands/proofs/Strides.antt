-- The front of a text that is taken off part by part.
use Rattle.std.proofs.Common.{◌≡◌, ◌∙◌, ◌%◌, ◌+◌, ◌-◌, ◌≤◌, List, ℕ, ◌++◌, ap, arith, drop, length, min, sym, take, take-append-drop}
use Rattle.std.proofs.lemmas.List.{drop-drop, drop-take, length-take-le, take-take}

-- what is left of a line, of which a stride is taken
pub cut_front : (xs : List ℕ) (left stride : ℕ) → stride ≤ left → take stride xs ++ take (left - stride) (drop stride xs) ≡ take left xs
cut_front xs left stride within =
    let more : stride + (left - stride) ≡ left = omega (arith, within) in
    ap (λ (l : List ℕ). take stride xs ++ l) (sym (drop-take stride (left - stride) xs) ∙ ap (λ (n : ℕ). drop stride (take n xs)) more)
    ∙ ap (λ (l : List ℕ). l ++ drop stride (take left xs)) (sym (take-take stride left xs within)) ∙ take-append-drop stride (take left xs)

-- a stride is of an even number of digits, or all that are left
pub even_stride : (xs : List ℕ) (left stride : ℕ) → left ≤ length xs → stride ≡ min left 4194304 → length (take left xs) % 2 ≡ 0 → length (take stride xs) % 2 ≡ 0
even_stride xs left stride fits is even =
    let all : length (take left xs) ≡ left = length-take-le left xs fits in
    let some : length (take stride xs) ≡ stride = length-take-le stride xs (omega (arith, is, fits)) in
    omega (arith, all, some, is, even)

-- what is left of the text
pub rest_is : (xs now : List ℕ) (count left stride : ℕ) → left ≤ count → stride ≤ left → now ≡ drop (count - left) xs → drop stride now ≡ drop (count - (left - stride)) xs
rest_is xs now count left stride few within is =
    let more : (count - left) + stride ≡ count - (left - stride) = omega (arith, few, within) in
    ap (drop stride) is ∙ drop-drop stride (count - left) xs ∙ ap (λ (n : ℕ). drop n xs) more
