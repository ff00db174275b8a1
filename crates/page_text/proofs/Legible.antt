-- Of two texts a reader sees two.
use Rattle.std.proofs.Common.{◌≡◌, ◌<◌, ◌/◌, ◌%◌, ◌++◌, ℕ, List, [], ◌∷◌, All, Bool, true, false, if◌then◌else◌, refl, ap, sym, ◌∙◌, arith}
use Rattle.std.proofs.lemmas.Bool.Decides.{nat_tests}
use Rattle.std.specs.List.{AllByRecursion}
use Rattle.page_text.specs.Escaping.{digit, is_digits, legible, seen}
use Rattle.page_text.proofs.Inert.{by_recursion}

-- a digit is of one number
digit_once : (n m : ℕ) → n < 16 → m < 16 → digit n ≡ digit m → n ≡ m
digit_once n m h k e = grind (arith, nat_tests)

low : (b : ℕ) → b % 16 < 16
low b = omega arith

high : (b : ℕ) → b < 256 → b / 16 < 16
high b h = omega (arith, h)

-- two digits are of one byte
byte_once : (x y : ℕ) → x < 256 → y < 256 → digit (x / 16) ≡ digit (y / 16) → digit (x % 16) ≡ digit (y % 16) → x ≡ y
byte_once x y h k e f =
    let tens : x / 16 ≡ y / 16 = digit_once (x / 16) (y / 16) (high x h) (high y k) e in
    let ones : x % 16 ≡ y % 16 = digit_once (x % 16) (y % 16) (low x) (low y) f in
    omega (arith, tens, ones)

head : ℕ → List ℕ → ℕ
head d [] = d
head d (x ∷ xs) = x

tail : List ℕ → List ℕ
tail [] = []
tail (x ∷ xs) = xs

-- how a byte and what is behind it are seen
shown : Bool → ℕ → List ℕ → List ℕ
shown true b more = 92 ∷ 120 ∷ digit (b / 16) ∷ digit (b % 16) ∷ more
shown false b more = b ∷ more

plain_backslash : (b : ℕ) → is_digits b ≡ false → b ≡ 92 → ⊥
plain_backslash b h e = grind (arith, nat_tests)

first_once : (t u : Bool) (x y : ℕ) (xs ys : List ℕ) → is_digits x ≡ t → is_digits y ≡ u → x < 256 → y < 256 → shown t x xs ≡ shown u y ys → x ≡ y
unfolding head shown tail
first_once true true x y xs ys _ _ h k e = byte_once x y h k (ap (λ z. head 0 (tail (tail z))) e) (ap (λ z. head 0 (tail (tail (tail z)))) e)
first_once true false x y xs ys _ q h k e = absurd (plain_backslash y q (sym (ap (head 0) e)))
first_once false true x y xs ys p _ h k e = absurd (plain_backslash x p (ap (head 0) e))
first_once false false x y xs ys _ _ h k e = ap (head 0) e

rest_once : (t u : Bool) (x y : ℕ) (xs ys : List ℕ) → t ≡ u → shown t x xs ≡ shown u y ys → xs ≡ ys
unfolding tail shown
rest_once true true x y xs ys _ e = ap (λ z. tail (tail (tail (tail z)))) e
rest_once false false x y xs ys _ e = ap tail e
rest_once true false x y xs ys f e = absurd cc
rest_once false true x y xs ys f e = absurd cc

seen_as : (b : ℕ) (more : List ℕ) → seen b ++ more ≡ shown (is_digits b) b more
unfolding seen shown
seen_as b more = go (is_digits b)
  where
    go : (t : Bool) → (if t then 92 ∷ 120 ∷ digit (b / 16) ∷ digit (b % 16) ∷ [] else b ∷ []) ++ more ≡ shown t b more
    go true = refl
    go false = refl

something : (t : Bool) (b : ℕ) (more : List ℕ) → shown t b more ≡ [] → ⊥
unfolding shown
something true b more e = absurd cc
something false b more e = absurd cc

once : (xs ys : List ℕ) → AllByRecursion (λ b. b < 256) xs → AllByRecursion (λ b. b < 256) ys → legible xs ≡ legible ys → xs ≡ ys
once [] [] _ _ _ = refl
once [] (y ∷ ys) _ _ e = absurd (something (is_digits y) y (legible ys) (sym (e ∙ seen_as y (legible ys))))
once (x ∷ xs) [] _ _ e = absurd (something (is_digits x) x (legible xs) (sym (seen_as x (legible xs)) ∙ e))
once (x ∷ xs) (y ∷ ys) h k e =
    let f : shown (is_digits x) x (legible xs) ≡ shown (is_digits y) y (legible ys) = sym (seen_as x (legible xs)) ∙ e ∙ seen_as y (legible ys) in
    let same : x ≡ y = first_once (is_digits x) (is_digits y) x y (legible xs) (legible ys) refl refl h.0 k.0 f in
    let more : xs ≡ ys = once xs ys h.1 k.1 (rest_once (is_digits x) (is_digits y) x y (legible xs) (legible ys) (ap is_digits same) f) in
    ap (λ z. z ∷ xs) same ∙ ap (λ z. y ∷ z) more

pub legible_once : (xs ys : List ℕ) → All (λ b. b < 256) xs → All (λ b. b < 256) ys → legible xs ≡ legible ys → xs ≡ ys
legible_once xs ys h k e = once xs ys (by_recursion xs h) (by_recursion ys k) e
