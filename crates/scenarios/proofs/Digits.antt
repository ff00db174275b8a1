-- Numbers that are read and written.
use Rattle.std.proofs.Common.{◌≡◌, ◌<◌, ◌≤◌, ◌^◌, ◌&&◌, leb, ℕ, Bool, true, false, List, Some, None, Ok, Err, refl, sym, ap, ◌∙◌, arith}
use Rattle.std.specs.Fmt.{decimal}
use Rattle.std.specs.Str.{bytes_eq}
use Rattle.std.specs.Str.Parse.{digits_value}
use Rattle.std.proofs.lemmas.Bool.{le-leb, leb-true, lt-leb}
use Rattle.std.proofs.lemmas.Slice.Eq.{bytes_eq-Decides}
use Rattle.scenarios.specs.declared.fault.ScenarioFault.TheVariants.{BadScenario}
use Rattle.scenarios.specs.Instructions.{number_to}
use Rattle.plain_numbers.specs.Decimals.{IsRead}

-- ---- the number of a word

equal : (x y : List ℕ) → x ≡ y → bytes_eq x y ≡ true
equal x y h = (bytes_eq-Decides x y).1 h

pub number_is : (most n : ℕ) (word : List ℕ) → IsRead (Some n) word → n ≤ most → Ok n ≡ number_to most word
unfolding number_to
number_is most n word h small =
    let fits : leb (digits_value 10 word) most ≡ true = le-leb _ _ (omega (arith, h.0)) in
    let same : bytes_eq (decimal (digits_value 10 word)) word ≡ true = equal _ _ (ap decimal h.0 ∙ h.1) in
    rw (fits, same) (ap Ok (sym h.0))

pub number_above : (most n : ℕ) (word : List ℕ) → IsRead (Some n) word → most < n → Err BadScenario ≡ number_to most word
unfolding number_to
number_above most n word h large =
    let above : leb (digits_value 10 word) most ≡ false = lt-leb _ _ (omega (arith, h.0)) in
    rw above refl

unread : (most : ℕ) (word : List ℕ) (fits same : Bool) → leb (digits_value 10 word) most ≡ fits → bytes_eq (decimal (digits_value 10 word)) word ≡ same → IsRead None word → most < 2 ^ 64 → (fits && same) ≡ false
unread most word false same a b h small = refl
unread most word true false a b h small = refl
unread most word true true a b h small =
    let below = leb-true _ _ a in
    absurd (h (digits_value 10 word) (omega (arith, below)) ((bytes_eq-Decides _ _).0 b))

pub no_number : (most : ℕ) (word : List ℕ) → IsRead None word → most < 2 ^ 64 → Err BadScenario ≡ number_to most word
unfolding number_to
no_number most word h small = let none = unread most word _ _ refl refl h small in rw none refl
