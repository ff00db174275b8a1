-- The laws of a program whose state is coded, and what keeps a step within the range of the states.
use Rattle.std.proofs.Common.{◌≡◌, ℕ, ◌<◌, ◌≤◌, ◌^◌, Bool, true, false, cond, List, [], ◌∷◌, ◌++◌, length, Some, Result, Ok, Err, refl, sym, ap, arith, length-append}
use Rattle.std.specs.Result.{result_ok}
use Rattle.std.specs.List.{filter}
use Rattle.std.proofs.lemmas.List.Elements.{All-append, All-filter, All-from_recursion}
use Rattle.std.proofs.lemmas.List.Sums.{count_by-le-length, length-filter}
use Rattle.log_chain.specs.Fields.{IsListUpTo}
use Rattle.log_chain.proofs.WholeTexts.{IsWhole, to_the_end}
use Rattle.replay_verifier.specs.declared.limits.TheConstants.{LONGEST_STATE}
use Rattle.replay_verifier.specs.declared.program.Step.{Step}
use Rattle.replay_verifier.specs.Meaning.{Happening, IsHappening, Lawful}
use Rattle.state_codec.specs.declared.fault.CodeFault.TheVariants.{Trailing}
use Rattle.state_codec.specs.Codings.{Coding, IsCoding, read_whole}
use Rattle.state_codec.specs.CodingLaws.{as_field}
use Rattle.state_codec.specs.CodedPrograms.{coded_program}

-- What was read, if it is some value.
was_ok : {S E : Type 0} (r : Result S E) (s : S) → result_ok r ≡ Some s → r ≡ Ok s
was_ok (Ok x) s e = ap Ok cc
was_ok (Err f) s e = absurd cc

-- A program is lawful if its coding is, no text is too long, and it begins and stays within the range.
pub coded_lawful : {S : Type 0} (c : Coding S) (IsState : S → Type 0) (start : ℕ → S) (step : ℕ → S → Happening → Step S)
    → IsCoding c IsState → c.longest ≤ LONGEST_STATE → ((me : ℕ) → me < 2 ^ 32 → IsState (start me))
    → ((me : ℕ) (s : S) (h : Happening) → me < 2 ^ 32 → IsState s → IsHappening h → IsState (step me s h).state)
    → Lawful IsState (coded_program c start step)
coded_lawful {S} c IsState start step coding few starts steps =
    let whole : IsWhole (read_whole c) c.text IsState = to_the_end Trailing (as_field coding) in
    record {
      starts = starts;
      steps = steps;
      again = λ s fits. ap result_ok (whole.again s fits);
      only = λ bytes s fits e. let t = whole.takes bytes s fits (was_ok (read_whole c bytes) s e) in (t.1, sym t.0);
      short = λ s fits. omega (arith, coding.short s fits, few);
    }

-- ---- steps that stay within the range

-- What a step makes by a test stays within the range, if the state that the test chooses does.
pub either_stays : {S : Type 0} (IsState : S → Type 0) (test : Bool) (x y : Step S) → (test ≡ true → IsState x.state) → (test ≡ false → IsState y.state) → IsState (cond test x y).state
either_stays IsState true x y left right = left refl
either_stays IsState false x y left right = right refl

-- An empty list is within its range.
pub empty_stays : {A : Type 0} (most : ℕ) (Fits : A → Type 0) → IsListUpTo most Fits []
empty_stays most Fits = record { each = All-from_recursion Fits [] tt; count = omega arith }

-- A list stays within its range with only the items that a test keeps.
pub filter_stays : {A : Type 0} (most : ℕ) (Fits : A → Type 0) (test : A → Bool) (xs : List A) → IsListUpTo most Fits xs → IsListUpTo most Fits (filter test xs)
filter_stays most Fits test xs fits = record { each = All-filter test Fits xs fits.each; count = omega (arith, length-filter test xs, count_by-le-length test xs, fits.count) }

-- A list stays within its range with one item more, if there is room and the item fits.
pub push_stays : {A : Type 0} (most : ℕ) (Fits : A → Type 0) (xs : List A) (x : A) → length xs < most → Fits x → IsListUpTo most Fits xs → IsListUpTo most Fits (xs ++ x ∷ [])
push_stays most Fits xs x room one fits = record { each = All-append Fits xs (x ∷ []) fits.each (All-from_recursion Fits (x ∷ []) (one, tt)); count = omega (arith, length-append xs (x ∷ [])) }
