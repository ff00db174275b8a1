-- Lines that are written are read.
use Rattle.std.proofs.Common.{◌≡◌, ◌<◌, ◌≤◌, ◌^◌, ◌==◌, ◌&&◌, ltb, leb, not, ℕ, Bool, true, false, cond, List, [], ◌∷◌, ◌++◌, Result, Ok, refl, sym, ap, ◌∙◌, append_assoc, arith}
use Rattle.std.specs.Fmt.{decimal}
use Rattle.std.specs.Int.{IsInRange}
use Rattle.std.specs.List.{All, list_all}
use Rattle.std.specs.Prelude.{codes}
use Rattle.std.proofs.lemmas.Bool.{and_from, and_parts, le-leb, leb-true, lt-ltb, ltb-true, ne_eqb, not_from_false}
use Rattle.std.proofs.lemmas.Fmt.{decimal_is_IsNumeral}
use Rattle.std.proofs.lemmas.List.Elements.{All-from_get_or, All-weaker}
use Rattle.std.proofs.lemmas.List.Folds.{list_all-append}
use Rattle.std.proofs.lemmas.List.Splits.{slice_split_at, slice_split_none}
use Rattle.std.proofs.lemmas.List.Sums.{AllPass-from_list_all, list_all-from_AllPass}
use Rattle.std.proofs.lemmas.Str.Parse.{digit_at}
use Rattle.outcome.specs.Outcome.{◌>>=◌}
use Rattle.scenarios.specs.declared.limits.TheConstants.{MOST_WITNESSES}
use Rattle.scenarios.specs.declared.fault.ScenarioFault.{ScenarioFault}
use Rattle.scenarios.specs.declared.instruction.Act.{Act}
use Rattle.scenarios.specs.declared.instruction.Act.TheVariants as act
use Rattle.scenarios.specs.declared.instruction.Kind.{Kind}
use Rattle.scenarios.specs.declared.instruction.Kind.TheVariants as kind
use Rattle.scenarios.specs.declared.instruction.Member.{Member}
use Rattle.scenarios.specs.declared.instruction.Instruction.{Instruction}
use Rattle.scenarios.specs.declared.instruction.Instruction.TheVariants as says
use Rattle.scenarios.specs.Scenarios.{Draft, is_skipped, line_taken, node_of, taken}
use Rattle.scenarios.specs.Spelling.{IsMoment, act_line, name_of, node_line, pair_line, triple_line}
use Rattle.scenarios.specs.Instructions.{happening_of, kind_of, member_of, number_to, pair_of, said_of, instruction_of, timer_of, triple_of, witnesses_of, words_of}
use Rattle.scenarios.proofs.Digits.{number_is}

-- ---- words

-- Digits and letters have codes from 48 on.
abbrev is_sign : ℕ → Bool
is_sign byte = leb 48 byte && ltb byte 128

abbrev is_word : List ℕ → Bool
is_word word = list_all is_sign word

abbrev is_line_byte : ℕ → Bool
is_line_byte byte = not (byte == 10) && ltb byte 128

abbrev pub is_line : List ℕ → Bool
is_line line = list_all is_line_byte line

sign : (byte : ℕ) → is_sign byte ≡ true → (48 ≤ byte) × (byte < 128)
sign byte h = let p = and_parts (leb 48 byte) (ltb byte 128) h in (leb-true 48 byte p.0, ltb-true byte 128 p.1)

signs : (word : List ℕ) → is_word word ≡ true → All (λ (byte : ℕ). is_sign byte ≡ true) word
signs word h = AllPass-from_list_all is_sign word h

no_blank : (word : List ℕ) → is_word word ≡ true → All (λ (byte : ℕ). (byte == 32) ≡ false) word
no_blank word h = All-weaker (λ (byte : ℕ). is_sign byte ≡ true) (λ (byte : ℕ). (byte == 32) ≡ false) (λ byte s. let p = sign byte s in ne_eqb byte 32 (λ e. omega (arith, p.0))) word (signs word h)

line_byte : (byte : ℕ) → is_sign byte ≡ true → is_line_byte byte ≡ true
line_byte byte s =
    let p = sign byte s in
    and_from (not (byte == 10)) (ltb byte 128) (not_from_false (byte == 10) (ne_eqb byte 10 (λ e. omega (arith, p.0)))) (lt-ltb byte 128 p.1)

word_fits : (word : List ℕ) → is_word word ≡ true → is_line word ≡ true
word_fits word h = list_all-from_AllPass is_line_byte word (All-weaker (λ (byte : ℕ). is_sign byte ≡ true) (λ (byte : ℕ). is_line_byte byte ≡ true) line_byte word (signs word h))

-- digits are a word
digit_sign : (byte : ℕ) → IsInRange 48 57 byte → is_sign byte ≡ true
digit_sign byte h = and_from (leb 48 byte) (ltb byte 128) (le-leb 48 byte h.0) (lt-ltb byte 128 (omega (arith, h.1)))

decimal_word : (n : ℕ) → n < 2 ^ 64 → is_word (decimal n) ≡ true
decimal_word n h =
    let is = decimal_is_IsNumeral n h in
    list_all-from_AllPass is_sign (decimal n) (All-from_get_or (λ (byte : ℕ). is_sign byte ≡ true) (decimal n) 0 (λ i within. digit_sign _ (digit_at (decimal n) i is.0.1 within)))

number_read : (most n : ℕ) → n ≤ most → n < 2 ^ 64 → number_to most (decimal n) ≡ Ok n
number_read most n h small = let is = decimal_is_IsNumeral n small in sym (number_is most n (decimal n) (is.1, refl) h)

name_word : (k : Kind) → is_word (name_of k) ≡ true
name_word kind.Honest = refl
name_word kind.Fork = refl
name_word kind.Mute = refl
name_word kind.Wrong = refl

kind_read : (k : Kind) → kind_of (name_of k) ≡ Ok k
unfolding kind_of
kind_read kind.Honest = refl
kind_read kind.Fork = refl
kind_read kind.Mute = refl
kind_read kind.Wrong = refl

-- ---- words in a line

pair_fits : (verb number : List ℕ) → is_word verb ≡ true → is_word number ≡ true → is_line (verb ++ 32 ∷ number) ≡ true
pair_fits verb number v n = list_all-append is_line_byte verb (32 ∷ number) ∙ and_from (is_line verb) (is_line (32 ∷ number)) (word_fits verb v) (word_fits number n)

triple_fits : (verb number word : List ℕ) → is_word verb ≡ true → is_word number ≡ true → is_word word ≡ true → is_line (verb ++ 32 ∷ (number ++ 32 ∷ word)) ≡ true
triple_fits verb number word v n w =
    list_all-append is_line_byte verb (32 ∷ (number ++ 32 ∷ word)) ∙ and_from (is_line verb) (is_line (32 ∷ (number ++ 32 ∷ word))) (word_fits verb v) (pair_fits number word n w)

one_word : (word : List ℕ) → is_word word ≡ true → words_of word ≡ word ∷ []
one_word word h = slice_split_none (λ (byte : ℕ). byte == 32) word (no_blank word h)

word_before : (word rest : List ℕ) (words : List (List ℕ)) → is_word word ≡ true → words_of rest ≡ words → words_of (word ++ 32 ∷ rest) ≡ word ∷ words
word_before word rest words h more = slice_split_at (λ (byte : ℕ). byte == 32) word 32 rest (no_blank word h) refl ∙ ap (λ (parts : List (List ℕ)). word ∷ parts) more

two_words : (verb number : List ℕ) → is_word verb ≡ true → is_word number ≡ true → words_of (verb ++ 32 ∷ number) ≡ verb ∷ number ∷ []
two_words verb number v n = word_before verb number (number ∷ []) v (one_word number n)

three_words : (verb number word : List ℕ) → is_word verb ≡ true → is_word number ≡ true → is_word word ≡ true → words_of (verb ++ 32 ∷ (number ++ 32 ∷ word)) ≡ verb ∷ number ∷ word ∷ []
three_words verb number word v n w = word_before verb (number ++ 32 ∷ word) (number ∷ word ∷ []) v (two_words number word n w)

-- ---- a text that is one line, which says something

pub record IsLineOf (text : List ℕ) (st : Instruction) : Type 0 where
  pub line : List ℕ
  pub ends : (more : List ℕ) → text ++ more ≡ line ++ 10 ∷ more
  pub plain : is_line line ≡ true
  pub says : (d : Draft) → line_taken d line ≡ taken d st

line_says : (line : List ℕ) (st : Instruction) → is_skipped line ≡ false → instruction_of line ≡ Ok st → (d : Draft) → line_taken d line ≡ taken d st
unfolding line_taken
line_says line st not_skipped is d =
    ap (λ (b : Bool). cond b (Ok d) (instruction_of line >>= taken d)) not_skipped ∙ ap (λ (r : Result Instruction ScenarioFault). r >>= taken d) is

pair_ends : (verb number more : List ℕ) → (verb ++ 32 ∷ number ++ 10 ∷ []) ++ more ≡ (verb ++ 32 ∷ number) ++ 10 ∷ more
pair_ends verb number more = simp append_assoc

triple_ends : (verb number word more : List ℕ) → (verb ++ 32 ∷ number ++ 32 ∷ word ++ 10 ∷ []) ++ more ≡ (verb ++ 32 ∷ (number ++ 32 ∷ word)) ++ 10 ∷ more
triple_ends verb number word more = simp append_assoc

pair_is : (verb : List ℕ) (number : ℕ) (st : Instruction) → is_word verb ≡ true → ((more : List ℕ) → is_skipped (verb ++ more) ≡ false) → number < 2 ^ 64 → pair_of verb (decimal number) ≡ Ok st → IsLineOf (pair_line verb number) st
unfolding instruction_of
pair_is verb number st v shown small is =
    let n = decimal_word number small in
    record {
      line = verb ++ 32 ∷ decimal number;
      ends = pair_ends verb (decimal number);
      plain = pair_fits verb (decimal number) v n;
      says = line_says (verb ++ 32 ∷ decimal number) st (shown (32 ∷ decimal number)) (ap said_of (two_words verb (decimal number) v n) ∙ is);
    }

triple_is : (verb : List ℕ) (number : ℕ) (word : List ℕ) (st : Instruction) → is_word verb ≡ true → ((more : List ℕ) → is_skipped (verb ++ more) ≡ false) → number < 2 ^ 64 → is_word word ≡ true → triple_of verb (decimal number) word ≡ Ok st → IsLineOf (triple_line verb number word) st
unfolding instruction_of
triple_is verb number word st v shown small w is =
    let n = decimal_word number small in
    record {
      line = verb ++ 32 ∷ (decimal number ++ 32 ∷ word);
      ends = triple_ends verb (decimal number) word;
      plain = triple_fits verb (decimal number) word v n w;
      says = line_says (verb ++ 32 ∷ (decimal number ++ 32 ∷ word)) st (shown (32 ∷ (decimal number ++ 32 ∷ word))) (ap said_of (three_words verb (decimal number) word v n w) ∙ is);
    }

-- ---- each kind of line

counted : (word : List ℕ) (count : ℕ) → number_to MOST_WITNESSES word ≡ Ok count → 1 ≤ count → witnesses_of word ≡ Ok (says.Witnesses count)
unfolding witnesses_of
counted word count is some = rw (is, le-leb 1 count some) refl

pub witnesses_written : (count : ℕ) → 1 ≤ count → count ≤ MOST_WITNESSES → IsLineOf (pair_line (codes "witnesses") count) (says.Witnesses count)
unfolding pair_of
witnesses_written count some few =
    pair_is (codes "witnesses") count (says.Witnesses count) refl (λ more. refl) (omega arith) (counted (decimal count) count (number_read MOST_WITNESSES count few (omega arith)) some)

listed : (first second : List ℕ) (m : Member) → number_to 4294967295 first ≡ Ok m.id → kind_of second ≡ Ok m.kind → member_of first second ≡ Ok (says.Node m)
unfolding member_of
listed first second m id is = rw (id, is) refl

pub node_written : (m : Member) → m.id < 2 ^ 32 → IsLineOf (node_line m) (says.Node m)
unfolding triple_of
node_written m small =
    triple_is (codes "node") m.id (name_of m.kind) (says.Node m) refl (λ more. refl) (omega arith) (name_word m.kind)
    (listed (decimal m.id) (name_of m.kind) m (number_read 4294967295 m.id (omega arith) (omega arith)) (kind_read m.kind))

timed : (first second : List ℕ) (node moment : ℕ) → number_to 4294967295 first ≡ Ok node → number_to 18446744073709551615 second ≡ Ok moment → timer_of first second ≡ Ok (says.Happens (act.Timer node moment))
unfolding timer_of
timed first second node moment id is = rw (id, is) refl

happened : (happens : ℕ → Act) (word : List ℕ) (node : ℕ) → number_to 4294967295 word ≡ Ok node → happening_of happens word ≡ Ok (says.Happens (happens node))
unfolding happening_of
happened happens word node is = rw is refl

node_read : (node : ℕ) → node < 2 ^ 32 → number_to 4294967295 (decimal node) ≡ Ok node
node_read node small = number_read 4294967295 node (omega arith) (omega arith)

pub act_written : (a : Act) → node_of a < 2 ^ 32 → IsMoment a → IsLineOf (act_line a) (says.Happens a)
unfolding pair_of triple_of
act_written (act.Timer node moment) small fits =
    triple_is (codes "timer") node (decimal moment) (says.Happens (act.Timer node moment)) refl (λ more. refl) (omega arith) (decimal_word moment fits)
    (timed (decimal node) (decimal moment) node moment (node_read node small) (number_read 18446744073709551615 moment (omega arith) fits))
act_written (act.Checkpoint node) small fits =
    pair_is (codes "checkpoint") node (says.Happens (act.Checkpoint node)) refl (λ more. refl) (omega arith) (happened act.Checkpoint (decimal node) node (node_read node small))
act_written (act.Audit node) small fits =
    pair_is (codes "audit") node (says.Happens (act.Audit node)) refl (λ more. refl) (omega arith) (happened act.Audit (decimal node) node (node_read node small))
act_written (act.Rekey node) small fits =
    pair_is (codes "rekey") node (says.Happens (act.Rekey node)) refl (λ more. refl) (omega arith) (happened act.Rekey (decimal node) node (node_read node small))
