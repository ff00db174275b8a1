-- Lines of digits, and what they spell.
use Rattle.std.proofs.Common.{◌≡◌, ◌∙◌, ◌%◌, ℕ, Bool, List, [], ◌∷◌, ◌++◌, Result, Ok, Err, ap, append-nil, append_assoc, arith, length, refl, subst, sym}
use Rattle.std.specs.Prelude.{◌↔◌, IsTrue}
use Rattle.std.specs.List.{list_all}
use Rattle.std.specs.Result.{IsOk}
use Rattle.std.proofs.lemmas.List.Elements.{All-cons, All-head, All-tail}
use Rattle.std.proofs.lemmas.List.Sums.{AllPass-from_list_all, list_all-from_AllPass}
use Rattle.hex.specs.declared.error.FromHexError.{FromHexError}
use Rattle.hex.specs.Hex.{decode_of, is_hex_digit}
use Rattle.hex.proofs.HexLemmas.{decode_of-digits, decode_of-ok}
use Rattle.outcome.specs.Outcome.{◌>>=◌, told_as}
use Rattle.commands.specs.declared.fault.Fault.{Fault}
use Rattle.commands.specs.declared.fault.Fault.TheVariants.{BadHex, LineCount}
use Rattle.commands.specs.HexLines.{all_texts_of, bytes_of, each_bytes_after, first_and_others, lines_of, pair_of, two_texts_of}
use Rattle.commands.specs.Inputs.{Parsed, all_stores_of, evidence_of, one_store_of}
use Rattle.commands.specs.within.Feeding.{AreDigits, AreSpelled}
use Rattle.commands.proofs.Fed.{spelled, spells}

abbrev IsHex : List ℕ → Type 0
IsHex line = IsOk (decode_of line)

-- ---- one line

-- a line of an even number of bytes is of digits exactly where each is one
pub even_is_hex : (line : List ℕ) (has : Bool) → length line % 2 ≡ 0 → has ≡ list_all is_hex_digit line → IsTrue has ↔ IsHex line
even_is_hex line has even is = (
  λ yes. let (bytes, h) = decode_of-digits line even (AllPass-from_list_all is_hex_digit line (sym is ∙ yes)) in spells (decode_of line) bytes h,
  λ hex. let (bytes, h) = spelled (decode_of line) hex in is ∙ list_all-from_AllPass is_hex_digit line (decode_of-ok line bytes h).1,
)

bytes_told : (r : Result (List ℕ) FromHexError) → (IsOk r → ⊥) → ◌≡◌ {A = Result (List ℕ) Fault} (told_as (λ _. BadHex) r) (Err BadHex)
bytes_told (Ok bytes) never = absurd (never refl)
bytes_told (Err e) never = refl

pub bad_line : (line : List ℕ) → (IsHex line → ⊥) → bytes_of line ≡ Err BadHex
bad_line line never = bytes_told (decode_of line) never

pub good_line : (line bytes : List ℕ) → decode_of line ≡ Ok bytes → bytes_of line ≡ Ok bytes
good_line line bytes h = ap (told_as (λ _. BadHex)) h

-- ---- lines

-- the first of them is one
pub but_first : (line : List ℕ) (lines : List (List ℕ)) → IsHex line → AreDigits (line ∷ lines) ↔ AreDigits lines
but_first line lines is = (λ all. All-tail IsHex line lines all, λ more. All-cons IsHex line lines is more)

pub first_of : (line : List ℕ) (lines : List (List ℕ)) → AreDigits (line ∷ lines) → IsHex line
first_of line lines all = All-head IsHex line lines all

pub no_lines : (lines : List (List ℕ)) → lines ≡ [] → AreDigits lines
no_lines lines none = subst AreDigits (sym none) (λ i d below. absurd (omega (arith, below)))

-- a line less of a text
pub one_less : (text rest line more : List ℕ) → AreDigits (lines_of text) ↔ AreDigits (lines_of rest) → lines_of rest ≡ line ∷ lines_of more → IsHex line → AreDigits (lines_of text) ↔ AreDigits (lines_of more)
one_less text rest line more so_far first is =
    let here = but_first line (lines_of more) is in (
      λ all. here.0 (subst AreDigits first (so_far.0 all)),
      λ others. so_far.1 (subst AreDigits (sym first) (here.1 others)),
    )

-- they spell texts
pub spell_some : (lines : List (List ℕ)) → AreDigits lines → (texts : List (List ℕ)) × AreSpelled lines texts
unfolding AreSpelled
spell_some [] all = ([], refl)
spell_some (line ∷ lines) all =
    let (text, h) = spelled (decode_of line) (first_of line lines all) in
    let (more, rest) = spell_some lines (All-tail IsHex line lines all) in
    (text ∷ more, (text, more, h, rest, refl))

pub next_text : (line : List ℕ) (lines texts : List (List ℕ)) → AreSpelled (line ∷ lines) texts → (text : List ℕ) × (more : List (List ℕ)) × (decode_of line ≡ Ok text) × AreSpelled lines more × (texts ≡ text ∷ more)
unfolding AreSpelled
next_text line lines texts is = is

pub no_more : (lines texts : List (List ℕ)) → lines ≡ [] → AreSpelled lines texts → texts ≡ []
unfolding AreSpelled
no_more [] texts none is = is
no_more (line ∷ lines) texts none is = absurd cc

pub each_spelled : (before lines texts : List (List ℕ)) → AreSpelled lines texts → each_bytes_after before lines ≡ Ok (before ++ texts)
unfolding AreSpelled each_bytes_after
each_spelled before [] texts is = let told : before ≡ before ++ texts = sym (append-nil before) ∙ ap (λ l. before ++ l) (sym is) in ap (λ (l : List (List ℕ)). let r : Result (List (List ℕ)) Fault = Ok l in r) told
each_spelled before (line ∷ lines) texts (text, more, h, rest, is) =
    ap (λ (r : Result (List ℕ) Fault). r >>= λ bytes. each_bytes_after (before ++ bytes ∷ []) lines) (good_line line text h)
    ∙ each_spelled (before ++ text ∷ []) lines more rest
    ∙ ap (λ (l : List (List ℕ)). let r : Result (List (List ℕ)) Fault = Ok l in r) (append_assoc before (text ∷ []) more ∙ ap (λ l. before ++ l) (sym is))

-- where one of them is not of digits, that is told
pub each_bad : (before lines : List (List ℕ)) → (AreDigits lines → ⊥) → each_bytes_after before lines ≡ Err BadHex
unfolding each_bytes_after
each_bad before [] never = absurd (never (no_lines [] refl))
each_bad before (line ∷ lines) never = go (decode_of line) refl (λ bytes hex. each_bad (before ++ bytes ∷ []) lines (λ all. never (All-cons IsHex line lines hex all)))
  where
    go : (r : Result (List ℕ) FromHexError) → decode_of line ≡ r → ((bytes : List ℕ) → IsHex line → each_bytes_after (before ++ bytes ∷ []) lines ≡ Err BadHex) → (bytes_of line >>= λ bytes. each_bytes_after (before ++ bytes ∷ []) lines) ≡ Err BadHex
    go (Ok bytes) is more =
        ap (λ (r : Result (List ℕ) Fault). r >>= λ bytes. each_bytes_after (before ++ bytes ∷ []) lines) (good_line line bytes is)
        ∙ more bytes (spells (decode_of line) bytes is)
    go (Err e) is more = ap (λ (r : Result (List ℕ) Fault). r >>= λ bytes. each_bytes_after (before ++ bytes ∷ []) lines) (ap (told_as (λ _. BadHex)) is)

-- ---- a text

abbrev texts_after : List (List ℕ) → List ℕ → Result (List ℕ × List (List ℕ)) Fault
texts_after others first = each_bytes_after [] others >>= λ texts. Ok (first, texts)

of_lines : (text first : List ℕ) (others : List (List ℕ)) → lines_of text ≡ first ∷ others → all_texts_of text ≡ (bytes_of first >>= texts_after others)
unfolding all_texts_of
of_lines text first others is = ap (λ (ls : List (List ℕ)). first_and_others ls >>= λ lines. (bytes_of lines.0 >>= texts_after lines.1)) is

module _ (text first : List ℕ) (others : List (List ℕ)) (is : lines_of text ≡ first ∷ others) where
  pub first_bad : (IsHex first → ⊥) → all_texts_of text ≡ Err BadHex
  first_bad never = of_lines text first others is ∙ ap (λ (r : Result (List ℕ) Fault). r >>= texts_after others) (bad_line first never)

  pub others_bad : IsHex first → (AreDigits others → ⊥) → all_texts_of text ≡ Err BadHex
  others_bad hex never =
      let (bytes, h) = spelled (decode_of first) hex in
      of_lines text first others is ∙ ap (λ (r : Result (List ℕ) Fault). r >>= texts_after others) (good_line first bytes h)
      ∙ ap (λ (r : Result (List (List ℕ)) Fault). r >>= λ texts. Ok (bytes, texts)) (each_bad [] others never)

  pub all_good : (bytes : List ℕ) (texts : List (List ℕ)) → bytes_of first ≡ Ok bytes → AreSpelled others texts → all_texts_of text ≡ Ok (bytes, texts)
  all_good bytes texts h spelled =
      of_lines text first others is ∙ ap (λ (r : Result (List ℕ) Fault). r >>= texts_after others) h
      ∙ ap (λ (r : Result (List (List ℕ)) Fault). r >>= λ texts. Ok (bytes, texts)) (each_spelled [] others texts spelled)

-- ---- two lines

abbrev Pair : List ℕ → List ℕ → Result (List ℕ × List ℕ) Fault
Pair a b = Ok (a, b)

abbrev Texts : List ℕ → List (List ℕ) → Result (List ℕ × List (List ℕ)) Fault
Texts a bs = Ok (a, bs)

abbrev of_pair : List ℕ × List ℕ → Result Parsed Fault
of_pair texts = evidence_of texts.0 (texts.1 ∷ [])

abbrev of_all : List ℕ × List (List ℕ) → Result Parsed Fault
of_all texts = evidence_of texts.0 texts.1

parts_alike : (a b : Result (List ℕ) Fault) (c : Result (List (List ℕ)) Fault) → c ≡ (b >>= λ second. Ok (second ∷ []))
    → ((a >>= λ first. (b >>= λ second. Pair first second)) >>= of_pair) ≡ ((a >>= λ first. (c >>= λ texts. Texts first texts)) >>= of_all)
parts_alike (Ok a) (Ok b) c is = rw is refl
parts_alike (Ok a) (Err e) c is = rw is refl
parts_alike (Err e) b c is = refl

one_more : (second : List ℕ) → each_bytes_after [] (second ∷ []) ≡ (bytes_of second >>= λ text. Ok (text ∷ []))
unfolding each_bytes_after
one_more second = refl

-- a text of two lines has one store, and it is all
pub one_is_all : (input first second : List ℕ) → lines_of input ≡ first ∷ second ∷ [] → one_store_of input ≡ all_stores_of input
unfolding one_store_of all_stores_of two_texts_of all_texts_of
one_is_all input first second is =
    rw is (parts_alike (bytes_of first) (bytes_of second) (each_bytes_after [] (second ∷ [])) (one_more second))

-- the lines of a text that has two, or why it has not
pub two_of : (lines : List (List ℕ)) → IsOk (pair_of lines) → (a : List ℕ) × (b : List ℕ) × (lines ≡ a ∷ b ∷ [])
two_of [] is = absurd cc
two_of (a ∷ []) is = absurd cc
two_of (a ∷ b ∷ []) is = (a, b, refl)
two_of (a ∷ b ∷ c ∷ more) is = absurd cc

not_two : (lines : List (List ℕ)) → (IsOk (pair_of lines) → ⊥) → pair_of lines ≡ Err LineCount
not_two [] never = refl
not_two (a ∷ []) never = refl
not_two (a ∷ b ∷ []) never = absurd (never refl)
not_two (a ∷ b ∷ c ∷ more) never = refl

pub no_pair : (input : List ℕ) → (IsOk (pair_of (lines_of input)) → ⊥) → one_store_of input ≡ Err LineCount
unfolding one_store_of two_texts_of
no_pair input never = ap (λ (r : Result (List ℕ × List ℕ) Fault). (r >>= λ lines. (bytes_of lines.0 >>= λ first. (bytes_of lines.1 >>= λ second. Pair first second))) >>= of_pair) (not_two (lines_of input) never)
