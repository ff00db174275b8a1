-- Blocks in front of other bytes, and what a crash can leave of them.
use Rattle.std.proofs.Common.{◌≡◌, ℕ, zero, suc, ◌+◌, ◌-◌, ◌≤◌, ◌<◌, ◌^◌, List, [], ◌∷◌, ◌++◌, length, take, drop, refl, sym, ◌∙◌, ap, arith, append_assoc, Bool, true, false, Option, Some, None, Ok, length-append, length-drop}
use Rattle.std.specs.Prelude.{not, ◌==◌, ◌&&◌, nat_le, if◌then◌else◌}
use Rattle.std.specs.Int.{w32, to_be_bytes, from_be_bytes}
use Rattle.std.proofs.lemmas.Nat.{from_be_bytes-to_be_bytes_4}
use Rattle.std.proofs.lemmas.Bool.{and_from, and_parts, eq-eqb, le-leb, leb-true, or_right}
use Rattle.std.proofs.lemmas.List.{append-nil, drop_at, length-take-le, take_at}
use Rattle.std.proofs.Math.Seq.{take-add}
use Rattle.outcome.proofs.Steps.{Ok-inj, guard_true}
use Rattle.journal.specs.Journal.{block_of, can_be_left, counts, covered, ends_closed, number_of, recovered, size_of}
use Rattle.journal.specs.declared.blocks.TheConstants.{MOST_GROUP}
use Rattle.byte_calls.specs.declared.refusal.Refusal.{Refusal}
use Rattle.byte_calls.specs.declared.refusal.Refusal.TheVariants.{TooLong}
use Rattle.byte_calls.specs.Journals.{block_text}
use Rattle.byte_calls.specs.JournalLaws.{torn, with_block}
use Rattle.byte_calls.specs.within.Blocks.{first_len}
use Rattle.byte_calls.proofs.Counted.{FirstBlock, first_block, no_blocks}

-- ---- the head of a block in front of other bytes

counts_again : (g k l r s : ℕ) → counts g k l r ≡ true → k ≤ s → counts g k l s ≡ true
counts_again g k l r s e fits =
    let both = and_parts (not (g == 0)) ((k + l == 4294967295) && nat_le k r) e in
    let two = and_parts (k + l == 4294967295) (nat_le k r) both.1 in
    and_from (not (g == 0)) ((k + l == 4294967295) && nat_le k s) both.0 (and_from (k + l == 4294967295) (nat_le k s) two.0 (le-leb k s fits))

some_if : (b : Bool) (k : ℕ) → b ≡ true → (if b then Some k else None) ≡ Some k
some_if b k e = ap (λ (t : Bool). if t then Some k else None) e

if_some : (b : Bool) (k n : ℕ) → (if b then Some k else None) ≡ Some n → (b ≡ true) × (k ≡ n)
if_some true k n e = (refl, cc)
if_some false k n e = absurd cc

head_again : (file more : List ℕ) (n : ℕ) → first_len file ≡ Some n → n ≤ length more → first_len (take 9 file ++ more) ≡ Some n
head_again [] more n x fits = absurd cc
head_again (g ∷ []) more n x fits = absurd cc
head_again (g ∷ a ∷ []) more n x fits = absurd cc
head_again (g ∷ a ∷ b ∷ []) more n x fits = absurd cc
head_again (g ∷ a ∷ b ∷ c ∷ []) more n x fits = absurd cc
head_again (g ∷ a ∷ b ∷ c ∷ d ∷ []) more n x fits = absurd cc
head_again (g ∷ a ∷ b ∷ c ∷ d ∷ e ∷ []) more n x fits = absurd cc
head_again (g ∷ a ∷ b ∷ c ∷ d ∷ e ∷ f ∷ []) more n x fits = absurd cc
head_again (g ∷ a ∷ b ∷ c ∷ d ∷ e ∷ f ∷ i ∷ []) more n x fits = absurd cc
head_again (g ∷ a ∷ b ∷ c ∷ d ∷ e ∷ f ∷ i ∷ j ∷ rest) more n x fits =
    let k = number_of a b c d in
    let l = number_of e f i j in
    let so = if_some (counts g k l (length rest)) k n x in
    some_if (counts g k l (length more)) k (counts_again g k l (length rest) (length more) so.0 (omega (arith, so.1, fits))) ∙ ap (λ (m : ℕ). Some m) so.1

-- ---- the blocks of a file in front of other bytes

pub record Front (file rest : List ℕ) : Type 0 where
  pub fits : covered file ≤ length file
  pub is : recovered (take (covered file) file ++ rest) ≡ recovered file ++ recovered rest

-- A first block, and the front of what is behind it.
fronted : (file rest : List ℕ) (n : ℕ) → first_len file ≡ Some n → FirstBlock file n → Front (drop n (drop 9 file)) rest → Front file rest
fronted file rest n some first inner =
    let body = drop 9 file in
    let text = take n body in
    let later = drop n body in
    let c = covered later in
    let more = take c later ++ rest in
    let new = take 9 file ++ (text ++ more) in
    let size : length text ≡ n = length-take-le n body (omega (arith, first.long, length-drop 9 file)) in
    let covers : covered file ≡ 9 + (n + c) = omega (arith, ap size_of first.is, size) in
    let nine : length (take 9 file) ≡ 9 = length-take-le 9 file (omega (arith, first.long)) in
    let split : take (covered file) file ++ rest ≡ new =
    ap (λ (m : ℕ). take m file ++ rest) covers
    ∙ ap (λ (l : List ℕ). l ++ rest) (take-add 9 (n + c) file ∙ ap (λ (l : List ℕ). take 9 file ++ l) (take-add n c body))
    ∙ append_assoc (take 9 file) (text ++ take c later) rest
    ∙ ap (λ (l : List ℕ). take 9 file ++ l) (append_assoc text (take c later) rest) in
    let again = first_block new n (head_again file (text ++ more) n some (omega (arith, length-append text more, size))) in
    let behind : drop 9 new ≡ text ++ more = drop_at (take 9 file) (text ++ more) 9 nine in
    let front : take n (drop 9 new) ≡ text = ap (λ (l : List ℕ). take n l) behind ∙ take_at text more n size in
    let back : drop n (drop 9 new) ≡ more = ap (λ (l : List ℕ). drop n l) behind ∙ drop_at text more n size in
    record {
      fits = omega (arith, covers, inner.fits, first.long, length-drop n body, length-drop 9 file);
      is = ap recovered split ∙ again.is
          ∙ ap (λ (l : List ℕ). l ∷ recovered (drop n (drop 9 new))) front
          ∙ ap (λ (l : List ℕ). text ∷ recovered l) back
          ∙ ap (λ (l : List (List ℕ)). text ∷ l) inner.is
          ∙ ap (λ (l : List (List ℕ)). l ++ recovered rest) (sym first.is);
    }

empty_front : (file rest : List ℕ) → recovered file ≡ [] → Front file rest
empty_front file rest none =
    let covers : covered file ≡ 0 = ap size_of none in
    record {
      fits = omega (arith, covers);
      is = ap (λ (n : ℕ). recovered (take n file ++ rest)) covers ∙ ap (λ (l : List (List ℕ)). l ++ recovered rest) (sym none);
    }

front_by : (file rest : List ℕ) → ((later : List ℕ) → length later < length file → Front later rest) → (o : Option ℕ) → first_len file ≡ o → Front file rest
front_by file rest shorter None none = empty_front file rest (no_blocks file none)
front_by file rest shorter (Some n) some =
    let first = first_block file n some in
    fronted file rest n some first (shorter (drop n (drop 9 file)) (omega (arith, first.long, length-drop n (drop 9 file), length-drop 9 file)))

front_within : (most : ℕ) (file rest : List ℕ) → length file ≤ most → Front file rest
front_within zero [] rest le = empty_front [] rest refl
front_within zero (x ∷ file) rest le = absurd (omega arith)
front_within (suc most) file rest le = front_by file rest (λ (later : List ℕ) less. front_within most later rest (omega (arith, less, le))) (first_len file) refl

pub front : (file rest : List ℕ) → Front file rest
front file rest = front_within (length file) file rest (omega arith)

-- ---- one block

record Four (bytes : List ℕ) : Type 0 where
  pub a : ℕ
  pub b : ℕ
  pub c : ℕ
  pub d : ℕ
  pub is : bytes ≡ a ∷ b ∷ c ∷ d ∷ []

four_of : (bytes : List ℕ) → length bytes ≡ 4 → Four bytes
four_of [] few = absurd (omega arith)
four_of (a ∷ []) few = absurd (omega arith)
four_of (a ∷ b ∷ []) few = absurd (omega arith)
four_of (a ∷ b ∷ c ∷ []) few = absurd (omega arith)
four_of (a ∷ b ∷ c ∷ d ∷ []) few = record { a = a; b = b; c = c; d = d; is = refl }
four_of (a ∷ b ∷ c ∷ d ∷ e ∷ rest) few = absurd (omega arith)

four_number : (n : ℕ) (bytes : List ℕ) (x : Four bytes) → bytes ≡ to_be_bytes w32 n → n < 2 ^ 32 → number_of x.a x.b x.c x.d ≡ n
four_number n bytes x are le = ap (λ (h : List ℕ). from_be_bytes w32 h) (sym x.is ∙ are) ∙ from_be_bytes-to_be_bytes_4 n le

closed : (rest : List ℕ) → recovered (0 ∷ rest) ≡ []
closed rest = no_blocks (0 ∷ rest) (shut rest)
  where
    shut : (rest : List ℕ) → first_len (0 ∷ rest) ≡ None
    shut [] = refl
    shut (a ∷ []) = refl
    shut (a ∷ b ∷ []) = refl
    shut (a ∷ b ∷ c ∷ []) = refl
    shut (a ∷ b ∷ c ∷ d ∷ []) = refl
    shut (a ∷ b ∷ c ∷ d ∷ e ∷ []) = refl
    shut (a ∷ b ∷ c ∷ d ∷ e ∷ f ∷ []) = refl
    shut (a ∷ b ∷ c ∷ d ∷ e ∷ f ∷ i ∷ []) = refl
    shut (a ∷ b ∷ c ∷ d ∷ e ∷ f ∷ i ∷ j ∷ rest) = refl

one_block : (text rest : List ℕ) → length text < 2 ^ 32 → recovered (block_of text ++ rest) ≡ text ∷ recovered rest
one_block text rest fits =
    let n = length text in
    let m = 4294967295 - n in
    let one = four_of (to_be_bytes w32 n) refl in
    let two = four_of (to_be_bytes w32 m) refl in
    let size : number_of one.a one.b one.c one.d ≡ n = four_number n (to_be_bytes w32 n) one refl fits in
    let lack : number_of two.a two.b two.c two.d ≡ m = four_number m (to_be_bytes w32 m) two refl (omega (arith, fits)) in
    let head = 255 ∷ one.a ∷ one.b ∷ one.c ∷ one.d ∷ two.a ∷ two.b ∷ two.c ∷ two.d ∷ [] in
    let laid : block_of text ++ rest ≡ head ++ (text ++ rest) =
    ap (λ (h : List ℕ). (255 ∷ (h ++ to_be_bytes w32 m ++ text)) ++ rest) one.is
    ∙ ap (λ (h : List ℕ). (255 ∷ ((one.a ∷ one.b ∷ one.c ∷ one.d ∷ []) ++ h ++ text)) ++ rest) two.is in
    let k = number_of one.a one.b one.c one.d in
    let l = number_of two.a two.b two.c two.d in
    let r = length (text ++ rest) in
    let so : counts 255 k l r ≡ true =
    and_from (not (255 == 0)) ((k + l == 4294967295) && nat_le k r) refl
    (and_from (k + l == 4294967295) (nat_le k r) (eq-eqb (k + l) 4294967295 (omega (arith, size, lack, fits))) (le-leb k r (omega (arith, size, length-append text rest)))) in
    let first = first_block (head ++ (text ++ rest)) n (some_if (counts 255 k l r) k so ∙ ap (λ (i : ℕ). Some i) size) in
    ap recovered laid ∙ first.is
    ∙ ap (λ (t : List ℕ). t ∷ recovered (drop n (text ++ rest))) (take_at text rest n refl)
    ∙ ap (λ (t : List ℕ). text ∷ recovered t) (drop_at text rest n refl)

-- ---- what a crash can leave

left_so : (head behind : List ℕ) (texts : List (List ℕ)) → recovered (head ++ 0 ∷ behind) ≡ texts → length head ≡ size_of texts → length behind ≤ MOST_GROUP → can_be_left (head ++ 0 ∷ behind) ≡ true
left_so head behind texts are size few =
    let file = head ++ 0 ∷ behind in
    let tail : drop (covered file) file ≡ 0 ∷ behind = drop_at head (0 ∷ behind) (covered file) (size ∙ sym (ap size_of are)) in
    or_right (nat_le (length file) 1) (ends_closed (drop (covered file) file)) (ap ends_closed tail ∙ le-leb (length behind) MOST_GROUP few)

size_push : (texts : List (List ℕ)) (text : List ℕ) → size_of (texts ++ text ∷ []) ≡ size_of texts + (9 + length text)
size_push [] text = omega arith
size_push (t ∷ texts) text = omega (arith, size_push texts text)

pub torn_texts : (file behind : List ℕ) → recovered (torn file behind) ≡ recovered file
torn_texts file behind = (front file (0 ∷ behind)).is ∙ ap (λ (l : List (List ℕ)). recovered file ++ l) (closed behind) ∙ append-nil (recovered file)

pub torn_left : (file behind : List ℕ) → length behind ≤ MOST_GROUP → can_be_left (torn file behind) ≡ true
torn_left file behind few = left_so (take (covered file) file) behind (recovered file) (torn_texts file behind) (length-take-le (covered file) file (front file []).fits) few

-- The block of a text, which is not too long.
pub record IsBlock (text block : List ℕ) : Type 0 where
  pub is : block ≡ block_of text
  pub fits : 9 + length text ≤ MOST_GROUP

pub is_block : (text block : List ℕ) → block_text text ≡ Ok block → IsBlock text block
is_block text block e =
    let ok = guard_true (nat_le (size_of (text ∷ [])) MOST_GROUP) TooLong (Ok (block_of text)) block e in
    let fits = leb-true (size_of (text ∷ [])) MOST_GROUP ok.0 in
    record { is = sym (Ok-inj {E = Refusal} (block_of text) block ok.1); fits = omega (arith, fits) }

pub block_texts : (file text block : List ℕ) → IsBlock text block → recovered (with_block file block) ≡ recovered file ++ text ∷ []
block_texts file text block b =
    let start = take (covered file) file in
    ap recovered (append_assoc start block (0 ∷ []))
    ∙ (front file (block ++ 0 ∷ [])).is
    ∙ ap (λ (l : List ℕ). recovered file ++ recovered (l ++ 0 ∷ [])) b.is
    ∙ ap (λ (l : List (List ℕ)). recovered file ++ l) (one_block text (0 ∷ []) (omega (arith, b.fits)))

pub block_left : (file text block : List ℕ) → IsBlock text block → can_be_left (with_block file block) ≡ true
block_left file text block b =
    let start = take (covered file) file in
    let n = length text in
    let size : length block ≡ 9 + n = ap length b.is ∙ length-block text in
    let start_size : length start ≡ covered file = length-take-le (covered file) file (front file []).fits in
    left_so (start ++ block) [] (recovered file ++ text ∷ []) (block_texts file text block b) (omega (arith, length-append start block, size, start_size, size_push (recovered file) text)) (omega arith)
  where
    length-block : (text : List ℕ) → length (block_of text) ≡ 9 + length text
    length-block text = omega (arith, length-append (to_be_bytes w32 (length text) ++ to_be_bytes w32 (4294967295 - length text)) text)
