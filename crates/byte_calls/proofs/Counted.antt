-- What the first block of a file says of its texts.
use Rattle.std.proofs.Common.{◌≡◌, ℕ, zero, suc, ◌+◌, ◌≤◌, List, [], ◌∷◌, length, take, drop, refl, sym, ◌∙◌, ap, subst, arith, append_assoc, ◌++◌, Vec, Bool, true, false, Some, None, length-drop}
use Rattle.std.specs.Prelude.{not, ◌==◌, ◌&&◌, nat_le, if◌then◌else◌}
use Rattle.std.proofs.lemmas.Bool.{and_parts, leb-true}
use Rattle.std.proofs.lemmas.List.{drop-drop, length-take-le}
use Rattle.std.specs.declared.alloc.Global.{Global}
use Rattle.journal.specs.Journal.{number_of, counts, blocks_in, recovered, covered, size_of, texts_of}
use Rattle.byte_calls.specs.within.Blocks.{first_len}

-- How many blocks are looked for makes no difference, if they are enough.
same_blocks : (m n : ℕ) (file : List ℕ) → length file ≤ m → length file ≤ n → blocks_in m file ≡ blocks_in n file
same_blocks zero zero file lm ln = refl
same_blocks zero (suc n) [] lm ln = refl
same_blocks zero (suc n) (g ∷ file) lm ln = absurd (omega arith)
same_blocks (suc m) zero [] lm ln = refl
same_blocks (suc m) zero (g ∷ file) lm ln = absurd (omega arith)
same_blocks (suc m) (suc n) [] lm ln = refl
same_blocks (suc m) (suc n) (g ∷ []) lm ln = refl
same_blocks (suc m) (suc n) (g ∷ a ∷ []) lm ln = refl
same_blocks (suc m) (suc n) (g ∷ a ∷ b ∷ []) lm ln = refl
same_blocks (suc m) (suc n) (g ∷ a ∷ b ∷ c ∷ []) lm ln = refl
same_blocks (suc m) (suc n) (g ∷ a ∷ b ∷ c ∷ d ∷ []) lm ln = refl
same_blocks (suc m) (suc n) (g ∷ a ∷ b ∷ c ∷ d ∷ e ∷ []) lm ln = refl
same_blocks (suc m) (suc n) (g ∷ a ∷ b ∷ c ∷ d ∷ e ∷ f ∷ []) lm ln = refl
same_blocks (suc m) (suc n) (g ∷ a ∷ b ∷ c ∷ d ∷ e ∷ f ∷ i ∷ []) lm ln = refl
same_blocks (suc m) (suc n) (g ∷ a ∷ b ∷ c ∷ d ∷ e ∷ f ∷ i ∷ j ∷ rest) lm ln =
    let k = number_of a b c d in
    let fewer = length-drop k rest in
    ap (λ (later : List (List ℕ)). if counts g k (number_of e f i j) (length rest) then take k rest ∷ later else [])
    (same_blocks m n (drop k rest) (omega (arith, fewer, lm)) (omega (arith, fewer, ln)))

counted : (b : Bool) (k n : ℕ) → (if b then Some k else None) ≡ Some n → (b ≡ true) × (k ≡ n)
counted true k n e = (refl, cc)
counted false k n e = absurd cc

not_counted : (b : Bool) (k : ℕ) → (if b then Some k else None) ≡ None → b ≡ false
not_counted true k e = absurd cc
not_counted false k e = refl

-- No block counts there.
pub no_blocks : (file : List ℕ) → first_len file ≡ None → recovered file ≡ []
no_blocks [] x = refl
no_blocks (g ∷ []) x = refl
no_blocks (g ∷ a ∷ []) x = refl
no_blocks (g ∷ a ∷ b ∷ []) x = refl
no_blocks (g ∷ a ∷ b ∷ c ∷ []) x = refl
no_blocks (g ∷ a ∷ b ∷ c ∷ d ∷ []) x = refl
no_blocks (g ∷ a ∷ b ∷ c ∷ d ∷ e ∷ []) x = refl
no_blocks (g ∷ a ∷ b ∷ c ∷ d ∷ e ∷ f ∷ []) x = refl
no_blocks (g ∷ a ∷ b ∷ c ∷ d ∷ e ∷ f ∷ i ∷ []) x = refl
no_blocks (g ∷ a ∷ b ∷ c ∷ d ∷ e ∷ f ∷ i ∷ j ∷ rest) x =
    let k = number_of a b c d in
    let more = length (a ∷ b ∷ c ∷ d ∷ e ∷ f ∷ i ∷ j ∷ rest) in
    ap (λ (t : Bool). if t then take k rest ∷ blocks_in more (drop k rest) else []) (not_counted (counts g k (number_of e f i j) (length rest)) k x)

-- A block counts there, and its text has so many bytes.
pub record FirstBlock (file : List ℕ) (n : ℕ) : Type 0 where
  pub long : 9 + n ≤ length file
  pub is : recovered file ≡ take n (drop 9 file) ∷ recovered (drop n (drop 9 file))

counts_whole : (g k l r : ℕ) → counts g k l r ≡ true → k ≤ r
counts_whole g k l r e =
    let both = and_parts (not (g == 0)) ((k + l == 4294967295) && nat_le k r) e in
    let two = and_parts (k + l == 4294967295) (nat_le k r) both.1 in
    leb-true k r two.1

pub first_block : (file : List ℕ) (n : ℕ) → first_len file ≡ Some n → FirstBlock file n
first_block [] n x = absurd cc
first_block (g ∷ []) n x = absurd cc
first_block (g ∷ a ∷ []) n x = absurd cc
first_block (g ∷ a ∷ b ∷ []) n x = absurd cc
first_block (g ∷ a ∷ b ∷ c ∷ []) n x = absurd cc
first_block (g ∷ a ∷ b ∷ c ∷ d ∷ []) n x = absurd cc
first_block (g ∷ a ∷ b ∷ c ∷ d ∷ e ∷ []) n x = absurd cc
first_block (g ∷ a ∷ b ∷ c ∷ d ∷ e ∷ f ∷ []) n x = absurd cc
first_block (g ∷ a ∷ b ∷ c ∷ d ∷ e ∷ f ∷ i ∷ []) n x = absurd cc
first_block (g ∷ a ∷ b ∷ c ∷ d ∷ e ∷ f ∷ i ∷ j ∷ rest) n x =
    let k = number_of a b c d in
    let l = number_of e f i j in
    let so = counted (counts g k l (length rest)) k n x in
    let whole = counts_whole g k l (length rest) so.0 in
    let more = length (a ∷ b ∷ c ∷ d ∷ e ∷ f ∷ i ∷ j ∷ rest) in
    subst (FirstBlock (g ∷ a ∷ b ∷ c ∷ d ∷ e ∷ f ∷ i ∷ j ∷ rest)) so.1
    (record {
      long = omega (arith, whole);
      is = ap (λ (t : Bool). if t then take k rest ∷ blocks_in more (drop k rest) else []) so.0
          ∙ ap (λ (later : List (List ℕ)). take k rest ∷ later) (same_blocks more (length (drop k rest)) (drop k rest) (omega (arith, length-drop k rest)) (omega arith));
    })

-- ---- steps of a reading

behind : (at n : ℕ) (file : List ℕ) → drop n (drop 9 (drop at file)) ≡ drop (at + 9 + n) file
behind at n file = ap (λ (l : List ℕ). drop n l) (drop-drop 9 at file) ∙ drop-drop n (at + 9) file

-- The next block begins at `at`, and its text has `n` bytes.
pub record NextBlock (file : List ℕ) (at n : ℕ) : Type 0 where
  pub long : at + 9 + n ≤ length file
  pub is : recovered (drop at file) ≡ take n (drop (at + 9) file) ∷ recovered (drop (at + 9 + n) file)

pub next_block : (file : List ℕ) (at n : ℕ) → at ≤ length file → first_len (drop at file) ≡ Some n → NextBlock file at n
next_block file at n le some =
    let first = first_block (drop at file) n some in
    record {
      long = omega (arith, first.long, length-drop at file, le);
      is = first.is ∙ ap (λ (l : List ℕ). take n l ∷ recovered (drop n (drop 9 (drop at file)))) (drop-drop 9 at file)
          ∙ ap (λ (l : List ℕ). take n (drop (at + 9) file) ∷ recovered l) (behind at n file);
    }

pub covers_more : (file : List ℕ) (at n : ℕ) → NextBlock file at n → covered file ≡ at + covered (drop at file) → covered file ≡ at + 9 + n + covered (drop (at + 9 + n) file)
covers_more file at n next covers =
    let size : length (take n (drop (at + 9) file)) ≡ n = length-take-le n (drop (at + 9) file) (omega (arith, next.long, length-drop (at + 9) file)) in
    omega (arith, covers, ap size_of next.is, size)

texts_push : (vectors : List (Vec ℕ Global)) (v : Vec ℕ Global) → texts_of (vectors ++ v ∷ []) ≡ texts_of vectors ++ v.items ∷ []
texts_push [] v = refl
texts_push (w ∷ vectors) v = ap (λ (l : List (List ℕ)). w.items ∷ l) (texts_push vectors v)

pub texts_more : (file : List ℕ) (at n : ℕ) (vectors : List (Vec ℕ Global)) (v : Vec ℕ Global) → NextBlock file at n → v.items ≡ take n (drop (at + 9) file)
    → recovered file ≡ texts_of vectors ++ recovered (drop at file) → recovered file ≡ texts_of (vectors ++ v ∷ []) ++ recovered (drop (at + 9 + n) file)
texts_more file at n vectors v next is texts =
    let rest = recovered (drop (at + 9 + n) file) in
    texts
    ∙ ap (λ (l : List (List ℕ)). texts_of vectors ++ l) (next.is ∙ ap (λ (t : List ℕ). t ∷ rest) (sym is))
    ∙ sym (append_assoc (texts_of vectors) (v.items ∷ []) rest)
    ∙ ap (λ (l : List (List ℕ)). l ++ rest) (sym (texts_push vectors v))
