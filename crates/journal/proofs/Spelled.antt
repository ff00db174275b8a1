-- What files of blocks stand for.
use Rattle.std.proofs.Common.{◌≡◌, ◌≢◌, inl, inr, ℕ, zero, suc, ◌+◌, ◌-◌, ◌≤◌, ◌<◌, ◌^◌, List, [], ◌∷◌, ◌++◌, length, take, drop, refl, sym, ◌∙◌, ap, subst, arith, append_assoc, length-append, length-drop, take-append-drop, Bool, true, false}
use Rattle.std.specs.Int.{w32, to_be_bytes, from_be_bytes}
use Rattle.std.specs.declared.alloc.Global.{Global}
use Rattle.std.proofs.lemmas.Nat.{from_be_bytes-to_be_bytes_4}
use Rattle.std.specs.Prelude.{Vec, not, ◌==◌, ◌&&◌, nat_le, if◌then◌else◌}
use Rattle.std.proofs.lemmas.List.{append-nil, take_at, drop_at, length-take-le}
use Rattle.std.proofs.lemmas.Bool.{cases_Bool, and_parts, and_from, le-leb, leb-true, eq-eqb, ne_eqb, eqb-true, not_from_true, not_from_false}
use Rattle.journal.specs.Journal.{number_of, counts, blocks_in, recovered, size_of, block_of, blocks_of, texts_of}

-- ---- the head of a block

-- its gate, and the four bytes of each of its numbers
pub record Head : Type 0 where
  pub gate : ℕ
  pub a : ℕ
  pub b : ℕ
  pub c : ℕ
  pub d : ℕ
  pub e : ℕ
  pub f : ℕ
  pub i : ℕ
  pub j : ℕ

abbrev pub laid : Head → List ℕ → List ℕ
laid x rest = x.gate ∷ x.a ∷ x.b ∷ x.c ∷ x.d ∷ x.e ∷ x.f ∷ x.i ∷ x.j ∷ rest

abbrev pub size : Head → ℕ
size x = number_of x.a x.b x.c x.d

abbrev pub lack : Head → ℕ
lack x = number_of x.e x.f x.i x.j

-- whether the block counts that begins so
abbrev pub counts_at : Head → List ℕ → Bool
counts_at x rest = counts x.gate (size x) (lack x) (length rest)

-- a file has no whole head, or begins with one
pub record Headed (file : List ℕ) : Type 0 where
  pub head : Head
  pub rest : List ℕ
  pub is : file ≡ laid head rest

pub headed : (file : List ℕ) → 9 ≤ length file → Headed file
headed [] long = absurd (omega arith)
headed (g ∷ []) long = absurd (omega arith)
headed (g ∷ a ∷ []) long = absurd (omega arith)
headed (g ∷ a ∷ b ∷ []) long = absurd (omega arith)
headed (g ∷ a ∷ b ∷ c ∷ []) long = absurd (omega arith)
headed (g ∷ a ∷ b ∷ c ∷ d ∷ []) long = absurd (omega arith)
headed (g ∷ a ∷ b ∷ c ∷ d ∷ e ∷ []) long = absurd (omega arith)
headed (g ∷ a ∷ b ∷ c ∷ d ∷ e ∷ f ∷ []) long = absurd (omega arith)
headed (g ∷ a ∷ b ∷ c ∷ d ∷ e ∷ f ∷ i ∷ []) long = absurd (omega arith)
headed (g ∷ a ∷ b ∷ c ∷ d ∷ e ∷ f ∷ i ∷ j ∷ rest) long = record { head = record { gate = g; a = a; b = b; c = c; d = d; e = e; f = f; i = i; j = j }; rest = rest; is = refl }

pub short : (file : List ℕ) → length file ≤ 8 → recovered file ≡ []
short [] few = refl
short (g ∷ []) few = refl
short (g ∷ a ∷ []) few = refl
short (g ∷ a ∷ b ∷ []) few = refl
short (g ∷ a ∷ b ∷ c ∷ []) few = refl
short (g ∷ a ∷ b ∷ c ∷ d ∷ []) few = refl
short (g ∷ a ∷ b ∷ c ∷ d ∷ e ∷ []) few = refl
short (g ∷ a ∷ b ∷ c ∷ d ∷ e ∷ f ∷ []) few = refl
short (g ∷ a ∷ b ∷ c ∷ d ∷ e ∷ f ∷ i ∷ []) few = refl
short (g ∷ a ∷ b ∷ c ∷ d ∷ e ∷ f ∷ i ∷ j ∷ rest) few = absurd (omega arith)

-- ---- how many blocks are looked for makes no difference, where they are enough

pub same_blocks : (m n : ℕ) (file : List ℕ) → length file ≤ m → length file ≤ n → blocks_in m file ≡ blocks_in n file
same_blocks zero zero file lm ln = refl
same_blocks zero (suc n) [] lm ln = refl
same_blocks zero (suc n) (g ∷ file) lm ln = absurd (omega arith)
same_blocks (suc m) zero [] lm ln = refl
same_blocks (suc m) zero (g ∷ file) lm ln = absurd (omega arith)
same_blocks (suc m) (suc n) [] lm ln = refl
same_blocks (suc m) (suc n) (g ∷ []) lm ln = refl
same_blocks (suc m) (suc n) (g ∷ a ∷ []) lm ln = refl
same_blocks (suc m) (suc n) (g ∷ a ∷ b ∷ []) lm ln = refl
same_blocks (suc m) (suc n) (g ∷ a ∷ b ∷ c ∷ []) lm ln = refl
same_blocks (suc m) (suc n) (g ∷ a ∷ b ∷ c ∷ d ∷ []) lm ln = refl
same_blocks (suc m) (suc n) (g ∷ a ∷ b ∷ c ∷ d ∷ e ∷ []) lm ln = refl
same_blocks (suc m) (suc n) (g ∷ a ∷ b ∷ c ∷ d ∷ e ∷ f ∷ []) lm ln = refl
same_blocks (suc m) (suc n) (g ∷ a ∷ b ∷ c ∷ d ∷ e ∷ f ∷ i ∷ []) lm ln = refl
same_blocks (suc m) (suc n) (g ∷ a ∷ b ∷ c ∷ d ∷ e ∷ f ∷ i ∷ j ∷ rest) lm ln =
    let k = number_of a b c d in
    let fewer = length-drop k rest in
    ap (λ (later : List (List ℕ)). if counts g k (number_of e f i j) (length rest) then take k rest ∷ later else [])
    (same_blocks m n (drop k rest) (omega (arith, fewer, lm)) (omega (arith, fewer, ln)))

-- ---- one block

-- as many blocks as are looked for behind the first one
abbrev later : Head → List ℕ → List (List ℕ)
later x rest = blocks_in (length (x.a ∷ x.b ∷ x.c ∷ x.d ∷ x.e ∷ x.f ∷ x.i ∷ x.j ∷ rest)) (drop (size x) rest)

pub first_counts : (x : Head) (rest : List ℕ) → counts_at x rest ≡ true → recovered (laid x rest) ≡ take (size x) rest ∷ recovered (drop (size x) rest)
first_counts x rest does =
    let k = size x in
    ap (λ (t : Bool). if t then take k rest ∷ later x rest else []) does
    ∙ ap (λ (l : List (List ℕ)). take k rest ∷ l) (same_blocks (length (x.a ∷ x.b ∷ x.c ∷ x.d ∷ x.e ∷ x.f ∷ x.i ∷ x.j ∷ rest)) (length (drop k rest)) (drop k rest) (omega (arith, length-drop k rest)) (omega arith))

pub first_not : (x : Head) (rest : List ℕ) → counts_at x rest ≡ false → recovered (laid x rest) ≡ []
first_not x rest not_so = ap (λ (t : Bool). if t then take (size x) rest ∷ later x rest else []) not_so

pub closed : (rest : List ℕ) → recovered (0 ∷ rest) ≡ []
closed [] = refl
closed (a ∷ []) = refl
closed (a ∷ b ∷ []) = refl
closed (a ∷ b ∷ c ∷ []) = refl
closed (a ∷ b ∷ c ∷ d ∷ []) = refl
closed (a ∷ b ∷ c ∷ d ∷ e ∷ []) = refl
closed (a ∷ b ∷ c ∷ d ∷ e ∷ f ∷ []) = refl
closed (a ∷ b ∷ c ∷ d ∷ e ∷ f ∷ i ∷ []) = refl
closed (a ∷ b ∷ c ∷ d ∷ e ∷ f ∷ i ∷ j ∷ rest) = refl

-- the parts of a test that holds
pub record Counts (x : Head) (rest : List ℕ) : Type 0 where
  pub is_open : x.gate ≢ 0
  pub agree : size x + lack x ≡ 4294967295
  pub fits : size x ≤ length rest

pub counted : (x : Head) (rest : List ℕ) → counts_at x rest ≡ true → Counts x rest
counted x rest does =
    let both = and_parts (not (x.gate == 0)) ((size x + lack x == 4294967295) && nat_le (size x) (length rest)) does in
    let two = and_parts (size x + lack x == 4294967295) (nat_le (size x) (length rest)) both.1 in
    record { is_open = λ shut. shut_not x.gate shut both.0; agree = eqb-true _ 4294967295 two.0; fits = leb-true (size x) (length rest) two.1 }
  where
    shut_not : (gate : ℕ) → gate ≡ 0 → not (gate == 0) ≡ true → ⊥
    shut_not gate shut open_ = true_false (sym open_ ∙ not_from_true (gate == 0) (eq-eqb gate 0 shut))
      where
        true_false : true ≡ false → ⊥
        true_false is = cc is

pub counts_so : (x : Head) (rest : List ℕ) → Counts x rest → counts_at x rest ≡ true
counts_so x rest so =
    and_from (not (x.gate == 0)) ((size x + lack x == 4294967295) && nat_le (size x) (length rest)) (not_from_false (x.gate == 0) (ne_eqb x.gate 0 so.is_open))
    (and_from (size x + lack x == 4294967295) (nat_le (size x) (length rest)) (eq-eqb _ 4294967295 so.agree) (le-leb (size x) (length rest) so.fits))

-- a whole open block in front
pub block_then : (x : Head) (text rest : List ℕ) → x.gate ≢ 0 → size x + lack x ≡ 4294967295 → size x ≡ length text → recovered (laid x (text ++ rest)) ≡ text ∷ recovered rest
block_then x text rest is_open agree is =
    let k = size x in
    let front : take k (text ++ rest) ≡ text = take_at text rest k (sym is) in
    let back : drop k (text ++ rest) ≡ rest = drop_at text rest k (sym is) in
    first_counts x (text ++ rest) (counts_so x (text ++ rest) (record { is_open = is_open; agree = agree; fits = omega (arith, is, length-append text rest) }))
    ∙ ap (λ (l : List ℕ). l ∷ recovered (drop k (text ++ rest))) front
    ∙ ap (λ (l : List ℕ). text ∷ recovered l) back

-- ---- several

-- the front of a file is an open block of the text, and behind it stands what has P
pub record Block (text : List ℕ) (P : List ℕ → Type 0) (front : List ℕ) : Type 0 where
  pub head : Head
  pub rest : List ℕ
  pub is : front ≡ laid head (text ++ rest)
  pub is_open : head.gate ≢ 0
  pub agree : size head + lack head ≡ 4294967295
  pub size_is : size head ≡ length text
  pub behind : P rest

-- the bytes are just the open blocks of these texts
abbrev pub Spells : List (List ℕ) → List ℕ → Type 0
Spells [] front = front ≡ []
Spells (text ∷ texts) front = Block text (Spells texts) front

pub length-spelled : (texts : List (List ℕ)) (front : List ℕ) → Spells texts front → length front ≡ size_of texts
length-spelled [] front is = ap length is
length-spelled (text ∷ texts) front s = omega (arith, ap length s.is, length-append text s.rest, length-spelled texts s.rest s.behind)

pub spelled_then : (texts : List (List ℕ)) (front rest : List ℕ) → Spells texts front → recovered (front ++ rest) ≡ texts ++ recovered rest
spelled_then [] front rest is = ap (λ (l : List ℕ). recovered (l ++ rest)) is
spelled_then (text ∷ texts) front rest s =
    ap (λ (l : List ℕ). recovered (l ++ rest)) s.is
    ∙ ap (λ (l : List ℕ). recovered (laid s.head l)) (append_assoc text s.rest rest)
    ∙ block_then s.head text (s.rest ++ rest) s.is_open s.agree s.size_is
    ∙ ap (λ (l : List (List ℕ)). text ∷ l) (spelled_then texts s.rest rest s.behind)

-- a closed gate ends them, whatever stands behind it
pub spelled_closed : (texts : List (List ℕ)) (front rest : List ℕ) → Spells texts front → recovered (front ++ 0 ∷ rest) ≡ texts
spelled_closed texts front rest s =
    spelled_then texts front (0 ∷ rest) s ∙ ap (λ (l : List (List ℕ)). texts ++ l) (closed rest) ∙ append-nil texts

-- further blocks
pub spelled_more : (texts further : List (List ℕ)) (front back : List ℕ) → Spells texts front → Spells further back → Spells (texts ++ further) (front ++ back)
spelled_more [] further front back is s = subst (λ (l : List ℕ). Spells further (l ++ back)) (sym is) s
spelled_more (t ∷ texts) further front back s more =
    record {
      head = s.head;
      rest = s.rest ++ back;
      is = ap (λ (l : List ℕ). l ++ back) s.is ∙ ap (λ (l : List ℕ). laid s.head l) (append_assoc t s.rest back);
      is_open = s.is_open;
      agree = s.agree;
      size_is = s.size_is;
      behind = spelled_more texts further s.rest back s.behind more;
    }

-- the first gate may be any open one
pub any_gate : (text : List ℕ) (texts : List (List ℕ)) (gate gate' : ℕ) (tail : List ℕ) → Spells (text ∷ texts) (gate ∷ tail) → gate' ≢ 0 → Spells (text ∷ texts) (gate' ∷ tail)
any_gate text texts gate gate' tail s is_open =
    record {
      head = record { gate = gate'; a = s.head.a; b = s.head.b; c = s.head.c; d = s.head.d; e = s.head.e; f = s.head.f; i = s.head.i; j = s.head.j };
      rest = s.rest;
      is = ap (λ (l : List ℕ). gate' ∷ drop 1 l) s.is;
      is_open = is_open;
      agree = s.agree;
      size_is = s.size_is;
      behind = s.behind;
    }

-- ---- the blocks of texts spell them

record Four (bytes : List ℕ) : Type 0 where
  pub a : ℕ
  pub b : ℕ
  pub c : ℕ
  pub d : ℕ
  pub is : bytes ≡ a ∷ b ∷ c ∷ d ∷ []

four_of : (bytes : List ℕ) → length bytes ≡ 4 → Four bytes
four_of [] few = absurd (omega arith)
four_of (a ∷ []) few = absurd (omega arith)
four_of (a ∷ b ∷ []) few = absurd (omega arith)
four_of (a ∷ b ∷ c ∷ []) few = absurd (omega arith)
four_of (a ∷ b ∷ c ∷ d ∷ []) few = record { a = a; b = b; c = c; d = d; is = refl }
four_of (a ∷ b ∷ c ∷ d ∷ e ∷ rest) few = absurd (omega arith)

four_number : (n : ℕ) (bytes : List ℕ) (x : Four bytes) → bytes ≡ to_be_bytes w32 n → n < 2 ^ 32 → number_of x.a x.b x.c x.d ≡ n
four_number n bytes x are le = ap (λ (h : List ℕ). from_be_bytes w32 h) (sym x.is ∙ are) ∙ from_be_bytes-to_be_bytes_4 n le

pub spelled_blocks : (vectors : List (Vec ℕ Global)) → size_of (texts_of vectors) < 2 ^ 32 → Spells (texts_of vectors) (blocks_of (texts_of vectors))
spelled_blocks [] fit = refl
spelled_blocks (v ∷ vectors) fit =
    let n = length v.items in
    let m = 4294967295 - n in
    let one = four_of (to_be_bytes w32 n) refl in
    let two = four_of (to_be_bytes w32 m) refl in
    let below : n < 2 ^ 32 = omega (arith, fit) in
    let size_is : number_of one.a one.b one.c one.d ≡ n = four_number n (to_be_bytes w32 n) one refl below in
    let lack_is : number_of two.a two.b two.c two.d ≡ m = four_number m (to_be_bytes w32 m) two refl (omega (arith, fit)) in
    record {
      head = record { gate = 255; a = one.a; b = one.b; c = one.c; d = one.d; e = two.a; f = two.b; i = two.c; j = two.d };
      rest = blocks_of (texts_of vectors);
      is = ap (λ (h : List ℕ). 255 ∷ ((h ++ (to_be_bytes w32 m ++ v.items)) ++ blocks_of (texts_of vectors))) one.is
          ∙ ap (λ (h : List ℕ). 255 ∷ (((one.a ∷ one.b ∷ one.c ∷ one.d ∷ []) ++ (h ++ v.items)) ++ blocks_of (texts_of vectors))) two.is;
      is_open = omega arith;
      agree = omega (arith, size_is, lack_is, below);
      size_is = size_is;
      behind = spelled_blocks vectors (omega (arith, fit));
    }

-- one text more is spelled
pub blocks_push : (vectors : List (Vec ℕ Global)) (v : Vec ℕ Global) → blocks_of (texts_of (vectors ++ v ∷ [])) ≡ blocks_of (texts_of vectors) ++ block_of v.items
blocks_push [] v = append-nil (block_of v.items)
blocks_push (w ∷ vectors) v = ap (λ (l : List ℕ). block_of w.items ++ l) (blocks_push vectors v) ∙ sym (append_assoc (block_of w.items) (blocks_of (texts_of vectors)) (block_of v.items))

-- ---- the parts of a file

-- a file is the open blocks of its texts, and an end that stands for nothing
pub record Parts (file : List ℕ) : Type 0 where
  pub front : List ℕ
  pub end : List ℕ
  pub split : file ≡ front ++ end
  pub spelled : Spells (recovered file) front
  pub nothing : recovered end ≡ []

none_of : (file : List ℕ) → recovered file ≡ [] → Parts file
none_of file none = record { front = []; end = file; split = refl; spelled = subst (λ (l : List (List ℕ)). Spells l []) (sym none) refl; nothing = none }

-- a first block that counts, before the parts of what stands behind it
joined : (x : Head) (rest : List ℕ) → counts_at x rest ≡ true → Parts (drop (size x) rest) → Parts (laid x rest)
joined x rest does inner =
    let k = size x in
    let so = counted x rest does in
    let whole : rest ≡ take k rest ++ (inner.front ++ inner.end) = sym (take-append-drop k rest) ∙ ap (λ (l : List ℕ). take k rest ++ l) inner.split in
    record {
      front = laid x (take k rest ++ inner.front);
      end = inner.end;
      split = ap (λ (l : List ℕ). laid x l) (whole ∙ sym (append_assoc (take k rest) inner.front inner.end));
      spelled = subst (λ (l : List (List ℕ)). Spells l (laid x (take k rest ++ inner.front))) (sym (first_counts x rest does)) (record {
        head = x;
        rest = inner.front;
        is = refl;
        is_open = so.is_open;
        agree = so.agree;
        size_is = sym (length-take-le k rest so.fits);
        behind = inner.spelled;
      });
      nothing = inner.nothing;
    }

parts_within : (most : ℕ) (file : List ℕ) → length file ≤ most → Parts file
parts_within most [] le = none_of [] refl
parts_within most (g ∷ []) le = none_of (g ∷ []) refl
parts_within most (g ∷ a ∷ []) le = none_of (g ∷ a ∷ []) refl
parts_within most (g ∷ a ∷ b ∷ []) le = none_of (g ∷ a ∷ b ∷ []) refl
parts_within most (g ∷ a ∷ b ∷ c ∷ []) le = none_of (g ∷ a ∷ b ∷ c ∷ []) refl
parts_within most (g ∷ a ∷ b ∷ c ∷ d ∷ []) le = none_of (g ∷ a ∷ b ∷ c ∷ d ∷ []) refl
parts_within most (g ∷ a ∷ b ∷ c ∷ d ∷ e ∷ []) le = none_of (g ∷ a ∷ b ∷ c ∷ d ∷ e ∷ []) refl
parts_within most (g ∷ a ∷ b ∷ c ∷ d ∷ e ∷ f ∷ []) le = none_of (g ∷ a ∷ b ∷ c ∷ d ∷ e ∷ f ∷ []) refl
parts_within most (g ∷ a ∷ b ∷ c ∷ d ∷ e ∷ f ∷ i ∷ []) le = none_of (g ∷ a ∷ b ∷ c ∷ d ∷ e ∷ f ∷ i ∷ []) refl
parts_within zero (g ∷ a ∷ b ∷ c ∷ d ∷ e ∷ f ∷ i ∷ j ∷ rest) le = absurd (omega arith)
parts_within (suc most) (g ∷ a ∷ b ∷ c ∷ d ∷ e ∷ f ∷ i ∷ j ∷ rest) le =
    let x : Head = record { gate = g; a = a; b = b; c = c; d = d; e = e; f = f; i = i; j = j } in
    elim (cases_Bool (counts_at x rest)) [
      | inl does ↦ joined x rest does (parts_within most (drop (size x) rest) (omega (arith, length-drop (size x) rest, le)))
      | inr not_so ↦ none_of (g ∷ a ∷ b ∷ c ∷ d ∷ e ∷ f ∷ i ∷ j ∷ rest) (first_not x rest not_so)
    ]

pub parts : (file : List ℕ) → Parts file
parts file = parts_within (length file) file (omega arith)
