-- What is read of a file, piece by piece: a block more, or its end.
use Rattle.std.proofs.Common.{◌≡◌, ◌≢◌, ℕ, ◌+◌, ◌≤◌, ◌<◌, List, [], ◌∷◌, ◌++◌, length, take, drop, refl, sym, ◌∙◌, ap, subst, arith, append_assoc, length-append, length-drop, Bool, true, false}
use Rattle.std.specs.Prelude.{not, slice_index, ◌==◌, ◌&&◌, ◌||◌, nat_le}
use Rattle.std.proofs.lemmas.Bool.{and_left, and_right, or_from, le-leb, lt-leb, ne_eqb}
use Rattle.std.proofs.lemmas.List.{append-nil, drop_at}
use Rattle.journal.specs.Journal.{number_of, counts, recovered, covered, size_of, ends_closed, can_be_left}
use Rattle.journal.specs.Reading.{IsHead}
use Rattle.journal.specs.declared.blocks.TheConstants.{MOST_GROUP}
use Rattle.journal.proofs.Spelled.{Head, Headed, laid, size, lack, headed, short, closed, Spells, length-spelled, spelled_then, spelled_more}
use Rattle.journal.proofs.Damaged.{whole, open_gates}

-- ---- a block more

spelled_is : (texts : List (List ℕ)) (front : List ℕ) → Spells texts front → recovered front ≡ texts
spelled_is texts front s = ap recovered (sym (append-nil front)) ∙ spelled_then texts front [] s ∙ append-nil texts

pub record Added (front text new : List ℕ) : Type 0 where
  pub texts : recovered new ≡ recovered front ++ text ∷ []
  pub whole_now : covered new ≡ length new

head_is : (head : List ℕ) (h : Headed head) → length head ≡ 9 → head ≡ laid h.head []
head_is head h long = h.is ∙ ap (λ (l : List ℕ). laid h.head l) (none h.rest (omega (arith, long, ap length h.is)))
  where
    none : (l : List ℕ) → length l ≡ 0 → l ≡ []
    none [] few = refl
    none (x ∷ l) few = absurd (omega arith)

-- the head, told by its parts
record Opens (head : List ℕ) (n : ℕ) : Type 0 where
  pub head_of : Head
  pub is : head ≡ laid head_of []
  pub is_open : head_of.gate ≢ 0
  pub size_is : n ≡ size head_of
  pub agree : n + lack head_of ≡ 4294967295

opens : (head : List ℕ) (n : ℕ) → IsHead head n → Opens head n
opens head n is =
    let h = headed head (omega (arith, is.0)) in
    let same = head_is head h is.0 in
    let so = subst (λ (l : List ℕ). (slice_index l 0 ≢ 0) × (n ≡ number_of (slice_index l 1) (slice_index l 2) (slice_index l 3) (slice_index l 4))
    × (n + number_of (slice_index l 5) (slice_index l 6) (slice_index l 7) (slice_index l 8) ≡ 4294967295)) same (is.1, is.2, is.3) in
    record { head_of = h.head; is = same; is_open = so.0; size_is = so.1; agree = so.2 }

pub block_added : (front head text : List ℕ) → covered front ≡ length front → IsHead head (length text) → Added front text ((front ++ head) ++ text)
block_added front head text is_whole is_head =
    let o = opens head (length text) is_head in
    let block : Spells (text ∷ []) (laid o.head_of text) =
    record { head = o.head_of; rest = []; is = ap (λ (l : List ℕ). laid o.head_of l) (sym (append-nil text)); is_open = o.is_open; agree = ap (λ (k : ℕ). k + lack o.head_of) (sym o.size_is) ∙ o.agree; size_is = sym o.size_is; behind = refl } in
    let s = spelled_more (recovered front) (text ∷ []) front (laid o.head_of text) (whole front is_whole) block in
    let same : (front ++ head) ++ text ≡ front ++ laid o.head_of text = append_assoc front head text ∙ ap (λ (l : List ℕ). front ++ (l ++ text)) o.is in
    let texts = spelled_is (recovered front ++ text ∷ []) (front ++ laid o.head_of text) s in
    record {
      texts = ap recovered same ∙ texts;
      whole_now = ap covered same ∙ ap size_of texts ∙ sym (length-spelled (recovered front ++ text ∷ []) (front ++ laid o.head_of text) s) ∙ ap length (sym same);
    }

-- ---- no block

open_no : (front head behind : List ℕ) (h : Headed head) → head ≡ laid h.head [] → covered front ≡ length front → h.head.gate ≢ 0
    → counts h.head.gate (size h.head) (lack h.head) (length behind) ≡ false → can_be_left ((front ++ head) ++ behind) ≡ false
open_no front head behind h same is_whole is_open not_so =
    let x = h.head in
    ap can_be_left (append_assoc front head behind ∙ ap (λ (l : List ℕ). front ++ (l ++ behind)) same) ∙ open_gates front behind x.gate x.a x.b x.c x.d x.e x.f x.i x.j is_whole is_open not_so

-- a text that is cut short by the file's end
pub cut_short : (front head text : List ℕ) (n : ℕ) → covered front ≡ length front → IsHead head n → length text < n → can_be_left ((front ++ head) ++ text) ≡ false
cut_short front head text n is_whole is_head few =
    let o = opens head n is_head in
    let h : Headed head = record { head = o.head_of; rest = []; is = o.is } in
    open_no front head text h o.is is_whole o.is_open
    (and_right (not (o.head_of.gate == 0)) ((size o.head_of + lack o.head_of == 4294967295) && nat_le (size o.head_of) (length text))
    (and_right (size o.head_of + lack o.head_of == 4294967295) (nat_le (size o.head_of) (length text)) (lt-leb (size o.head_of) (length text) (omega (arith, few, o.size_is)))))

-- an open gate with numbers that don't agree
pub disagrees : (front head behind : List ℕ) (k m : ℕ) → covered front ≡ length front → length head ≡ 9 → slice_index head 0 ≢ 0
    → k ≡ number_of (slice_index head 1) (slice_index head 2) (slice_index head 3) (slice_index head 4)
    → m ≡ number_of (slice_index head 5) (slice_index head 6) (slice_index head 7) (slice_index head 8)
    → k + m ≢ 4294967295 → can_be_left ((front ++ head) ++ behind) ≡ false
disagrees front head behind k m is_whole long is_open k_is m_is differ =
    let h = headed head (omega (arith, long)) in
    let same = head_is head h long in
    let so = subst (λ (l : List ℕ). (slice_index l 0 ≢ 0) × (k ≡ number_of (slice_index l 1) (slice_index l 2) (slice_index l 3) (slice_index l 4))
    × (m ≡ number_of (slice_index l 5) (slice_index l 6) (slice_index l 7) (slice_index l 8))) same (is_open, k_is, m_is) in
    let x = h.head in
    let sum : size x + lack x ≢ 4294967295 = λ is. differ (ap (λ (j : ℕ). j + m) so.1 ∙ ap (λ (j : ℕ). size x + j) so.2 ∙ is) in
    open_no front head behind h same is_whole so.0
    (and_right (not (x.gate == 0)) ((size x + lack x == 4294967295) && nat_le (size x) (length behind))
    (and_left (size x + lack x == 4294967295) (nat_le (size x) (length behind)) (ne_eqb (size x + lack x) 4294967295 sum)))

-- ---- the end

pub record Ended (front file : List ℕ) (tail : List ℕ) : Type 0 where
  pub texts : recovered file ≡ recovered front
  pub covered_is : covered file ≡ length front
  pub left : can_be_left file ≡ (nat_le (length file) 1 || ends_closed tail)

pub ended : (front tail : List ℕ) → covered front ≡ length front → recovered tail ≡ [] → Ended front (front ++ tail) tail
ended front tail is_whole none =
    let texts : recovered (front ++ tail) ≡ recovered front = spelled_then (recovered front) front tail (whole front is_whole) ∙ ap (λ (l : List (List ℕ)). recovered front ++ l) none ∙ append-nil (recovered front) in
    let end : covered (front ++ tail) ≡ length front = ap size_of texts ∙ is_whole in
    record {
      texts = texts;
      covered_is = end;
      left = ap (λ (n : ℕ). nat_le (length (front ++ tail)) 1 || ends_closed (drop n (front ++ tail))) end ∙ ap (λ (l : List ℕ). nat_le (length (front ++ tail)) 1 || ends_closed l) (drop_at front tail (length front) refl);
    }

or_right : (x y : Bool) → y ≡ true → (x || y) ≡ true
or_right true y is = refl
or_right false y is = is

-- fewer bytes than a head
pub short_ended : (front tail : List ℕ) → covered front ≡ length front → length tail < 9 → Ended front (front ++ tail) tail
short_ended front tail is_whole few = ended front tail is_whole (short tail (omega (arith, few)))

-- a closed gate
gate_ended : (front tail : List ℕ) → covered front ≡ length front → Ended front (front ++ 0 ∷ tail) (0 ∷ tail)
gate_ended front tail is_whole = ended front (0 ∷ tail) is_whole (closed tail)

gate_front : (head : List ℕ) → take 1 head ≡ 0 ∷ [] → head ≡ 0 ∷ drop 1 head
gate_front [] is = absurd (omega (arith, ap length is))
gate_front (gate ∷ rest) is = ap (λ (g : List ℕ). g ++ rest) is

pub closed_ended : (front head rest : List ℕ) → covered front ≡ length front → take 1 head ≡ 0 ∷ [] → Ended front ((front ++ head) ++ rest) (0 ∷ (drop 1 head ++ rest))
closed_ended front head rest is_whole gate =
    let same : (front ++ head) ++ rest ≡ front ++ 0 ∷ (drop 1 head ++ rest) = append_assoc front head rest ∙ ap (λ (l : List ℕ). front ++ (l ++ rest)) (gate_front head gate) in
    let e = gate_ended front (drop 1 head ++ rest) is_whole in
    record { texts = ap recovered same ∙ e.texts; covered_is = ap covered same ∙ e.covered_is; left = ap can_be_left same ∙ e.left ∙ ap (λ (l : List ℕ). nat_le (length l) 1 || ends_closed (0 ∷ (drop 1 head ++ rest))) (sym same) }

length-behind : (head rest : List ℕ) → length head ≡ 9 → length (drop 1 head ++ rest) ≡ 8 + length rest
length-behind head rest long = omega (arith, length-append (drop 1 head) rest, length-drop 1 head, long)

pub closed_left : (front head rest : List ℕ) → covered front ≡ length front → take 1 head ≡ 0 ∷ [] → length head ≡ 9 → 8 + length rest ≤ MOST_GROUP → can_be_left ((front ++ head) ++ rest) ≡ true
closed_left front head rest is_whole gate long few =
    let e = closed_ended front head rest is_whole gate in
    e.left ∙ or_right (nat_le (length ((front ++ head) ++ rest)) 1) (ends_closed (0 ∷ (drop 1 head ++ rest))) (le-leb (length (drop 1 head ++ rest)) MOST_GROUP (omega (arith, length-behind head rest long, few)))

-- more than a group behind it, however the file goes on
pub closed_long : (front head rest behind : List ℕ) → covered front ≡ length front → take 1 head ≡ 0 ∷ [] → length head ≡ 9 → MOST_GROUP < 8 + length rest → can_be_left (((front ++ head) ++ rest) ++ behind) ≡ false
closed_long front head rest behind is_whole gate long many =
    let same : ((front ++ head) ++ rest) ++ behind ≡ (front ++ head) ++ (rest ++ behind) = append_assoc (front ++ head) rest behind in
    let e = closed_ended front head (rest ++ behind) is_whole gate in
    let all : length ((front ++ head) ++ (rest ++ behind)) ≡ length front + 9 + length (rest ++ behind) = omega (arith, length-append (front ++ head) (rest ++ behind), length-append front head, long) in
    ap can_be_left same ∙ e.left
    ∙ or_from (nat_le (length ((front ++ head) ++ (rest ++ behind))) 1) (ends_closed (0 ∷ (drop 1 head ++ (rest ++ behind)))) (lt-leb _ 1 (omega (arith, all)))
    (lt-leb (length (drop 1 head ++ (rest ++ behind))) MOST_GROUP (omega (arith, length-behind head (rest ++ behind) long, length-append rest behind, many)))
