-- What stands in front of the rest of a text.
use Rattle.std.proofs.Common.{◌≡◌, ◌∙◌, ◌+◌, ◌-◌, ◌≤◌, ◌<◌, ℕ, true, false, ltb, List, [], ◌∷◌, ◌++◌, length, take, drop, Result, Ok, Err, inl, inr, refl, sym, ap, subst, arith}
use Rattle.std.specs.Int.{w32, from_be_bytes}
use Rattle.std.proofs.lemmas.Bool.{cases_lt, lt-ltb, le-ltb}
use Rattle.std.proofs.lemmas.List.{append_assoc, drop_at, length-append, take-append-drop, take_at}
use Rattle.log_chain.specs.declared.fault.FieldFault.{FieldFault}
use Rattle.log_chain.specs.declared.fault.FieldFault.TheVariants.{Truncated, TooLong}
use Rattle.log_chain.specs.Fields.{bytes_at}
use Rattle.item_forms.specs.declared.limits.TheConstants.{LONGEST_ITEM}
use Rattle.parallel_reading.specs.Readings.{AreNext, last_of}
use Rattle.item_forms.specs.declared.forms.Fields.{Fields}
use Rattle.containers.specs.Rest.{ItemReader, rest_of}
use Rattle.parallel_reading.specs.within.Texts.{StandsBefore, still_of}

same_ok : (x y : List ℕ × List ℕ) → ◌≡◌ {A = Result (List ℕ × List ℕ) FieldFault} (Ok x) (Ok y) → x ≡ y
same_ok x y is = cc is

-- a text stands before what is behind it
parted : (most : ℕ) (bytes text rest : List ℕ) → bytes_at most bytes ≡ Ok (text, rest) → StandsBefore text rest bytes
parted most bytes text rest is =
    elim (cases_lt (length bytes) 4) [
      | inl lt ↦
          let t : ltb (length bytes) 4 ≡ true = lt-ltb _ _ lt in
          let e : bytes_at most bytes ≡ Err Truncated = rw t refl in
          absurd (cc (e, is))
      | inr le ↦
          let t : ltb (length bytes) 4 ≡ false = le-ltb _ _ le in
          elim (cases_lt most (from_be_bytes w32 (take 4 bytes))) [
            | inl over ↦
                let u : ltb most (from_be_bytes w32 (take 4 bytes)) ≡ true = lt-ltb _ _ over in
                let e : bytes_at most bytes ≡ Err TooLong = rw (t, u) refl in
                absurd (cc (e, is))
            | inr within ↦
                let u : ltb most (from_be_bytes w32 (take 4 bytes)) ≡ false = le-ltb _ _ within in
                elim (cases_lt (length (drop 4 bytes)) (from_be_bytes w32 (take 4 bytes))) [
                  | inl lt ↦
                      let v : ltb (length (drop 4 bytes)) (from_be_bytes w32 (take 4 bytes)) ≡ true = lt-ltb _ _ lt in
                      let e : bytes_at most bytes ≡ Err Truncated = rw (t, u, v) refl in
                      absurd (cc (e, is))
                  | inr long ↦
                      let v : ltb (length (drop 4 bytes)) (from_be_bytes w32 (take 4 bytes)) ≡ false = le-ltb _ _ long in
                      let n : ℕ = from_be_bytes w32 (take 4 bytes) in
                      let e : bytes_at most bytes ≡ Ok (take n (drop 4 bytes), drop n (drop 4 bytes)) = rw (t, u, v) refl in
                      let same : ◌≡◌ {A = List ℕ × List ℕ} (take n (drop 4 bytes), drop n (drop 4 bytes)) (text, rest) = same_ok (take n (drop 4 bytes), drop n (drop 4 bytes)) (text, rest) (sym e ∙ is) in
                      let one : take n (drop 4 bytes) ≡ text = ap (λ (p : List ℕ × List ℕ). p.0) same in
                      let two : drop n (drop 4 bytes) ≡ rest = ap (λ (p : List ℕ × List ℕ). p.1) same in (
                        take 4 bytes,
                        sym (take-append-drop 4 bytes)
                            ∙ ap (λ (l : List ℕ). take 4 bytes ++ l) (sym (take-append-drop n (drop 4 bytes)) ∙ ap (λ (l : List ℕ). l ++ drop n (drop 4 bytes)) one ∙ ap (λ (l : List ℕ). text ++ l) two),
                      )
                ]
          ]
    ]

pub first_stands : (text bytes rest : List ℕ) → bytes_at LONGEST_ITEM bytes ≡ Ok (text, rest) → StandsBefore text rest bytes
first_stands text bytes rest is = parted LONGEST_ITEM bytes text rest is

-- behind one text more
pub further : (bytes front behind last rest : List ℕ) → bytes ≡ front ++ behind → StandsBefore last rest behind → StandsBefore last rest bytes
further bytes front behind last rest is (more, at) = (front ++ more, is ∙ ap (λ (l : List ℕ). front ++ l) at ∙ sym (append_assoc front more (last ++ rest)))

-- the last of some texts
pub last_stands : (last : List ℕ) (texts : List (List ℕ)) (bytes rest : List ℕ) → AreNext texts bytes rest → 0 < length texts → StandsBefore (last_of last texts) rest bytes
last_stands last [] bytes rest stand some = absurd (omega (arith, some))
last_stands last (t ∷ []) bytes rest (behind, first, is) some = subst (λ (l : List ℕ). StandsBefore t l bytes) is (parted LONGEST_ITEM bytes t behind first)
last_stands last (t ∷ u ∷ ts) bytes rest (behind, first, others) some =
    let (front, is) = parted LONGEST_ITEM bytes t behind first in
    further bytes (front ++ t) behind (last_of u ts) rest (is ∙ sym (append_assoc front t behind)) (last_stands t (u ∷ ts) behind rest others (omega arith))

-- what is passed over, and what is left
module _ (last rest bytes : List ℕ) (stands : StandsBefore last rest bytes) (passed : ℕ) (is : passed ≡ length bytes - length rest - length last) where
  abbrev front : List ℕ
  front = stands.0

  long : length bytes ≡ length front + (length last + length rest)
  long = ap (λ (l : List ℕ). length l) stands.1 ∙ length-append front (last ++ rest) ∙ ap (λ n. length front + n) (length-append last rest)

  place : passed ≡ length front
  place = let l = long in omega (arith, is, l)

  pub inside : passed + length last ≤ length bytes
  inside = let l = long in let p = place in omega (arith, l, p)

  pub rest_is : drop passed bytes ≡ last ++ rest
  rest_is = ap (λ n. drop n bytes) place ∙ ap (λ (l : List ℕ). drop (length front) l) stands.1 ∙ drop_at front (last ++ rest) (length front) refl

  pub last_is : take (length last) (drop passed bytes) ≡ last
  last_is = ap (λ (l : List ℕ). take (length last) l) rest_is ∙ take_at last rest (length last) refl

  pub behind_is : drop (length last) (drop passed bytes) ≡ rest
  behind_is = ap (λ (l : List ℕ). drop (length last) l) rest_is ∙ drop_at last rest (length last) refl

pub still : (reads : ItemReader) (n : ℕ) (items : List Fields) (text rest bytes : List ℕ) → StandsBefore text rest bytes → (passed : ℕ) → passed ≡ length bytes - length rest - length text
    → rest_of reads n text items rest ≡ still_of reads n (length text) items (drop passed bytes)
still reads n items text rest bytes stands passed is =
    ap (λ (t : List ℕ). rest_of reads n t items rest) (sym (last_is text rest bytes stands passed is))
    ∙ ap (λ (r : List ℕ). rest_of reads n (take (length text) (drop passed bytes)) items r) (sym (behind_is text rest bytes stands passed is))

-- the text of an item that was read stands in front of what was behind another one's
pub still_stands : (last : ℕ) (text rest bytes : List ℕ) → StandsBefore text rest (drop last bytes) → StandsBefore text rest bytes
still_stands last text rest bytes stands = further bytes (take last bytes) (drop last bytes) text rest (sym (take-append-drop last bytes)) stands
