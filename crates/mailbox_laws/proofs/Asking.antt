-- What a node asks, and how its user writes a text.
use Rattle.std.proofs.Common.{◌≡◌, ◌∙◌, ℕ, suc, ◌+◌, ◌*◌, ◌<◌, ◌≤◌, ◌^◌, false, leb, ltb, true, List, [], ◌∷◌, ◌++◌, length, take, drop, refl, sym, ap, arith, length-append}
use Rattle.std.proofs.lemmas.Bool.{le-leb, le-ltb}
use Rattle.std.proofs.lemmas.List.{append-nil, append_assoc, drop-drop, length-drop, length-take, nil_from_length, take-append-drop}
use Rattle.std.proofs.lemmas.Nat.{from_be_bytes-to_be_bytes_4}
use Rattle.replay_verifier.specs.declared.program.Step.{Step}
use Rattle.mailbox.specs.declared.held.Held.{Held}
use Rattle.mailbox.specs.declared.held.TheConstants.{LONGEST_TEXT}
use Rattle.mailbox.specs.MailboxMeaning.{IsWriting, delivered, heard, receiver, ticked}
use Rattle.mailbox.specs.UserWishes.{delivery, leaving, silent, writing}
use Rattle.mailbox_laws.specs.MailLaws.{RequestsAreUnderstood, TextsAreWritten, ticked_through}

-- ---- requests

left_is_understood : (relay : Held) (from to : ℕ) (text : List ℕ) → to < 2 ^ 32 → heard relay from (delivery to text) ≡ delivered relay from to text
left_is_understood relay from to text small =
    let long : leb 5 (length (delivery to text)) ≡ true = le-leb _ _ (omega arith) in
    let number : receiver (delivery to text) ≡ to = from_be_bytes-to_be_bytes_4 to small in
    rw (long, number) refl

pub requests_are_understood : RequestsAreUnderstood
unfolding leaving
requests_are_understood held relay from to small = (ap (λ (x : Step Held). x ∷ []) (left_is_understood relay from to held.draft small), refl)

-- ---- texts

one_more : (held : Held) (moment : ℕ) (moments : List ℕ) (next : Held) → ticked held moment ≡ silent next → ticked_through held (moment ∷ moments) ≡ ticked_through next moments
unfolding ticked_through
one_more held moment moments next is =
    ap (λ (first : Step Held). let others = ticked_through first.state moments in let all : Step Held = record { state = others.state; outputs = first.outputs ++ others.outputs } in all) is

none_more : (held : Held) → ticked_through held [] ≡ silent held
unfolding ticked_through
none_more held = refl

fitting : (held : Held) (bytes : List ℕ) → length held.draft + length bytes ≤ LONGEST_TEXT → writing held bytes ≡ silent (record held { draft = held.draft ++ bytes })
unfolding writing
fitting held bytes le =
    let short : ltb LONGEST_TEXT (length (held.draft ++ bytes)) ≡ false = le-ltb _ _ (omega (arith, length-append held.draft bytes)) in
    rw short refl

-- the other moments write what is behind the first seven bytes
others_write : (text : List ℕ) (moment : ℕ) (moments : List ℕ) → IsWriting text (moment ∷ moments) → IsWriting (drop 7 text) moments
others_write text moment moments is = record {
  count = omega (arith, is.count, length-drop 7 text);
  each = λ k lt held.
      let places : 7 * suc k ≡ 7 + 7 * k = omega arith in
      let rest : drop (7 * suc k) text ≡ drop (7 * k) (drop 7 text) = ap (λ (n : ℕ). drop n text) places ∙ sym (drop-drop (7 * k) 7 text) in
      is.each (suc k) (omega (arith, lt)) held ∙ ap (λ (t : List ℕ). writing held (take 7 t)) rest;
}

pub texts_are_written : TextsAreWritten
texts_are_written held text [] is le =
    let none : text ≡ [] = nil_from_length text (omega (arith, is.count)) in
    none_more held ∙ ap (λ (d : List ℕ). silent (record held { draft = d })) (sym (ap (λ (t : List ℕ). held.draft ++ t) none ∙ append-nil held.draft))
texts_are_written held text (moment ∷ moments) is le =
    let next : Held = record held { draft = held.draft ++ take 7 text } in
    let first : ticked held moment ≡ silent next = is.each 0 (omega arith) held ∙ fitting held (take 7 text) (omega (arith, le, length-take 7 text)) in
    one_more held moment moments next first
    ∙ texts_are_written next (drop 7 text) moments (others_write text moment moments is) (omega (arith, le, length-take 7 text, length-drop 7 text, length-append held.draft (take 7 text)))
    ∙ ap (λ (d : List ℕ). silent (record held { draft = d })) (append_assoc held.draft (take 7 text) (drop 7 text) ∙ ap (λ (t : List ℕ). held.draft ++ t) (take-append-drop 7 text))
