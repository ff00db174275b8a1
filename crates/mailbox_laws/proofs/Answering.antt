-- Answers are not answered.
use Rattle.std.proofs.Common.{◌≡◌, ℕ, Bool, true, false, cond, eqb, leb, ltb, List, [], ◌∷◌, ◌++◌, length, drop, filter, map, refl, arith}
use Rattle.std.specs.List.{All, AllByRecursion, list_any}
use Rattle.std.specs.Int.{w32, to_be_bytes}
use Rattle.std.proofs.lemmas.Bool.{and_from, and_right, le-leb}
use Rattle.std.proofs.lemmas.List.Elements.{All-from_recursion, All-nil}
use Rattle.replay_verifier.specs.declared.output.Output.{Output}
use Rattle.replay_verifier.specs.declared.program.Step.{Step}
use Rattle.mailbox.specs.declared.held.Held.{Held}
use Rattle.mailbox.specs.declared.held.Mail.{Mail}
use Rattle.mailbox.specs.declared.held.TheConstants.{LONGEST_TEXT, MOST_MAILS}
use Rattle.mailbox.specs.declared.letters.TheConstants.{DELIVER, FETCH, FULL, MAIL, STORED, TOO_LONG, UNCLEAR}
use Rattle.mailbox.specs.MailboxMeaning.{answered, delivered, heard, is_answer, is_delivery, is_fetch, is_for, receiver, sent}
use Rattle.mailbox.specs.UserWishes.{silent}
use Rattle.mailbox_laws.specs.MailLaws.{AnswersAreNotAnswered}

-- The message does nothing to the node.
abbrev Quiet : Held → ℕ → Output → Type 0
Quiet other node o = heard other node o.payload ≡ silent other

-- An answer begins with the letter.
abbrev is_letter : ℕ → Bool
is_letter letter = list_any (λ l. eqb letter l) (MAIL ∷ STORED ∷ TOO_LONG ∷ FULL ∷ UNCLEAR ∷ [])

answer_is_quiet : (other : Held) (node letter : ℕ) (rest : List ℕ) → eqb letter DELIVER ≡ false → eqb letter FETCH ≡ false → is_letter letter ≡ true → heard other node (letter ∷ rest) ≡ silent other
answer_is_quiet other node letter rest d f a =
    let delivery : is_delivery (letter ∷ rest) ≡ false = and_right _ _ d in
    let fetch : is_fetch (letter ∷ rest) ≡ false = and_right _ _ f in
    let answer : is_answer (letter ∷ rest) ≡ true = and_from _ _ (le-leb 1 (length (letter ∷ rest)) (omega arith)) a in
    rw (delivery, fetch, answer) refl

mails_are_quiet : (other : Held) (node : ℕ) (mails : List Mail) → AllByRecursion (Quiet other node) (map sent mails)
mails_are_quiet other node [] = tt
mails_are_quiet other node (m ∷ mails) = (answer_is_quiet other node MAIL (to_be_bytes w32 m.from ++ m.text) refl refl refl, mails_are_quiet other node mails)

-- What a step puts out does nothing to the node.
record IsQuiet (other : Held) (node : ℕ) (step : Step Held) : Type 0 where
  each : All (Quiet other node) step.outputs

receipt : (other : Held) (node to letter : ℕ) (state : Held) → eqb letter DELIVER ≡ false → eqb letter FETCH ≡ false → is_letter letter ≡ true → IsQuiet other node (answered state to letter)
receipt other node to letter state d f a =
    let each : AllByRecursion (Quiet other node) (answered state to letter).outputs = (answer_is_quiet other node letter [] d f a, tt) in
    record { each = All-from_recursion (Quiet other node) (answered state to letter).outputs each }

either : (other : Held) (node : ℕ) (b : Bool) (x y : Step Held) → IsQuiet other node x → IsQuiet other node y → IsQuiet other node (cond b x y)
either other node true x y left right = left
either other node false x y left right = right

delivering : (held other : Held) (from to node : ℕ) (text : List ℕ) → IsQuiet other node (delivered held from to text)
delivering held other from to node text =
    let mail : Mail = record { from = from; to = to; at = held.clock; text = text } in
    either other node (ltb LONGEST_TEXT (length text)) _ _ (receipt other node from TOO_LONG held refl refl refl)
    (either other node (leb MOST_MAILS (length held.mails)) _ _ (receipt other node from FULL held refl refl refl)
    (receipt other node from STORED (record held { mails = held.mails ++ mail ∷ [] }) refl refl refl))

hearing : (held other : Held) (from node : ℕ) (payload : List ℕ) → IsQuiet other node (heard held from payload)
hearing held other from node payload =
    either other node (is_delivery payload) _ _ (delivering held other from (receiver payload) node (drop 5 payload))
    (either other node (is_fetch payload) _ (cond (is_answer payload) (silent held) (answered held from UNCLEAR)) (record { each = All-from_recursion (Quiet other node) _ (mails_are_quiet other node (filter (is_for from) held.mails)) })
    (either other node (is_answer payload) (silent held) _ (record { each = All-nil (Quiet other node) }) (receipt other node from UNCLEAR held refl refl refl)))

pub answers_are_not_answered : AnswersAreNotAnswered
answers_are_not_answered held other from node payload = (hearing held other from node payload).each
