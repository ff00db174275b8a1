-- The laws that a program must keep, proved of the mail relay.
use Rattle.std.proofs.Common.{ℕ, ◌-◌, ◌<◌, ◌^◌, ◌++◌, List, [], length, nat_le, nat_lt, leb-false, ltb-false, refl, arith, lit≤}
use Rattle.std.proofs.lemmas.List.{get_or_append_left, get_or-append_right}
use Rattle.outcome.proofs.ByteLists.{IsBytes-drop, IsBytes-none, IsBytes-take, spelled_in_four}
use Rattle.log_chain.specs.Fields.{IsBytesUpTo}
use Rattle.replay_verifier.specs.Meaning.{Happening, IsHappening, Lawful, Received, Ticked}
use Rattle.state_codec.specs.Codings.{IsCoding, IsU32}
use Rattle.state_codec.specs.CodingLaws.{list_lawful, pair_lawful, struct_lawful, text_lawful, u32_lawful, u64_lawful}
use Rattle.state_codec.specs.StateLaws.{coded_lawful, either_stays, empty_stays, filter_stays, push_stays}
use Rattle.mailbox.specs.declared.held.Held.{Held}
use Rattle.mailbox.specs.declared.held.TheConstants.{LONGEST_TEXT, MOST_MAILS}
use Rattle.mailbox.specs.HeldMails.{IsHeld, IsMail, held_coding, held_of, held_parts, mail_coding, mail_of, mail_parts}
use Rattle.mailbox.specs.MailboxMeaning.{delivered, is_answer, is_delivery, is_fetch, mailbox, mailbox_start, mailbox_step, receiver}
use Rattle.mailbox.specs.UserWishes.{is_fetching, is_leaving, is_writing, leaving, piece, piece_len, wish_bytes, wished, writing}

-- The encoding of mails is lawful.
pub mail_lawful : IsCoding mail_coding IsMail
mail_lawful = struct_lawful mail_of mail_parts (λ p. refl) (λ m. refl) (pair_lawful u32_lawful (pair_lawful u32_lawful (pair_lawful u64_lawful (text_lawful LONGEST_TEXT (lit≤ tt)))))

-- The encoding of what a node holds is lawful.
pub held_lawful : IsCoding held_coding IsHeld
held_lawful = struct_lawful held_of held_parts (λ p. refl) (λ h. refl) (pair_lawful u64_lawful (pair_lawful (text_lawful LONGEST_TEXT (lit≤ tt)) (list_lawful MOST_MAILS (lit≤ tt) mail_lawful)))

no_text : IsBytesUpTo LONGEST_TEXT []
no_text = record { each = IsBytes-none; count = lit≤ tt }

-- If a text is left, what the node holds stays within its ranges.
leaving_stays : (held : Held) (from to : ℕ) (text : List ℕ) → IsHeld held → IsU32 to → IsHappening (Received from text) → IsHeld (delivered held from to text).state
leaving_stays held from to text fits t h =
    either_stays IsHeld (nat_lt LONGEST_TEXT (length text)) _ _ (λ long. fits) (λ short.
    either_stays IsHeld (nat_le MOST_MAILS (length held.mails)) _ _ (λ full. fits) (λ room.
    (fits.0, (fits.1.0, push_stays MOST_MAILS IsMail held.mails _ (leb-false _ _ room) (h.0, (t, (fits.0, record { each = h.1; count = ltb-false _ _ short }))) fits.1.1))))

-- At a wish, it stays within its ranges too.
wishes_stay : (held : Held) (moment : ℕ) → IsHeld held → IsHeld (wished held moment).state
unfolding leaving writing
wishes_stay held moment fits =
    let more = IsBytes-drop (8 - piece_len moment) (wish_bytes moment) (λ i. grind arith) in
    either_stays IsHeld (is_fetching moment) _ _ (λ f. fits) (λ f.
    either_stays IsHeld (is_leaving moment) _ _ (λ l. (fits.0, (no_text, fits.1.1))) (λ l.
    either_stays IsHeld (is_writing moment) _ _ (λ w.
    either_stays IsHeld (nat_lt LONGEST_TEXT (length (held.draft ++ piece moment))) _ _ (λ long. fits) (λ short.
    (fits.0, (record { each = λ i. grind (arith, fits.1.0.each i, more (i - length held.draft), get_or_append_left held.draft (piece moment) 0 i, get_or-append_right held.draft (piece moment) (length held.draft) i 0 refl); count = ltb-false _ _ short }, fits.1.1))))
    (λ w. fits)))

-- At each step, it stays within its ranges.
steps : (me : ℕ) (held : Held) (h : Happening) → me < 2 ^ 32 → IsHeld held → IsHappening h → IsHeld (mailbox_step me held h).state
steps me held (Received from payload) m fits h =
    either_stays IsHeld (is_delivery payload) _ _ (λ d. leaving_stays held from (receiver payload) _ fits (spelled_in_four.below _ (IsBytes-take 4 _ (IsBytes-drop 1 payload h.1))) (h.0, IsBytes-drop 5 payload h.1)) (λ d.
    either_stays IsHeld (is_fetch payload) _ _ (λ f. (fits.0, (fits.1.0, filter_stays MOST_MAILS IsMail _ held.mails fits.1.1))) (λ f.
    either_stays IsHeld (is_answer payload) _ _ (λ a. fits) (λ a. fits)))
steps me held (Ticked moment) m fits h =
    either_stays IsHeld (nat_lt moment (2 ^ 63)) _ _ (λ t. (omega arith, (fits.1.0, filter_stays MOST_MAILS IsMail _ held.mails fits.1.1))) (λ w. wishes_stay held moment fits)

-- The program is lawful.
pub mailbox_lawful : Lawful IsHeld mailbox
mailbox_lawful = coded_lawful held_coding IsHeld mailbox_start mailbox_step held_lawful (lit≤ tt) (λ me m. (omega arith, (no_text, empty_stays MOST_MAILS IsMail))) steps
