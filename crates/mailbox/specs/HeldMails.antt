-- What a node holds, and its encoding: that of each struct has the parts one after the other.
use Rattle.std.specs.Prelude.{ℕ, List}
use Rattle.log_chain.specs.Fields.{IsBytesUpTo, IsListUpTo}
use Rattle.state_codec.specs.Codings.{Coding, IsPair, IsStruct, IsU32, IsU64, list_coding, pair_coding, struct_coding, text_coding, u32_coding, u64_coding}
use Rattle.mailbox.specs.declared.held.Held.{Held}
use Rattle.mailbox.specs.declared.held.Mail.{Mail}
use Rattle.mailbox.specs.declared.held.TheConstants.{LONGEST_TEXT, MOST_MAILS}

-- ---- a mail

-- The parts of a mail: the node that left it, the node that it is for, the clock when it came, and its text.
abbrev pub mail_parts : Mail → ℕ × (ℕ × (ℕ × List ℕ))
mail_parts m = (m.from, (m.to, (m.at, m.text)))

-- The mail of these parts.
abbrev pub mail_of : ℕ × (ℕ × (ℕ × List ℕ)) → Mail
mail_of p = record { from = p.0; to = p.1.0; at = p.1.1.0; text = p.1.1.1 }

-- The encoding of a mail: 4, 4 and 8 bytes, and then the text with its length in front.
abbrev pub mail_coding : Coding Mail
mail_coding = struct_coding mail_of mail_parts (pair_coding u32_coding (pair_coding u32_coding (pair_coding u64_coding (text_coding LONGEST_TEXT))))

-- The parts of a mail are within their ranges.
abbrev pub IsMail : Mail → Type 0
IsMail = IsStruct mail_parts (IsPair IsU32 (IsPair IsU32 (IsPair IsU64 (IsBytesUpTo LONGEST_TEXT))))

-- ---- the clock, the draft and the mails

-- The parts of what a node holds: its clock, its draft and its mails.
abbrev pub held_parts : Held → ℕ × (List ℕ × List Mail)
held_parts h = (h.clock, (h.draft, h.mails))

-- What a node holds of these parts.
abbrev pub held_of : ℕ × (List ℕ × List Mail) → Held
held_of p = record { clock = p.0; draft = p.1.0; mails = p.1.1 }

-- The encoding of what a node holds: 8 bytes, the draft with its length in front, and the mails with their count in front.
abbrev pub held_coding : Coding Held
held_coding = struct_coding held_of held_parts (pair_coding u64_coding (pair_coding (text_coding LONGEST_TEXT) (list_coding MOST_MAILS mail_coding)))

-- The parts of what a node holds are within their ranges.
abbrev pub IsHeld : Held → Type 0
IsHeld = IsStruct held_parts (IsPair IsU64 (IsPair (IsBytesUpTo LONGEST_TEXT) (IsListUpTo MOST_MAILS IsMail)))
