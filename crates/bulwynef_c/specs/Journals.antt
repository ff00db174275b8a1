-- What the calls for journals of nodes answer, by the texts that are handed to them.
use Rattle.std.specs.Prelude.{◌≡◌, ◌⊎◌, ℕ, Bool, List, Ok}
use Rattle.outcome.specs.Outcome.{Fails}
use Rattle.mailbox.specs.MailboxMeaning.{mailbox}
use Rattle.ref_programs.specs.RelayMeaning.{relay}
use Rattle.ref_programs.specs.TallyMeaning.{tally}
use Rattle.lms_sign.specs.Signing.{PrivateKey, public_key}
use Rattle.commitment.specs.Nodes.{NodeState}
use Rattle.byte_calls.specs.declared.refusal.Refusal.{Refusal}
use Rattle.byte_calls.specs.declared.refusal.Refusal.TheVariants as refusal
use Rattle.byte_calls.specs.Journals.{first_text, knows, restored}
use Rattle.bulwynef_c.specs.Calls.{flag}
use Rattle.bulwynef_c.specs.Programs.{IsNoProgram, IsNumberOf, meaning, program_name}
use Rattle.bulwynef_c.specs.declared.programs.Followed.{Followed}
use Rattle.bulwynef_c.specs.declared.programs.Followed.TheVariants as followed
use Rattle.bulwynef_c.specs.declared.object.Object.{Object}
use Rattle.bulwynef_c.specs.declared.object.Object.TheVariants as object

-- ---- the first text

-- The text is the first one of the journal of a node that follows the program with this number and begins so.
abbrev pub IsFirstText : ℕ → List ℕ → ℕ → ℕ → PrivateKey → List ℕ → Type 0
IsFirstText number directory id first key text =
    (p : Followed) × IsNumberOf number p × (first_text (program_name p) directory id first (public_key key) ≡ Ok text)

-- Why there is none: there is no such program, or the directory's text is refused.
abbrev pub FirstTextFails : ℕ → List ℕ → ℕ → ℕ → PrivateKey → Refusal → Type 0
FirstTextFails number directory id first key f =
    ((p : Followed) × IsNumberOf number p × Fails refusal.Memory f (first_text (program_name p) directory id first (public_key key))) ⊎ (IsNoProgram number × (f ≡ refusal.BadProgram))

-- ---- the node of a journal

-- The node that a journal is rebuilt to, under the program with this number.
abbrev pub IsRestored : ℕ → List ℕ → List ℕ → List ℕ → Object → Type 0
IsRestored number directory secrets file (object.TallyStore s d) = ⊥
IsRestored number directory secrets file (object.RelayStore s d) = ⊥
IsRestored number directory secrets file (object.MailboxStore s d) = ⊥
IsRestored number directory secrets file (object.TallyNode n) = (number ≡ 1) × (restored tally (program_name followed.Tally) directory secrets file ≡ Ok n)
IsRestored number directory secrets file (object.RelayNode n) = (number ≡ 2) × (restored relay (program_name followed.Relay) directory secrets file ≡ Ok n)
IsRestored number directory secrets file (object.MailboxNode n) = (number ≡ 3) × (restored mailbox (program_name followed.Mailbox) directory secrets file ≡ Ok n)
IsRestored number directory secrets file (object.Text t) = ⊥

-- Why there is none.
abbrev pub RestoreFails : ℕ → List ℕ → List ℕ → List ℕ → Refusal → Type 0
RestoreFails number directory secrets file f =
    ((p : Followed) × IsNumberOf number p × Fails refusal.Memory f (restored (meaning p) (program_name p) directory secrets file)) ⊎ (IsNoProgram number × (f ≡ refusal.BadProgram))

-- ---- a rebuilt node and its witnesses

-- The number says whether the node knows the statement of a text.
abbrev pub Knows : {S : Type 0} → List ℕ → ℕ → NodeState S → Type 0
Knows text told n = (known : Bool) × (told ≡ flag known) × (knows n text ≡ Ok known)

-- Why it does not say so: memory ran out, or the text is refused.
abbrev pub KnowFails : {S : Type 0} → List ℕ → NodeState S → Refusal → Type 0
KnowFails text n f = Fails refusal.Memory f (knows n text)
