-- What an engine did with files and a writer.
use Rattle.std.specs.Prelude.{ℕ, ◌≡◌, ◌⊎◌, ◌+◌, ◌^◌, ◌<◌, List, None, Result, Ok, Err, IfErr, IfOk, OnOk}
use Rattle.std.specs.Io.KnownBytes.{Appends}
use Rattle.commands.specs.declared.fault.Fault.{Fault}
use Rattle.commands.specs.declared.fault.Fault.TheVariants as fault
use Rattle.commands.specs.Devices.{Writer}
use Rattle.operating.specs.declared.asking.Ending.{Ending}
use Rattle.operating.specs.declared.refusal.Refusal.{Refusal}
use Rattle.operating.specs.ConvictingFiles.{AreConvictingUnder, RefusesConviction}
use Rattle.operating.specs.FileTexts.{IsUnsaid, Opened, Says}
use Rattle.operating.specs.GatheredFiles.{AreGathered, Collected, IsOfFile, RefusesFiles}
use Rattle.operating.specs.Questions.{Check, Show}
use Rattle.answers.specs.declared.style.Style.{Style}
use Rattle.replay_verifier.specs.Meaning.{Meaning}

-- The counts have room for what an engine does with this many files and one write.
pub record HasRoom (count : ℕ) (opened : Opened) (writer : Writer) : Type 0 where
  pub openings : opened.failures + count < 2 ^ 63
  pub writings : writer.failures < 2 ^ 63

-- Why there was no answer to what was read: memory ran out, or there is no answer, or it could not be written.
abbrev pub LacksAnswer : (Result (List ℕ × Ending) Fault → Type 0) → Fault → Type 0
LacksAnswer answers f = (f ≡ fault.Memory) ⊎ answers (Err f) ⊎ ((f ≡ fault.WriteFailed) × (told : List ℕ × Ending) × answers (Ok told))

-- What an engine did with files and a writer. `reads s` holds if the files say `s`. `refuses r` holds if they are refused with `r`.
-- `question s` holds of the text that answers `s` and of how the engine ends, or of the fault if there is no answer.
pub record Ran {S W : Type 0} (reads : S → Type 0) (refuses : Refusal → Type 0) (question : S → Result (List ℕ × Ending) Fault → Type 0) (result : Result Ending Refusal) (old new : Opened) (seen : W → Writer) (before after : W) : Type 0 where
  -- What is written is the answer to what the files say, and nothing else.
  pub done : IfOk result (λ ending. (s : S) × (text : List ℕ) × reads s × question s (Ok (text, ending)) × Appends (seen before).written (seen after).written text)
  -- A refusal is that of the files, or else what they say has no answer.
  pub refused : IfErr result (λ r. refuses r ⊎ ((s : S) × reads s × (r.file ≡ None) × LacksAnswer (question s) r.fault))
  -- A refused engine has written nothing, or the write itself failed and its count rose.
  pub nothing_written : IfErr result (λ r. (after ≡ before) ⊎ ((r.fault ≡ fault.WriteFailed) × ((seen before).failures < (seen after).failures)))
  -- A device's fault is reported only if its count of failures rose.
  pub read_failed : IfErr result (λ r. r.fault ≡ fault.ReadFailed → old.failures < new.failures)
  pub write_failed : IfErr result (λ r. r.fault ≡ fault.WriteFailed → (seen before).failures < (seen after).failures)
  -- If the engine is done, no file and no write failed.
  pub reads_well : OnOk result (new.failures ≡ old.failures)
  pub writes_well : OnOk result ((seen after).failures ≡ (seen before).failures)

-- An engine asked a question to the evidence of a directory and this many stores.
abbrev pub RanOnStores : {W : Type 0} → (Collected → Result (List ℕ × Ending) Fault → Type 0) → ℕ → ℕ → Result Ending Refusal → Opened → Opened → (W → Writer) → W → W → Type 0
RanOnStores question limit count result old new seen before after = Ran (AreGathered limit old.files count) (RefusesFiles limit old.files count) question result old new seen before after

-- An engine asked whom a proof convicts under a directory and the program, which has this name.
abbrev pub RanOnProof : {S W : Type 0} → Style → List ℕ → Meaning S → ℕ → Result Ending Refusal → Opened → Opened → (W → Writer) → W → W → Type 0
RanOnProof style name program limit result old new seen before after = Ran (AreConvictingUnder program limit old.files) (RefusesConviction program limit old.files) (Check style name) result old new seen before after

-- An engine asked what one file is.
abbrev pub RanOnFile : {W : Type 0} → Style → ℕ → Result Ending Refusal → Opened → Opened → (W → Writer) → W → W → Type 0
RanOnFile style limit result old new seen before after = Ran (Says limit None (old.files 0)) (λ r. IsOfFile 0 r × IsUnsaid limit None (old.files 0) r.fault) (Show style) result old new seen before after
