-- What is done with a question to files.
use Rattle.std.specs.Prelude.{ℕ, Bool, true, false, List, Result}
use Rattle.replay_verifier.specs.Meaning.{Meaning}
use Rattle.commands.specs.Devices.{Writer}
use Rattle.operating.specs.declared.asking.Ending.{Ending}
use Rattle.operating.specs.declared.refusal.Refusal.{Refusal}
use Rattle.operating.specs.ConvictingFiles.{RefusesConviction}
use Rattle.operating.specs.FileTexts.{Opened, SaysDirectory}
use Rattle.operating.specs.GatheredFiles.{IsOfFile, RefusesDirectory}
use Rattle.operating.specs.Operating.{Ran, RanOnFile, RanOnProof, RanOnStores}
use Rattle.operating.specs.Questions.{Merge, Prove, Status}
use Rattle.bulwynef.specs.declared.words.Query.{Query}
use Rattle.bulwynef.specs.declared.words.Query.TheVariants as query
use Rattle.bulwynef.specs.declared.words.Subject.TheVariants as subject
use Rattle.bulwynef.specs.declared.programs.ProgramName.{ProgramName}
use Rattle.bulwynef.specs.Explained.{AreConvictingTexts, ExplainDirectory, ExplainProof, ExplainStores}
use Rattle.bulwynef.specs.Programs.{spelling_of, title_of}

-- Whether the answer is a verdict, which another program may change.
abbrev pub gives_verdict : Query → Bool
gives_verdict (query.Status scope style) = true
gives_verdict query.Merge = false
gives_verdict (query.Prove node) = true
gives_verdict (query.Check style) = true
gives_verdict (query.Explain subject.Stores is_page) = true
gives_verdict (query.Explain subject.Proof is_page) = true
gives_verdict (query.Explain subject.Directory is_page) = false
gives_verdict (query.Show style) = false

-- The question was asked of a file and this many others, about nodes that are to follow the program of this name. It was answered or refused
-- as the command's engine defines.
abbrev pub Answered : {S W : Type 0} → Meaning S → ProgramName → Query → ℕ → ℕ → Result Ending Refusal → Opened → Opened → (W → Writer) → W → W → Type 0
Answered program name (query.Status scope style) limit others result old new seen before after = RanOnStores (Status style (spelling_of name) scope program) limit others result old new seen before after
Answered program name query.Merge limit others result old new seen before after = RanOnStores Merge limit others result old new seen before after
Answered program name (query.Prove node) limit others result old new seen before after = RanOnStores (Prove program node) limit others result old new seen before after
Answered program name (query.Check style) limit others result old new seen before after = RanOnProof style (spelling_of name) program limit result old new seen before after
Answered program name (query.Explain subject.Stores is_page) limit others result old new seen before after = RanOnStores (ExplainStores (title_of name) is_page program) limit others result old new seen before after
Answered program name (query.Explain subject.Proof is_page) limit others result old new seen before after = Ran (AreConvictingTexts program limit old.files) (RefusesConviction program limit old.files) (ExplainProof (title_of name) is_page) result old new seen before after
Answered program name (query.Explain subject.Directory is_page) limit others result old new seen before after = Ran (SaysDirectory limit (old.files 0)) (λ r. IsOfFile 0 r × RefusesDirectory limit (old.files 0) r.fault) (ExplainDirectory is_page) result old new seen before after
Answered program name (query.Show style) limit others result old new seen before after = RanOnFile style limit result old new seen before after
