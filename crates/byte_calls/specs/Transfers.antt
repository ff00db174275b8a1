-- What stores give one another, by the encodings that they are given.
use Rattle.std.specs.Prelude.{ℕ, List, Result, Ok}
use Rattle.outcome.specs.Outcome.{◌>>=◌, told_as}
use Rattle.evidence_set.specs.ItemSets.{Items}
use Rattle.transfer.specs.Packs.{pack_of, pack_text}
use Rattle.transfer.specs.Summaries.{short_summary}
use Rattle.transfer.specs.SummaryTexts.{outline_of_text, summary_of, summary_text}
use Rattle.byte_calls.specs.declared.refusal.Refusal.{Refusal}
use Rattle.byte_calls.specs.Refusals.{of_summary}

-- The encoding of the items' summary against the outline with this encoding, or the refusal.
unfoldable pub shortened : Items → List ℕ → Result (List ℕ) Refusal
shortened E text = do
  outline ← told_as of_summary (outline_of_text text)
  Ok (summary_text (short_summary E outline))

-- The encoding of the pack of the items that the summary with this encoding does not name, or the refusal.
unfoldable pub packed : Items → List ℕ → Result (List ℕ) Refusal
packed E text = do
  summary ← told_as of_summary (summary_of text)
  Ok (pack_text (pack_of E summary))
