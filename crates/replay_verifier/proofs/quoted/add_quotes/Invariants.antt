use Rattle.std.proofs.Common.{◌≡◌, ◌++◌, take}
use Rattle.replay_verifier.specs.Deviation.{quoted_hashes}
use Rattle.replay_verifier.proofs.quoted.add_quotes.Given as goal

abbrev pub invariant-loop-entry : goal.invariant-loop-entry
invariant-loop-entry l = l.hashes.items ≡ l.fn.hashes.items ++ quoted_hashes l.directory l.me (take l.entry-index l.entries)
