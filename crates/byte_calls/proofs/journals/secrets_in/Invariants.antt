use Rattle.std.proofs.Common.{◌≡◌, ◌++◌, ◌-◌, ◌*◌, ◌/◌, drop, length}
use Rattle.byte_calls.specs.Journals.{secrets_in}
use Rattle.byte_calls.proofs.journals.secrets_in.Given as goal

abbrev pub invariant-loop-k : goal.invariant-loop-k
invariant-loop-k l = secrets_in (length l.bytes / 48) l.bytes ≡ l.secrets.items ++ secrets_in (length l.bytes / 48 - l.k) (drop (l.k * 48) l.bytes)
