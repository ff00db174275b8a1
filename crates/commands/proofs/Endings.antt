-- How an engine ends that has read its input and answers it: what it writes is written, or the write fails.
use Rattle.std.proofs.Common.{◌≡◌, ◌+◌, ◌<◌, ◌≤◌, ℕ, List, Result, Ok, Err, arith, refl, inr}
use Rattle.std.specs.Io.KnownBytes.{Appends}
use Rattle.commands.specs.declared.engine.TheConstants.{MOST_READS}
use Rattle.commands.specs.declared.fault.Fault.{Fault}
use Rattle.commands.specs.declared.fault.Fault.TheVariants.{ReadFailed, WriteFailed}
use Rattle.commands.specs.Devices.{Reader, Writer}
use Rattle.commands.specs.Engines.{IsInput, Ran}

-- the same refusal, told of a result
abbrev Refused : Fault → Result (Unit {0}) Fault
Refused f = Err f

fault_of : (f g : Fault) → Refused f ≡ Refused g → f ≡ g
fault_of f g e = cc

module _ {W : Type 0} (command : List ℕ → Result (List ℕ) Fault → Type 0) (old new : Reader) (seen : W → Writer) (before : W) (few : new.reads ≤ old.reads + MOST_READS) where
  module _ (quiet : new.failures ≡ old.failures) (ended : new.ends ≡ old.ends + 1) (input : List ℕ) (read : IsInput old.left input) where
    module _ (text : List ℕ) (told : command input (Ok text)) (after : W) where
      pub written : Appends (seen before).written (seen after).written text → (seen after).failures ≡ (seen before).failures → Ran command (Ok tt) old new seen before after
      written appended well = record {
        done = (input, text, read, told, appended);
        refused = tt;
        nothing_written = λ _. tt;
        few_reads = few;
        one_end = ended;
        few_ends = omega (arith, ended);
        read_failed = λ e. absurd cc;
        reads_well = λ _. quiet;
        write_failed = λ e. absurd cc;
        writes_well = λ _. well;
      }

      pub not_written : (seen before).failures < (seen after).failures → Ran command (Refused WriteFailed) old new seen before after
      not_written failed = record {
        done = tt;
        refused = inr (input, read, inr (refl, text, told));
        nothing_written = λ no. absurd (no refl);
        few_reads = few;
        one_end = tt;
        few_ends = omega (arith, ended);
        read_failed = λ e. let same : WriteFailed ≡ ReadFailed = fault_of WriteFailed ReadFailed e in absurd cc;
        reads_well = λ _. quiet;
        write_failed = λ _. failed;
        writes_well = λ no. absurd (no refl);
      }
