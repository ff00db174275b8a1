-- How an engine ends.
use Rattle.std.proofs.Common.{◌≡◌, ◌⊎◌, ◌<◌, ℕ, List, None, Result, Ok, Err, inl, inr, refl, sym, ap, subst}
use Rattle.std.specs.Io.KnownBytes.{Appends}
use Rattle.commands.specs.declared.fault.Fault.{Fault}
use Rattle.commands.specs.declared.fault.Fault.TheVariants as fault
use Rattle.commands.specs.Devices.{Writer}
use Rattle.commands.specs.within.OwnFaults.{IsOwn, is_devices}
use Rattle.commands.proofs.NoDevices.{other}
use Rattle.operating.specs.declared.asking.Ending.{Ending}
use Rattle.operating.specs.declared.refusal.Refusal.{Refusal}
use Rattle.operating.specs.FileTexts.{IsOfReading, Opened}
use Rattle.operating.specs.Operating.{LacksAnswer, Ran}

abbrev refused : Refusal → Result Ending Refusal
refused r = Err r

abbrev ended : Ending → Result Ending Refusal
ended x = Ok x

write_not_read : (f : Fault) → f ≡ fault.WriteFailed → f ≡ fault.ReadFailed → ⊥
write_not_read f written read = let same : fault.WriteFailed ≡ fault.ReadFailed = cc in absurd cc

module _ {S W : Type 0} (reads : S → Type 0) (refuses : Refusal → Type 0) (question : S → Result (List ℕ × Ending) Fault → Type 0) (old new : Opened) (seen : W → Writer) (before : W) where
  pub files_refused : (r : Refusal) → refuses r → IsOfReading old new r.fault → Ran reads refuses question (refused r) old new seen before before
  files_refused r h blamed = record {
    done = tt;
    refused = inl h;
    nothing_written = inl refl;
    read_failed = blamed.read_failed;
    write_failed = λ e. absurd (blamed.not_written e);
    reads_well = tt;
    writes_well = tt;
  }

  lacks : (s : S) (f : Fault) → (f ≡ fault.Memory) ⊎ question s (Err f) → LacksAnswer (question s) f
  lacks s f (inl memory) = inl memory
  lacks s f (inr told) = inr (inl told)

  pub not_answered : (s : S) (r : Refusal) → reads s → r.file ≡ None → (r.fault ≡ fault.Memory) ⊎ question s (Err r.fault) → IsOwn r.fault → Ran reads refuses question (refused r) old new seen before before
  not_answered s r are none told own = record {
    done = tt;
    refused = inr (s, are, none, lacks s r.fault told);
    nothing_written = inl refl;
    read_failed = λ e. absurd (other r.fault fault.ReadFailed own refl e);
    write_failed = λ e. absurd (other r.fault fault.WriteFailed own refl e);
    reads_well = tt;
    writes_well = tt;
  }

  pub not_written : (s : S) (text : List ℕ) (x : Ending) (r : Refusal) (after : W) → reads s → question s (Ok (text, x)) → r.file ≡ None → r.fault ≡ fault.WriteFailed → (seen before).failures < (seen after).failures → Ran reads refuses question (refused r) old new seen before after
  not_written s text x r after are told none failed more = record { done = tt; refused = inr (s, are, none, inr (inr (failed, (text, x), told))); nothing_written = inr (failed, more); read_failed = λ e. absurd (write_not_read r.fault failed e); write_failed = λ _. more; reads_well = tt; writes_well = tt }

  pub written : (s : S) (text : List ℕ) (x : Ending) (after : W) → reads s → question s (Ok (text, x)) → Appends (seen before).written (seen after).written text → (seen after).failures ≡ (seen before).failures → new.failures ≡ old.failures → Ran reads refuses question (ended x) old new seen before after
  written s text x after are told appended quiet well = record { done = (s, text, are, told, appended); refused = tt; nothing_written = tt; read_failed = tt; write_failed = tt; reads_well = well; writes_well = quiet }

  -- what was to be written in pieces was not written
  pub not_whole : (s : S) (text : List ℕ) (x : Ending) (r : Refusal) (after : W) → reads s → question s (Ok (text, x)) → r.file ≡ None → ((r.fault ≡ fault.Memory) × (after ≡ before)) ⊎ ((r.fault ≡ fault.WriteFailed) × ((seen before).failures < (seen after).failures)) → Ran reads refuses question (refused r) old new seen before after
  not_whole s text x r after are told none (inl (memory, same)) = subst (λ (w : W). Ran reads refuses question (refused r) old new seen before w) (sym same) (not_answered s r are none (inl memory) (ap is_devices memory))
  not_whole s text x r after are told none (inr (failed, more)) = not_written s text x r after are told none failed more
