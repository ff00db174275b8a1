-- Which faults are a device's, and when.
use Rattle.std.proofs.Common.{◌≡◌, ◌⊎◌, ◌+◌, ◌<◌, ℕ, Bool, true, false, List, [], ◌∷◌, Option, Some, None, Result, Ok, Err, inl, inr, refl, sym, ap, arith}
use Rattle.std.specs.Prelude.{if◌then◌else◌, IfErr, MatchResult, OnOk}
use Rattle.std.specs.Str.{bytes_eq}
use Rattle.outcome.specs.Outcome.{Fails}
use Rattle.commands.specs.declared.fault.Fault.{Fault}
use Rattle.commands.specs.declared.fault.Fault.TheVariants as fault
use Rattle.commands.specs.Devices.{IsReadFault, MeetsNoEnd, Reader}
use Rattle.commands.specs.HexLines.{bytes_of, lines_of}
use Rattle.commands.specs.within.OwnFaults.{IsOwn, is_devices}
use Rattle.commands.proofs.NoDevices.{other}
use Rattle.commands.proofs.Refused.{RefusesOwn, bytes_own, own_of, own_then}
use Rattle.operating.specs.declared.files.TheConstants.{MOST_READS}
use Rattle.operating.specs.FileTexts.{IsFailed, IsOfReading, Opened, alone, beneath, is_spelled, one_in, read_under, said, spelled_in, texts_of, two_in}

-- ---- faults of no device

pub own_blames : (old new : Opened) (f : Fault) → IsOwn f → IsOfReading old new f
own_blames old new f own = record {
  read_failed = λ e. absurd (other f fault.ReadFailed own refl e);
  not_written = λ e. other f fault.WriteFailed own refl e;
}

-- what a file says is refused by such faults
one_own : (line : List ℕ) → RefusesOwn (one_in line)
unfolding one_in
one_own line = own_then (bytes_of line) _ (bytes_own line) (λ text. tt)

two_own : (line other : List ℕ) → RefusesOwn (two_in line other)
unfolding two_in
two_own line [] = refl
two_own line (digit ∷ digits) = own_then (bytes_of line) _ (bytes_own line) (λ directory. own_then (bytes_of (digit ∷ digits)) _ (bytes_own (digit ∷ digits)) (λ text. tt))

lines_own : (lines : List (List ℕ)) → RefusesOwn (spelled_in lines)
lines_own [] = refl
lines_own (line ∷ []) = one_own line
lines_own (line ∷ other ∷ []) = two_own line other
lines_own (a ∷ b ∷ c ∷ more) = refl

texts_own : (bytes : List ℕ) → RefusesOwn (texts_of bytes)
unfolding texts_of
texts_own bytes = by_kind (is_spelled bytes)
  where
    by_kind : (b : Bool) → RefusesOwn (if b then spelled_in (lines_of bytes) else Ok (alone bytes))
    by_kind true = lines_own (lines_of bytes)
    by_kind false = tt

pub texts_refused : (old new : Opened) (bytes : List ℕ) (f : Fault) → Fails fault.Memory f (texts_of bytes) → IsOfReading old new f
texts_refused old new bytes f fails = own_blames old new f (own_of (texts_of bytes) f (texts_own bytes) fails)

-- ---- faults of a read

no_write : (f : Fault) (limit : ℕ) (left : Option (List ℕ)) → IsReadFault f limit left → f ≡ fault.WriteFailed → ⊥
no_write f limit left (inl memory) e = let same : fault.Memory ≡ fault.WriteFailed = cc in absurd cc
no_write f limit left (inr (inl failed)) e = let same : fault.ReadFailed ≡ fault.WriteFailed = cc in absurd cc
no_write f limit left (inr (inr long)) e = let same : fault.InputTooLong ≡ fault.WriteFailed = cc (long.0, e) in absurd cc

has_failed : (limit : ℕ) (before after : Reader) → before.reads ≡ 0 → before.ends ≡ 0 → before.failures ≡ 0 → (before.failures < after.failures) ⊎ MeetsNoEnd limit MOST_READS before after → IsFailed after
has_failed limit before after reads ends failures (inl failed) = inl (omega (arith, failed, failures))
has_failed limit before after reads ends failures (inr met) = let many = met.reads in let none = met.ends in inr (omega (arith, none, ends), omega (arith, many, reads))

pub read_blames : {V : Type 0} (r : Result V Fault) (limit : ℕ) (left : Option (List ℕ)) (before after : Reader) (old mid new : Opened) → before.reads ≡ 0 → before.ends ≡ 0 → before.failures ≡ 0
    → IfErr r (λ f. IsReadFault f limit left) → (r ≡ Err fault.ReadFailed → (before.failures < after.failures) ⊎ MeetsNoEnd limit MOST_READS before after)
    → mid.failures ≡ old.failures → (IsFailed after → new.failures ≡ mid.failures + 1) → IfErr r (IsOfReading old new)
read_blames (Ok v) limit left before after old mid new reads ends failures is failed quiet counted = tt
read_blames (Err f) limit left before after old mid new reads ends failures is failed quiet counted = record {
  read_failed = λ e.
      let told = failed (ap Err e) in
      let one = counted (has_failed limit before after reads ends failures told) in
      omega (arith, one, quiet);
  not_written = no_write f limit left is;
}

not_failed : (r : Reader) → 0 < r.ends → r.failures ≡ 0 → IsFailed r → ⊥
not_failed r some none (inl failed) = absurd (omega (arith, none, failed))
not_failed r some none (inr (unended, many)) = absurd (omega (arith, some, unended))

-- what is read did not fail
pub read_quiet : {V : Type 0} (r : Result V Fault) (before after : Reader) (old mid new : Opened) → before.ends ≡ 0 → before.failures ≡ 0
    → MatchResult r (λ v. after.ends ≡ before.ends + 1) (λ f. after.ends ≡ before.ends) → ((r ≡ Err fault.ReadFailed → ⊥) → after.failures ≡ before.failures)
    → mid.failures ≡ old.failures → ((IsFailed after → ⊥) → new.failures ≡ mid.failures) → OnOk r (new.failures ≡ old.failures)
read_quiet (Ok v) before after old mid new ends failures met well quiet counted =
    let none = well (λ e. absurd cc) in
    let same = counted (not_failed after (omega (arith, met, ends)) (omega (arith, none, failures))) in
    omega (arith, same, quiet)
read_quiet (Err f) before after old mid new ends failures met well quiet counted = tt

-- memory is no device's
pub memory_own : (f : Fault) → f ≡ fault.Memory → IsOwn f
memory_own f memory = ap is_devices memory

pub memory_blames : (old new : Opened) (f : Fault) → f ≡ fault.Memory → IsOfReading old new f
memory_blames old new f memory = own_blames old new f (memory_own f memory)

-- what failed behind what did not
pub later_blames : (old mid new : Opened) (f : Fault) → mid.failures ≡ old.failures → IsOfReading mid new f → IsOfReading old new f
later_blames old mid new f quiet blamed = record {
  read_failed = λ e. let failed = blamed.read_failed e in omega (arith, failed, quiet);
  not_written = blamed.not_written;
}
