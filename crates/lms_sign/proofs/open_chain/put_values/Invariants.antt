use Rattle.std.proofs.Common.{◌≡◌, ℕ, List, ◌+◌, ◌*◌, ◌<◌, ◌++◌, take, length, slice_index_or}
use Rattle.lms_sign.specs.declared.open_chain.OpenChain.{OpenChain}
use Rattle.lms_sign.specs.Signing.{joined}
use Rattle.lms_sign.proofs.open_chain.put_values.Given as goal

abbrev pub invariant-loop-i : goal.invariant-loop-i
invariant-loop-i l = (f : ℕ → List ℕ) → ((i : ℕ) (d : OpenChain) → i < length l.chains → (slice_index_or l.chains i d).value ≡ f i)
    → take (l.place + 32 * l.i) l.out ≡ take l.place l.initial.out ++ joined f l.i
