use Rattle.std.proofs.Common.{◌≡◌, ℕ, ◌<◌, slice_index}
use Rattle.lms_sign.specs.Numbers.{coef}
use Rattle.lms_sign.specs.Parameters.{width}
use Rattle.lms_sign.proofs.signature_text.write_steps.Given as goal

abbrev pub invariant-loop-i : goal.invariant-loop-i
invariant-loop-i l = (k : ℕ) → k < l.i → slice_index l.steps k ≡ coef l.text k (width l.ots)
