-- The number of a refusal of what lies behind a handle.
use Rattle.std.proofs.Common.{◌≡◌, ℕ, Option, Some, subst}
use Rattle.byte_calls.specs.declared.refusal.Refusal.{Refusal}
use Rattle.byte_calls.specs.Refusals.{number_of as refusal_number}
use Rattle.bulwynef_c.specs.declared.object.Object.{Object}
use Rattle.bulwynef_c.specs.Handles.{Says}

pub said : (P : Object → Refusal → Type 0) (before lay : Object) (behind : Option Object) (f : Refusal) (n : ℕ) → Some lay ≡ behind → before ≡ lay → n ≡ refusal_number f → P before f → Says P behind n
said P before lay behind f n given same number refused = subst (λ v. Says P v n) given (f, number, subst (λ x. P x f) same refused)
