use Rattle.std.proofs.Common.{◌≡◌, Bool, true, false, ℕ, List, Result, Ok, Err, IfOk, is_ok, refl, sym, ◌∙◌}
use Rattle.std.specs.Prelude.{IfErr}
use Rattle.item_forms.specs.Pieces.{Piece}
use Rattle.evidence_item.specs.Checking.{Checked}
use Rattle.kept_evidence.specs.Kept.{IsPlaceOf, Keeps, is_kept}
use Rattle.kept_evidence.proofs.Places.{kept_decides, not_kept}
use Rattle.plain_store.proofs.placing.keeps.Goals as goal

missing : (kept : List Checked) (x : Piece) (i : ℕ) (b : Bool) → is_kept kept x ≡ b → IsPlaceOf x kept i → false ≡ b
missing kept x i false is place = refl
missing kept x i true is place = absurd (not_kept kept x i place ((kept_decides kept x).0 is))

told : (kept : List Checked) (x : Piece) (r : Result ℕ ℕ) (b : Bool) → b ≡ is_ok r → IfOk r (λ i. Keeps kept x) → IfErr r (λ i. IsPlaceOf x kept i) → b ≡ is_kept kept x
told kept x (Ok i) b is there place = is ∙ sym ((kept_decides kept x).1 there)
told kept x (Err i) b is there place = is ∙ missing kept x i (is_kept kept x) refl place

pub returns : goal.returns
returns g c = told c.args.kept.now c.args.item.now c.place_of.result c.is_ok.result c.is_ok.ensures.value c.place_of.ensures.there c.place_of.ensures.place
