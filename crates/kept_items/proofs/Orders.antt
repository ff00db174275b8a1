-- Statements and segments in the order of items.
use Rattle.std.proofs.Common.{◌≡◌, ◌≢◌, ℕ, sym, ap, ◌∙◌}
use Rattle.std.specs.Ordering.{nat_cmp}
use Rattle.authenticators.specs.declared.authenticator.Authenticator.{Authenticator}
use Rattle.item_forms.specs.Pieces.{Piece, by_bytes}
use Rattle.item_forms.specs.SegmentOrders.{SegmentsAreOrdered}
use Rattle.item_forms.specs.Spelling.{tag_of}
use Rattle.item_forms.specs.declared.forms.Fields.{Fields}
use Rattle.item_forms.specs.declared.forms.Fields.TheVariants as form
use Rattle.item_forms.specs.within.Orders.{fields_order}
use Rattle.item_forms.proofs.ItemOrders.{fields_by_bytes}
use Rattle.kept_items.specs.within.Bare.{statement_order}

-- items of two forms stand as their tags do
pub by_tags : SegmentsAreOrdered → (x y : Piece) (v w : Fields) → x.fields ≡ v → y.fields ≡ w → tag_of v ≢ tag_of w → nat_cmp (tag_of v) (tag_of w) ≡ by_bytes x y
by_tags law x y v w hx hy other =
    let tx = ap tag_of hx in
    let ty = ap tag_of hy in
    sym (law.tags x y (λ same. other (sym tx ∙ same ∙ ty)) ∙ ap (λ (n : ℕ). nat_cmp n (tag_of y.fields)) tx ∙ ap (λ (n : ℕ). nat_cmp (tag_of v) n) ty)

-- two statements stand as their fields do
pub statements_ordered : (x y : Piece) (a b : Authenticator) → x.fields ≡ form.Auth a → y.fields ≡ form.Auth b → statement_order a b ≡ by_bytes x y
statements_ordered x y a b is_a is_b =
    sym (ap (λ (v : Fields). fields_order v (form.Auth b)) is_a)
    ∙ sym (ap (λ (v : Fields). fields_order x.fields v) is_b)
    ∙ fields_by_bytes x.fields y.fields x.fits y.fits
