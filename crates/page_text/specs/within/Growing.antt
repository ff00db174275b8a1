-- A page, or a part of one, while it grows.
use Rattle.std.specs.Prelude.{ℕ, ◌≡◌, Bool, false, true, List, [], ◌++◌, Some}
use Rattle.page_text.specs.declared.page.Piece.{Piece}
use Rattle.page_text.specs.declared.places.Place.{Place}
use Rattle.page_text.specs.declared.places.Place.TheVariants.{Outside}
use Rattle.page_text.specs.Pages.{all_written, behind_all, head_of}

-- The text is what a page begins with, a head, or what a part begins with, nothing.
abbrev pub IsBeginning : Bool → List ℕ → Type 0
IsBeginning true text = (title : List ℕ) × (style : List ℕ) × (text ≡ head_of title style)
IsBeginning false text = text ≡ []

-- The bytes are a beginning, and behind it pieces. Each piece stands where it may, and the next one stands at this place.
pub record IsGrown (has_head : Bool) (place : Place) (bytes : List ℕ) : Type 0 where
  pub beginning : List ℕ
  pub begins : IsBeginning has_head beginning
  pub pieces : List Piece
  pub is : bytes ≡ beginning ++ all_written pieces
  pub places : behind_all (Some Outside) pieces ≡ Some place
