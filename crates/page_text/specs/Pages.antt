-- What a page is made of: a head, elements and attributes of a closed set, and text that is escaped. Nothing else can stand in it, and no
-- text can stand in a tag.
use Rattle.std.specs.Prelude.{ℕ, ◌≡◌, ◌==◌, Bool, false, true, List, [], ◌++◌, Option, None, Some, fold, map, option_and_then, codes, decimal, if◌then◌else◌}
use Rattle.std.specs.List.{flat_map}
use Rattle.hex.specs.Hex.{encode_lower}
use Rattle.page_text.specs.declared.page.Piece.{Piece}
use Rattle.page_text.specs.declared.page.Piece.TheVariants as piece
use Rattle.page_text.specs.declared.places.Place.{Place}
use Rattle.page_text.specs.declared.places.Place.TheVariants.{InTag, InValue, Outside}
use Rattle.page_text.specs.Escaping.{escaped}
use Rattle.page_text.specs.Names.{attribute_name, sign_number, tag_name}

-- The bytes that a piece is written as.
unfoldable pub written : Piece → List ℕ
written (piece.Open tag) = codes "<" ++ tag_name tag
written (piece.Set attribute) = codes " " ++ attribute_name attribute ++ codes "=\""
written piece.Link = codes " href=\"#"
written piece.End = codes "\""
written piece.Inside = codes ">"
written piece.Alone = codes "/>"
written (piece.Close tag) = codes "</" ++ tag_name tag ++ codes ">"
written piece.Line = codes "\n"
written (piece.Sign sign) = codes "&#" ++ decimal (sign_number sign) ++ codes ";"
written (piece.Text text) = escaped text.now
written (piece.Number n) = decimal n
written (piece.Digits bytes) = encode_lower bytes.now

-- The bytes that pieces are written as, one behind the other.
abbrev pub all_written : List Piece → List ℕ
all_written pieces = flat_map written pieces

-- How each page begins, up to its title: with its language, its charset, and a policy by which it may run nothing and load nothing.
unfoldable pub front : List ℕ
front = codes "<!DOCTYPE html>\n<html lang=\"en\">\n<head>\n<meta charset=\"utf-8\">\n<meta http-equiv=\"Content-Security-Policy\" content=\"default-src 'none'; style-src 'unsafe-inline'; base-uri 'none'; form-action 'none'\">\n<meta name=\"viewport\" content=\"width=device-width, initial-scale=1\">\n<title>"

-- What stands between the title and the style.
unfoldable pub before_style : List ℕ
before_style = codes "</title>\n<style>\n"

-- What stands behind the style, up to the end of the head.
unfoldable pub behind_style : List ℕ
behind_style = codes "</style>\n</head>\n"

-- A byte of a style. A `<` becomes a space, since only a `<` could end the style.
abbrev pub in_style : ℕ → ℕ
in_style b = if b == 60 then 32 else b

-- A page's head, with a title and a style.
abbrev pub head_of : List ℕ → List ℕ → List ℕ
head_of title style = front ++ escaped title ++ before_style ++ map in_style style ++ behind_style

-- ---- where pieces stand

-- Where the next piece stands behind a piece that stands outside of tags. It is `None` if this piece may not stand there.
unfoldable pub outside : Piece → Option Place
outside (piece.Open tag) = Some InTag
outside (piece.Close tag) = Some Outside
outside piece.Line = Some Outside
outside (piece.Sign sign) = Some Outside
outside (piece.Text text) = Some Outside
outside (piece.Number n) = Some Outside
outside (piece.Digits bytes) = Some Outside
outside _ = None

-- Where the next piece stands behind a piece that stands in a tag. It is `None` if this piece may not stand there.
unfoldable pub in_tag : Piece → Option Place
in_tag (piece.Set attribute) = Some InValue
in_tag piece.Link = Some InValue
in_tag piece.Inside = Some Outside
in_tag piece.Alone = Some Outside
in_tag _ = None

-- Where the next piece stands behind a piece that stands in the value of an attribute. It is `None` if this piece may not stand there.
unfoldable pub in_value : Piece → Option Place
in_value (piece.Text text) = Some InValue
in_value (piece.Number n) = Some InValue
in_value (piece.Digits bytes) = Some InValue
in_value piece.End = Some InTag
in_value _ = None

-- Where the next piece stands behind a piece that stands at this place. It is `None` if this piece may not stand there.
abbrev pub behind : Place → Piece → Option Place
behind Outside = outside
behind InTag = in_tag
behind InValue = in_value

-- Where the next piece stands behind all of these pieces. It is `None` if one of them may not stand where it does.
abbrev pub behind_all : Option Place → List Piece → Option Place
behind_all place pieces = fold (λ here piece. option_and_then (λ (p : Place). behind p piece) here) place pieces

-- ---- pages

-- The bytes are a page: a head, and behind it pieces. Each piece stands where it may, and the last one ends outside of tags.
pub record IsPage (bytes : List ℕ) : Type 0 where
  pub title : List ℕ
  pub style : List ℕ
  pub pieces : List Piece
  pub is : bytes ≡ head_of title style ++ all_written pieces
  pub places : behind_all (Some Outside) pieces ≡ Some Outside
