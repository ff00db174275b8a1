-- The elements and the attributes that a page can have, and the signs that ASCII lacks.
use Rattle.std.specs.Prelude.{ℕ, List, codes}
use Rattle.page_text.specs.declared.names.Attribute.{Attribute}
use Rattle.page_text.specs.declared.names.Attribute.TheVariants as attribute
use Rattle.page_text.specs.declared.names.Sign.{Sign}
use Rattle.page_text.specs.declared.names.Sign.TheVariants as sign
use Rattle.page_text.specs.declared.names.Tag.{Tag}
use Rattle.page_text.specs.declared.names.Tag.TheVariants as tag

-- The name of an element.
unfoldable pub tag_name : Tag → List ℕ
tag_name tag.A = codes "a"
tag_name tag.Body = codes "body"
tag_name tag.Code = codes "code"
tag_name tag.Dd = codes "dd"
tag_name tag.Desc = codes "desc"
tag_name tag.Details = codes "details"
tag_name tag.Div = codes "div"
tag_name tag.Dl = codes "dl"
tag_name tag.Dt = codes "dt"
tag_name tag.G = codes "g"
tag_name tag.H1 = codes "h1"
tag_name tag.H2 = codes "h2"
tag_name tag.Header = codes "header"
tag_name tag.Html = codes "html"
tag_name tag.Li = codes "li"
tag_name tag.Main = codes "main"
tag_name tag.Nav = codes "nav"
tag_name tag.P = codes "p"
tag_name tag.Path = codes "path"
tag_name tag.Pre = codes "pre"
tag_name tag.Rect = codes "rect"
tag_name tag.Section = codes "section"
tag_name tag.Span = codes "span"
tag_name tag.Strong = codes "strong"
tag_name tag.Summary = codes "summary"
tag_name tag.Svg = codes "svg"
tag_name tag.Table = codes "table"
tag_name tag.Tbody = codes "tbody"
tag_name tag.Td = codes "td"
tag_name tag.Text = codes "text"
tag_name tag.Th = codes "th"
tag_name tag.Thead = codes "thead"
tag_name tag.Title = codes "title"
tag_name tag.Tr = codes "tr"
tag_name tag.Ul = codes "ul"

-- The name of an attribute.
unfoldable pub attribute_name : Attribute → List ℕ
attribute_name attribute.AriaHidden = codes "aria-hidden"
attribute_name attribute.AriaLabel = codes "aria-label"
attribute_name attribute.AriaLabelledby = codes "aria-labelledby"
attribute_name attribute.Class = codes "class"
attribute_name attribute.D = codes "d"
attribute_name attribute.DataNode = codes "data-node"
attribute_name attribute.DataSeq = codes "data-seq"
attribute_name attribute.Height = codes "height"
attribute_name attribute.Id = codes "id"
attribute_name attribute.Open = codes "open"
attribute_name attribute.PreserveAspectRatio = codes "preserveAspectRatio"
attribute_name attribute.Role = codes "role"
attribute_name attribute.Rx = codes "rx"
attribute_name attribute.Scope = codes "scope"
attribute_name attribute.Tabindex = codes "tabindex"
attribute_name attribute.Transform = codes "transform"
attribute_name attribute.ViewBox = codes "viewBox"
attribute_name attribute.Width = codes "width"
attribute_name attribute.X = codes "x"
attribute_name attribute.Y = codes "y"

-- The number of a sign's character.
abbrev pub sign_number : Sign → ℕ
sign_number sign.Check = 10003
sign_number sign.Dots = 8943
