-- How answers are written, each as a function of the answer and of the style.
use Rattle.std.specs.Prelude.{ℕ, ◌≡◌, List}
use Rattle.std.specs.List.{flat_map}
use Rattle.answers.specs.declared.style.Style.{Style}
use Rattle.answers.specs.declared.style.Style.TheVariants as style
use Rattle.answers.specs.declared.showing.Shown.{Shown}
use Rattle.answers.specs.declared.standings.Standing.{Standing}
use Rattle.answers.specs.Json.{conviction_json, shown_json, standing_object, standings_json}
use Rattle.answers.specs.Lines.{conviction_lines, shown_lines, standing_line}

-- What a text is, and what is in it.
abbrev pub shown_text : Style → Shown → List ℕ
shown_text style.Lines s = shown_lines s
shown_text style.Json s = shown_json s

-- What is said of a node.
abbrev pub standing_text : Style → ℕ × Standing → List ℕ
standing_text style.Lines row = standing_line row
standing_text style.Json row = standing_object row

-- What is said of each of these nodes, under the program of a name and the directory of a text. Lines have neither of the two. They do not
-- say of which nodes anything is known.
abbrev pub standings_text : Style → List ℕ → List ℕ → List (ℕ × Standing) → List ℕ
standings_text style.Lines program directory rows = flat_map standing_line rows
standings_text style.Json program directory rows = standings_json program directory rows

-- Whom a proof convicts, under the program of a name and the directory of a text.
abbrev pub conviction_text : Style → ℕ → List ℕ → List ℕ → List ℕ
conviction_text style.Lines node program directory = conviction_lines node program directory
conviction_text style.Json node program directory = conviction_json node program directory

-- ---- laws, which `laws` proves

-- What is written of a node shows its indication, in either style. As JSON it also shows whether anything is known of the node.
pub record StandingsAreTold : Type 0 where
  pub indication : (s : Style) (node : ℕ) (a b : Standing) → standing_text s (node, a) ≡ standing_text s (node, b) → a.indication ≡ b.indication
  pub known : (node : ℕ) (a b : Standing) → standing_text style.Json (node, a) ≡ standing_text style.Json (node, b) → a.known ≡ b.known
