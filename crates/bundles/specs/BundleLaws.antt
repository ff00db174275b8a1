-- What follows from the definitions. `laws` proves it.
use Rattle.std.specs.Prelude.{◌≡◌, ◌++◌, ℕ, List, Ok, Err}
use Rattle.bundles.specs.declared.fault.BundleFault.{BundleFault}
use Rattle.bundles.specs.declared.fault.BundleFault.TheVariants.{OlderBundle}
use Rattle.bundles.specs.Grammar.{bundle_of}
use Rattle.bundles.specs.Spelling.{Contents, IsBundle, ended, older_line, text_of}

-- A text is read as the bundle whose text it is, and no other text is read. What is refused is the text of no bundle.
pub record BundlesAreRead : Type 0 where
  pub only : (b : Contents) → IsBundle b → bundle_of (text_of b) ≡ Ok b
  pub found : (text : List ℕ) (b : Contents) → bundle_of text ≡ Ok b → IsBundle b × (text_of b ≡ text)
  pub refused : (text : List ℕ) (f : BundleFault) → bundle_of text ≡ Err f → (b : Contents) → IsBundle b → text_of b ≡ text → ⊥

-- Bundles that have one text are one bundle.
abbrev pub TextsTellBundles : Type 0
TextsTellBundles = (a b : Contents) → IsBundle a → IsBundle b → text_of a ≡ text_of b → a ≡ b

-- A text that begins as bundles of format 1 do is refused as one of these, whatever stands behind, and no other text is. It is the text of
-- no bundle.
pub record OlderTextsAreRefused : Type 0 where
  pub refused : (rest : List ℕ) → bundle_of (ended older_line ++ rest) ≡ Err OlderBundle
  pub only : (text : List ℕ) → bundle_of text ≡ Err OlderBundle → (rest : List ℕ) × (text ≡ ended older_line ++ rest)
  pub unspelled : (rest : List ℕ) (b : Contents) → IsBundle b → text_of b ≡ ended older_line ++ rest → ⊥
