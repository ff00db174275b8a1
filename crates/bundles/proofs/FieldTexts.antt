-- What a line of a bundle says of its own text, and of which text it says it.
use Rattle.std.proofs.Common.{◌≡◌, ◌&&◌, ℕ, Bool, true, false, cond, List, ◌∷◌, ◌++◌, drop, take, Option, Some, None, refl, sym, ap, ◌∙◌}
use Rattle.std.specs.Prelude.{codes}
use Rattle.std.specs.Str.{bytes_eq}
use Rattle.std.proofs.lemmas.List.{take-append-drop}
use Rattle.std.proofs.lemmas.Slice.Eq.{bytes_eq-Decides}
use Rattle.bundles.specs.Grammar.{greets, program_in}
use Rattle.bundles.specs.Spelling.{first_line, is_name}

-- ---- each line says what it tells

pub greeting_said : greets first_line ≡ Some tt
unfolding greets
greeting_said = ap (λ (t : Bool). cond t (Some tt) None) ((bytes_eq-Decides first_line first_line).1 refl)

pub program_said : (name : List ℕ) → is_name name ≡ true → program_in (codes "program " ++ name) ≡ Some name
unfolding program_in
program_said name h = ap (λ (t : Bool). cond t (Some name) None) h

-- ---- each is told by no other line

greeted : (line : List ℕ) (t : Bool) (x : Unit {0}) → bytes_eq line first_line ≡ t → ◌≡◌ {A = Option (Unit {0})} (cond t (Some tt) None) (Some x) → line ≡ first_line
greeted line true x e h = (bytes_eq-Decides line first_line).0 e
greeted line false x e h = absurd cc

pub greeting_found : (line : List ℕ) (x : Unit {0}) → greets line ≡ Some x → line ≡ first_line
unfolding greets
greeting_found line x h = greeted line (bytes_eq line first_line) x refl h

named : (s t : Bool) (word name : List ℕ) → ◌≡◌ {A = Option (List ℕ)} (cond (s && t) (Some word) None) (Some name) → (s ≡ true) × (t ≡ true) × (word ≡ name)
named true true word name h = (refl, refl, cc)
named true false word name h = absurd cc
named false t word name h = absurd cc

pub program_found : (line name : List ℕ) → program_in line ≡ Some name → (is_name name ≡ true) × (line ≡ codes "program " ++ name)
unfolding program_in
program_found line name h =
    let p = named (bytes_eq (take 8 line) (codes "program ")) (is_name (drop 8 line)) (drop 8 line) name h in
    let front : take 8 line ≡ codes "program " = (bytes_eq-Decides (take 8 line) (codes "program ")).0 p.0 in (
      ap (λ (w : List ℕ). is_name w) (sym p.2) ∙ p.1,
      sym (take-append-drop 8 line) ∙ ap (λ (t : List ℕ). t ++ drop 8 line) front ∙ ap (λ (t : List ℕ). codes "program " ++ t) p.2,
    )
