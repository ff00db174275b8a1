-- Lines of texts.
use Rattle.std.proofs.Common.{◌≡◌, ◌≤◌, ◌-◌, ◌==◌, ℕ, Bool, false, cond, List, [], ◌∷◌, length, Err, refl, ap, ◌∙◌, arith}
use Rattle.std.specs.List.{slice_split}
use Rattle.outcome.proofs.Cuts.{some_parts}
use Rattle.scenarios.specs.declared.fault.ScenarioFault.TheVariants.{BadScenario}
use Rattle.scenarios.specs.Scenarios.{ended, lines_of}
use Rattle.scenarios.specs.Instructions.{said_of}

-- ---- lines

pub no_lines : (xs : List ℕ) → length xs ≡ 0 → lines_of xs ≡ []
unfolding lines_of
no_lines [] h = refl
no_lines (x ∷ xs) h = absurd (omega arith)

ended_more : (line : List ℕ) (parts : List (List ℕ)) → 1 ≤ length parts → ended (line ∷ parts) ≡ line ∷ ended parts
ended_more line [] h = absurd (omega arith)
ended_more line (next ∷ more) h = refl

pub line_and_more : (xs line rest : List ℕ) → slice_split (λ byte. byte == 10) xs ≡ line ∷ slice_split (λ byte. byte == 10) rest → lines_of xs ≡ line ∷ lines_of rest
unfolding lines_of
line_and_more xs line rest h = ap ended h ∙ ended_more line (slice_split (λ byte. byte == 10) rest) (some_parts _ rest)

ended_one : (line : List ℕ) → (length line == 0) ≡ false → ended (line ∷ []) ≡ line ∷ []
ended_one line h = ap (λ (b : Bool). cond b [] (line ∷ [])) h

pub one_line : (xs line : List ℕ) → (length xs == 0) ≡ false → line ≡ xs → slice_split (λ byte. byte == 10) xs ≡ line ∷ [] → lines_of xs ≡ line ∷ lines_of []
unfolding lines_of
one_line xs line some same h = ap ended h ∙ ended_one line (ap (λ (ys : List ℕ). length ys == 0) same ∙ some)

-- ---- words

pub too_many : (a b c : List ℕ) (parts : List (List ℕ)) → 1 ≤ length parts → said_of (a ∷ b ∷ c ∷ parts) ≡ Err BadScenario
too_many a b c [] h = absurd (omega arith)
too_many a b c (d ∷ more) h = refl
