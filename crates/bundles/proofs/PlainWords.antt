-- Names and digits have no line feed.
use Rattle.std.proofs.Common.{◌≡◌, ◌&&◌, ◌==◌, ◌≤◌, leb, not, ℕ, Bool, true, false, List, [], ◌∷◌, ◌++◌, length, refl, arith}
use Rattle.std.specs.List.{list_all}
use Rattle.std.specs.Prelude.{codes}
use Rattle.std.proofs.lemmas.Bool.{and_from, and_parts, ne_eqb, not_from_false}
use Rattle.bundles.specs.Grammar.{is_digit}
use Rattle.bundles.specs.Spelling.{is_name, is_name_character}
use Rattle.bundles.proofs.Feeds.{no_feed}

-- Each character above the blank is no line feed.
no_feeds_in : (p : ℕ → Bool) → ((c : ℕ) → p c ≡ true → 33 ≤ c) → (text : List ℕ) → list_all p text ≡ true → no_feed text ≡ true
no_feeds_in p above [] h = refl
no_feeds_in p above (c ∷ cs) h =
    let parts = and_parts (p c) (list_all p cs) h in
    let high = above c parts.0 in
    and_from (not (c == 10)) (no_feed cs) (not_from_false (c == 10) (ne_eqb c 10 (λ e. omega (arith, high, e)))) (no_feeds_in p above cs parts.1)

digit_above : (c : ℕ) → is_digit c ≡ true → 33 ≤ c
digit_above c h = grind (arith)

character_above : (c : ℕ) → is_name_character c ≡ true → 33 ≤ c
character_above c h = grind (arith)

pub digits_no_feed : (text : List ℕ) → list_all is_digit text ≡ true → no_feed text ≡ true
digits_no_feed text h = no_feeds_in (λ c. is_digit c) digit_above text h

name_no_feed : (name : List ℕ) → is_name name ≡ true → no_feed name ≡ true
name_no_feed name h = no_feeds_in (λ c. is_name_character c) character_above name (and_parts (leb 1 (length name) && leb (length name) 32) (list_all is_name_character name) h).1

pub program_no_feed : (name : List ℕ) → is_name name ≡ true → no_feed (codes "program " ++ name) ≡ true
program_no_feed name h = name_no_feed name h
