-- What a scenario leaves.
use Rattle.std.proofs.Common.{◌≡◌, ◌∙◌, ◌+◌, ◌<◌, ◌≤◌, ◌++◌, ℕ, List, [], ◌∷◌, All, ap, get_or, length, map, refl, subst, sym, take}
use Rattle.std.proofs.lemmas.List.{length-map, map-append, map_more}
use Rattle.std.proofs.lemmas.List.Elements.{All-map, All-weaker}
use Rattle.authenticators.specs.Directory.{Listing}
use Rattle.authenticators.specs.DirectoryText.{directory_text}
use Rattle.replay_verifier.specs.Meaning.{Meaning}
use Rattle.evidence.specs.Contents.{Contents}
use Rattle.evidence.specs.Exports.{export_of}
use Rattle.parallel_checking.specs.declared.limits.TheConstants.{MOST_WORKERS}
use Rattle.scenario_run.specs.Witnesses.{IsWitness}
use Rattle.scenarios.specs.Scenarios.{Script}
use Rattle.shared_stores.specs.declared.history.Recorded.{Recorded}
use Rattle.shared_stores.specs.Histories.{Notes}
use Rattle.simulation.specs.Fixtures.{directory_of}
use Rattle.operating.specs.declared.play.Played.{Played}
use Rattle.operating.specs.Plays.{AreLeft, IsEnd}

map_twice : {X Y Z : Type 0} (f : Y → Z) (g : X → Y) (xs : List X) → map f (map g xs) ≡ map (λ x. f (g x)) xs
map_twice f g [] = refl
map_twice f g (x ∷ xs) = ap (λ ys. f (g x) ∷ ys) (map_twice f g xs)

-- one text more, of the next witness
pub grown : {X Y : Type 0} (texts now : List X) (t : X) (ws : List Y) (k : ℕ) (w : Y) (text : X → List ℕ) (f : Y → List ℕ) → now ≡ texts ++ t ∷ [] → k < length ws → w ≡ get_or ws k w → text t ≡ f w
    → map text texts ≡ map f (take k ws) → map text now ≡ map f (take (k + 1) ws)
grown texts now t ws k w text f more below is told h =
    ap (map text) more ∙ map-append text texts (t ∷ []) ∙ ap (λ (l : List (List ℕ)). l ++ text t ∷ []) h ∙ ap (λ (l : List ℕ). map f (take k ws) ++ l ∷ []) (told ∙ ap f is) ∙ sym (map_more f ws k w below)

module _ {S W X : Type 0} (program : Meaning S) (directory : Listing) (s : Script) (workers : ℕ) (contents : X → Contents) (store : W → X) (history : W → List Recorded) (passes : W → List Notes) (witnesses : List W) where
  abbrev IsOne : W → Type 0
  IsOne w = IsWitness directory program (contents (store w)) (history w) (passes w)

  abbrev IsUnder : Contents → Type 0
  IsUnder c = c.directory ≡ directory_of s.nodes

  -- the texts of the directory and of the stores of witnesses
  pub left : (p : Played) → directory ≡ directory_of s.nodes → (0 < workers) × (workers ≤ MOST_WORKERS) → length witnesses ≡ s.witnesses → All IsOne witnesses
      → p.directory.items ≡ directory_text directory → map (λ t. t.items) p.stores.items ≡ map (λ w. export_of (contents (store w)).items) witnesses → AreLeft program s workers p
  left p own allowed count held first others = record {
    contents = map (λ w. contents (store w)) witnesses;
    played = record {
      some_workers = allowed.0;
      few_workers = allowed.1;
      count = length-map witnesses (λ w. contents (store w)) ∙ count;
      under = All-map IsUnder (λ w. contents (store w)) witnesses (All-weaker IsOne (λ w. IsUnder (contents (store w))) (λ w h. h.under ∙ own) witnesses held);
    };
    ends = All-map (IsEnd (directory_of s.nodes) program) (λ w. contents (store w)) witnesses
        (All-weaker IsOne (λ w. IsEnd (directory_of s.nodes) program (contents (store w))) (λ w h. (history w, passes w, subst (λ (ds : Listing). IsWitness ds program (contents (store w)) (history w) (passes w)) own h)) witnesses held);
    directory = first ∙ ap directory_text own;
    stores = others ∙ sym (map_twice (λ c. export_of c.items) (λ w. contents (store w)) witnesses);
  }
