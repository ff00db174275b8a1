-- Of the nodes of a shard the same is told of all evidence and of an extract for them.
use Rattle.std.proofs.Common.{◌≡◌, ◌∙◌, ℕ, suc, Bool, true, false, cond, List, [], ◌∷◌, length, map, Ok, refl, sym, ap, subst, arith}
use Rattle.std.specs.Prelude.{IsTrue}
use Rattle.std.specs.List.{AllByRecursion}
use Rattle.std.specs.Ordering.{nat_cmp}
use Rattle.std.proofs.lemmas.Bool.{eqb-true}
use Rattle.std.proofs.lemmas.Cmp.{nat_cmp_total}
use Rattle.std.proofs.lemmas.List.Elements.{recursion_from_All}
use Rattle.std.proofs.lemmas.Map.Keys.{sorted_from_strictly_increasing}
use Rattle.authenticators.specs.Directory.{Listing}
use Rattle.authenticators.proofs.AscendingLists.{same_elements}
use Rattle.replay_verifier.specs.Meaning.{Meaning}
use Rattle.evidence_set.specs.Indications.{IndicationsAreOne}
use Rattle.evidence_set.specs.ItemSets.{Items}
use Rattle.answers.specs.declared.standings.Standing.{Standing}
use Rattle.answers.specs.declared.style.Style.{Style}
use Rattle.answers.specs.Texts.{standings_text}
use Rattle.localities.specs.Extracts.{ExtractsIndicate, IsExtract}
use Rattle.localities.specs.Known.{KnownAsExpected}
use Rattle.localities.specs.Shards.{in_turn}
use Rattle.shards.specs.Extracts.{QuotesAsExpected, own_shard}
use Rattle.operating.specs.declared.asking.Ending.{Ending}
use Rattle.operating.specs.declared.asking.Ending.TheVariants as ending
use Rattle.operating.specs.declared.scope.Scope.{Scope}
use Rattle.operating.specs.declared.scope.Scope.TheVariants as scope
use Rattle.operating.specs.GatheredFiles.{under}
use Rattle.operating.specs.Questions.{AreStandings, ExposesSomebody, ExtractsAreTold, IsEnding, IsStanding, Status, asked, is_asked}

abbrev Row : Type 0
Row = ℕ × Standing

abbrev number : Row → ℕ
number row = row.0

same_truth : (a b : Bool) → (IsTrue a → IsTrue b) → (IsTrue b → IsTrue a) → a ≡ b
same_truth true b to from = sym (to refl)
same_truth false true to from = from refl
same_truth false false to from = refl

same_standing : (a b : Standing) → a.indication ≡ b.indication → a.known ≡ b.known → a ≡ b
same_standing a b indication known = λ i. record { indication = indication i; known = known i }

module _ {S : Type 0} (one : IndicationsAreOne S) (extracts : ExtractsIndicate S) (knows : KnownAsExpected) (program : Meaning S) (ds : Listing) (E X : Items) (among : Scope) (each : (j : ℕ) → IsTrue (is_asked among j) → IsExtract ds j E X) where
  abbrev Whole : Row → Type 0
  Whole row = IsStanding program (record { directory = ds; items = E }) row.0 row.1

  abbrev Own : Row → Type 0
  Own row = IsStanding program (record { directory = ds; items = X }) row.0 row.1

  same_told : (j : ℕ) (x y : Standing) → IsTrue (is_asked among j) → Whole (j, x) → Own (j, y) → x ≡ y
  same_told j x y in_scope whole own =
      let told : x.indication ≡ y.indication = one ds program E j x.indication y.indication whole.indication ((extracts.indication ds program j E X (each j in_scope) y.indication).0 own.indication) in
      let alike = knows.extract ds j E X (each j in_scope) in
      same_standing x y told (same_truth x.known y.known (λ t. own.known.1 (alike.1 (whole.known.0 t))) (λ t. whole.known.1 (alike.0 (own.known.0 t))))

  same_row : (a b : Row) → IsTrue (is_asked among a.0) → a.0 ≡ b.0 → Whole a → Own b → a ≡ b
  same_row a b in_scope same whole own =
      let here : Own (a.0, b.1) = subst (λ (j : ℕ). Own (j, b.1)) (sym same) own in
      let told : a.1 ≡ b.1 = same_told a.0 a.1 b.1 in_scope whole here in
      ap (λ (j : ℕ). let row : Row = (j, a.1) in row) same ∙ ap (λ (x : Standing). let row : Row = (b.0, x) in row) told

  kept_step : (t : Bool) (a b : Row) (xs ys : List Row) → is_asked among a.0 ≡ t → a.0 ≡ b.0 → Whole a → Own b → xs ≡ ys → cond t (a ∷ xs) xs ≡ cond t (b ∷ ys) ys
  kept_step true a b xs ys is same whole own more = ap (λ (row : Row). row ∷ xs) (same_row a b is same whole own) ∙ ap (λ (rows : List Row). b ∷ rows) more
  kept_step false a b xs ys is same whole own more = more

  head_of : List ℕ → ℕ
  head_of [] = 0
  head_of (n ∷ ns) = n

  tail_of : List ℕ → List ℕ
  tail_of [] = []
  tail_of (n ∷ ns) = ns

  same_asked : (xs ys : List Row) → map number xs ≡ map number ys → AllByRecursion Whole xs → AllByRecursion Own ys → asked among xs ≡ asked among ys
  unfolding head_of tail_of
  same_asked [] [] same whole own = refl
  same_asked [] (b ∷ ys) same whole own = let e : 0 ≡ suc (length (map number ys)) = ap length same in absurd (omega (arith, e))
  same_asked (a ∷ xs) [] same whole own = let e : suc (length (map number xs)) ≡ 0 = ap length same in absurd (omega (arith, e))
  same_asked (a ∷ xs) (b ∷ ys) same whole own =
      let first : a.0 ≡ b.0 = ap head_of same in
      let rest : map number xs ≡ map number ys = ap tail_of same in
      let more = same_asked xs ys rest whole.1 own.1 in
      kept_step (is_asked among a.0) a b (asked among xs) (asked among ys) refl first whole.0 own.0 more
      ∙ ap (λ (j : ℕ). cond (is_asked among j) (b ∷ asked among ys) (asked among ys)) first

  same_rows : (xs ys : List Row) → AreStandings program (record { directory = ds; items = E }) xs → AreStandings program (record { directory = ds; items = X }) ys → asked among xs ≡ asked among ys
  same_rows xs ys whole own =
      let numbers : map number xs ≡ map number ys = same_elements nat_cmp nat_cmp_total (map number xs) (map number ys) (sorted_from_strictly_increasing (map number xs) whole.ascending) (sorted_from_strictly_increasing (map number ys) own.ascending)
      (λ j. (λ c. (own.complete j).1 ((whole.complete j).0 c), λ c. (whole.complete j).1 ((own.complete j).0 c))) in
      same_asked xs ys numbers (recursion_from_All Whole xs whole.right) (recursion_from_All Own ys own.right)

  -- ---- endings

  exposed_here : ExposesSomebody among program (record { directory = ds; items = E }) → ExposesSomebody among program (record { directory = ds; items = X })
  exposed_here (j, listed, in_scope, exposed) = (j, listed, in_scope, (extracts.exposed ds program j E X (each j in_scope)).1 exposed)

  exposed_there : ExposesSomebody among program (record { directory = ds; items = X }) → ExposesSomebody among program (record { directory = ds; items = E })
  exposed_there (j, listed, in_scope, exposed) = (j, listed, in_scope, (extracts.exposed ds program j E X (each j in_scope)).0 exposed)

  same_ending : (a b : Ending) → IsEnding among program (record { directory = ds; items = E }) a → IsEnding among program (record { directory = ds; items = X }) b → a ≡ b
  same_ending ending.Exposed ending.Exposed whole own = refl
  same_ending ending.Exposed ending.Done whole own = absurd (own (exposed_here whole))
  same_ending ending.Exposed ending.NoProof whole own = absurd own
  same_ending ending.Done ending.Exposed whole own = absurd (whole (exposed_there own))
  same_ending ending.Done ending.Done whole own = refl
  same_ending ending.Done ending.NoProof whole own = absurd own
  same_ending ending.NoProof b whole own = absurd whole

  same_answer : (style : Style) (name directory : List ℕ) (a b : List ℕ × Ending) → Status style name among program (under directory (record { directory = ds; items = E })) (Ok a) → Status style name among program (under directory (record { directory = ds; items = X })) (Ok b) → a ≡ b
  same_answer style name directory a b (xs, whole, text, last) (ys, own, own_text, own_last) =
      let told : a.0 ≡ b.0 = text ∙ ap (standings_text style name directory) (same_rows xs ys whole own) ∙ sym own_text in
      let ends : a.1 ≡ b.1 = same_ending a.1 b.1 last own_last in
      ap (λ (t : List ℕ). let r : List ℕ × Ending = (t, a.1) in r) told ∙ ap (λ (e : Ending). let r : List ℕ × Ending = (b.0, e) in r) ends

pub are_told : {S : Type 0} → IndicationsAreOne S → ExtractsIndicate S → KnownAsExpected → QuotesAsExpected → ExtractsAreTold S
are_told one extracts knows quotes = record {
  answer = λ style name directory program shards k s t a b same each whole own.
      same_answer one extracts knows program s.directory s.items t.items (scope.Shard shards k) (λ j in_scope. each j (eqb-true (in_turn shards j) k in_scope)) style name directory a b whole
      (subst (λ (ds : Listing). Status style name (scope.Shard shards k) program (under directory (record { directory = ds; items = t.items })) (Ok b)) (sym same) own);
  shard = λ style name directory program shards k s X a b adds whole own.
      same_answer one extracts knows program s.directory s.items (own_shard (in_turn shards) k X) (scope.Shard shards k)
      (λ j in_scope. subst (λ (n : ℕ). IsExtract s.directory j s.items (own_shard (in_turn shards) n X)) (eqb-true (in_turn shards j) k in_scope) (quotes.extract s.directory (in_turn shards) s.items X j adds)) style name directory a b whole own;
}
