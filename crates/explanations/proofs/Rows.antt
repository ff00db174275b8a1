-- Rows, one for each node.
use Rattle.std.proofs.Common.{◌≡◌, ◌∙◌, ◌<◌, ◌+◌, ℕ, zero, suc, true, false, List, [], ◌∷◌, ◌++◌, length, cond, get_or, refl, string_bytes, subst, sym, ap, take, arith}
use Rattle.std.specs.Prelude.{◌↔◌, count_by, map, IsTrue}
use Rattle.std.specs.List.{All, AllByRecursion, Contains}
use Rattle.std.specs.List.Sorted.{IsStrictlyIncreasing}
use Rattle.std.proofs.lemmas.Bool.{true≢false}
use Rattle.std.proofs.lemmas.List.{take_more}
use Rattle.std.proofs.lemmas.List.Elements.{All-cons, All-nil}
use Rattle.std.proofs.lemmas.List.Sums.{sum_by-cons}
use Rattle.authenticators.specs.Directory.{Listing, is_listed}
use Rattle.sentences.specs.declared.explanation.Explanation.{Explanation}
use Rattle.sentences.specs.declared.explanation.NodeExplanation.{NodeExplanation}
use Rattle.evidence_set.specs.declared.indication.Indication.{Indication}
use Rattle.evidence_set.specs.declared.indication.Indication.TheVariants.{Exposed, Suspected, Trusted}
use Rattle.evidence_set.specs.Indications.{IsIndication}
use Rattle.evidence_set.specs.ItemSets.{Items, count}
use Rattle.evidence.specs.Contents.{Contents}
use Rattle.localities.specs.Known.{IsKnown}
use Rattle.replay_verifier.specs.Meaning.{Meaning}
use Rattle.explanations.specs.declared.why.NodeWhy.{NodeWhy}
use Rattle.explanations.specs.declared.why.Why.{Why}
use Rattle.explanations.specs.declared.why.Why.TheVariants as why
use Rattle.proofs.specs.declared.proof.Parts.{Parts}
use Rattle.proofs.specs.Convicting.{Convicts}
use Rattle.explanations.specs.Whys.{AreIndications, AreWhys, IsGrounded, IsWhy, MarksUnknown, Speaks, indication_of, is_unknown, row_of, told_of}
use Rattle.explanations.specs.Leads.{TellsParts}
use Rattle.explanations.specs.Headings.{IsHeading, heading_words, is_same, is_told}
use Rattle.explanations.specs.within.Telling.{AreTold, IsTold, TellsWhy, is_row}

-- what rows show, with one row more
map_more : {X B : Type 0} (f : X → B) (xs : List X) (x : X) → map f (xs ++ x ∷ []) ≡ map f xs ++ f x ∷ []
map_more f [] x = refl
map_more f (y ∷ ys) x = ap (λ zs. f y ∷ zs) (map_more f ys x)

-- rows that show what the first of a list show, and one row more
pub one_more : {X Y B : Type 0} (f : X → B) (g : Y → B) (rows now : List X) (row : X) (xs : List Y) (i : ℕ) (x : Y) → now ≡ rows ++ row ∷ [] → map f rows ≡ map g (take i xs) → i < length xs → f row ≡ g x → x ≡ get_or xs i x → map f now ≡ map g (take (i + 1) xs)
one_more f g rows now row xs i x is before below own at =
    let more : map f now ≡ map f rows ++ f row ∷ [] = ap (map f) is ∙ map_more f rows row in
    let next : map g (take (i + 1) xs) ≡ map g (take i xs) ++ g (get_or xs i x) ∷ [] = ap (map g) (take_more xs i x below) ∙ map_more g (take i xs) (get_or xs i x) in
    more ∙ ap (λ ys. ys ++ f row ∷ []) before ∙ ap (λ y. map g (take i xs) ++ y ∷ []) (own ∙ ap g at) ∙ sym next

-- a list shows itself
pub map_self : {X : Type 0} (xs : List X) → map (λ x. x) xs ≡ xs
map_self [] = refl
map_self (x ∷ xs) = ap (λ ys. x ∷ ys) (map_self xs)

pub map_map : {X Y Z : Type 0} (f : X → Y) (g : Y → Z) (xs : List X) → map g (map f xs) ≡ map (λ x. g (f x)) xs
map_map f g [] = refl
map_map f g (x ∷ xs) = ap (λ ys. g (f x) ∷ ys) (map_map f g xs)

into : {X B : Type 0} (f : X → B) (P : B → Type 0) (xs : List X) → AllByRecursion (λ x. P (f x)) xs → AllByRecursion P (map f xs)
into f P [] h = tt
into f P (x ∷ xs) h = (h.0, into f P xs h.1)

back : {X B : Type 0} (f : X → B) (P : B → Type 0) (xs : List X) → AllByRecursion P (map f xs) → AllByRecursion (λ x. P (f x)) xs
back f P [] h = tt
back f P (x ∷ xs) h = (h.0, back f P xs h.1)

by_recursion : {X : Type 0} (P : X → Type 0) (xs : List X) → All P xs → AllByRecursion P xs
by_recursion P [] h = tt
by_recursion P (x ∷ xs) h = (h 0 x (omega arith), by_recursion P xs (λ k d lt. h (suc k) d (omega (arith, lt))))

by_place : {X : Type 0} (P : X → Type 0) (xs : List X) → AllByRecursion P xs → (k : ℕ) (d : X) → k < length xs → P (get_or xs k d)
by_place P [] h k d lt = absurd (omega (arith, lt))
by_place P (x ∷ xs) h zero d lt = h.0
by_place P (x ∷ xs) h (suc k) d lt = by_place P xs h.1 k d (omega (arith, lt))

-- what holds of what rows show holds of what others show that show the same
pub carried : {X Y B : Type 0} (f : X → B) (g : Y → B) (P : B → Type 0) (xs : List X) (ys : List Y) → map f xs ≡ map g ys → All (λ y. P (g y)) ys → All (λ x. P (f x)) xs
carried f g P xs ys e h =
    let there : AllByRecursion P (map f xs) = rw e (into g P ys (by_recursion (λ y. P (g y)) ys h)) in
    by_place (λ x. P (f x)) xs (back f P xs there)

-- rows of the nodes in order are those of the nodes
pub rows_are : {S : Type 0} (program : Meaning S) (s : Contents) (given : Listing) (rows : List NodeWhy) (nodes : List ℕ) → map (λ row. row.node) rows ≡ nodes → IsStrictlyIncreasing nodes
    → ((n : ℕ) → Contains nodes n ↔ IsTrue (is_listed given n)) → given ≡ s.directory → All (λ row. IsWhy s.directory program s.items row.node row.why) rows → AreWhys program s rows
rows_are program s given rows nodes e rising complete kept right = record {
  ascending = rw e rising;
  complete = λ n. rw (e, sym kept) (complete n);
  right = right;
}

-- ---- what is told of rows

-- one row more
snoc : (rows : List NodeWhy) (told : List NodeExplanation) (row : NodeWhy) (n : NodeExplanation) → AreTold rows told → IsTold row n → AreTold (rows ++ row ∷ []) (told ++ n ∷ [])
snoc [] [] row n h is = (is, tt)
snoc [] (m ∷ told) row n h is = absurd h
snoc (r ∷ rows) [] row n h is = absurd h
snoc (r ∷ rows) (m ∷ told) row n h is = (h.0, snoc rows told row n h.1 is)

pub one_told : (rows : List NodeWhy) (i : ℕ) (row : NodeWhy) (before now : List NodeExplanation) (n : NodeExplanation) → now ≡ before ++ n ∷ [] → AreTold (take i rows) before → i < length rows → IsTold row n → row ≡ get_or rows i row → AreTold (take (i + 1) rows) now
one_told rows i row before now n e so_far below is at =
    let told : IsTold (get_or rows i row) n = subst (λ (r : NodeWhy). IsTold r n) at is in
    let both : AreTold (take i rows ++ get_or rows i row ∷ []) (before ++ n ∷ []) = snoc (take i rows) before (get_or rows i row) n so_far told in
    let all : AreTold (take (i + 1) rows) (before ++ n ∷ []) = subst (λ (rs : List NodeWhy). AreTold rs (before ++ n ∷ [])) (sym (take_more rows i row below)) both in
    subst (λ (ns : List NodeExplanation). AreTold (take (i + 1) rows) ns) (sym e) all

same : (rows : List NodeWhy) (told : List NodeExplanation) → AreTold rows told → map told_of told ≡ map row_of rows
same [] [] h = refl
same [] (n ∷ told) h = absurd h
same (r ∷ rows) [] h = absurd h
same (r ∷ rows) (n ∷ told) h = ap (λ (p : ℕ × Indication). p ∷ map told_of told) h.0.same ∙ ap (λ (ps : List (ℕ × Indication)). row_of r ∷ ps) (same rows told h.1)

-- what is told of the rows is what they say
pub told_are : {S : Type 0} (program : Meaning S) (s : Contents) (rows : List NodeWhy) (told : List NodeExplanation) → AreWhys program s rows → AreTold rows told → AreIndications program s told
told_are program s rows told w h =
    let e : map told_of told ≡ map row_of rows = same rows told h in
    let nodes : map (λ n. n.node) told ≡ map (λ row. row.node) rows =
    sym (map_map told_of (λ (p : ℕ × Indication). p.0) told) ∙ ap (map (λ (p : ℕ × Indication). p.0)) e ∙ map_map row_of (λ (p : ℕ × Indication). p.0) rows in
    record {
      ascending = rw nodes w.ascending;
      complete = λ n. rw nodes (w.complete n);
      right = carried told_of row_of (λ p. IsIndication s.directory program s.items p.0 p.1) told rows e (λ k d lt. (w.right k d lt).indication);
    }

-- as many are told with an indication as there are of it
pub same_length : (rows : List NodeWhy) (told : List NodeExplanation) → AreTold rows told → length rows ≡ length told
same_length [] [] h = refl
same_length [] (n ∷ told) h = absurd h
same_length (r ∷ rows) [] h = absurd h
same_length (r ∷ rows) (n ∷ told) h = ap suc (same_length rows told h.1)

pub same_count : (i : Indication) (rows : List NodeWhy) (told : List NodeExplanation) → AreTold rows told → count_by (is_row i) rows ≡ count_by (is_told i) told
same_count i [] [] h = refl
same_count i [] (n ∷ told) h = absurd h
same_count i (r ∷ rows) [] h = absurd h
same_count i (r ∷ rows) (n ∷ told) h =
    sum_by-cons (λ (row : NodeWhy). cond (is_row i row) 1 0) r rows
    ∙ ap (λ (j : Indication). cond (is_same i j) 1 0 + count_by (is_row i) rows) (sym (ap (λ (p : ℕ × Indication). p.1) h.0.same))
    ∙ ap (λ (k : ℕ). cond (is_told i n) 1 0 + k) (same_count i rows told h.1)
    ∙ sym (sum_by-cons (λ (m : NodeExplanation). cond (is_told i m) 1 0) n told)

-- the heading of the rows is that of what is told
pub headed : (E : Items) (rows : List NodeWhy) (e : Explanation) → AreTold rows e.nodes.items
    → ((behind : List ℕ) × (string_bytes e.heading ≡ heading_words (length rows) (count_by (is_row Trusted) rows) (count_by (is_row Suspected) rows) (count_by (is_row Exposed) rows) (count E) ++ behind))
    → IsHeading E e
headed E rows e h is = (
  is.0,
  is.1
      ∙ ap (λ (n : ℕ). heading_words n (count_by (is_row Trusted) rows) (count_by (is_row Suspected) rows) (count_by (is_row Exposed) rows) (count E) ++ is.0) (same_length rows e.nodes.items h)
      ∙ ap (λ (n : ℕ). heading_words (length e.nodes.items) n (count_by (is_row Suspected) rows) (count_by (is_row Exposed) rows) (count E) ++ is.0) (same_count Trusted rows e.nodes.items h)
      ∙ ap (λ (n : ℕ). heading_words (length e.nodes.items) (count_by (is_told Trusted) e.nodes.items) n (count_by (is_row Exposed) rows) (count E) ++ is.0) (same_count Suspected rows e.nodes.items h)
      ∙ ap (λ (n : ℕ). heading_words (length e.nodes.items) (count_by (is_told Trusted) e.nodes.items) (count_by (is_told Suspected) e.nodes.items) n (count E) ++ is.0) (same_count Exposed rows e.nodes.items h),
)

-- an exposed node is told by the proof of its row
suspected : (i : Indication) → i ≡ Suspected → i ≡ Exposed → ⊥
suspected i s e = let both : Suspected ≡ Exposed = sym s ∙ e in absurd cc

trusted : (i : Indication) → i ≡ Trusted → i ≡ Exposed → ⊥
trusted i t e = let both : Trusted ≡ Exposed = sym t ∙ e in absurd cc

grounds : {S : Type 0} (ds : Listing) (program : Meaning S) (E : Items) (node : ℕ) (w : Why) (n : NodeExplanation)
    → Speaks ds program E node w → told_of n ≡ (node, indication_of w) → TellsWhy w n.sentences.items → IsGrounded ds program n
grounds ds program E node (why.Exposed q xs) n speaks is says = λ _. (q.parts, subst (λ (m : ℕ). Convicts ds program m q.parts) (sym (ap (λ (p : ℕ × Indication). p.0) is)) speaks.0, says)
grounds ds program E node (why.Suspected xs) n speaks is says = λ e. absurd (suspected n.indication (ap (λ (p : ℕ × Indication). p.1) is) e)
grounds ds program E node why.Trusted n speaks is says = λ e. absurd (trusted n.indication (ap (λ (p : ℕ × Indication). p.1) is) e)
grounds ds program E node why.Unknown n speaks is says = λ e. absurd (trusted n.indication (ap (λ (p : ℕ × Indication). p.1) is) e)

grounded : {S : Type 0} (ds : Listing) (program : Meaning S) (E : Items) (rows : List NodeWhy) (told : List NodeExplanation)
    → AllByRecursion (λ row. IsWhy ds program E row.node row.why) rows → AreTold rows told → AllByRecursion (IsGrounded ds program) told
grounded ds program E [] [] right h = tt
grounded ds program E [] (n ∷ told) right h = absurd h
grounded ds program E (r ∷ rows) [] right h = absurd h
grounded ds program E (r ∷ rows) (n ∷ told) right h = (grounds ds program E r.node r.why n right.0.speaks h.0.same h.0.says, grounded ds program E rows told right.1 h.1)

pub all_grounded : {S : Type 0} (program : Meaning S) (s : Contents) (rows : List NodeWhy) (told : List NodeExplanation) → AreWhys program s rows → AreTold rows told → All (IsGrounded s.directory program) told
all_grounded program s rows told w h =
    by_place (IsGrounded s.directory program) told
    (grounded s.directory program s.items rows told (by_recursion (λ row. IsWhy s.directory program s.items row.node row.why) rows w.right) h)

-- a node is marked by its reason
suspected_trusted : (i : Indication) → i ≡ Suspected → i ≡ Trusted → ⊥
suspected_trusted i s e = let both : Suspected ≡ Trusted = sym s ∙ e in absurd cc

unmarked : (ds : Listing) (E : Items) (n : NodeExplanation) → n.has_no_item ≡ false → ((n.indication ≡ Trusted) × (¬ (IsKnown ds E n.node)) → ⊥) → MarksUnknown ds E n
unmarked ds E n off never = (λ on. absurd (true≢false (sym on ∙ off)), λ both. absurd (never both))

marks : {S : Type 0} (ds : Listing) (program : Meaning S) (E : Items) (node : ℕ) (w : Why) (n : NodeExplanation)
    → Speaks ds program E node w → told_of n ≡ (node, indication_of w) → n.has_no_item ≡ is_unknown w → MarksUnknown ds E n
marks ds program E node (why.Exposed q xs) n speaks is mark = unmarked ds E n mark (λ both. trusted n.indication both.0 (ap (λ (p : ℕ × Indication). p.1) is))
marks ds program E node (why.Suspected xs) n speaks is mark = unmarked ds E n mark (λ both. suspected_trusted n.indication (ap (λ (p : ℕ × Indication). p.1) is) both.0)
marks ds program E node why.Trusted n speaks is mark =
    unmarked ds E n mark (λ both. both.1 (subst (λ (m : ℕ). IsKnown ds E m) (sym (ap (λ (p : ℕ × Indication). p.0) is)) speaks))
marks ds program E node why.Unknown n speaks is mark = (
  λ _. (ap (λ (p : ℕ × Indication). p.1) is, λ known. speaks (subst (λ (m : ℕ). IsKnown ds E m) (ap (λ (p : ℕ × Indication). p.0) is) known)),
  λ _. mark,
)

marked : {S : Type 0} (ds : Listing) (program : Meaning S) (E : Items) (rows : List NodeWhy) (told : List NodeExplanation)
    → AllByRecursion (λ row. IsWhy ds program E row.node row.why) rows → AreTold rows told → AllByRecursion (MarksUnknown ds E) told
marked ds program E [] [] right h = tt
marked ds program E [] (n ∷ told) right h = absurd h
marked ds program E (r ∷ rows) [] right h = absurd h
marked ds program E (r ∷ rows) (n ∷ told) right h = (marks ds program E r.node r.why n right.0.speaks h.0.same h.0.marked, marked ds program E rows told right.1 h.1)

pub all_marked : {S : Type 0} (program : Meaning S) (s : Contents) (rows : List NodeWhy) (told : List NodeExplanation) → AreWhys program s rows → AreTold rows told → All (MarksUnknown s.directory s.items) told
all_marked program s rows told w h =
    by_place (MarksUnknown s.directory s.items) told
    (marked s.directory program s.items rows told (by_recursion (λ row. IsWhy s.directory program s.items row.node row.why) rows w.right) h)

pub one_unmarked : (n : NodeExplanation) (now : List NodeExplanation) → now ≡ n ∷ [] → n.has_no_item ≡ false → All (λ m. m.has_no_item ≡ false) now
one_unmarked n now e h =
    subst (λ (ns : List NodeExplanation). All (λ m. m.has_no_item ≡ false) ns) (sym e) (All-cons (λ m. m.has_no_item ≡ false) n [] h (All-nil (λ m. m.has_no_item ≡ false)))

-- what is told of one node
pub one_node : (x : Parts) (n : NodeExplanation) (now : List NodeExplanation) → now ≡ n ∷ [] → TellsParts x n.sentences.items → All (λ m. TellsParts x m.sentences.items) now
one_node x n now e h =
    subst (λ (ns : List NodeExplanation). All (λ m. TellsParts x m.sentences.items) ns) (sym e) (All-cons (λ m. TellsParts x m.sentences.items) n [] h (All-nil (λ m. TellsParts x m.sentences.items)))
