-- Answers of blocks that are put one after the other.
use Rattle.std.proofs.Common.{◌≡◌, ℕ, IfSome, Option, Some, None, is_some, ◌+◌, ◌-◌, ◌^◌, ◌<◌, ◌≤◌, Bool, true, false, ltb, Bor, drop, suc, take, take-add, List, [], ◌∷◌, ◌++◌, Result, Ok, Err, Vec, IfOk, length, get_or, refl, sym, ap, ◌∙◌, subst, arith, append_assoc, ◌⊎◌, inl, inr}
use Rattle.std.specs.declared.alloc.Global.{Global}
use Rattle.std.specs.List.{All, flat_map}
use Rattle.std.proofs.lemmas.Bool.Decides.{nat_tests}
use Rattle.std.proofs.lemmas.List.{flat_map_more, get_or_append_left, get_or-append_right, length-append, length-drop, length-take-le}
use Rattle.std.proofs.lemmas.List.Elements.{All-push}
use Rattle.authenticators.specs.Directory.{Listing}
use Rattle.replay_verifier.specs.Meaning.{Meaning}
use Rattle.item_forms.specs.Pieces.{Piece}
use Rattle.evidence_item.specs.declared.fault.ItemFault.{ItemFault}
use Rattle.evidence_item.specs.declared.examining.Examined.{Examined}
use Rattle.evidence_item.specs.Checking.{Checked}
use Rattle.evidence_item.specs.Examining.{IsExamined}
use Rattle.parallel_checking.specs.declared.blocks.Block.{Block}
use Rattle.parallel_checking.specs.Checks.{AreAnswers, IsAnswer}
use Rattle.parallel_checking.specs.Parts.{AllWhole, AreKnown, Part, items_of}
use Rattle.parallel_checking.specs.within.Blocks.{AreBlocksAnswered}

-- One part more.
pub joins : {T : Type 0} (all new : List T) (x : Part T) (v : Vec T Global) (left rest parts : List (Part T)) → left ≡ x ∷ rest → x ≡ Ok v → new ≡ all ++ v.items
    → all ++ items_of left ≡ items_of parts → (AllWhole left → AllWhole parts) → (new ++ items_of rest ≡ items_of parts) × (AllWhole rest → AllWhole parts)
joins {T} all new x v left rest parts is whole grown held wholes =
    let opened : left ≡ Ok v ∷ rest = is ∙ ap (λ (p : Part T). p ∷ rest) whole in (
      ap (λ (l : List T). l ++ items_of rest) grown ∙ (append_assoc all v.items (items_of rest) ∙ (ap (λ (l : List (Part T)). all ++ items_of l) (sym opened) ∙ held)),
      λ w. wholes (subst (λ (l : List (Part T)). AllWhole l) (sym opened) w),
    )

-- One block more.
pub next_block : (items : List Piece) (blocks new : List Block) (start n : ℕ) (part : Bor (List Piece)) → start + n ≤ length items → flat_map (λ (b : Block). b.items.now) blocks ≡ take start items
    → All (λ (b : Block). b.start + length b.items.now ≤ start) blocks → part.now ≡ take ((start + n) - start) (drop start items) → new ≡ blocks ++ record { start = start; items = part } ∷ []
    → (start + n ≤ length items) × (flat_map (λ (b : Block). b.items.now) new ≡ take (start + n) items) × All (λ (b : Block). b.start + length b.items.now ≤ start + n) new
next_block items blocks new start n part within so_far below is grown =
    let b : Block = record { start = start; items = part } in
    let all : List Block → List Piece = flat_map (λ (b : Block). b.items.now) in
    let size : (start + n) - start ≡ n = omega arith in
    let part_is : part.now ≡ take n (drop start items) = is ∙ ap (λ (m : ℕ). take m (drop start items)) size in
    let long : length part.now ≡ n = ap length part_is ∙ length-take-le n (drop start items) (omega (arith, length-drop start items, within)) in (
      within,
      ap all grown ∙ sym (flat_map_more (λ (b : Block). b.items.now) [] blocks b) ∙ (ap (λ (l : List Piece). l ++ part.now) so_far ∙ ap (λ (l : List Piece). take start items ++ l) part_is ∙ sym (take-add start n items)),
      subst (λ (l : List Block). All (λ (b : Block). b.start + length b.items.now ≤ start + n) l) (sym grown)
          (All-push (λ (b : Block). b.start + length b.items.now ≤ start + n) blocks b (λ k d low. omega (arith, below k d low)) (omega (arith, long))),
    )

pub fit : (blocks : List Block) (start : ℕ) → start < 2 ^ 64 → All (λ (b : Block). b.start + length b.items.now ≤ start) blocks → All (λ (b : Block). b.start + length b.items.now < 2 ^ 64) blocks
fit blocks start low all = λ k d below. omega (arith, all k d below, low)

module _ {S : Type 0} (ds : Listing) (program : Meaning S) where
  abbrev Answers : Type 0
  Answers = List (Result Checked ItemFault)

  both_answer : (xs ys : List Piece) (us vs : Answers) → AreAnswers ds program xs us → AreAnswers ds program ys vs → AreAnswers ds program (xs ++ ys) (us ++ vs)
  both_answer xs ys us vs a b =
      record {
        count = length-append us vs ∙ (ap (λ (n : ℕ). n + length vs) a.count ∙ ap (λ (n : ℕ). length xs + n) b.count) ∙ sym (length-append xs ys);
        each = λ n r below x. at n r x below (ltb n (length xs)) refl;
      }
    where
      at : (n : ℕ) (r : Result Checked ItemFault) (x : Piece) → n < length (xs ++ ys) → (low : Bool) → ltb n (length xs) ≡ low → IsAnswer ds program (get_or (xs ++ ys) n x) (get_or (us ++ vs) n r)
      at n r x below true e =
          let inside : n < length xs = grind (arith, nat_tests) in
          subst (λ (y : Piece). IsAnswer ds program y (get_or (us ++ vs) n r)) (sym (get_or_append_left xs ys x n inside))
          (subst (λ (u : Result Checked ItemFault). IsAnswer ds program (get_or xs n x) u) (sym (get_or_append_left us vs r n (omega (arith, inside, a.count)))) (a.each n r inside x))
      at n r x below false e =
          let over : length xs ≤ n = grind (arith, nat_tests) in
          let rest : n - length xs < length ys = omega (arith, over, below, length-append xs ys) in
          subst (λ (y : Piece). IsAnswer ds program y (get_or (us ++ vs) n r)) (sym (get_or-append_right xs ys (length xs) n x refl over))
          (subst (λ (u : Result Checked ItemFault). IsAnswer ds program (get_or ys (n - length xs) x) u) (sym (get_or-append_right us vs (length xs) n r a.count over)) (b.each (n - length xs) r rest x))

  part_answers : (b : Block) (p : Part (Result Checked ItemFault)) (bs : List Block) (ps : List (Part (Result Checked ItemFault))) → IfOk p (λ v. AreAnswers ds program b.items.now v.items)
      → AllWhole (p ∷ ps) → (AllWhole ps → AreAnswers ds program (flat_map (λ (b : Block). b.items.now) bs) (items_of ps)) → AreAnswers ds program (flat_map (λ (b : Block). b.items.now) (b ∷ bs)) (items_of (p ∷ ps))
  part_answers b (Ok v) bs ps a w rec = both_answer b.items.now (flat_map (λ (b : Block). b.items.now) bs) v.items (items_of ps) a (rec w)
  part_answers b (Err e) bs ps a w rec = absurd w

  pub all_answers : (bs : List Block) (ps : List (Part (Result Checked ItemFault))) → AreBlocksAnswered ds program bs ps → AllWhole ps → AreAnswers ds program (flat_map (λ (b : Block). b.items.now) bs) (items_of ps)
  all_answers [] [] a w = record { count = refl; each = λ n r below. absurd (omega (arith, below)) }
  all_answers [] (p ∷ ps) a w = absurd (omega (arith, a.count))
  all_answers (b ∷ bs) [] a w = absurd (omega (arith, a.count))
  all_answers (b ∷ bs) (p ∷ ps) a w =
      part_answers b p bs ps (a.each 0 p (omega arith) b) w
      (all_answers bs ps (record { count = omega (arith, a.count); each = λ n q below c. a.each (suc n) q (omega (arith, below)) c }))

  pub answers_of : (items : List Piece) (bs read : List Block) (ps : List (Part (Result Checked ItemFault))) (all : Answers) → flat_map (λ (b : Block). b.items.now) bs ≡ items → read ≡ bs → AreBlocksAnswered ds program read ps
      → AllWhole ps → all ≡ items_of ps → AreAnswers ds program items all
  answers_of items bs read ps all covered same a w is =
      subst (λ (l : List Piece). AreAnswers ds program l all) (ap (flat_map (λ (b : Block). b.items.now)) same ∙ covered)
      (subst (λ (u : Answers). AreAnswers ds program (flat_map (λ (b : Block). b.items.now) read) u) (sym is) (all_answers read ps a w))

-- ---- what is known of an item

within : (k n : ℕ) → true ≡ ltb k n → k < n
within k n e = grind (arith, nat_tests)

pub known_got : (ds : Listing) (items : List Piece) (all read : List Examined) (k : ℕ) (item : Piece) (o : Option (Bor Examined)) → AreKnown ds items all → read ≡ all → is_some o ≡ ltb k (length read)
    → IfSome o (λ e. e.now ≡ get_or read k e.now) → k < length items → item ≡ get_or items k item → IfSome o (λ e. IsExamined ds item.fields e.now)
known_got ds items all read k item None known same there found below is = tt
known_got ds items all read k item (Some e) known same there found below is =
    let low : k < length read = within k (length read) there in
    let low_all : k < length all = subst (λ (l : List Examined). k < length l) same low in
    let found_all : e.now ≡ get_or all k e.now = found ∙ ap (λ (l : List Examined). get_or l k e.now) same in
    subst (λ (x : Piece). IsExamined ds x.fields e.now) (sym is) (subst (λ (y : Examined). IsExamined ds (get_or items k item).fields y) (sym found_all) (known k item e.now low_all))
