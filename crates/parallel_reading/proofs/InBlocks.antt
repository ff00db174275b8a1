-- Texts that are read in blocks.
use Rattle.std.proofs.Common.{◌≡◌, ◌∙◌, ◌+◌, ◌-◌, ◌≤◌, ◌<◌, ℕ, zero, suc, Bool, true, false, ltb, Bor, List, [], ◌∷◌, ◌++◌, length, map, take, drop, get_or, Result, Ok, Err, IfOk, refl, sym, ap, subst, arith}
use Rattle.std.specs.List.{All}
use Rattle.std.proofs.lemmas.Bool.Decides.{nat_tests}
use Rattle.std.proofs.lemmas.List.{drop-drop, get_or-append_right, get_or-drop, get_or-take, get_or_append_left, length-append, length-drop, length-map, length-take-le, length_push}
use Rattle.outcome.specs.Outcome.{◌>>=◌, Gives, told_as}
use Rattle.log_chain.specs.History.{unless}
use Rattle.authenticators.specs.Directory.{Listing}
use Rattle.replay_verifier.specs.Meaning.{Meaning}
use Rattle.item_forms.specs.declared.fault.DecodeFault.{DecodeFault}
use Rattle.item_forms.specs.declared.forms.Fields.{Fields}
use Rattle.item_forms.specs.Pieces.{Piece}
use Rattle.evidence_item.specs.Checking.{Checked, IsChecked}
use Rattle.evidence_item.specs.Validity.{fault_of}
use Rattle.containers.specs.declared.fault.Cause.{Cause}
use Rattle.containers.specs.declared.fault.Cause.TheVariants as cause
use Rattle.containers.specs.CheckedItems.{checked_of, is_before}
use Rattle.containers.specs.Container.{refused_unless}
use Rattle.containers.specs.Refusals.{of_checking, of_reading}
use Rattle.parallel_checking.specs.Parts.{AllWhole, Part, items_of}
use Rattle.parallel_reading.specs.Readings.{AreReadings, IsReading, IsReadingAt}
use Rattle.parallel_reading.proofs.Standing.{map_at}
use Rattle.parallel_reading.specs.within.Blocks.{AreBlocks, AreBlocksRead, AreCheckedAs, AreDecoded, AreRead, IsCheckedAs, IsDecoded, valid_of}

-- ---- blocks of texts

abbrev Text : Type 0
Text = Bor (List ℕ)

abbrev BlockOf : Type 0
BlockOf = Bor (List Text)

pub more_blocks : (texts : List Text) (a b c : ℕ) (ss new : List BlockOf) (s : BlockOf) → AreBlocks texts a b ss → b < c → c < length texts → s.now ≡ take ((c + 1) - b) (drop b texts) → new ≡ ss ++ s ∷ [] → AreBlocks texts a c new
more_blocks texts a b c ss new s are lt inside is grown = subst (AreBlocks texts a c) (sym grown) (go a ss are)
  where
    go : (a : ℕ) (ss : List BlockOf) → AreBlocks texts a b ss → AreBlocks texts a c (ss ++ s ∷ [])
    go a [] same =
        let n : (c + 1) - b ≡ (c - a) + 1 = omega (arith, same, lt) in
        (c, omega (arith, same, lt), inside, is ∙ ap (λ (m : ℕ). take m (drop b texts)) n ∙ ap (λ (m : ℕ). take ((c - a) + 1) (drop m texts)) (sym same), refl)
    go a (x ∷ xs) (d, less, in_it, at, rest) = (d, less, in_it, at, go d xs rest)

-- each block has a text
block_long : (texts : List Text) (a c : ℕ) (s : BlockOf) → a < c → c < length texts → s.now ≡ take ((c - a) + 1) (drop a texts) → length s.now ≡ (c - a) + 1
block_long texts a c s lt inside at =
    let left = length-drop a texts in
    ap (λ (l : List Text). length l) at ∙ length-take-le ((c - a) + 1) (drop a texts) (omega (arith, left, lt, inside))

pub each_some : (texts : List Text) (a b : ℕ) (ss : List BlockOf) → AreBlocks texts a b ss → All (λ (s : BlockOf). 0 < length s.now) ss
each_some texts a b [] are = λ k d lt. absurd (omega (arith, lt))
each_some texts a b (s ∷ ss) (c, lt, inside, at, rest) = go (each_some texts c b ss rest)
  where
    go : All (λ (s : BlockOf). 0 < length s.now) ss → All (λ (s : BlockOf). 0 < length s.now) (s ∷ ss)
    go others zero d low = let long = block_long texts a c s lt inside at in omega (arith, long)
    go others (suc k) d low = others k d (omega (arith, low))

-- ---- one block

pub more_decoded : (texts : List (List ℕ)) (items new : List Piece) (x : Piece) (k : ℕ) → k ≡ length items → AreDecoded texts items → k + 1 < length texts → ((t : List ℕ) → IsDecoded (get_or texts k t) (get_or texts (k + 1) t) x) → new ≡ items ++ x ∷ [] → AreDecoded texts new
more_decoded texts items new x k is are within next grown = subst (AreDecoded texts) (sym grown) (record {
  within = (let long = length_push items x in omega (arith, long, within, is));
  each = λ n d t low.
      let long = length_push items x in
      at n d t (omega (arith, low, long)) (ltb n k) refl;
})
  where
    at : (n : ℕ) (d : Piece) (t : List ℕ) → n < length items + 1 → (b : Bool) → ltb n k ≡ b → IsDecoded (get_or texts n t) (get_or texts (suc n) t) (get_or (items ++ x ∷ []) n d)
    at n d t low true e =
        let inside : n < k = grind (arith, nat_tests) in
        let inside_items : n < length items = omega (arith, inside, is) in
        subst (λ (p : Piece). IsDecoded (get_or texts n t) (get_or texts (suc n) t) p) (sym (get_or_append_left items (x ∷ []) d n inside_items)) (are.each n d t inside_items)
    at n d t low false e =
        let over : k ≤ n = grind (arith, nat_tests) in
        let same : n ≡ k = omega (arith, over, low, is) in
        let next_is : suc n ≡ k + 1 = omega (arith, same) in
        let here : get_or (items ++ x ∷ []) n d ≡ x = get_or-append_right items (x ∷ []) (length items) n d refl (omega (arith, over, is)) ∙ ap (λ (m : ℕ). get_or (x ∷ []) m d) (let zero_is : n - length items ≡ 0 = omega (arith, same, is) in zero_is) in
        subst (λ (p : Piece). IsDecoded (get_or texts n t) (get_or texts (suc n) t) p) (sym here)
        (subst (λ (m : ℕ). IsDecoded (get_or texts m t) (get_or texts (suc n) t) x) (sym same) (subst (λ (m : ℕ). IsDecoded (get_or texts k t) (get_or texts m t) x) (sym next_is) (next t)))

pub decoded_at : (xs : List Text) (k : ℕ) (d e : Text) (x : Piece) → k + 1 < length xs → IsDecoded (get_or xs k d).now (get_or xs (k + 1) e).now x → (t : List ℕ) → IsDecoded (get_or (map (λ (y : Text). y.now) xs) k t) (get_or (map (λ (y : Text). y.now) xs) (k + 1) t) x
decoded_at xs k d e x within is t =
    subst (λ (l : List ℕ). IsDecoded l (get_or (map (λ (y : Text). y.now) xs) (k + 1) t) x) (sym (map_at xs k t d (omega (arith, within))))
    (subst (λ (l : List ℕ). IsDecoded (get_or xs k d).now l x) (sym (map_at xs (k + 1) t e within)) is)

-- an item that is next
pub at_front : (items : List Piece) (k : ℕ) (x : Piece) (rest : List Piece) → drop k items ≡ x ∷ rest → (k < length items) × ((d : Piece) → x ≡ get_or items k d)
at_front items k x rest at =
    let left : length items - k ≡ length rest + 1 = sym (length-drop k items) ∙ ap (λ (l : List Piece). length l) at ∙ omega arith in (
      omega (arith, left),
      λ d. let none : k + 0 ≡ k = omega arith in sym (ap (λ (m : ℕ). get_or items m d) (sym none) ∙ sym (get_or-drop k items 0 d) ∙ ap (λ (l : List Piece). get_or l 0 d) at),
    )

pub next_rest : (items : List Piece) (k n : ℕ) (x : Piece) (rest : List Piece) → n ≡ k + 1 → drop k items ≡ x ∷ rest → rest ≡ drop n items
next_rest items k n x rest is at = sym (ap (λ (l : List Piece). drop 1 l) at) ∙ drop-drop 1 k items ∙ ap (λ (m : ℕ). drop m items) (sym is)

-- what is decoded is read as what is valid of it
decoded_read : (ds : Listing) (last text : List ℕ) (x : Piece) → IsDecoded last text x → checked_of ds last text ≡ valid_of ds x.fields
unfolding checked_of
decoded_read ds last text x is =
    ap (λ (r : Result Fields DecodeFault). told_as of_reading r >>= λ item. refused_unless cause.NotAscending (is_before last text) >>= λ _. told_as of_checking (unless (fault_of ds item) item)) is.read
    ∙ ap (λ (b : Bool). refused_unless cause.NotAscending b >>= λ _. told_as of_checking (unless (fault_of ds x.fields) x.fields)) is.before

module _ {S : Type 0} (ds : Listing) (program : Meaning S) where
  -- one item more
  pub more_checked : (items : List Piece) (readings new : List (Result Checked Cause)) (r : Result Checked Cause) (x : Piece) (rest : List Piece) (k : ℕ) → k ≡ length readings → drop k items ≡ x ∷ rest → AreCheckedAs ds program k items readings
      → Gives cause.Memory (λ (c : Checked). c.item.fields) r (valid_of ds x.fields) → IfOk r (IsChecked ds program) → new ≡ readings ++ r ∷ [] → AreCheckedAs ds program (k + 1) items new
  more_checked items readings new r x rest k is at are exact checked grown = subst (AreCheckedAs ds program (k + 1) items) (sym grown) (record {
    count = length_push readings r ∙ ap (λ (n : ℕ). n + 1) (sym is);
    each = λ n d q low. place n d q low (ltb n k) refl;
  })
    where
      place : (n : ℕ) (d : Piece) (q : Result Checked Cause) → n < k + 1 → (b : Bool) → ltb n k ≡ b → IsCheckedAs ds program (get_or items n d) (get_or (readings ++ r ∷ []) n q)
      place n d q low true e =
          let inside : n < k = grind (arith, nat_tests) in
          subst (λ (v : Result Checked Cause). IsCheckedAs ds program (get_or items n d) v) (sym (get_or_append_left readings (r ∷ []) q n (omega (arith, inside, is)))) (are.each n d q inside)
      place n d q low false e =
          let over : k ≤ n = grind (arith, nat_tests) in
          let same : n ≡ k = omega (arith, over, low) in
          let none : n - length readings ≡ 0 = omega (arith, same, is) in
          let here : get_or (readings ++ r ∷ []) n q ≡ r = get_or-append_right readings (r ∷ []) (length readings) n q refl (omega (arith, over, is)) ∙ ap (λ (m : ℕ). get_or (r ∷ []) m q) none in
          let zeroth : k + 0 ≡ n = omega (arith, same) in
          let item : get_or items n d ≡ x = ap (λ (m : ℕ). get_or items m d) (sym zeroth) ∙ sym (get_or-drop k items 0 d) ∙ ap (λ (l : List Piece). get_or l 0 d) at in
          subst (λ (p : Piece). IsCheckedAs ds program p (get_or (readings ++ r ∷ []) n q)) (sym item) (subst (λ (v : Result Checked Cause). IsCheckedAs ds program x v) (sym here) (record { exact = exact; checked = checked }))

  pub checked_to_end : (items : List Piece) (readings : List (Result Checked Cause)) (rest : List Piece) → length readings ≤ length items → rest ≡ drop (length readings) items → length rest ≡ 0 → AreCheckedAs ds program (length readings) items readings → AreCheckedAs ds program (length items) items readings
  checked_to_end items readings rest within is none are =
      let left : length items - length readings ≡ 0 = sym (length-drop (length readings) items) ∙ ap (λ (l : List Piece). length l) (sym is) ∙ none in
      let same : length readings ≡ length items = omega (arith, left, within) in
      subst (λ (n : ℕ). AreCheckedAs ds program n items readings) same are

  -- what was decoded and checked was read
  front_at : (texts : List (List ℕ)) (n : ℕ) (t : List ℕ) (x : Piece) (r : Result Checked Cause) → IsDecoded (get_or texts n t) (get_or texts (suc n) t) x → IsCheckedAs ds program x r → IsReading ds program (get_or texts n t) (get_or texts (suc n) t) r
  front_at texts n t x r one two = record {
    exact = subst (λ (e : Result Fields Cause). Gives cause.Memory (λ (c : Checked). c.item.fields) r e) (sym (decoded_read ds (get_or texts n t) (get_or texts (suc n) t) x one)) two.exact;
    checked = two.checked;
  }

  first_item : (items : List Piece) → 0 < length items → Piece
  first_item [] low = absurd (omega (arith, low))
  first_item (x ∷ xs) low = x

  pub read_front : (texts : List (List ℕ)) (items : List Piece) (readings : List (Result Checked Cause)) → AreDecoded texts items → AreCheckedAs ds program (length items) items readings → AreRead ds program texts (length readings) readings
  read_front texts items readings are checked = record {
    count = refl;
    each = λ n r low t.
        let count = checked.count in
        let inside : n < length items = omega (arith, low, count) in
        let x : Piece = first_item items (omega (arith, inside)) in
        front_at texts n t (get_or items n x) (get_or readings n r) (are.each n x t inside) (checked.each n x r inside);
  }

  -- one text more
  pub more_read : (texts : List (List ℕ)) (readings new : List (Result Checked Cause)) (r : Result Checked Cause) (k : ℕ) → k ≡ length readings → AreRead ds program texts (length readings) readings → IsReadingAt ds program texts k r → new ≡ readings ++ r ∷ [] → AreRead ds program texts (length new) new
  more_read texts readings new r k is are next grown = subst (λ (l : List (Result Checked Cause)). AreRead ds program texts (length l) l) (sym grown) (record {
    count = refl;
    each = λ n q low. let long = length_push readings r in place n q (omega (arith, low, long)) (ltb n k) refl;
  })
    where
      place : (n : ℕ) (q : Result Checked Cause) → n < length readings + 1 → (b : Bool) → ltb n k ≡ b → IsReadingAt ds program texts n (get_or (readings ++ r ∷ []) n q)
      place n q low true e =
          let inside : n < k = grind (arith, nat_tests) in
          let inside_it : n < length readings = omega (arith, inside, is) in
          subst (λ (v : Result Checked Cause). IsReadingAt ds program texts n v) (sym (get_or_append_left readings (r ∷ []) q n inside_it)) (are.each n q inside_it)
      place n q low false e =
          let over : k ≤ n = grind (arith, nat_tests) in
          let same : n ≡ k = omega (arith, over, low, is) in
          let none : n - length readings ≡ 0 = omega (arith, same, is) in
          let here : get_or (readings ++ r ∷ []) n q ≡ r = get_or-append_right readings (r ∷ []) (length readings) n q refl (omega (arith, over, is)) ∙ ap (λ (m : ℕ). get_or (r ∷ []) m q) none in
          subst (λ (v : Result Checked Cause). IsReadingAt ds program texts n v) (sym here) (subst (λ (m : ℕ). IsReadingAt ds program texts m r) (sym same) next)

  pub all_texts_read : (texts : List (List ℕ)) (readings : List (Result Checked Cause)) → AreRead ds program texts (length readings) readings → length texts ≤ length readings + 1 → length readings < length texts → AreReadings ds program texts readings
  all_texts_read texts readings are most least = record { count = omega (arith, most, least); each = λ n d low. are.each n d low }

pub more_within : (readings new : List (Result Checked Cause)) (r : Result Checked Cause) (n : ℕ) → new ≡ readings ++ r ∷ [] → length readings + 1 < n → length new < n
more_within readings new r n grown low = let long : length new ≡ length readings + 1 = ap (λ (l : List (Result Checked Cause)). length l) grown ∙ length_push readings r in omega (arith, long, low)

-- ---- all blocks

abbrev now : Text → List ℕ
now t = t.now

map_drop : (n : ℕ) (xs : List Text) → map now (drop n xs) ≡ drop n (map now xs)
map_drop zero xs = refl
map_drop (suc n) [] = refl
map_drop (suc n) (x ∷ xs) = map_drop n xs

map_take : (n : ℕ) (xs : List Text) → map now (take n xs) ≡ take n (map now xs)
map_take zero xs = refl
map_take (suc n) [] = refl
map_take (suc n) (x ∷ xs) = ap (λ (l : List (List ℕ)). x.now ∷ l) (map_take n xs)

-- a text of a block, among all
in_block : (texts : List Text) (s : BlockOf) (a k n : ℕ) (t : List ℕ) → s.now ≡ take k (drop a texts) → n < k → get_or (map (λ (x : Text). x.now) s.now) n t ≡ get_or (map (λ (x : Text). x.now) texts) (a + n) t
in_block texts s a k n t at low =
    ap (λ (l : List Text). get_or (map (λ (x : Text). x.now) l) n t) at
    ∙ ap (λ (l : List (List ℕ)). get_or l n t) (map_take k (drop a texts) ∙ ap (λ (l : List (List ℕ)). take k l) (map_drop a texts))
    ∙ get_or-take k (drop a (map (λ (x : Text). x.now) texts)) n t low
    ∙ get_or-drop a (map (λ (x : Text). x.now) texts) n t

-- Between text a and text b each text behind the first is read.
pub record Between {S : Type 0} (ds : Listing) (program : Meaning S) (texts : List (List ℕ)) (a b : ℕ) (readings : List (Result Checked Cause)) : Type 0 where
  pub count : length readings + a ≡ b
  pub each : (m : ℕ) (r : Result Checked Cause) → m < length readings → IsReadingAt ds program texts (a + m) (get_or readings m r)

module _ {S : Type 0} (ds : Listing) (program : Meaning S) (texts : List Text) where
  abbrev all : List (List ℕ)
  all = map (λ (x : Text). x.now) texts

  one_block : (s : BlockOf) (a c : ℕ) (vs : List (Result Checked Cause)) → a < c → c < length texts → s.now ≡ take ((c - a) + 1) (drop a texts) → AreReadings ds program (map (λ (x : Text). x.now) s.now) vs → Between ds program all a c vs
  one_block s a c vs lt inside at are =
      let long : length (map (λ (x : Text). x.now) s.now) ≡ (c - a) + 1 = length-map s.now (λ (x : Text). x.now) ∙ block_long texts a c s lt inside at in
      let count = are.count in
      record {
        count = omega (arith, count, long, lt);
        each = λ m r low t.
            let here : get_or (map (λ (x : Text). x.now) s.now) m t ≡ get_or all (a + m) t = in_block texts s a ((c - a) + 1) m t at (omega (arith, low, count, long)) in
            let one : a + suc m ≡ suc (a + m) = omega arith in
            let next : get_or (map (λ (x : Text). x.now) s.now) (suc m) t ≡ get_or all (suc (a + m)) t = in_block texts s a ((c - a) + 1) (suc m) t at (omega (arith, low, count, long)) ∙ ap (λ (n : ℕ). get_or all n t) one in
            subst (λ (l : List ℕ). IsReading ds program l (get_or all (suc (a + m)) t) (get_or vs m r)) here (subst (λ (l : List ℕ). IsReading ds program (get_or (map (λ (x : Text). x.now) s.now) m t) l (get_or vs m r)) next (are.each m r low t));
      }

  two_blocks : (a b c : ℕ) (us vs : List (Result Checked Cause)) → Between ds program all a b us → Between ds program all b c vs → Between ds program all a c (us ++ vs)
  two_blocks a b c us vs first last =
      let long = length-append us vs in
      let one = first.count in
      let two = last.count in
      record { count = omega (arith, long, one, two); each = λ m r low. place m r (omega (arith, low, long)) (ltb m (length us)) refl }
    where
      place : (m : ℕ) (r : Result Checked Cause) → m < length us + length vs → (t : Bool) → ltb m (length us) ≡ t → IsReadingAt ds program all (a + m) (get_or (us ++ vs) m r)
      place m r low true e =
          let inside : m < length us = grind (arith, nat_tests) in
          subst (λ (v : Result Checked Cause). IsReadingAt ds program all (a + m) v) (sym (get_or_append_left us vs r m inside)) (first.each m r inside)
      place m r low false e =
          let over : length us ≤ m = grind (arith, nat_tests) in
          let one = first.count in
          let n : b + (m - length us) ≡ a + m = omega (arith, one, over) in
          subst (λ (v : Result Checked Cause). IsReadingAt ds program all (a + m) v) (sym (get_or-append_right us vs (length us) m r refl over))
          (subst (λ (k : ℕ). IsReadingAt ds program all k (get_or vs (m - length us) r)) n (last.each (m - length us) r (omega (arith, low, over))))

  part_read : (s : BlockOf) (p : Part (Result Checked Cause)) (ps : List (Part (Result Checked Cause))) (a b c : ℕ) → a < c → c < length texts → s.now ≡ take ((c - a) + 1) (drop a texts) → IfOk p (λ v. AreReadings ds program (map (λ (x : Text). x.now) s.now) v.items)
      → AllWhole (p ∷ ps) → (AllWhole ps → Between ds program all c b (items_of ps)) → Between ds program all a b (items_of (p ∷ ps))
  part_read s (Ok v) ps a b c lt inside at are whole rec = two_blocks a c b v.items (items_of ps) (one_block s a c v.items lt inside at are) (rec whole)
  part_read s (Err e) ps a b c lt inside at are whole rec = absurd whole

  parts_read : (ss : List BlockOf) (ps : List (Part (Result Checked Cause))) (a b : ℕ) → AreBlocks texts a b ss → AreBlocksRead ds program ss ps → AllWhole ps → Between ds program all a b (items_of ps)
  parts_read [] [] a b same are whole = record { count = omega (arith, same); each = λ m r low. absurd (omega (arith, low)) }
  parts_read [] (p ∷ ps) a b same are whole = absurd (let count = are.count in omega (arith, count))
  parts_read (s ∷ ss) [] a b blocks are whole = absurd (let count = are.count in omega (arith, count))
  parts_read (s ∷ ss) (p ∷ ps) a b (c, lt, inside, at, rest) are whole =
      let count = are.count in
      part_read s p ps a b c lt inside at (are.each 0 p (omega arith) s) whole
      (parts_read ss ps c b rest (record { count = omega (arith, count); each = λ n q low d. are.each (suc n) q (omega (arith, low)) d }))

  pub blocks_read : (ss read : List BlockOf) (ps : List (Part (Result Checked Cause))) (readings : List (Result Checked Cause)) → 0 < length texts → AreBlocks texts 0 (length texts - 1) ss → read ≡ ss → AreBlocksRead ds program read ps → AllWhole ps → readings ≡ items_of ps
      → AreReadings ds program (map (λ (x : Text). x.now) texts) readings
  blocks_read ss read ps readings some blocks same are whole is =
      let between : Between ds program all 0 (length texts - 1) readings = subst (Between ds program all 0 (length texts - 1)) (sym is) (parts_read ss ps 0 (length texts - 1) blocks (subst (λ (l : List BlockOf). AreBlocksRead ds program l ps) same are) whole) in
      let count = between.count in
      let long : length (map (λ (x : Text). x.now) texts) ≡ length texts = length-map texts (λ (x : Text). x.now) in
      record {
        count = omega (arith, count, long, some);
        each = λ n d low. let zeroth : 0 + n ≡ n = omega arith in subst (λ (m : ℕ). IsReadingAt ds program all m (get_or readings n d)) zeroth (between.each n d low);
      }
