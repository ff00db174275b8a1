-- The evidence of a directory alone, and with one store more.
use Rattle.std.proofs.Common.{◌≡◌, ◌∙◌, ◌+◌, ◌<◌, ℕ, suc, Global, List, [], ◌∷◌, ◌++◌, append-nil, append_assoc, length, Option, Some, None, Result, Ok, Err, Vec, inr, refl, sym, ap, subst, arith}
use Rattle.std.specs.Prelude.{IfSome, IsSome, option_map, option_to_list}
use Rattle.std.specs.List.{Contains}
use Rattle.std.proofs.lemmas.List.{length-append}
use Rattle.outcome.specs.Outcome.{◌>>=◌, told_as}
use Rattle.authenticators.specs.Directory.{Listing}
use Rattle.authenticators.specs.DirectoryText.{directory_of}
use Rattle.authenticators.specs.declared.fault.DirectoryFault.{DirectoryFault}
use Rattle.item_forms.specs.declared.forms.Fields.{Fields}
use Rattle.evidence_set.specs.ItemSets.{SetsAsExpected, none}
use Rattle.evidence.specs.Contents.{Contents}
use Rattle.commands.specs.declared.fault.Fault.{Fault}
use Rattle.commands.specs.Adding.{AddsStore}
use Rattle.commands.specs.Refusals.{of_directory}
use Rattle.commands.specs.Inputs.{AreItems, IsEvidence, Parsed, evidence_of, store_of, stores_after}
use Rattle.operating.specs.GatheredFiles.{AreGathered, Collected, RefusesFiles, RefusesFront, RefusesStore, RefusesText, under}
use Rattle.operating.specs.declared.refusal.Refusal.{Refusal}
use Rattle.operating.specs.FileTexts.{Say, Says, SaysBy, Texts, directory_in, evidence_in, texts_of}

-- ---- the directory

abbrev parsed : Listing → List Fields → Result Parsed Fault
parsed ds items = Ok (record { directory = ds; items = items })

-- the items of stores under a directory
abbrev read_stores : List (List ℕ) → Listing → Result Parsed Fault
read_stores stores ds = stores_after ds [] stores >>= λ items. Ok (record { directory = ds; items = items })

by_directory : (a : List ℕ) (stores : List (List ℕ)) → evidence_of a stores ≡ (told_as of_directory (directory_of a) >>= read_stores stores)
unfolding evidence_of
by_directory a stores = refl

no_stores : (ds : Listing) → read_stores [] ds ≡ parsed ds []
unfolding stores_after
no_stores ds = refl

none_here : {X : Type 0} (x : X) → Contains [] x → ⊥
none_here x c = let below : c.0 < 0 = c.1 in omega arith

no_items : SetsAsExpected → (s : Contents) → s.items ≡ none → AreItems s.items []
no_items law s is x = (λ has. absurd (law.none x (rw is at has)), λ has. absurd (none_here x.fields has))

no_evidence : SetsAsExpected → (directory : List ℕ) (s : Contents) → directory_of directory ≡ Ok s.directory → s.items ≡ none → IsEvidence (evidence_of directory []) s
no_evidence law directory s read is = record {
  items = [];
  is = by_directory directory [] ∙ ap (λ (d : Result Listing DirectoryFault). told_as of_directory d >>= read_stores []) read ∙ no_stores s.directory;
  set = no_items law s is;
}

-- ---- one store more

module _ (ds : Listing) (more : List Fields) (text : List ℕ) (read : store_of ds text ≡ Ok more) where
  last_store : (items all : List Fields) → stores_after ds items [] ≡ Ok all → stores_after ds items (text ∷ []) ≡ Ok (all ++ more)
  unfolding stores_after
  last_store items all h =
      let same : items ≡ all = cc in
      ap (λ (r : Result (List Fields) Fault). r >>= λ more. stores_after ds (items ++ more) []) read ∙ ap (λ (l : List Fields). let told : Result (List Fields) Fault = Ok (l ++ more) in told) same

  stores_behind : (stores : List (List ℕ)) (items all : List Fields) (r : Result (List Fields) Fault)
      → ((m : List Fields) → stores_after ds (items ++ m) stores ≡ Ok all → stores_after ds (items ++ m) (stores ++ text ∷ []) ≡ Ok (all ++ more))
      → (r >>= λ m. stores_after ds (items ++ m) stores) ≡ Ok all → (r >>= λ m. stores_after ds (items ++ m) (stores ++ text ∷ [])) ≡ Ok (all ++ more)
  stores_behind stores items all (Ok m) behind h = behind m h
  stores_behind stores items all (Err f) behind h = absurd cc

  stores_more : (stores : List (List ℕ)) (items all : List Fields) → stores_after ds items stores ≡ Ok all → stores_after ds items (stores ++ text ∷ []) ≡ Ok (all ++ more)
  unfolding stores_after
  stores_more [] items all h = last_store items all h
  stores_more (t ∷ stores) items all h = stores_behind stores items all (store_of ds t) (λ m. stores_more stores (items ++ m) all) h

read_parts : (l ds : Listing) (all : List Fields) (r : Result (List Fields) Fault) → (r >>= λ items. parsed l items) ≡ parsed ds all → (r ≡ Ok all) × (l ≡ ds)
read_parts l ds all (Ok items) h =
    let same : ◌≡◌ {A = Parsed} (record { directory = l; items = items }) (record { directory = ds; items = all }) = cc in
    (ap (λ (p : Parsed). let read : Result (List Fields) Fault = Ok p.items in read) same, ap (λ (p : Parsed). p.directory) same)
read_parts l ds all (Err f) h = absurd cc

more_alike : (d : Result Listing Fault) (stores : List (List ℕ)) (ds : Listing) (all more : List Fields) (text : List ℕ) → store_of ds text ≡ Ok more → (d >>= read_stores stores) ≡ parsed ds all → (d >>= read_stores (stores ++ text ∷ [])) ≡ parsed ds (all ++ more)
more_alike (Ok l) stores ds all more text read h =
    let (items, same) = read_parts l ds all (stores_after l [] stores) h in
    let here : store_of l text ≡ Ok more = ap (λ (x : Listing). store_of x text) same ∙ read in
    ap (λ (r : Result (List Fields) Fault). r >>= λ items. parsed l items) (stores_more l more text here stores [] all items) ∙ ap (λ (x : Listing). parsed x (all ++ more)) same
more_alike (Err f) stores ds all more text read h = absurd cc

more_evidence : (directory text : List ℕ) (stores : List (List ℕ)) (s t : Contents) → IsEvidence (evidence_of directory stores) s → AddsStore s t text → IsEvidence (evidence_of directory (stores ++ text ∷ [])) t
more_evidence directory text stores s t are adds = record {
  items = are.items ++ adds.more;
  is = by_directory directory (stores ++ text ∷ [])
      ∙ more_alike (told_as of_directory (directory_of directory)) stores s.directory are.items adds.more text adds.read (sym (by_directory directory stores) ∙ are.is)
      ∙ ap (λ (l : Listing). parsed l (are.items ++ adds.more)) (sym adds.directory);
  set = adds.set are.items are.set;
}

-- ---- the first file

module _ (limit : ℕ) (files : ℕ → Option (List ℕ)) (directory : List ℕ) (front : Texts) (says : SaysBy limit texts_of (files 0) front) (is_directory : directory ≡ directory_in front) where
  first_alone : (s : Contents) (texts : List (List ℕ)) → evidence_in front ≡ texts → IsEvidence (evidence_of directory texts) s → AreGathered limit files 0 (under directory s)
  first_alone s texts same is =
      let whole : evidence_in front ++ [] ≡ texts = append-nil (evidence_in front) ∙ same in
      record {
        front = front;
        stores = [];
        number = refl;
        first = says;
        directory = is_directory;
        others = tt;
        is = subst (λ (l : List (List ℕ)). IsEvidence (evidence_of directory l) s) (sym whole) is;
      }

  module _ (law : SetsAsExpected) (s : Contents) (read : directory_of directory ≡ Ok s.directory) (empty : s.items ≡ none) where
    pub none_under : evidence_in front ≡ [] → AreGathered limit files 0 (under directory s)
    none_under bare = first_alone s [] bare (no_evidence law directory s read empty)

    pub one_under : (t : Contents) (text : List ℕ) → evidence_in front ≡ text ∷ [] → AddsStore s t text → AreGathered limit files 0 (under directory t)
    one_under t text one adds = first_alone t (text ∷ []) one (more_evidence directory text [] s t (no_evidence law directory s read empty) adds)

-- what file 0 says
abbrev pub SaysFront : ℕ → Option (List ℕ) → List ℕ → Option (Vec ℕ Global) → Type 0
SaysFront limit file directory own = (t : Texts) × SaysBy limit texts_of file t × (directory ≡ directory_in t) × (option_to_list (option_map (λ v. v.items) own) ≡ evidence_in t)

pub first_gathered : (limit : ℕ) (files : ℕ → Option (List ℕ)) → SetsAsExpected → (directory : List ℕ) (own : Option (Vec ℕ Global)) (s t : Contents) (given : List ℕ) → SaysFront limit (files 0) directory own → directory_of directory ≡ Ok s.directory → s.items ≡ none → given ≡ directory
    → (own ≡ None → t ≡ s) → IfSome own (λ text. AddsStore s t text.items) → AreGathered limit files 0 (under given t)
first_gathered limit files law directory None s t given (front, says, is, own) read empty same alone more =
    subst (λ (d : List ℕ). AreGathered limit files 0 (under d t)) (sym same)
    (subst (λ (u : Contents). AreGathered limit files 0 (under directory u)) (sym (alone refl)) (none_under limit files directory front says is law s read empty (sym own)))
first_gathered limit files law directory (Some text) s t given (front, says, is, own) read empty same alone more =
    subst (λ (d : List ℕ). AreGathered limit files 0 (under d t)) (sym same) (one_under limit files directory front says is law s read empty t text.items (sym own) more)

pub under_refused : (limit : ℕ) (file : Option (List ℕ)) (directory : List ℕ) (own : Option (Vec ℕ Global)) (ds : Listing) (r : Refusal) → SaysFront limit file directory own → directory_of directory ≡ Ok ds
    → (r.file ≡ Some 0) × IsSome own × IfSome own (λ text. RefusesText ds text.items r) → (r.file ≡ Some 0) × RefusesFront limit file r
under_refused limit file directory None ds r (front, says, is, own) read (at, some, refuses) = absurd cc
under_refused limit file directory (Some text) ds r (front, says, is, own) read (at, some, refuses) =
    (at, inr (inr (front, ds, text.items, says, subst (λ (d : List ℕ). directory_of d ≡ Ok ds) is read, sym own, refuses)))

-- ---- the other files

say_more : (limit : ℕ) (directory : List ℕ) (files : ℕ → Option (List ℕ)) (n k : ℕ) (stores : List (List ℕ)) (text : List ℕ) → n + length stores ≡ k → Say limit directory files n stores → Says limit (Some directory) (files k) text → Say limit directory files n (stores ++ text ∷ [])
say_more limit directory files n k [] text at say says =
    let same : k ≡ n = omega (arith, at) in
    (subst (λ (m : ℕ). Says limit (Some directory) (files m) text) same says, tt)
say_more limit directory files n k (t ∷ stores) text at say says = (say.0, say_more limit directory files (suc n) k stores text (omega (arith, at)) say.1 says)

store_more : (limit : ℕ) (files : ℕ → Option (List ℕ)) (n : ℕ) (directory : List ℕ) (s t : Contents) (text : List ℕ) → AreGathered limit files n (under directory s) → Says limit (Some directory) (files (suc n)) text → AddsStore s t text → AreGathered limit files (suc n) (under directory t)
store_more limit files n directory s t text are says adds =
    let count : length (are.stores ++ text ∷ []) ≡ length are.stores + 1 = length-append are.stores (text ∷ []) in
    let number = are.number in
    let grouped = append_assoc (evidence_in are.front) are.stores (text ∷ []) in
    record {
      front = are.front;
      stores = are.stores ++ text ∷ [];
      number = omega (arith, count, number);
      first = are.first;
      directory = are.directory;
      others = say_more limit directory files 1 (suc n) are.stores text (omega (arith, number)) are.others says;
      is = subst (λ (l : List (List ℕ)). IsEvidence (evidence_of directory l) t) grouped (more_evidence directory text (evidence_in are.front ++ are.stores) s t are.is adds);
    }

-- ---- a file read into the store of those before it

pub store_added : (limit : ℕ) (files now : ℕ → Option (List ℕ)) (n k : ℕ) (directory : List ℕ) (s t : Contents) → k ≡ suc n → now ≡ files → AreGathered limit files n (under directory s) → ((text : List ℕ) × Says limit (Some directory) (now k) text × AddsStore s t text) → AreGathered limit files k (under directory t)
store_added limit files now n k directory s t at same are (text, says, adds) =
    let here : Says limit (Some directory) (files k) text = subst (λ (fs : ℕ → Option (List ℕ)). Says limit (Some directory) (fs k) text) same says in
    subst (λ (m : ℕ). AreGathered limit files m (under directory t)) (sym at) (store_more limit files n directory s t text are (subst (λ (m : ℕ). Says limit (Some directory) (files m) text) at here) adds)

pub store_refused : (limit : ℕ) (files now : ℕ → Option (List ℕ)) (count n k : ℕ) (c : Collected) (r : Refusal) → k ≡ suc n → now ≡ files → n < count → AreGathered limit files n c → ((r.file ≡ Some k) × RefusesStore limit c (now k) r) → RefusesFiles limit files count r
store_refused limit files now count n k c r at same below are told =
    let here = subst (λ (fs : ℕ → Option (List ℕ)). (r.file ≡ Some k) × RefusesStore limit c (fs k) r) same told in
    let there = subst (λ (m : ℕ). (r.file ≡ Some m) × RefusesStore limit c (files m) r) at here in
    inr (n, c, below, are, there.0, there.1)
