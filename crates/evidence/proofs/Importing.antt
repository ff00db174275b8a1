-- What pieces of the text of a set do to an importer.
use Rattle.std.proofs.Common.{◌≡◌, ℕ, ◌<◌, ◌≤◌, Bool, true, false, cond, ltb, List, [], ◌∷◌, ◌++◌, length, take, Result, Ok, Err, refl, sym, ap, subst, ◌∙◌, inl, inr, append_assoc, arith}
use Rattle.std.specs.Prelude.{IfErr, IfOk, IsOk, OnOk, nat_eq}
use Rattle.std.specs.List.{starts_with}
use Rattle.std.specs.Str.{bytes_eq}
use Rattle.std.proofs.lemmas.Bool.{cases_lt, le-ltb, lt-ltb}
use Rattle.std.proofs.lemmas.List.{length-append, take_at}
use Rattle.std.proofs.lemmas.Slice.Eq.{bytes_eq-Decides}
use Rattle.outcome.specs.Bytes.{IsBytes}
use Rattle.outcome.specs.Outcome.{◌>>=◌, told_as}
use Rattle.outcome.proofs.Steps.{Ok-inj}
use Rattle.authenticators.specs.Directory.{Listing}
use Rattle.replay_verifier.specs.Meaning.{Meaning}
use Rattle.item_forms.specs.declared.forms.Fields.{Fields}
use Rattle.evidence_item.specs.Checking.{Checked}
use Rattle.containers.specs.declared.fault.Cause.TheVariants as cause
use Rattle.containers.specs.declared.fault.ImportFault.{ImportFault}
use Rattle.containers.specs.CheckedItems.{checked_of, fields_of as checked_fields}
use Rattle.containers.specs.Container.{CutOff, Faulty, Refusal, as_fault, container_of, fed_with, import_of, kept_on}
use Rattle.containers.specs.Feeding.{AreItems, Feeding, Feeds, IsReadUnder, import_fed}
use Rattle.containers.specs.Refusals.{IsBehindFront, IsOfItems, fault_at}
use Rattle.evidence.specs.Exports.{IsTextOf, SetsHaveOneText, magic, magic_of, old_magic}
use Rattle.evidence_set.specs.Valid.{fields_of}
use Rattle.evidence_set.specs.ItemSets.{pieces}
use Rattle.containers.proofs.Staying.{faults_stay}
use Rattle.evidence.specs.Importing.{RefusedPiecesStay, fed_by, import_set, imported_under}
use Rattle.containers.specs.Rest.{ItemReader}
use Rattle.evidence.specs.within.Stages.{BeginsWith, GoesOn, IsBegun, IsKnown, IsOpen, IsStage, fed_of}
use Rattle.evidence.specs.declared.stage.Stage.{Stage}
use Rattle.evidence.specs.declared.stage.Stage.TheVariants as stage

-- ---- the eight bytes in front

-- a text that begins with known ones is read by them
pub known_magic : (tag rest : List ℕ) → IsKnown tag → magic_of (tag ++ rest) ≡ tag
known_magic tag rest (inl new) = subst (λ (t : List ℕ). magic_of (t ++ rest) ≡ t) (sym new) refl
known_magic tag rest (inr old) = subst (λ (t : List ℕ). magic_of (t ++ rest) ≡ t) (sym old) refl

-- ---- pieces

abbrev read_on : ItemReader → List ℕ → List ℕ → Result (List ℕ) ImportFault
read_on reads tag text = kept_on text (container_of tag reads text)

-- behind the eight bytes a piece is one of their container
pub behind_known : (reads : ItemReader) (tag before old piece : List ℕ) → IsKnown tag → before ++ piece ≡ tag ++ old → fed_by reads piece (Ok before) ≡ read_on reads tag (tag ++ old)
behind_known reads tag before old piece known same =
    ap (λ (t : List ℕ). read_on reads (magic_of t) t) same ∙ ap (λ (m : List ℕ). read_on reads m (tag ++ old)) (known_magic tag old known)

pub fed_behind : (reads : ItemReader) (tag piece : List ℕ) (fed : Result (List ℕ) ImportFault) → IsKnown tag → IfOk fed (BeginsWith tag) → fed_by reads piece fed ≡ fed_with tag reads piece fed
fed_behind reads tag piece (Err f) known begins = refl
fed_behind reads tag piece (Ok text) known begins =
    let same : text ++ piece ≡ tag ++ (begins.rest ++ piece) = ap (λ (t : List ℕ). t ++ piece) begins.is ∙ append_assoc tag begins.rest piece in
    behind_known reads tag text (begins.rest ++ piece) piece known same ∙ ap (read_on reads tag) (sym same)

abbrev kept : List ℕ → Result (List ℕ) ImportFault
kept text = Ok text

kept_text : {A : Type 0} (text t : List ℕ) (r : Result (List A) Refusal) → kept_on text r ≡ Ok t → text ≡ t
kept_text text t (Ok items) e = Ok-inj {E = ImportFault} text t e
kept_text text t (Err (CutOff n)) e = Ok-inj {E = ImportFault} text t e
kept_text text t (Err (Faulty f)) e = absurd cc

-- a text that goes on begins as before
begins_more : (reads : ItemReader) (tag piece t : List ℕ) (old : Result (List ℕ) ImportFault) → IfOk old (BeginsWith tag) → fed_with tag reads piece old ≡ Ok t → BeginsWith tag t
begins_more reads tag piece t (Err f) begins e = absurd cc
begins_more reads tag piece t (Ok text) begins e =
    let same : text ++ piece ≡ tag ++ (begins.rest ++ piece) = ap (λ (t : List ℕ). t ++ piece) begins.is ∙ append_assoc tag begins.rest piece in
    record { rest = begins.rest ++ piece; is = sym (kept_text (text ++ piece) t (container_of tag reads (text ++ piece)) e) ∙ same }

pub begins_on : (reads : ItemReader) (tag piece : List ℕ) (result : Result (Unit {0}) ImportFault) (old new : Result (List ℕ) ImportFault) → IfOk old (BeginsWith tag) → Feeds result (fed_with tag reads piece old) new → IfOk new (BeginsWith tag)
begins_on reads tag piece (Ok done) old new begins feeds = subst (λ (r : Result (List ℕ) ImportFault). IfOk r (BeginsWith tag)) (sym feeds.2) (begins_more reads tag piece feeds.0 old begins feeds.1)
begins_on reads tag piece (Err f) old new begins feeds = subst (λ (r : Result (List ℕ) ImportFault). IfOk r (BeginsWith tag)) (sym feeds.0) tt

-- ---- the head

-- fewer than eight bytes are cut off, whatever would follow
pub short_kept : (reads : ItemReader) (tag text : List ℕ) → length text < 8 → read_on reads tag text ≡ Ok text
unfolding container_of
short_kept reads tag text lt =
    let t : ltb (length text) 8 ≡ true = lt-ltb _ _ lt in
    rw t refl

pub short_fed : (reads : ItemReader) (before piece : List ℕ) → length (before ++ piece) < 8 → fed_by reads piece (Ok before) ≡ Ok (before ++ piece)
short_fed reads before piece lt = short_kept reads (magic_of (before ++ piece)) (before ++ piece) lt

-- other bytes than the known ones
not_text : (tag m : List ℕ) (b : Bool) → bytes_eq tag m ≡ b → ¬ IsKnown tag → IsKnown m → b ≡ false
not_text tag m true e unknown known = absurd (unknown (subst IsKnown (sym ((bytes_eq-Decides tag m).0 e)) known))
not_text tag m false e unknown known = refl

magic_known : (text : List ℕ) → IsKnown (magic_of text)
magic_known text = by_test (starts_with nat_eq text old_magic)
  where
    by_test : (b : Bool) → IsKnown (cond b old_magic magic)
    by_test true = inr refl
    by_test false = inl refl

-- are told so, whatever follows
refused_kept : (reads : ItemReader) (tag text : List ℕ) → 8 ≤ length text → bytes_eq (take 8 text) tag ≡ false → read_on reads tag text ≡ Err (fault_at 0 cause.BadMagic)
unfolding container_of
refused_kept reads tag text le other =
    let t : ltb (length text) 8 ≡ false = le-ltb _ _ le in
    rw (t, other) refl

abbrev read_as : ItemReader → List ℕ → Result (List ℕ) ImportFault
read_as reads text = read_on reads (magic_of text) text

pub other_fed : (reads : ItemReader) (before piece tag rest : List ℕ) → length tag ≡ 8 → ¬ IsKnown tag → tag ++ rest ≡ before ++ piece → fed_by reads piece (Ok before) ≡ Err (fault_at 0 cause.BadMagic)
other_fed reads before piece tag rest eight unknown moved =
    let front : take 8 (tag ++ rest) ≡ tag = take_at tag rest 8 eight in
    let other : bytes_eq (take 8 (tag ++ rest)) (magic_of (tag ++ rest)) ≡ false = ap (λ (t : List ℕ). bytes_eq t (magic_of (tag ++ rest))) front ∙ not_text tag (magic_of (tag ++ rest)) (bytes_eq tag (magic_of (tag ++ rest))) refl unknown (magic_known (tag ++ rest)) in
    ap (read_as reads) (sym moved) ∙ refused_kept reads (magic_of (tag ++ rest)) (tag ++ rest) (omega (arith, eight, length-append tag rest)) other

module _ {P : Type 0} (before piece head rest : List ℕ) (eight : length head ≡ 8) (moved : head ++ rest ≡ before ++ piece) where
  pub begun_alike : (s : Stage P) (reads : ItemReader) → IsBegun head s → fed_by reads piece (Ok before) ≡ fed_by reads rest (fed_of s)
  begun_alike (stage.Head h) reads b = absurd b
  begun_alike (stage.Items r) reads b = ap (read_as reads) (sym moved) ∙ ap (fed_by reads rest) (sym b.2)
  begun_alike (stage.Refused f) reads b = other_fed reads before piece head rest eight b.0 moved ∙ ap (λ (g : ImportFault). let told : Result (List ℕ) ImportFault = Err g in told) (sym b.1)

  pub begun_goes : (s : Stage P) → IsBegun head s → GoesOn s
  begun_goes (stage.Head h) b = absurd b
  begun_goes (stage.Items r) b = subst (λ (x : Result (List ℕ) ImportFault). IsOk x) (sym b.2) refl
  begun_goes (stage.Refused f) b = ap (λ (g : ImportFault). g.cause) b.1

  pub begun_joined : (s : Stage P) → IsBegun head s → IfOk (fed_of s) (λ more. more ++ rest ≡ before ++ piece)
  begun_joined (stage.Head h) b = absurd b
  begun_joined (stage.Items r) b = subst (λ (x : Result (List ℕ) ImportFault). IfOk x (λ more. more ++ rest ≡ before ++ piece)) (sym b.2) moved
  begun_joined (stage.Refused f) b = tt

pub is_open : {S P : Type 0} (ds : Listing) (program : Meaning S) (s : Stage P) → IsStage ds program s → IsOpen s
is_open ds program (stage.Head h) is = is
is_open ds program (stage.Items r) is = tt
is_open ds program (stage.Refused f) is = tt

-- ---- results

pub ok_more : {A E : Type 0} (r : Result A E) (P Q : A → Type 0) → ((x : A) → P x → Q x) → IfOk r P → IfOk r Q
ok_more (Ok x) P Q f h = f x h
ok_more (Err e) P Q f h = tt

pub on_more : {A E : Type 0} (r : Result A E) (P Q : Type 0) → (P → Q) → OnOk r P → OnOk r Q
on_more (Ok x) P Q f h = f h
on_more (Err e) P Q f h = tt

-- Where memory runs out, no fault stands whatever the items are, of the same bytes otherwise parted.
pub memory_through : (old fed : Result (List ℕ) ImportFault) (result : Result (Unit {0}) ImportFault) (expected same : ItemReader → Result (List ℕ) ImportFault) → IfOk old (λ text. IsOk fed)
    → IfOk fed (λ text. IfErr result (λ f. f.cause ≡ cause.Memory → IsOfItems same)) → ((r : ItemReader) → expected r ≡ same r) → IfOk old (λ text. IfErr result (λ f. f.cause ≡ cause.Memory → IsOfItems expected))
memory_through (Err e) fed result expected same goes h alike = tt
memory_through (Ok text) (Err e) result expected same goes h alike = absurd cc
memory_through (Ok text) (Ok t) (Ok done) expected same goes h alike = tt
memory_through (Ok text) (Ok t) (Err f) expected same goes h alike = λ memory g all. h memory g (λ r. sym (alike r) ∙ all r)

-- Before the header is whole memory does not run out, of the same bytes otherwise parted.
pub header_through : (old fed : Result (List ℕ) ImportFault) (result : Result (Unit {0}) ImportFault) (piece rest : List ℕ) → IfOk old (λ text. IsOk fed) → IfOk old (λ text. IfOk fed (λ more. more ++ rest ≡ text ++ piece))
    → IfOk fed (λ text. IfErr result (λ f. f.cause ≡ cause.Memory → 16 ≤ length (text ++ rest))) → IfOk old (λ text. IfErr result (λ f. f.cause ≡ cause.Memory → 16 ≤ length (text ++ piece)))
header_through (Err e) fed result piece rest goes joined h = tt
header_through (Ok text) (Err e) result piece rest goes joined h = absurd cc
header_through (Ok text) (Ok t) (Ok done) piece rest goes joined h = tt
header_through (Ok text) (Ok t) (Err f) piece rest goes joined h = λ memory. subst (λ (x : List ℕ). 16 ≤ length x) joined (h memory)

-- the same bytes
pub same_joined : (fed : Result (List ℕ) ImportFault) (piece : List ℕ) → IfOk fed (λ text. IfOk fed (λ more. more ++ piece ≡ text ++ piece))
same_joined (Ok text) piece = refl
same_joined (Err e) piece = tt

-- ---- the end

pub short_import : (ds : Listing) (text : List ℕ) → length text < 8 → import_set ds text ≡ Err (fault_at 0 cause.Truncated)
unfolding container_of
short_import ds text lt =
    let t : ltb (length text) 8 ≡ true = lt-ltb _ _ lt in
    rw t refl

-- the fields of checked items are those of their items
one_list : (items : List Checked) → checked_fields items ≡ fields_of (pieces items)
one_list [] = refl
one_list (c ∷ items) = ap (λ (l : List Fields). c.item.fields ∷ l) (one_list items)

-- what is read is the text of the set of the items
pub text_of_items : SetsHaveOneText → (ds : Listing) (tag text : List ℕ) (items : List Checked) → IsBytes text → import_of tag (checked_of ds) text ≡ Ok (checked_fields items) → IsTextOf tag ds text (pieces items)
text_of_items law ds tag text items fit read = law.found tag ds text (pieces items) fit (read ∙ ap (λ (l : List Fields). let told : Result (List Fields) ImportFault = Ok l in told) (one_list items))

-- behind known bytes the end makes the same of the pieces
end_same : (ds : Listing) (tag : List ℕ) (fed : Result (List ℕ) ImportFault) → IsKnown tag → IfOk fed (BeginsWith tag) → imported_under ds fed ≡ (fed >>= λ text. import_of tag (checked_of ds) text)
end_same ds tag (Err f) known begins = refl
end_same ds tag (Ok text) known begins = ap (λ (m : List ℕ). import_of m (checked_of ds) text) (ap magic_of begins.is ∙ known_magic tag begins.rest known)

module _ {S : Type 0} (ds : Listing) (program : Meaning S) (r : Feeding) (known : IsKnown r.magic) (begins : IfOk r.fed (BeginsWith r.magic)) where
  pub imported_same : imported_under ds r.fed ≡ import_fed ds r
  imported_same = end_same ds r.magic r.fed known begins

  text_read : SetsHaveOneText → (fed : Result (List ℕ) ImportFault) (items : List Checked) → r.fed ≡ fed → IfOk fed IsBytes → IfOk fed (BeginsWith r.magic) → (fed >>= λ text. import_of r.magic (checked_of ds) text) ≡ Ok (checked_fields items)
      → (text : List ℕ) × (r.fed ≡ Ok text) × IsTextOf (magic_of text) ds text (pieces items)
  text_read law (Err f) items is fit from read = absurd cc
  text_read law (Ok text) items is fit from read =
      let tag : magic_of text ≡ r.magic = ap magic_of from.is ∙ known_magic r.magic from.rest known in
      (text, is, subst (λ (m : List ℕ). IsTextOf m ds text (pieces items)) (sym tag) (text_of_items law ds r.magic text items fit read))

  pub read_text : SetsHaveOneText → IsReadUnder ds program r → (items : List Checked) → AreItems ds program (import_fed ds r) items → (text : List ℕ) × (r.fed ≡ Ok text) × IsTextOf (magic_of text) ds text (pieces items)
  read_text law under items are = text_read law r.fed items refl under.bytes begins are.read

pub ok_behind : {Y : Type 0} (r : Result Y ImportFault) → IsOk r → IsBehindFront r
ok_behind (Ok y) is f e zeroth = absurd cc
ok_behind (Err g) is f e zeroth = absurd cc

-- ---- pieces that are refused

-- what eight bytes and more are read as hangs on the first eight
front_magic : (text more : List ℕ) → 8 ≤ length text → magic_of (text ++ more) ≡ magic_of text
front_magic (a ∷ b ∷ c ∷ d ∷ e ∷ f ∷ g ∷ h ∷ text) more le = refl
front_magic [] more le = absurd (omega arith)
front_magic (a ∷ []) more le = absurd (omega arith)
front_magic (a ∷ b ∷ []) more le = absurd (omega arith)
front_magic (a ∷ b ∷ c ∷ []) more le = absurd (omega arith)
front_magic (a ∷ b ∷ c ∷ d ∷ []) more le = absurd (omega arith)
front_magic (a ∷ b ∷ c ∷ d ∷ e ∷ []) more le = absurd (omega arith)
front_magic (a ∷ b ∷ c ∷ d ∷ e ∷ f ∷ []) more le = absurd (omega arith)
front_magic (a ∷ b ∷ c ∷ d ∷ e ∷ f ∷ g ∷ []) more le = absurd (omega arith)

-- a fault that is no cut-off
kept_fault : {A : Type 0} (text : List ℕ) (r : Result (List A) Refusal) (f : ImportFault) → kept_on text r ≡ Err f → r ≡ Err (Faulty f)
kept_fault text (Ok items) f e = absurd cc
kept_fault text (Err (CutOff n)) f e = absurd cc
kept_fault text (Err (Faulty g)) f e = let same : g ≡ f = cc in rw same refl

pub refused_stay : RefusedPiecesStay
refused_stay ds text more f e =
    elim (cases_lt (length text) 8) [
      | inl lt ↦ let wrong = sym (short_kept (checked_of ds) (magic_of text) text lt) ∙ e in absurd cc
      | inr le ↦
          ap (λ (m : List ℕ). import_of m (checked_of ds) (text ++ more)) (front_magic text more le)
          ∙ ap (told_as as_fault) (faults_stay (magic_of text) (checked_of ds) f text more (kept_fault text (container_of (magic_of text) (checked_of ds) text) f e))
    ]
