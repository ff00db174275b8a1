-- How a reading goes on, and when memory may run out on the way.
use Rattle.std.specs.Prelude.{◌≡◌, ◌<◌, ◌⊎◌, ℕ, List, [], ◌∷◌, ◌++◌, Result, Ok, Err, length}
use Rattle.outcome.specs.Outcome.{◌>>=◌, told_as}
use Rattle.item_forms.specs.declared.forms.Fields.{Fields}
use Rattle.item_forms.specs.Spelling.{spelling}
use Rattle.evidence_item.specs.Checking.{Checked}
use Rattle.containers.specs.declared.fault.Cause.{Cause}
use Rattle.containers.specs.declared.part.Left.{Left}
use Rattle.containers.specs.declared.part.Left.TheVariants as left
use Rattle.containers.specs.declared.progress.Progress.{Progress}
use Rattle.containers.specs.declared.fault.Cause.TheVariants as cause
use Rattle.containers.specs.Refusals.{IsBehindFront, IsOfChecking, IsOfItems, Refuses}
use Rattle.containers.specs.declared.fault.ImportFault.{ImportFault}
use Rattle.containers.specs.Container.{Faulty, as_fault}
use Rattle.containers.specs.Stages.{State, begun, closed, go_on}
use Rattle.containers.specs.CheckedItems.{fields_of}
use Rattle.containers.specs.Rest.{ItemReader}
use Rattle.containers.specs.within.Parts.{IsHeldOn, IsTaken}
use Rattle.containers.specs.within.Seen.{IsParted, AwaitsMore, AwaitsMoreWith, last_text, seen, with_more}

-- What is left is behind the part, or is a body that is cut off.
abbrev pub ByLeft : Left → (List ℕ → Type 0) → (List ℕ → Type 0) → Type 0
ByLeft (left.Behind bytes) Goes Ends = Goes bytes.now
ByLeft (left.CutOff bytes) Goes Ends = Ends bytes.now

-- What the end of the text makes of where a reading stands.
abbrev pub at_end : {A : Type 0} → Result (State A) ImportFault → Result (List A) ImportFault
at_end r = told_as as_fault (told_as Faulty r >>= λ s. closed s)

-- The header is not cut off.
abbrev pub IsPastHeader : {A : Type 0} → Result (State A) ImportFault → Type 0
IsPastHeader led = (held : List ℕ) → ¬ (led ≡ Ok (begun held))

-- ---- one item

-- The item of the text, which is read behind the others, is the last of the new ones.
pub record IsOneMore (reads : ItemReader) (old : List Checked) (text : List ℕ) (new : List Checked) : Type 0 where
  pub item : Checked
  pub new_is : new ≡ old ++ item ∷ []
  pub read : reads (last_text (fields_of old)) text ≡ Ok item.item.fields
  pub spelled : spelling item.item.fields ≡ text

-- The item is read: at most it is not valid.
abbrev pub IsRead : Result Fields Cause → Type 0
IsRead expected = (c : Cause) → expected ≡ Err c → IsOfChecking c

-- Bytes of an item: it is read, or all of them are held; or they are of a body that is cut off, behind its whole length.
abbrev pub TakesItem : {P : Type 0} → ItemReader → ℕ → State Fields → List ℕ → Progress P → Left → Type 0
TakesItem reads n old rest new x = ByLeft x
    (λ behind. (IsTaken reads n old rest (seen new) behind ⊎ (IsHeldOn old rest (seen new) behind × (behind ≡ []))) × IsParted new.left new.front.items new.body.items)
    (λ body. IsHeldOn old rest (seen new) body × IsParted new.left new.front.items (new.body.items ++ body))

-- ---- parts

-- A part was read, or all of the rest is held: the reading goes on from there with fewer bytes.
pub record GoesOn {P : Type 0} (magic : List ℕ) (reads : ItemReader) (old : Progress P) (rest : List ℕ) (new : Progress P) (behind : List ℕ) : Type 0 where
  pub same : go_on magic reads (seen old) rest ≡ go_on magic reads (seen new) behind
  pub stands : AwaitsMore magic new
  pub falls : length behind < length rest

-- The bytes are of a body that is cut off: they only join those that are held.
pub record EndsOn {P : Type 0} (magic : List ℕ) (reads : ItemReader) (old : Progress P) (rest : List ℕ) (new : Progress P) (body : List ℕ) : Type 0 where
  pub same : go_on magic reads (seen old) rest ≡ Ok (with_more (seen new) body)
  pub stands : AwaitsMoreWith magic new body

-- Where the bytes lead, whatever the items are.
abbrev pub LeadsAlike : {P : Type 0} → List ℕ → Progress P → List ℕ → Progress P → List ℕ → Type 0
LeadsAlike magic old rest new behind = (reads : ItemReader) → go_on magic reads (seen old) rest ≡ go_on magic reads (seen new) behind

-- A part of the header was read: the reading goes on from there with fewer bytes, whatever the items are.
pub record GoesAlike {P : Type 0} (magic : List ℕ) (old : Progress P) (rest : List ℕ) (new : Progress P) (behind : List ℕ) : Type 0 where
  pub alike : LeadsAlike magic old rest new behind
  pub stands : AwaitsMore magic new
  pub falls : length behind < length rest

-- The bytes lead alike whatever the items are; or they have an item, so that no fault stands whatever the items are.
abbrev pub LeadsOrReads : {P : Type 0} → List ℕ → Progress P → List ℕ → Progress P → List ℕ → Type 0
LeadsOrReads magic old rest new behind = LeadsAlike magic old rest new behind ⊎ IsOfItems (λ reads. go_on magic reads (seen old) rest)

-- ---- refusals

-- The fault is the expected one. Memory may run out in its place, but not where a fault stands whatever the items are; and where
-- nothing of a body is held, not before the first item was read.
pub record IsRefusal {P : Type 0} (magic : List ℕ) (reads : ItemReader) (old : Progress P) (rest : List ℕ) (f : ImportFault) : Type 0 where
  pub refused : Refuses f (go_on magic reads (seen old) rest)
  pub memory : old.body.items ≡ [] → f.cause ≡ cause.Memory → IsBehindFront (at_end (go_on magic reads (seen old) rest))
  pub of_items : f.cause ≡ cause.Memory → IsOfItems (λ r. go_on magic r (seen old) rest)

-- The same of an item whose length is there, in any container: what is wrong with it hangs on how items are read.
pub record IsItemRefusal {P : Type 0} (reads : ItemReader) (old : Progress P) (rest : List ℕ) (f : ImportFault) : Type 0 where
  pub refused : (magic : List ℕ) → Refuses f (go_on magic reads (seen old) rest)
  pub memory : old.body.items ≡ [] → f.cause ≡ cause.Memory → (magic : List ℕ) → IsBehindFront (at_end (go_on magic reads (seen old) rest))
  pub of_items : (magic : List ℕ) → IsOfItems (λ r. go_on magic r (seen old) rest)
