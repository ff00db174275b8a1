-- What the rest of a container gives after the items that were read.
use Rattle.std.specs.Prelude.{ℕ, suc, ◌≡◌, ◌≤◌, ◌==◌, List, [], ◌∷◌, ◌++◌, length, Result, Ok, Err}
use Rattle.outcome.specs.Outcome.{◌>>=◌, told_as}
use Rattle.log_chain.specs.Fields.{bytes_at}
use Rattle.item_forms.specs.declared.limits.TheConstants.{LONGEST_ITEM}
use Rattle.item_forms.specs.declared.forms.Fields.{Fields}
use Rattle.containers.specs.declared.fault.Cause.{Cause}
use Rattle.containers.specs.declared.fault.Cause.TheVariants as cause
use Rattle.containers.specs.declared.fault.ImportFault.{ImportFault}
use Rattle.containers.specs.Container.{Refusal, as_fault, items_at, of_item, refused_unless}
use Rattle.containers.specs.Refusals.{fault_at}

-- How the text of an item is read: it takes the text of the item before it, and the item's own text.
abbrev pub ItemReader : Type 0
ItemReader = List ℕ → List ℕ → Result Fields Cause

-- The items at the end of a container, if no byte follows them.
abbrev pub ended : {A : Type 0} → List A × List ℕ → Result (List A) Refusal
ended items = refused_unless (of_item (length items.0) cause.Trailing) (length items.1 == 0) >>= λ _. Ok items.0

-- All items of a container, or the fault that is reported to the caller. This many are still to come after those that were
-- read. `last` is the text of the last one that was read.
abbrev pub rest_of : {A : Type 0} → (List ℕ → List ℕ → Result A Cause) → ℕ → List ℕ → List A → List ℕ → Result (List A) ImportFault
rest_of reads n last before bytes = told_as as_fault (items_at reads n last before bytes >>= ended)

-- ---- laws, which `laws` proves

-- If the next item of a container is read, the rest goes on with one item more. If the next item is refused, that refusal is
-- the fault of the rest. No fault is at an item that was read already.
pub record RestsAreReadByItems (A : Type 0) : Type 0 where
  pub read : (reads : List ℕ → List ℕ → Result A Cause) (n : ℕ) (last text : List ℕ) (before : List A) (bytes rest : List ℕ) (x : A)
      → bytes_at LONGEST_ITEM bytes ≡ Ok (text, rest) → reads last text ≡ Ok x
      → rest_of reads (suc n) last before bytes ≡ rest_of reads n text (before ++ x ∷ []) rest
  pub refused : (reads : List ℕ → List ℕ → Result A Cause) (n : ℕ) (last text : List ℕ) (before : List A) (bytes rest : List ℕ) (c : Cause)
      → bytes_at LONGEST_ITEM bytes ≡ Ok (text, rest) → reads last text ≡ Err c
      → rest_of reads (suc n) last before bytes ≡ Err (fault_at (length before) c)
  pub behind : (reads : List ℕ → List ℕ → Result A Cause) (n : ℕ) (last : List ℕ) (before : List A) (bytes : List ℕ) (f : ImportFault)
      → rest_of reads n last before bytes ≡ Err f → length before ≤ f.item
