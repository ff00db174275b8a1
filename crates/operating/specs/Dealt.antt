-- What `split` does: which set it deals, and what it writes of the parts.
use Rattle.std.specs.Prelude.{ℕ, zero, suc, ◌≡◌, ◌⊎◌, ◌+◌, ◌<◌, ◌≤◌, List, [], ◌++◌, codes, decimal, Option}
use Rattle.std.specs.Io.KnownBytes.{Appends}
use Rattle.item_forms.specs.Pieces.{Piece}
use Rattle.evidence.specs.Exports.{export_of}
use Rattle.evidence_set.specs.ItemSets.{Items, count, insert_all, none}
use Rattle.localities.specs.Parts.{part_of}
use Rattle.shards.specs.declared.dealing.Dealing.{Dealing}
use Rattle.shards.specs.declared.dealing.Dealing.TheVariants.{ByNode, Extracts}
use Rattle.shards.specs.Parts.{is_dealt, parts_of}
use Rattle.commands.specs.declared.fault.Fault.{Fault}
use Rattle.commands.specs.declared.fault.Fault.TheVariants as fault
use Rattle.operating.specs.declared.refusal.Refusal.{Refusal}
use Rattle.operating.specs.Splitting.{AreExtracted, Have, RefusesExtracted, RefusesStores}

-- ---- the set

-- This many stores, which are the files from 0 on, have this set of items.
abbrev pub HaveItems : ℕ → (ℕ → Option (List ℕ)) → ℕ → Items → Type 0
HaveItems limit files stores X = (all : List Piece) × Have limit files 0 stores all × (X ≡ insert_all none all)

-- The set that is dealt: the items of this many stores. For extracts, the stores come behind a directory, and what is quoted in them is
-- added.
abbrev pub IsDealt : ℕ → (ℕ → Option (List ℕ)) → ℕ → Dealing → Items → Type 0
IsDealt limit files stores (ByNode shards) X = HaveItems limit files stores X
IsDealt limit files stores (Extracts shards) X = AreExtracted limit files shards stores X

-- Why there is no such set to deal.
abbrev pub RefusesDealt : ℕ → (ℕ → Option (List ℕ)) → ℕ → Dealing → Refusal → Type 0
RefusesDealt limit files stores (ByNode shards) r = RefusesStores limit files 0 stores r
RefusesDealt limit files stores (Extracts shards) r = RefusesExtracted limit files stores r

-- ---- its parts

-- The files of parts by their numbers: the bytes of each, if they are known, and how many writes failed.
pub record Filed : Type 0 where
  pub files : ℕ → Option (List ℕ)
  pub failures : ℕ

-- A fault of writing the parts: memory ran out, or a write failed and the count of failures rose.
abbrev pub IsOfWriting : Filed → Filed → Fault → Type 0
IsOfWriting old new f = (f ≡ fault.Memory) ⊎ ((f ≡ fault.WriteFailed) × (old.failures < new.failures))

-- Part `k` of the set.
abbrev pub part_at : Dealing → Items → ℕ → Items
part_at dealing X k = part_of (is_dealt dealing k) X

-- The files of the first `n` parts have the encodings of these parts, behind what they had before.
abbrev pub AreFiled : Dealing → Items → ℕ → Filed → Filed → Type 0
AreFiled dealing X n old new = (k : ℕ) → k < n → Appends (old.files k) (new.files k) (export_of (part_at dealing X k))

-- The first `n` parts are filed, and no file with a number from `rest` on has changed.
pub record AreFiledUpTo (dealing : Dealing) (X : Items) (n rest : ℕ) (old new : Filed) : Type 0 where
  pub filed : AreFiled dealing X n old new
  pub others : (k : ℕ) → rest ≤ k → new.files k ≡ old.files k

-- What is left of the parts after a fault. The first `n` of them are filed, and no other file has changed. But if a write failed, the file
-- of part `n` may have changed.
abbrev pub LeavesParts : Dealing → Items → Fault → Filed → Filed → Type 0
LeavesParts dealing X f old new = (n : ℕ) × (AreFiledUpTo dealing X n n old new ⊎ ((f ≡ fault.WriteFailed) × AreFiledUpTo dealing X n (n + 1) old new))

-- A part's line: its number, how many parts there are, and how many items it has.
abbrev pub part_line : ℕ → ℕ → ℕ → List ℕ
part_line parts k items = decimal k ++ codes "/" ++ decimal parts ++ codes " " ++ decimal items ++ codes "\n"

-- The lines of the first `n` parts.
abbrev pub part_lines : Dealing → Items → ℕ → List ℕ
part_lines dealing X zero = []
part_lines dealing X (suc n) = part_lines dealing X n ++ part_line (parts_of dealing) n (count (part_at dealing X n))
