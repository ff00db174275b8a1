-- What is exported comes back.
use Rattle.std.proofs.Common.{◌≡◌, ℕ, ◌<◌, ◌^◌, refl, sym, ap, subst, ◌∙◌}
use Rattle.evidence.specs.Exports.{SetsHaveOneText, export_of, magic}
use Rattle.evidence_set.specs.ItemSets.{Items, Has, IsWithin, Join, JoinsAreLeastUpperBounds, SetsAsExpected, count, none}
use Rattle.item_forms.specs.Pieces.{Piece}
use Rattle.evidence.specs.Contents.{Contents, with_items}
use Rattle.evidence.specs.Importing.{ExportsComeBack, Imports}

module _ (texts : SetsHaveOneText) (joins : JoinsAreLeastUpperBounds) (sets : SetsAsExpected) where
  none_joined : (E : Items) → Join none E ≡ E
  none_joined E =
      let nothing : IsWithin none E = λ (x : Piece) (h : Has none x). absurd (sets.none x h) in
      let itself : IsWithin E E = λ (x : Piece) (h : Has E x). h in
      joins.one (Join none E) E (joins.least none E E nothing itself) (joins.right none E)

  equal_contents : (s new : Contents) → count s.items < 2 ^ 64 → count new.items < 2 ^ 64 → Imports (export_of s.items) (with_items s none) new → new ≡ s
  equal_contents s new small fits i =
      let alone : new ≡ with_items s i.0 = i.2 ∙ ap (with_items s) (none_joined i.0) in
      let fits_added : count i.0 < 2 ^ 64 = subst (λ (c : Contents). count c.items < 2 ^ 64) alone fits in
      let same : i.0 ≡ s.items = sym (texts.one magic s.items i.0 refl small fits_added i.1) in
      alone ∙ ap (with_items s) same

  pub exports_back : ExportsComeBack
  exports_back = record { read = λ s valid small. texts.read magic s.directory s.items refl valid small; equal = equal_contents }
