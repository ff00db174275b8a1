use Rattle.std.proofs.Common.{not, subst, ◌∙◌, List}
use Rattle.std.specs.List.{Contains}
use Rattle.evidence_item.specs.Checking.{Checked}
use Rattle.kept_evidence.specs.Kept.{is_kept}
use Rattle.kept_evidence.proofs.Added.{missing_joins}
use Rattle.kept_evidence.proofs.Members.{passing}
use Rattle.indexed_store.proofs.merging.merge.Goals as goal

pub add_all-requires-clause-whole : goal.add_all-requires-clause-whole
add_all-requires-clause-whole g c = λ k has.
    c.requires.others k (passing (λ (x : Checked). not (is_kept c.args.index.now.items.items x.item)) c.args.others.now k (subst (λ (l : List Checked). Contains l k) c.in_ok-copies.ensures has)).0

pub returns-clause-joined : goal.returns-clause-joined
returns-clause-joined g c =
    rw c.in_ok-copies.ensures at c.in_ok-new.ensures.joined ∙ missing_joins c.args.index.now.items.items c.args.others.now
