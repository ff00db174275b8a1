use Rattle.std.proofs.Common.{List, inl, inr, subst, sym, ⊎_elim}
use Rattle.std.specs.List.{Contains}
use Rattle.node_tables.specs.declared.naming.Naming.{Naming}
use Rattle.node_tables.proofs.naming.put_where_room.Goals as goal

pub returns-clause-still : goal.returns-clause-still
returns-clause-still c = λ m has. (c.put.ensures.members m).1 (inl (subst (λ (l : List Naming). Contains l m) (sym c.reserve.ensures.same) has))

pub returns-clause-members : goal.returns-clause-members
returns-clause-members c = λ told m. (
  λ h. ⊎_elim (λ old. inl (subst (λ (l : List Naming). Contains l m) c.reserve.ensures.same old)) (λ new. inr new) ((c.put.ensures.members m).0 h),
  λ h. (c.put.ensures.members m).1 (⊎_elim (λ old. inl (subst (λ (l : List Naming). Contains l m) (sym c.reserve.ensures.same) old)) (λ new. inr new) h),
)
