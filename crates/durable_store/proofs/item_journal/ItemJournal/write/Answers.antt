use Rattle.std.proofs.Common.{◌≡◌, ◌<◌, ◌++◌, ◌∙◌, sym, ap, subst, refl, Bool, false, ℕ, List, [], ◌∷◌, length, Vec, arith}
use Rattle.std.specs.declared.alloc.Global.{Global}
use Rattle.journal.specs.Device.{LeavesOnly}
use Rattle.journal.specs.Journal.{IsBeforeOrAfter, texts_of}
use Rattle.durable_store.specs.Calls.{behind_basis}
use Rattle.durable_store.proofs.item_journal.ItemJournal.write.Goals as goal

begins : (is_begun : Bool) (basis : List (List ℕ)) (vectors : List (Vec ℕ Global)) → is_begun ≡ false → 0 < length vectors
    → basis ++ texts_of vectors ≡ behind_basis is_begun basis (texts_of vectors)
begins is_begun basis [] is some = absurd (omega arith)
begins is_begun basis (v ∷ vectors) is some = subst (λ (b : Bool). basis ++ texts_of (v ∷ vectors) ≡ behind_basis b basis (texts_of (v ∷ vectors))) (sym is) refl

in_front : {D : Type 0} (moment : D → ℕ) (left_since : D → ℕ → List ℕ → Type 0) (old new : D) (had group written : List (List ℕ))
    → LeavesOnly moment left_since old new (IsBeforeOrAfter had group) → group ≡ written → LeavesOnly moment left_since old new (IsBeforeOrAfter had written)
in_front moment left_since old new had group written run is = subst (λ (t : List (List ℕ)). LeavesOnly moment left_since old new (IsBeforeOrAfter had t)) is run

pub returns-in_err-append-2-clause-any_moment : goal.returns-in_err-append-2-clause-any_moment
returns-in_err-append-2-clause-any_moment g c =
    let first = begins c.args.self.now.is_begun (texts_of c.args.self.now.basis.items) c.args.texts.now c.if-self.false c.requires.some in
    in_front g.D.Device.moment g.D.Device.left_since _ _ _ _ _ c.append-2.ensures.any_moment (ap texts_of c.deref-2.ensures.value ∙ c.in_ok-group.ensures ∙ ap (λ (t : List (List ℕ)). t ++ texts_of c.args.texts.now) (ap texts_of c.deref.ensures.value) ∙ first)

pub returns-clause-any_moment : goal.returns-clause-any_moment
returns-clause-any_moment g c =
    let first = begins c.args.self.now.is_begun (texts_of c.args.self.now.basis.items) c.args.texts.now c.if-self.false c.requires.some in
    in_front g.D.Device.moment g.D.Device.left_since _ _ _ _ _ c.append-2.ensures.any_moment (ap texts_of c.deref-2.ensures.value ∙ c.in_ok-group.ensures ∙ ap (λ (t : List (List ℕ)). t ++ texts_of c.args.texts.now) (ap texts_of c.deref.ensures.value) ∙ first)
