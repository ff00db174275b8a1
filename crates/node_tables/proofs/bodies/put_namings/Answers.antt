use Rattle.std.proofs.Common.{refl, sym, ap, ◌≡◌, ◌∙◌, inl, inr, ⊎_elim}
use Rattle.std.specs.Prelude.{Some}
use Rattle.std.proofs.lemmas.Option.{same_Some}
use Rattle.item_forms.specs.declared.forms.Statement.{Statement}
use Rattle.kept_items.specs.Links.{first_hash}
use Rattle.node_tables.specs.declared.naming.Naming.{Naming}
use Rattle.node_tables.specs.Hashed.{front_of}
use Rattle.node_tables.proofs.bodies.put_namings.Goals as goal

pub returns-in_default-clause-named : goal.returns-in_default-clause-named
returns-in_default-clause-named c = λ told f h named.
    let audit = c.args.audit.now in
    let m : Naming = record { front = c.front_of-last.result; other = c.front_of.result; item = c.args.place } in
    ⊎_elim
    (λ (one : (audit.last.hash ≡ f) × (first_hash audit.first ≡ h)). inl (
      m,
      (c.put_where_room.ensures.members told m).1 (inr refl),
      refl,
      c.front_of-last.ensures ∙ ap front_of one.0,
      c.front_of.ensures ∙ ap front_of (c.base_hash.ensures ∙ ap first_hash (sym c.in_default.is) ∙ one.1),
    ))
    (λ (other : (s : Statement) × (audit.first ≡ Some s) × (s.hash ≡ f) × (audit.last.hash ≡ h)). let is = other.1 in let none = c.in_default.is in absurd (cc (is, none)))
    named

pub returns-clause-named : goal.returns-clause-named
returns-clause-named c = λ told f h named.
    let audit = c.args.audit.now in
    let m : Naming = record { front = c.front_of-last.result; other = c.front_of-first.result; item = c.args.place } in
    let n : Naming = record { front = c.front_of-first.result; other = c.front_of-last.result; item = c.args.place } in
    ⊎_elim
    (λ (one : (audit.last.hash ≡ f) × (first_hash audit.first ≡ h)). inl (
      m,
      (c.put_where_room-2.ensures.members c.if-not-put_where_room.false m).1 (inr refl),
      refl,
      c.front_of-last.ensures ∙ ap front_of one.0,
      c.front_of-first.ensures ∙ ap front_of (ap first_hash (sym c.in-Some.is) ∙ one.1),
    ))
    (λ (other : (s : Statement) × (audit.first ≡ Some s) × (s.hash ≡ f) × (audit.last.hash ≡ h)).
    let hash = ap (λ (s : Statement). s.hash) (same_Some c.in-Some.first other.0 (sym c.in-Some.is ∙ other.1)) ∙ other.2 in
    inr (n, (c.put_where_room-3.ensures.members told n).1 (inr refl), refl, c.front_of-first.ensures ∙ ap front_of hash, c.front_of-last.ensures ∙ ap front_of other.3))
    named
