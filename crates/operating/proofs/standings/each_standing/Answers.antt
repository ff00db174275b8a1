use Rattle.std.proofs.Common.{◌≡◌, ◌∙◌, ℕ, Bool, true, false, cond, get_or, Option, Some, nat_eq, refl, sym, ap, subst, arith, take_all}
use Rattle.std.specs.Prelude.{IsSome}
use Rattle.std.specs.List.{list_any}
use Rattle.std.specs.Ordering.{is_eq, nat_cmp}
use Rattle.std.specs.declared.cmp.Ordering.{Ordering}
use Rattle.std.specs.declared.cmp.Ordering.TheVariants.{Less, Equal, Greater}
use Rattle.std.proofs.lemmas.Map.Lookups.{exact_unsigned}
use Rattle.std.proofs.lemmas.Grind.{common_steps, get_or_default_zero}
use Rattle.answers.specs.declared.standings.Standing.{Standing}
use Rattle.authenticators.specs.Directory.{Listing, is_listed, keys_at}
use Rattle.operating.specs.Questions.{IsStanding}
use Rattle.operating.proofs.Exposing.{listed_any, listed_at}
use Rattle.operating.proofs.standings.each_standing.Goals as goal

equal_of : (r : Ordering) → is_eq r ≡ true → r ≡ Equal
equal_of Less h = absurd cc
equal_of Equal h = refl
equal_of Greater h = absurd cc

-- one more entry leaves all right
still : (Q : ℕ → Standing → Type 0) (node q : ℕ) (i : Standing) (b : Bool) (old new : Option Standing) → new ≡ cond b (Some i) old → (b ≡ true → node ≡ q) → Q node i → ((x : Standing) → old ≡ Some x → Q q x) → (x : Standing) → new ≡ Some x → Q q x
still Q node q i true old new e same here h x is =
    let alike : i ≡ x = cc in
    let number : node ≡ q = same refl in
    rw (← number, ← alike) here
still Q node q i false old new e same here h x is = h x cc

pub standing_of-standing-requires : goal.standing_of-standing-requires
standing_of-standing-requires g c =
    let at : get_or c.nodes-node-items.result.now c.loop-node.node-index 0 ≡ c.node-item.result = sym (c.node-item.is ∙ get_or_default_zero c.nodes-node-items.result.now c.loop-node.node-index c.node-item.result c.loop-node-test.true) in
    subst (λ (n : ℕ). IsSome (keys_at c.args.store.now.directory n)) (sym c.node.view_is)
    (subst (λ (ds : Listing). IsSome (keys_at ds c.node-item.result)) c.directory.ensures.kept
    (listed_at c.directory.result.now c.loop-node.node-index c.node-item.result (rw (← c.nodes-node-items.ensures.numbers) c.loop-node-test.true) (rw (← c.nodes-node-items.ensures.numbers) at)))

pub loop-node-preserved : goal.loop-node-preserved
loop-node-preserved g c = record {
  listed = λ q. grind (arith, common_steps, c.loop-node.invariant.listed q);
  right = λ q. still (λ n x. IsStanding g.P.Program.means c.args.store.now n x) c.node.inside.0 q c.standing_of-standing.result (is_eq (nat_cmp c.node.inside.0 q)) _ _
      (c.in_ok-insert.ensures.updates.0 q) (λ same. exact_unsigned c.node.inside.0 q (equal_of (nat_cmp c.node.inside.0 q) same)) c.standing_of-standing.ensures (c.loop-node.invariant.right q);
}

pub returns-clause-listed : goal.returns-clause-listed
returns-clause-listed g c = λ q.
    c.loop-node.invariant.listed q ∙ ap (list_any (nat_eq q)) (take_all _ _ (omega arith) ∙ c.nodes-node-items.ensures.numbers)
    ∙ sym (listed_any q c.directory.result.now) ∙ ap (λ (ds : Listing). is_listed ds q) c.directory.ensures.kept
