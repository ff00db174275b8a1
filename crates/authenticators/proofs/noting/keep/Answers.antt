use Rattle.std.proofs.Common.{◌≡◌, ◌<◌, ◌≤◌, Bool, true, false, cond, List, length, insert, get_or, refl, sym, subst, arith}
use Rattle.std.specs.Prelude.{Ok, Err}
use Rattle.std.specs.List.{Contains}
use Rattle.std.specs.List.Sorted.{IsBinarySearchResult, IsStrictlySortedBy}
use Rattle.std.specs.Ordering.{nat_cmp}
use Rattle.authenticators.specs.declared.clash.Clash.{Clash}
use Rattle.authenticators.specs.within.Noted.{HasUpTo, by_node}
use Rattle.authenticators.proofs.ClashNotes.{found, put_ascends, put_has, put_keeps, put_only, swap_ascends, swap_has, swap_only, swap_there}
use Rattle.authenticators.proofs.noting.keep.Goals as goal
use Rattle.authenticators.proofs.noting.keep.Goals.{After-index_mut, After-insert}

chosen : (b : Bool) (xs ys zs : List Clash) → xs ≡ cond b ys zs → b ≡ true → xs ≡ ys
chosen true xs ys zs is h = is
chosen false xs ys zs is h = absurd cc

-- the place is one of them
within : (c : After-index_mut) → c.in-Ok.place < length c.args.clashes.now.items
within c = subst (λ (l : List Clash). c.in-Ok.place < length l) c.deref.ensures.value c.in-Ok.ensures.bound

-- the clash that stood there is of the node
own : (c : After-index_mut) → (get_or c.args.clashes.now.items c.in-Ok.place c.index.result.now).node ≡ c.args.clash.node
own c =
    let told = subst (λ (l : List Clash). IsBinarySearchResult (λ (p : Clash). nat_cmp p.node c.args.clash.node) l (Ok c.in-Ok.place)) c.deref.ensures.value c.in-Ok.ensures.position in
    found c.args.clashes.now.items c.args.clash.node c.requires.ascending c.in-Ok.place (within c) told c.index.result.now

pub returns-then-clash-index-clause-ascending : goal.returns-then-clash-index-clause-ascending
returns-then-clash-index-clause-ascending c =
    let at = (goal.at.returns-then-clash-index-clause-ascending c).After-index_mut in
    swap_ascends c.args.clashes.now.items c.in-Ok.place c.args.clash c.index.result.now (within at) (own at) c.requires.ascending

pub returns-then-clash-index-clause-kept : goal.returns-then-clash-index-clause-kept
returns-then-clash-index-clause-kept c =
    let at = (goal.at.returns-then-clash-index-clause-kept c).After-index_mut in
    let least = subst (λ (p : Clash). c.args.clash.seq ≤ p.seq) c.index.ensures (omega (arith, c.if-clash-index.true)) in
    λ p has. swap_has c.args.clashes.now.items c.in-Ok.place c.args.clash c.index.result.now p (own at) least has

pub returns-then-clash-index-clause-only : goal.returns-then-clash-index-clause-only
returns-then-clash-index-clause-only c = λ p has. swap_only c.args.clashes.now.items c.in-Ok.place c.args.clash p has

pub returns-then-clash-index-clause-has : goal.returns-then-clash-index-clause-has
returns-then-clash-index-clause-has c = (c.args.clash, swap_there c.args.clashes.now.items c.in-Ok.place c.args.clash (within (goal.at.returns-then-clash-index-clause-has c).After-index_mut), refl, omega arith)

put : (c : After-insert) → c.insert.new.self.items ≡ insert c.args.clashes.now.items c.in-Err.place c.args.clash
put c = chosen _ _ _ _ c.insert.ensures.items (c.insert.ensures.succeeds c.requires.room)

inside : (c : After-insert) → c.in-Err.place ≤ length c.args.clashes.now.items
inside c = subst (λ (l : List Clash). c.in-Err.place ≤ length l) c.deref.ensures.value c.in-Err.ensures.bound

place : (c : After-insert) → IsBinarySearchResult (λ (p : Clash). nat_cmp p.node c.args.clash.node) c.args.clashes.now.items (Err c.in-Err.place)
place c = subst (λ (l : List Clash). IsBinarySearchResult (λ (p : Clash). nat_cmp p.node c.args.clash.node) l (Err c.in-Err.place)) c.deref.ensures.value c.in-Err.ensures.position

pub returns-in-Err-clause-ascending : goal.returns-in-Err-clause-ascending
returns-in-Err-clause-ascending c = subst (IsStrictlySortedBy by_node) (sym (put c)) (put_ascends c.args.clashes.now.items c.args.clash c.in-Err.place (inside c) c.requires.ascending (place c))

pub returns-in-Err-clause-kept : goal.returns-in-Err-clause-kept
returns-in-Err-clause-kept c = λ p has. subst (λ (l : List Clash). HasUpTo l p) (sym (put c)) (put_keeps c.args.clashes.now.items c.args.clash c.in-Err.place (inside c) c.requires.ascending (place c) p has)

pub returns-in-Err-clause-only : goal.returns-in-Err-clause-only
returns-in-Err-clause-only c = λ p has. put_only c.args.clashes.now.items c.args.clash c.in-Err.place (inside c) c.requires.ascending (place c) p (subst (λ (l : List Clash). Contains l p) (put c) has)

pub returns-in-Err-clause-has : goal.returns-in-Err-clause-has
returns-in-Err-clause-has c = subst (λ (l : List Clash). HasUpTo l c.args.clash) (sym (put c)) (put_has c.args.clashes.now.items c.args.clash c.in-Err.place (inside c) c.requires.ascending (place c))
