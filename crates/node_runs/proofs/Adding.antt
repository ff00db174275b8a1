-- Runs only add, since calls do.
use Rattle.std.proofs.Common.{◌≡◌, List, [], ◌∷◌, ◌++◌, refl, sym, ap, subst, ◌∙◌, append_assoc}
use Rattle.std.proofs.lemmas.List.{append-nil}
use Rattle.commitment.specs.Accounts.{Account}
use Rattle.commitment.specs.Calls.{Given, after_call}
use Rattle.commitment.specs.Growing.{CallsOnlyAdd, GrowsTo, OnlyAdds}
use Rattle.commitment.specs.Nodes.{NodeState}
use Rattle.replay_verifier.specs.Meaning.{Meaning}
use Rattle.node_runs.specs.Runs.{RunsOnlyAdd, run}

grows_to_itself : {A : Type 0} (xs : List A) → GrowsTo xs xs
grows_to_itself xs = record { more = []; is = sym (append-nil xs) }

grows_then : {A : Type 0} (xs ys zs : List A) → GrowsTo xs ys → GrowsTo ys zs → GrowsTo xs zs
grows_then xs ys zs a b = record { more = a.more ++ b.more; is = b.is ∙ ap (λ t. t ++ b.more) a.is ∙ append_assoc xs a.more b.more }

adds_nothing : (a : Account) → OnlyAdds a a
adds_nothing a = record { me = refl; entries = grows_to_itself a.entries; signed = grows_to_itself a.signed; sent = grows_to_itself a.sent; heard = grows_to_itself a.heard }

adds_then : (a b c : Account) → OnlyAdds a b → OnlyAdds b c → OnlyAdds a c
adds_then a b c p q = record {
  me = q.me ∙ p.me;
  entries = grows_then a.entries b.entries c.entries p.entries q.entries;
  signed = grows_then a.signed b.signed c.signed p.signed q.signed;
  sent = grows_then a.sent b.sent c.sent p.sent q.sent;
  heard = grows_then a.heard b.heard c.heard p.heard q.heard;
}

module _ {S : Type 0} (calls : CallsOnlyAdd S) (p : Meaning S) where
  run_parts : (n : NodeState S) (xs ys : List Given) → run p n (xs ++ ys) ≡ run p (run p n xs) ys
  unfolding run
  run_parts n [] ys = refl
  run_parts n (x ∷ xs) ys = run_parts (after_call p n x) xs ys

  run_adds : (n : NodeState S) (xs : List Given) → OnlyAdds n.account (run p n xs).account
  unfolding run
  run_adds n [] = adds_nothing n.account
  run_adds n (x ∷ xs) = adds_then n.account (after_call p n x).account (run p (after_call p n x) xs).account (calls.account p n x) (run_adds (after_call p n x) xs)

  kept_directory : (n : NodeState S) (xs : List Given) → (run p n xs).directory ≡ n.directory
  unfolding run
  kept_directory n [] = refl
  kept_directory n (x ∷ xs) = kept_directory (after_call p n x) xs ∙ calls.directory p n x

  two_runs : (n : NodeState S) (xs ys : List Given) → GrowsTo xs ys → OnlyAdds (run p n xs).account (run p n ys).account
  two_runs n xs ys g =
      let same : run p (run p n xs) g.more ≡ run p n ys = sym (run_parts n xs g.more) ∙ ap (run p n) (sym g.is) in
      subst (λ (m : NodeState S). OnlyAdds (run p n xs).account m.account) same (run_adds (run p n xs) g.more)

pub runs_add : {S : Type 0} → CallsOnlyAdd S → RunsOnlyAdd S
runs_add calls = record { parts = λ p. run_parts calls p; adds = λ p. run_adds calls p; directory = λ p. kept_directory calls p; two = λ p. two_runs calls p }
