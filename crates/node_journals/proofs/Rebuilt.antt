-- A journal is rebuilt by its steps: its beginning, and then its records.
use Rattle.std.proofs.Common.{◌≡◌, ℕ, List, Result, Ok, sym, ap, subst, ◌∙◌}
use Rattle.outcome.specs.Outcome.{◌>>=◌, Fails}
use Rattle.commitment.specs.Nodes.{NodeState}
use Rattle.node_journals.specs.declared.beginning.Beginning.{Beginning}
use Rattle.node_journals.specs.declared.fault.RebuildFault.{RebuildFault}
use Rattle.node_journals.specs.declared.fault.RebuildFault.TheVariants.{Memory}
use Rattle.node_journals.specs.Rebuilding.{Supplied, begun_as, behind_first, first_of, rebuilt, replayed}

module _ {S : Type 0} (by : Supplied S) where
  pub behind_beginning : (texts : List (List ℕ)) (b : Beginning) (first : NodeState S) → first_of texts ≡ Ok b → begun_as by b ≡ Ok first → rebuilt by texts ≡ replayed by.program by.secrets first (behind_first texts)
  unfolding rebuilt
  behind_beginning texts b first begins is =
      ap (λ (r : Result Beginning RebuildFault). r >>= λ x. begun_as by x >>= λ n. replayed by.program by.secrets n (behind_first texts)) begins
      ∙ ap (λ (r : Result (NodeState S) RebuildFault). r >>= λ n. replayed by.program by.secrets n (behind_first texts)) is

  pub not_rebuilt : (texts : List (List ℕ)) (b : Beginning) (first : NodeState S) (e : RebuildFault) → first_of texts ≡ Ok b → begun_as by b ≡ Ok first → Fails Memory e (replayed by.program by.secrets first (behind_first texts))
      → Fails Memory e (rebuilt by texts)
  not_rebuilt texts b first e begins is fails = subst (Fails Memory e) (sym (behind_beginning texts b first begins is)) fails
