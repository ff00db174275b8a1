use Rattle.std.proofs.Common.{sym, ◌∙◌}
use Rattle.kept_evidence.proofs.Indicated.{are_found, hashes_are_there, suspected_decides}
use Rattle.plain_store.proofs.indicating.is_suspected.Goals as goal

pub is_suspected-requires-clause-hashes : goal.is_suspected-requires-clause-hashes
is_suspected-requires-clause-hashes g c = hashes_are_there c.args.directory.now g.P.Program.means c.args.kept.now c.requires

pub returns : goal.returns
returns g c = (
  λ told. (suspected_decides c.args.directory.now c.args.kept.now c.args.node (are_found c.args.directory.now g.P.Program.means c.args.kept.now c.requires)).0 (sym c.is_suspected.ensures ∙ told),
  λ some. c.is_suspected.ensures ∙ (suspected_decides c.args.directory.now c.args.kept.now c.args.node (are_found c.args.directory.now g.P.Program.means c.args.kept.now c.requires)).1 some,
)
