use Rattle.kept_evidence.proofs.Indicated.{exposed_decides, hashes_are_there}
use Rattle.plain_store.proofs.indicating.is_exposed.Goals as goal

pub exposure_of-requires-clause-hashes : goal.exposure_of-requires-clause-hashes
exposure_of-requires-clause-hashes g c = hashes_are_there c.args.directory.now g.P.Program.means c.args.kept.now c.requires.items

pub returns : goal.returns
returns g c =
    exposed_decides c.args.directory.now g.P.Program.means c.args.kept.now c.deviating_lists_do_not_conform.ensures c.args.held.now c.args.node c.requires
    c.exposure_of.result c.is_some.result c.is_some.ensures c.exposure_of.ensures.none c.exposure_of.ensures.some
