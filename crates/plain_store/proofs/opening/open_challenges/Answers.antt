use Rattle.kept_evidence.proofs.Indicated.{are_found, hashes_are_there}
use Rattle.plain_store.proofs.Opened.{map_behind, open_ascend, open_members}
use Rattle.plain_store.proofs.opening.open_challenges.Goals as goal

pub unanswered_of-requires-clause-hashes : goal.unanswered_of-requires-clause-hashes
unanswered_of-requires-clause-hashes g c = hashes_are_there c.args.directory.now g.P.Program.means c.args.kept.now c.requires

pub unanswered_of-requires-2-clause-hashes : goal.unanswered_of-requires-2-clause-hashes
unanswered_of-requires-2-clause-hashes g c = hashes_are_there c.args.directory.now g.P.Program.means c.args.kept.now c.requires

pub returns-clause-members : goal.returns-clause-members
returns-clause-members g c =
    let kept = c.args.kept.now in
    let one = c.group_of-audits in
    let other = c.group_of-sends in
    open_members c.args.directory.now kept c.args.node one.result.now other.result.now one.ensures.members other.ensures.members (are_found c.args.directory.now g.P.Program.means kept c.requires) _
    (map_behind _ c.in_ok-found.found.items c.in_ok-more.more.items _ _ _ c.in_ok-found.ensures c.in_ok-more.ensures c.in_ok-append.ensures.items)

pub returns-clause-ascending : goal.returns-clause-ascending
returns-clause-ascending g c =
    let one = c.group_of-audits in
    let other = c.group_of-sends in
    open_ascend c.args.directory.now c.args.kept.now c.args.node one.result.now other.result.now one.ensures.members other.ensures.members one.ensures.ascending other.ensures.ascending _
    (map_behind _ c.in_ok-found.found.items c.in_ok-more.more.items _ _ _ c.in_ok-found.ensures c.in_ok-more.ensures c.in_ok-append.ensures.items)
