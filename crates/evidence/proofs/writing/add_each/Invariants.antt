use Rattle.std.proofs.Common.{◌++◌, take}
use Rattle.std.specs.List.{flat_map}
use Rattle.log_chain.specs.Fields.{bytes_text}
use Rattle.item_forms.specs.Spelling.{spelling}
use Rattle.evidence.specs.within.Pieces.{Sends}
use Rattle.evidence.proofs.writing.add_each.Given as goal

abbrev pub invariant-loop-x : goal.invariant-loop-x
invariant-loop-x g l = Sends (g.W.Write.contents l.initial.writer) (g.W.Write.contents l.writer) l.gathered (l.initial.gathered ++ flat_map (λ x. bytes_text (spelling (g.T.HasItem.piece x).fields)) (take l.x-index l.items))
