use Rattle.std.proofs.Common.{◌≡◌, ℕ, List, [], ◌∷◌, ◌++◌, ◌+◌, add-one, refl, sym, ap, ◌∙◌}
use Rattle.replay_verifier.specs.declared.output.Output.{Output}
use Rattle.replay_tests.specs.Crowd.{crowd}
use Rattle.replay_tests.proofs.replay.crowds.forty_outputs.Goals as goal

-- the message to node n
abbrev message : ℕ → Output
message n = record { to = n; payload = [] }

one_more : (n : ℕ) → crowd (n + 1) ≡ crowd n ++ message n ∷ []
unfolding crowd
one_more n = rw add-one refl

pub loop-node-init : goal.loop-node-init
unfolding crowd
loop-node-init c = c.new-outputs.ensures.items

pub loop-node-preserved : goal.loop-node-preserved
loop-node-preserved c =
    let empty : c.from_vec.result ≡ [] = c.from_vec.ensures ∙ c.new.ensures.items in
    c.in_ok-push.ensures.items ∙ ap (λ (os : List Output). os ++ record { to = c.loop-node.node; payload = c.from_vec.result } ∷ []) c.loop-node.invariant
    ∙ ap (λ (text : List ℕ). crowd c.loop-node.node ++ record { to = c.loop-node.node; payload = text } ∷ []) empty ∙ sym (one_more c.loop-node.node)
