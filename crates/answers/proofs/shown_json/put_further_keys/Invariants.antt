use Rattle.std.proofs.Common.{◌≡◌, ◌++◌, codes, take}
use Rattle.std.specs.List.{flat_map}
use Rattle.answers.specs.Json.{key_object}
use Rattle.answers.proofs.shown_json.put_further_keys.Given as goal

abbrev pub invariant-loop-key : goal.invariant-loop-key
invariant-loop-key l = l.text.items ≡ l.initial.text.items ++ flat_map (λ k. codes "," ++ key_object k) (take l.key-index l.keys)
