use Rattle.std.proofs.Common.{rules, ◌≡◌, ◌∙◌, ◌+◌, ◌-◌, ◌*◌, ◌/◌, ◌<◌, ◌++◌, List, ap, arith, drop, length, sym, take}
use Rattle.node_journals.specs.declared.keys.Secret.{Secret}
use Rattle.byte_calls.specs.Journals.{secret_in, secrets_in}
use Rattle.byte_calls.proofs.Secrets.{one_more}
use Rattle.byte_calls.proofs.journals.secrets_in.Goals as goal

pub loop-k-preserved : goal.loop-k-preserved
loop-k-preserved c =
    let bytes = c.args.bytes.now in
    let s : c.secret_in.result ≡ secret_in (take 48 (drop (c.loop-k.k * 48) bytes)) = search rules in
    let n = length bytes / 48 in
    let less : c.loop-k.k < n = omega arith in
    let pushed = ap (λ (l : List Secret). l ++ secrets_in (n - (c.loop-k.k + 1)) (drop ((c.loop-k.k + 1) * 48) bytes)) (sym c.in_ok-push.ensures.items) in
    one_more bytes n c.loop-k.k c.loop-k.secrets.items c.secret_in.result less s c.loop-k.invariant ∙ pushed
