use Rattle.std.proofs.Common.{◌≡◌, ◌+◌, ◌-◌, length, arith, ap}
use Rattle.std.proofs.lemmas.Slice.{drop-put_mid}
use Rattle.sha256_lanes.proofs.tails.put.Goals as goal

pub returns-clause-back : goal.returns-clause-back
returns-clause-back c =
    let a = c.args.place in
    let n = length c.args.bytes.now in
    let same : length c.copy_from_slice.new.self ≡ n = ap length c.copy_from_slice.ensures.after in
    drop-put_mid a (a + n - a) c.args.text.now c.copy_from_slice.new.self (a + n) (omega arith) (omega arith) (omega arith)
