use Rattle.std.proofs.Common.{subst}
use Rattle.outcome.specs.Bytes.{IsBytes}
use Rattle.proofs.proofs.Scanned.{auth_skipped}
use Rattle.proofs.proofs.scanning.skip_auth_part.Goals as goal

pub returns-clause-skips : goal.returns-clause-skips
returns-clause-skips c =
    auth_skipped c.framed_items_read_back.ensures c.scan_framed.result c.args.reader.now c.scan_framed.new.reader (subst IsBytes c.as_slice.ensures c.bytes_fit.ensures) c.scan_framed.ensures.skips
