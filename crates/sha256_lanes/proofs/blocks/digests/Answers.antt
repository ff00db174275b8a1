use Rattle.sha256_lanes.proofs.LaneLemmas.{below_eight}
use Rattle.sha256_lanes.proofs.blocks.digests.Goals as goal

pub returns : goal.returns
returns c = below_eight _ c.lane_bytes.ensures c.lane_bytes-2.ensures c.lane_bytes-3.ensures c.lane_bytes-4.ensures c.lane_bytes-5.ensures c.lane_bytes-6.ensures c.lane_bytes-7.ensures c.lane_bytes-8.ensures
