use Rattle.std.proofs.Common.{arith}
use Rattle.wide_rows.proofs.Vectors.{lane_out}
use Rattle.wide_rows.proofs.search.without_lane.Goals as goal

pub returns : goal.returns
returns c = lane_out c.args.column.now c.args.place (omega arith) c.requires
