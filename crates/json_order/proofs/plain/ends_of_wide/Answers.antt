use Rattle.std.proofs.Common.{arith}
use Rattle.json_order.proofs.PlainRuns.{mask_of_ends}
use Rattle.json_order.proofs.plain.ends_of_wide.Goals as goal

pub returns : goal.returns
returns c = mask_of_ends 64 c.args.bytes (omega arith) c.fits-bytes.0
