use Rattle.std.proofs.Common.{◌*◌, ◌/◌, ◌≤◌, arith}
use Rattle.std.proofs.Math.Nat.{le-div_iff_mul-le}
use Rattle.chart.proofs.axis.ticks_by.Goals as goal

pub ticks_between-requires : goal.ticks_between-requires
ticks_between-requires c =
    let step = c.args.step in
    let to = c.args.window.now.to in
    record {
      fits = λ k l.
          let below : k ≤ to / step = omega (arith, l) in
          let product : k * step ≤ to = (le-div_iff_mul-le c.requires.some).0 below in
          omega (arith, product, c.requires.window.early);
    }
