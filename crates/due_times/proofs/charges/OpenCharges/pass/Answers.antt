use Rattle.std.proofs.Common.{◌≤◌, ◌+◌, ◌^◌, length, map, sym, subst, arith}
use Rattle.due_times.specs.OpenCharges.{OpenChargesView, end_of}
use Rattle.due_times.specs.Timers.{AreLater}
use Rattle.due_times.proofs.ChargeTimes.{charges_later}
use Rattle.due_times.proofs.charges.OpenCharges.pass.Goals as goal

pub invariant_of-self : goal.invariant_of-self
invariant_of-self c =
    let s = c.self.inside in
    record {
      early = subst (λ (v : OpenChargesView). v.upto + c.args.ticks ≤ 2 ^ 62) (sym c.self.view_is) c.requires.early;
      few = c.self.invariant.few;
      ahead = charges_later s.upto (s.upto + c.args.ticks) s.charges.items (omega arith) c.self.invariant.ahead
          (subst (λ (v : OpenChargesView). AreLater (map end_of v.charges) (v.upto + c.args.ticks) 0 (length v.charges)) (sym c.self.view_is) c.requires.ahead);
      ends_are = c.self.invariant.ends_are;
      room = c.self.invariant.room;
    }
