use Rattle.std.proofs.Common.{◌≤◌, ◌⊎◌, inl, inr, arith, ap, length, drop, get_or, None, ◌+◌}
use Rattle.trace_compare.specs.Differences.{one_pair, pairs_of, same_cpu, start_apart, end_apart}
use Rattle.trace_compare.proofs.Walking.{no_run}
use Rattle.trace_compare.proofs.Pairing.{pairs_step, pairs_end, mapped_more, mapped_end, same_more}
use Rattle.trace_compare.proofs.differences.apart_of.Goals as goal
use Rattle.trace_compare.proofs.differences.apart_of.Goals.{then-loop-i-test+else-i-partners, else-loop-i-test}

pub loop-i-preserved : goal.loop-i-preserved
loop-i-preserved c =
    let v = c.loop-i.invariant in
    let e = c.in_ok-add_pair.ensures in
    let m = get_or c.args.model.now c.loop-i.i no_run in
    let p = get_or c.args.partners.now c.loop-i.i None in
    let rest = pairs_of (drop (c.loop-i.i + 1) c.args.model.now) (drop (c.loop-i.i + 1) c.args.partners.now) in
    let all = pairs_of (drop c.loop-i.i c.args.model.now) (drop c.loop-i.i c.args.partners.now) in
    let step = pairs_step c.args.model.now c.args.partners.now c.loop-i.i c.loop-i-test.true c.if-i-partners.true in
    let both = same_more (one_pair m p) rest all step in
    record {
      starts = mapped_more (start_apart c.args.shift) c.loop-i.found.starts.items c.add_pair.new.found.starts.items _ (one_pair m p) rest all e.starts step v.starts;
      ends = mapped_more (end_apart c.args.shift) c.loop-i.found.ends.items c.add_pair.new.found.ends.items _ (one_pair m p) rest all e.ends step v.ends;
      same = omega (arith, both, e.same, v.same);
      few = omega (arith, c.add_pair.ensures.few, v.few);
    }

over : (c : goal.Left-loop-i) → (length c.args.model.now ≤ c.loop-i.i) ⊎ (length c.args.partners.now ≤ c.loop-i.i)
over c = elim c.loop-i-test.branch [ then-loop-i-test+else-i-partners w ↦ inr (omega arith) | else-loop-i-test w ↦ inl (omega arith) ]

pub returns-clause-starts : goal.returns-clause-starts
returns-clause-starts c = mapped_end (start_apart c.args.shift) c.loop-i.found.starts.items _ _ (pairs_end c.args.model.now c.args.partners.now c.loop-i.i (over c)) c.loop-i.invariant.starts

pub returns-clause-ends : goal.returns-clause-ends
returns-clause-ends c = mapped_end (end_apart c.args.shift) c.loop-i.found.ends.items _ _ (pairs_end c.args.model.now c.args.partners.now c.loop-i.i (over c)) c.loop-i.invariant.ends

pub returns-clause-same : goal.returns-clause-same
returns-clause-same c =
    let none = ap same_cpu (pairs_end c.args.model.now c.args.partners.now c.loop-i.i (over c)) in
    omega (arith, none, c.loop-i.invariant.same)
