use Rattle.std.proofs.Common.{◌<◌, ◌+◌, List, length, take, subst, sym, arith}
use Rattle.domain_run.specs.declared.pace.Pace.{Pace}
use Rattle.repeat_run.specs.Seen.{ArePaced, AllLast}
use Rattle.repeat_run.proofs.Noting.{paced_more, last_more}
use Rattle.repeat_run.proofs.seeing.paces_to.Goals as goal

pub loop-place-preserved : goal.loop-place-preserved
loop-place-preserved c =
    let micros = c.args.micros in
    let seen = c.args.seen.now in
    let tasks = c.args.state.now.tasks in
    let place = c.loop-place.place in
    let first = c.first_at-first.result in
    let pace = c.in-Some.way.pace in
    let inv = c.loop-place.invariant in
    let pushed = sym c.in-Ok.ensures.items in
    let within : place < length seen = omega (arith, c.loop-place-test.true) in
    let inside : place < length tasks = omega (arith, c.loop-place-test.true, c.if-listed-seen.false, c.listed.ensures) in
    record {
      paced = subst (λ (ps : List Pace). ArePaced micros (take (place + 1) seen) (take (place + 1) tasks) ps) pushed
          (paced_more micros place seen tasks c.loop-place.paces.items first c.seen_at-now.result pace within inside (sym c.first_at-first.ensures) inv.paced
          c.seen_at-now.ensures c.in-Some.ensures.begins c.in-Some.ensures.paced);
      lasts = λ m most.
          subst (λ (ps : List Pace). AllLast m (take (place + 1) seen) ps) pushed
          (last_more m place seen c.loop-place.paces.items first pace within (sym c.first_at-first.ensures)
          (inv.lasts m (omega (arith, most, c.least-most.ensures.first)))
          (c.in-Some.ensures.lasts m (omega (arith, most, c.least-most.ensures.second))));
    }
