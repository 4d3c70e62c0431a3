use Rattle.std.proofs.Common.{refl, sym, ◌∙◌, arith}
use Rattle.std.proofs.lemmas.List.{length_push}
use Rattle.jump_run.proofs.Crewing.{plans_push}
use Rattle.jump_run.proofs.crew.gather.Goals as goal

pub loop-i-preserved : goal.loop-i-preserved
loop-i-preserved c =
    let l = c.loop-i in
    let inv = l.invariant in
    let d = c.args.state.now in
    let next = c.min-ticks-in-loop-i.result in
    let min_is = c.min-ticks-in-loop-i.ensures in
    let pushed = c.push_reserved.ensures in
    record {
      some = omega (arith, min_is, inv.some, c.in-Some.ensures.some);
      most = omega (arith, min_is, inv.most);
      quiet = omega (arith, min_is, inv.quiet);
      short = omega (arith, min_is, inv.short);
      within = let there = c.in-Some.ensures.there.0 refl in omega (arith, there);
      few = λ some. c.in-Some.ensures.few;
      room = pushed.capacity ∙ inv.room;
      len = omega (arith, pushed.len, inv.len);
      long = rw pushed.items (length_push l.plans.items c.plan_of.result ∙ (let e = inv.long in omega (arith, e)));
      each = rw pushed.items (plans_push d l.ticks next l.i l.plans.items c.in-Some.runner c.plan_of.result (omega (arith, min_is)) (omega (arith, min_is)) (sym c.in-Some.ensures.running) inv.long c.plan_of.ensures.value c.plan_of.ensures.fit inv.each);
    }
