use Rattle.std.proofs.Common.{◌+◌, ◌∙◌, sym, ap, subst}
use Rattle.std.specs.Prelude.{All}
use Rattle.domain_run.specs.Domain.{Domain}
use Rattle.domain_run.specs.Jump.{running_numbers}
use Rattle.domain_run.specs.Shift.{given_again}
use Rattle.domain_run.specs.Sound.{IsDomain}
use Rattle.domain_run.specs.LowTimes.{HasTime}
use Rattle.domain_run.specs.private.RunQueue.{IsRoom}
use Rattle.domain_run.proofs.Repeating.{again_is, early_again}
use Rattle.domain_run.proofs.state.State.repeat.Goals as goal

pub append-requires-clause-early : goal.append-requires-clause-early
append-requires-clause-early c = early_again c.args.micros c.args.later_by c.args.paces.now c.args.period.now c.args.self.now c.make_room.ensures.domain c.requires.early c.requires.again

pub invariant_of-self : goal.invariant_of-self
invariant_of-self c =
    let d = c.args.self.now in
    let s = c.self-2.inside in
    let i = c.self-2.invariant in
    let view = c.self-2.view_is ∙ c.make_room.ensures.same in
    let time : All HasTime d.tasks = subst (λ (x : Domain). All HasTime x.tasks) c.self.view_is (c.has_time.ensures c.if-not-has_time.false) in
    let again : Domain → Domain = given_again c.args.micros c.args.paces.now c.args.later_by c.args.period.now in
    let is : IsDomain (again d) = again_is c.args.micros c.args.later_by c.args.paces.now c.args.period.now d c.make_room.ensures.domain c.requires.early c.requires.many c.requires.may time c.requires.again in
    record {
      domain = subst IsDomain
          (ap again (sym view)
          ∙ (λ j. record {
            cpus = s.cpus;
            limit = s.limit;
            time = s.time + c.args.micros;
            tasks = sym c.repeat.ensures.tasks j;
            used = s.used;
            curr = sym c.repeat.ensures.places j;
            switches = sym c.append.ensures.switches j;
          }))
          is;
      wide = c.repeat.ensures.cpus ∙ i.wide;
      running_is = λ listed. i.running_is listed ∙ ap running_numbers (sym c.repeat.ensures.places);
      running_room = i.running_room;
      switch_room = subst (λ n. IsRoom s.cpus n s.room.count) (sym c.append.ensures.room) i.switch_room;
    }
