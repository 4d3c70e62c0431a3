use Rattle.std.proofs.Common.{◌+◌, ◌∙◌, sym, ap, subst}
use Rattle.domain_run.specs.Domain.{Domain}
use Rattle.domain_run.specs.GoneOn.{gone_on}
use Rattle.domain_run.specs.Jump.{running_numbers}
use Rattle.domain_run.specs.Sound.{IsDomain}
use Rattle.domain_run.specs.private.RunQueue.{IsRoom}
use Rattle.domain_run.proofs.Gone.{gone_is}
use Rattle.domain_run.proofs.state.State.go_on_by.Goals as goal

pub invariant_of-self : goal.invariant_of-self
invariant_of-self c =
    let d = c.args.self.now in
    let s = c.self.inside in
    let i = c.self.invariant in
    let view = c.self.view_is in
    let on : Domain → Domain = gone_on c.args.micros c.args.paces.now in
    let was : IsDomain d = subst IsDomain view i.domain in
    let is : IsDomain (on d) = gone_is c.args.micros c.args.paces.now d was c.requires.early c.requires.low c.requires.may in
    record {
      domain = subst IsDomain
          (ap on (sym view)
          ∙ (λ j. record {
            cpus = s.cpus;
            limit = s.limit;
            time = s.time + c.args.micros;
            tasks = sym c.repeat.ensures.tasks j;
            used = s.used;
            curr = sym c.repeat.ensures.places j;
            switches = sym c.clear.ensures.items j;
          }))
          is;
      wide = c.repeat.ensures.cpus ∙ i.wide;
      running_is = λ listed. i.running_is listed ∙ ap running_numbers (sym c.repeat.ensures.places);
      running_room = i.running_room;
      switch_room = subst (λ n. IsRoom s.cpus n s.room.count) (sym c.clear.ensures.capacity) i.switch_room;
    }
