use Rattle.std.proofs.Common.{◌≡◌, ℕ, ◌+◌, ◌-◌, List, ◌∷◌, ap, subst, ◌∙◌, arith}
use Rattle.domain_run.specs.declared.call.Call.TheVariants.{Advance}
use Rattle.domain_run.specs.Domain.{Domain}
use Rattle.domain_run.specs.Sound.{IsAdmitted}
use Rattle.domain_run.proofs.CallerLemmas.{ticks_time, ticks_cpus}
use Rattle.switch_text.specs.Names.{name_of_task}
use Rattle.calls_trace.proofs.Naming.{ticks_used}
use Rattle.calls_trace.proofs.Pieces.{end_advanced, names_on, same_whole}
use Rattle.calls_trace.proofs.playing.Playing.advance.Goals as goal

pub invariant_of-self : goal.invariant_of-self
invariant_of-self c =
    let p = c.args.self.now in
    let made = p.left - c.fill-self.result in
    let e = c.fill-self.new.self in
    let used : e.used ≡ p.run.domain.used = ap (λ (d : Domain). d.used) c.fill-self.ensures.made ∙ ticks_used made p.run.domain in
    let time : e.time ≡ p.run.domain.time + made = ap (λ (d : Domain). d.time) c.fill-self.ensures.made ∙ ticks_time made p.run.domain in
    let cpus : e.cpus ≡ p.run.domain.cpus = ap (λ (d : Domain). d.cpus) c.fill-self.ensures.made ∙ ticks_cpus made p.run.domain in
    record {
      called = λ n h. p.called n (subst (λ (ns : List ℕ). IsAdmitted ns n) used h);
      kept = p.kept;
      room = p.room;
      early = omega (arith, time, c.fill-self.ensures.most, p.early);
      inside = omega (arith, cpus, p.inside);
    }

pub returns-clause-whole : goal.returns-clause-whole
returns-clause-whole c =
    let p = c.args.self.now in
    let left = c.fill-self.result in
    let made = p.left - left in
    let e = c.fill-self.new.self in
    let names = name_of_task p.run.names in
    let sum : made + left ≡ p.left = omega (arith, c.fill-self.ensures.most) in
    same_whole p.base p.run.domain e (Advance p.left ∷ p.calls) (Advance left ∷ p.calls) names names (end_advanced p.run.domain e made left p.left p.calls c.fill-self.ensures.made sum)
    (λ n. names_on p.run.domain e made left p.left p.calls names n c.fill-self.ensures.made sum)
