use Rattle.std.proofs.Common.{◌≡◌, ℕ, ◌+◌, ◌-◌, ◌≤◌, List, ◌∷◌, length, length-append, ap, subst, ◌∙◌, arith}
use Rattle.std.proofs.Math.Logic.{∥∥₁_map}
use Rattle.domain_run.specs.declared.call.Call.TheVariants.{Advance}
use Rattle.domain_run.specs.declared.happened.Happened.{Happened}
use Rattle.domain_run.specs.Domain.{Domain}
use Rattle.domain_run.specs.Happened.{logged_by_ticks}
use Rattle.domain_run.specs.Sound.{IsAdmitted}
use Rattle.domain_run.proofs.CallerLemmas.{ticks_time, ticks_cpus, logged_few}
use Rattle.switch_text.specs.Names.{name_of_task}
use Rattle.calls_trace.proofs.EventPieces.{same_logged_whole}
use Rattle.calls_trace.proofs.Naming.{ticks_used}
use Rattle.calls_trace.proofs.Pieces.{end_advanced, names_on}
use Rattle.calls_trace.proofs.LoggedSoFar.{lines_advanced, so_far_ticks}
use Rattle.calls_trace.proofs.playing_events.PlayingEvents.advance.Goals as goal

pub invariant_of-self : goal.invariant_of-self
invariant_of-self c =
    let p = c.args.self.now in
    let v = p.run.logged_run in
    let w = c.fill-self.new.self in
    let made = p.left - c.fill-self.result in
    let is = c.fill-self.ensures in
    let used : w.domain.used ≡ v.domain.used = ap (λ (d : Domain). d.used) is.made ∙ ticks_used made v.domain in
    let time : w.domain.time ≡ v.domain.time + made = ap (λ (d : Domain). d.time) is.made ∙ ticks_time made v.domain in
    let cpus : w.domain.cpus ≡ v.domain.cpus = ap (λ (d : Domain). d.cpus) is.made ∙ ticks_cpus made v.domain in
    let long : length w.logged ≡ length v.logged + length (logged_by_ticks made v.domain) = ap (λ (hs : List Happened). length hs) is.logged ∙ length-append v.logged (logged_by_ticks made v.domain) in
    let waiting : length v.logged ≤ 4096 = omega (arith, c.if-logged-gt-ENOUGH.false, ap (λ (hs : List Happened). length hs) c.logged.ensures) in
    let most = logged_few made v.domain c.state.ensures.domain.steady.listed in
    record {
      called = λ n h. p.called n (subst (λ (ns : List ℕ). IsAdmitted ns n) used h);
      kept = p.kept;
      room = p.room;
      early = omega (arith, time, is.most, p.early);
      short = omega (arith, is.most, p.short);
      inside = omega (arith, cpus, p.inside);
      few = omega (arith, long, most, waiting, p.short);
      past = ∥∥₁_map p.past is.past;
      so_far = ∥∥₁_map p.so_far (so_far_ticks v w made is.made is.logged);
    }

pub returns-clause-whole : goal.returns-clause-whole
returns-clause-whole c =
    let p = c.args.self.now in
    let v = p.run.logged_run in
    let w = c.fill-self.new.self in
    let left = c.fill-self.result in
    let made = p.left - left in
    let is = c.fill-self.ensures in
    let names = name_of_task p.run.names in
    let sum : made + left ≡ p.left = omega (arith, is.most) in
    same_logged_whole p.base v.domain w.domain (Advance p.left ∷ p.calls) (Advance left ∷ p.calls) names names v.logged w.logged
    (end_advanced v.domain w.domain made left p.left p.calls is.made sum)
    (λ n. names_on v.domain w.domain made left p.left p.calls names n is.made sum)
    (lines_advanced v.domain w.domain made left p.left p.calls v.logged w.logged is.made sum is.logged)
