use Rattle.std.proofs.Common.{◌≡◌, ℕ, List, ◌∙◌, ap, sym, subst}
use Rattle.switch_text.specs.Names.{name_of_task}
use Rattle.domain_run.specs.Domain.{Domain}
use Rattle.domain_run.specs.LoggedRun.{LoggedRunView}
use Rattle.calls_trace.specs.Replay.{with_name}
use Rattle.calls_trace.specs.private.Replaying.{AdmittedHaveNames}
use Rattle.calls_trace.proofs.Naming.{named_step}
use Rattle.calls_trace.proofs.playing_events.NamedLog.admit.Goals as goal

pub returns-in-Ok-clause-called : goal.returns-in-Ok-clause-called
returns-in-Ok-clause-called c =
    let a = c.args in
    let d = a.self.now.logged_run.domain in
    let was = a.self.now.names in
    let is = c.put.new.self.names in
    let each : (n : ℕ) → name_of_task is n ≡ with_name (name_of_task was) a.number a.name n = λ n. c.put.ensures.names n ∙ ap (λ (t : List ℕ). with_name (name_of_task was) a.number t n) c.requires.text in
    subst (λ (x : Domain). AdmittedHaveNames x is) (sym (ap (λ (v : LoggedRunView). v.domain) c.put.ensures.logged_run ∙ c.in-Ok.ensures.domain)) (named_step d was is a.number a.name a.params a.delay c.lay_out_if_admitted.new.script c.in-Ok.ensures.admitted c.requires.called c.as_str.ensures.name each)
