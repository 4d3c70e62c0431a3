use Rattle.std.proofs.Common.{◌≡◌, ℕ, List, ◌∙◌, ap, sym, subst}
use Rattle.std.specs.String.{string_bytes}
use Rattle.switch_text.specs.Names.{name_of_task}
use Rattle.domain_run.specs.Domain.{Domain}
use Rattle.calls_trace.specs.Replay.{with_name}
use Rattle.calls_trace.specs.private.Replaying.{AdmittedHaveNames}
use Rattle.calls_trace.proofs.Naming.{named_step, on_ok}
use Rattle.calls_trace.proofs.named_run.RunWithNames.admit.Goals as goal

pub returns-in-Ok-admit-clause-named : goal.returns-in-Ok-admit-clause-named
returns-in-Ok-admit-clause-named c =
    let a = c.args in
    let d = a.self.now.state in
    let was = a.self.now.names in
    let is = c.know.new.self.names in
    let text = c.in-Ok.text in
    on_ok c.know.result ((n : ℕ) → name_of_task is n ≡ with_name (name_of_task was) a.number (string_bytes text) n) (AdmittedHaveNames c.know.new.self.state is)
    (λ each.
    let each2 : (n : ℕ) → name_of_task is n ≡ with_name (name_of_task was) a.number a.name n = λ n. each n ∙ ap (λ (t : List ℕ). with_name (name_of_task was) a.number t n) c.in-Ok.ensures.text in
    subst (λ (x : Domain). AdmittedHaveNames x is) (sym (c.know.ensures.state ∙ c.in-Ok-admit.ensures.domain)) (named_step d was is a.number a.name a.params a.delay c.lay_out_if_admitted.new.script c.in-Ok-admit.ensures.admitted c.requires.named c.in-Ok.ensures.name each2))
    c.know.ensures.names
