use Rattle.std.proofs.Common.{◌≡◌, ◌∷◌, List, [], map, get_or, sym, ap, subst, ◌∙◌}
use Rattle.domain_run.specs.declared.happened.Happened.{Happened}
use Rattle.domain_run.specs.declared.happened.What.TheVariants.{Cut}
use Rattle.domain_run.specs.declared.task.Task.{Task}
use Rattle.domain_run.specs.Domain.{Domain}
use Rattle.domain_run.specs.Happened.{happened_to, logged_by_cut}
use Rattle.domain_run.proofs.Due.{some_task}
use Rattle.domain_run.proofs.Finding.{filter_absent, filter_at}
use Rattle.domain_run.proofs.state.State.cut_of.Goals as goal

pub returns-in-None : goal.returns-in-None
returns-in-None c =
    let s = c.self.inside in
    let none = filter_absent s.task_table.tasks c.args.number c.in-None.ensures.absent in
    subst (λ (x : Domain). [] ≡ logged_by_cut x c.args.number) c.self.view_is (sym (ap (λ (ts : List Task). map (λ t. happened_to s.time t Cut) ts) none))

pub returns-in-Some : goal.returns-in-Some
returns-in-Some c =
    let s = c.self.inside in
    let tasks = s.task_table.tasks in
    let p = c.in-Some.place in
    let there = c.in-Some.ensures.there in
    let d = some_task tasks p there.within in
    let t = get_or tasks p d in
    let cpu = c.cpu_at-cpu.ensures.cpu d in
    let number = there.is d in
    let one = filter_at tasks c.args.number p d c.in-Some.ensures.numbered there in
    let same : c.cut.result ≡ happened_to s.time t Cut = c.cut.ensures ∙ (λ i. record { time = s.time; what = Cut; number = sym number i; cpu = cpu i }) in
    subst (λ (x : Domain). c.cut.result ∷ [] ≡ logged_by_cut x c.args.number) c.self.view_is
    (ap (λ (h : Happened). h ∷ []) same ∙ sym (ap (λ (ts : List Task). map (λ t. happened_to s.time t Cut) ts) one))
