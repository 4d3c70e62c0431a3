use Rattle.std.proofs.Common.{cond, Some, None, get_or, sym, ap, ◌∙◌}
use Rattle.std.proofs.lemmas.List.{get_or_default}
use Rattle.edf_pick.specs.Places.{is_task}
use Rattle.domain_run.specs.Sound.{occupant}
use Rattle.domain_run.proofs.AtHome.{listed_at}
use Rattle.domain_run.proofs.Due.{some_task}
use Rattle.domain_run.proofs.log.homing.cpu_of.Goals as goal

pub returns-then-has_cpu_on-clause-cpu : goal.returns-then-has_cpu_on-clause-cpu
returns-then-has_cpu_on-clause-cpu c =
    let places = c.args.places.now in
    let tasks = c.args.task_table.now.tasks in
    let p = c.in-Some.place in
    let there = c.in-Some.ensures.there in
    let d = some_task tasks p there.within in
    let t = get_or tasks p d in
    let at = listed_at places tasks c.args.number p t c.requires.apart c.requires.homed there (λ e. get_or_default tasks p d e there.within) in
    let cpu = c.cpu_at-cpu.ensures.cpu d in
    ap (λ n. Some n) cpu
    ∙ sym (at ∙ ap (λ n. cond (is_task c.args.number (occupant places n)) (Some t.cpu) None) (sym cpu) ∙ ap (λ b. cond b (Some t.cpu) None) (sym c.has_cpu_on.ensures ∙ c.if-has_cpu_on.true))

pub returns-else-has_cpu_on-clause-cpu : goal.returns-else-has_cpu_on-clause-cpu
returns-else-has_cpu_on-clause-cpu c =
    let places = c.args.places.now in
    let tasks = c.args.task_table.now.tasks in
    let p = c.in-Some.place in
    let there = c.in-Some.ensures.there in
    let d = some_task tasks p there.within in
    let t = get_or tasks p d in
    let at = listed_at places tasks c.args.number p t c.requires.apart c.requires.homed there (λ e. get_or_default tasks p d e there.within) in
    let cpu = c.cpu_at-cpu.ensures.cpu d in
    sym (at ∙ ap (λ n. cond (is_task c.args.number (occupant places n)) (Some t.cpu) None) (sym cpu) ∙ ap (λ b. cond b (Some t.cpu) None) (sym c.has_cpu_on.ensures ∙ c.if-has_cpu_on.false))
