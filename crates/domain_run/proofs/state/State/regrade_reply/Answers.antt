use Rattle.std.proofs.Common.{ℕ, ◌≡◌, ◌+◌, ◌-◌, ◌<◌, ◌≤◌, Option, Some, None, cond, sym, ap, subst, ◌∙◌, arith}
use Rattle.std.specs.Prelude.{IfNone, IsSomeAnd}
use Rattle.std.proofs.lemmas.Bool.{lt-ltb}
use Rattle.std.proofs.lemmas.Grind.{common_steps}
use Rattle.attr_check.specs.Ratio.{cap}
use Rattle.attr_check.specs.ParamsView.{ParamsView}
use Rattle.domain_run.specs.declared.call.Reply.TheVariants.{Busy}
use Rattle.domain_run.specs.declared.task.Task.{Task}
use Rattle.domain_run.specs.Busy.{LacksRoomToChange}
use Rattle.domain_run.specs.Calls.{regrade_reply, task_of, word_reply}
use Rattle.domain_run.specs.Domain.{Domain}
use Rattle.domain_run.specs.Tick.{sum_of}
use Rattle.domain_run.specs.private.TaskTable.{IsSeenAs}
use Rattle.domain_run.proofs.state.State.regrade_reply.Goals as goal

-- where the task is listed, and its bandwidth does not fit
busy_reply : (d : Domain) (params : ParamsView) (word : Option ℕ) (number : ℕ) (t : Task) → IsSeenAs t (task_of d number) → cap d.cpus d.limit < sum_of d.tasks - t.params.bw + params.bw → Busy (sum_of d.tasks) ≡ regrade_reply d params word (task_of d number)
busy_reply d params word number t seen above =
    sym (ap (regrade_reply d params word) seen.is
    ∙ ap (λ b. cond b (Busy (sum_of d.tasks)) (word_reply word)) (lt-ltb (cap d.cpus d.limit) (sum_of d.tasks - t.params.bw + params.bw) above))

lacks_room : (d : Domain) (number bw seen : ℕ) (t : Task) → IsSeenAs t (task_of d number) → seen ≤ cap d.cpus d.limit → cap d.cpus d.limit < seen - t.params.bw + bw → LacksRoomToChange d number bw seen
lacks_room d number bw seen t is within above = record {
  within = within;
  above = subst (λ (o : Option Task). IsSomeAnd o (λ u. cap d.cpus d.limit < seen - u.params.bw + bw)) (sym is.is) above;
}

over : (most sum bw new left more : ℕ) → left ≡ sum - bw → more ≡ new → most < left + more → most < sum - bw + new
over most sum bw new left more a b h = subst (λ (n : ℕ). most < n + new) a (subst (λ (n : ℕ). most < left + n) b h)

whatever : (o : Option ℕ) (P : Type 0) → P → IfNone o P
whatever None P h = h
whatever (Some n) P h = tt

pub returns-then-saturating_sub-bandwidth-clause-reply : goal.returns-then-saturating_sub-bandwidth-clause-reply
returns-then-saturating_sub-bandwidth-clause-reply c =
    let s = c.self.inside in
    let d : Domain = record { cpus = s.cpus; limit = s.limit; time = s.time; tasks = s.task_table.tasks; used = s.used; curr = s.task_table.places; switches = s.switches.items } in
    let sum : c.sum-sum.result ≡ sum_of d.tasks = c.sum-sum.ensures.sum ∙ ap (λ (x : Domain). sum_of x.tasks) (sym c.self.view_is) in
    let above : cap d.cpus d.limit < sum_of d.tasks - c.in-Some.task.now.params.bw + c.args.params.now.bw = over (cap d.cpus d.limit) (sum_of d.tasks) c.in-Some.task.now.params.bw c.args.params.now.bw c.saturating_sub.result c.bandwidth.result
    (c.saturating_sub.ensures ∙ ap (λ (t : Task). c.sum-sum.result - t.params.bw) c.task.view_is ∙ ap (λ (n : ℕ). n - c.in-Some.task.now.params.bw) sum) c.bandwidth.ensures.value c.if-saturating_sub-bandwidth.true in
    subst (λ (x : Domain). Busy c.sum-sum.result ≡ regrade_reply x c.args.params.now c.args.word (task_of x c.args.number)) c.self.view_is
    (ap (λ (n : ℕ). Busy n) sum ∙ busy_reply d c.args.params.now c.args.word c.args.number c.in-Some.task.now c.in-Some.ensures.there above)

pub returns-then-saturating_sub-bandwidth-clause-busy : goal.returns-then-saturating_sub-bandwidth-clause-busy
returns-then-saturating_sub-bandwidth-clause-busy c =
    let s = c.self.inside in
    let d : Domain = record { cpus = s.cpus; limit = s.limit; time = s.time; tasks = s.task_table.tasks; used = s.used; curr = s.task_table.places; switches = s.switches.items } in
    let sum : c.sum-sum.result ≡ sum_of d.tasks = c.sum-sum.ensures.sum ∙ ap (λ (x : Domain). sum_of x.tasks) (sym c.self.view_is) in
    let above : cap d.cpus d.limit < c.sum-sum.result - c.in-Some.task.now.params.bw + c.args.params.now.bw = over (cap d.cpus d.limit) c.sum-sum.result c.in-Some.task.now.params.bw c.args.params.now.bw c.saturating_sub.result c.bandwidth.result
    (c.saturating_sub.ensures ∙ ap (λ (t : Task). c.sum-sum.result - t.params.bw) c.task.view_is) c.bandwidth.ensures.value c.if-saturating_sub-bandwidth.true in
    let within = subst (λ (x : Domain). c.sum-sum.result ≤ cap x.cpus x.limit) (sym c.self.view_is) c.sum-sum.ensures.within in
    whatever c.args.word (LacksRoomToChange c.args.self.now c.args.number c.args.params.now.bw c.sum-sum.result)
    (subst (λ (x : Domain). LacksRoomToChange x c.args.number c.args.params.now.bw c.sum-sum.result) c.self.view_is
    (lacks_room d c.args.number c.args.params.now.bw c.sum-sum.result c.in-Some.task.now c.in-Some.ensures.there within above))

pub returns-in_default-clause-reply : goal.returns-in_default-clause-reply
returns-in_default-clause-reply c = grind (arith, common_steps)

pub returns-in_default-clause-busy : goal.returns-in_default-clause-busy
returns-in_default-clause-busy c = grind (arith, common_steps)

pub returns-in-None-clause-reply : goal.returns-in-None-clause-reply
returns-in-None-clause-reply c = grind (arith, common_steps)

pub returns-in-None-clause-busy : goal.returns-in-None-clause-busy
returns-in-None-clause-busy c = grind (arith, common_steps)

pub returns-in-Some-word-clause-reply : goal.returns-in-Some-word-clause-reply
returns-in-Some-word-clause-reply c = grind (arith, common_steps)

pub returns-in-Some-word-clause-busy : goal.returns-in-Some-word-clause-busy
returns-in-Some-word-clause-busy c = grind (arith, common_steps)

pub live-requires : goal.live-requires
live-requires c = grind (arith, common_steps)

pub sum-sum-requires : goal.sum-sum-requires
sum-sum-requires c = grind (arith, common_steps)

pub bandwidth-requires : goal.bandwidth-requires
bandwidth-requires c = grind (arith, common_steps)

pub overflow_add-saturating_sub : goal.overflow_add-saturating_sub
overflow_add-saturating_sub c = grind (arith, common_steps)

pub overflow_mul-self-inside : goal.overflow_mul-self-inside
overflow_mul-self-inside c = grind (arith, common_steps)

pub saturating_sub-requires : goal.saturating_sub-requires
saturating_sub-requires c = grind (arith, common_steps)
