use Rattle.std.proofs.Common.{◌≡◌, ◌/◌, ◌≤◌, ℕ, length, sym, ap, subst, ◌∙◌}
use Rattle.std.specs.Prelude.{◌⊎◌, All}
use Rattle.std.specs.Int.{bit_at}
use Rattle.domain_run.specs.Tick.{sum_of}
use Rattle.domain_run.specs.private.TaskTable.{TaskTableView, HasItsCharge}
use Rattle.domain_run.specs.private.Owed.{owed_all}
use Rattle.domain_run.proofs.Counting.{home_at}
use Rattle.domain_run.proofs.Stale.{renew_settled, seated_all}
use Rattle.domain_run.proofs.task_table.TaskTable.stale_there.Goals as goal
use Rattle.domain_run.proofs.task_table.TaskTable.stale_there.Goals.{After-renew}

free : (c : After-renew) → (i : ℕ) → bit_at c.renew.new.self.cpus i ≡ 0 → (bit_at c.self.inside.stale.rated i ≡ 0)
    ⊎ ((c.self.inside.stale.sum / length c.self.inside.queue.accounts.all ≡ c.sum-sum.result / length c.self.inside.queue.accounts.all) × (c.self.inside.stale.limit ≡ c.args.limit))
free c =
    let d = c.self.inside.stale in
    subst (λ (n : ℕ). (i : ℕ) → bit_at c.renew.new.self.cpus i ≡ 0 → (bit_at d.rated i ≡ 0) ⊎ ((d.sum / n ≡ c.sum-sum.result / n) × (d.limit ≡ c.args.limit))) c.cpus-cpus.ensures c.renew.ensures.free

pub invariant_of-self : goal.invariant_of-self
invariant_of-self c =
    let s = c.self.inside in
    let i = c.self.invariant in
    record {
      counted = i.counted;
      waits = i.waits;
      wide = i.wide;
      settled = renew_settled s.stale c.renew.new.self (length s.queue.accounts.all) s.queue.schedule.places s.charges.charges (owed_all s.charges s.tasks) c.sum-sum.result c.args.limit c.renew.ensures.bare (free (goal.at.invariant_of-self c).After-renew) c.renew.ensures.rated c.renew.ensures.sum c.renew.ensures.limit i.settled;
    }

pub returns-clause-others : goal.returns-clause-others
returns-clause-others c =
    let s = c.self.inside in
    let i = c.self.invariant in
    let d = c.renew.new.self in
    let w = length s.queue.accounts.all in
    let tasks = owed_all s.charges s.tasks in
    let settled = renew_settled s.stale d w s.queue.schedule.places s.charges.charges tasks c.sum-sum.result c.args.limit c.renew.ensures.bare (free (goal.at.returns-clause-others c).After-renew) c.renew.ensures.rated c.renew.ensures.sum c.renew.ensures.limit i.settled in
    let few : w ≤ 64 = subst (λ (r : TaskTableView). r.cpus ≤ 64) (sym c.self.view_is) c.requires.cpus.1 in
    let sum : d.sum ≡ sum_of tasks = c.renew.ensures.sum ∙ c.sum-sum.ensures ∙ ap (λ (r : TaskTableView). sum_of r.tasks) (sym c.self.view_is) in
    subst (λ (r : TaskTableView). All (λ t. bit_at d.cpus t.cpu ≡ 0 → HasItsCharge r.places r.cpus c.args.limit r.tasks r.charges t) r.tasks) c.self.view_is
    (seated_all d w c.args.limit s.queue.schedule.places s.charges s.tasks few sum c.renew.ensures.limit (λ k x h. home_at w s.queue tasks k x h i.counted) i.waits settled)
