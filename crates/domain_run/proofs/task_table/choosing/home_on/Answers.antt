use Rattle.std.proofs.Common.{◌≡◌, ℕ, None, Some, map, set, sym, ap, subst, refl, ◌∙◌, arith, ◌<◌, length}
use Rattle.std.specs.Int.{bit_at}
use Rattle.std.proofs.lemmas.List.{get_or_default, length-map}
use Rattle.std.proofs.lemmas.Grind.{common_steps}
use Rattle.domain_run.specs.declared.task.Task.{Task}
use Rattle.domain_run.specs.Parts.{with_cpu}
use Rattle.domain_run.specs.private.Choosing.{IsHome}
use Rattle.domain_run.specs.private.TaskTable.{homed_here}
use Rattle.domain_run.specs.private.Owed.{owed, owed_all}
use Rattle.domain_run.proofs.Choosing.{start_waits, start_held, started_counts, started_home, started_tasks, started_view, started_clock, started_wide, stays_tasks}
use Rattle.domain_run.proofs.Stale.{start_marked, kept_mark, left_uncharged, IsLeft}
use Rattle.domain_run.proofs.Finding.{map_others}
use Rattle.domain_run.proofs.KeptRunning.{map_itself}
use Rattle.domain_run.proofs.Owed.{alike_owed, at_like, absent_like}
use Rattle.domain_run.proofs.DeferringTimers.{seen_alike}
use Rattle.domain_run.proofs.task_table.choosing.home_on.Goals as goal

pub returns-in_default-clause-tasks : goal.returns-in_default-clause-tasks
returns-in_default-clause-tasks c =
    let tasks = owed_all c.args.charges.now c.args.tasks.now in
    sym (ap (λ o. map (homed_here o c.args.cpu) tasks) c.in_default.is ∙ map_itself (homed_here None c.args.cpu) tasks (λ k d h. refl))

pub returns-in_default-place-clause-tasks : goal.returns-in_default-place-clause-tasks
returns-in_default-place-clause-tasks c =
    let s = c.args.charges.now in
    let items = c.args.tasks.now in
    let n = c.in-Some.number in
    let absent = absent_like (owed s.upto s.charges) (alike_owed s.upto s.charges) n items (c.in_default-place.ensures.absent) in
    sym (ap (λ o. map (homed_here o c.args.cpu) (owed_all s items)) c.in-Some.is ∙ map_others (with_cpu (Some c.args.cpu)) n (owed_all s items) absent)

pub returns-then-left-cpu-clause-tasks : goal.returns-then-left-cpu-clause-tasks
returns-then-left-cpu-clause-tasks c =
    let s = c.args.charges.now in
    let items = c.args.tasks.now in
    let n = c.in-Some.number in
    let p = c.in-Some-place.place in
    let at = c.in-Some-place.ensures.there in
    stays_tasks c.args.accounts.now s items p c.at.result.now at.within c.at.ensures c.requires.counts c.args.cpu n c.if-left-cpu.true
    (at_like (owed s.upto s.charges) (alike_owed s.upto s.charges) n p items at)
    ∙ ap (λ o. map (homed_here o c.args.cpu) (owed_all s items)) (sym c.in-Some.is)

pub start-requires-clause-waits : goal.start-requires-clause-waits
start-requires-clause-waits c =
    let at = c.in-Some-place.ensures.there in
    start_waits c.args.accounts.now c.args.charges.now c.args.tasks.now c.in-Some-place.place c.at_mut.result.now at.within c.at_mut.ensures.value c.requires.counts

pub start-requires-clause-held : goal.start-requires-clause-held
start-requires-clause-held c =
    let at = c.in-Some-place.ensures.there in
    start_held c.args.accounts.now c.args.charges.now c.args.tasks.now c.in-Some-place.place c.at_mut.result.now at.within c.at_mut.ensures.value c.requires.counts

pub returns-clause-place : goal.returns-clause-place
returns-clause-place c =
    let at = c.in-Some-place.ensures.there in
    let x = c.at_mut.result.now in
    let number : c.in-Some.number ≡ x.number = sym (at.is x) ∙ sym (ap (λ (t : Task). t.number) c.at_mut.ensures.value) in
    let home = started_home c.args.accounts.now c.args.charges.now c.args.tasks.now c.in-Some-place.place x at.within c.at_mut.ensures.value c.requires.counts
    c.args.cpu c.start.new.accounts c.start.new.charges c.start.new.task c.requires.there c.start.ensures.task c.start.ensures.charges c.in-Some.number number in
    subst (λ o. IsHome o c.args.cpu c.in-Some-place.place (owed_all c.start.new.charges (set c.args.tasks.now c.in-Some-place.place c.start.new.task))) (sym c.in-Some.is) home

pub returns-clause-counts : goal.returns-clause-counts
returns-clause-counts c =
    let at = c.in-Some-place.ensures.there in
    started_counts c.args.accounts.now c.args.charges.now c.args.tasks.now c.in-Some-place.place c.at_mut.result.now at.within c.at_mut.ensures.value c.requires.counts
    c.args.cpu c.start.new.accounts c.start.new.charges c.start.new.task c.requires.there c.start.ensures.task c.start.ensures.charges c.start.ensures.sums

pub returns-clause-tasks : goal.returns-clause-tasks
returns-clause-tasks c =
    let s = c.args.charges.now in
    let items = c.args.tasks.now in
    let n = c.in-Some.number in
    let p = c.in-Some-place.place in
    let at = c.in-Some-place.ensures.there in
    started_tasks c.args.accounts.now s items p c.at_mut.result.now at.within c.at_mut.ensures.value c.requires.counts
    c.args.cpu c.start.new.accounts c.start.new.charges c.start.new.task c.requires.there c.start.ensures.task c.start.ensures.charges n (at_like (owed s.upto s.charges) (alike_owed s.upto s.charges) n p items at)
    ∙ ap (λ o. map (homed_here o c.args.cpu) (owed_all s items)) (sym c.in-Some.is)

pub returns-clause-clock : goal.returns-clause-clock
returns-clause-clock c =
    let at = c.in-Some-place.ensures.there in
    started_clock c.args.accounts.now c.args.charges.now c.args.tasks.now c.in-Some-place.place c.at_mut.result.now at.within c.at_mut.ensures.value c.requires.counts
    c.args.cpu c.start.new.accounts c.start.new.charges c.start.new.task c.requires.there c.start.ensures.task c.start.ensures.charges

pub returns-clause-charges : goal.returns-clause-charges
returns-clause-charges c =
    let at = c.in-Some-place.ensures.there in
    started_wide c.args.accounts.now c.args.charges.now c.args.tasks.now c.in-Some-place.place c.at_mut.result.now at.within c.at_mut.ensures.value c.requires.counts
    c.args.cpu c.start.new.accounts c.start.new.charges c.start.new.task c.requires.there c.start.ensures.task c.start.ensures.charges

pub returns-clause-marked : goal.returns-clause-marked
returns-clause-marked c =
    let s = c.args.charges.now in
    let items = c.args.tasks.now in
    let p = c.in-Some-place.place in
    let n = c.in-Some.number in
    let at = c.in-Some-place.ensures.there in
    let x = c.at_mut.result.now in
    let same : c.at.result.now ≡ x = c.at.ensures ∙ get_or_default items p c.at.result.now x at.within ∙ sym c.at_mut.ensures.value in
    let number : n ≡ x.number = sym (at.is x) ∙ sym (ap (λ (t : Task). t.number) c.at_mut.ensures.value) in
    let one = c.mark.ensures in
    let two = c.mark_left.ensures in
    let b = c.mark_left.new.self.cpus in
    let left = left_uncharged c.args.stale.now.rated b c.at.result.now.cpu n s.charges c.charge_of.result _ c.charge_of.ensures.charge c.is_some.ensures two.was_started (λ e few none. ap (λ (r : ℕ). bit_at r c.at.result.now.cpu) (sym one.rated) ∙ two.free e few none) in
    start_marked c.args.stale.now.rated c.args.stale.now.cpus b c.args.cpu s c.start.new.charges items p x c.start.new.task at.within c.at_mut.ensures.value c.start.ensures.task c.start.ensures.charges
    (started_view c.args.accounts.now s items p x at.within c.at_mut.ensures.value c.requires.counts c.args.cpu c.start.new.accounts c.start.new.charges c.start.new.task c.requires.there c.start.ensures.task c.start.ensures.charges)
    (subst (λ (m : ℕ). IsLeft c.args.stale.now.rated b x.cpu m s.charges) number (subst (λ (t : Task). IsLeft c.args.stale.now.rated b t.cpu n s.charges) same left))
    (kept_mark c.mark.new.self.cpus b c.args.cpu two.bare one.marked) (λ i e. one.bare i (two.bare i e))

pub returns-in_default-clause-place : goal.returns-in_default-clause-place
returns-in_default-clause-place c = grind (arith, common_steps)

pub returns-in_default-clause-wide : goal.returns-in_default-clause-wide
returns-in_default-clause-wide c = grind (arith, common_steps)

pub returns-in_default-clause-counts : goal.returns-in_default-clause-counts
returns-in_default-clause-counts c = grind (arith, common_steps)

pub returns-in_default-clause-clock : goal.returns-in_default-clause-clock
returns-in_default-clause-clock c = grind (arith, common_steps)

pub returns-in_default-clause-charges : goal.returns-in_default-clause-charges
returns-in_default-clause-charges c = grind (arith, common_steps)

pub returns-in_default-clause-marked : goal.returns-in_default-clause-marked
returns-in_default-clause-marked c = grind (arith, common_steps)

pub returns-in_default-clause-here : goal.returns-in_default-clause-here
returns-in_default-clause-here c = grind (arith, common_steps)

pub returns-in_default-clause-rated : goal.returns-in_default-clause-rated
returns-in_default-clause-rated c = grind (arith, common_steps)

pub returns-in_default-clause-sum : goal.returns-in_default-clause-sum
returns-in_default-clause-sum c = grind (arith, common_steps)

pub returns-in_default-clause-limit : goal.returns-in_default-clause-limit
returns-in_default-clause-limit c = grind (arith, common_steps)

pub returns-in_default-place-clause-place : goal.returns-in_default-place-clause-place
returns-in_default-place-clause-place c = grind (arith, common_steps)

pub returns-in_default-place-clause-wide : goal.returns-in_default-place-clause-wide
returns-in_default-place-clause-wide c = grind (arith, common_steps)

pub returns-in_default-place-clause-counts : goal.returns-in_default-place-clause-counts
returns-in_default-place-clause-counts c = grind (arith, common_steps)

pub returns-in_default-place-clause-clock : goal.returns-in_default-place-clause-clock
returns-in_default-place-clause-clock c = grind (arith, common_steps)

pub returns-in_default-place-clause-charges : goal.returns-in_default-place-clause-charges
returns-in_default-place-clause-charges c = grind (arith, common_steps)

pub returns-in_default-place-clause-marked : goal.returns-in_default-place-clause-marked
returns-in_default-place-clause-marked c = grind (arith, common_steps)

pub returns-in_default-place-clause-here : goal.returns-in_default-place-clause-here
returns-in_default-place-clause-here c = grind (arith, common_steps)

pub returns-in_default-place-clause-rated : goal.returns-in_default-place-clause-rated
returns-in_default-place-clause-rated c = grind (arith, common_steps)

pub returns-in_default-place-clause-sum : goal.returns-in_default-place-clause-sum
returns-in_default-place-clause-sum c = grind (arith, common_steps)

pub returns-in_default-place-clause-limit : goal.returns-in_default-place-clause-limit
returns-in_default-place-clause-limit c = grind (arith, common_steps)

pub returns-then-left-cpu-clause-wide : goal.returns-then-left-cpu-clause-wide
returns-then-left-cpu-clause-wide c = grind (arith, common_steps)

pub returns-then-left-cpu-clause-counts : goal.returns-then-left-cpu-clause-counts
returns-then-left-cpu-clause-counts c = grind (arith, common_steps)

pub returns-then-left-cpu-clause-clock : goal.returns-then-left-cpu-clause-clock
returns-then-left-cpu-clause-clock c = grind (arith, common_steps)

pub returns-then-left-cpu-clause-charges : goal.returns-then-left-cpu-clause-charges
returns-then-left-cpu-clause-charges c = grind (arith, common_steps)

pub returns-then-left-cpu-clause-marked : goal.returns-then-left-cpu-clause-marked
returns-then-left-cpu-clause-marked c = grind (arith, common_steps)

pub returns-then-left-cpu-clause-here : goal.returns-then-left-cpu-clause-here
returns-then-left-cpu-clause-here c = grind (arith, common_steps)

pub returns-then-left-cpu-clause-rated : goal.returns-then-left-cpu-clause-rated
returns-then-left-cpu-clause-rated c = grind (arith, common_steps)

pub returns-then-left-cpu-clause-sum : goal.returns-then-left-cpu-clause-sum
returns-then-left-cpu-clause-sum c = grind (arith, common_steps)

pub returns-then-left-cpu-clause-limit : goal.returns-then-left-cpu-clause-limit
returns-then-left-cpu-clause-limit c = grind (arith, common_steps)

pub start-requires-clause-there : goal.start-requires-clause-there
start-requires-clause-there c = grind (arith, common_steps)

pub returns-clause-wide : goal.returns-clause-wide
returns-clause-wide c = grind (arith, common_steps)

pub returns-clause-here : goal.returns-clause-here
returns-clause-here c = grind (arith, common_steps)

pub returns-clause-rated : goal.returns-clause-rated
returns-clause-rated c = grind (arith, common_steps)

pub returns-clause-sum : goal.returns-clause-sum
returns-clause-sum c = grind (arith, common_steps)

pub returns-clause-limit : goal.returns-clause-limit
returns-clause-limit c = grind (arith, common_steps)

pub returns-then-left-cpu-clause-place : goal.returns-then-left-cpu-clause-place
returns-then-left-cpu-clause-place c =
    let s = c.args.charges.now in
    let items = c.args.tasks.now in
    let p = c.in-Some-place.place in
    let x = c.at.result.now in
    let there = c.in-Some-place.ensures.there in
    let many : length (owed_all s items) ≡ length items = simp length-map in
    let within : p < length (owed_all s items) = omega (arith, there.within, many) in
    let named : x.number ≡ c.in-Some.number = ap (λ (t : Task). t.number) c.at.ensures ∙ there.is x in
    record {
      within = within;
      is_on_cpu = λ d. c.in-Some.is ∙ ap (λ n. Some n) (sym ((seen_alike s items p x d within c.at.ensures).number ∙ named));
      home = λ d. (seen_alike s items p x d within c.at.ensures).cpu ∙ c.if-left-cpu.true;
    }

pub place-requires : goal.place-requires
place-requires c = grind (arith, common_steps)

pub at-requires : goal.at-requires
at-requires c = grind (arith, common_steps)

pub at_mut-requires : goal.at_mut-requires
at_mut-requires c = grind (arith, common_steps)
