use Rattle.std.proofs.Common.{◌≡◌, ◌≢◌, ◌<◌, ◌≤◌, ◌+◌, ◌^◌, ◌++◌, ℕ, Option, None, List, [], length, map, get_or, refl, sym, ap, subst, ◌∙◌, arith}
use Rattle.std.specs.Prelude.{All, AllPairs, IfSome}
use Rattle.std.specs.List.{flat_map}
use Rattle.std.specs.List.Sorted.{IsPermutation}
use Rattle.std.proofs.lemmas.List.{append-nil, length-append}
use Rattle.std.proofs.lemmas.List.Sorted.{IsPermutation-refl}
use Rattle.std.proofs.lemmas.Grind.{common_steps}
use Rattle.domain_run.specs.declared.task.Task.{Task}
use Rattle.due_times.specs.declared.charges.OpenCharge.{OpenCharge}
use Rattle.domain_run.specs.Sound.{IsSound}
use Rattle.domain_run.specs.private.TaskTable.{TaskTableView}
use Rattle.due_times.specs.OpenCharges.{OpenChargesView, IsAhead, end_of}
use Rattle.due_times.specs.Timers.{AreLater}
use Rattle.domain_run.specs.declared.happened.Happened.{Happened}
use Rattle.domain_run.specs.Happened.{in_order}
use Rattle.domain_run.specs.Log.{if_wanted}
use Rattle.domain_run.specs.private.Expiring.{logged_passed}
use Rattle.domain_run.specs.private.Extending.{HasExpired}
use Rattle.domain_run.specs.private.TransitionLog.{InOrderFrom}
use Rattle.domain_run.specs.private.Owed.{owed, owed_all, charge_of_task, AreOpen, time_passed}
use Rattle.domain_run.proofs.Owed.{alike_owed, counted_like, counted_unlike}
use Rattle.domain_run.specs.private.DeferringTimers.{with_lags, passed_bare, IsBare}
use Rattle.domain_run.proofs.Deferring.{pass_lags, pass_bare}
use Rattle.domain_run.proofs.Later.{length_expired, later_next, ends_next, strict_ends, pass_sound}
use Rattle.domain_run.proofs.Stale.{clock_settled}
use Rattle.domain_run.proofs.Logging.{logs_none, logs_silent, logs_order, logs_parts}
use Rattle.domain_run.proofs.LoggedPassing.{passing_apart, later_logs}
use Rattle.domain_run.proofs.task_table.TaskTable.pass_deferring.Goals as goal

pub loop-cpu-preserved : goal.loop-cpu-preserved
loop-cpu-preserved c =
    let l = c.loop-cpu in
    let new = c.expire_deferring_at.new.self in
    let k = c.args.ticks in
    let all = flat_map (logged_passed c.args.time k c.args.self.now.charges) c.args.self.now.tasks in
    let now = flat_map (logged_passed c.args.time k l.self.charges) l.self.tasks in
    let then = flat_map (logged_passed c.args.time k new.charges) new.tasks in
    let end : l.self.clock + c.args.ticks ≡ c.upto.result + c.args.ticks = omega (arith, l.invariant.end, l.invariant.clock) in
    let expired = subst (λ (n : ℕ). HasExpired n l.cpu l.self.charges new.charges) end c.expire_deferring_at.ensures.charges in
    let s = c.self-in-loop-cpu-2.inside in
    let next = c.next_ended-cpu-in-loop-cpu in
    let view : s.charges.charges ≡ new.charges = ap (λ (r : TaskTableView). r.charges) c.self-in-loop-cpu-2.view_is in
    let many : length new.charges ≡ length l.self.charges = length_expired (c.upto.result + c.args.ticks) l.cpu l.self.charges new.charges expired in
    let inside : l.cpu < length l.self.charges = omega (arith, c.loop-cpu-test.true, c.len.ensures.len, ap (λ (r : TaskTableView). length r.charges) c.self-in-loop-cpu.view_is) in
    let early : c.upto.result + c.args.ticks ≤ 2 ^ 62 = omega (arith, l.invariant.end, c.requires.clock) in
    let following = subst (λ (xs : List (Option OpenCharge)). AreLater (map end_of xs) (c.upto.result + c.args.ticks) (l.cpu + 1) next.result) view next.ensures.others in
    record {
      cpus = c.expire_deferring_at.ensures.cpus ∙ l.invariant.cpus;
      places = c.expire_deferring_at.ensures.places ∙ l.invariant.places;
      clock = c.expire_deferring_at.ensures.clock ∙ l.invariant.clock;
      end = l.invariant.end;
      within = let most = next.ensures.most in omega (arith, most, ap (λ (xs : List (Option OpenCharge)). length xs) view);
      long = many ∙ l.invariant.long;
      later = later_next l.self.charges new.charges (c.upto.result + c.args.ticks) l.cpu next.result early expired l.invariant.later following;
      ends = subst (λ (n : ℕ). (cpu : ℕ) → IfSome (get_or new.charges cpu None) (λ s. n ≤ s.end)) l.invariant.end (ends_next (c.upto.result + c.args.ticks) l.cpu l.self.charges new.charges expired (subst (λ (n : ℕ). (cpu : ℕ) → IfSome (get_or l.self.charges cpu None) (λ s. n ≤ s.end)) (sym l.invariant.end) l.invariant.ends));
      left = c.expire_deferring_at.ensures.tasks ∙ l.invariant.left;
      lags = λ past order. c.expire_deferring_at.ensures.lags past order ∙ l.invariant.lags past order;
      bare = c.expire_deferring_at.ensures.bare;
      sound = c.expire_deferring_at.ensures.sound;
      logged = logs_parts all now then c.args.log.now l.log c.expire_deferring_at.new.log l.invariant.logged c.expire_deferring_at.ensures.logged;
      spare = let from = next.ensures.from in omega (arith, from, l.invariant.spare, c.expire_deferring_at.ensures.room);
    }

-- no open charge ends up to then
strict : (c : goal.After-put_in_order) → (t : Task) → IfSome (charge_of_task c.self-2.inside.charges.charges t) (λ s. IsAhead c.self-2.inside.charges.upto s × (c.self-2.inside.charges.upto + c.args.ticks < s.end))
strict c =
    let l = c.loop-cpu in
    let s = c.self-2.inside in
    let k = c.args.ticks in
    let clock : s.charges.upto ≡ l.self.clock = ap (λ (r : TaskTableView). r.clock) c.self-2.view_is in
    let charges : s.charges.charges ≡ l.self.charges = ap (λ (r : TaskTableView). r.charges) c.self-2.view_is in
    let time : c.upto.result + k ≡ s.charges.upto + k = omega (arith, l.invariant.end, l.invariant.clock, clock) in
    let many : length c.self-in-loop-cpu.inside.charges.charges ≡ length l.self.charges = ap (λ (r : TaskTableView). length r.charges) c.self-in-loop-cpu.view_is in
    let all : AreLater (map end_of l.self.charges) (c.upto.result + k) 0 (length l.self.charges) = λ place from to within. l.invariant.later place from (omega (arith, to, c.loop-cpu-test.false, c.len.ensures.len, many)) within in
    let later = subst (λ (n : ℕ). AreLater (map end_of s.charges.charges) n 0 (length s.charges.charges)) time (subst (λ (xs : List (Option OpenCharge)). AreLater (map end_of xs) (c.upto.result + k) 0 (length xs)) (sym charges) all) in
    strict_ends s.charges.upto (s.charges.upto + k) s.charges.charges c.pass.ensures.ahead later

pub returns-clause-tasks : goal.returns-clause-tasks
returns-clause-tasks c =
    let l = c.loop-cpu in
    let s = c.self-2.inside in
    let k = c.args.ticks in
    ap (λ (v : OpenChargesView). owed_all v s.tasks) c.pass.ensures.passed
    ∙ pass_bare s.charges.upto c.args.time k s.charges.charges s.tasks (strict c) c.self-2.invariant.waits (subst (λ (r : TaskTableView). All IsBare r.tasks) (sym c.self-2.view_is) l.invariant.bare)
    ∙ ap (λ (r : TaskTableView). map (passed_bare c.args.time k r.charges) r.tasks) c.self-2.view_is
    ∙ l.invariant.left

pub returns-clause-lags : goal.returns-clause-lags
returns-clause-lags c past order =
    let l = c.loop-cpu in
    let s = c.self-2.inside in
    let k = c.args.ticks in
    ap (λ (v : OpenChargesView). with_lags past l.lags (owed_all v s.tasks)) c.pass.ensures.passed
    ∙ pass_lags s.charges.upto c.args.time k s.charges.charges s.tasks (strict c) c.self-2.invariant.waits past l.lags
    ∙ ap (λ (r : TaskTableView). map (time_passed c.args.time k r.charges) (with_lags past l.lags r.tasks)) c.self-2.view_is
    ∙ l.invariant.lags past order

-- no more is to be logged
none_left : (c : goal.After-put_in_order) → flat_map (logged_passed c.args.time c.args.ticks c.loop-cpu.self.charges) c.loop-cpu.self.tasks ≡ []
none_left c =
    let s = c.self-2.inside in
    ap (λ (r : TaskTableView). flat_map (logged_passed c.args.time c.args.ticks r.charges) r.tasks) (sym c.self-2.view_is)
    ∙ later_logs s.charges.upto c.args.time c.args.ticks s.charges.charges s.tasks (strict c) c.self-2.invariant.waits

pub put_in_order-requires : goal.put_in_order-requires
put_in_order-requires c =
    let logged = c.loop-cpu.invariant.logged in
    let log = c.args.log.now in
    let len : List Happened → ℕ = λ hs. length hs in
    omega (arith, c.len-from.ensures, ap len logged.is.happened, length-append log.happened (if_wanted log logged.tail))

pub returns-clause-logged : goal.returns-clause-logged
returns-clause-logged c =
    let old = c.args.self.now in
    let log = c.args.log.now in
    let logged = c.loop-cpu.invariant.logged in
    let all = flat_map (logged_passed c.args.time c.args.ticks old.charges) old.tasks in
    let none = none_left c in
    let mixed : IsPermutation all logged.tail = subst (IsPermutation all) (ap (λ hs. logged.tail ++ hs) none ∙ append-nil logged.tail) logged.mixed in
    let numbered = subst (λ (r : TaskTableView). AllPairs (λ a b. a.number ≢ b.number) r.tasks) c.self.view_is c.self.invariant.counted.task_table.numbered in
    logs_order all logged.tail log c.loop-cpu.log c.put_in_order.new.self mixed (passing_apart c.args.time c.args.ticks old.charges old.tasks numbered) logged.is c.put_in_order.ensures.wanted c.put_in_order.ensures.room
    (subst (λ n. InOrderFrom n c.loop-cpu.log.happened c.put_in_order.new.self.happened) c.len-from.ensures c.put_in_order.ensures.order)

pub expire_deferring_at-requires-clause-room : goal.expire_deferring_at-requires-clause-room
expire_deferring_at-requires-clause-room c wanted =
    let l = c.loop-cpu in
    omega (arith, c.requires.room (sym l.invariant.logged.is.wanted ∙ wanted), l.invariant.spare, c.loop-cpu-test.true, c.len.ensures.few)

pub invariant_of-self : goal.invariant_of-self
invariant_of-self c =
    let s = c.self-2.inside in
    let v = c.pass.new.self in
    let counted = counted_unlike (owed s.charges.upto s.charges.charges) (alike_owed s.charges.upto s.charges.charges) (length s.queue.accounts.all) s.queue s.tasks c.self-2.invariant.counted in
    record {
      counted = counted_like (owed v.upto v.charges) (alike_owed v.upto v.charges) (length s.queue.accounts.all) s.queue s.tasks counted;
      waits = subst (λ (x : OpenChargesView). AreOpen x.charges s.tasks) (sym c.pass.ensures.passed) c.self-2.invariant.waits;
      wide = ap (λ (x : OpenChargesView). length x.charges) c.pass.ensures.passed ∙ c.self-2.invariant.wide;
      settled = clock_settled s.stale (length s.queue.accounts.all) s.queue.schedule.places s.charges v s.tasks (ap (λ (x : OpenChargesView). x.charges) c.pass.ensures.passed) c.self-2.invariant.settled;
    }

pub returns-clause-sound : goal.returns-clause-sound
returns-clause-sound c =
    let s = c.self-2.inside in
    let sound = subst (λ (r : TaskTableView). All (IsSound c.args.time) r.tasks) (sym c.self-2.view_is) c.loop-cpu.invariant.sound in
    subst (λ (v : OpenChargesView). All (IsSound c.args.time) (owed_all v s.tasks)) (sym c.pass.ensures.passed) (pass_sound s.charges.upto c.args.time c.args.ticks s.charges.charges s.tasks (strict c) c.self-2.invariant.waits sound)

pub loop-cpu-init : goal.loop-cpu-init
loop-cpu-init c =
    let old = c.args.self.now in
    let s = c.self.inside.charges in
    let charges : s.charges ≡ old.charges = ap (λ (r : TaskTableView). r.charges) c.self.view_is in
    let clock : s.upto ≡ old.clock = ap (λ (r : TaskTableView). r.clock) c.self.view_is in
    let next = c.next_ended-cpu in
    let all = flat_map (logged_passed c.args.time c.args.ticks old.charges) old.tasks in
    record {
      cpus = refl;
      places = refl;
      clock = refl;
      end = omega (arith, c.upto.ensures.upto, clock);
      within = omega (arith, next.ensures.most, ap (λ (xs : List (Option OpenCharge)). length xs) charges);
      long = refl;
      later = subst (λ (xs : List (Option OpenCharge)). AreLater (map end_of xs) (c.upto.result + c.args.ticks) 0 next.result) charges next.ensures.others;
      ends = c.requires.ends;
      left = refl;
      lags = λ past order. refl;
      bare = c.requires.bare;
      sound = c.requires.sound;
      logged = record { tail = []; is = logs_none c.args.log.now; mixed = IsPermutation-refl all };
      spare = omega arith;
    }

pub expire_deferring_at-requires-clause-there : goal.expire_deferring_at-requires-clause-there
expire_deferring_at-requires-clause-there c = grind (arith, common_steps)

pub expire_deferring_at-requires-clause-some : goal.expire_deferring_at-requires-clause-some
expire_deferring_at-requires-clause-some c = grind (arith, common_steps)

pub expire_deferring_at-requires-clause-early : goal.expire_deferring_at-requires-clause-early
expire_deferring_at-requires-clause-early c = grind (arith, common_steps)

pub expire_deferring_at-requires-clause-ends : goal.expire_deferring_at-requires-clause-ends
expire_deferring_at-requires-clause-ends c = grind (arith, common_steps)

pub expire_deferring_at-requires-clause-sound : goal.expire_deferring_at-requires-clause-sound
expire_deferring_at-requires-clause-sound c = grind (arith, common_steps)

pub expire_deferring_at-requires-clause-bare : goal.expire_deferring_at-requires-clause-bare
expire_deferring_at-requires-clause-bare c = grind (arith, common_steps)

pub pass-requires-clause-early : goal.pass-requires-clause-early
pass-requires-clause-early c = grind (arith, common_steps)

pub pass-requires-clause-ahead : goal.pass-requires-clause-ahead
pass-requires-clause-ahead c = grind (arith, common_steps)

pub returns-clause-cpus : goal.returns-clause-cpus
returns-clause-cpus c = grind (arith, common_steps)

pub returns-clause-places : goal.returns-clause-places
returns-clause-places c = grind (arith, common_steps)

pub returns-then-not-is_wanted-clause-logged : goal.returns-then-not-is_wanted-clause-logged
returns-then-not-is_wanted-clause-logged c =
    let old = c.args.self.now in
    logs_silent (in_order (flat_map (logged_passed c.args.time c.args.ticks old.charges) old.tasks)) c.args.log.now (sym c.is_wanted.ensures ∙ c.if-not-is_wanted.true)
