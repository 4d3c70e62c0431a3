use Rattle.std.proofs.Common.{rules, ℕ, ◌≡◌, ◌<◌, ◌+◌, List, [], ◌++◌, map, take, length, get_or, refl, sym, ap, subst, ◌∙◌, arith}
use Rattle.std.specs.Prelude.{ℤ, pos, slice_index_or}
use Rattle.std.proofs.Math.Facts.{to_z-of_z}
use mir.Syntax.{w128}
use mir.Val.{SFits, of_z, to_z}
use Rattle.std.proofs.lemmas.List.{length-append, length-map, take_all}
use Rattle.domain_run.specs.declared.task.Task.{Task}
use Rattle.domain_run.specs.Calls.{of_number}
use Rattle.domain_run.specs.private.Paying.{ran_until, paid, MayPay}
use Rattle.domain_run.specs.private.TaskTable.{MayRun}
use Rattle.domain_run.proofs.KeptRunning.{map_itself}
use Rattle.domain_run.proofs.Paying.{same_paid}
use Rattle.domain_run.proofs.Finding.{read_before}
use Rattle.domain_run.proofs.Homing.{paid_next, may_next, map_steps}
use Rattle.std.specs.List.{flat_map}
use Rattle.std.specs.List.Sorted.{IsPermutation}
use Rattle.std.proofs.lemmas.List.Sorted.{IsPermutation-refl, IsPermutation-trans, IsPermutation-append_left}
use Rattle.domain_run.specs.declared.transition.Transition.TheVariants.{Run}
use Rattle.domain_run.specs.declared.happened.Happened.{Happened}
use Rattle.domain_run.specs.Log.{HasLogged, if_wanted}
use Rattle.domain_run.specs.private.TransitionLog.{logged_by_transition, logged_of_number, logged_paid, InOrderFrom}
use Rattle.domain_run.proofs.LoggedPay.{logged_paid_none, logged_paid_next}
use Rattle.domain_run.proofs.LoggedRising.{paying_apart}
use Rattle.domain_run.proofs.Logging.{logs_none, logs_more, logs_order, LogsMixed}
use Rattle.std.proofs.lemmas.Grind.{common_steps}
use Rattle.domain_run.proofs.sweep.pay_all.Goals as goal

pub loop-i-init : goal.loop-i-init
loop-i-init c =
    let log = c.args.log.now in
    record {
      cpus = refl;
      places = refl;
      written = sym (map_itself (paid c.args.time [] c.args.ticks c.args.budgets.now) c.args.task_table.now.tasks (λ k d h. refl));
      sound = c.requires.sound;
      logged = record {
        tail = [];
        is = logs_none log;
        mixed = subst (λ hs. IsPermutation hs []) (sym (logged_paid_none c.args.time c.args.ticks c.args.budgets.now c.args.task_table.now.tasks)) (IsPermutation-refl []);
      };
      spare = omega arith;
    }

pub apply_number-requires-clause-room : goal.apply_number-requires-clause-room
apply_number-requires-clause-room c wanted =
    let l = c.loop-i in
    omega (arith, c.requires.room (sym l.invariant.logged.is.wanted ∙ wanted), l.invariant.spare, c.loop-i-test.true)

pub apply_number-requires-clause-may : goal.apply_number-requires-clause-may
apply_number-requires-clause-may c k d h same =
    let l = c.loop-i in
    let first = c.args.task_table.now.tasks in
    let ns = c.args.running.now in
    let left = get_or c.args.budgets.now l.i (pos 0) in
    let f = paid c.args.time (take l.i ns) c.args.ticks c.args.budgets.now in
    let len : length (map f first) ≡ length first = simp length-map in
    let inside : k < length first = omega (arith, h, len, ap (λ (ts : List Task). length ts) l.invariant.written) in
    let t = get_or first k d in
    let read : get_or l.task_table.tasks k d ≡ f t = read_before f first l.task_table.tasks k d inside l.invariant.written in
    let pays : MayPay c.args.ticks c.args.budgets.now (get_or l.task_table.tasks k d) l.i = subst (λ (u : Task). u.number ≡ get_or ns l.i 0 → MayPay c.args.ticks c.args.budgets.now u l.i) (sym read)
    (may_next c.args.time ns l.i c.args.ticks c.args.budgets.now t c.requires.apart c.loop-i-test.true (same_paid c.args.time (take l.i ns) c.args.ticks c.args.budgets.now t).number (c.requires.may k d inside)) same in
    let fits : SFits w128 left = search rules in
    let value : to_z w128 (of_z w128 left) ≡ left = to_z-of_z {w = w128} {z = left} fits in
    subst (λ (z : ℤ). MayRun c.args.time c.args.ticks z (get_or l.task_table.tasks k d)) (sym value) (record { early = c.requires.early; ready = pays.ready; worked = pays.worked; low = pays.low; high = pays.high })

pub loop-i-preserved : goal.loop-i-preserved
loop-i-preserved c =
    let l = c.loop-i in
    let first = c.args.task_table.now.tasks in
    let ns = c.args.running.now in
    let left = get_or c.args.budgets.now l.i (pos 0) in
    let f = paid c.args.time (take l.i ns) c.args.ticks c.args.budgets.now in
    let g = paid c.args.time (take (l.i + 1) ns) c.args.ticks c.args.budgets.now in
    let one = of_number (get_or ns l.i 0) (ran_until c.args.time c.args.ticks (slice_index_or c.args.budgets.now l.i (pos 0))) in
    let fits : SFits w128 left = search rules in
    let value : to_z w128 (of_z w128 left) ≡ left = to_z-of_z {w = w128} {z = left} fits in
    let value_of : ℤ = slice_index_or c.args.budgets.now l.i (pos 0) in
    let G : ℤ → List Happened = λ z. flat_map (logged_of_number (get_or ns l.i 0) (logged_by_transition c.args.time (Run c.args.ticks z))) l.task_table.tasks in
    let H : List Happened = flat_map (logged_paid c.args.time (take l.i ns) c.args.ticks c.args.budgets.now) first in
    let more : List Happened = flat_map (logged_paid c.args.time (take (l.i + 1) ns) c.args.ticks c.args.budgets.now) first in
    let tail : List Happened = l.invariant.logged.tail in
    record {
      written = c.apply_number.ensures.tasks ∙ ap (λ (z : ℤ). map (of_number (get_or ns l.i 0) (ran_until c.args.time c.args.ticks z)) l.task_table.tasks) value ∙ map_steps one f g first l.task_table.tasks l.invariant.written
          (λ k d h. paid_next c.args.time ns l.i c.args.ticks c.args.budgets.now (get_or first k d) c.requires.apart c.loop-i-test.true (same_paid c.args.time (take l.i ns) c.args.ticks c.args.budgets.now (get_or first k d)).number);
      sound = c.apply_number.ensures.sound;
      cpus = c.apply_number.ensures.cpus ∙ l.invariant.cpus;
      places = c.apply_number.ensures.places ∙ l.invariant.places;
      logged = record {
        tail = tail ++ G value_of;
        is = logs_more tail (G value_of) c.args.log.now l.log c.apply_number.new.log l.invariant.logged.is (subst (λ (z : ℤ). HasLogged l.log (G z) c.apply_number.new.log) value c.apply_number.ensures.logged);
        mixed = IsPermutation-trans more (H ++ G value_of) (tail ++ G value_of)
            (logged_paid_next c.args.time ns l.i c.args.ticks c.args.budgets.now first l.task_table.tasks c.requires.apart c.loop-i-test.true l.invariant.written)
            (IsPermutation-append_left (G value_of) H tail l.invariant.logged.mixed);
      };
      spare = omega (arith, l.invariant.spare, c.apply_number.ensures.room);
    }

pub returns-clause-logged : goal.returns-clause-logged
returns-clause-logged c =
    let first = c.args.task_table.now.tasks in
    let log = c.args.log.now in
    let ns = c.args.running.now in
    let hs = flat_map (logged_paid c.args.time ns c.args.ticks c.args.budgets.now) first in
    let all : take c.loop-i.i ns ≡ ns = take_all c.loop-i.i ns (omega arith) in
    let logged = subst (λ (ms : List ℕ). LogsMixed (flat_map (logged_paid c.args.time ms c.args.ticks c.args.budgets.now) first) log c.loop-i.log) all c.loop-i.invariant.logged in
    logs_order hs logged.tail log c.loop-i.log c.put_in_order.new.self logged.mixed (paying_apart c.args.time ns c.args.ticks c.args.budgets.now first c.requires.numbered) logged.is c.put_in_order.ensures.wanted c.put_in_order.ensures.room
    (subst (λ n. InOrderFrom n c.loop-i.log.happened c.put_in_order.new.self.happened) c.len-from.ensures c.put_in_order.ensures.order)

pub put_in_order-requires : goal.put_in_order-requires
put_in_order-requires c =
    let log = c.args.log.now in
    let logged = c.loop-i.invariant.logged in
    let len : List Happened → ℕ = λ hs. length hs in
    omega (arith, c.len-from.ensures, ap len logged.is.happened, length-append log.happened (if_wanted log logged.tail))

pub bounds-budgets-i : goal.bounds-budgets-i
bounds-budgets-i c = grind (arith, common_steps)

pub bounds-running-i : goal.bounds-running-i
bounds-running-i c = grind (arith, common_steps)

pub apply_number-requires-clause-early : goal.apply_number-requires-clause-early
apply_number-requires-clause-early c = grind (arith, common_steps)

pub apply_number-requires-clause-narrow : goal.apply_number-requires-clause-narrow
apply_number-requires-clause-narrow c = grind (arith, common_steps)

pub apply_number-requires-clause-fits : goal.apply_number-requires-clause-fits
apply_number-requires-clause-fits c = grind (arith, common_steps)

pub apply_number-requires-clause-sound : goal.apply_number-requires-clause-sound
apply_number-requires-clause-sound c = grind (arith, common_steps)

pub returns-clause-cpus : goal.returns-clause-cpus
returns-clause-cpus c = grind (arith, common_steps)

pub returns-clause-places : goal.returns-clause-places
returns-clause-places c = grind (arith, common_steps)

pub returns-clause-tasks : goal.returns-clause-tasks
returns-clause-tasks c = grind (arith, common_steps)

pub returns-clause-sound : goal.returns-clause-sound
returns-clause-sound c = grind (arith, common_steps)
