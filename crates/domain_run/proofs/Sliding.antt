-- A running task whose work and budget last.
use Rattle.std.proofs.Common.{◌≡◌, ℕ, ◌-◌, ◌^◌, ◌<◌, true, false, cond, eqb, sym, ap, ◌∙◌, arith}
use Rattle.std.specs.Prelude.{ℤ, pos, ◌<ℤ◌, ◌≤ℤ◌, int_le, IsTrue}
use Rattle.std.proofs.lemmas.Int.{ints}
use Rattle.std.proofs.lemmas.Bool.{ne_eqb}
use Rattle.domain_run.specs.declared.task.Task.{Task}
use Rattle.domain_run.specs.declared.task.Condition.TheVariants.{Ready, Throttled}
use Rattle.domain_run.specs.Conditions.{is_ready, is_throttled}
use Rattle.domain_run.specs.Parts.{running_on, goes_on}
use Rattle.task_script.specs.script.Segments.{next_segment}
use Rattle.domain_run.specs.Sound.{IsSound}
use Rattle.domain_run.specs.private.Paying.{ran_until}
use Rattle.domain_run.proofs.Paying.{is_Ready}

above : (z : ℤ) → pos 0 <ℤ z → int_le z (pos 0) ≡ false
above z h = grind (arith, ints)

pub slides : (time ticks : ℕ) (left : ℤ) (t : Task) → IsTrue (is_ready t.condition) → ticks < t.work → pos 0 <ℤ left → record t { server = record t.server { left = left }; work = t.work - ticks } ≡ ran_until time ticks left t
slides time ticks left t ready worked lasted =
    let u : Task = record t { server = record t.server { left = left }; work = t.work - ticks } in
    let more : eqb (t.work - ticks) 0 ≡ false = ne_eqb (t.work - ticks) 0 (λ e. absurd (omega (arith, e, worked))) in
    sym (ap (λ s. cond s (goes_on time u (next_segment t.cursor time)) (running_on u)) more
    ∙ ap (λ s. record u { condition = cond s Throttled Ready }) (above left lasted)
    ∙ ap (λ k. record u { condition = k }) (sym (is_Ready t.condition ready)))

pub slid_sound : (time ticks : ℕ) (left : ℤ) (t : Task) → IsTrue (is_ready t.condition) → ticks < t.work → pos 0 <ℤ left → left ≤ℤ pos (2 ^ 52) → IsSound time t → IsSound time (record t { server = record t.server { left = left }; work = t.work - ticks })
slid_sound time ticks left t ready worked lasted high is = record {
  served = record { near = is.served.near; low = omega (arith, ints, lasted); high = high };
  spent = λ throttled. let no : false ≡ true = sym (ap is_throttled (is_Ready t.condition ready)) ∙ throttled in absurd cc;
  lifted = λ h. lasted;
  dated = is.dated;
  busy = λ h. omega (arith, worked);
  timed = is.timed;
}
