-- A task of the list that does not sit is stored as it is seen; the CPU of any is.
use Rattle.std.proofs.Common.{◌≡◌, ◌<◌, ℕ, Option, None, List, length, map, get_or, sym, ap, ◌∙◌, subst, arith}
use Rattle.std.proofs.lemmas.List.{get_or_default, length-map}
use Rattle.domain_run.specs.declared.task.Task.{Task}
use Rattle.due_times.specs.declared.charges.OpenCharge.{OpenCharge}
use Rattle.domain_run.specs.declared.run_queue.RunQueue.{RunQueue}
use Rattle.domain_run.specs.private.RunQueue.{IsCounted}
use Rattle.due_times.specs.OpenCharges.{charge_by}
use Rattle.domain_run.specs.private.Owed.{owed, owed_by, charge_of_task, charges_without}
use Rattle.domain_run.proofs.Counting.{home_at}
use Rattle.domain_run.proofs.Owed.{alike_owed, counted_unlike, read_owed, left_here}

pub inside_seen : (upto : ℕ) (charges : List (Option OpenCharge)) (items : List Task) (p : ℕ) → p < length (map (owed upto charges) items) → p < length items
inside_seen upto charges items p h = let many : length (map (owed upto charges) items) ≡ length items = simp length-map in omega (arith, h, many)

module _ (upto : ℕ) (charges : List (Option OpenCharge)) (items : List Task) (p : ℕ) (x : Task) (h : p < length items) (read : x ≡ get_or items p x) where
  pub seen_at : (d : Task) → owed upto charges x ≡ get_or (map (owed upto charges) items) p d
  seen_at d =
      let many : length (map (owed upto charges) items) ≡ length items = simp length-map in
      let inside : p < length (map (owed upto charges) items) = omega (arith, h, many) in
      read_owed upto charges items p x h read ∙ get_or_default (map (owed upto charges) items) p (owed upto charges x) d inside

  pub bare_at : ((d : Task) → charge_of_task charges (get_or (map (owed upto charges) items) p d) ≡ None) → (d : Task) → x ≡ get_or (map (owed upto charges) items) p d
  bare_at free d =
      let a = alike_owed upto charges x in
      let own : charge_of_task charges x ≡ charge_of_task charges (owed upto charges x) = λ i. charge_by (sym a.number i) (get_or charges (sym a.cpu i) None) in
      let none : charge_of_task charges x ≡ None = own ∙ ap (charge_of_task charges) (seen_at x) ∙ free x in
      sym (ap (λ o. owed_by upto o x) none) ∙ seen_at d

  -- where it belongs to a CPU without an open charge
  pub bare_on : (cpu : ℕ) → get_or charges cpu None ≡ None → ((d : Task) → (get_or (map (owed upto charges) items) p d).cpu ≡ cpu) → (d : Task) → x ≡ get_or (map (owed upto charges) items) p d
  bare_on cpu free home = bare_at (λ d.
      let t = get_or (map (owed upto charges) items) p d in
      ap (λ c. charge_by t.number (get_or charges c None)) (home d) ∙ ap (charge_by t.number) free)

  pub cpu_seen : (d : Task) → x.cpu ≡ (get_or (map (owed upto charges) items) p d).cpu
  cpu_seen d = sym (alike_owed upto charges x).cpu ∙ ap (λ (t : Task). t.cpu) (seen_at d)

  pub home_seen : (cpus : ℕ) (queue : RunQueue) → IsCounted cpus queue (map (owed upto charges) items) → x.cpu < cpus
  home_seen cpus queue counted = subst (λ (t : Task). t.cpu < cpus) (sym read) (home_at cpus queue items p x h (counted_unlike (owed upto charges) (alike_owed upto charges) cpus queue items counted))

-- who has closed its charge has no open charge
pub left_free : (t : Task) (charges : List (Option OpenCharge)) → charge_of_task (charges_without t charges) t ≡ None
left_free t charges = left_here t.cpu t.number charges
