-- Who gives way by a switch, logged of all tasks.
use Rattle.std.proofs.Common.{◌≡◌, ◌≢◌, ℕ, ◌+◌, true, false, cond, ◌&&◌, not, ⊎_elim, List, get_or, map, Option, Some, None, sym, ap, ◌∙◌}
use Rattle.std.specs.Prelude.{AllPairs, is_some, is_none}
use Rattle.std.proofs.Math.ListN.{set}
use Rattle.std.proofs.lemmas.List.{map-id, set-get_or}
use Rattle.std.proofs.lemmas.Bool.{cases_eq, ne_eqb, eq-eqb}
use Rattle.domain_run.specs.Switch.{Switch}
use Rattle.run_figures.specs.declared.logged.TaskTally.{TaskTally}
use Rattle.edf_pick.specs.Places.{is_task}
use Rattle.run_figures.specs.Places.{IsAt, IsAbsent, if_number}
use Rattle.run_figures.specs.private.Logging.{leaver_wanting, with_preemption}
use Rattle.run_figures.proofs.Turning.{turned_place, turned_none}
use Rattle.run_figures.proofs.Passing.{map_same}

-- one that has budget is preempted once more
abbrev counted : TaskTally → TaskTally
counted t = cond (is_none t.throttle.since) (record t { preempted = t.preempted + 1 }) t

-- of a task
abbrev by_leaver : Option ℕ → TaskTally → TaskTally
by_leaver o t = cond (is_task t.number o && is_none t.throttle.since) (record t { preempted = t.preempted + 1 }) t

pub nobody_gives_way : (s : Switch) (ts : List TaskTally) → leaver_wanting s ≡ None → ts ≡ map (with_preemption s) ts
nobody_gives_way s ts none = sym (map-id ts) ∙ ap (λ (o : Option ℕ). map (by_leaver o) ts) (sym none)

by_number : (n : ℕ) (t : TaskTally) → if_number (λ (x : TaskTally). x.number) n counted t ≡ by_leaver (Some n) t
by_number n t = ⊎_elim
    (λ (e : t.number ≡ n). ap (λ b. cond b (counted t) t) (eq-eqb t.number n e) ∙ ap (λ b. cond (b && is_none t.throttle.since) (record t { preempted = t.preempted + 1 }) t) (sym (eq-eqb n t.number (sym e))))
    (λ (ne : t.number ≢ n). ap (λ b. cond b (counted t) t) (ne_eqb t.number n ne) ∙ ap (λ b. cond (b && is_none t.throttle.since) (record t { preempted = t.preempted + 1 }) t) (sym (ne_eqb n t.number (λ (e : n ≡ t.number). ne (sym e)))))
    (cases_eq t.number n)

all_by_number : (s : Switch) (n : ℕ) (ts : List TaskTally) → leaver_wanting s ≡ Some n → map (if_number (λ (x : TaskTally). x.number) n counted) ts ≡ map (with_preemption s) ts
all_by_number s n ts some = map_same (if_number (λ (x : TaskTally). x.number) n counted) (by_leaver (Some n)) ts (by_number n) ∙ ap (λ (o : Option ℕ). map (by_leaver o) ts) (sym some)

at_place : (s : Switch) (ts : List TaskTally) (numbers : List ℕ) (n p : ℕ) (t : TaskTally) → leaver_wanting s ≡ Some n → map (λ t. t.number) ts ≡ numbers → AllPairs (λ a b. a ≢ b) numbers → IsAt numbers n p → t ≡ get_or ts p t → set ts p (counted t) ≡ map (with_preemption s) ts
at_place s ts numbers n p t some keyed apart at is =
    turned_place (λ (x : TaskTally). x.number) n counted ts numbers p t keyed apart at is ∙ all_by_number s n ts some

pub gives_way : (s : Switch) (ts : List TaskTally) (numbers : List ℕ) (n p : ℕ) (t : TaskTally) → leaver_wanting s ≡ Some n → map (λ t. t.number) ts ≡ numbers → AllPairs (λ a b. a ≢ b) numbers → IsAt numbers n p → t ≡ get_or ts p t → is_some t.throttle.since ≡ false → set ts p (record t { preempted = t.preempted + 1 }) ≡ map (with_preemption s) ts
gives_way s ts numbers n p t some keyed apart at is free =
    ap (λ b. set ts p (cond (not b) (record t { preempted = t.preempted + 1 }) t)) (sym free) ∙ at_place s ts numbers n p t some keyed apart at is

pub is_throttled : (s : Switch) (ts : List TaskTally) (numbers : List ℕ) (n p : ℕ) (t : TaskTally) → leaver_wanting s ≡ Some n → map (λ t. t.number) ts ≡ numbers → AllPairs (λ a b. a ≢ b) numbers → IsAt numbers n p → t ≡ get_or ts p t → is_some t.throttle.since ≡ true → ts ≡ map (with_preemption s) ts
is_throttled s ts numbers n p t some keyed apart at is throttled =
    sym (set-get_or ts p t) ∙ ap (set ts p) (sym is)
    ∙ ap (λ b. set ts p (cond (not b) (record t { preempted = t.preempted + 1 }) t)) (sym throttled) ∙ at_place s ts numbers n p t some keyed apart at is

pub not_logged : (s : Switch) (ts : List TaskTally) (numbers : List ℕ) (n : ℕ) → leaver_wanting s ≡ Some n → map (λ t. t.number) ts ≡ numbers → IsAbsent numbers n → ts ≡ map (with_preemption s) ts
not_logged s ts numbers n some keyed absent =
    turned_none (λ (x : TaskTally). x.number) n counted ts numbers keyed absent ∙ all_by_number s n ts some
