-- Ticks do not look at the order of the listed tasks.
use Rattle.std.proofs.Common.{◌≡◌, ◌≢◌, ℕ, zero, suc, ◌+◌, ◌-◌, true, false, cond, eqb, ◌&&◌, Option, Some, None, List, [], ◌∷◌, ◌++◌, map, refl, sym, ap, ◌∙◌, subst}
use Rattle.std.specs.Prelude.{filter}
use Rattle.std.proofs.lemmas.List.Kept.{AllPairs-filter}
use mathlib.Core.Path.{fun_ext}
use Rattle.grub_rules.specs.declared.share.Share.{Share}
use Rattle.grub_rules.specs.Sums.{this_bw, running_bw, uinact}
use Rattle.grub_rules.specs.Rate as reclaiming
use Rattle.edf_pick.specs.declared.candidate.Candidate.{Candidate}
use Rattle.edf_pick.specs.Places.{Places, placed, is_on_cpu}
use Rattle.edf_pick.specs.Order.{with_candidate, by_deadline}
use Rattle.edf_pick.proofs.CallerLemmas.{IsNumbered, numbered_map, ordered_insert, placed_ordered}
use Rattle.domain_run.specs.declared.task.Task.{Task}
use Rattle.domain_run.specs.Switch.{Switch}
use Rattle.domain_run.specs.Conditions.{is_ready}
use Rattle.domain_run.specs.Parts.{replenish_due, settled, is_listed, unblocked, with_last_cpu, ran}
use Rattle.edf_pick.specs.Moves.{same_occupant}
use Rattle.domain_run.specs.Switches.{left_by, prev_state_of, switches_from}
use Rattle.domain_run.specs.Domain.{Domain}
use Rattle.domain_run.specs.Tick.{share_of, shares, sum_of, candidate_of, candidates, prepared, with_tick_begun, rate_of, ran_if, finished, ticks}
use Rattle.domain_run.proofs.Keeping.{same_replenished, same_settled, same_unblocked, AllPairs-map}
use Rattle.domain_run.proofs.KeptKeys.{AreNumbered, ticks_numbered}
use Rattle.domain_run.proofs.OrderLists.{Reordered, ends, next, swaps, chain, mapped, filtered, same_sum, apart_rest, apart_reordered, same_found}

-- ---- the choice

pub same_ordered : (xs ys : List Candidate) → Reordered xs ys → IsNumbered xs → by_deadline xs ≡ by_deadline ys
same_ordered xs ys ends apart = refl
same_ordered xs ys (next x us vs r) apart = ap (with_candidate x) (same_ordered us vs r (apart_rest (λ (c : Candidate). c.number) x us apart))
same_ordered xs ys (swaps x y us) apart =
    sym (ordered_insert x (y ∷ []) us (apart_reordered (λ (c : Candidate). c.number) (x ∷ y ∷ us) (y ∷ x ∷ us) (swaps x y us) apart))
same_ordered xs ys (chain us vs ws r s) apart =
    same_ordered us vs r apart ∙ same_ordered vs ws s (apart_reordered (λ (c : Candidate). c.number) us vs r apart)

pub same_placed : (cpus : ℕ) (xs ys : List Candidate) (before : Places) → Reordered xs ys → IsNumbered xs → placed cpus xs before ≡ placed cpus ys before
same_placed cpus xs ys before r apart =
    sym (placed_ordered cpus xs before apart)
    ∙ ap (λ (cs : List Candidate). placed cpus cs before) (same_ordered xs ys r apart)
    ∙ placed_ordered cpus ys before (apart_reordered (λ (c : Candidate). c.number) xs ys r apart)

pub candidates_apart : (tasks : List Task) → AreNumbered tasks → IsNumbered (candidates tasks)
candidates_apart tasks apart =
    let ready = filter (λ (t : Task). is_ready t.condition) tasks in
    numbered_map candidate_of (λ (t : Task). t.number) (λ t. refl) ready (AllPairs-filter (λ (a b : Task). a.number ≢ b.number) (λ (t : Task). is_ready t.condition) tasks apart)

pub candidates_reordered : (ts us : List Task) → Reordered ts us → Reordered (candidates ts) (candidates us)
candidates_reordered ts us r =
    mapped candidate_of (filter (λ (t : Task). is_ready t.condition) ts) (filter (λ (t : Task). is_ready t.condition) us) (filtered (λ (t : Task). is_ready t.condition) ts us r)

-- ---- the parts of a tick

pub prepared_reordered : (time : ℕ) (ts us : List Task) → Reordered ts us → Reordered (prepared time ts) (prepared time us)
prepared_reordered time ts us r =
    let due = mapped (replenish_due time) ts us r in
    let done = mapped (settled time) (map (replenish_due time) ts) (map (replenish_due time) us) due in
    let left = filtered is_listed (map (settled time) (map (replenish_due time) ts)) (map (settled time) (map (replenish_due time) us)) done in
    mapped (unblocked time) (filter is_listed (map (settled time) (map (replenish_due time) ts))) (filter is_listed (map (settled time) (map (replenish_due time) us))) left

apart_map : (f : Task → Task) → ((t : Task) → (f t).number ≡ t.number) → (tasks : List Task) → AreNumbered tasks → AreNumbered (map f tasks)
apart_map f keeps tasks apart = AllPairs-map (λ a b. a.number ≢ b.number) f (λ a b h e. h (sym (keeps a) ∙ e ∙ keeps b)) tasks apart

pub prepared_apart : (time : ℕ) (tasks : List Task) → AreNumbered tasks → AreNumbered (prepared time tasks)
prepared_apart time tasks apart =
    let due = map (replenish_due time) tasks in
    let done = map (settled time) due in
    apart_map (unblocked time) (λ t. (same_unblocked time t).number) (filter is_listed done)
    (AllPairs-filter (λ (a b : Task). a.number ≢ b.number) is_listed done
    (apart_map (settled time) (λ t. (same_settled time t).number) due (apart_map (replenish_due time) (λ t. (same_replenished time t).number) tasks apart)))

same_state : (ts us : List Task) → Reordered ts us → AreNumbered ts → (o : Option ℕ) → prev_state_of ts o ≡ prev_state_of us o
same_state ts us r apart None = refl
same_state ts us r apart (Some n) = ap left_by (same_found (λ (t : Task). t.number) n ts us r apart)

pub same_switches : (time : ℕ) (ts us : List Task) (cpu : ℕ) (before after : Places) → Reordered ts us → AreNumbered ts → switches_from time ts cpu before after ≡ switches_from time us cpu before after
same_switches time ts us cpu [] after r apart = refl
same_switches time ts us cpu (p ∷ before) [] r apart = refl
same_switches time ts us cpu (p ∷ before) (n ∷ after) r apart =
    let rest = same_switches time ts us (cpu + 1) before after r apart in
    elim (same_occupant p n) as (λ b. cond b (switches_from time ts (cpu + 1) before after) (record { time = time; prev = p; next = n; cpu = cpu; state = prev_state_of ts p } ∷ switches_from time ts (cpu + 1) before after)
    ≡ cond b (switches_from time us (cpu + 1) before after) (record { time = time; prev = p; next = n; cpu = cpu; state = prev_state_of us p } ∷ switches_from time us (cpu + 1) before after)) [
      | true ↦ rest
      | false ↦ λ i. record { time = time; prev = p; next = n; cpu = cpu; state = same_state ts us r apart p i } ∷ rest i
    ]

pub shares_reordered : (ts us : List Task) → Reordered ts us → Reordered (shares ts) (shares us)
shares_reordered ts us r = mapped share_of ts us r

pub same_sum_of : (ts us : List Task) → Reordered ts us → sum_of ts ≡ sum_of us
same_sum_of ts us r = same_sum (λ (s : Share). s.bw) (shares ts) (shares us) (shares_reordered ts us r)

same_uinact : (cpu : ℕ) (xs ys : List Share) → Reordered xs ys → uinact cpu xs ≡ uinact cpu ys
same_uinact cpu xs ys r =
    let all = same_sum (λ (s : Share). s.bw) (filter (λ (s : Share). eqb s.cpu cpu) xs) (filter (λ (s : Share). eqb s.cpu cpu) ys) (filtered (λ (s : Share). eqb s.cpu cpu) xs ys r) in
    let active = same_sum (λ (s : Share). s.bw) (filter (λ (s : Share). eqb s.cpu cpu && s.active) xs) (filter (λ (s : Share). eqb s.cpu cpu && s.active) ys) (filtered (λ (s : Share). eqb s.cpu cpu && s.active) xs ys r) in
    ap (λ (n : ℕ). n - running_bw cpu xs) all ∙ ap (λ (n : ℕ). this_bw cpu ys - n) active

-- ---- alike

-- the same domain, but for the order of the tasks and of the numbers ever admitted
pub record Alike (d e : Domain) : Type 0 where
  pub same : e ≡ record d { tasks = e.tasks; used = e.used }
  pub tasks : Reordered d.tasks e.tasks
  pub used : Reordered d.used e.used

-- a domain with other lists
abbrev pub relisted : Domain → List Task → List ℕ → Domain
relisted d ts us = record d { tasks = ts; used = us }

same_rate : (d : Domain) (ts : List Task) (us : List ℕ) → Reordered d.tasks ts → (t : Task) → rate_of d t ≡ rate_of (relisted d ts us) t
same_rate d ts us r t =
    ap (λ (n : ℕ). reclaiming.rate t.params n (sum_of d.tasks) d.cpus d.limit) (same_uinact t.cpu (shares d.tasks) (shares ts) (shares_reordered d.tasks ts r))
    ∙ ap (λ (n : ℕ). reclaiming.rate t.params (uinact t.cpu (shares ts)) n d.cpus d.limit) (same_sum_of d.tasks ts r)

same_ran : (d : Domain) (ts : List Task) (us : List ℕ) → Reordered d.tasks ts → (t : Task) → ran_if d t ≡ ran_if (relisted d ts us) t
same_ran d ts us r t = ap (λ (rate : ℕ). cond (is_on_cpu t.number d.curr) (ran d.time rate t) t) (same_rate d ts us r t)

finished_relisted : (d : Domain) (ts : List Task) (us : List ℕ) → Reordered d.tasks ts → Reordered d.used us → Alike (finished d) (finished (relisted d ts us))
finished_relisted d ts us r s = record {
  same = refl;
  tasks = subst (λ (f : Task → Task). Reordered (map (ran_if d) d.tasks) (map f ts)) (fun_ext (same_ran d ts us r)) (mapped (ran_if d) d.tasks ts r);
  used = s;
}

begun_relisted : (d : Domain) (ts : List Task) (us : List ℕ) → Reordered d.tasks ts → Reordered d.used us → AreNumbered d.tasks → Alike (with_tick_begun d) (with_tick_begun (relisted d ts us))
begun_relisted d ts us r s apart =
    let p = prepared d.time d.tasks in
    let q = prepared d.time ts in
    let more = prepared_reordered d.time d.tasks ts r in
    let numbered = prepared_apart d.time d.tasks apart in
    let places : placed d.cpus (candidates p) d.curr ≡ placed d.cpus (candidates q) d.curr =
    same_placed d.cpus (candidates p) (candidates q) d.curr (candidates_reordered p q more) (candidates_apart p numbered) in
    let new = placed d.cpus (candidates q) d.curr in
    let switches : switches_from d.time p 0 d.curr (placed d.cpus (candidates p) d.curr) ≡ switches_from d.time q 0 d.curr new =
    ap (λ (ps : Places). switches_from d.time p 0 d.curr ps) places ∙ same_switches d.time p q 0 d.curr new more numbered in
    let made : Places → List Switch → Domain = λ ps ss. record d { tasks = map (with_last_cpu new) q; used = us; curr = ps; switches = d.switches ++ ss } in
    record {
      same = ap (λ (ps : Places). made ps (switches_from d.time q 0 d.curr new)) (sym places) ∙ ap (made (placed d.cpus (candidates p) d.curr)) (sym switches);
      tasks = subst (λ (ps : Places). Reordered (map (with_last_cpu (placed d.cpus (candidates p) d.curr)) p) (map (with_last_cpu ps) q)) places (mapped (with_last_cpu (placed d.cpus (candidates p) d.curr)) p q more);
      used = s;
    }

finished_alike : (d e : Domain) → Alike d e → Alike (finished d) (finished e)
finished_alike d e alike = subst (λ (x : Domain). Alike (finished d) (finished x)) (sym alike.same) (finished_relisted d e.tasks e.used alike.tasks alike.used)

begun_alike : (d e : Domain) → Alike d e → AreNumbered d.tasks → Alike (with_tick_begun d) (with_tick_begun e)
begun_alike d e alike apart = subst (λ (x : Domain). Alike (with_tick_begun d) (with_tick_begun x)) (sym alike.same) (begun_relisted d e.tasks e.used alike.tasks alike.used apart)

pub ticks_alike : (k : ℕ) (d e : Domain) → Alike d e → AreNumbered d.tasks → Alike (ticks k d) (ticks k e)
ticks_alike zero d e alike apart = alike
ticks_alike (suc k) d e alike apart =
    finished_alike (with_tick_begun (ticks k d)) (with_tick_begun (ticks k e)) (begun_alike (ticks k d) (ticks k e) (ticks_alike k d e alike apart) (ticks_numbered k d apart))

-- what both show
pub alike_switches : (d e : Domain) → Alike d e → d.switches ≡ e.switches
alike_switches d e alike = sym (ap (λ (x : Domain). x.switches) alike.same)
