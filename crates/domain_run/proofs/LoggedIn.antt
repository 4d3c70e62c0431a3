-- What a run logs of, call by call: tasks that were admitted, on CPUs of the domain, until its
-- time.
use Rattle.std.proofs.Common.{◌≡◌, ◌≢◌, ℕ, zero, suc, ◌+◌, ◌<◌, ◌≤◌, Bool, true, false, cond, eqb, leb, ltb, ◌||◌, Option, Some, None, List, [], ◌∷◌, ◌++◌, length, map, refl, sym, ap, subst, ◌∙◌, arith, eq-eqb}
use Rattle.std.specs.Prelude.{All, filter, position, unwrap_or}
use Rattle.std.specs.List.{flat_map, list_any}
use Rattle.std.proofs.lemmas.List.{append-nil, append_assoc, length-replicate}
use Rattle.std.proofs.lemmas.List.Elements.{All-nil, All-append, All-weaker, All-map, All-filter, All-push}
use Rattle.std.proofs.lemmas.List.Kept.{AllPairs-filter}
use Rattle.std.proofs.lemmas.List.Quantifiers.{all_pairs_push}
use Rattle.attr_check.specs.ParamsView.{ParamsView}
use Rattle.attr_check.specs.Ratio.{cap}
use Rattle.edf_pick.specs.Places.{Places, is_task, placed}
use Rattle.domain_run.specs.declared.task.Task.{Task}
use Rattle.domain_run.specs.declared.task.Condition.TheVariants.{Leaving}
use Rattle.domain_run.specs.declared.happened.What.{What}
use Rattle.domain_run.specs.declared.happened.What.TheVariants.{Cut}
use Rattle.domain_run.specs.declared.happened.Happened.{Happened}
use Rattle.domain_run.specs.declared.call.Call.{Call}
use Rattle.domain_run.specs.declared.call.Call.TheVariants.{Admit, Regrade, Wake, Leave, Advance, Limit, Depart, Arrive}
use Rattle.domain_run.specs.declared.call.Reply.TheVariants.{Admitted, Full, Twice, Busy}
use Rattle.task_script.specs.script.ScriptView.{ScriptView}
use Rattle.domain_run.specs.Conditions.{is_contending}
use Rattle.domain_run.specs.Parts.{replenish_due, settled, is_listed, unblocked, with_last_cpu, stopped}
use Rattle.domain_run.specs.Domain.{Domain, empty_domain}
use Rattle.domain_run.specs.Tick.{sum_of, candidates, prepared, with_tick_begun, ran_if, finished, ticked, ticks}
use Rattle.domain_run.specs.Calls.{admit_reply, new_task, with_number, with_task_listed, of_number, with_task_changed, with_new_params, blocked_until, ended_at, with_limit, is_other, after_departure, reply_to, is_refusal, after_granted, after_call}
use Rattle.domain_run.specs.Run.{after_calls, run_of}
use Rattle.domain_run.specs.Sound.{IsAdmitted, HasNoTaskTwice}
use Rattle.domain_run.specs.Happened.{happened_to, logged_if_ran, logged_by_replenishment, logged_by_unblocking, with_its_cpu, logged_to_begin, logged_by_beginning, logged_by_end, logged_by_tick, logged_by_ticks, logged_by_cut, logged_by_granted, logged_by_call, logged_by_calls}
use Rattle.domain_run.proofs.Keeping.{Same, same_itself, same_either, same_replenished, same_settled, same_unblocked, AllPairs-map}
use Rattle.domain_run.proofs.KeptKeys.{AreNumbered, ticked_numbered}
use Rattle.domain_run.proofs.Ticking.{same_ran_if}
use Rattle.domain_run.proofs.Placing.{homed_cpu, homed_number, position_within}
use Rattle.domain_run.proofs.OpenCharging.{placed_is}
use Rattle.domain_run.proofs.Admitting.{with_number_contains}
use Rattle.domain_run.proofs.Opening.{nobody_twice}
use Rattle.domain_run.proofs.LoggedOf.{each_in_order, each_task, each_replenishment, each_unblocking, each_end}
use Rattle.domain_run.proofs.LoggedRising.{IsRising, RisesTo, call_rises, none_rises}

-- ---- THE TASKS of a domain

-- on a CPU of the domain, with a number that was admitted
pub record IsKnown (cpus : ℕ) (used : List ℕ) (t : Task) : Type 0 where
  pub home : t.cpu < cpus
  pub admitted : IsAdmitted used t.number

-- what calls and ticks keep of the listed tasks, whatever their servers and scripts
pub record HasKnown (d : Domain) : Type 0 where
  pub some : 0 < d.cpus
  pub wide : length d.curr ≡ d.cpus
  pub apart : HasNoTaskTwice d.curr
  pub known : All (IsKnown d.cpus d.used) d.tasks
  pub numbered : AreNumbered d.tasks

known_same : (cpus : ℕ) (used : List ℕ) (t u : Task) → Same t u → IsKnown cpus used t → IsKnown cpus used u
known_same cpus used t u same is = record {
  home = subst (λ (n : ℕ). n < cpus) (sym same.cpu) is.home;
  admitted = subst (λ (n : ℕ). IsAdmitted used n) (sym same.number) is.admitted;
}

known_map : (cpus : ℕ) (used : List ℕ) (f : Task → Task) (tasks : List Task) → ((t : Task) → Same t (f t)) → All (IsKnown cpus used) tasks → All (IsKnown cpus used) (map f tasks)
known_map cpus used f tasks same are = All-map (IsKnown cpus used) f tasks (All-weaker (IsKnown cpus used) (λ t. IsKnown cpus used (f t)) (λ t is. known_same cpus used t (f t) (same t) is) tasks are)

numbered_map : (f : Task → Task) → ((t : Task) → (f t).number ≡ t.number) → (tasks : List Task) → AreNumbered tasks → AreNumbered (map f tasks)
numbered_map f keeps tasks numbered = AllPairs-map (λ a b. a.number ≢ b.number) f (λ a b h e. h (sym (keeps a) ∙ e ∙ keeps b)) tasks numbered

-- ---- A TICK

left_known : (cpus : ℕ) (used : List ℕ) (time : ℕ) (tasks : List Task) → All (IsKnown cpus used) tasks → All (IsKnown cpus used) (filter is_listed (map (settled time) (map (replenish_due time) tasks)))
left_known cpus used time tasks are =
    let due = map (replenish_due time) tasks in
    All-filter is_listed (IsKnown cpus used) (map (settled time) due)
    (known_map cpus used (settled time) due (same_settled time) (known_map cpus used (replenish_due time) tasks (same_replenished time) are))

prepared_known : (cpus : ℕ) (used : List ℕ) (time : ℕ) (tasks : List Task) → All (IsKnown cpus used) tasks → All (IsKnown cpus used) (prepared time tasks)
prepared_known cpus used time tasks are = known_map cpus used (unblocked time) (filter is_listed (map (settled time) (map (replenish_due time) tasks))) (same_unblocked time) (left_known cpus used time tasks are)

homed_known : (cpus : ℕ) (used : List ℕ) (places : Places) (t : Task) → length places ≡ cpus → IsKnown cpus used t → IsKnown cpus used (with_last_cpu places t)
homed_known cpus used places t wide is =
    let o = position (is_task t.number) places in
    record {
      home = homed_cpu cpus o t (λ cpu e. subst (λ (n : ℕ). cpu < n) wide (position_within t.number places cpu e)) is.home;
      admitted = subst (λ (n : ℕ). IsAdmitted used n) (sym (homed_number o t)) is.admitted;
    }

begun_known : (d : Domain) → HasKnown d → All (IsKnown d.cpus d.used) (with_tick_begun d).tasks
begun_known d has =
    let tasks = prepared d.time d.tasks in
    let places = placed d.cpus (candidates tasks) d.curr in
    let wide : length places ≡ d.cpus = (placed_is d.cpus (candidates tasks) d.curr has.wide has.apart).wide in
    All-map (IsKnown d.cpus d.used) (with_last_cpu places) tasks
    (All-weaker (IsKnown d.cpus d.used) (λ t. IsKnown d.cpus d.used (with_last_cpu places t)) (λ t is. homed_known d.cpus d.used places t wide is) tasks (prepared_known d.cpus d.used d.time d.tasks has.known))

has_ticked : (d : Domain) → HasKnown d → HasKnown (ticked d)
has_ticked d has =
    let b : Domain = with_tick_begun d in
    let open_charging = placed_is d.cpus (candidates (prepared d.time d.tasks)) d.curr has.wide has.apart in
    record {
      some = has.some;
      wide = open_charging.wide;
      apart = open_charging.apart;
      known = known_map d.cpus d.used (ran_if b) b.tasks (same_ran_if b) (begun_known d has);
      numbered = ticked_numbered d has.numbered;
    }

has_ticks : (n : ℕ) (d : Domain) → HasKnown d → HasKnown (ticks n d)
has_ticks zero d has = has
has_ticks (suc n) d has = has_ticked (ticks n d) (has_ticks n d has)

-- ---- A CALL

has_changed : (d : Domain) (number : ℕ) (f : Task → Task) → ((t : Task) → Same t (f t)) → HasKnown d → HasKnown (with_task_changed d number f)
has_changed d number f same has =
    let each : (t : Task) → Same t (of_number number f t) = λ t. same_either (eqb t.number number) t (f t) t (same t) (same_itself t) in
    record {
      some = has.some;
      wide = has.wide;
      apart = has.apart;
      known = known_map d.cpus d.used (of_number number f) d.tasks each has.known;
      numbered = numbered_map (of_number number f) (λ t. (each t).number) d.tasks has.numbered;
    }

-- a regrade changes the parameters, and nothing that is asked here
regraded_known : (d : Domain) (number : ℕ) (params : ParamsView) → HasKnown d → HasKnown (with_task_changed d number (with_new_params params))
regraded_known d number params has =
    let f = of_number number (with_new_params params) in
    let same_number : (t : Task) → (f t).number ≡ t.number = λ t. elim (eqb t.number number) as (λ b. (cond b (with_new_params params t) t).number ≡ t.number) [ true ↦ refl | false ↦ refl ] in
    let still : (t : Task) → IsKnown d.cpus d.used t → IsKnown d.cpus d.used (f t) = λ t is.
    elim (eqb t.number number) as (λ b. IsKnown d.cpus d.used (cond b (with_new_params params t) t)) [ true ↦ record { home = is.home; admitted = is.admitted } | false ↦ is ] in
    record {
      some = has.some;
      wide = has.wide;
      apart = has.apart;
      known = All-map (IsKnown d.cpus d.used) f d.tasks (All-weaker (IsKnown d.cpus d.used) (λ t. IsKnown d.cpus d.used (f t)) still d.tasks has.known);
      numbered = numbered_map f same_number d.tasks has.numbered;
    }

same_ended : (time : ℕ) (t : Task) → Same t (ended_at time t)
same_ended time t = same_either (is_contending t.condition) t (stopped time Leaving t) (record t { condition = Leaving }) (record { number = refl; params = refl; cpu = refl }) (record { number = refl; params = refl; cpu = refl })

has_departed : (d : Domain) (number : ℕ) → HasKnown d → HasKnown (after_departure d number)
has_departed d number has = record {
  some = has.some;
  wide = has.wide;
  apart = has.apart;
  known = All-filter (is_other number) (IsKnown d.cpus d.used) d.tasks has.known;
  numbered = AllPairs-filter (λ (a b : Task). a.number ≢ b.number) (is_other number) d.tasks has.numbered;
}

or_true : (a b : Bool) → b ≡ true → (a || b) ≡ true
or_true true b e = refl
or_true false b e = e

-- who was admitted stays so
admitted_more : (used : List ℕ) (number n : ℕ) → IsAdmitted used n → IsAdmitted (with_number number used) n
admitted_more used number n is = with_number_contains number n used ∙ or_true (eqb number n) (list_any (λ (m : ℕ). eqb m n) used) is

admitted_now : (used : List ℕ) (number : ℕ) → IsAdmitted (with_number number used) number
admitted_now used number = with_number_contains number number used ∙ ap (λ (b : Bool). b || list_any (λ (m : ℕ). eqb m number) used) (eq-eqb number number refl)

-- a granted admission is of a new number
fresh_by : (a b c : Bool) (s : ℕ) → is_refusal (cond a Full (cond b Twice (cond c (Busy s) Admitted))) ≡ false → b ≡ false
fresh_by true b c s e = absurd cc
fresh_by false true c s e = absurd cc
fresh_by false false c s e = refl

fresh : (d : Domain) (number : ℕ) (params : ParamsView) → is_refusal (admit_reply d number params) ≡ false → list_any (λ (n : ℕ). eqb n number) d.used ≡ false
fresh d number params e = fresh_by (leb 256 (length d.tasks)) (list_any (λ (n : ℕ). eqb n number) d.used) (ltb (cap d.cpus d.limit) (sum_of d.tasks + params.bw)) (sum_of d.tasks) e

has_listed : (d : Domain) (number : ℕ) (name : List ℕ) (params : ParamsView) (delay : ℕ) (script : ScriptView) → is_refusal (admit_reply d number params) ≡ false → HasKnown d → HasKnown (with_task_listed d (new_task d number name params delay script))
has_listed d number name params delay script after_granted has =
    let t : Task = new_task d number name params delay script in
    let used = with_number number d.used in
    let new : list_any (λ (n : ℕ). eqb n number) d.used ≡ false = fresh d number params after_granted in
    record {
      some = has.some;
      wide = has.wide;
      apart = has.apart;
      known = All-push (IsKnown d.cpus used) d.tasks t (All-weaker (IsKnown d.cpus d.used) (IsKnown d.cpus used) (λ u is. record { home = is.home; admitted = admitted_more d.used number u.number is.admitted }) d.tasks has.known)
          (record { home = omega (arith, has.some); admitted = admitted_now d.used number });
      numbered = all_pairs_push (λ (a b : Task). a.number ≢ b.number) d.tasks t has.numbered
          (λ k x h e. let no : true ≡ false = sym (has.known k x h).admitted ∙ ap (λ (m : ℕ). list_any (λ (n : ℕ). eqb n m) d.used) e ∙ new in absurd cc);
    }

has_granted : (d : Domain) (c : Call) → is_refusal (reply_to d c) ≡ false → HasKnown d → HasKnown (after_granted d c)
has_granted d (Admit number name params delay script) is has = has_listed d number name params delay script is has
has_granted d (Regrade number params word) is has = regraded_known d number params has
has_granted d (Wake number) is has = has_changed d number (blocked_until d.time) (λ t. record { number = refl; params = refl; cpu = refl }) has
has_granted d (Leave number) is has = has_changed d number (ended_at d.time) (same_ended d.time) has
has_granted d (Advance n) is has = has_ticks n d has
has_granted d (Limit limit word) is has = record { some = has.some; wide = has.wide; apart = has.apart; known = has.known; numbered = has.numbered }
has_granted d (Depart number) is has = has_departed d number has
has_granted d (Arrive number name params script) is has = has_listed d number name params 0 script is has

has_either : (d e : Domain) (b : Bool) → HasKnown d → (b ≡ false → HasKnown e) → HasKnown (cond b d e)
has_either d e true has more = has
has_either d e false has more = more refl

pub has_call : (d : Domain) (c : Call) → HasKnown d → HasKnown (after_call d c)
has_call d c has = has_either d (after_granted d c) (is_refusal (reply_to d c)) has (λ is. has_granted d c is has)

pub has_opened : (cpus limit : ℕ) → 0 < cpus → HasKnown (empty_domain cpus limit)
has_opened cpus limit some = record {
  some = some;
  wide = length-replicate cpus None;
  apart = nobody_twice cpus;
  known = All-nil (IsKnown cpus []);
  numbered = λ i j d less within. absurd (omega (arith, within));
}

-- ---- WHAT Is logged

-- until the time of a domain, on one of its CPUs, of a number that was admitted
pub record IsLoggedIn (d : Domain) (h : Happened) : Type 0 where
  pub past : h.time ≤ d.time
  pub inside : h.cpu < d.cpus
  pub admitted : IsAdmitted d.used h.number

logged_known : (d : Domain) (time : ℕ) (t : Task) (w : What) → time ≤ d.time → IsKnown d.cpus d.used t → IsLoggedIn d (happened_to time t w)
logged_known d time t w past is = record { past = past; inside = is.home; admitted = is.admitted }

-- on the CPU on which its task runs it is inside too
home_within : (cpus : ℕ) (o : Option ℕ) (before : ℕ) → ((cpu : ℕ) → o ≡ Some cpu → cpu < cpus) → before < cpus → unwrap_or o before < cpus
home_within cpus None before inside is = is
home_within cpus (Some cpu) before inside is = inside cpu refl

home_in : (d : Domain) (places : Places) (h : Happened) → length places ≡ d.cpus → IsLoggedIn d h → IsLoggedIn d (with_its_cpu places h)
home_in d places h wide is = record {
  past = is.past;
  inside = home_within d.cpus (position (is_task h.number) places) h.cpu (λ cpu e. subst (λ (n : ℕ). cpu < n) wide (position_within h.number places cpu e)) is.inside;
  admitted = is.admitted;
}

beginning_in : (d : Domain) → HasKnown d → All (IsLoggedIn d) (logged_by_beginning d)
beginning_in d has =
    let left = filter is_listed (map (settled d.time) (map (replenish_due d.time) d.tasks)) in
    let back = flat_map (logged_by_replenishment d.time) d.tasks in
    let woken = flat_map (logged_by_unblocking d.time) left in
    let same : d.time ≤ d.time = omega arith in
    let places : Places = (with_tick_begun d).curr in
    let wide : length places ≡ d.cpus = (placed_is d.cpus (candidates (prepared d.time d.tasks)) d.curr has.wide has.apart).wide in
    let all : All (IsLoggedIn d) (logged_to_begin d) = All-append (IsLoggedIn d) back woken
    (each_task (IsKnown d.cpus d.used) (IsLoggedIn d) (logged_by_replenishment d.time) d.tasks (λ t is. each_replenishment (IsLoggedIn d) d.time t (λ w at. logged_known d d.time t w same is)) has.known)
    (each_task (IsKnown d.cpus d.used) (IsLoggedIn d) (logged_by_unblocking d.time) left (λ t is. each_unblocking (IsLoggedIn d) d.time t (λ w at. logged_known d d.time t w same is)) (left_known d.cpus d.used d.time d.tasks has.known)) in
    each_in_order (IsLoggedIn d) (map (with_its_cpu places) (logged_to_begin d))
    (All-map (IsLoggedIn d) (with_its_cpu places) (logged_to_begin d) (All-weaker (IsLoggedIn d) (λ h. IsLoggedIn d (with_its_cpu places h)) (λ h is. home_in d places h wide is) (logged_to_begin d) all))

ending_in : (d : Domain) → All (IsKnown d.cpus d.used) d.tasks → All (IsLoggedIn (finished d)) (logged_by_end d)
ending_in d known =
    let e : Domain = finished d in
    each_in_order (IsLoggedIn e) (flat_map (logged_if_ran d) d.tasks)
    (each_task (IsKnown d.cpus d.used) (IsLoggedIn e) (logged_if_ran d) d.tasks (λ t is. each_end (IsLoggedIn e) d t (λ u same w low. logged_known e (d.time + 1) u w (omega arith) (known_same d.cpus d.used t u same is))) known)

-- what stays logged
pub record Follows (d e : Domain) : Type 0 where
  pub later : d.time ≤ e.time
  pub cpus : e.cpus ≡ d.cpus
  pub used : (n : ℕ) → IsAdmitted d.used n → IsAdmitted e.used n

follows_still : (d e : Domain) → e.time ≡ d.time → e.cpus ≡ d.cpus → e.used ≡ d.used → Follows d e
follows_still d e time cpus used = record { later = omega (arith, time); cpus = cpus; used = λ n is. subst (λ (ns : List ℕ). IsAdmitted ns n) (sym used) is }

follows_tick : (d e : Domain) → Follows d e → Follows d (ticked e)
follows_tick d e f = record { later = omega (arith, f.later); cpus = f.cpus; used = f.used }

follows_ticks : (n : ℕ) (d : Domain) → Follows d (ticks n d)
follows_ticks zero d = follows_still d d refl refl refl
follows_ticks (suc n) d = follows_tick d (ticks n d) (follows_ticks n d)

follows_listed : (d : Domain) (t : Task) → Follows d (with_task_listed d t)
follows_listed d t = record { later = omega arith; cpus = refl; used = λ n is. admitted_more d.used t.number n is }

follows_granted : (d : Domain) (c : Call) → Follows d (after_granted d c)
follows_granted d (Admit number name params delay script) = follows_listed d (new_task d number name params delay script)
follows_granted d (Regrade number params word) = follows_still d (with_task_changed d number (with_new_params params)) refl refl refl
follows_granted d (Wake number) = follows_still d (with_task_changed d number (blocked_until d.time)) refl refl refl
follows_granted d (Leave number) = follows_still d (with_task_changed d number (ended_at d.time)) refl refl refl
follows_granted d (Advance n) = follows_ticks n d
follows_granted d (Limit limit word) = follows_still d (with_limit limit d) refl refl refl
follows_granted d (Depart number) = follows_still d (after_departure d number) refl refl refl
follows_granted d (Arrive number name params script) = follows_listed d (new_task d number name params 0 script)

follows_either : (b : Bool) (d e : Domain) → Follows d e → Follows d (cond b d e)
follows_either true d e f = follows_still d d refl refl refl
follows_either false d e f = f

follows_call : (d : Domain) (c : Call) → Follows d (after_call d c)
follows_call d c = follows_either (is_refusal (reply_to d c)) d (after_granted d c) (follows_granted d c)

logged_later : (d e : Domain) (hs : List Happened) → Follows d e → All (IsLoggedIn d) hs → All (IsLoggedIn e) hs
logged_later d e hs f are =
    All-weaker (IsLoggedIn d) (IsLoggedIn e) (λ h is. record { past = omega (arith, is.past, f.later); inside = omega (arith, is.inside, f.cpus); admitted = f.used h.number is.admitted }) hs are

tick_in : (d : Domain) → HasKnown d → All (IsLoggedIn (ticked d)) (logged_by_tick d)
tick_in d has =
    let e : Domain = ticked d in
    let f : Follows d e = follows_tick d d (follows_still d d refl refl refl) in
    All-append (IsLoggedIn e) (logged_by_beginning d) (logged_by_end (with_tick_begun d)) (logged_later d e (logged_by_beginning d) f (beginning_in d has)) (ending_in (with_tick_begun d) (begun_known d has))

ticks_in : (n : ℕ) (d : Domain) → HasKnown d → All (IsLoggedIn (ticks n d)) (logged_by_ticks n d)
ticks_in zero d has = All-nil (IsLoggedIn d)
ticks_in (suc n) d has =
    let e : Domain = ticks n d in
    let f : Follows e (ticked e) = follows_tick e e (follows_still e e refl refl refl) in
    All-append (IsLoggedIn (ticked e)) (logged_by_ticks n d) (logged_by_tick e) (logged_later e (ticked e) (logged_by_ticks n d) f (ticks_in n d has)) (tick_in e (has_ticks n d has))

cut_in : (d : Domain) (number : ℕ) → HasKnown d → All (IsLoggedIn d) (logged_by_cut d number)
cut_in d number has =
    let test : Task → Bool = λ t. eqb t.number number in
    let ts = filter test d.tasks in
    All-map (IsLoggedIn d) (λ (t : Task). happened_to d.time t Cut) ts
    (All-weaker (IsKnown d.cpus d.used) (λ t. IsLoggedIn d (happened_to d.time t Cut)) (λ t is. logged_known d d.time t Cut (omega arith) is) ts (All-filter test (IsKnown d.cpus d.used) d.tasks has.known))

granted_in : (d : Domain) (c : Call) → HasKnown d → All (IsLoggedIn (after_granted d c)) (logged_by_granted d c)
granted_in d (Admit number name params delay script) has = All-nil (IsLoggedIn (after_granted d (Admit number name params delay script)))
granted_in d (Regrade number params word) has = All-nil (IsLoggedIn (after_granted d (Regrade number params word)))
granted_in d (Wake number) has = All-nil (IsLoggedIn (after_granted d (Wake number)))
granted_in d (Leave number) has = logged_later d (after_granted d (Leave number)) (logged_by_cut d number) (follows_granted d (Leave number)) (cut_in d number has)
granted_in d (Advance n) has = ticks_in n d has
granted_in d (Limit limit word) has = All-nil (IsLoggedIn (after_granted d (Limit limit word)))
granted_in d (Depart number) has = logged_later d (after_granted d (Depart number)) (logged_by_cut d number) (follows_granted d (Depart number)) (cut_in d number has)
granted_in d (Arrive number name params script) has = All-nil (IsLoggedIn (after_granted d (Arrive number name params script)))

either_in : (b : Bool) (d e : Domain) (hs : List Happened) → All (IsLoggedIn e) hs → All (IsLoggedIn (cond b d e)) (cond b [] hs)
either_in true d e hs are = All-nil (IsLoggedIn d)
either_in false d e hs are = are

call_in : (d : Domain) (c : Call) → HasKnown d → All (IsLoggedIn (after_call d c)) (logged_by_call d c)
call_in d c has = either_in (is_refusal (reply_to d c)) d (after_granted d c) (logged_by_granted d c) (granted_in d c has)

-- ---- A RUN

follows_calls : (d : Domain) (calls : List Call) → Follows d (after_calls d calls)
follows_calls d [] = follows_still d d refl refl refl
follows_calls d (c ∷ calls) =
    let one = follows_call d c in
    let more = follows_calls (after_call d c) calls in
    record { later = omega (arith, one.later, more.later); cpus = more.cpus ∙ one.cpus; used = λ n is. more.used n (one.used n is) }

calls_in : (d : Domain) (calls : List Call) → HasKnown d → All (IsLoggedIn (after_calls d calls)) (logged_by_calls d calls)
calls_in d [] has = All-nil (IsLoggedIn d)
calls_in d (c ∷ calls) has =
    let e : Domain = after_call d c in
    let last : Domain = after_calls e calls in
    All-append (IsLoggedIn last) (logged_by_call d c) (logged_by_calls e calls) (logged_later e last (logged_by_call d c) (follows_calls e calls) (call_in d c has)) (calls_in e calls (has_call d c has))

calls_rise : (d : Domain) (calls : List Call) (hs : List Happened) → HasKnown d → RisesTo d.time hs → RisesTo (after_calls d calls).time (hs ++ logged_by_calls d calls)
calls_rise d [] hs has to = subst (RisesTo d.time) (sym (append-nil hs)) to
calls_rise d (c ∷ calls) hs has to =
    let e : Domain = after_call d c in
    subst (RisesTo (after_calls e calls).time) (append_assoc hs (logged_by_call d c) (logged_by_calls e calls))
    (calls_rise e calls (hs ++ logged_by_call d c) (has_call d c has) (call_rises d c hs has.numbered to))

-- what a run logs: until its time, on its CPUs, of those whom it admitted
pub run_logs : (cpus limit : ℕ) (calls : List Call) → 0 < cpus → All (IsLoggedIn (run_of cpus limit calls)) (logged_by_calls (empty_domain cpus limit) calls)
run_logs cpus limit calls some = calls_in (empty_domain cpus limit) calls (has_opened cpus limit some)

-- and it rises
pub run_rises : (cpus limit : ℕ) (calls : List Call) → 0 < cpus → IsRising (logged_by_calls (empty_domain cpus limit) calls)
run_rises cpus limit calls some = (calls_rise (empty_domain cpus limit) calls [] (has_opened cpus limit some) (none_rises 0)).rising

pub run_cpus : (cpus limit : ℕ) (calls : List Call) → (run_of cpus limit calls).cpus ≡ cpus
run_cpus cpus limit calls = (follows_calls (empty_domain cpus limit) calls).cpus
