-- Throttles and replenishments of a task come in turn: through a whole run of calls.
use Rattle.std.proofs.Common.{◌≡◌, ◌≢◌, ◌⊎◌, ℕ, zero, suc, ◌+◌, ◌<◌, ◌≤◌, Bool, true, false, cond, eqb, ltb, leb, ◌&&◌, ◌||◌, not, Option, Some, None, List, [], ◌∷◌, ◌++◌, length, map, get_or, refl, sym, ap, ◌∙◌, subst, inl, inr, arith, eq-eqb}
use Rattle.std.specs.Prelude.{All, filter, find, sum_by, position}
use Rattle.std.specs.List.{list_any}
use Rattle.std.proofs.lemmas.Bool.{cases_lt, eqb-true, ne_eqb}
use Rattle.std.proofs.lemmas.List.{get_or_default}
use Rattle.std.proofs.lemmas.List.Sums.{sum_by-cons, sum_by-append}
use Rattle.std.proofs.lemmas.List.Elements.{All-nil, All-cons, All-head, All-tail, All-weaker, All-map, All-filter, All-push}
use Rattle.std.proofs.lemmas.List.Kept.{AllPairs-filter}
use Rattle.std.proofs.lemmas.List.Quantifiers.{all_pairs_push}
use Rattle.attr_check.specs.ParamsView.{ParamsView}
use Rattle.attr_check.specs.Ratio.{cap}
use Rattle.cbs_rules.specs.Serving.{replenished}
use Rattle.edf_pick.specs.Places.{Places, is_task, is_on_cpu}
use Rattle.task_script.specs.script.Segments.{next_segment}
use Rattle.domain_run.specs.declared.task.Task.{Task}
use Rattle.domain_run.specs.declared.task.Condition.{Condition}
use Rattle.domain_run.specs.declared.task.Condition.TheVariants.{Ready, Throttled, Blocked, Waiting, Leaving}
use Rattle.domain_run.specs.declared.happened.Happened.{Happened}
use Rattle.domain_run.specs.declared.happened.What.TheVariants.{Cut}
use Rattle.domain_run.specs.declared.call.Call.{Call}
use Rattle.domain_run.specs.declared.call.Call.TheVariants.{Admit, Regrade, Wake, Leave, Advance, Limit, Depart, Arrive}
use Rattle.domain_run.specs.declared.call.Reply.TheVariants.{Admitted, Woken, Full, Twice, Busy, NotWaiting}
use Rattle.domain_run.specs.Conditions.{is_ready, is_throttled, is_contending, is_waiting, is_leaving, is_over, has_come}
use Rattle.domain_run.specs.Parts.{replenish_due, settled, is_listed, unblocked, starts, with_last_cpu, stopped, ran}
use Rattle.domain_run.specs.Domain.{Domain, empty_domain}
use Rattle.domain_run.specs.Tick.{sum_of, prepared, with_tick_begun, rate_of, ran_if, finished, ticked, ticks}
use Rattle.domain_run.specs.Calls.{admit_reply, new_task, with_number, with_task_listed, task_of, of_number, with_task_changed, with_new_params, wake_reply, blocked_until, leave_reply, ended_at, with_limit, depart_reply, is_other, after_departure, reply_to, is_refusal, after_granted, after_call}
use Rattle.domain_run.specs.Run.{after_calls}
use Rattle.domain_run.specs.Sound.{IsAdmitted}
use Rattle.domain_run.specs.Happened.{happened_to, logged_by_beginning, logged_by_end, logged_by_tick, logged_by_ticks, logged_by_cut, logged_by_granted, logged_by_call, logged_by_calls}
use Rattle.domain_run.proofs.CallerLemmas.{AreNumbered, with_number_contains}
use Rattle.run_figures.specs.Jobs.{of_task}
use Rattle.run_figures.specs.Throttling.{throttled_of}
use Rattle.run_figures.specs.Balance.{replenished_of, come_in_turn, is_left_throttled}
use Rattle.run_figures.proofs.Balance.{throttled_by, replenished_by, opened_by, closed, MayRun, AreEven, beginning_even, end_even, begun_may_run, homed_number, homed_condition, number_due, number_settled, number_unblocked, numbered_map, prepared_numbered}
use Rattle.run_figures.proofs.Alternating.{bit, StepsOf, steps_none, steps_more, steps_by, turns_counted, numbered_by, one_numbered, Few, beginning_few, end_few, number_ran}

-- ---- NUMBERS: no two tasks have one, and each was admitted

record HasNumbers (d : Domain) : Type 0 where
  numbered : AreNumbered d.tasks
  known : All (λ t. IsAdmitted d.used t.number) d.tasks

known_map : (used : List ℕ) (f : Task → Task) (tasks : List Task) → ((t : Task) → (f t).number ≡ t.number) → All (λ t. IsAdmitted used t.number) tasks → All (λ t. IsAdmitted used t.number) (map f tasks)
known_map used f tasks same are =
    All-map (λ (t : Task). IsAdmitted used t.number) f tasks
    (All-weaker (λ (t : Task). IsAdmitted used t.number) (λ t. IsAdmitted used (f t).number) (λ t is. subst (λ (n : ℕ). IsAdmitted used n) (sym (same t)) is) tasks are)

number_homed : (places : Places) (t : Task) → (with_last_cpu places t).number ≡ t.number
number_homed places t = homed_number (position (is_task t.number) places) t

number_ran_if : (d : Domain) (t : Task) → (ran_if d t).number ≡ t.number
number_ran_if d t = elim (is_on_cpu t.number d.curr) as (λ b. (cond b (ran d.time (rate_of d t) t) t).number ≡ t.number) [ true ↦ number_ran d.time (rate_of d t) t | false ↦ refl ]

prepared_known : (used : List ℕ) (time : ℕ) (tasks : List Task) → All (λ t. IsAdmitted used t.number) tasks → All (λ t. IsAdmitted used t.number) (prepared time tasks)
prepared_known used time tasks are =
    let first = map (replenish_due time) tasks in
    let second = map (settled time) first in
    known_map used (unblocked time) (filter is_listed second) (number_unblocked time)
    (All-filter is_listed (λ (t : Task). IsAdmitted used t.number) second
    (known_map used (settled time) first (number_settled time) (known_map used (replenish_due time) tasks (number_due time) are)))

begun_numbered : (d : Domain) → AreNumbered d.tasks → AreNumbered (with_tick_begun d).tasks
begun_numbered d numbered = numbered_map (with_last_cpu (with_tick_begun d).curr) (number_homed (with_tick_begun d).curr) (prepared d.time d.tasks) (prepared_numbered d.time d.tasks numbered)

has_ticked : (d : Domain) → HasNumbers d → HasNumbers (ticked d)
has_ticked d has =
    let b : Domain = with_tick_begun d in
    record {
      numbered = numbered_map (ran_if b) (number_ran_if b) b.tasks (begun_numbered d has.numbered);
      known = known_map d.used (ran_if b) b.tasks (number_ran_if b)
          (known_map d.used (with_last_cpu b.curr) (prepared d.time d.tasks) (number_homed b.curr) (prepared_known d.used d.time d.tasks has.known));
    }

has_ticks : (k : ℕ) (d : Domain) → HasNumbers d → HasNumbers (ticks k d)
has_ticks zero d has = has
has_ticks (suc k) d has = has_ticked (ticks k d) (has_ticks k d has)

of_number_keeps : (number : ℕ) (f : Task → Task) → ((t : Task) → (f t).number ≡ t.number) → (t : Task) → (of_number number f t).number ≡ t.number
of_number_keeps number f same t = elim (eqb t.number number) as (λ b. (cond b (f t) t).number ≡ t.number) [ true ↦ same t | false ↦ refl ]

has_changed : (d : Domain) (number : ℕ) (f : Task → Task) → ((t : Task) → (f t).number ≡ t.number) → HasNumbers d → HasNumbers (with_task_changed d number f)
has_changed d number f same has = record {
  numbered = numbered_map (of_number number f) (of_number_keeps number f same) d.tasks has.numbered;
  known = known_map d.used (of_number number f) d.tasks (of_number_keeps number f same) has.known;
}

number_ended : (time : ℕ) (t : Task) → (ended_at time t).number ≡ t.number
number_ended time t = elim (is_contending t.condition) as (λ b. (cond b (stopped time Leaving t) (record t { condition = Leaving })).number ≡ t.number) [ true ↦ refl | false ↦ refl ]

or_true : (a b : Bool) → b ≡ true → (a || b) ≡ true
or_true true b e = refl
or_true false b e = e

admitted_more : (used : List ℕ) (number n : ℕ) → IsAdmitted used n → IsAdmitted (with_number number used) n
admitted_more used number n is = with_number_contains number n used ∙ or_true (eqb number n) (list_any (λ (m : ℕ). eqb m n) used) is

admitted_now : (used : List ℕ) (number : ℕ) → IsAdmitted (with_number number used) number
admitted_now used number = with_number_contains number number used ∙ ap (λ (b : Bool). b || list_any (λ (m : ℕ). eqb m number) used) (eq-eqb number number refl)

-- a granted admission is of a new number
fresh_by : (a b c : Bool) (s : ℕ) → is_refusal (cond a Full (cond b Twice (cond c (Busy s) Admitted))) ≡ false → b ≡ false
fresh_by true b c s e = absurd cc
fresh_by false true c s e = absurd cc
fresh_by false false c s e = refl

fresh : (d : Domain) (number : ℕ) (params : ParamsView) → is_refusal (admit_reply d number params) ≡ false → list_any (λ (n : ℕ). eqb n number) d.used ≡ false
fresh d number params e = fresh_by (leb 256 (length d.tasks)) (list_any (λ (n : ℕ). eqb n number) d.used) (ltb (cap d.cpus d.limit) (sum_of d.tasks + params.bw)) (sum_of d.tasks) e

not_fresh : (used : List ℕ) (number n : ℕ) → list_any (λ (m : ℕ). eqb m number) used ≡ false → IsAdmitted used n → n ≢ number
not_fresh used number n new is e = let no : true ≡ false = sym is ∙ ap (λ (m : ℕ). list_any (λ (k : ℕ). eqb k m) used) e ∙ new in absurd cc

has_listed : (d : Domain) (t : Task) → list_any (λ (n : ℕ). eqb n t.number) d.used ≡ false → HasNumbers d → HasNumbers (with_task_listed d t)
has_listed d t new has = record {
  numbered = all_pairs_push (λ (a b : Task). a.number ≢ b.number) d.tasks t has.numbered (λ k x h. not_fresh d.used t.number (get_or d.tasks k x).number new (has.known k x h));
  known = All-push (λ (u : Task). IsAdmitted (with_number t.number d.used) u.number) d.tasks t
      (All-weaker (λ (u : Task). IsAdmitted d.used u.number) (λ u. IsAdmitted (with_number t.number d.used) u.number) (λ u is. admitted_more d.used t.number u.number is) d.tasks has.known)
      (admitted_now d.used t.number);
}

has_departed : (d : Domain) (number : ℕ) → HasNumbers d → HasNumbers (after_departure d number)
has_departed d number has = record {
  numbered = AllPairs-filter (λ (a b : Task). a.number ≢ b.number) (is_other number) d.tasks has.numbered;
  known = All-filter (is_other number) (λ (t : Task). IsAdmitted d.used t.number) d.tasks has.known;
}

has_granted : (d : Domain) (c : Call) → is_refusal (reply_to d c) ≡ false → HasNumbers d → HasNumbers (after_granted d c)
has_granted d (Admit number name params delay script) is has = has_listed d (new_task d number name params delay script) (fresh d number params is) has
has_granted d (Regrade number params word) is has = has_changed d number (with_new_params params) (λ t. refl) has
has_granted d (Wake number) is has = has_changed d number (blocked_until d.time) (λ t. refl) has
has_granted d (Leave number) is has = has_changed d number (ended_at d.time) (number_ended d.time) has
has_granted d (Advance n) is has = has_ticks n d has
has_granted d (Limit limit word) is has = record { numbered = has.numbered; known = has.known }
has_granted d (Depart number) is has = has_departed d number has
has_granted d (Arrive number name params script) is has = has_listed d (new_task d number name params 0 script) (fresh d number params is) has

has_either : (d e : Domain) (b : Bool) → HasNumbers d → (b ≡ false → HasNumbers e) → HasNumbers (cond b d e)
has_either d e true has more = has
has_either d e false has more = more refl

has_call : (d : Domain) (c : Call) → HasNumbers d → HasNumbers (after_call d c)
has_call d c has = has_either d (after_granted d c) (is_refusal (reply_to d c)) has (λ is. has_granted d c is has)

-- ---- OVER: a number that was admitted, and whose task has ended or is off the list

abbrev is_live : ℕ → Task → Bool
is_live n t = eqb t.number n && not (is_leaving t.condition)

abbrev AreOver : ℕ → List Task → Type 0
AreOver n tasks = All (λ t. is_live n t ≡ false) tasks

record IsOver (n : ℕ) (d : Domain) : Type 0 where
  admitted : IsAdmitted d.used n
  over : AreOver n d.tasks

-- a part that keeps numbers, and who leaves
over_by : (n : ℕ) (t u : Task) → u.number ≡ t.number → (is_leaving t.condition ≡ true → is_leaving u.condition ≡ true) → is_live n t ≡ false → is_live n u ≡ false
over_by n t u same keeps over = ap (λ m. eqb m n && not (is_leaving u.condition)) same ∙ both (eqb t.number n) (is_leaving t.condition) (is_leaving u.condition) keeps over
  where
    both : (a p q : Bool) → (p ≡ true → q ≡ true) → (a && not p) ≡ false → (a && not q) ≡ false
    both false p q h e = refl
    both true true q h e = ap not (h refl)
    both true false q h e = absurd cc

over_map : (n : ℕ) (f : Task → Task) (tasks : List Task) → ((t : Task) → (f t).number ≡ t.number) → ((t : Task) → is_leaving t.condition ≡ true → is_leaving (f t).condition ≡ true) → AreOver n tasks → AreOver n (map f tasks)
over_map n f tasks same keeps over =
    All-map (λ (t : Task). is_live n t ≡ false) f tasks (All-weaker (λ (t : Task). is_live n t ≡ false) (λ t. is_live n (f t) ≡ false) (λ t is. over_by n t (f t) (same t) (keeps t) is) tasks over)

-- a task that has ended stays so
leaving_due : (time : ℕ) (t : Task) → is_leaving t.condition ≡ true → is_leaving (replenish_due time t).condition ≡ true
leaving_due time t is =
    elim (is_throttled t.condition && has_come time t.server.deadline) as (λ b. (is_throttled t.condition && has_come time t.server.deadline) ≡ b → is_leaving (cond b (record t { server = replenished t.params t.server; condition = Ready }) t).condition ≡ true) [
      | true ↦ λ e. absurd (no t.condition (has_come time t.server.deadline) is e)
      | false ↦ λ e. is
    ] refl
  where
    no : (c : Condition) (b : Bool) → is_leaving c ≡ true → (is_throttled c && b) ≡ true → ⊥
    no Leaving b l e = absurd cc
    no Ready b l e = absurd cc
    no Throttled b l e = absurd cc
    no (Blocked u) b l e = absurd cc
    no Waiting b l e = absurd cc

leaving_settled : (time : ℕ) (t : Task) → is_leaving t.condition ≡ true → is_leaving (settled time t).condition ≡ true
leaving_settled time t is = elim (has_come time t.zero_lag) as (λ b. is_leaving (cond b (record t { zero_lag = None }) t).condition ≡ true) [ true ↦ is | false ↦ is ]

leaving_unblocked : (time : ℕ) (t : Task) → is_leaving t.condition ≡ true → is_leaving (unblocked time t).condition ≡ true
leaving_unblocked time t is =
    let a = next_segment t.cursor time in
    ap (λ b. is_leaving (cond b (starts time t a) t).condition) (asleep t.condition is) ∙ is
  where
    asleep : (c : Condition) → is_leaving c ≡ true → is_over time c ≡ false
    asleep Leaving l = refl
    asleep Ready l = absurd cc
    asleep Throttled l = absurd cc
    asleep (Blocked u) l = absurd cc
    asleep Waiting l = absurd cc

leaving_homed : (places : Places) (t : Task) → is_leaving t.condition ≡ true → is_leaving (with_last_cpu places t).condition ≡ true
leaving_homed places t is = ap is_leaving (homed_condition (position (is_task t.number) places) t) ∙ is

over_begun : (n : ℕ) (d : Domain) → AreOver n d.tasks → AreOver n (with_tick_begun d).tasks
over_begun n d over =
    let first = map (replenish_due d.time) d.tasks in
    let second = map (settled d.time) first in
    let third = filter is_listed second in
    over_map n (with_last_cpu (with_tick_begun d).curr) (prepared d.time d.tasks) (number_homed (with_tick_begun d).curr) (leaving_homed (with_tick_begun d).curr)
    (over_map n (unblocked d.time) third (number_unblocked d.time) (leaving_unblocked d.time)
    (All-filter is_listed (λ (t : Task). is_live n t ≡ false) second
    (over_map n (settled d.time) first (number_settled d.time) (leaving_settled d.time) (over_map n (replenish_due d.time) d.tasks (number_due d.time) (leaving_due d.time) over))))

-- it does not run
over_ran : (n : ℕ) (d : Domain) (t : Task) → MayRun d t → is_live n t ≡ false → is_live n (ran_if d t) ≡ false
over_ran n d t may over =
    elim (is_on_cpu t.number d.curr) as (λ b. is_on_cpu t.number d.curr ≡ b → is_live n (cond b (ran d.time (rate_of d t) t) t) ≡ false) [
      | true ↦ λ is. over_by n t (ran d.time (rate_of d t) t) (number_ran d.time (rate_of d t) t) (λ l. absurd (no t.condition (may is) l)) over
      | false ↦ λ is. over
    ] refl
  where
    no : (c : Condition) → is_ready c ≡ true → is_leaving c ≡ true → ⊥
    no Ready r l = absurd cc
    no Throttled r l = absurd cc
    no (Blocked u) r l = absurd cc
    no Waiting r l = absurd cc
    no Leaving r l = absurd cc

over_finished : (n : ℕ) (d : Domain) → All (MayRun d) d.tasks → AreOver n d.tasks → AreOver n (finished d).tasks
over_finished n d may over =
    All-map (λ (t : Task). is_live n t ≡ false) (ran_if d) d.tasks (λ k e h. over_ran n d (get_or d.tasks k e) (may k e h) (over k e h))

-- it is not throttled
over_open : (n : ℕ) (tasks : List Task) → AreOver n tasks → sum_by (opened_by n) tasks ≡ 0
over_open n [] over = refl
over_open n (t ∷ tasks) over =
    let here : is_live n t ≡ false = All-head (λ (t : Task). is_live n t ≡ false) t tasks over in
    let rest = over_open n tasks (All-tail (λ (t : Task). is_live n t ≡ false) t tasks over) in
    omega (arith, sum_by-cons (opened_by n) t tasks, rest, none (eqb t.number n) t.condition here)
  where
    none : (a : Bool) (c : Condition) → (a && not (is_leaving c)) ≡ false → cond {A = ℕ} (a && is_throttled c) 1 0 ≡ 0
    none false c e = refl
    none true Leaving e = refl
    none true Ready e = absurd cc
    none true Throttled e = absurd cc
    none true (Blocked u) e = absurd cc
    none true Waiting e = absurd cc

-- ---- WHERE A TASK STANDS: throttled as it was logged last, or over

abbrev IsAt : ℕ → Domain → Bool → Type 0
IsAt n d b = (bit b ≡ sum_by (opened_by n) d.tasks) ⊎ IsOver n d

-- the next list goes on from here
record GoesOn (n : ℕ) (b : Bool) (hs : List Happened) (d : Domain) : Type 0 where
  after : Bool
  steps : StepsOf n b hs after
  at : IsAt n d after

goes_nowhere : (n : ℕ) (b : Bool) (d : Domain) → IsAt n d b → GoesOn n b [] d
goes_nowhere n b d at = record { after = b; steps = steps_none n b; at = at }

opened_least : (n : ℕ) (t : Task) → opened_by n t ≤ numbered_by n t
opened_least n t = least (eqb t.number n) (is_throttled t.condition)
  where
    least : (a b : Bool) → cond {A = ℕ} (a && b) 1 0 ≤ cond a 1 0
    least true true = omega arith
    least true false = omega arith
    least false b = omega arith

sum_least : (f g : Task → ℕ) (tasks : List Task) → ((t : Task) → f t ≤ g t) → sum_by f tasks ≤ sum_by g tasks
sum_least f g [] least = omega arith
sum_least f g (t ∷ tasks) least = omega (arith, sum_by-cons f t tasks, sum_by-cons g t tasks, least t, sum_least f g tasks least)

one_open : (n : ℕ) (tasks : List Task) → AreNumbered tasks → sum_by (opened_by n) tasks ≤ 1
one_open n tasks numbered = omega (arith, one_numbered n tasks numbered, sum_least (opened_by n) (numbered_by n) tasks (opened_least n))

bit_of : (k : ℕ) → k ≤ 1 → (b : Bool) × (bit b ≡ k)
bit_of zero least = (false, refl)
bit_of (suc zero) least = (true, refl)
bit_of (suc (suc k)) least = absurd (omega (arith, least))

-- a part of a tick
part_goes : (n : ℕ) (b : Bool) (d e : Domain) (hs : List Happened) → AreNumbered e.tasks → AreEven d.tasks hs e.tasks → Few n hs → (IsOver n d → IsOver n e) → IsAt n d b → GoesOn n b hs e
part_goes n b d e hs numbered even few stays (inl closes) =
    let (after, is) = bit_of (sum_by (opened_by n) e.tasks) (one_open n e.tasks numbered) in
    record { after = after; steps = steps_by n b after hs (omega (arith, closes, even n, is)) few; at = inl is }
part_goes n b d e hs numbered even few stays (inr over) =
    let then = stays over in
    record { after = b; steps = steps_by n b b hs (omega (arith, even n, over_open n d.tasks over.over, over_open n e.tasks then.over)) few; at = inr then }

goes_more : (n : ℕ) (b : Bool) (hs gs : List Happened) (d e : Domain) → GoesOn n b hs d → ((a : Bool) → IsAt n d a → GoesOn n a gs e) → GoesOn n b (hs ++ gs) e
goes_more n b hs gs d e one more =
    let two = more one.after one.at in
    record { after = two.after; steps = steps_more n b one.after two.after hs gs one.steps two.steps; at = two.at }

tick_goes : (n : ℕ) (b : Bool) (d : Domain) → HasNumbers d → IsAt n d b → GoesOn n b (logged_by_tick d) (ticked d)
tick_goes n b d has at =
    let m : Domain = with_tick_begun d in
    let numbered = begun_numbered d has.numbered in
    let may = begun_may_run d (prepared_numbered d.time d.tasks has.numbered) in
    goes_more n b (logged_by_beginning d) (logged_by_end m) m (ticked d)
    (part_goes n b d m (logged_by_beginning d) numbered (beginning_even d) (beginning_few n d has.numbered) (λ is. record { admitted = is.admitted; over = over_begun n d is.over }) at)
    (λ a then. part_goes n a m (ticked d) (logged_by_end m) (has_ticked d has).numbered (end_even m may) (end_few n m numbered) (λ is. record { admitted = is.admitted; over = over_finished n m may is.over }) then)

ticks_go : (k n : ℕ) (b : Bool) (d : Domain) → HasNumbers d → IsAt n d b → GoesOn n b (logged_by_ticks k d) (ticks k d)
ticks_go zero n b d has at = goes_nowhere n b d at
ticks_go (suc k) n b d has at =
    let e : Domain = ticks k d in
    goes_more n b (logged_by_ticks k d) (logged_by_tick e) e (ticked e) (ticks_go k n b d has at) (λ a then. tick_goes n a e (has_ticks k d has) then)

-- ---- CALLS that log nothing

-- what keeps the throttles of a number, and what is over
quiet : (n : ℕ) (b : Bool) (d e : Domain) → sum_by (opened_by n) e.tasks ≡ sum_by (opened_by n) d.tasks → (IsOver n d → IsOver n e) → IsAt n d b → IsAt n e b
quiet n b d e same stays (inl closes) = inl (closes ∙ sym same)
quiet n b d e same stays (inr over) = inr (stays over)

listed_at : (n : ℕ) (b : Bool) (d : Domain) (t : Task) → is_throttled t.condition ≡ false → list_any (λ (m : ℕ). eqb m t.number) d.used ≡ false → IsAt n d b → IsAt n (with_task_listed d t) b
listed_at n b d t free new at =
    let none : opened_by n t ≡ 0 = ap (λ x. cond {A = ℕ} (eqb t.number n && x) 1 0) free ∙ closed n t.number in
    let one : sum_by (opened_by n) (t ∷ []) ≡ 0 = sum_by-cons (opened_by n) t [] ∙ ap (λ k. k + 0) none in
    quiet n b d (with_task_listed d t) (omega (arith, sum_by-append (opened_by n) d.tasks (t ∷ []), one))
    (λ is. record {
      admitted = admitted_more d.used t.number n is.admitted;
      over = All-push (λ (u : Task). is_live n u ≡ false) d.tasks t is.over (ap (λ x. x && not (is_leaving t.condition)) (ne_eqb t.number n (λ e. not_fresh d.used t.number n new is.admitted (sym e))));
    }) at

-- where each task keeps its throttle
same_open_all : (n : ℕ) (f : Task → Task) (tasks : List Task) → All (λ t. opened_by n (f t) ≡ opened_by n t) tasks → sum_by (opened_by n) (map f tasks) ≡ sum_by (opened_by n) tasks
same_open_all n f [] same = refl
same_open_all n f (t ∷ tasks) same =
    let here : opened_by n (f t) ≡ opened_by n t = All-head (λ t. opened_by n (f t) ≡ opened_by n t) t tasks same in
    let rest = same_open_all n f tasks (All-tail (λ t. opened_by n (f t) ≡ opened_by n t) t tasks same) in
    omega (arith, sum_by-cons (opened_by n) (f t) (map f tasks), sum_by-cons (opened_by n) t tasks, here, rest)

regraded_at : (n : ℕ) (b : Bool) (d : Domain) (number : ℕ) (params : ParamsView) → IsAt n d b → IsAt n (with_task_changed d number (with_new_params params)) b
regraded_at n b d number params at =
    let f = of_number number (with_new_params params) in
    let same_open : (t : Task) → opened_by n (f t) ≡ opened_by n t = λ t. elim (eqb t.number number) as (λ x. opened_by n (cond x (with_new_params params t) t) ≡ opened_by n t) [ true ↦ refl | false ↦ refl ] in
    let keeps : (t : Task) → is_leaving t.condition ≡ true → is_leaving (f t).condition ≡ true = λ t is. elim (eqb t.number number) as (λ x. is_leaving (cond x (with_new_params params t) t).condition ≡ true) [ true ↦ is | false ↦ is ] in
    quiet n b d (with_task_changed d number (with_new_params params)) (same_open_all n f d.tasks (λ k e h. same_open (get_or d.tasks k e)))
    (λ is. record { admitted = is.admitted; over = over_map n f d.tasks (of_number_keeps number (with_new_params params) (λ t. refl)) keeps is.over }) at

-- ---- THE TASK OF A NUMBER

record IsFound (p : Task → Bool) (tasks : List Task) (t : Task) : Type 0 where
  place : ℕ
  within : place < length tasks
  there : get_or tasks place t ≡ t
  passes : p t ≡ true

found_at : (p : Task → Bool) (tasks : List Task) (t : Task) → find p tasks ≡ Some t → IsFound p tasks t
found_at p [] t e = absurd cc
found_at p (u ∷ tasks) t e =
    elim (p u) as (λ b. p u ≡ b → cond b (Some u) (find p tasks) ≡ Some t → IsFound p (u ∷ tasks) t) [
      | true ↦ λ is found. let same : u ≡ t = cc in record { place = zero; within = omega arith; there = same; passes = ap p (sym same) ∙ is }
      | false ↦ λ is found. let rest = found_at p tasks t found in record { place = suc rest.place; within = omega (arith, rest.within); there = rest.there; passes = rest.passes }
    ] refl e

and_left : (a b : Bool) → (a && b) ≡ true → a ≡ true
and_left true b e = refl
and_left false b e = e

-- no other one has its number
only_one : (tasks : List Task) (number : ℕ) (t : Task) → AreNumbered tasks → find (is_live number) tasks ≡ Some t → All (λ u. eqb u.number number ≡ true → u ≡ t) tasks
only_one tasks number t numbered found j e h named =
    let at = found_at (is_live number) tasks t found in
    let i = at.place in
    let there : get_or tasks i e ≡ t = get_or_default tasks i e t at.within ∙ at.there in
    let mine : (get_or tasks i e).number ≡ number = ap (λ (x : Task). x.number) there ∙ eqb-true t.number number (and_left (eqb t.number number) (not (is_leaving t.condition)) at.passes) in
    let its : (get_or tasks j e).number ≡ number = eqb-true (get_or tasks j e).number number named in
    elim (cases_lt i j) [
      | inl less ↦ absurd (numbered i j e less h (mine ∙ sym its))
      | inr at_least ↦ elim (cases_lt j i) [
        | inl more ↦ absurd (numbered j i e more at.within (its ∙ sym mine))
        | inr at_most ↦ let same : j ≡ i = omega (arith, at_least, at_most) in ap (λ k. get_or tasks k e) same ∙ there
      ]
    ]

-- a change of another number
other_open : (n number : ℕ) (f : Task → Task) (t : Task) → ((u : Task) → (f u).number ≡ u.number) → number ≢ n → opened_by n (of_number number f t) ≡ opened_by n t
other_open n number f t same other =
    elim (eqb t.number number) as (λ b. eqb t.number number ≡ b → opened_by n (cond b (f t) t) ≡ opened_by n t) [
      | true ↦ λ e.
          let apart : eqb t.number n ≡ false = ne_eqb t.number n (λ k. other (sym (eqb-true t.number number e) ∙ k)) in
          ap (λ (m : ℕ). cond {A = ℕ} (eqb m n && is_throttled (f t).condition) 1 0) (same t)
          ∙ ap (λ x. cond {A = ℕ} (x && is_throttled (f t).condition) 1 0) apart ∙ sym (ap (λ x. cond {A = ℕ} (x && is_throttled t.condition) 1 0) apart)
      | false ↦ λ e. refl
    ] refl

other_over : (n number : ℕ) (f : Task → Task) (t : Task) → ((u : Task) → (f u).number ≡ u.number) → number ≢ n → is_live n t ≡ false → is_live n (of_number number f t) ≡ false
other_over n number f t same other over =
    elim (eqb t.number number) as (λ b. eqb t.number number ≡ b → is_live n (cond b (f t) t) ≡ false) [
      | true ↦ λ e.
          let apart : eqb t.number n ≡ false = ne_eqb t.number n (λ k. other (sym (eqb-true t.number number e) ∙ k)) in
          ap (λ (m : ℕ). eqb m n && not (is_leaving (f t).condition)) (same t) ∙ ap (λ x. x && not (is_leaving (f t).condition)) apart
      | false ↦ λ e. over
    ] refl

other_at : (n : ℕ) (b : Bool) (d : Domain) (number : ℕ) (f : Task → Task) → ((u : Task) → (f u).number ≡ u.number) → number ≢ n → IsAt n d b → IsAt n (with_task_changed d number f) b
other_at n b d number f same other at =
    quiet n b d (with_task_changed d number f) (same_open_all n (of_number number f) d.tasks (λ k e h. other_open n number f (get_or d.tasks k e) same other))
    (λ is. record { admitted = is.admitted; over = All-map (λ (t : Task). is_live n t ≡ false) (of_number number f) d.tasks (λ k e h. other_over n number f (get_or d.tasks k e) same other (is.over k e h)) }) at

-- one that is over is not found
over_lost : (n : ℕ) (tasks : List Task) (t : Task) → AreOver n tasks → find (is_live n) tasks ≡ Some t → ⊥
over_lost n tasks t over found =
    let at = found_at (is_live n) tasks t found in
    let no : true ≡ false = sym at.passes ∙ ap (is_live n) (sym at.there) ∙ over at.place t at.within in
    true_not_false no
  where
    true_not_false : true ≡ false → ⊥
    true_not_false e = absurd cc

-- ---- WAKE: its task waits, so it has no throttle
wake_found : (o : Option Task) → is_refusal (wake_reply o) ≡ false → (t : Task) × (o ≡ Some t) × (is_waiting t.condition ≡ true)
wake_found None e = absurd cc
wake_found (Some t) e = (t, refl, waits (is_waiting t.condition) refl e)
  where
    waits : (b : Bool) → is_waiting t.condition ≡ b → is_refusal (cond b Woken NotWaiting) ≡ false → is_waiting t.condition ≡ true
    waits true is k = is
    waits false is k = absurd cc

waiting_open : (n : ℕ) (t : Task) → is_waiting t.condition ≡ true → opened_by n t ≡ 0
waiting_open n t is = by_condition t.condition is
  where
    by_condition : (c : Condition) → is_waiting c ≡ true → cond {A = ℕ} (eqb t.number n && is_throttled c) 1 0 ≡ 0
    by_condition Waiting e = closed n t.number
    by_condition Ready e = absurd cc
    by_condition Throttled e = absurd cc
    by_condition (Blocked u) e = absurd cc
    by_condition Leaving e = absurd cc

wake_at : (n : ℕ) (b : Bool) (d : Domain) (number : ℕ) → HasNumbers d → is_refusal (wake_reply (task_of d number)) ≡ false → IsAt n d b → IsAt n (with_task_changed d number (blocked_until d.time)) b
wake_at n b d number has after_granted at =
    elim (eqb number n) as (λ x. eqb number n ≡ x → IsAt n (with_task_changed d number (blocked_until d.time)) b) [
      | true ↦ λ e. mine (eqb-true number n e)
      | false ↦ λ e. other_at n b d number (blocked_until d.time) (λ u. refl) (λ same. differ (sym e ∙ eq-eqb number n same)) at
    ] refl
  where
    differ : false ≡ true → ⊥
    differ e = absurd cc

    mine : number ≡ n → IsAt n (with_task_changed d number (blocked_until d.time)) b
    mine same =
        let (t, found, waits) = wake_found (task_of d number) after_granted in
        let f = of_number number (blocked_until d.time) in
        let only = only_one d.tasks number t has.numbered found in
        let each : (u : Task) → (eqb u.number number ≡ true → u ≡ t) → opened_by n (f u) ≡ opened_by n u = λ u is.
        elim (eqb u.number number) as (λ x. eqb u.number number ≡ x → opened_by n (cond x (blocked_until d.time u) u) ≡ opened_by n u) [
          | true ↦ λ e. closed n u.number ∙ sym (ap (opened_by n) (is e) ∙ waiting_open n t waits)
          | false ↦ λ e. refl
        ] refl in
        quiet n b d (with_task_changed d number (blocked_until d.time)) (same_open_all n f d.tasks (λ k e h. each (get_or d.tasks k e) (only k e h)))
        (λ is. absurd (over_lost number d.tasks t (subst (λ (m : ℕ). AreOver m d.tasks) (sym same) is.over) found)) at

-- ---- LEAVE AND DEPART: its job is cut, and it is over

cut_none : (n : ℕ) (d : Domain) (number : ℕ) (f : Happened → ℕ) → ((t : Task) → f (happened_to d.time t Cut) ≡ 0) → sum_by f (logged_by_cut d number) ≡ 0
cut_none n d number f none = all (filter (λ t. eqb t.number number) d.tasks)
  where
    all : (tasks : List Task) → sum_by f (map (λ t. happened_to d.time t Cut) tasks) ≡ 0
    all [] = refl
    all (t ∷ tasks) = omega (arith, sum_by-cons f (happened_to d.time t Cut) (map (λ t. happened_to d.time t Cut) tasks), none t, all tasks)

cut_steps : (n : ℕ) (b : Bool) (d : Domain) (number : ℕ) → StepsOf n b (logged_by_cut d number) b
cut_steps n b d number =
    let t = cut_none n d number (throttled_by n) (λ u. closed n u.number) in
    let r = cut_none n d number (replenished_by n) (λ u. closed n u.number) in
    steps_by n b b (logged_by_cut d number) (omega (arith, t, r)) (omega (arith, t, r))

leave_found : (o : Option Task) → is_refusal (leave_reply o) ≡ false → (t : Task) × (o ≡ Some t)
leave_found None e = absurd cc
leave_found (Some t) e = (t, refl)

depart_found : (o : Option Task) → is_refusal (depart_reply o) ≡ false → (t : Task) × (o ≡ Some t)
depart_found None e = absurd cc
depart_found (Some t) e = (t, refl)

-- who is found was admitted
found_admitted : (d : Domain) (number : ℕ) (t : Task) → HasNumbers d → task_of d number ≡ Some t → IsAdmitted d.used number
found_admitted d number t has found =
    let at = found_at (is_live number) d.tasks t found in
    let mine : (get_or d.tasks at.place t).number ≡ number = ap (λ (x : Task). x.number) at.there ∙ eqb-true t.number number (and_left (eqb t.number number) (not (is_leaving t.condition)) at.passes) in
    subst (λ (m : ℕ). IsAdmitted d.used m) mine (has.known at.place t at.within)

ended_leaves : (time : ℕ) (t : Task) → is_leaving (ended_at time t).condition ≡ true
ended_leaves time t = elim (is_contending t.condition) as (λ b. is_leaving (cond b (stopped time Leaving t) (record t { condition = Leaving })).condition ≡ true) [ true ↦ refl | false ↦ refl ]

ended_over : (time number : ℕ) (t : Task) → is_live number (of_number number (ended_at time) t) ≡ false
ended_over time number t =
    elim (eqb t.number number) as (λ b. eqb t.number number ≡ b → is_live number (cond b (ended_at time t) t) ≡ false) [
      | true ↦ λ e. ap (λ x. eqb (ended_at time t).number number && not x) (ended_leaves time t) ∙ none (eqb (ended_at time t).number number)
      | false ↦ λ e. ap (λ x. x && not (is_leaving t.condition)) e
    ] refl
  where
    none : (a : Bool) → (a && false) ≡ false
    none true = refl
    none false = refl

leave_goes : (n : ℕ) (b : Bool) (d : Domain) (number : ℕ) → HasNumbers d → is_refusal (leave_reply (task_of d number)) ≡ false → IsAt n d b → GoesOn n b (logged_by_cut d number) (with_task_changed d number (ended_at d.time))
leave_goes n b d number has after_granted at = record { after = b; steps = cut_steps n b d number; at = then }
  where
    differ : false ≡ true → ⊥
    differ e = absurd cc

    mine : number ≡ n → IsAt n (with_task_changed d number (ended_at d.time)) b
    mine same =
        let (t, found) = leave_found (task_of d number) after_granted in
        let over : AreOver number (with_task_changed d number (ended_at d.time)).tasks = All-map (λ (u : Task). is_live number u ≡ false) (of_number number (ended_at d.time)) d.tasks (λ k e h. ended_over d.time number (get_or d.tasks k e)) in
        inr (record { admitted = subst (λ (m : ℕ). IsAdmitted d.used m) same (found_admitted d number t has found); over = subst (λ (m : ℕ). AreOver m (with_task_changed d number (ended_at d.time)).tasks) same over })

    then : IsAt n (with_task_changed d number (ended_at d.time)) b
    then = elim (eqb number n) as (λ x. eqb number n ≡ x → IsAt n (with_task_changed d number (ended_at d.time)) b) [
      | true ↦ λ e. mine (eqb-true number n e)
      | false ↦ λ e. other_at n b d number (ended_at d.time) (number_ended d.time) (λ same. differ (sym e ∙ eq-eqb number n same)) at
    ] refl

-- the others stay
others_open : (n number : ℕ) (tasks : List Task) → number ≢ n → sum_by (opened_by n) (filter (is_other number) tasks) ≡ sum_by (opened_by n) tasks
others_open n number [] other = refl
others_open n number (t ∷ tasks) other =
    let rest = others_open n number tasks other in
    elim (eqb t.number number) as (λ b. eqb t.number number ≡ b → sum_by (opened_by n) (cond (not b) (t ∷ filter (is_other number) tasks) (filter (is_other number) tasks)) ≡ sum_by (opened_by n) (t ∷ tasks)) [
      | true ↦ λ e.
          let apart : eqb t.number n ≡ false = ne_eqb t.number n (λ k. other (sym (eqb-true t.number number e) ∙ k)) in
          let none : opened_by n t ≡ 0 = ap (λ x. cond {A = ℕ} (x && is_throttled t.condition) 1 0) apart in
          omega (arith, rest, none, sum_by-cons (opened_by n) t tasks)
      | false ↦ λ e. omega (arith, rest, sum_by-cons (opened_by n) t (filter (is_other number) tasks), sum_by-cons (opened_by n) t tasks)
    ] refl

departed_over : (number : ℕ) (tasks : List Task) → AreOver number (filter (is_other number) tasks)
departed_over number [] = All-nil (λ (t : Task). is_live number t ≡ false)
departed_over number (t ∷ tasks) =
    elim (eqb t.number number) as (λ b. eqb t.number number ≡ b → AreOver number (cond (not b) (t ∷ filter (is_other number) tasks) (filter (is_other number) tasks))) [
      | true ↦ λ e. departed_over number tasks
      | false ↦ λ e. All-cons (λ (u : Task). is_live number u ≡ false) t (filter (is_other number) tasks) (ap (λ x. x && not (is_leaving t.condition)) e) (departed_over number tasks)
    ] refl

depart_goes : (n : ℕ) (b : Bool) (d : Domain) (number : ℕ) → HasNumbers d → is_refusal (depart_reply (task_of d number)) ≡ false → IsAt n d b → GoesOn n b (logged_by_cut d number) (after_departure d number)
depart_goes n b d number has after_granted at = record { after = b; steps = cut_steps n b d number; at = then }
  where
    differ : false ≡ true → ⊥
    differ e = absurd cc

    mine : number ≡ n → IsAt n (after_departure d number) b
    mine same =
        let (t, found) = depart_found (task_of d number) after_granted in
        inr (record { admitted = subst (λ (m : ℕ). IsAdmitted d.used m) same (found_admitted d number t has found); over = subst (λ (m : ℕ). AreOver m (after_departure d number).tasks) same (departed_over number d.tasks) })

    then : IsAt n (after_departure d number) b
    then = elim (eqb number n) as (λ x. eqb number n ≡ x → IsAt n (after_departure d number) b) [
      | true ↦ λ e. mine (eqb-true number n e)
      | false ↦ λ e. quiet n b d (after_departure d number) (others_open n number d.tasks (λ same. differ (sym e ∙ eq-eqb number n same)))
          (λ is. record { admitted = is.admitted; over = All-filter (is_other number) (λ (t : Task). is_live n t ≡ false) d.tasks is.over }) at
    ] refl

-- ---- A CALL, AND A RUN

silent : (n : ℕ) (b : Bool) (e : Domain) → IsAt n e b → GoesOn n b [] e
silent n b e at = goes_nowhere n b e at

granted_goes : (n : ℕ) (b : Bool) (d : Domain) (c : Call) → HasNumbers d → is_refusal (reply_to d c) ≡ false → IsAt n d b → GoesOn n b (logged_by_granted d c) (after_granted d c)
granted_goes n b d (Admit number name params delay script) has is at = let t : Task = new_task d number name params delay script in silent n b (with_task_listed d t) (listed_at n b d t refl (fresh d number params is) at)
granted_goes n b d (Regrade number params word) has is at = silent n b (with_task_changed d number (with_new_params params)) (regraded_at n b d number params at)
granted_goes n b d (Wake number) has is at = silent n b (with_task_changed d number (blocked_until d.time)) (wake_at n b d number has is at)
granted_goes n b d (Leave number) has is at = leave_goes n b d number has is at
granted_goes n b d (Advance k) has is at = ticks_go k n b d has at
granted_goes n b d (Limit limit word) has is at = silent n b (with_limit limit d) (quiet n b d (with_limit limit d) refl (λ o. record { admitted = o.admitted; over = o.over }) at)
granted_goes n b d (Depart number) has is at = depart_goes n b d number has is at
granted_goes n b d (Arrive number name params script) has is at = let t : Task = new_task d number name params 0 script in silent n b (with_task_listed d t) (listed_at n b d t refl (fresh d number params is) at)

either_goes : (n : ℕ) (b refused : Bool) (d e : Domain) (hs : List Happened) → IsAt n d b → (refused ≡ false → GoesOn n b hs e) → GoesOn n b (cond refused [] hs) (cond refused d e)
either_goes n b true d e hs at more = goes_nowhere n b d at
either_goes n b false d e hs at more = more refl

call_goes : (n : ℕ) (b : Bool) (d : Domain) (c : Call) → HasNumbers d → IsAt n d b → GoesOn n b (logged_by_call d c) (after_call d c)
call_goes n b d c has at = either_goes n b (is_refusal (reply_to d c)) d (after_granted d c) (logged_by_granted d c) at (λ is. granted_goes n b d c has is at)

calls_go : (n : ℕ) (b : Bool) (d : Domain) (calls : List Call) → HasNumbers d → IsAt n d b → GoesOn n b (logged_by_calls d calls) (after_calls d calls)
calls_go n b d [] has at = goes_nowhere n b d at
calls_go n b d (c ∷ calls) has at =
    let e : Domain = after_call d c in
    goes_more n b (logged_by_call d c) (logged_by_calls e calls) e (after_calls e calls) (call_goes n b d c has at) (λ a then. calls_go n a e calls (has_call d c has) then)

has_opened : (cpus limit : ℕ) → HasNumbers (empty_domain cpus limit)
has_opened cpus limit = record { numbered = λ i j d less within. absurd (omega (arith, within)); known = All-nil (λ (t : Task). IsAdmitted [] t.number) }

-- of a whole run, each task's throttles and replenishments come in turn
pub run_turns : (cpus limit : ℕ) (calls : List Call) (n : ℕ) → come_in_turn false (of_task n (logged_by_calls (empty_domain cpus limit) calls)) ≡ true
run_turns cpus limit calls n = (calls_go n false (empty_domain cpus limit) calls (has_opened cpus limit) (inl refl)).steps.0

-- so there are as many, or one throttle more
pub run_counted : (cpus limit : ℕ) (calls : List Call) (n : ℕ) → let own = of_task n (logged_by_calls (empty_domain cpus limit) calls) in throttled_of own ≡ replenished_of own + bit (is_left_throttled false own)
run_counted cpus limit calls n =
    let own = of_task n (logged_by_calls (empty_domain cpus limit) calls) in
    omega (arith, turns_counted own false (run_turns cpus limit calls n))
