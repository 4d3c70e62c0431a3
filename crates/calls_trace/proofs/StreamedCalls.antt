-- Calls that are made on a run that is streamed.
use Rattle.std.proofs.Common.{◌≡◌, ℕ, suc, Bool, true, false, cond, ltb, eqb, ◌+◌, ◌-◌, ◌*◌, ◌^◌, ◌<◌, ◌≤◌, List, [], ◌∷◌, ◌++◌, length, map, refl, sym, ap, subst, ◌∙◌, arith}
use Rattle.std.specs.Prelude.{All, AllPairs, Contains, IsTrue, OnOk, Result, Ok, Err, filter}
use Rattle.std.proofs.lemmas.List.{append-nil, append_assoc, length-append, length-map, map-append}
use Rattle.std.proofs.lemmas.List.Elements.{All-nil, All-cons, All-head, All-tail, All-append, All-map, All-weaker}
use Rattle.std.proofs.lemmas.List.Sums.{sum_by-cons}
use Rattle.attr_check.specs.ParamsView.{ParamsView}
use Rattle.domain_run.specs.declared.call.Call.{Call}
use Rattle.domain_run.specs.declared.call.Call.TheVariants.{Admit, Regrade, Wake, Leave, Advance, Limit, Depart, Arrive}
use Rattle.domain_run.specs.declared.call.Reply.{Reply}
use Rattle.domain_run.specs.declared.happened.Happened.{Happened}
use Rattle.domain_run.specs.declared.happened.What.TheVariants.{Cut}
use Rattle.domain_run.specs.declared.task.Task.{Task}
use Rattle.domain_run.specs.Domain.{Domain, empty_domain}
use Rattle.domain_run.specs.Log.{LogView, HasLogged}
use Rattle.domain_run.specs.Switch.{Switch}
use Rattle.domain_run.specs.Passing.{with_past, without_switches}
use Rattle.domain_run.specs.Calls.{reply_to, is_refusal, with_number, after_granted, after_call}
use Rattle.domain_run.specs.Happened.{happened_to, logged_by_cut, logged_by_call, logged_by_calls, logged_by_ticks}
use Rattle.domain_run.specs.Run.{after_calls}
use Rattle.domain_run.specs.Sound.{IsAdmitted, IsDomain}
use Rattle.domain_run.specs.Tick.{ticks}
use Rattle.domain_run.proofs.CallerLemmas.{after_call_after, ticks_after, logged_by_ticks_after, call_cpus, ticks_time, logged_few}
use Rattle.domain_run.specs.Switches.{is_switch_before}
use Rattle.calls_text.specs.Limits.{IsCall}
use Rattle.run_figures.specs.declared.run.Admitted.{Admitted}
use Rattle.run_figures.specs.declared.figures.TaskFigures.{TaskFigures}
use Rattle.run_figures.specs.declared.figures.CpuFigures.{CpuFigures}
use Rattle.run_figures.specs.Figures.{task_figures, cpu_figures}
use Rattle.run_figures.specs.Accounting.{AccountingView, streamed_run, with_piece}
use Rattle.streamed_run.specs.Streamed.{IsStreamedUpTo}
use Rattle.calls_text.specs.SectionView.{SectionView}
use Rattle.figure_text.specs.Summary.{SummaryView, summary_text}
use Rattle.run_options.specs.declared.replay_print.ReplayPrint.TheVariants as prints
use Rattle.switch_text.specs.Names.{Names, name_of_task, HasName}
use Rattle.calls_trace.specs.declared.foreseen.Foreseen.{Foreseen}
use Rattle.calls_trace.specs.declared.streaming.Streaming.{Streaming}
use Rattle.calls_trace.specs.declared.summed_run.SummedRun.{SummedRun}
use Rattle.calls_trace.specs.declared.run_text.RunText.TheVariants.{Summary}
use Rattle.calls_trace.specs.Replay.{names_of, names_after, named_by, no_names}
use Rattle.calls_trace.specs.DomainEvents.{params_by_calls, params_after, params_by, no_params, admitted_with_params, summary_view}
use Rattle.calls_trace.specs.private.Calls.{ticks_given}
use Rattle.calls_trace.specs.private.Foreseen.{IsForelogged, IsForeseen, AreCallsOf, all_ticks}
use Rattle.calls_trace.specs.private.Streaming.{LedView, IsStreamedBefore, led_by, led_to, figures_led, summary_led}
use Rattle.calls_trace.specs.private.Replaying.{AdmittedHaveNames, MapGives, Given, GivesParams, given_in}
use Rattle.calls_trace.specs.private.RunTexts.{text_of_all}
use Rattle.calls_trace.specs.private.Summed.{summed_as}
use Rattle.calls_trace.specs.private.Counting.{summary_of_domain}
use Rattle.calls_trace.proofs.Figured.{figured_is}
use Rattle.calls_trace.proofs.Keeping.{reply_after}
use Rattle.calls_trace.proofs.Naming.{ticks_used}
use Rattle.calls_trace.proofs.Starting.{no_switch, no_time}
use Rattle.calls_trace.proofs.Texts.{text_is}

-- ---- what was before changes nothing that a call names, gives or tells

pub named_after : (past : List Switch) (d : Domain) (c : Call) (names : ℕ → List ℕ) → names_after (with_past past d) c names ≡ names_after d c names
named_after past d c names = ap (λ (r : Reply). cond (is_refusal r) names (named_by c names)) (reply_after past d c)

pub given_after : (past : List Switch) (d : Domain) (c : Call) (given : ℕ → ParamsView) → params_after (with_past past d) c given ≡ params_after d c given
given_after past d c given = ap (λ (r : Reply). cond (is_refusal r) given (params_by c given)) (reply_after past d c)

pub entries_after : (past : List Switch) (d : Domain) (c : Call) → logged_by_call (with_past past d) c ≡ logged_by_call d c
entries_after past d (Admit number name params delay script) = refl
entries_after past d (Regrade number params word) = refl
entries_after past d (Wake number) = refl
entries_after past d (Leave number) = refl
entries_after past d (Advance k) = logged_by_ticks_after k past d
entries_after past d (Limit limit word) = refl
entries_after past d (Depart number) = refl
entries_after past d (Arrive number name params script) = refl

-- ---- one call is made

-- what calls lead to, from a domain, names, parameters and what happened before
abbrev pub led_from : Domain → List Call → (ℕ → List ℕ) → (ℕ → ParamsView) → List Happened → LedView
led_from d calls names given hs = record {
  domain = after_calls d calls;
  names = names_of d calls names;
  given = params_by_calls d calls given;
  happened = hs ++ logged_by_calls d calls;
}

pub one_made : (d is : Domain) (c : Call) (cs : List Call) (names named : ℕ → List ℕ) (given known : ℕ → ParamsView) (hs gs : List Happened) → is ≡ after_call d c → named ≡ names_after d c names → known ≡ params_after d c given → gs ≡ hs ++ logged_by_call d c
    → led_from is cs named known gs ≡ led_from d (c ∷ cs) names given hs
one_made d is c cs names named given known hs gs made calls params logged =
    let e = after_call d c in
    ap (λ (x : Domain). led_from x cs named known gs) made
    ∙ ap (λ (f : ℕ → List ℕ). led_from e cs f known gs) calls
    ∙ ap (λ (g : ℕ → ParamsView). led_from e cs (names_after d c names) g gs) params
    ∙ ap (λ (xs : List Happened). led_from e cs (names_after d c names) (params_after d c given) xs) logged
    ∙ ap (λ (xs : List Happened). record { domain = after_calls e cs; names = names_of e cs (names_after d c names); given = params_by_calls e cs (params_after d c given); happened = xs })
    (append_assoc hs (logged_by_call d c) (logged_by_calls e cs))

-- on a domain whose earlier switches are forgotten
pub made_after : (past : List Switch) (e is : Domain) (c : Call) (cs : List Call) (names named : ℕ → List ℕ) (given known : ℕ → ParamsView) (streamed log logged : List Happened) → is ≡ after_call e c → ((n : ℕ) → named n ≡ names_after e c names n) → ((n : ℕ) → known n ≡ params_after e c given n) → logged ≡ log ++ logged_by_call e c
    → led_from (with_past past is) cs named known (streamed ++ logged) ≡ led_from (with_past past e) (c ∷ cs) names given (streamed ++ log)
made_after past e is c cs names named given known streamed log logged made calls params more =
    let d = with_past past e in
    let all_named : named ≡ names_after e c names = λ i n. calls n i in
    let all_known : known ≡ params_after e c given = λ i n. params n i in
    one_made d (with_past past is) c cs names named given known (streamed ++ log) (streamed ++ logged)
    (ap (with_past past) made ∙ sym (after_call_after past e c))
    (all_named ∙ sym (named_after past e c names))
    (all_known ∙ sym (given_after past e c given))
    (ap (λ (hs : List Happened). streamed ++ hs) more ∙ sym (append_assoc streamed log (logged_by_call e c)) ∙ ap (λ (hs : List Happened). (streamed ++ log) ++ hs) (sym (entries_after past e c)))

-- ticks that are streamed at once
pub streamed_after : (past : List Switch) (e is : Domain) (n : ℕ) → is ≡ without_switches (ticks n e) → with_past (past ++ (ticks n e).switches) is ≡ ticks n (with_past past e)
streamed_after past e is n made =
    let b = ticks n e in
    ap (with_past (past ++ b.switches)) made
    ∙ ap (λ (ss : List Switch). record b { switches = ss }) (append-nil (past ++ b.switches))
    ∙ sym (ticks_after n past e)

pub advance_after : (past : List Switch) (e is : Domain) (n : ℕ) (cs : List Call) (names : ℕ → List ℕ) (given : ℕ → ParamsView) (was now : AccountingView) (log left : List Happened) → was.switches ≡ past → is ≡ without_switches (ticks n e)
    → now.happened ≡ was.happened ++ (log ++ logged_by_ticks n e) → now.switches ≡ past ++ (ticks n e).switches → left ≡ []
    → led_from (with_past now.switches is) cs names given (now.happened ++ left) ≡ led_from (with_past past e) (Advance n ∷ cs) names given (was.happened ++ log)
advance_after past e is n cs names given was now log left before made streamed switches none =
    one_made (with_past past e) (with_past now.switches is) (Advance n) cs names names given given (was.happened ++ log) (now.happened ++ left)
    (ap (λ (ss : List Switch). with_past ss is) switches ∙ streamed_after past e is n made)
    refl refl
    (ap (λ (hs : List Happened). now.happened ++ hs) none ∙ append-nil now.happened ∙ streamed ∙ sym (append_assoc was.happened log (logged_by_ticks n e)) ∙ ap (λ (hs : List Happened). (was.happened ++ log) ++ hs) (sym (logged_by_ticks_after n past e)))

-- ---- what a call logs that makes no tick

-- at most 256 things, at this time
abbrev pub IsFewAt : ℕ → List Happened → Type 0
IsFewAt time hs = All (λ h. h.time ≡ time) hs × (length hs ≤ 256)

none_at : (time : ℕ) → IsFewAt time []
none_at time = (All-nil (λ h. h.time ≡ time), omega arith)

filtered_few : (p : Task → Bool) (ts : List Task) → length (filter p ts) ≤ length ts
filtered_few p [] = omega arith
filtered_few p (t ∷ ts) = let rest = filtered_few p ts in elim (p t) as (λ b. length (cond b (t ∷ filter p ts) (filter p ts)) ≤ suc (length ts)) [ true ↦ omega (arith, rest) | false ↦ omega (arith, rest) ]

cut_at : (d : Domain) (number : ℕ) → length d.tasks ≤ 256 → IsFewAt d.time (logged_by_cut d number)
cut_at d number few =
    let cut : List Task = filter (λ t. eqb t.number number) d.tasks in (
      All-map (λ (h : Happened). h.time ≡ d.time) (λ (t : Task). happened_to d.time t Cut) cut (λ k t l. refl),
      omega (arith, length-map cut (λ (t : Task). happened_to d.time t Cut), filtered_few (λ t. eqb t.number number) d.tasks, few),
    )

either_at : (b : Bool) (time : ℕ) (hs : List Happened) → IsFewAt time hs → IsFewAt time (cond b [] hs)
either_at true time hs few = none_at time
either_at false time hs few = few

pub call_logs_few : (d : Domain) (c : Call) → length d.tasks ≤ 256 → ticks_given c ≡ 0 → IsFewAt d.time (logged_by_call d c)
call_logs_few d (Admit number name params delay script) few none = either_at (is_refusal (reply_to d (Admit number name params delay script))) d.time [] (none_at d.time)
call_logs_few d (Regrade number params word) few none = either_at (is_refusal (reply_to d (Regrade number params word))) d.time [] (none_at d.time)
call_logs_few d (Wake number) few none = either_at (is_refusal (reply_to d (Wake number))) d.time [] (none_at d.time)
call_logs_few d (Leave number) few none = either_at (is_refusal (reply_to d (Leave number))) d.time (logged_by_cut d number) (cut_at d number few)
call_logs_few d (Advance k) few none = subst (λ (n : ℕ). IsFewAt d.time (logged_by_ticks n d)) (sym none) (none_at d.time)
call_logs_few d (Limit limit word) few none = either_at (is_refusal (reply_to d (Limit limit word))) d.time [] (none_at d.time)
call_logs_few d (Depart number) few none = either_at (is_refusal (reply_to d (Depart number))) d.time (logged_by_cut d number) (cut_at d number few)
call_logs_few d (Arrive number name params script) few none = either_at (is_refusal (reply_to d (Arrive number name params script))) d.time [] (none_at d.time)

-- ---- a run that was streamed up to here is so after a call without a tick

pub still_streamed : (d e : Domain) (since : List Happened) (c : Call) (a : AccountingView) (left : ℕ) → IsDomain d → ticks_given c ≡ 0 → e ≡ after_call d c → IsStreamedUpTo d since a → length a.happened + length since + 2304 * (2 ^ 42 - d.time) + 256 * suc left ≤ 2 ^ 63
    → IsStreamedUpTo e (since ++ logged_by_call d c) a
still_streamed d e since c a left is none made h few =
    let logged = logged_by_call d c in
    let at = call_logs_few d c is.steady.listed none in
    let time : e.time ≡ d.time = ap (λ (x : Domain). x.time) made ∙ no_time d c none in
    let cpus : e.cpus ≡ d.cpus = ap (λ (x : Domain). x.cpus) made ∙ call_cpus d c in
    let switches : e.switches ≡ d.switches = ap (λ (x : Domain). x.switches) made ∙ no_switch d c none in
    let long = length-append since logged in
    let next = h.next in
    record {
      same_cpus = h.same_cpus ∙ sym cpus;
      next = record {
        logged = subst (All (λ s. All (λ g. g.time ≤ s.time) a.happened)) (sym switches) next.logged;
        later = All-append (λ (g : Happened). All (λ s. s.time < g.time) a.switches) since logged next.later
            (All-weaker (λ (g : Happened). g.time ≡ d.time) (λ (g : Happened). All (λ s. s.time < g.time) a.switches) (λ g same. All-weaker (λ (s : Switch). s.time < d.time) (λ (s : Switch). s.time < g.time) (λ s l. omega (arith, l, same)) a.switches h.past) logged at.0);
        rising = subst (λ (ss : List Switch). AllPairs (λ x y. IsTrue (is_switch_before x y)) (a.switches ++ ss)) (sym switches) next.rising;
        past = subst (All (λ s. s.time ≤ a.time)) (sym switches) next.past;
        inside = subst (All (λ s. s.cpu < a.cpus)) (sym switches) next.inside;
        few_happened = omega (arith, long, at.1, few);
        few_switches = omega (arith, ap (λ (ss : List Switch). length ss) switches, next.few_switches);
      };
      past = All-weaker (λ (s : Switch). s.time < d.time) (λ (s : Switch). s.time < e.time) (λ s l. omega (arith, l, time)) a.switches h.past;
      inside = All-weaker (λ (s : Switch). s.cpu < d.cpus) (λ (s : Switch). s.cpu < e.cpus) (λ s l. omega (arith, l, cpus)) a.switches h.inside;
      logged = All-weaker (λ (g : Happened). g.time ≤ d.time) (λ (g : Happened). g.time ≤ e.time) (λ g l. omega (arith, l, time)) a.happened h.logged;
      logged_since = All-append (λ (g : Happened). g.time ≤ e.time) since logged
          (All-weaker (λ (g : Happened). g.time ≤ d.time) (λ (g : Happened). g.time ≤ e.time) (λ g l. omega (arith, l, time)) since h.logged_since)
          (All-weaker (λ (g : Happened). g.time ≡ d.time) (λ (g : Happened). g.time ≤ e.time) (λ g same. omega (arith, same, time)) logged at.0);
      few = omega (arith, long, at.1, few, time);
    }

-- ---- the tasks are among those that were foretold

among_number : (P : ℕ → Type 0) (n : ℕ) (used : List ℕ) → P n → All P used → All P (with_number n used)
among_number P n [] one all = All-cons P n [] one all
among_number P n (m ∷ ms) one all =
    let first = All-head P m ms all in
    let rest = among_number P n ms one (All-tail P m ms all) in
    elim (ltb n m) as (λ b. All P (cond b (n ∷ m ∷ ms) (m ∷ with_number n ms))) [
      | true ↦ All-cons P n (m ∷ ms) one all
      | false ↦ All-cons P m (with_number n ms) first rest
    ]

either_among : (b : Bool) (P : ℕ → Type 0) (d e : Domain) → All P d.used → All P e.used → All P (cond b d e).used
either_among true P d e old new = old
either_among false P d e old new = new

pub still_among : (tasks : List ℕ) (d e : Domain) (c : Call) → e ≡ after_call d c → IsForelogged tasks c → All (Contains tasks) d.used → All (Contains tasks) e.used
still_among tasks d e c made logged all = subst (λ (x : Domain). All (Contains tasks) x.used) (sym made) (by c logged)
  where
    by : (c : Call) → IsForelogged tasks c → All (Contains tasks) (after_call d c).used
    by (Admit number name params delay script) logged = let c = Admit number name params delay script in either_among (is_refusal (reply_to d c)) (Contains tasks) d (after_granted d c) all (among_number (Contains tasks) number d.used logged all)
    by (Regrade number params word) logged = let c = Regrade number params word in either_among (is_refusal (reply_to d c)) (Contains tasks) d (after_granted d c) all all
    by (Wake number) logged = either_among (is_refusal (reply_to d (Wake number))) (Contains tasks) d (after_granted d (Wake number)) all all
    by (Leave number) logged = either_among (is_refusal (reply_to d (Leave number))) (Contains tasks) d (after_granted d (Leave number)) all all
    by (Advance k) logged = subst (All (Contains tasks)) (sym (ticks_used k d)) all
    by (Limit limit word) logged = either_among (is_refusal (reply_to d (Limit limit word))) (Contains tasks) d (after_granted d (Limit limit word)) all all
    by (Depart number) logged = either_among (is_refusal (reply_to d (Depart number))) (Contains tasks) d (after_granted d (Depart number)) all all
    by (Arrive number name params script) logged = let c = Arrive number name params script in either_among (is_refusal (reply_to d c)) (Contains tasks) d (after_granted d c) all (among_number (Contains tasks) number d.used logged all)

pub ticks_of_first : (c : Call) (cs : List Call) → all_ticks (c ∷ cs) ≡ ticks_given c + all_ticks cs
ticks_of_first c cs = sum_by-cons ticks_given c cs

-- ---- what several Oks say

pub on_ok3 : {T E : Type 0} (r : Result T E) (P Q R S : Type 0) → (P → Q → R → S) → OnOk r P → OnOk r Q → OnOk r R → OnOk r S
on_ok3 (Ok x) P Q R S f p q h = f p q h
on_ok3 (Err e) P Q R S f p q h = tt

pub on_ok4 : {T E : Type 0} (r : Result T E) (P Q R S U : Type 0) → (P → Q → R → S → U) → OnOk r P → OnOk r Q → OnOk r R → OnOk r S → OnOk r U
on_ok4 (Ok x) P Q R S U f p q h s = f p q h s
on_ok4 (Err e) P Q R S U f p q h s = tt

-- ---- the step of a run that is streamed

-- what a log that wants it was logged
pub was_logged : (log now : LogView) (logged : List Happened) → log.wanted ≡ true → HasLogged log logged now → now.happened ≡ log.happened ++ logged
was_logged log now logged wanted has_logged = has_logged.happened ∙ ap (λ (b : Bool). log.happened ++ cond b logged []) wanted

pub call_before : (h k : Streaming) (c : Call) → IsDomain h.run.state → ticks_given c ≡ 0 → IsStreamedBefore h (c ∷ h.calls) → k.calls ≡ h.calls → k.accounting ≡ h.accounting → k.run.state ≡ after_call h.run.state c → HasLogged h.run.log (logged_by_call h.run.state c) k.run.log → AdmittedHaveNames k.run.state k.run.names
    → IsStreamedBefore k k.calls
call_before h k c is none b calls accounting made has_logged named =
    let e = h.run.state in
    let a = h.accounting in
    let time : k.run.state.time ≡ e.time = ap (λ (x : Domain). x.time) made ∙ no_time e c none in
    let logged : k.run.log.happened ≡ h.run.log.happened ++ logged_by_call e c = was_logged h.run.log k.run.log (logged_by_call e c) b.wanted has_logged in
    let at = call_logs_few e c is.steady.listed none in
    let long = ap (λ (hs : List Happened). length hs) logged in
    let streamed = ap (λ (x : AccountingView). length x.happened) accounting in
    let end = ap (λ (x : AccountingView). x.time) accounting in
    let left = ap (λ (cs : List Call). length cs) calls in
    let numbers : k.accounting.tasks ≡ a.tasks = ap (λ (x : AccountingView). x.tasks) accounting in
    let up_to : IsStreamedUpTo k.run.state (h.run.log.happened ++ logged_by_call e c) a = still_streamed e k.run.state h.run.log.happened c a (length h.calls) is none made b.up_to b.few in
    record {
      up_to = subst (λ (x : AccountingView). IsStreamedUpTo k.run.state k.run.log.happened x) (sym accounting) (subst (λ (hs : List Happened). IsStreamedUpTo k.run.state hs a) (sym logged) up_to);
      wanted = has_logged.wanted ∙ b.wanted;
      named = named;
      among = subst (λ (ns : List ℕ). All (Contains ns) k.run.state.used) (sym numbers) (still_among a.tasks e k.run.state c made (All-head (IsForelogged a.tasks) c h.calls b.forelogged) b.among);
      are = subst (All IsCall) (sym calls) (All-tail IsCall c h.calls b.are);
      forelogged = subst (λ (ns : List ℕ). All (IsForelogged ns) k.calls) (sym numbers) (subst (All (IsForelogged a.tasks)) (sym calls) (All-tail (IsForelogged a.tasks) c h.calls b.forelogged));
      ends = omega (arith, time, b.ends, end, ticks_of_first c h.calls, none, ap all_ticks calls);
      early = omega (arith, time, b.early, left);
      last = omega (arith, b.last, end);
      few = omega (arith, long, length-append h.run.log.happened (logged_by_call e c), at.1, streamed, time, left, b.few);
    }

pub call_leads : (h k : Streaming) (c : Call) → IsStreamedBefore h (c ∷ h.calls) → k.calls ≡ h.calls → k.accounting ≡ h.accounting → k.run.state ≡ after_call h.run.state c → MapGives k.run.names (names_after h.run.state c (name_of_task h.run.names)) → GivesParams k.run.given (cond h.run.log.wanted (params_after h.run.state c (given_in h.run.given)) (given_in h.run.given)) → HasLogged h.run.log (logged_by_call h.run.state c) k.run.log
    → led_to k ≡ led_by h (c ∷ h.calls)
call_leads h k c b calls accounting made names given has_logged =
    let e = h.run.state in
    let past = h.accounting.switches in
    let params : (n : ℕ) → given_in k.run.given n ≡ params_after e c (given_in h.run.given) n = λ n. given n ∙ ap (λ (w : Bool). (cond w (params_after e c (given_in h.run.given)) (given_in h.run.given)) n) b.wanted in
    ap (λ (x : AccountingView). led_from (with_past x.switches k.run.state) k.calls (name_of_task k.run.names) (given_in k.run.given) (x.happened ++ k.run.log.happened)) accounting
    ∙ ap (λ (cs : List Call). led_from (with_past past k.run.state) cs (name_of_task k.run.names) (given_in k.run.given) (h.accounting.happened ++ k.run.log.happened)) calls
    ∙ made_after past e k.run.state c h.calls (name_of_task h.run.names) (name_of_task k.run.names) (given_in h.run.given) (given_in k.run.given) h.accounting.happened h.run.log.happened k.run.log.happened made names params
    (was_logged h.run.log k.run.log (logged_by_call e c) b.wanted has_logged)

pub advance_before : (h k : Streaming) (n made : ℕ) → IsDomain h.run.state → made ≡ n → IsStreamedBefore h (Advance n ∷ h.calls) → k.calls ≡ h.calls → k.run.names ≡ h.run.names → k.run.state ≡ without_switches (ticks made h.run.state)
    → k.accounting ≡ with_piece h.accounting (h.run.log.happened ++ logged_by_ticks made h.run.state) (ticks made h.run.state).switches → k.run.log.wanted ≡ true → k.run.log.happened ≡ [] → IsStreamedUpTo k.run.state k.run.log.happened k.accounting → IsStreamedBefore k k.calls
advance_before h k n made is all b calls names state streamed wanted empty up_to =
    let e = h.run.state in
    let a = h.accounting in
    let time : k.run.state.time ≡ e.time + made = ap (λ (x : Domain). x.time) state ∙ ticks_time made e in
    let used : k.run.state.used ≡ e.used = ap (λ (x : Domain). x.used) state ∙ ticks_used made e in
    let numbers : k.accounting.tasks ≡ a.tasks = ap (λ (x : AccountingView). x.tasks) streamed in
    let end = ap (λ (x : AccountingView). x.time) streamed in
    let long = ap (λ (x : AccountingView). length x.happened) streamed in
    let none = ap (λ (hs : List Happened). length hs) empty in
    let left = ap (λ (cs : List Call). length cs) calls in
    let logged = h.run.log.happened ++ logged_by_ticks made e in
    let few_ticks = (All-head IsCall (Advance n) h.calls b.are).1 in
    record {
      up_to = up_to;
      wanted = wanted;
      named = λ m there. subst (λ (ns : Names). HasName ns m) (sym names) (b.named m (subst (λ (ns : List ℕ). IsAdmitted ns m) used there));
      among = subst (λ (ns : List ℕ). All (Contains ns) k.run.state.used) (sym numbers) (subst (All (Contains a.tasks)) (sym used) b.among);
      are = subst (All IsCall) (sym calls) (All-tail IsCall (Advance n) h.calls b.are);
      forelogged = subst (λ (ns : List ℕ). All (IsForelogged ns) k.calls) (sym numbers) (subst (All (IsForelogged a.tasks)) (sym calls) (All-tail (IsForelogged a.tasks) (Advance n) h.calls b.forelogged));
      ends = omega (arith, time, all, b.ends, end, ticks_of_first (Advance n) h.calls, ap all_ticks calls);
      early = omega (arith, time, all, few_ticks, b.early, left);
      last = omega (arith, b.last, end);
      few = omega (arith, long, none, length-append a.happened logged, length-append h.run.log.happened (logged_by_ticks made e), logged_few made e is.steady.listed, time, left, all, few_ticks, b.early, b.few);
    }

pub advance_leads : (h k : Streaming) (n made : ℕ) → made ≡ n → k.calls ≡ h.calls → k.run.names ≡ h.run.names → k.run.given ≡ h.run.given → k.run.state ≡ without_switches (ticks made h.run.state)
    → k.accounting ≡ with_piece h.accounting (h.run.log.happened ++ logged_by_ticks made h.run.state) (ticks made h.run.state).switches → k.run.log.happened ≡ [] → led_to k ≡ led_by h (Advance n ∷ h.calls)
advance_leads h k n made all calls names given state streamed empty =
    let e = h.run.state in
    let past = h.accounting.switches in
    ap (λ (cs : List Call). led_by k cs) calls
    ∙ ap (λ (ns : Names). led_from (with_past k.accounting.switches k.run.state) h.calls (name_of_task ns) (given_in k.run.given) (k.accounting.happened ++ k.run.log.happened)) names
    ∙ ap (λ (g : Given). led_from (with_past k.accounting.switches k.run.state) h.calls (name_of_task h.run.names) (given_in g) (k.accounting.happened ++ k.run.log.happened)) given
    ∙ advance_after past e k.run.state made h.calls (name_of_task h.run.names) (given_in h.run.given) h.accounting k.accounting h.run.log.happened k.run.log.happened refl state
    (ap (λ (x : AccountingView). x.happened) streamed) (ap (λ (x : AccountingView). x.switches) streamed) empty
    ∙ ap (λ (m : ℕ). led_by h (Advance m ∷ h.calls)) all

-- ---- what is left to be streamed, once all calls are made

pub still_among_rest : (h : Streaming) (d : Domain) (a : AccountingView) (made : ℕ) → IsStreamedBefore h h.calls → d ≡ without_switches (ticks made h.run.state)
    → a ≡ with_piece h.accounting (h.run.log.happened ++ logged_by_ticks made h.run.state) (ticks made h.run.state).switches → All (Contains a.tasks) d.used
still_among_rest h d a made b state streamed =
    let used : d.used ≡ h.run.state.used = ap (λ (x : Domain). x.used) state ∙ ticks_used made h.run.state in
    let numbers : a.tasks ≡ h.accounting.tasks = ap (λ (x : AccountingView). x.tasks) streamed in
    subst (λ (ns : List ℕ). All (Contains ns) d.used) (sym numbers) (subst (All (Contains h.accounting.tasks)) (sym used) b.among)

-- ---- a call among those that are left

pub moved_before : (h : Streaming) (left xs ys : List Call) → xs ≡ ys → IsStreamedBefore h xs → IsStreamedBefore (record h { calls = left }) ys
moved_before h left xs ys same b =
    let k : Streaming = record h { calls = left } in
    subst (IsStreamedBefore k) same (record { up_to = b.up_to; wanted = b.wanted; named = b.named; among = b.among; are = b.are; forelogged = b.forelogged; ends = b.ends; early = b.early; last = b.last; few = b.few })

-- ---- before the first call

none_up_to : (cpus limit end : ℕ) (tasks : List ℕ) → IsStreamedUpTo (empty_domain cpus limit) [] (record { cpus = cpus; time = end; tasks = tasks; happened = []; switches = [] })
none_up_to cpus limit end tasks = record {
  same_cpus = refl;
  next = record {
    logged = All-nil _;
    later = All-nil _;
    rising = λ i j d less within. absurd (omega (arith, within));
    past = All-nil _;
    inside = All-nil _;
    few_happened = omega arith;
    few_switches = omega arith;
  };
  past = All-nil _;
  inside = All-nil _;
  logged = All-nil _;
  logged_since = All-nil _;
  few = omega arith;
}

pub opened_before : (h : Streaming) (cpus limit : ℕ) (f : Foreseen) → IsForeseen f → length f.calls ≤ 65536 → h.run.state ≡ empty_domain cpus limit → h.run.log.wanted ≡ true → h.run.log.happened ≡ []
    → h.accounting ≡ record { cpus = cpus; time = f.ticks; tasks = f.numbers.keys; happened = []; switches = [] } → h.calls ≡ f.calls → IsStreamedBefore h h.calls
opened_before h cpus limit f is few state wanted unlogged opened calls =
    let a : AccountingView = record { cpus = cpus; time = f.ticks; tasks = f.numbers.keys; happened = []; switches = [] } in
    let time = ap (λ (d : Domain). d.time) state in
    let end = ap (λ (x : AccountingView). x.time) opened in
    let numbers : h.accounting.tasks ≡ f.numbers.keys = ap (λ (x : AccountingView). x.tasks) opened in
    let none = ap (λ (hs : List Happened). length hs) unlogged in
    let streamed = ap (λ (x : AccountingView). length x.happened) opened in
    let long = ap (λ (cs : List Call). length cs) calls in
    record {
      up_to = subst (λ (x : AccountingView). IsStreamedUpTo h.run.state h.run.log.happened x) (sym opened) (subst (λ (hs : List Happened). IsStreamedUpTo h.run.state hs a) (sym unlogged) (subst (λ (d : Domain). IsStreamedUpTo d [] a) (sym state) (none_up_to cpus limit f.ticks f.numbers.keys)));
      wanted = wanted;
      named = λ n there. let no : false ≡ true = subst (λ (d : Domain). IsAdmitted d.used n) state there in absurd cc;
      among = subst (λ (d : Domain). All (Contains h.accounting.tasks) d.used) (sym state) (All-nil _);
      are = subst (All IsCall) (sym calls) is.are;
      forelogged = subst (λ (ns : List ℕ). All (IsForelogged ns) h.calls) (sym numbers) (subst (All (IsForelogged f.numbers.keys)) (sym calls) is.forelogged);
      ends = omega (arith, time, end, is.ticks, ap all_ticks calls);
      early = omega (arith, time, long, few);
      last = omega (arith, end, is.short, few);
      few = omega (arith, none, streamed, time, long, few);
    }

pub opened_leads : (h : Streaming) (cpus limit : ℕ) (f : Foreseen) → h.run.state ≡ empty_domain cpus limit → MapGives h.run.names no_names → GivesParams h.run.given no_params → h.run.log.happened ≡ []
    → h.accounting ≡ record { cpus = cpus; time = f.ticks; tasks = f.numbers.keys; happened = []; switches = [] } → h.calls ≡ f.calls → led_to h ≡ led_from (empty_domain cpus limit) f.calls no_names no_params []
opened_leads h cpus limit f state names given unlogged opened calls =
    let called : name_of_task h.run.names ≡ no_names = λ i n. names n i in
    let known : given_in h.run.given ≡ no_params = λ i n. given n i in
    ap (λ (x : AccountingView). led_from (with_past x.switches h.run.state) h.calls (name_of_task h.run.names) (given_in h.run.given) (x.happened ++ h.run.log.happened)) opened
    ∙ ap (λ (d : Domain). led_from (with_past [] d) h.calls (name_of_task h.run.names) (given_in h.run.given) h.run.log.happened) state
    ∙ ap (λ (cs : List Call). led_from (empty_domain cpus limit) cs (name_of_task h.run.names) (given_in h.run.given) h.run.log.happened) calls
    ∙ ap (λ (g : ℕ → List ℕ). led_from (empty_domain cpus limit) f.calls g (given_in h.run.given) h.run.log.happened) called
    ∙ ap (λ (g : ℕ → ParamsView). led_from (empty_domain cpus limit) f.calls no_names g h.run.log.happened) known
    ∙ ap (λ (hs : List Happened). led_from (empty_domain cpus limit) f.calls no_names no_params hs) unlogged

-- ---- the figures at the end

pub summed_is : (h : Streaming) (tasks : List Admitted) (ts : List TaskFigures) (cs : List CpuFigures) → h.calls ≡ [] → h.run.log.happened ≡ [] → h.run.state.switches ≡ [] → h.accounting.time ≡ h.run.state.time → h.accounting.cpus ≡ h.run.state.cpus
    → tasks ≡ map (admitted_with_params (given_in h.run.given)) h.run.state.used → ts ≡ task_figures (streamed_run h.accounting tasks) → cs ≡ cpu_figures (streamed_run h.accounting tasks)
    → summary_of_domain (name_of_task h.run.names) h.run.state ts cs ≡ summary_led (led_to h)
summed_is h tasks ts cs calls unlogged bare time cpus are made_tasks made_cpus =
    let a = h.accounting in
    let d = h.run.state in
    let hs : a.happened ≡ (a.happened ++ h.run.log.happened) ++ [] = sym (append-nil (a.happened ++ h.run.log.happened) ∙ ap (λ (gs : List Happened). a.happened ++ gs) unlogged ∙ append-nil a.happened) in
    let ss : a.switches ≡ a.switches ++ d.switches = sym (ap (λ (gs : List Switch). a.switches ++ gs) bare ∙ append-nil a.switches) in
    let run : streamed_run a tasks ≡ figures_led (led_by h []) = λ i. record { cpus = cpus i; time = time i; tasks = are i; happened = hs i; switches = ss i } in
    figured_is (name_of_task h.run.names) d ts (task_figures (figures_led (led_by h []))) cs (cpu_figures (figures_led (led_by h []))) (made_tasks ∙ ap task_figures run) (made_cpus ∙ ap cpu_figures run)
    ∙ ap (λ (xs : List Call). summary_led (led_by h xs)) (sym calls)

pub tasks_are_among : (given : ℕ → ParamsView) (numbers used : List ℕ) (tasks : List Admitted) → tasks ≡ map (admitted_with_params given) used → All (Contains numbers) used → All (λ t. Contains numbers t.number) tasks
tasks_are_among given numbers used tasks are among = subst (All (λ (t : Admitted). Contains numbers t.number)) (sym are) (All-map (λ (t : Admitted). Contains numbers t.number) (admitted_with_params given) used among)

-- the figures of the calls of a section
pub summary_of_calls : (s : SectionView) (cpus limit : ℕ) (calls : List Call) → AreCallsOf s cpus limit calls → summary_led (led_from (empty_domain cpus limit) calls no_names no_params []) ≡ summary_view s
summary_of_calls s cpus limit calls are =
    λ i. summary_led (led_from (empty_domain (sym are.same_cpus i) (sym are.same_limit i)) (are.same_calls i) no_names no_params [])

-- ---- several runs

pub as_many_summed : (runs : List SummedRun) (done : List SectionView) → map summed_as runs ≡ map summary_view done → length runs ≡ length done
as_many_summed runs done same = sym (length-map runs summed_as) ∙ ap (λ (vs : List SummaryView). length vs) same ∙ length-map done summary_view

pub summed_more : (runs : List SummedRun) (done : List SectionView) (r : SummedRun) (s : SectionView) → map summed_as runs ≡ map summary_view done → summed_as r ≡ summary_view s → map summed_as (runs ++ r ∷ []) ≡ map summary_view (done ++ s ∷ [])
summed_more runs done r s same one =
    map-append summed_as runs (r ∷ [])
    ∙ ap (λ (vs : List SummaryView). vs ++ summed_as r ∷ []) same
    ∙ ap (λ (v : SummaryView). map summary_view done ++ v ∷ []) one
    ∙ sym (map-append summary_view done (s ∷ []))

pub summed_text_is : (lent_to runs : List SummedRun) (sections : List SectionView) → lent_to ≡ runs → map summed_as runs ≡ map summary_view sections → summary_text (map summed_as lent_to) ≡ text_of_all Summary sections
summed_text_is lent_to runs sections same figures =
    ap (λ (rs : List SummedRun). summary_text (map summed_as rs)) same ∙ ap summary_text figures ∙ sym (text_is Summary prints.Summary refl sections)
