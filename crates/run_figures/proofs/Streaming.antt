-- A piece that is streamed, entry by entry and switch by switch.
use Rattle.std.proofs.Common.{◌≡◌, ℕ, ◌+◌, ◌-◌, ◌*◌, ◌≤◌, ◌<◌, ◌^◌, List, [], ◌++◌, length, get_or, take, drop, map, refl, sym, ap, ◌∙◌, arith, subst, All, length-append}
use Rattle.std.specs.Prelude.{nat_le}
use Rattle.std.specs.List.{range_with_len, prefix_len}
use Rattle.std.proofs.Math.Seq.{take-append_seam, drop-append-add}
use Rattle.std.proofs.lemmas.List.{take_all, length-drop, length-take, get_or-append-add}
use Rattle.std.proofs.lemmas.List.Elements.{All-append, All-weaker, All-take, All-map}
use Rattle.std.proofs.lemmas.List.Sums.{prefix_len-le-length}
use Rattle.domain_run.specs.declared.happened.Happened.{Happened}
use Rattle.domain_run.specs.Switch.{Switch}
use Rattle.run_figures.specs.declared.logged.TaskTally.{TaskTally}
use Rattle.run_figures.specs.declared.ran.Ran.{Ran}
use Rattle.run_figures.specs.declared.ran.Cpu.{Cpu}
use Rattle.run_figures.specs.declared.run.Admitted.{Admitted}
use Rattle.run_figures.specs.Runs.{RunView, AreTasks, IsBoundedRun}
use Rattle.run_figures.specs.Accounting.{AccountingView, streamed_run, with_piece, IsNextPiece}
use Rattle.run_figures.specs.private.Keeping.{IsAccountingKept, IsOfRun, IsStreamedCounted}
use Rattle.run_figures.specs.private.Past.{items_of}
use Rattle.run_figures.specs.declared.accounting.Streamed.{Streamed}
use Rattle.domain_run.specs.Later.{later_happened, later_switch}
use Rattle.run_figures.specs.private.Logging.{logged_all, logged_by, so_far, nothing_logged, with_preemption, IsLoggedWithin, HaveRoomFor}
use Rattle.run_figures.specs.private.Running.{not_run, idle, ran_by, cpu_by, with_stay_of, without_rest_of, with_switch_on}
use Rattle.run_figures.specs.declared.figures.TaskFigures.{TaskFigures}
use Rattle.run_figures.specs.declared.figures.CpuFigures.{CpuFigures}
use Rattle.run_figures.specs.Figures.{task_figures, cpu_figures}
use Rattle.run_figures.specs.private.Putting.{put_all, put_cpu}
use Rattle.run_figures.proofs.Put.{all_tasks, all_cpus}
use Rattle.run_figures.proofs.Passing.{map-map, map_same, all_more}
use Rattle.run_figures.proofs.After.{AreRan, next_ran, ran_keyed, cpus_keyed, many_cpus, tasks_small, tasks_few, cpus_small, cpus_few}
use Rattle.run_figures.proofs.Going.{IsAtSwitch, at_piece, entries_logged, entries_keyed, few_preemptions, next_switch, at_the_end}

-- what was streamed, and the first entries and switches of the next piece, are logged
pub record IsStreamed (a : AccountingView) (hs : List Happened) (ss : List Switch) (from i : ℕ) (ts : List TaskTally) (rs : List Ran) (cs : List Cpu) : Type 0 where
  pub inside : from ≤ length hs
  pub logged : IsAtSwitch a.time (a.happened ++ hs) (a.switches ++ ss) a.tasks (length a.happened + from) (length a.switches + i) ts
  pub ran : AreRan a.time (a.switches ++ ss) a.tasks a.cpus (length a.switches + i) rs cs

-- all switches are of the run
all_past : (a : AccountingView) (hs : List Happened) (ss : List Switch) → IsOfRun a → IsNextPiece a hs ss → All (λ s. s.time ≤ a.time) (a.switches ++ ss)
all_past a hs ss run next = All-append (λ (s : Switch). s.time ≤ a.time) a.switches ss run.past next.past

pub of_run_still : (a : AccountingView) (hs : List Happened) (ss : List Switch) → IsOfRun a → IsNextPiece a hs ss → IsOfRun (with_piece a hs ss)
of_run_still a hs ss run next = record {
  early = run.early;
  cpus = run.cpus;
  past = all_past a hs ss run next;
  inside = All-append (λ (s : Switch). s.cpu < a.cpus) a.switches ss run.inside next.inside;
  rising = next.rising;
  few_happened = omega (arith, length-append a.happened hs, next.few_happened);
  few_switches = omega (arith, length-append a.switches ss, next.few_switches);
}

-- THE FIRST
pub none_streamed : (a : AccountingView) (hs : List Happened) (ss : List Switch) (logged : List TaskTally) (ran : List Ran) (cpus : List Cpu) → IsAccountingKept a logged ran cpus → IsNextPiece a hs ss → IsStreamed a hs ss 0 0 logged ran cpus
none_streamed a hs ss logged ran cpus kept next =
    let j : length a.happened ≡ length a.happened + 0 = omega arith in
    let k : length a.switches ≡ length a.switches + 0 = omega arith in
    let all : a.switches ≡ take (length a.switches) (a.switches ++ ss) = sym (take-append_seam a.switches ss) in
    record {
      inside = omega arith;
      logged = subst (λ n. IsAtSwitch a.time (a.happened ++ hs) (a.switches ++ ss) a.tasks n (length a.switches + 0) logged) j
          (subst (λ n. IsAtSwitch a.time (a.happened ++ hs) (a.switches ++ ss) a.tasks (length a.happened) n logged) k
          (at_piece a.time a.happened hs a.switches ss a.tasks logged kept.logged kept.within next.logged next.later));
      ran = subst (λ n. AreRan a.time (a.switches ++ ss) a.tasks a.cpus n ran cpus) k (record {
        ran = kept.ran ∙ ap (λ (xs : List Switch). map (ran_by a.time xs) a.tasks) all;
        cpus = kept.cpus ∙ ap (λ (xs : List Switch). map (cpu_by a.time xs) (range_with_len 0 a.cpus)) all;
      });
    }

-- WHAT IS NEEDED
pub streamed_keyed : (a : AccountingView) (hs : List Happened) (ss : List Switch) (from i : ℕ) (logged : List TaskTally) (ran : List Ran) (cpus : List Cpu) → IsStreamed a hs ss from i logged ran cpus → map (λ t. t.number) logged ≡ a.tasks
streamed_keyed a hs ss from i logged ran cpus h =
    entries_keyed a.time (a.happened ++ hs) (a.switches ++ ss) a.tasks (length a.happened + from) (length a.switches + i) logged h.logged.logged

pub streamed_room : (a : AccountingView) (hs : List Happened) (ss : List Switch) (from i : ℕ) (logged : List TaskTally) (ran : List Ran) (cpus : List Cpu) (rest : List Happened) → IsStreamed a hs ss from i logged ran cpus → IsNextPiece a hs ss → rest ≡ drop from hs → HaveRoomFor (length rest) logged
streamed_room a hs ss from i logged ran cpus rest h next is = record {
  used = length a.happened + from;
  fits = omega (arith, next.few_happened, h.inside, ap (λ (xs : List Happened). length xs) is, length-drop from hs);
  within = h.logged.within;
}

left_over : (a : AccountingView) (hs : List Happened) (from : ℕ) → drop from hs ≡ drop (length a.happened + from) (a.happened ++ hs)
left_over a hs from = sym (drop-append-add a.happened hs from)

-- after the entries up to the next switch
pub then_logged : (a : AccountingView) (hs : List Happened) (ss : List Switch) (from i c : ℕ) (logged after : List TaskTally) (ran : List Ran) (cpus : List Cpu) → IsStreamed a hs ss from i logged ran cpus → after ≡ map (logged_all a.time (take c (drop from hs))) logged
    → after ≡ map (so_far a.time (a.happened ++ hs) (a.switches ++ ss) (length a.happened + from + c) (length a.switches + i)) a.tasks
then_logged a hs ss from i c logged after ran cpus h is =
    entries_logged a.time (a.happened ++ hs) (a.switches ++ ss) a.tasks (length a.happened + from) (length a.switches + i) c logged after h.logged.logged
    (is ∙ ap (λ (xs : List Happened). map (logged_all a.time (take c xs)) logged) (left_over a hs from))

pub then_keyed : (a : AccountingView) (hs : List Happened) (ss : List Switch) (from i c : ℕ) (logged after : List TaskTally) (ran : List Ran) (cpus : List Cpu) → IsStreamed a hs ss from i logged ran cpus → after ≡ map (logged_all a.time (take c (drop from hs))) logged → map (λ t. t.number) after ≡ a.tasks
then_keyed a hs ss from i c logged after ran cpus h is =
    entries_keyed a.time (a.happened ++ hs) (a.switches ++ ss) a.tasks (length a.happened + from + c) (length a.switches + i) after (then_logged a hs ss from i c logged after ran cpus h is)

pub then_few : (a : AccountingView) (hs : List Happened) (ss : List Switch) (from i c : ℕ) (logged after : List TaskTally) (ran : List Ran) (cpus : List Cpu) → IsStreamed a hs ss from i logged ran cpus → IsNextPiece a hs ss → i < length ss → after ≡ map (logged_all a.time (take c (drop from hs))) logged → All (λ t. t.preempted ≤ 2 ^ 64 - 2) after
then_few a hs ss from i c logged after ran cpus h next l is =
    few_preemptions a.time (a.happened ++ hs) (a.switches ++ ss) a.tasks (length a.happened + from + c) (length a.switches + i) (2 ^ 64 - 2) after (then_logged a hs ss from i c logged after ran cpus h is)
    (omega (arith, next.few_switches, l))

-- THE TABLES
pub streamed_ran_keyed : (a : AccountingView) (hs : List Happened) (ss : List Switch) (from i : ℕ) (logged : List TaskTally) (ran : List Ran) (cpus : List Cpu) → IsStreamed a hs ss from i logged ran cpus → map (λ r. r.number) ran ≡ a.tasks
streamed_ran_keyed a hs ss from i logged ran cpus h = ran_keyed a.time (take (length a.switches + i) (a.switches ++ ss)) a.tasks ran h.ran.ran

pub streamed_cpus_keyed : (a : AccountingView) (hs : List Happened) (ss : List Switch) (from i : ℕ) (logged : List TaskTally) (ran : List Ran) (cpus : List Cpu) → IsStreamed a hs ss from i logged ran cpus → map (λ c. c.cpu) cpus ≡ range_with_len 0 (length cpus)
streamed_cpus_keyed a hs ss from i logged ran cpus h = cpus_keyed a.time (take (length a.switches + i) (a.switches ++ ss)) a.cpus cpus h.ran.cpus

pub streamed_inside : (a : AccountingView) (hs : List Happened) (ss : List Switch) (from i : ℕ) (d : Switch) (logged : List TaskTally) (ran : List Ran) (cpus : List Cpu) → IsStreamed a hs ss from i logged ran cpus → IsNextPiece a hs ss → i < length ss → (get_or ss i d).cpu < length cpus
streamed_inside a hs ss from i d logged ran cpus h next l =
    let one = next.inside i d l in
    omega (arith, one, many_cpus a.time (take (length a.switches + i) (a.switches ++ ss)) a.cpus cpus h.ran.cpus)

-- the switches so far
seen_early : (a : AccountingView) (hs : List Happened) (ss : List Switch) (i : ℕ) → IsOfRun a → IsNextPiece a hs ss → All (λ s. s.time ≤ 2 ^ 42) (take (length a.switches + i) (a.switches ++ ss))
seen_early a hs ss i run next =
    All-take (λ (s : Switch). s.time ≤ 2 ^ 42) (length a.switches + i) (a.switches ++ ss)
    (All-weaker (λ (s : Switch). s.time ≤ a.time) (λ (s : Switch). s.time ≤ 2 ^ 42) (λ s l. omega (arith, l, run.early)) (a.switches ++ ss) (all_past a hs ss run next))

seen_few : (a : AccountingView) (hs : List Happened) (ss : List Switch) (i : ℕ) → IsNextPiece a hs ss → i < length ss → length (take (length a.switches + i) (a.switches ++ ss)) ≤ 2 ^ 64 - 2
seen_few a hs ss i next l = omega (arith, next.few_switches, l, length-append a.switches ss, length-take (length a.switches + i) (a.switches ++ ss))

pub streamed_small : (a : AccountingView) (hs : List Happened) (ss : List Switch) (from i : ℕ) (logged : List TaskTally) (ran : List Ran) (cpus : List Cpu) → IsStreamed a hs ss from i logged ran cpus → IsOfRun a → IsNextPiece a hs ss → i < length ss → All (λ r. r.cpu_us ≤ (2 ^ 64 - 2) * 2 ^ 64) ran
streamed_small a hs ss from i logged ran cpus h run next l =
    tasks_small a.time (2 ^ 42) ((2 ^ 64 - 2) * 2 ^ 64) (take (length a.switches + i) (a.switches ++ ss)) a.tasks ran run.early (seen_early a hs ss i run next) (omega (arith, seen_few a hs ss i next l)) h.ran.ran

pub streamed_few : (a : AccountingView) (hs : List Happened) (ss : List Switch) (from i : ℕ) (logged : List TaskTally) (ran : List Ran) (cpus : List Cpu) → IsStreamed a hs ss from i logged ran cpus → IsNextPiece a hs ss → i < length ss → All (λ r. r.migrated ≤ 2 ^ 64 - 2) ran
streamed_few a hs ss from i logged ran cpus h next l =
    tasks_few a.time (take (length a.switches + i) (a.switches ++ ss)) a.tasks ran (2 ^ 64 - 2) (seen_few a hs ss i next l) h.ran.ran

pub streamed_cpus_small : (a : AccountingView) (hs : List Happened) (ss : List Switch) (from i : ℕ) (logged : List TaskTally) (ran : List Ran) (cpus : List Cpu) → IsStreamed a hs ss from i logged ran cpus → IsOfRun a → IsNextPiece a hs ss → i < length ss → All (λ c. c.busy_us ≤ (2 ^ 64 - 2) * 2 ^ 64) cpus
streamed_cpus_small a hs ss from i logged ran cpus h run next l =
    cpus_small a.time (2 ^ 42) ((2 ^ 64 - 2) * 2 ^ 64) a.cpus (take (length a.switches + i) (a.switches ++ ss)) cpus run.early (seen_early a hs ss i run next) (omega (arith, seen_few a hs ss i next l)) h.ran.cpus

pub streamed_cpus_few : (a : AccountingView) (hs : List Happened) (ss : List Switch) (from i : ℕ) (logged : List TaskTally) (ran : List Ran) (cpus : List Cpu) → IsStreamed a hs ss from i logged ran cpus → IsNextPiece a hs ss → i < length ss → All (λ c. c.switches ≤ 2 ^ 64 - 2) cpus
streamed_cpus_few a hs ss from i logged ran cpus h next l =
    cpus_few a.time a.cpus (2 ^ 64 - 2) (take (length a.switches + i) (a.switches ++ ss)) cpus (seen_few a hs ss i next l) h.ran.cpus

-- ONE SWITCH MORE
pub one_streamed : (a : AccountingView) (hs : List Happened) (ss : List Switch) (from i c : ℕ) (d : Switch) (e : Cpu) (logged after last : List TaskTally) (ran gone : List Ran) (cpus then : List Cpu)
    → IsStreamed a hs ss from i logged ran cpus → IsOfRun a → IsNextPiece a hs ss → i < length ss
    → c ≡ prefix_len (λ h. nat_le h.time (get_or ss i d).time) (drop from hs)
    → after ≡ map (logged_all a.time (take c (drop from hs))) logged → ((n : ℕ) → All (IsLoggedWithin n) logged → All (IsLoggedWithin (n + c)) last)
    → last ≡ map (with_preemption (get_or ss i d)) after
    → gone ≡ map (without_rest_of (get_or cpus (get_or ss i d).cpu e).task (a.time - (get_or ss i d).time)) (map (with_stay_of (get_or ss i d).next (get_or ss i d).cpu (a.time - (get_or ss i d).time)) ran)
    → then ≡ map (with_switch_on (get_or ss i d) (a.time - (get_or ss i d).time)) cpus
    → IsStreamed a hs ss (from + c) (i + 1) last gone then
one_streamed a hs ss from i c d e logged after last ran gone cpus then h run next l count is within preempted left busy =
    let HS = a.happened ++ hs in
    let SS = a.switches ++ ss in
    let k = length a.switches + i in
    let j = length a.happened + from in
    let inside : k < length SS = omega (arith, l, length-append a.switches ss) in
    let at : get_or ss i d ≡ get_or SS k d = sym (get_or-append-add a.switches ss i d) in
    let rest : drop from hs ≡ drop j HS = left_over a hs from in
    let to : j + c ≡ length a.happened + (from + c) = omega arith in
    let more : k + 1 ≡ length a.switches + (i + 1) = omega arith in
    let here : (get_or SS k d).cpu < a.cpus = subst (λ (s : Switch). s.cpu < a.cpus) at (next.inside i d l) in
    let past : (get_or SS k d).time ≤ a.time = subst (λ (s : Switch). s.time ≤ a.time) at (next.past i d l) in
    let all = next_switch a.time HS SS a.tasks j k c d logged after last h.logged inside next.rising
    (count ∙ (λ x. prefix_len (λ h. nat_le h.time (at x).time) (rest x)))
    (is ∙ ap (λ (xs : List Happened). map (logged_all a.time (take c xs)) logged) rest)
    (within j h.logged.within)
    (preempted ∙ ap (λ (s : Switch). map (with_preemption s) after) at) in
    record {
      inside = omega (arith, h.inside, count, prefix_len-le-length (λ (x : Happened). nat_le x.time (get_or ss i d).time) (drop from hs), length-drop from hs);
      logged = subst (λ n. IsAtSwitch a.time HS SS a.tasks n (length a.switches + (i + 1)) last) to (subst (λ n. IsAtSwitch a.time HS SS a.tasks (j + c) n last) more all);
      ran = subst (λ n. AreRan a.time SS a.tasks a.cpus n gone then) more
          (next_ran a.time SS a.tasks a.cpus k d e ran gone cpus then h.ran inside here past next.rising
          (left ∙ ap (λ (s : Switch). map (without_rest_of (get_or cpus s.cpu e).task (a.time - s.time)) (map (with_stay_of s.next s.cpu (a.time - s.time)) ran)) at)
          (busy ∙ ap (λ (s : Switch). map (with_switch_on s (a.time - s.time)) cpus) at));
    }

-- ALL OF IT
pub all_streamed : (a : AccountingView) (hs : List Happened) (ss : List Switch) (from i : ℕ) (logged after : List TaskTally) (ran : List Ran) (cpus : List Cpu) → IsStreamed a hs ss from i logged ran cpus → length ss ≤ i
    → after ≡ map (logged_all a.time (drop from hs)) logged → All (IsLoggedWithin (length a.happened + length hs)) after → IsAccountingKept (with_piece a hs ss) after ran cpus
all_streamed a hs ss from i logged after ran cpus h l is within =
    let SS = a.switches ++ ss in
    let end : length SS ≤ length a.switches + i = omega (arith, l, length-append a.switches ss) in
    let all : take (length a.switches + i) SS ≡ SS = take_all (length a.switches + i) SS end in
    record {
      logged = at_the_end a.time (a.happened ++ hs) SS a.tasks (length a.happened + from) (length a.switches + i) logged after h.logged end
          (is ∙ ap (λ (xs : List Happened). map (logged_all a.time xs) logged) (left_over a hs from));
      within = subst (λ n. All (IsLoggedWithin n) after) (sym (length-append a.happened hs)) within;
      ran = h.ran.ran ∙ ap (λ (xs : List Switch). map (ran_by a.time xs) a.tasks) all;
      cpus = h.ran.cpus ∙ ap (λ (xs : List Switch). map (cpu_by a.time xs) (range_with_len 0 a.cpus)) all;
    }

-- NOTHING streamed yet
pub nothing_kept : (a : AccountingView) (ts : List TaskTally) (rs : List Ran) (cs : List Cpu) → a.happened ≡ [] → a.switches ≡ [] → ts ≡ map nothing_logged a.tasks → rs ≡ map not_run a.tasks → cs ≡ map idle (range_with_len 0 a.cpus) → IsAccountingKept a ts rs cs
nothing_kept a ts rs cs none nobody t r c = record {
  logged = t ∙ map_same nothing_logged (logged_by a.time [] []) a.tasks (λ n. refl) ∙ (λ i. map (logged_by a.time (sym none i) (sym nobody i)) a.tasks);
  within = subst (All (IsLoggedWithin (length a.happened))) (sym t) (All-map (IsLoggedWithin (length a.happened)) nothing_logged a.tasks
      (λ k d l. record { job = tt; ended = tt; late = omega arith; times = omega arith; us = omega arith; superseded = omega arith }));
  ran = r ∙ map_same not_run (ran_by a.time []) a.tasks (λ n. refl) ∙ (λ i. map (ran_by a.time (sym nobody i)) a.tasks);
  cpus = c ∙ map_same idle (cpu_by a.time []) (range_with_len 0 a.cpus) (λ n. refl) ∙ (λ i. map (cpu_by a.time (sym nobody i)) (range_with_len 0 a.cpus));
}

pub nothing_of_run : (a : AccountingView) → a.happened ≡ [] → a.switches ≡ [] → a.time ≤ 2 ^ 42 → a.cpus ≤ 64 → IsOfRun a
nothing_of_run a none nobody early few =
    let first : length a.happened ≡ 0 = ap (λ (hs : List Happened). length hs) none in
    let second : length a.switches ≡ 0 = ap (λ (ss : List Switch). length ss) nobody in
    record {
      early = early;
      cpus = few;
      past = λ k d l. absurd (omega (arith, l, second));
      inside = λ k d l. absurd (omega (arith, l, second));
      rising = λ i j d l m. absurd (omega (arith, m, second));
      few_happened = omega (arith, first);
      few_switches = omega (arith, second);
    }

pub none_counted : (h : Streamed) → h.happened.count ≡ 0 → h.switches.count ≡ 0 → items_of later_happened h.happened.items ≡ [] → items_of later_switch h.switches.items ≡ [] → IsStreamedCounted h
none_counted h first second none nobody = record {
  happened = first ∙ sym (ap (λ (hs : List Happened). length hs) none);
  switches = second ∙ sym (ap (λ (ss : List Switch). length ss) nobody);
}

-- THE RUN that was streamed
pub run_streamed : (a : AccountingView) (tasks : List Admitted) → IsOfRun a → AreTasks tasks → IsBoundedRun (streamed_run a tasks)
run_streamed a tasks run are = record {
  early = run.early;
  cpus = run.cpus;
  tasks = are;
  past = run.past;
  inside = run.inside;
  rising = run.rising;
}

pub logged_of_tasks : (a : AccountingView) (tasks : List Admitted) (ts : List TaskTally) (rs : List Ran) (cs : List Cpu) → IsAccountingKept a ts rs cs → map (λ t. t.number) tasks ≡ a.tasks → ts ≡ map (λ t. logged_by a.time a.happened a.switches t.number) tasks
logged_of_tasks a tasks ts rs cs kept same =
    kept.logged ∙ ap (map (logged_by a.time a.happened a.switches)) (sym same) ∙ map-map (logged_by a.time a.happened a.switches) (λ (t : Admitted). t.number) tasks

pub ran_of_tasks : (a : AccountingView) (tasks : List Admitted) (ts : List TaskTally) (rs : List Ran) (cs : List Cpu) → IsAccountingKept a ts rs cs → map (λ t. t.number) tasks ≡ a.tasks → rs ≡ map (λ t. ran_by a.time a.switches t.number) tasks
ran_of_tasks a tasks ts rs cs kept same =
    kept.ran ∙ ap (map (ran_by a.time a.switches)) (sym same) ∙ map-map (ran_by a.time a.switches) (λ (t : Admitted). t.number) tasks

pub tasks_streamed : (v a : AccountingView) (tasks : List Admitted) (ts logged : List TaskTally) (rs ran : List Ran) (cs : List Cpu) (all : List TaskFigures) → v ≡ a → IsAccountingKept v ts rs cs → map (λ t. t.number) tasks ≡ a.tasks
    → logged ≡ ts → ran ≡ rs → all ≡ put_all v.time tasks logged ran → all ≡ task_figures (streamed_run a tasks)
tasks_streamed v a tasks ts logged rs ran cs all same before numbers t r put =
    let kept = subst (λ (x : AccountingView). IsAccountingKept x ts rs cs) same before in
    all_tasks (streamed_run a tasks) logged ran all (t ∙ logged_of_tasks a tasks ts rs cs kept numbers) (r ∙ ran_of_tasks a tasks ts rs cs kept numbers)
    (put ∙ ap (λ (x : AccountingView). put_all x.time tasks logged ran) same)

pub cpus_streamed : (v a : AccountingView) (tasks : List Admitted) (ts : List TaskTally) (rs : List Ran) (cs cpus : List Cpu) (all : List CpuFigures) → v ≡ a → IsAccountingKept v ts rs cs
    → cpus ≡ cs → all ≡ map put_cpu cpus → all ≡ cpu_figures (streamed_run a tasks)
cpus_streamed v a tasks ts rs cs cpus all same before c put =
    let kept = subst (λ (x : AccountingView). IsAccountingKept x ts rs cs) same before in
    all_cpus (streamed_run a tasks) cpus all (c ∙ kept.cpus) put

pub kept_room : (v : AccountingView) (ts logged : List TaskTally) (rs : List Ran) (cs : List Cpu) → IsAccountingKept v ts rs cs → IsOfRun v → logged ≡ ts → All (IsLoggedWithin (2 ^ 64 - 2)) logged
kept_room v ts logged rs cs kept run is =
    subst (All (IsLoggedWithin (2 ^ 64 - 2))) (sym is) (all_more (length v.happened) (2 ^ 64 - 2) ts (omega (arith, run.few_happened)) kept.within)

-- A WHOLE RUN is the next piece where nothing was streamed
pub whole_next : (run : RunView) (a : AccountingView) → IsBoundedRun run → a ≡ record { cpus = run.cpus; time = run.time; tasks = map (λ t. t.number) run.tasks; happened = []; switches = [] }
    → length run.happened < 2 ^ 64 - 1 → length run.switches < 2 ^ 64 - 1 → IsNextPiece a run.happened run.switches
whole_next run a is opened few many =
    subst (λ (x : AccountingView). IsNextPiece x run.happened run.switches) (sym opened) (record {
      logged = λ k d l j e m. absurd (omega (arith, m));
      later = λ k d l j e m. absurd (omega (arith, m));
      rising = is.rising;
      past = is.past;
      inside = is.inside;
      few_happened = omega (arith, few);
      few_switches = omega (arith, many);
    })
