-- What is drawn of runs while they are made.
use Rattle.std.proofs.Common.{◌≡◌, ℕ, zero, suc, ◌+◌, ◌<◌, ◌≤◌, List, [], ◌∷◌, ◌++◌, length, get_or, take, drop, map, refl, sym, ap, subst, ◌∙◌, arith}
use Rattle.std.specs.Prelude.{All, Contains, fold, max}
use Rattle.std.proofs.lemmas.List.{append-nil, append_assoc, get_or-map, length-map, map-append}
use Rattle.std.proofs.Math.Seq.{drop-cons, take-suc}
use Rattle.std.proofs.lemmas.List.Elements.{All-head, All-push, All-tail}
use Rattle.std.proofs.lemmas.List.Sums.{sum_by-cons}
use Rattle.attr_check.specs.ParamsView.{ParamsView}
use Rattle.domain_run.specs.declared.call.Call.{Call}
use Rattle.domain_run.specs.declared.call.Call.TheVariants.{Admit, Regrade, Wake, Leave, Advance, Limit, Depart, Arrive}
use Rattle.domain_run.specs.declared.happened.Happened.{Happened}
use Rattle.domain_run.specs.Calls.{after_call}
use Rattle.domain_run.specs.Domain.{Domain, IsLimit, empty_domain}
use Rattle.domain_run.specs.Passing.{without_switches}
use Rattle.domain_run.specs.Run.{after_calls}
use Rattle.domain_run.specs.Switch.{Switch}
use Rattle.domain_run.proofs.CallerLemmas.{call_time, ticks_of}
use Rattle.calls_text.specs.SectionView.{SectionView}
use Rattle.calls_text.specs.Limits.{IsSection}
use Rattle.run_figures.specs.declared.run.Admitted.{Admitted}
use Rattle.run_figures.specs.Accounting.{AccountingView, streamed_run}
use Rattle.run_figures.specs.Places.{IsAbsent}
use Rattle.run_figures.specs.Runs.{AreTasks}
use Rattle.run_options.specs.declared.replay_print.ReplayPrint.TheVariants as prints
use Rattle.chart_pieces.specs.declared.window.Span.{Span}
use Rattle.chart_pieces.specs.declared.window.Window.{Window}
use Rattle.chart_pieces.specs.RowView.{RowView}
use Rattle.chart_pieces.specs.Rows.{row_of, rows_of}
use Rattle.chart_pieces.specs.Window.{window_of}
use Rattle.chart.specs.Rows.{ChartRowView}
use Rattle.chart.specs.Chart.{chart_text}
use Rattle.switch_text.specs.Names.{name_of_task}
use Rattle.calls_trace.specs.declared.foreseen_text.ForeseenSection.{ForeseenSection}
use Rattle.calls_trace.specs.declared.streaming.Streaming.{Streaming}
use Rattle.calls_trace.specs.declared.run_text.RunText.TheVariants.{Chart}
use Rattle.calls_trace.specs.declared.sketch.Sketch.{Sketch}
use Rattle.calls_trace.specs.Charted.{chart_in, chart_row_of, cpus_of_sections, last_time, rows_at, rows_from}
use Rattle.calls_trace.specs.Replay.{calls_in_section}
use Rattle.calls_trace.specs.Streamed.{section_streamed}
use Rattle.calls_trace.specs.DomainEvents.{admitted_with_params, domain_of, names_in, no_params, params_in}
use Rattle.calls_trace.specs.private.Calls.{ticks_given}
use Rattle.calls_trace.specs.private.Foreseen.{AreCallsOf, IsForeseen, all_ticks}
use Rattle.calls_trace.specs.private.Streaming.{figures_led, led_by, led_to}
use Rattle.calls_trace.specs.private.Replaying.{given_in}
use Rattle.calls_trace.specs.private.RunTexts.{text_of_all}
use Rattle.calls_trace.specs.private.Sketched.{AheadView, IsReadyToRun, SketchView, ahead_as, ahead_in, chart_ahead, chart_sketched, charted_from, cpus_sketched, end_ahead, no_row, row_in, sketch_ahead, sketch_as, sketch_led}
use Rattle.calls_trace.proofs.Charts.{few_tasks}
use Rattle.calls_trace.proofs.Figured.{numbers_are}
use Rattle.calls_trace.proofs.Forelogged.{calls_few}
use Rattle.calls_trace.proofs.Texts.{both, text_is}
use Rattle.calls_trace.proofs.Sections.{calls_cpus}

-- ---- the places of some tasks

-- a number that is among them is not absent
pub not_absent : (numbers : List ℕ) (n : ℕ) → Contains numbers n → IsAbsent numbers n → ⊥
not_absent numbers n at absent = absent at.0 n at.1 at.2

-- the row in the place of a number
row_there : (f : ℕ → RowView) (numbers : List ℕ) (place n : ℕ) → place < length numbers → ((d : ℕ) → get_or numbers place d ≡ n) → row_in (map f numbers) place ≡ f n
row_there f numbers place n within is = get_or-map f numbers place 0 no_row within ∙ ap f (is 0)

-- one more
pub place_more : (f : ℕ → RowView) (numbers : List ℕ) (tasks : List Admitted) (i : ℕ) (d : Admitted) (places after : List ℕ) (place : ℕ) → i < length tasks → place < length numbers → ((k : ℕ) → get_or numbers place k ≡ (get_or tasks i d).number)
    → map (row_in (map f numbers)) places ≡ map (λ t. f t.number) (take i tasks) → after ≡ places ++ place ∷ [] → map (row_in (map f numbers)) after ≡ map (λ t. f t.number) (take (i + 1) tasks)
place_more f numbers tasks i d places after place inside within at was more =
    let rows = map f numbers in
    let made : Admitted → RowView = λ t. f t.number in
    let next : suc i ≡ i + 1 = omega arith in
    ap (map (row_in rows)) more
    ∙ map-append (row_in rows) places (place ∷ [])
    ∙ ap (λ (rs : List RowView). rs ++ row_in rows place ∷ []) was
    ∙ ap (λ (r : RowView). map made (take i tasks) ++ r ∷ []) (row_there f numbers place (get_or tasks i d).number within at)
    ∙ sym (map-append made (take i tasks) (get_or tasks i d ∷ []))
    ∙ ap (map made) (sym (take-suc tasks i d inside) ∙ ap (λ (n : ℕ). take n tasks) next)

pub place_inside_too : (n place : ℕ) (places after : List ℕ) → after ≡ places ++ place ∷ [] → All (λ i. i < n) places → place < n → All (λ i. i < n) after
place_inside_too n place places after more all inside = subst (All (λ i. i < n)) (sym more) (All-push (λ i. i < n) places place all inside)

-- of all numbers that were admitted
pub picked_all : (f : ℕ → RowView) (index keys places used : List ℕ) (given : ℕ → ParamsView) (tasks : List Admitted) → index ≡ keys → tasks ≡ map (admitted_with_params given) used → map (row_in (map f index)) places ≡ map (λ t. f t.number) tasks → map (row_in (map f keys)) places ≡ map f used
picked_all f index keys places used given tasks same are picked =
    ap (λ (ns : List ℕ). map (row_in (map f ns)) places) (sym same)
    ∙ picked
    ∙ ap (map (λ (t : Admitted). f t.number)) are
    ∙ sym (both (admitted_with_params given) (λ (t : Admitted). f t.number) used)

pub picked_few : (f : ℕ → RowView) (index places : List ℕ) (tasks : List Admitted) → AreTasks tasks → map (row_in (map f index)) places ≡ map (λ t. f t.number) tasks → length places ≤ 65536
picked_few f index places tasks are picked =
    omega (arith, length-map places (row_in (map f index)), ap length picked, length-map tasks (λ (t : Admitted). f t.number), few_tasks tasks are)

-- the rows in the first places
pub places_next : (rows : List RowView) (k : ℕ) (places after : List ℕ) → k < length rows → map (row_in rows) places ≡ take k rows → after ≡ places ++ k ∷ [] → map (row_in rows) after ≡ take (k + 1) rows
places_next rows k places after inside was more =
    let next : suc k ≡ k + 1 = omega arith in
    ap (map (row_in rows)) more
    ∙ map-append (row_in rows) places (k ∷ [])
    ∙ ap (λ (rs : List RowView). rs ++ row_in rows k ∷ []) was
    ∙ sym (take-suc rows k no_row inside)
    ∙ ap (λ (n : ℕ). take n rows) next

-- ---- the rows at the end

-- those of the tasks, of the run that was streamed
pub rows_led : (w : Window) (h : Streaming) (tasks : List Admitted) → h.calls ≡ [] → h.run.log.happened ≡ [] → h.run.state.switches ≡ [] → h.accounting.time ≡ h.run.state.time → tasks ≡ map (admitted_with_params (given_in h.run.given)) h.run.state.used
    → rows_of w (streamed_run h.accounting tasks) ≡ rows_of w (figures_led (led_to h))
rows_led w h tasks calls unlogged bare time are =
    let a = h.accounting in
    let d = h.run.state in
    let hs : a.happened ≡ (a.happened ++ h.run.log.happened) ++ [] = sym (append-nil (a.happened ++ h.run.log.happened) ∙ ap (λ (gs : List Happened). a.happened ++ gs) unlogged ∙ append-nil a.happened) in
    let ss : a.switches ≡ a.switches ++ d.switches = sym (ap (λ (gs : List Switch). a.switches ++ gs) bare ∙ append-nil a.switches) in
    let run : List RowView = rows_of w (figures_led (led_by h [])) in
    let same : rows_of w (streamed_run a tasks) ≡ run = λ i. rows_of w (record { cpus = d.cpus; time = time i; tasks = are i; happened = hs i; switches = ss i }) in
    same ∙ ap (λ (xs : List Call). rows_of w (figures_led (led_by h xs))) (sym calls)

-- the rows of all numbers, whatever their parameters
pub rows_of_numbers : (w : Window) (a : AccountingView) (numbers : List ℕ) (rows : List RowView) → a.tasks ≡ numbers → ((tasks : List Admitted) → map (λ t. t.number) tasks ≡ a.tasks → rows ≡ rows_of w (streamed_run a tasks)) → rows ≡ map (row_of w (streamed_run a [])) numbers
rows_of_numbers w a numbers rows same are =
    let known = map (admitted_with_params no_params) numbers in
    let f : ℕ → RowView = row_of w (streamed_run a []) in
    are known (numbers_are no_params numbers ∙ sym same) ∙ both (λ (t : Admitted). t.number) f known ∙ ap (map f) (numbers_are no_params numbers)

pub sketch_is : (w : Window) (h : Streaming) (numbers places : List ℕ) (rows : List RowView) → h.calls ≡ [] → h.run.log.happened ≡ [] → h.run.state.switches ≡ [] → h.accounting.time ≡ h.run.state.time → h.accounting.tasks ≡ numbers
    → ((f : ℕ → RowView) → map (row_in (map f numbers)) places ≡ map f h.run.state.used) → ((tasks : List Admitted) → map (λ t. t.number) tasks ≡ h.accounting.tasks → rows ≡ rows_of w (streamed_run h.accounting tasks))
    → record { names = name_of_task h.run.names; cpus = h.run.state.cpus; rows = map (row_in rows) places } ≡ sketch_led w (led_to h)
sketch_is w h numbers places rows calls unlogged bare time same picked are =
    let a = h.accounting in
    let used = h.run.state.used in
    let given = given_in h.run.given in
    let f : ℕ → RowView = row_of w (streamed_run a []) in
    let tasks = map (admitted_with_params given) used in
    let all : map (row_in rows) places ≡ rows_of w (streamed_run a tasks) =
    ap (λ (rs : List RowView). map (row_in rs) places) (rows_of_numbers w a numbers rows same are)
    ∙ picked f
    ∙ both (admitted_with_params given) (λ (t : Admitted). f t.number) used in
    let led = all ∙ rows_led w h tasks calls unlogged bare time refl in
    ap (λ (rs : List RowView). record { names = name_of_task h.run.names; cpus = h.run.state.cpus; rows = rs }) led
    ∙ ap (λ (xs : List Call). record { names = (led_by h xs).names; cpus = (led_by h xs).domain.cpus; rows = rows_of w (figures_led (led_to h)) }) (sym calls)

-- a place is inside the rows
pub place_inside : (rows : List RowView) (places lent : List ℕ) (k : ℕ) → lent ≡ places → k < length lent → All (λ i. i < length rows) places → get_or lent k 0 < length rows
place_inside rows places lent k same inside all = subst (All (λ i. i < length rows)) (sym same) all k 0 inside

-- a place, whatever would stand for none
pub place_is : (places : List ℕ) (k : ℕ) → k < length places → get_or places k 0 ≡ get_or places k (get_or places k 0)
place_is [] k inside = absurd (omega (arith, inside))
place_is (p ∷ ps) zero inside = refl
place_is (p ∷ ps) (suc k) inside = place_is ps k (omega (arith, inside))

-- ---- sections that are read before they are run

pub as_many_ahead : (fs : List ForeseenSection) (done : List SectionView) → map ahead_as fs ≡ map ahead_in done → length fs ≡ length done
as_many_ahead fs done same = sym (length-map fs ahead_as) ∙ ap (λ (vs : List AheadView). length vs) same ∙ length-map done ahead_in

ahead_is : (f : ForeseenSection) (s : SectionView) → AreCallsOf s f.cpus f.limit f.foreseen.calls → ahead_as f ≡ ahead_in s
ahead_is f s are = λ i. record { cpus = sym are.same_cpus i; limit = sym are.same_limit i; calls = are.same_calls i }

pub ahead_more : (fs : List ForeseenSection) (done : List SectionView) (f : ForeseenSection) (s : SectionView) → map ahead_as fs ≡ map ahead_in done → AreCallsOf s f.cpus f.limit f.foreseen.calls → map ahead_as (fs ++ f ∷ []) ≡ map ahead_in (done ++ s ∷ [])
ahead_more fs done f s same are =
    map-append ahead_as fs (f ∷ [])
    ∙ ap (λ (vs : List AheadView). vs ++ ahead_as f ∷ []) same
    ∙ ap (λ (v : AheadView). map ahead_in done ++ v ∷ []) (ahead_is f s are)
    ∙ sym (map-append ahead_in done (s ∷ []))

pub ready_to_run : (f : ForeseenSection) (s : SectionView) → IsSection s → AreCallsOf s f.cpus f.limit f.foreseen.calls → IsForeseen f.foreseen → IsReadyToRun f
ready_to_run f s is are foreseen = record {
  cpus = (omega (arith, is.some_cpus, are.same_cpus), omega (arith, is.most_cpus, are.same_cpus));
  limit = subst IsLimit are.same_limit (is.least_limit, is.most_limit);
  foreseen = foreseen;
  few = calls_few s f.cpus f.limit f.foreseen.calls are is.most_entries;
}

-- ---- the rows of several

-- ---- the chart of sections

ticks_same : (c : Call) → ticks_of c ≡ ticks_given c
ticks_same (Admit number name params delay script) = refl
ticks_same (Regrade number params word) = refl
ticks_same (Wake number) = refl
ticks_same (Leave number) = refl
ticks_same (Advance n) = refl
ticks_same (Limit limit word) = refl
ticks_same (Depart number) = refl
ticks_same (Arrive number name params script) = refl

-- the time that calls lead to
time_ahead : (d : Domain) (cs : List Call) → (after_calls d cs).time ≡ d.time + all_ticks cs
time_ahead d [] = omega arith
time_ahead d (c ∷ cs) =
    let rest = time_ahead (after_call d c) cs in
    omega (arith, rest, call_time d c, ticks_same c, sum_by-cons ticks_given c cs)

none_before : (n : ℕ) → 0 + n ≡ n
none_before n = omega arith

end_is : (end : ℕ) (ss : List SectionView) → fold (λ (e : ℕ) (s : SectionView). max e (domain_of s).time) end ss ≡ fold (λ (e : ℕ) (a : AheadView). max e (all_ticks a.calls)) end (map ahead_in ss)
end_is end [] = refl
end_is end (s ∷ ss) =
    let one : (domain_of s).time ≡ all_ticks (calls_in_section s) = time_ahead (empty_domain s.cpus s.limit) (calls_in_section s) ∙ none_before (all_ticks (calls_in_section s)) in
    ap (λ (t : ℕ). fold (λ (e : ℕ) (s : SectionView). max e (domain_of s).time) (max end t) ss) one
    ∙ end_is (max end (all_ticks (calls_in_section s))) ss

cpus_is : (w : Window) (n : ℕ) (ss : List SectionView) → fold (λ (n : ℕ) (s : SectionView). n + s.cpus) n ss ≡ fold (λ (n : ℕ) (s : SketchView). n + s.cpus) n (map (sketch_ahead w) (map ahead_in ss))
cpus_is w n [] = refl
cpus_is w n (s ∷ ss) =
    let one : (domain_of s).cpus ≡ s.cpus = calls_cpus (empty_domain s.cpus s.limit) (calls_in_section s) in
    ap (λ (k : ℕ). fold (λ (n : ℕ) (s : SectionView). n + s.cpus) (n + k) ss) (sym one) ∙ cpus_is w (n + (domain_of s).cpus) ss

rows_ahead : (w : Window) (base : ℕ) (ss : List SectionView) → rows_from w base ss ≡ charted_from base (map (sketch_ahead w) (map ahead_in ss))
rows_ahead w base [] = refl
rows_ahead w base (s ∷ ss) =
    let one : (domain_of s).cpus ≡ s.cpus = calls_cpus (empty_domain s.cpus s.limit) (calls_in_section s) in
    ap (λ (k : ℕ). rows_at w base s ++ rows_from w (base + k) ss) (sym one)
    ∙ ap (λ (rs : List ChartRowView). rows_at w base s ++ rs) (rows_ahead w (base + (domain_of s).cpus) ss)

pub chart_ahead_is : (span : Span) (fs : List ForeseenSection) (ss : List SectionView) → map ahead_as fs ≡ map ahead_in ss → chart_ahead span (map ahead_as fs) ≡ text_of_all (Chart span) ss
unfolding chart_ahead
chart_ahead_is span fs ss same =
    let ahead = map ahead_in ss in
    let w = window_of span (last_time ss) in
    ap (chart_ahead span) same
    ∙ ap (λ (e : ℕ). chart_sketched (window_of span e) (map (sketch_ahead (window_of span e)) ahead)) (sym (end_is 0 ss))
    ∙ ap (λ (n : ℕ). chart_text w n (charted_from 0 (map (sketch_ahead w) ahead))) (sym (cpus_is w 0 ss))
    ∙ ap (chart_text w (cpus_of_sections ss)) (sym (rows_ahead w 0 ss))
    ∙ sym (text_is (Chart span) (prints.Chart span) refl ss)

ends_as : (end : ℕ) (fs : List ForeseenSection) → All IsReadyToRun fs → fold (λ (e : ℕ) (f : ForeseenSection). max e f.foreseen.ticks) end fs ≡ fold (λ (e : ℕ) (a : AheadView). max e (all_ticks a.calls)) end (map ahead_as fs)
ends_as end [] ready = refl
ends_as end (f ∷ fs) ready =
    ap (λ (t : ℕ). fold (λ (e : ℕ) (f : ForeseenSection). max e f.foreseen.ticks) (max end t) fs) (All-head IsReadyToRun f fs ready).foreseen.ticks
    ∙ ends_as (max end (all_ticks f.foreseen.calls)) fs (All-tail IsReadyToRun f fs ready)

-- with the end and the sketches as they were made
pub chart_is_ahead : (span : Span) (w : Window) (end : ℕ) (fs : List ForeseenSection) (sketches : List SketchView) → w ≡ window_of span end → end ≡ fold (λ (e : ℕ) (f : ForeseenSection). max e f.foreseen.ticks) 0 fs → All IsReadyToRun fs
    → sketches ≡ map (λ f. sketch_ahead w (ahead_as f)) fs → chart_sketched w sketches ≡ chart_ahead span (map ahead_as fs)
unfolding chart_ahead
chart_is_ahead span w end fs sketches shown last ready made =
    let ahead = map ahead_as fs in
    let ends : end ≡ end_ahead ahead = last ∙ ends_as 0 fs ready in
    let at : w ≡ window_of span (end_ahead ahead) = shown ∙ ap (window_of span) ends in
    ap (chart_sketched w) (made ∙ both ahead_as (sketch_ahead w) fs)
    ∙ ap (λ (x : Window). chart_sketched x (map (sketch_ahead x) ahead)) at

-- ---- histories that were drawn

-- a row for each task
pub rows_long : (w : Window) (s : SectionView) (d : Domain) (a : AccountingView) (rows : List RowView) → without_switches d ≡ without_switches (domain_of s) → a ≡ section_streamed s
    → ((tasks : List Admitted) → map (λ t. t.number) tasks ≡ a.tasks → rows ≡ rows_of w (streamed_run a tasks)) → length rows ≡ length d.used
rows_long w s d a rows state whole are =
    let same : a.tasks ≡ d.used = ap (λ (x : AccountingView). x.tasks) whole ∙ sym (ap (λ (x : Domain). x.used) state) in
    ap length (rows_of_numbers w a d.used rows same are) ∙ length-map d.used (row_of w (streamed_run a []))

-- a sketch is of the calls of its history
pub sketch_drawn : (w : Window) (s : SectionView) (d : Domain) (a : AccountingView) (names : ℕ → List ℕ) (cpus : ℕ) (rows : List RowView) (places : List ℕ) → without_switches d ≡ without_switches (domain_of s) → a ≡ section_streamed s → names ≡ names_in s → cpus ≡ d.cpus
    → map (row_in rows) places ≡ rows → ((tasks : List Admitted) → map (λ t. t.number) tasks ≡ a.tasks → rows ≡ rows_of w (streamed_run a tasks))
    → record { names = names; cpus = cpus; rows = map (row_in rows) places } ≡ sketch_ahead w (ahead_in s)
sketch_drawn w s d a names cpus rows places state whole named same picked are =
    let used = (domain_of s).used in
    let tasks = map (admitted_with_params (params_in s)) used in
    let among : map (λ (t : Admitted). t.number) tasks ≡ a.tasks = numbers_are (params_in s) used ∙ sym (ap (λ (x : AccountingView). x.tasks) whole) in
    let machine : cpus ≡ (domain_of s).cpus = same ∙ ap (λ (x : Domain). x.cpus) state in
    let all : map (row_in rows) places ≡ rows_of w (streamed_run (section_streamed s) tasks) = picked ∙ are tasks among ∙ ap (λ (x : AccountingView). rows_of w (streamed_run x tasks)) whole in
    λ i. record { names = named i; cpus = machine i; rows = all i }

pub chart_drawn : (w : Window) (sketches : List SketchView) (ss : List SectionView) → sketches ≡ map (λ s. sketch_ahead w (ahead_in s)) ss → chart_sketched w sketches ≡ chart_in w ss
chart_drawn w sketches ss made =
    let ahead = map ahead_in ss in
    ap (chart_sketched w) (made ∙ both ahead_in (sketch_ahead w) ss)
    ∙ ap (λ (n : ℕ). chart_text w n (charted_from 0 (map (sketch_ahead w) ahead))) (sym (cpus_is w 0 ss))
    ∙ ap (chart_text w (cpus_of_sections ss)) (sym (rows_ahead w 0 ss))

-- the next of those that are left
pub record IsNextLeft {X : Type 0} (xs : List X) (k : ℕ) (x : X) (left : List X) : Type 0 where
  pub inside : k < length xs
  pub is : (y : X) → get_or xs k y ≡ x
  pub rest : left ≡ drop (k + 1) xs

pub next_left : {X : Type 0} (xs : List X) (k : ℕ) (x : X) (left : List X) → x ∷ left ≡ drop k xs → IsNextLeft xs k x left
next_left [] zero x left same = absurd cc
next_left [] (suc k) x left same = absurd cc
next_left (y ∷ xs) zero x left same =
    let head : x ≡ y = cc in
    let tail : left ≡ xs = cc in
    record { inside = omega arith; is = λ z. sym head; rest = tail }
next_left (y ∷ xs) (suc k) x left same =
    let more = next_left xs k x left same in
    let next : suc (k + 1) ≡ suc k + 1 = omega arith in
    record { inside = omega (arith, more.inside); is = λ z. more.is z; rest = more.rest ∙ ap (λ (n : ℕ). drop n (y ∷ xs)) next }

-- ---- several in turn

-- one that is made, of those that are left
pub made_more : {X Y Z : Type 0} (g : Y → Z) (f : X → Z) (made : List Y) (y : Y) (xs left : List X) (x : X) (all : List Z) → xs ≡ x ∷ left → g y ≡ f x → map g made ++ map f xs ≡ all → map g (made ++ y ∷ []) ++ map f left ≡ all
made_more {X} {Y} {Z} g f made y xs left x all is same so_far =
    ap (λ (zs : List Z). zs ++ map f left) (map-append g made (y ∷ []))
    ∙ append_assoc (map g made) (g y ∷ []) (map f left)
    ∙ ap (λ (z : Z). map g made ++ z ∷ map f left) same
    ∙ ap (λ (ys : List X). map g made ++ map f ys) (sym is)
    ∙ so_far

-- the sketches from a place on
left_from : (sketches : List Sketch) (k : ℕ) (s : Sketch) → k < length sketches → s ≡ get_or sketches k s → map sketch_as (drop k sketches) ≡ sketch_as s ∷ map sketch_as (drop (k + 1) sketches)
left_from sketches k s inside is =
    let next : suc k ≡ k + 1 = omega arith in
    ap (map sketch_as) (drop-cons sketches k s inside)
    ∙ ap (λ (x : Sketch). sketch_as x ∷ map sketch_as (drop (suc k) sketches)) (sym is)
    ∙ ap (λ (n : ℕ). sketch_as s ∷ map sketch_as (drop n sketches)) next

pub rows_more : (sketches : List Sketch) (k base : ℕ) (s : Sketch) (before after all : List ChartRowView) → k < length sketches → s ≡ get_or sketches k s → before ++ charted_from base (map sketch_as (drop k sketches)) ≡ all
    → after ≡ before ++ map (chart_row_of (name_of_task s.names) base) (sketch_as s).rows → after ++ charted_from (base + s.cpus) (map sketch_as (drop (k + 1) sketches)) ≡ all
rows_more sketches k base s before after all inside is so_far more =
    let own = map (chart_row_of (name_of_task s.names) base) (sketch_as s).rows in
    let rest = charted_from (base + s.cpus) (map sketch_as (drop (k + 1) sketches)) in
    ap (λ (rs : List ChartRowView). rs ++ rest) more
    ∙ append_assoc before own rest
    ∙ ap (λ (ss : List SketchView). before ++ charted_from base ss) (sym (left_from sketches k s inside is))
    ∙ so_far

pub chart_made : (w : Window) (cpus : ℕ) (sketches : List SketchView) (rows : List ChartRowView) → cpus ≡ cpus_sketched sketches → rows ≡ charted_from 0 sketches → chart_text w cpus rows ≡ chart_sketched w sketches
chart_made w cpus sketches rows many are = ap (chart_text w cpus) are ∙ ap (λ (n : ℕ). chart_text w n (charted_from 0 sketches)) many

pub as_many_made : (w : Window) (fs : List ForeseenSection) (sketches lent : List Sketch) → lent ≡ sketches → map sketch_as sketches ≡ map (λ f. sketch_ahead w (ahead_as f)) fs → length fs ≤ 8 → length lent ≤ 8
as_many_made w fs sketches lent same made few =
    omega (arith, ap length same, length-map sketches sketch_as, ap length made, length-map fs (λ (f : ForeseenSection). sketch_ahead w (ahead_as f)), few)

pub as_many_drawn : (w : Window) (ss : List SectionView) (sketches lent : List Sketch) → lent ≡ sketches → map sketch_as sketches ≡ map (λ s. sketch_ahead w (ahead_in s)) ss → length ss ≤ 8 → length lent ≤ 8
as_many_drawn w ss sketches lent same made few =
    omega (arith, ap length same, length-map sketches sketch_as, ap length made, length-map ss (λ (s : SectionView). sketch_ahead w (ahead_in s)), few)
