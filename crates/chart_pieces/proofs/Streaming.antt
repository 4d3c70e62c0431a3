-- A piece that is streamed: the lines of all tasks, and who has each CPU.
use Rattle.std.proofs.Common.{◌≡◌, ◌≢◌, ℕ, zero, suc, ◌+◌, ◌≤◌, ◌<◌, Bool, true, false, true≢false, cond, eqb, ⊎_elim, List, [], ◌∷◌, ◌++◌, length, get_or, set, take, map, replicate, Option, Some, None, refl, sym, ap, ◌∙◌, arith, subst, append-nil, map-id, eq-eqb, All, length-append}
use Rattle.std.specs.Prelude.{AllPairs, IsTrue, is_none, ◌&&◌, nat_lt, ◌==◌}
use Rattle.std.specs.List.{range_with_len}
use Rattle.std.proofs.Math.Seq.{take-append_seam}
use Rattle.std.proofs.lemmas.Bool.{ne_eqb, cases_eq, eqb-true, eqb-false, or_cases, and_parts, ltb-true}
use Rattle.std.proofs.lemmas.List.{take_all, take_more, get_or-take, get_or_default, length-take, get_or-append-add}
use Rattle.std.proofs.lemmas.List.Elements.{All-append, All-map, All-filter}
use Rattle.std.proofs.lemmas.List.FromFn.{length-map-range_with_len, get_or-map-range_with_len}
use Rattle.std.proofs.lemmas.List.Sums.{fold-append}
use Rattle.domain_run.specs.declared.happened.Happened.{Happened}
use Rattle.domain_run.specs.Switch.{Switch}
use Rattle.domain_run.specs.Switches.{is_switch_before}
use Rattle.edf_pick.specs.Places.{is_task}
use Rattle.run_figures.specs.Accounting.{IsNextPiece}
use Rattle.chart_pieces.specs.declared.status.Moment.{Moment}
use Rattle.chart_pieces.specs.declared.row.Bar.{Bar}
use Rattle.chart_pieces.specs.declared.window.Window.{Window}
use Rattle.chart_pieces.specs.Window.{touches}
use Rattle.chart_pieces.specs.Bars.{bars_of, bars_in}
use Rattle.chart_pieces.specs.Moments.{moments}
use Rattle.chart_pieces.specs.Drawing.{DrawingView, drawn_on}
use Rattle.chart_pieces.specs.private.LineView.{ChartLineView}
use Rattle.chart_pieces.specs.private.Lines.{line_without_bars, bar_in, with_bar, with_bar_of, bars_stopped, with_stop, with_stop_of, AreDrawn, drawn_next, holder, bars_after, bars_if, bars_all, drawn_line}
use Rattle.chart_pieces.specs.private.Keeping.{IsDrawingKept}
use Rattle.chart_pieces.proofs.Moments.{map-map, map_same, number_of_line}
use Rattle.chart_pieces.proofs.Stopping.{bars_in_more}
use Rattle.chart_pieces.proofs.Holding.{over_before, drawn_bars, untouched}
use Rattle.chart_pieces.proofs.Joining.{moments_next}

-- MOMENTS leave the bars as they are
if_with : (w : Window) (l : ChartLineView) (bs : List Bar) (m : Moment) → bars_if w (record l { bars = bs }) m ≡ record (bars_if w l m) { bars = bs }
if_with w l bs m = elim (eqb l.number m.number) as (λ b. cond b (bars_after w m (record l { bars = bs })) (record l { bars = bs }) ≡ record (cond b (bars_after w m l) l) { bars = bs }) [ true ↦ refl | false ↦ refl ]

all_with : (w : Window) (ms : List Moment) (l : ChartLineView) (bs : List Bar) → bars_all w ms (record l { bars = bs }) ≡ record (bars_all w ms l) { bars = bs }
all_with w [] l bs = refl
all_with w (m ∷ ms) l bs = ap (bars_all w ms) (if_with w l bs m) ∙ all_with w ms (bars_if w l m) bs

moments_more : (w : Window) (time : ℕ) (xs ys : List Moment) (ss : List Switch) (n : ℕ) → bars_all w ys (drawn_line w time xs ss n) ≡ drawn_line w time (xs ++ ys) ss n
moments_more w time xs ys ss n =
    let l = line_without_bars n in
    let bs = bars_in w time ss n in
    all_with w ys (bars_all w xs l) bs
    ∙ ap (λ (x : ChartLineView). record x { bars = bs }) (sym (fold-append (bars_if w) l xs ys))

pub lines_logged : (w : Window) (time : ℕ) (xs ys : List Moment) (ss : List Switch) (tasks : List ℕ) (before now : List ChartLineView) → before ≡ map (drawn_line w time xs ss) tasks → now ≡ map (bars_all w ys) before → now ≡ map (drawn_line w time (xs ++ ys) ss) tasks
lines_logged w time xs ys ss tasks before now b n =
    n ∙ ap (map (bars_all w ys)) b ∙ map-map (bars_all w ys) (drawn_line w time xs ss) tasks
    ∙ map_same (λ k. bars_all w ys (drawn_line w time xs ss k)) (drawn_line w time (xs ++ ys) ss) tasks (moments_more w time xs ys ss)

-- NUMBERS STAY
number_is : (w : Window) (time : ℕ) (ms : List Moment) (ss : List Switch) (n : ℕ) → (drawn_line w time ms ss n).number ≡ n
number_is w time ms ss n = number_of_line w ms (line_without_bars n)

pub lines_keyed : (w : Window) (time : ℕ) (ms : List Moment) (ss : List Switch) (tasks : List ℕ) (ls : List ChartLineView) → ls ≡ map (drawn_line w time ms ss) tasks → map (λ l. l.number) ls ≡ tasks
lines_keyed w time ms ss tasks ls is =
    ap (λ (xs : List ChartLineView). map (λ l. l.number) xs) is
    ∙ map-map (λ (l : ChartLineView). l.number) (drawn_line w time ms ss) tasks
    ∙ map_same (λ k. (drawn_line w time ms ss k).number) (λ k. k) tasks (number_is w time ms ss) ∙ map-id tasks

stop_number : (h : Option ℕ) (w : Window) (s : Switch) (l : ChartLineView) → (with_stop_of h w s l).number ≡ l.number
stop_number None w s l = refl
stop_number (Some m) w s l = elim (eqb l.number m) as (λ b. (cond b (with_stop w s l) l).number ≡ l.number) [ true ↦ refl | false ↦ refl ]

pub numbers_stopped : (w : Window) (s : Switch) (h : Option ℕ) (before now : List ChartLineView) (numbers : List ℕ) → now ≡ map (with_stop_of h w s) before → map (λ l. l.number) before ≡ numbers → map (λ l. l.number) now ≡ numbers
numbers_stopped w s h before now numbers is keyed =
    ap (λ (xs : List ChartLineView). map (λ l. l.number) xs) is
    ∙ map-map (λ (l : ChartLineView). l.number) (with_stop_of h w s) before
    ∙ map_same (λ l. (with_stop_of h w s l).number) (λ l. l.number) before (stop_number h w s) ∙ keyed

-- ONE SWITCH MORE, of a task
abbrev or_zero : Option ℕ → ℕ
or_zero None = 0
or_zero (Some n) = n

some_is : (m n : ℕ) → Some m ≡ Some n → m ≡ n
some_is m n e = ap or_zero e

none_some : (n : ℕ) → None ≢ Some n
none_some n e = true≢false (ap (λ (o : Option ℕ). is_none o) e)

left_alone : (w : Window) (time : ℕ) (s : Switch) (ss : List Switch) (n : ℕ) → All (λ x. x.time ≤ s.time) ss → holder w time s.cpu ss ≢ Some n → bars_in w time ss n ≡ bars_stopped w s (bars_in w time ss n)
left_alone w time s ss n all other =
    let shown = (drawn_bars w time s.time n ss all).shown in
    let over = All-filter (λ (b : Bar). touches w b.start b.stop) (λ (b : Bar). touches w b.start b.stop ≡ true → b.cpu ≡ s.cpu → b.stop ≤ s.time) (bars_of time ss n) (over_before w time s.cpu s.time n None ss all other) in
    untouched w s (bars_in w time ss n) shown (λ k d l. over k d l (shown k d l))

stop_more : (w : Window) (time : ℕ) (ms : List Moment) (s : Switch) (ss : List Switch) (n : ℕ) (h : Option ℕ) → h ≡ holder w time s.cpu ss → All (λ x. x.time ≤ s.time) ss
    → with_stop_of h w s (drawn_line w time ms ss n) ≡ record (drawn_line w time ms ss n) { bars = bars_stopped w s (bars_in w time ss n) }
stop_more w time ms s ss n None is all =
    ap (λ (bs : List Bar). record (drawn_line w time ms ss n) { bars = bs }) (left_alone w time s ss n all (λ e. none_some n (is ∙ e)))
stop_more w time ms s ss n (Some m) is all =
    let l = drawn_line w time ms ss n in
    elim (eqb l.number m) as (λ b. eqb l.number m ≡ b → cond b (with_stop w s l) l ≡ record l { bars = bars_stopped w s (bars_in w time ss n) }) [
      | true ↦ λ yes. refl
      | false ↦ λ no. ap (λ (bs : List Bar). record l { bars = bs })
          (left_alone w time s ss n all (λ e. eqb-false l.number m no (number_is w time ms ss n ∙ sym (some_is m n (is ∙ e)))))
    ] refl

came : (w : Window) (time : ℕ) (s : Switch) (l : ChartLineView) (m : ℕ) (b : Bool) → eqb m l.number ≡ b → eqb l.number m ≡ b
    → with_bar_of (Some m) w s time l ≡ record l { bars = l.bars ++ cond (is_task l.number (Some m)) (bar_in w s time) [] }
came w time s l m true to from =
    ap (λ b. cond b (with_bar w s time l) l) from
    ∙ ap (λ b. record l { bars = l.bars ++ cond b (bar_in w s time) [] }) (sym to)
came w time s l m false to from =
    ap (λ b. cond b (with_bar w s time l) l) from
    ∙ ap (λ (bs : List Bar). record l { bars = bs }) (sym (append-nil l.bars))
    ∙ ap (λ b. record l { bars = l.bars ++ cond b (bar_in w s time) [] }) (sym to)

come_more : (w : Window) (time : ℕ) (s : Switch) (next : Option ℕ) (l : ChartLineView) → with_bar_of next w s time l ≡ record l { bars = l.bars ++ cond (is_task l.number next) (bar_in w s time) [] }
come_more w time s None l = ap (λ (bs : List Bar). record l { bars = bs }) (sym (append-nil l.bars))
come_more w time s (Some m) l = ⊎_elim
    (λ (e : m ≡ l.number). came w time s l m true (eq-eqb m l.number e) (eq-eqb l.number m (sym e)))
    (λ (ne : m ≢ l.number). came w time s l m false (ne_eqb m l.number ne) (ne_eqb l.number m (λ (e : l.number ≡ m). ne (sym e))))
    (cases_eq m l.number)

line_more : (w : Window) (time : ℕ) (ms : List Moment) (s : Switch) (ss : List Switch) (h : Option ℕ) (n : ℕ) → h ≡ holder w time s.cpu ss → All (λ x. x.time ≤ s.time) ss → s.time ≤ time
    → with_bar_of s.next w s time (with_stop_of h w s (drawn_line w time ms ss n)) ≡ drawn_line w time ms (ss ++ s ∷ []) n
line_more w time ms s ss h n is all past =
    let l = drawn_line w time ms ss n in
    let bs = bars_stopped w s (bars_in w time ss n) in
    ap (with_bar_of s.next w s time) (stop_more w time ms s ss n h is all)
    ∙ come_more w time s s.next (record l { bars = bs })
    ∙ ap (λ k. record l { bars = bs ++ cond (is_task k s.next) (bar_in w s time) [] }) (number_is w time ms ss n)
    ∙ ap (λ (xs : List Bar). record l { bars = xs }) (sym (bars_in_more w time n s ss all past))

-- of all tasks
pub lines_more : (w : Window) (time : ℕ) (ms : List Moment) (s : Switch) (ss : List Switch) (h : Option ℕ) (tasks : List ℕ) (before now : List ChartLineView) → h ≡ holder w time s.cpu ss → All (λ x. x.time ≤ s.time) ss → s.time ≤ time
    → before ≡ map (drawn_line w time ms ss) tasks → now ≡ map (with_bar_of s.next w s time) (map (with_stop_of h w s) before) → now ≡ map (drawn_line w time ms (ss ++ s ∷ [])) tasks
lines_more w time ms s ss h tasks before now is all past b n =
    let f : ChartLineView → ChartLineView = λ l. with_bar_of s.next w s time (with_stop_of h w s l) in
    n ∙ map-map (with_bar_of s.next w s time) (with_stop_of h w s) before ∙ ap (map f) b ∙ map-map f (drawn_line w time ms ss) tasks
    ∙ map_same (λ k. f (drawn_line w time ms ss k)) (drawn_line w time ms (ss ++ s ∷ [])) tasks (λ k. line_more w time ms s ss h k is all past)

-- WHO HAS EACH CPU
holder_more : (w : Window) (time cpu : ℕ) (s : Switch) (ss : List Switch) → holder w time cpu (ss ++ s ∷ []) ≡ cond (eqb s.cpu cpu) (drawn_next w time s) (holder w time cpu ss)
holder_more w time cpu s ss = fold-append (λ (who : Option ℕ) (x : Switch). cond (eqb x.cpu cpu) (drawn_next w time x) who) None ss (s ∷ [])

above : {X : Type 0} (f g : ℕ → X) (a n : ℕ) → ((k : ℕ) → a ≤ k → f k ≡ g k) → map f (range_with_len a n) ≡ map g (range_with_len a n)
above f g a zero same = refl
above f g a (suc n) same = λ i. same a (omega arith) i ∷ above f g (a + 1) n (λ k l. same k (omega (arith, l))) i

set_one : {X : Type 0} (f g : ℕ → X) (a n i : ℕ) → i < n → ((k : ℕ) → k ≢ a + i → f k ≡ g k) → set (map f (range_with_len a n)) i (g (a + i)) ≡ map g (range_with_len a n)
set_one f g a zero i l same = absurd (omega (arith, l))
set_one f g a (suc n) zero l same =
    let first : a + 0 ≡ a = omega arith in
    let more = above f g (a + 1) n (λ k le. same k (λ e. omega (arith, e, le))) in
    λ i. g (first i) ∷ more i
set_one {X} f g a (suc n) (suc i) l same =
    let there : a + 1 + i ≡ a + suc i = omega arith in
    let first : f a ≡ g a = same a (λ e. omega (arith, e)) in
    let more : set (map f (range_with_len (a + 1) n)) i (g (a + suc i)) ≡ map g (range_with_len (a + 1) n) =
    ap (λ k. set (map f (range_with_len (a + 1) n)) i (g k)) (sym there) ∙ set_one f g (a + 1) n i (omega (arith, l)) (λ k ne. same k (λ e. ne (e ∙ sym there))) in
    λ j. first j ∷ more j

pub holders_more : (w : Window) (time : ℕ) (s : Switch) (ss : List Switch) (n : ℕ) (before now : List (Option ℕ)) → s.cpu < n → before ≡ map (λ cpu. holder w time cpu ss) (range_with_len 0 n) → now ≡ set before s.cpu (drawn_next w time s)
    → now ≡ map (λ cpu. holder w time cpu (ss ++ s ∷ [])) (range_with_len 0 n)
holders_more w time s ss n before now inside b is =
    let f : ℕ → Option ℕ = λ cpu. holder w time cpu ss in
    let g : ℕ → Option ℕ = λ cpu. holder w time cpu (ss ++ s ∷ []) in
    let at : s.cpu ≡ 0 + s.cpu = omega arith in
    let here : g (0 + s.cpu) ≡ drawn_next w time s = holder_more w time (0 + s.cpu) s ss ∙ ap (λ c. cond c (drawn_next w time s) (f (0 + s.cpu))) (eq-eqb s.cpu (0 + s.cpu) at) in
    is ∙ ap (λ (xs : List (Option ℕ)). set xs s.cpu (drawn_next w time s)) b ∙ ap (set (map f (range_with_len 0 n)) s.cpu) (sym here)
    ∙ set_one f g 0 n s.cpu inside (λ k ne. sym (holder_more w time k s ss ∙ ap (λ c. cond c (drawn_next w time s) (f k)) (ne_eqb s.cpu k (λ (e : s.cpu ≡ k). ne (sym e ∙ at)))))

pub no_holders : (w : Window) (time a n : ℕ) → replicate n None ≡ map (λ (cpu : ℕ). holder w time cpu []) (range_with_len a n)
no_holders w time a zero = refl
no_holders w time a (suc n) = ap (λ (xs : List (Option ℕ)). None ∷ xs) (no_holders w time (a + 1) n)

-- THE PIECE: all its moments, and the bars of its first switches
pub record IsStreamed (d : DrawingView) (hs : List Happened) (ss : List Switch) (i : ℕ) (ls : List ChartLineView) (os : List (Option ℕ)) : Type 0 where
  pub lines_are : ls ≡ map (drawn_line d.window d.streamed.time (moments (d.streamed.happened ++ hs) (d.streamed.switches ++ ss)) (take (length d.streamed.switches + i) (d.streamed.switches ++ ss))) d.streamed.tasks
  pub holders_are : os ≡ map (λ cpu. holder d.window d.streamed.time cpu (take (length d.streamed.switches + i) (d.streamed.switches ++ ss))) (range_with_len 0 d.streamed.cpus)

pub none_streamed : (d : DrawingView) (hs : List Happened) (ss : List Switch) (before now : List ChartLineView) (os : List (Option ℕ)) → IsDrawingKept d before os → IsNextPiece d.streamed hs ss
    → now ≡ map (bars_all d.window (moments hs ss)) before → IsStreamed d hs ss 0 now os
none_streamed d hs ss before now os drawn next logged =
    let w = d.window in
    let a = d.streamed in
    let first = moments a.happened a.switches in
    let all : a.switches ≡ take (length a.switches + 0) (a.switches ++ ss) =
    sym (take-append_seam a.switches ss) ∙ (let z : length a.switches ≡ length a.switches + 0 = omega arith in ap (λ k. take k (a.switches ++ ss)) z) in
    let joined = moments_next a.happened hs a.switches ss next.logged next.later in
    record {
      lines_are = lines_logged w a.time first (moments hs ss) a.switches a.tasks before now drawn.lines_are logged
          ∙ (λ i. map (drawn_line w a.time (sym joined i) (all i)) a.tasks);
      holders_are = drawn.holders_are ∙ ap (λ (xs : List Switch). map (λ cpu. holder d.window d.streamed.time cpu xs) (range_with_len 0 a.cpus)) all;
    }

not_earlier : (a b : Switch) → IsTrue (is_switch_before a b) → a.time ≤ b.time
not_earlier a b h = ⊎_elim
    (λ (less : nat_lt a.time b.time ≡ true). omega (arith, ltb-true a.time b.time less))
    (λ (same : ((a.time == b.time) && nat_lt a.cpu b.cpu) ≡ true). omega (arith, eqb-true a.time b.time (and_parts (a.time == b.time) (nat_lt a.cpu b.cpu) same).0))
    (or_cases (nat_lt a.time b.time) ((a.time == b.time) && nat_lt a.cpu b.cpu) h)

earlier : (ss : List Switch) (k : ℕ) (d : Switch) → k < length ss → AllPairs (λ a b. IsTrue (is_switch_before a b)) ss → All (λ x. x.time ≤ (get_or ss k d).time) (take k ss)
earlier ss k d l rising i e m =
    let before : i < k = omega (arith, m, length-take k ss) in
    let at : get_or (take k ss) i e ≡ get_or ss i e = get_or-take k ss i e before in
    let last : get_or ss k d ≡ get_or ss k e = get_or_default ss k d e l in
    omega (arith, ap (λ (x : Switch). x.time) at, ap (λ (x : Switch). x.time) last, not_earlier (get_or ss i e) (get_or ss k e) (rising i k e before l))

-- the switches so far are not later than the next one
streamed_early : (d : DrawingView) (hs : List Happened) (ss : List Switch) (i : ℕ) (e : Switch) → IsNextPiece d.streamed hs ss → i < length ss → All (λ x. x.time ≤ (get_or ss i e).time) (take (length d.streamed.switches + i) (d.streamed.switches ++ ss))
streamed_early d hs ss i e next l =
    let SS = d.streamed.switches ++ ss in
    let k = length d.streamed.switches + i in
    subst (λ (s : Switch). All (λ x. x.time ≤ s.time) (take k SS)) (get_or-append-add d.streamed.switches ss i e)
    (earlier SS k e (omega (arith, l, length-append d.streamed.switches ss)) next.rising)

pub streamed_keyed : (d : DrawingView) (hs : List Happened) (ss : List Switch) (i : ℕ) (ls : List ChartLineView) (os : List (Option ℕ)) → IsStreamed d hs ss i ls os → map (λ l. l.number) ls ≡ d.streamed.tasks
streamed_keyed d hs ss i ls os h =
    lines_keyed d.window d.streamed.time (moments (d.streamed.happened ++ hs) (d.streamed.switches ++ ss)) (take (length d.streamed.switches + i) (d.streamed.switches ++ ss)) d.streamed.tasks ls h.lines_are

pub streamed_drawn : (d : DrawingView) (hs : List Happened) (ss : List Switch) (i : ℕ) (e : Switch) (ls : List ChartLineView) (os : List (Option ℕ)) → IsStreamed d hs ss i ls os → IsNextPiece d.streamed hs ss → i < length ss
    → All (λ l. AreDrawn d.window (get_or ss i e).time l.bars) ls
streamed_drawn d hs ss i e ls os h next l =
    let t = (get_or ss i e).time in
    let seen = take (length d.streamed.switches + i) (d.streamed.switches ++ ss) in
    let ms = moments (d.streamed.happened ++ hs) (d.streamed.switches ++ ss) in
    subst (All (λ (x : ChartLineView). AreDrawn d.window t x.bars)) (sym h.lines_are)
    (All-map (λ (x : ChartLineView). AreDrawn d.window t x.bars) (drawn_line d.window d.streamed.time ms seen) d.streamed.tasks
    (λ k z m. drawn_bars d.window d.streamed.time t (get_or d.streamed.tasks k z) seen (streamed_early d hs ss i e next l)))

pub streamed_inside : (d : DrawingView) (hs : List Happened) (ss : List Switch) (i : ℕ) (e : Switch) (ls : List ChartLineView) (os : List (Option ℕ)) → IsStreamed d hs ss i ls os → IsNextPiece d.streamed hs ss → i < length ss → (get_or ss i e).cpu < length os
streamed_inside d hs ss i e ls os h next l =
    let f : ℕ → Option ℕ = λ cpu. holder d.window d.streamed.time cpu (take (length d.streamed.switches + i) (d.streamed.switches ++ ss)) in
    let one = next.inside i e l in
    omega (arith, one, ap (λ (xs : List (Option ℕ)). length xs) h.holders_are, length-map-range_with_len f 0 d.streamed.cpus)

pub one_streamed : (d : DrawingView) (hs : List Happened) (ss : List Switch) (i : ℕ) (e : Switch) (ls last : List ChartLineView) (os then : List (Option ℕ)) → IsStreamed d hs ss i ls os → IsNextPiece d.streamed hs ss → i < length ss
    → last ≡ map (with_bar_of (get_or ss i e).next d.window (get_or ss i e) d.streamed.time) (map (with_stop_of (get_or os (get_or ss i e).cpu None) d.window (get_or ss i e)) ls)
    → then ≡ set os (get_or ss i e).cpu (drawn_next d.window d.streamed.time (get_or ss i e))
    → IsStreamed d hs ss (i + 1) last then
one_streamed d hs ss i e ls last os then h next l a b =
    let w = d.window in
    let SS = d.streamed.switches ++ ss in
    let k = length d.streamed.switches + i in
    let s = get_or ss i e in
    let seen = take k SS in
    let ms = moments (d.streamed.happened ++ hs) SS in
    let f : ℕ → Option ℕ = λ cpu. holder d.window d.streamed.time cpu seen in
    let inside = next.inside i e l in
    let early = streamed_early d hs ss i e next l in
    let more : seen ++ s ∷ [] ≡ take (length d.streamed.switches + (i + 1)) SS =
    ap (λ (x : Switch). seen ++ x ∷ []) (sym (get_or-append-add d.streamed.switches ss i e))
    ∙ sym (take_more SS k e (omega (arith, l, length-append d.streamed.switches ss)))
    ∙ (let z : k + 1 ≡ length d.streamed.switches + (i + 1) = omega arith in ap (λ n. take n SS) z) in
    let who : get_or os s.cpu None ≡ holder w d.streamed.time s.cpu seen =
    ap (λ (xs : List (Option ℕ)). get_or xs s.cpu None) h.holders_are ∙ get_or-map-range_with_len f 0 d.streamed.cpus s.cpu s.cpu None inside (omega arith) in
    record {
      lines_are = lines_more w d.streamed.time ms s seen (get_or os s.cpu None) d.streamed.tasks ls last who early (next.past i e l) h.lines_are a
          ∙ ap (λ (xs : List Switch). map (drawn_line w d.streamed.time ms xs) d.streamed.tasks) more;
      holders_are = holders_more w d.streamed.time s seen d.streamed.cpus os then inside h.holders_are b
          ∙ ap (λ (xs : List Switch). map (λ cpu. holder d.window d.streamed.time cpu xs) (range_with_len 0 d.streamed.cpus)) more;
    }

pub all_streamed : (d : DrawingView) (hs : List Happened) (ss : List Switch) (i : ℕ) (ls : List ChartLineView) (os : List (Option ℕ)) → IsStreamed d hs ss i ls os → length ss ≤ i → IsNextPiece d.streamed hs ss → All (λ s. s.time ≤ d.streamed.time) d.streamed.switches
    → IsDrawingKept (drawn_on d hs ss) ls os
all_streamed d hs ss i ls os h l next past =
    let SS = d.streamed.switches ++ ss in
    let ms = moments (d.streamed.happened ++ hs) SS in
    let all : take (length d.streamed.switches + i) SS ≡ SS = take_all (length d.streamed.switches + i) SS (omega (arith, l, length-append d.streamed.switches ss)) in
    record {
      lines_are = h.lines_are ∙ ap (λ (xs : List Switch). map (drawn_line d.window d.streamed.time ms xs) d.streamed.tasks) all;
      holders_are = h.holders_are ∙ ap (λ (xs : List Switch). map (λ cpu. holder d.window d.streamed.time cpu xs) (range_with_len 0 d.streamed.cpus)) all;
      past = All-append (λ (s : Switch). s.time ≤ d.streamed.time) d.streamed.switches ss past next.past;
    }

-- NOTHING streamed yet
pub nothing_drawn : (d : DrawingView) (ls : List ChartLineView) (os : List (Option ℕ)) → d.streamed.happened ≡ [] → d.streamed.switches ≡ [] → ls ≡ map line_without_bars d.streamed.tasks → os ≡ replicate d.streamed.cpus None → IsDrawingKept d ls os
nothing_drawn d ls os none nobody lines holders =
    let w = d.window in
    let time = d.streamed.time in
    record {
      lines_are = lines ∙ map_same line_without_bars (drawn_line w time (moments [] []) []) d.streamed.tasks (λ n. refl)
          ∙ (λ i. map (drawn_line w time (moments (sym none i) (sym nobody i)) (sym nobody i)) d.streamed.tasks);
      holders_are = holders ∙ no_holders w time 0 d.streamed.cpus ∙ ap (λ (xs : List Switch). map (λ cpu. holder d.window d.streamed.time cpu xs) (range_with_len 0 d.streamed.cpus)) (sym nobody);
      past = λ k e l. absurd (omega (arith, l, ap (λ (xs : List Switch). length xs) nobody));
    }
