-- The chart of runs as they are drawn.
use Rattle.std.proofs.Common.{◌≡◌, ◌≢◌, ℕ, ◌+◌, ◌<◌, ◌≤◌, true, List, [], ◌∷◌, ◌++◌, length, map, get_or, take, refl, sym, ap, ◌∙◌, append_assoc, arith}
use Rattle.std.specs.Prelude.{All, AllPairs, flat_map, fold, max}
use Rattle.std.proofs.lemmas.List.{length-map, get_or-map, map-append, take_more}
use Rattle.std.proofs.lemmas.List.Elements.{All-map, All-contains}
use Rattle.std.proofs.lemmas.Bool.{eqb-true}
use Rattle.std.proofs.lemmas.Bool.Decides.{Decides-eqb}
use Rattle.std.proofs.lemmas.Map.Made.{IsDistinct-from_AllPairs}
use Rattle.std.proofs.lemmas.Map.Views.{Contains-from_any}
use Rattle.std.proofs.lemmas.Map.Steps.{length-le_from_distinct_below}
use Rattle.domain_run.specs.Domain.{empty_domain}
use Rattle.calls_text.specs.SectionView.{SectionView}
use Rattle.run_figures.specs.declared.run.Admitted.{Admitted}
use Rattle.run_figures.specs.Runs.{AreTasks}
use Rattle.chart_pieces.specs.declared.window.Span.{Span}
use Rattle.chart_pieces.specs.declared.window.Window.{Window}
use Rattle.chart_pieces.specs.Window.{window_of}
use Rattle.chart.specs.Rows.{ChartRowView}
use Rattle.chart.specs.Chart.{chart_text}
use Rattle.calls_trace.specs.Replay.{calls_in_section}
use Rattle.calls_trace.specs.DomainEvents.{domain_of}
use Rattle.calls_trace.specs.Charted.{last_time, cpus_of_sections, rows_at, rows_from, chart_of_sections}
use Rattle.calls_trace.specs.private.Replaying.{PlacedView, views_from, end_in, cpus_of_placed, rows_in, chart_of_placed}
use Rattle.calls_trace.proofs.Sections.{calls_cpus}

-- ---- of sections

ends_are : (end base : ℕ) (ss : List SectionView) → fold (λ (e : ℕ) (v : PlacedView). max e v.domain.time) end (views_from true base ss) ≡ fold (λ (e : ℕ) (s : SectionView). max e (domain_of s).time) end ss
ends_are end base [] = refl
ends_are end base (s ∷ ss) = ends_are (max end (domain_of s).time) (base + s.cpus) ss

cpus_are : (n base : ℕ) (ss : List SectionView) → fold (λ (n : ℕ) (v : PlacedView). n + v.domain.cpus) n (views_from true base ss) ≡ fold (λ (n : ℕ) (s : SectionView). n + s.cpus) n ss
cpus_are n base [] = refl
cpus_are n base (s ∷ ss) =
    let one : (domain_of s).cpus ≡ s.cpus = calls_cpus (empty_domain s.cpus s.limit) (calls_in_section s) in
    ap (λ (k : ℕ). fold (λ (n : ℕ) (v : PlacedView). n + v.domain.cpus) (n + k) (views_from true (base + s.cpus) ss)) one
    ∙ cpus_are (n + s.cpus) (base + s.cpus) ss

rows_are : (w : Window) (base : ℕ) (ss : List SectionView) → flat_map (rows_in w) (views_from true base ss) ≡ rows_from w base ss
rows_are w base [] = refl
rows_are w base (s ∷ ss) = ap (λ (rs : List ChartRowView). rows_at w base s ++ rs) (rows_are w (base + s.cpus) ss)

pub chart_same : (span : Span) (ss : List SectionView) → chart_of_placed (window_of span (end_in (views_from true 0 ss))) (views_from true 0 ss) ≡ chart_of_sections span ss
chart_same span ss =
    let vs = views_from true 0 ss in
    ap (λ (e : ℕ). chart_text (window_of span e) (cpus_of_placed vs) (flat_map (rows_in (window_of span e)) vs)) (ends_are 0 0 ss)
    ∙ ap (λ (n : ℕ). chart_text (window_of span (last_time ss)) n (flat_map (rows_in (window_of span (last_time ss))) vs)) (cpus_are 0 0 ss)
    ∙ ap (chart_text (window_of span (last_time ss)) (cpus_of_sections ss)) (rows_are (window_of span (last_time ss)) 0 ss)

-- ---- of runs as they are drawn

-- ---- rows, one run or one row more

pub row_more : {X Y Z : Type 0} (g : Y → Z) (f : X → Z) (before : List Z) (made : List Y) (y : Y) (xs : List X) (i : ℕ) (item : X) → i < length xs → item ≡ get_or xs i item → g y ≡ f item
    → map g made ≡ before ++ map f (take i xs) → map g (made ++ y ∷ []) ≡ before ++ map f (take (i + 1) xs)
row_more {X} {Y} {Z} g f before made y xs i item inside is same so_far =
    map-append g made (y ∷ [])
    ∙ ap (λ (zs : List Z). zs ++ g y ∷ []) so_far
    ∙ append_assoc before (map f (take i xs)) (g y ∷ [])
    ∙ ap (λ (zs : List Z). before ++ zs) (
    ap (λ (z : Z). map f (take i xs) ++ z ∷ []) (same ∙ ap f is)
    ∙ sym (map-append f (take i xs) (get_or xs i item ∷ []))
    ∙ ap (map f) (sym (take_more xs i item inside)))

-- ---- how many

-- numbers below 65536 of which no two are the same are at most so many
pub few_numbers : (ns : List ℕ) → All (λ n. n < 65536) ns → AllPairs (λ a b. a ≢ b) ns → length ns ≤ 65536
few_numbers ns small apart =
    length-le_from_distinct_below ns 65536 (IsDistinct-from_AllPairs Decides-eqb ns apart) (λ q has. All-contains (λ n. n < 65536) ns q small (Contains-from_any eqb-true q ns has))

pub few_tasks : (tasks : List Admitted) → AreTasks tasks → length tasks ≤ 65536
few_tasks tasks are =
    let number : Admitted → ℕ = λ t. t.number in
    let none : Admitted = record { number = 0; runtime = 0; period = 0 } in
    let ns = map number tasks in
    let long : length ns ≡ length tasks = length-map tasks number in
    let small : All (λ n. n < 65536) ns = All-map (λ n. n < 65536) number tasks are.small in
    let apart : AllPairs (λ a b. a ≢ b) ns = λ i j d less within same.
    let first : get_or ns i d ≡ (get_or tasks i none).number = get_or-map number tasks i none d (omega (arith, less, within, long)) in
    let second : get_or ns j d ≡ (get_or tasks j none).number = get_or-map number tasks j none d (omega (arith, within, long)) in
    are.apart i j none less (omega (arith, within, long)) (sym first ∙ same ∙ second) in
    omega (arith, long, few_numbers ns small apart)
