-- The jobs of each task, entry by entry.
use Rattle.std.proofs.Common.{◌≡◌, ℕ, ◌+◌, ◌≤◌, ◌<◌, true, false, cond, eqb, List, [], ◌∷◌, ◌++◌, length, get_or, take, map, ◌-◌, ◌^◌, Option, Some, None, refl, sym, ap, ◌∙◌, arith, subst, All, eq-eqb, append_assoc}
use Rattle.std.specs.Prelude.{fold, IfSome}
use Rattle.std.specs.Option.{option_to_list}
use Rattle.std.proofs.lemmas.Bool.{ne_eqb, eqb-true, eqb-false}
use Rattle.std.proofs.lemmas.List.Elements.{All-map}
use Rattle.std.proofs.lemmas.List.{map-id, length-map}
use Rattle.std.proofs.lemmas.List.Sums.{fold_more, fold-append}
use Rattle.domain_run.specs.declared.happened.What.{What}
use Rattle.domain_run.specs.declared.happened.What.TheVariants.{JobEnds, NextReleased, Spent, Cut, Replenished, Released, WokenSpent}
use Rattle.domain_run.specs.declared.happened.Happened.{Happened}
use Rattle.run_figures.specs.declared.job.Job.{Job}
use Rattle.run_figures.specs.private.LineView.{JobLineView}
use Rattle.run_figures.specs.Jobs.{of_task, over_by, job_after, jobs_from, task_jobs}
use Rattle.run_figures.specs.private.Lines.{line_after, line_if, line_all, no_line, IsLineWithin, LinesHaveRoomFor, closed_line, job_lines_of}
use Rattle.run_figures.proofs.Passing.{map-map, map_same}

abbrev pub line_own : JobLineView → List Happened → JobLineView
line_own l own = fold (λ (x : JobLineView) (h : Happened). line_after h x) l own

own_line : (hs : List Happened) (l : JobLineView) (n : ℕ) → l.number ≡ n → line_all hs l ≡ line_own l (of_task n hs)
own_line [] l n e = refl
own_line (h ∷ hs) l n e =
    elim (eqb h.number n) as (λ b. eqb h.number n ≡ b → line_all hs (cond (eqb l.number h.number) (line_after h l) l) ≡ line_own l (cond b (h ∷ of_task n hs) (of_task n hs))) [
      | true ↦ λ yes.
          let own : eqb l.number h.number ≡ true = eq-eqb l.number h.number (e ∙ sym (eqb-true h.number n yes)) in
          ap (λ b. line_all hs (cond b (line_after h l) l)) own ∙ own_line hs (line_after h l) n e
      | false ↦ λ no.
          let other : eqb l.number h.number ≡ false = ne_eqb l.number h.number (λ (is : l.number ≡ h.number). eqb-false h.number n no (sym is ∙ e)) in
          ap (λ b. line_all hs (cond b (line_after h l) l)) other ∙ own_line hs l n e
    ] refl

own_closed : (own : List Happened) (l : JobLineView) → closed_line (line_own l own) ≡ record { number = l.number; jobs = l.over ++ jobs_from l.job own }
own_closed [] l = refl
own_closed (h ∷ hs) l =
    own_closed hs (line_after h l)
    ∙ ap (λ (js : List Job). record { number = l.number; jobs = js }) (append_assoc l.over (option_to_list (over_by h.time h.what l.job)) (jobs_from (job_after h.time h.what l.job) hs))

pub line_is : (hs : List Happened) (n : ℕ) → closed_line (line_all hs (no_line n)) ≡ task_jobs hs n
line_is hs n = ap closed_line (own_line hs (no_line n) n refl) ∙ own_closed (of_task n hs) (no_line n)

number_kept : (l : JobLineView) (h : Happened) → (line_if l h).number ≡ l.number
number_kept l h = elim (eqb l.number h.number) as (λ b. (cond b (line_after h l) l).number ≡ l.number) [ true ↦ refl | false ↦ refl ]

number_of_line : (hs : List Happened) (l : JobLineView) → (line_all hs l).number ≡ l.number
number_of_line [] l = refl
number_of_line (h ∷ hs) l = number_of_line hs (line_if l h) ∙ number_kept l h

pub numbers_of_lines : (hs : List Happened) (ls : List JobLineView) → map (λ l. l.number) (map (line_all hs) ls) ≡ map (λ l. l.number) ls
numbers_of_lines hs ls = map-map (λ (l : JobLineView). l.number) (line_all hs) ls ∙ map_same (λ l. (line_all hs l).number) (λ l. l.number) ls (number_of_line hs)

pub one_more_line : (hs : List Happened) (i : ℕ) (h : Happened) (now before ls : List JobLineView) → i < length hs → h ≡ get_or hs i h → before ≡ map (line_all (take i hs)) ls → now ≡ map (λ l. line_if l h) before → now ≡ map (line_all (take (i + 1) hs)) ls
one_more_line hs i h now before ls l is b n =
    let each : (x : JobLineView) → line_if (line_all (take i hs) x) h ≡ line_all (take (i + 1) hs) x = λ x.
    ap (line_if (line_all (take i hs) x)) is ∙ sym (fold_more line_if x hs i h l) in
    n ∙ ap (map (λ x. line_if x h)) b ∙ map-map (λ x. line_if x h) (line_all (take i hs)) ls ∙ map_same (λ x. line_if (line_all (take i hs) x) h) (line_all (take (i + 1) hs)) ls each

-- COUNTS
throttled_more : (n m : ℕ) (o : Option Job) → n ≤ m → IfSome o (λ j. j.throttled ≤ n) → IfSome o (λ j. j.throttled ≤ m)
throttled_more n m None l h = tt
throttled_more n m (Some j) l h = omega (arith, h)

throttled_by : (n time : ℕ) (what : What) (o : Option Job) → IfSome o (λ j. j.throttled ≤ n) → IfSome (job_after time what o) (λ j. j.throttled ≤ n + 1)
throttled_by n time JobEnds o h = tt
throttled_by n time Cut o h = tt
throttled_by n time (NextReleased d) o h = omega arith
throttled_by n time (Released d) o h = omega arith
throttled_by n time (Spent d) None h = tt
throttled_by n time (Spent d) (Some j) h = omega (arith, h)
throttled_by n time (WokenSpent d) None h = tt
throttled_by n time (WokenSpent d) (Some j) h = omega (arith, h)
throttled_by n time (Replenished d) o h = throttled_more n (n + 1) o (omega arith) h

if_within : (n : ℕ) (l : JobLineView) (h : Happened) → IsLineWithin n l → IsLineWithin (n + 1) (line_if l h)
if_within n l h w = elim (eqb l.number h.number) as (λ b. IsLineWithin (n + 1) (cond b (line_after h l) l)) [
  | true ↦ throttled_by n h.time h.what l.job w
  | false ↦ throttled_more n (n + 1) l.job (omega arith) w
]

-- within the number of entries
pub all_within : (hs : List Happened) (n : ℕ) (l : JobLineView) → IsLineWithin n l → IsLineWithin (n + length hs) (line_all hs l)
all_within [] n l w = throttled_more n (n + 0) l.job (omega arith) w
all_within (h ∷ hs) n l w =
    let e : n + 1 + length hs ≡ n + length (h ∷ hs) = omega arith in
    subst (λ m. IsLineWithin m (line_all (h ∷ hs) l)) e (all_within hs (n + 1) (line_if l h) (if_within n l h w))

pub lines_within : (hs : List Happened) (used m : ℕ) (ls : List JobLineView) → used + length hs ≤ m → All (IsLineWithin used) ls → All (IsLineWithin m) (map (line_all hs) ls)
lines_within hs used m ls le all =
    All-map (IsLineWithin m) (line_all hs) ls
    (λ k d l.
    let one = get_or ls k d in
    throttled_more (used + length hs) m (line_all hs one).job le (all_within hs used one (all k d l)))

-- THE JOBS OF ALL TASKS
pub lines_keyed : (happened : List Happened) (numbers : List ℕ) (ls : List JobLineView) → ls ≡ job_lines_of happened numbers → map (λ l. l.number) ls ≡ numbers
lines_keyed happened numbers ls are =
    ap (map (λ (l : JobLineView). l.number)) are
    ∙ map-map (λ (l : JobLineView). l.number) (λ n. line_all happened (no_line n)) numbers
    ∙ map_same (λ n. (line_all happened (no_line n)).number) (λ n. n) numbers (λ n. number_of_line happened (no_line n))
    ∙ map-id numbers

pub as_many_lines : (happened : List Happened) (numbers : List ℕ) (ls : List JobLineView) → ls ≡ job_lines_of happened numbers → length ls ≡ length numbers
as_many_lines happened numbers ls are = ap length are ∙ length-map numbers (λ n. line_all happened (no_line n))

pub lines_have_room : (happened : List Happened) (numbers : List ℕ) (ls : List JobLineView) (n : ℕ) → ls ≡ job_lines_of happened numbers → length happened + n < 2 ^ 64 - 1 → LinesHaveRoomFor n ls
lines_have_room happened numbers ls n are few = record {
  used = length happened;
  fits = omega (arith, few);
  within = subst (All (IsLineWithin (length happened))) (sym are)
      (All-map (IsLineWithin (length happened)) (λ n. line_all happened (no_line n)) numbers
      (λ k d l.
      let one = no_line (get_or numbers k d) in
      throttled_more (0 + length happened) (length happened) (line_all happened one).job (omega arith) (all_within happened 0 one tt)));
}

-- with what happened next
pub lines_more : (happened hs : List Happened) (numbers : List ℕ) (ls now : List JobLineView) → ls ≡ job_lines_of happened numbers → now ≡ map (line_all hs) ls → now ≡ job_lines_of (happened ++ hs) numbers
lines_more happened hs numbers ls now are logged =
    logged
    ∙ ap (map (line_all hs)) are
    ∙ map-map (line_all hs) (λ n. line_all happened (no_line n)) numbers
    ∙ map_same (λ n. line_all hs (line_all happened (no_line n))) (λ n. line_all (happened ++ hs) (no_line n)) numbers
    (λ n. sym (fold-append line_if (no_line n) happened hs))
