-- The jobs of tasks, each taken out of its place.
use Rattle.std.proofs.Common.{◌≡◌, ℕ, suc, ◌+◌, ◌≤◌, ◌<◌, List, [], ◌∷◌, ◌++◌, length, get_or, take, map, Result, Option, Some, None, false, sym, ap, ◌∙◌, arith, subst, All}
use Rattle.std.specs.Prelude.{Contains, IfOk, IfSome, is_some}
use Rattle.std.specs.Global.{Vec}
use Rattle.std.proofs.lemmas.Bool.{true≢false}
use Rattle.std.proofs.lemmas.Result.{IfOk-weaker}
use Rattle.std.proofs.Math.ListN.{set}
use Rattle.std.proofs.Math.Seq.{take-suc}
use Rattle.std.proofs.lemmas.List.{get_or_default, get_or-map, get_or-set_other, map-append, length-map}
use Rattle.run_figures.specs.declared.run.Admitted.{Admitted}
use Rattle.run_figures.specs.TaskJobsView.{TaskJobsView}
use Rattle.run_figures.specs.Places.{IsAt}
use Rattle.run_figures.specs.Runs.{AreTasks}
use Rattle.run_figures.specs.Jobs.{task_jobs}
use Rattle.run_figures.specs.private.LineView.{JobLineView}
use Rattle.run_figures.specs.private.Lines.{closed_line, line_all, no_line, job_lines_of, AreLinesKept}
use Rattle.domain_run.specs.declared.happened.Happened.{Happened}
use Rattle.run_figures.proofs.Chosen.{at_place}
use Rattle.run_figures.specs.Laws.{AreReleased}
use Rattle.run_figures.proofs.Listed.{line_is}
use Rattle.run_figures.proofs.Once.{all_released}
use Rattle.run_figures.proofs.Passing.{map-map, map_same}

-- from the i-th task on each has its jobs at its place
abbrev pub AreLeft : (ℕ → JobLineView) → List ℕ → List Admitted → ℕ → List JobLineView → Type 0
AreLeft f numbers tasks i table = (k : ℕ) (d : Admitted) (p : ℕ) (e : JobLineView) → i ≤ k → k < length tasks → IsAt numbers (get_or tasks k d).number p → get_or table p e ≡ f (get_or tasks k d).number

pub all_left : (f : ℕ → JobLineView) (numbers : List ℕ) (tasks : List Admitted) (table : List JobLineView) → table ≡ map f numbers → AreLeft f numbers tasks 0 table
all_left f numbers tasks table same k d p e le l at = at_place f table numbers p (get_or tasks k d).number e same at.within at.is

-- one is taken out
pub fewer_left : (f : ℕ → JobLineView) (numbers : List ℕ) (tasks : List Admitted) (i : ℕ) (d : Admitted) (table after : List JobLineView) (place : ℕ) (x : JobLineView) → AreTasks tasks → i < length tasks → IsAt numbers (get_or tasks i d).number place → AreLeft f numbers tasks i table → after ≡ set table place x → AreLeft f numbers tasks (i + 1) after
fewer_left f numbers tasks i d table after place x are l here left taken k e p y le more at =
    let other : p ≡ place → ⊥ = λ same.
    let one : get_or numbers p 0 ≡ (get_or tasks k e).number = at.is 0 in
    let two : get_or numbers place 0 ≡ (get_or tasks i d).number = here.is 0 in
    are.apart i k e (omega (arith, le)) more
    (ap (λ (a : Admitted). a.number) (get_or_default tasks i e d l) ∙ sym two ∙ ap (λ (n : ℕ). get_or numbers n 0) (sym same) ∙ one) in
    ap (λ (ls : List JobLineView). get_or ls p y) taken ∙ get_or-set_other table place p x y other ∙ left k e p y (omega (arith, le)) more at

-- the first of them
pub at_first : (f : ℕ → JobLineView) (numbers : List ℕ) (tasks : List Admitted) (i : ℕ) (d : Admitted) (table : List JobLineView) (place : ℕ) (x y : JobLineView) → i < length tasks → IsAt numbers (get_or tasks i d).number place → x ≡ get_or table place y → AreLeft f numbers tasks i table → x ≡ f (get_or tasks i d).number
at_first f numbers tasks i d table place x y l at read left = read ∙ left i d place y (omega arith) l at

-- one more is closed
pub one_closed : (f : ℕ → JobLineView) (tasks : List Admitted) (i : ℕ) (d : Admitted) (line : JobLineView) (one : TaskJobsView) (before after : List TaskJobsView) → i < length tasks → line ≡ f (get_or tasks i d).number → one ≡ closed_line line
    → before ≡ map (λ a. closed_line (f a.number)) (take i tasks) → after ≡ before ++ one ∷ [] → after ≡ map (λ a. closed_line (f a.number)) (take (i + 1) tasks)
one_closed f tasks i d line one before after l at closed was more =
    let put : Admitted → TaskJobsView = λ a. closed_line (f a.number) in
    let next : i + 1 ≡ suc i = omega arith in
    more
    ∙ (λ k. was k ++ (closed ∙ ap closed_line at) k ∷ [])
    ∙ sym (map-append put (take i tasks) (get_or tasks i d ∷ []))
    ∙ ap (map put) (sym (take-suc tasks i d l) ∙ ap (λ (n : ℕ). take n tasks) (sym next))

-- all of them
pub all_closed : (happened : List Happened) (tasks : List Admitted) → map (λ t. closed_line (line_all happened (no_line t.number))) tasks ≡ map (λ t. task_jobs happened t.number) tasks
all_closed happened tasks = map_same (λ (t : Admitted). closed_line (line_all happened (no_line t.number))) (λ (t : Admitted). task_jobs happened t.number) tasks (λ t. line_is happened t.number)

-- tasks are among themselves
pub among_all : (tasks : List Admitted) (numbers : List ℕ) → numbers ≡ map (λ t. t.number) tasks → All (λ t. Contains numbers t.number) tasks
among_all tasks numbers is k d l =
    let n = (get_or tasks k d).number in
    subst (λ (ns : List ℕ). Contains ns n) (sym is) (k, omega (arith, l, length-map tasks (λ (t : Admitted). t.number)), get_or-map (λ (t : Admitted). t.number) tasks k d n l)

-- THE JOBS OF A TABLE
pub none_logged : (tasks : List Admitted) (numbers : List ℕ) (ls : List JobLineView) → numbers ≡ map (λ t. t.number) tasks → ls ≡ map (λ t. no_line t.number) tasks → ls ≡ job_lines_of [] numbers
none_logged tasks numbers ls same are =
    are ∙ sym (map-map no_line (λ (t : Admitted). t.number) tasks) ∙ ap (map no_line) (sym same)

pub closed_are : {E : Type 0} (happened : List Happened) (tasks : List Admitted) (numbers : List ℕ) (ls : List JobLineView) (made : Result (Vec TaskJobsView) E) → ls ≡ job_lines_of happened numbers → ((f : ℕ → JobLineView) → ls ≡ map f numbers → IfOk made (λ v. v.items ≡ map (λ t. closed_line (f t.number)) tasks)) → IfOk made (λ v. v.items ≡ map (λ t. task_jobs happened t.number) tasks)
closed_are happened tasks numbers ls made are closed =
    IfOk-weaker made _ (λ v. v.items ≡ map (λ t. task_jobs happened t.number) tasks) (λ v is. is ∙ all_closed happened tasks) (closed (λ n. line_all happened (no_line n)) are)

pub all_are_released : {E : Type 0} (happened : List Happened) (tasks : List Admitted) (made : Result (Vec TaskJobsView) E) → IfOk made (λ v. v.items ≡ map (λ t. task_jobs happened t.number) tasks) → IfOk made (λ v. All (AreReleased happened) v.items)
all_are_released happened tasks made are = IfOk-weaker made _ (λ v. All (AreReleased happened) v.items) (λ v is. all_released happened tasks v.items is) are

-- of an accounting that has streamed nothing
pub none_kept : (tasks : List Admitted) (numbers : List ℕ) (happened : List Happened) (lines : Option (Vec JobLineView)) → numbers ≡ map (λ t. t.number) tasks → happened ≡ [] → IfSome lines (λ ls. ls.items ≡ map (λ t. no_line t.number) tasks) → AreLinesKept happened numbers lines
none_kept tasks numbers happened None same none are = tt
none_kept tasks numbers happened (Some ls) same none are = none_logged tasks numbers ls.items same are ∙ ap (λ (hs : List Happened). job_lines_of hs numbers) (sym none)

-- of one that keeps no jobs
pub not_kept : (happened : List Happened) (numbers : List ℕ) (lines : Option (Vec JobLineView)) → is_some lines ≡ false → AreLinesKept happened numbers lines
not_kept happened numbers None none = tt
not_kept happened numbers (Some ls) none = absurd (true≢false none)
