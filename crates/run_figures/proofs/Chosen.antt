-- The figures of some tasks, each from its place.
use Rattle.std.proofs.Common.{◌≡◌, ℕ, suc, ◌+◌, ◌<◌, List, [], ◌∷◌, ◌++◌, length, get_or, take, map, refl, sym, ap, ◌∙◌, arith}
use Rattle.std.specs.Prelude.{Contains}
use Rattle.std.proofs.lemmas.List.{get_or-map, map-append, length-map}
use Rattle.std.proofs.Math.Seq.{take-suc}
use Rattle.run_figures.specs.declared.logged.TaskTally.{TaskTally}
use Rattle.run_figures.specs.declared.ran.Ran.{Ran}
use Rattle.run_figures.specs.declared.run.Admitted.{Admitted}
use Rattle.run_figures.specs.declared.figures.TaskFigures.{TaskFigures}
use Rattle.run_figures.specs.Figures.{task_figures, figures_of}
use Rattle.run_figures.specs.Runs.{RunView}
use Rattle.run_figures.specs.declared.ran.Cpu.{Cpu}
use Rattle.run_figures.specs.Accounting.{AccountingView, streamed_run}
use Rattle.run_figures.specs.Places.{IsAbsent}
use Rattle.run_figures.specs.private.Keeping.{IsAccountingKept}
use Rattle.run_figures.specs.private.Putting.{put_task}
use Rattle.run_figures.specs.private.Logging.{logged_by}
use Rattle.run_figures.specs.private.Running.{ran_by}
use Rattle.run_figures.proofs.Put.{task_is}

-- what a table has at the place of a number
pub at_place : {X : Type 0} (f : ℕ → X) (table : List X) (numbers : List ℕ) (place n : ℕ) (x : X) → table ≡ map f numbers → place < length numbers → ((d : ℕ) → get_or numbers place d ≡ n) → get_or table place x ≡ f n
at_place f table numbers place n x same within is =
    ap (λ (xs : List _). get_or xs place x) same ∙ get_or-map f numbers place 0 x within ∙ ap f (is 0)

-- of all tasks that are chosen
pub chosen_are : (run : RunView) (tasks : List Admitted) → map (λ t. put_task run.time t (logged_by run.time run.happened run.switches t.number) (ran_by run.time run.switches t.number)) tasks ≡ map (figures_of run) tasks
chosen_are run [] = refl
chosen_are run (task ∷ tasks) = λ i. task_is run task i ∷ chosen_are run tasks i

-- one more
pub one_more : (end : ℕ) (f : ℕ → TaskTally) (g : ℕ → Ran) (tasks : List Admitted) (i : ℕ) (d : Admitted) (before after : List TaskFigures) (figures : TaskFigures) (t : TaskTally) (r : Ran) → i < length tasks → get_or tasks i d ≡ get_or tasks i d
    → t ≡ f (get_or tasks i d).number → r ≡ g (get_or tasks i d).number → figures ≡ put_task end (get_or tasks i d) t r
    → before ≡ map (λ t. put_task end t (f t.number) (g t.number)) (take i tasks) → after ≡ before ++ figures ∷ [] → after ≡ map (λ t. put_task end t (f t.number) (g t.number)) (take (i + 1) tasks)
one_more end f g tasks i d before after figures t r within same logged ran is was more =
    let put : Admitted → TaskFigures = λ x. put_task end x (f x.number) (g x.number) in
    let x = get_or tasks i d in
    let next : i + 1 ≡ suc i = omega arith in
    more
    ∙ (λ k. was k ++ (is ∙ (λ j. put_task end x (logged j) (ran j))) k ∷ [])
    ∙ sym (map-append put (take i tasks) (x ∷ []))
    ∙ ap (map put) (sym (take-suc tasks i d within) ∙ ap (λ (n : ℕ). take n tasks) (sym next))

-- a number that is among them is not absent
pub not_absent : (numbers : List ℕ) (n : ℕ) → Contains numbers n → IsAbsent numbers n → ⊥
not_absent numbers n at absent = absent at.0 n at.1 at.2

-- the figures of tasks from their tables
pub chosen_streamed : (v a : AccountingView) (tasks : List Admitted) (ts logged : List TaskTally) (rs ran : List Ran) (cs : List Cpu) (all : List TaskFigures) → v ≡ a → IsAccountingKept v ts rs cs → logged ≡ ts → ran ≡ rs
    → ((f : ℕ → TaskTally) (g : ℕ → Ran) → logged ≡ map f v.tasks → ran ≡ map g v.tasks → all ≡ map (λ t. put_task v.time t (f t.number) (g t.number)) tasks) → all ≡ task_figures (streamed_run a tasks)
chosen_streamed v a tasks ts logged rs ran cs all same kept t r put =
    put (logged_by v.time v.happened v.switches) (ran_by v.time v.switches) (t ∙ kept.logged) (r ∙ kept.ran)
    ∙ chosen_are (streamed_run v tasks) tasks
    ∙ ap (λ (x : AccountingView). task_figures (streamed_run x tasks)) same

pub as_many : (v : AccountingView) (ts logged : List TaskTally) (rs ran : List Ran) (cs : List Cpu) → IsAccountingKept v ts rs cs → logged ≡ ts → ran ≡ rs → (length logged ≡ length v.tasks) × (length ran ≡ length v.tasks)
as_many v ts logged rs ran cs kept t r =
    (ap length (t ∙ kept.logged) ∙ length-map v.tasks (logged_by v.time v.happened v.switches), ap length (r ∙ kept.ran) ∙ length-map v.tasks (ran_by v.time v.switches))
