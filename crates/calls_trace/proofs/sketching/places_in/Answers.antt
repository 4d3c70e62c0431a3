use Rattle.std.proofs.Common.{◌≡◌, ℕ, ◌<◌, List, length, map, sym, ap, subst, ◌∙◌}
use Rattle.std.specs.Prelude.{All, Contains, IfOk}
use Rattle.std.proofs.lemmas.Result.{IfOk-weaker}
use Rattle.run_figures.specs.Runs.{AreTasks}
use Rattle.run_figures.specs.declared.run.Admitted.{Admitted}
use Rattle.chart_pieces.specs.RowView.{RowView}
use Rattle.calls_trace.specs.private.Replaying.{given_in}
use Rattle.calls_trace.specs.private.Sketched.{no_row, row_in}
use Rattle.calls_trace.proofs.StreamedCalls.{tasks_are_among}
use Rattle.calls_trace.proofs.Sketches.{picked_all, picked_few}
use Rattle.calls_trace.proofs.sketching.places_in.Goals as goal

pub of-requires : goal.of-requires
of-requires c = subst AreTasks (sym c.deref.ensures.value) c.in_ok-known.ensures.apart

pub places_of-requires : goal.places_of-requires
places_of-requires c =
    let r = c.args.run.now in
    let keys : c.in_ok-index.index ≡ c.args.numbers.now.keys = c.in_ok-index.ensures ∙ ap (map (λ (t : Admitted). t.number)) c.deref.ensures.value ∙ c.in_ok-known.ensures.tasks in
    record {
      among = subst (λ (ns : List ℕ). All (λ (t : Admitted). Contains ns t.number) c.deref-2.result.now) (sym keys)
          (tasks_are_among (given_in r.given) c.args.numbers.now.keys r.state.used c.deref-2.result.now (c.deref-2.ensures.value ∙ c.in_ok-tasks.ensures.tasks) c.requires.among);
    }

pub returns-clause-inside : goal.returns-clause-inside
returns-clause-inside c =
    let keys : c.in_ok-index.index ≡ c.args.numbers.now.keys = c.in_ok-index.ensures ∙ ap (map (λ (t : Admitted). t.number)) c.deref.ensures.value ∙ c.in_ok-known.ensures.tasks in
    subst (λ (ns : List ℕ). IfOk c.places_of.result (λ v. All (λ i. i < length ns) v.items)) keys c.places_of.ensures.inside

pub returns-clause-rows : goal.returns-clause-rows
returns-clause-rows c = λ f.
    let r = c.args.run.now in
    let tasks = c.deref-2.result.now in
    let keys : c.in_ok-index.index ≡ c.args.numbers.now.keys = c.in_ok-index.ensures ∙ ap (map (λ (t : Admitted). t.number)) c.deref.ensures.value ∙ c.in_ok-known.ensures.tasks in
    IfOk-weaker c.places_of.result (λ v. map (row_in (map f c.in_ok-index.index)) v.items ≡ map (λ (t : Admitted). f t.number) tasks) _
    (λ v is. picked_all f c.in_ok-index.index c.args.numbers.now.keys v.items r.state.used (given_in r.given) tasks keys (c.deref-2.ensures.value ∙ c.in_ok-tasks.ensures.tasks) is)
    (c.places_of.ensures.rows f)

pub returns-clause-few : goal.returns-clause-few
returns-clause-few c =
    let tasks = c.deref-2.result.now in
    let f : ℕ → RowView = λ n. no_row in
    IfOk-weaker c.places_of.result (λ v. map (row_in (map f c.in_ok-index.index)) v.items ≡ map (λ (t : Admitted). f t.number) tasks) _
    (λ v is. picked_few f c.in_ok-index.index v.items tasks (subst AreTasks (sym c.deref-2.ensures.value) c.in_ok-tasks.ensures.apart) is)
    (c.places_of.ensures.rows f)
