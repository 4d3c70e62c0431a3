use Rattle.std.proofs.Common.{◌≡◌, List, map, get_or, take, length, ◌+◌, rules, sym, ap, subst, ◌∙◌, ◌++◌, [], ◌∷◌}
use Rattle.std.proofs.lemmas.List.{take_more, map-append, length_push}
use Rattle.rtapp_scenario.specs.ScenarioView.{TaskSpecView}
use Rattle.figure_text.specs.Promises.{PromiseView, promise_view_of}
use Rattle.dl_session.specs.Promised.{AreEach, IsRowOf}
use Rattle.dl_session.proofs.Rows.{each_more}
use Rattle.dl_session.proofs.promising.rows_of.Goals as goal

pub loop-task-preserved : goal.loop-task-preserved
loop-task-preserved c =
    let is = IsRowOf c.args.states.now in
    let tasks = c.args.tasks.now in
    let i = c.loop-task.task-index in
    let t = c.task-item.result in
    let before = c.loop-task.rows.items in
    let row = c.row_of.result in
    let more = take_more tasks i t c.loop-task-test.true in
    let items = c.push_reserved.ensures.items in
    let views : map promise_view_of c.push_reserved.new.self.items ≡ map promise_view_of before ++ promise_view_of row ∷ [] = ap (map promise_view_of) items ∙ map-append promise_view_of before (row ∷ []) in
    let one : is (get_or tasks i t) (promise_view_of row) = subst (λ (x : TaskSpecView). is x (promise_view_of row)) c.task-item.is c.row_of.ensures in
    let each = each_more is (take i tasks) (map promise_view_of before) (get_or tasks i t) (promise_view_of row) c.loop-task.invariant.each one in
    record {
      each = subst (λ (ts : List TaskSpecView). AreEach is ts (map promise_view_of c.push_reserved.new.self.items)) (sym more)
          (subst (λ (rs : List PromiseView). AreEach is (take i tasks ++ get_or tasks i t ∷ []) rs) (sym views) each);
      count = ap length items ∙ length_push before row ∙ ap (λ n. n + 1) c.loop-task.invariant.count;
      room = search rules;
    }
