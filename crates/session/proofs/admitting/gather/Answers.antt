use Rattle.std.proofs.Common.{◌≡◌, ℕ, ◌+◌, ◌-◌, ◌%◌, List, [], ◌∷◌, ◌++◌, length, get_or, set, drop, vec_capacity, sym, ap, subst, ◌∙◌, arith}
use Rattle.std.proofs.lemmas.List.{drop_more, at_drop_all}
use Rattle.rtapp_scenario.specs.ScenarioView.{TaskSpecView}
use Rattle.session.specs.Admissions.{refused_in}
use Rattle.session.proofs.Admitted.{IsLeft, left_next, some_left, logged_few, union_of}
use Rattle.session.proofs.admitting.gather.Goals as goal
use Rattle.session.proofs.admitting.gather.Goals.{in-Some, in_default}

pub loop-task-preserved : goal.loop-task-preserved
loop-task-preserved c =
    let shares = c.args.shares.items in
    let n = length shares in
    let tasks = c.args.tasks.now in
    let k = c.loop-task.task-index in
    let t = c.task-item.result in
    let rest = drop (k + 1) tasks in
    let left = c.loop-task.shares.items in
    let d = c.index_mut.result.now in
    let y = c.pop_front.new.self in
    let was = c.loop-task.invariant in
    let refused = c.loop-task.refused.items in
    let p = (t.number - 1) % n in
    let place : c.place_of.result ≡ p = c.place_of.ensures.value ∙ ap (λ (m : ℕ). (t.number - 1) % m) (c.len-many.ensures ∙ c.args.shares.ok.0) in
    let from : IsLeft (λ q. q.items) n tasks (t ∷ rest) shares left refused =
    subst (λ (l : List TaskSpecView). IsLeft (λ q. q.items) n tasks l shares left refused) (drop_more tasks k t c.loop-task-test.true ∙ ap (λ (x : TaskSpecView). x ∷ rest) (sym c.task-item.is)) was.left in
    let at : d ≡ get_or left p d = c.index_mut.ensures.value ∙ ap (λ (m : ℕ). get_or left m d) place in
    elim c.match-pop_front.branch [
      | in-Some w ↦
          let a = w.in-Some.answer in
          let more = c.match-pop_front.refused in
          let logged : more.items ≡ refused ++ refused_in (record { task = t; answer = a } ∷ []) = ap (λ v. v.items) w.refused-is ∙ w.note.ensures.items in
          let first : (get_or left p d).items ≡ a ∷ y.items = ap (λ q. q.items) (sym at) ∙ w.in-Some.ensures.items in
          let next : IsLeft (λ q. q.items) n tasks rest shares (set left p y) more.items = left_next (λ q. q.items) n tasks rest t shares left d y a refused more.items c.requires.some from first logged in
          record {
            left = subst (λ (m : ℕ). IsLeft (λ q. q.items) n tasks rest shares (set left m y) more.items) (sym place) next;
            count = omega (arith, was.count, ap length logged, logged_few refused t a);
            room = ap vec_capacity w.refused-is ∙ (w.note.ensures.room ∙ was.room);
          }
      | in_default w ↦
          let some = some_left (λ q. q.items) n tasks rest t shares left d refused c.requires.some from in
          absurd (omega (arith, w.in_default.ensures.cases.0, d.ok.0, some, ap (λ q. length q.items) at))
    ]

pub returns : goal.returns
returns c =
    let shares = c.args.shares.items in
    let tasks = c.args.tasks.now in
    let was = c.loop-task.invariant in
    union_of (λ q. q.items) tasks shares c.loop-task.shares.items c.loop-task.refused.items
    (subst (λ (l : List TaskSpecView). IsLeft (λ q. q.items) (length shares) tasks l shares c.loop-task.shares.items c.loop-task.refused.items) (at_drop_all (λ (l : List TaskSpecView). l) tasks c.loop-task.task-index c.loop-task-test.false) was.left)
