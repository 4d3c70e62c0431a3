use Rattle.std.proofs.Common.{◌≡◌, ℕ, ◌+◌, ◌-◌, ◌%◌, eq-eqb, ne_eqb, true, false, List, [], ◌∷◌, ◌++◌, length, take, deque_capacity, sym, ap, subst, ◌∙◌, arith}
use Rattle.std.proofs.lemmas.List.{take_more}
use Rattle.rtapp_scenario.specs.ScenarioView.{TaskSpecView}
use Rattle.session.specs.Asks.{Answer, ClientView}
use Rattle.session.specs.private.Admitting.{is_own_task, own_tasks, AsksOwn}
use Rattle.session.proofs.Admitted.{own_next, own_same, own_few}
use Rattle.session.proofs.admitting.admit_own.Goals as goal
use Rattle.session.proofs.admitting.admit_own.Goals.{then-place_of-place, else-place_of-place}

pub push_back_reserved-requires : goal.push_back_reserved-requires
push_back_reserved-requires g c =
    let n = c.seat.inside.many in
    let i = c.seat.inside.place in
    let was = c.loop-task.invariant in
    let k = c.loop-task.task-index in
    let tasks = c.args.tasks.now in
    let t = c.task-item.result in
    let mine : is_own_task n i t ≡ true = eq-eqb ((t.number - 1) % n) i (sym c.place_of.ensures.value ∙ c.if-place_of-place.true) in
    let few = own_few n i k tasks t c.loop-task-test.true (subst (λ (x : TaskSpecView). is_own_task n i x ≡ true) c.task-item.is mine) in
    let same : length (own_tasks n i tasks) ≡ length (own_tasks c.args.seat.many c.args.seat.place tasks) =
    ap (λ (m : ℕ). length (own_tasks m i tasks)) was.many ∙ ap (λ (j : ℕ). length (own_tasks c.args.seat.many j tasks)) was.place in
    omega (arith, few, same, was.asks.each, was.room, c.requires, c.loop-task.answers.ok.0)

pub loop-task-preserved : goal.loop-task-preserved
loop-task-preserved g c =
    let id = g.N.Names.id in
    let n = c.seat.inside.many in
    let i = c.seat.inside.place in
    let was = c.loop-task.invariant in
    let k = c.loop-task.task-index in
    let tasks = c.args.tasks.now in
    let t = c.task-item.result in
    let ts = take k tasks in
    let c0 = c.args.seat.client in
    let whole : take (k + 1) tasks ≡ ts ++ t ∷ [] = take_more tasks k t c.loop-task-test.true ∙ ap (λ (x : TaskSpecView). ts ++ x ∷ []) (sym c.task-item.is) in
    elim c.if-place_of-place.branch [
      | then-place_of-place w ↦
          let pushed = w.push_back_reserved.ensures in
          let old = c.loop-task.answers.items in
          let new = w.admit-answer.new.self in
          let a = w.admit-answer.result in
          let is : is_own_task n i t ≡ true = eq-eqb ((t.number - 1) % n) i (sym c.place_of.ensures.value ∙ w.if-place_of-place.true) in
          let step : AsksOwn id n i (ts ++ t ∷ []) c0 new (old ++ a ∷ []) = own_next id n i ts t c0 c.loop-task.client new old a is was.asks w.admit-answer.ensures.asked in
          let items : c.if-place_of-place.answers.items ≡ old ++ a ∷ [] = ap (λ q. q.items) w.answers-is ∙ pushed.items in
          record {
            asks = subst (λ (l : List TaskSpecView). AsksOwn id n i l c0 c.if-place_of-place.client c.if-place_of-place.answers.items) (sym whole)
                (subst (λ (l : List Answer). AsksOwn id n i (ts ++ t ∷ []) c0 c.if-place_of-place.client l) (sym items)
                (subst (λ (e : ClientView). AsksOwn id n i (ts ++ t ∷ []) c0 e (old ++ a ∷ [])) (sym w.client-is) step));
            room = ap deque_capacity w.answers-is ∙ (pushed.capacity ∙ was.room);
            place = was.place;
            many = was.many;
          }
      | else-place_of-place w ↦
          let is : is_own_task n i t ≡ false = ne_eqb ((t.number - 1) % n) i (λ same. w.if-place_of-place.false (c.place_of.ensures.value ∙ same)) in
          let step : AsksOwn id n i (ts ++ t ∷ []) c0 c.loop-task.client c.loop-task.answers.items = own_same id n i ts t c0 c.loop-task.client c.loop-task.answers.items is was.asks in
          record {
            asks = subst (λ (l : List TaskSpecView). AsksOwn id n i l c0 c.if-place_of-place.client c.if-place_of-place.answers.items) (sym whole)
                (subst (λ (l : List Answer). AsksOwn id n i (ts ++ t ∷ []) c0 c.if-place_of-place.client l) (sym (ap (λ q. q.items) w.answers-is))
                (subst (λ (e : ClientView). AsksOwn id n i (ts ++ t ∷ []) c0 e c.loop-task.answers.items) (sym w.client-is) step));
            room = ap deque_capacity w.answers-is ∙ was.room;
            place = was.place;
            many = was.many;
          }
    ]
