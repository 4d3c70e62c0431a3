use Rattle.std.proofs.Common.{◌≡◌, ◌+◌, [], ◌∷◌, ◌++◌, length, get_or, sym, ap, subst, arith, rules}
use Rattle.session.specs.private.Admitting.{AsksSeat}
use Rattle.session.proofs.Admitted.{both_more, asked_of}
use Rattle.session.proofs.admitting.join_all.Goals as goal

-- the thread that is joined stood first among those that are left
pub loop-handle-preserved : goal.loop-handle-preserved
loop-handle-preserved g c =
    let id = g.N.Names.id in
    let tasks = g.A.TasksBrand.tasks in
    let handles = c.args.handles.items in
    let was = c.loop-handle.invariant in
    let step = c.in-Some.ensures.steps in
    let cs = c.loop-handle.joined.clients in
    let ss = c.loop-handle.joined.shares in
    let handle = c.in-Some.handle in
    let more = c.push_reserved.ensures.items in
    let much = c.push_reserved-in-loop-handle.ensures.items in
    let same : length ss.items ≡ length cs.items = omega (arith, was.shared, ss.ok.0, cs.ok.0) in
    record {
      left = search rules;
      shared = search rules;
      next = λ k d below. let h = was.next (k + 1) d in grind rules;
      asked = λ k d x y inside.
          let next : handle ≡ get_or handles (length cs.items) d = let h = was.next 0 d in grind rules in
          let here : AsksSeat id tasks (get_or handles (length cs.items) d).promise.seat.value c.join-client.result.client c.join-client.result.answers.items = subst (λ h. AsksSeat id tasks h.promise.seat.value c.join-client.result.client c.join-client.result.answers.items) next c.join-client.ensures in
          subst (λ l. AsksSeat id tasks (get_or handles k d).promise.seat.value (get_or l k x) (get_or c.push_reserved-in-loop-handle.new.self.items k y).items) (sym more)
          (subst (λ l. AsksSeat id tasks (get_or handles k d).promise.seat.value (get_or (cs.items ++ c.join-client.result.client ∷ []) k x) (get_or l k y).items) (sym much)
          (both_more (λ j a b. AsksSeat id tasks (get_or handles j d).promise.seat.value a b.items) cs.items ss.items c.join-client.result.client c.join-client.result.answers same
          (λ j a b low. was.asked j d a b (omega (arith, low, cs.ok.0))) here k x y (omega (arith, inside, c.push_reserved.new.self.ok.0, ap length more))));
      room = omega (arith, c.push_reserved.ensures.capacity, was.room);
      space = omega (arith, c.push_reserved-in-loop-handle.ensures.capacity, was.space);
    }

pub returns : goal.returns
returns g c =
    let was = c.loop-handle.invariant in
    let none = c.in-None.ensures.steps in
    let handles = c.args.handles in
    let cs = c.loop-handle.joined.clients in
    let ss = c.loop-handle.joined.shares in
    let count : length cs.items ≡ length handles.items = omega (arith, was.left, none.0, cs.ok.0) in
    let shared : length ss.items ≡ length handles.items = omega (arith, count, was.shared, ss.ok.0, cs.ok.0) in
    asked_of g.N.Names.id g.A.TasksBrand.tasks (λ h. h.promise.seat.value) (λ q. q.items) handles.items cs.items ss.items count shared
    (λ k d x y inside. was.asked k d x y (omega (arith, inside, count, cs.ok.0)))
