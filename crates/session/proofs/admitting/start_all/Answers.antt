use Rattle.std.proofs.Common.{◌≡◌, ℕ, ◌+◌, length, get_or, vec_len, sym, ap, subst, ◌∙◌, arith, rules}
use Rattle.session.proofs.Closed.{by_place_more}
use Rattle.session.proofs.admitting.start_all.Goals as goal

-- the seat whose thread is started stood first among those that wait
pub loop-seat-preserved : goal.loop-seat-preserved
loop-seat-preserved g c =
    let seats = c.args.seats.items in
    let was = c.loop-seat.invariant in
    let step = c.in-Some.ensures.steps in
    let old = c.loop-seat.handles in
    let items = c.push_reserved.ensures.items in
    record {
      left = search rules;
      next = λ k s below. let h = was.next (k + 1) s in grind rules;
      started = λ k d s inside.
          let next : c.in-Some.seat ≡ get_or seats (vec_len old) s = let h = was.next 0 s in grind rules in
          subst (λ l. (get_or l k d).promise.seat.value ≡ get_or seats k s) (sym items)
          (by_place_more (λ j h. h.promise.seat.value ≡ get_or seats j s) old.items c.in_ok-start_one.field-0 (λ j h low. was.started j h s (omega (arith, low, old.ok.0)))
          (c.in_ok-start_one.ensures ∙ next ∙ ap (λ (m : ℕ). get_or seats m s) old.ok.0) k d (omega (arith, inside, c.push_reserved.new.self.ok.0, ap length items)));
      room = omega (arith, c.push_reserved.ensures.capacity, was.room);
    }
