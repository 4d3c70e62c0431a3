use Rattle.std.proofs.Common.{◌≡◌, ℕ, ◌+◌, List, length, get_or, vec_len, sym, ap, subst, ◌∙◌, arith, rules}
use Rattle.session.specs.Asks.{ClientView}
use Rattle.session.specs.private.Admitting.{SeatView, IsSeat}
use Rattle.session.proofs.Closed.{by_place_more}
use Rattle.session.proofs.admitting.seat_all.Goals as goal

-- the client that is seated stood first among those that wait
pub loop-client-preserved : goal.loop-client-preserved
loop-client-preserved g c =
    let tasks = c.args.tasks.now in
    let clients = c.args.clients.items in
    let was = c.loop-client.invariant in
    let step = c.in-Some.ensures.steps in
    let seats = c.loop-client.seats in
    let old = seats.items in
    let items = c.push_reserved.ensures.items in
    let next : (x : ClientView) → c.in-Some.client ≡ get_or clients (vec_len seats) x = λ x. let h = was.next 0 x in grind rules in
    let here : (x : ClientView) → IsSeat tasks (length clients) (length old) (get_or clients (length old) x) _ = λ x. record {
      client = next x ∙ ap (λ (m : ℕ). get_or clients m x) seats.ok.0;
      place = c.len-place.ensures ∙ seats.ok.0;
      many = was.many;
      room = omega (arith, c.count_own.ensures, c.in-Ok.ensures.capacity);
    } in
    record {
      left = search rules;
      next = λ k x below. let h = was.next (k + 1) x in grind rules;
      assigned = λ i x s inside.
          subst (λ (l : List SeatView). IsSeat tasks (length clients) i (get_or clients i x) (get_or l i s)) (sym items)
          (by_place_more (λ j t. IsSeat tasks (length clients) j (get_or clients j x) t) old _ (λ j t low. was.assigned j x t (omega (arith, low, seats.ok.0))) (here x) i s (omega (arith, inside, c.push_reserved.new.self.ok.0, ap length items)));
      room = omega (arith, c.push_reserved.ensures.capacity, was.room);
      many = was.many;
    }

pub loop-client-init : goal.loop-client-init
loop-client-init g c = search rules
