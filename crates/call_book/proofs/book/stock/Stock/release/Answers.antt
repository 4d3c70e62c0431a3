use Rattle.std.proofs.Common.{subst, arith}
use Rattle.call_book.specs.Pieces.{IsTicketOf}
use Rattle.call_book.specs.private.Stock.{StockView}
use Rattle.call_book.proofs.TakenOut.{taken_keeps, taken_length}
use Rattle.call_book.proofs.book.stock.Stock.release.Goals as goal

pub invariant_of-self : goal.invariant_of-self
invariant_of-self c =
    let inside = c.self.inside in
    let is = c.self.invariant in
    let taken = c.take_out.ensures.taken in
    let kept = taken_keeps inside.gate inside.domain c.args.number inside.held.items c.take_out.new.held.items c.take_out.result taken is.pieces.held in
    let fewer = taken_length c.args.number inside.held.items c.take_out.new.held.items c.take_out.result taken in
    let few = is.pieces.few in
    let capacity = c.take_out.ensures.capacity in
    let room = is.room in
    record {
      pieces = record { held = kept.0; free = is.pieces.free; few = omega (arith, fewer, few) };
      empty = is.empty;
      room = (omega (arith, capacity, room.0), room.1, room.2);
    }

pub returns-clause-own : goal.returns-clause-own
returns-clause-own c =
    let inside = c.self.inside in
    let kept = taken_keeps inside.gate inside.domain c.args.number inside.held.items c.take_out.new.held.items c.take_out.result c.take_out.ensures.taken c.self.invariant.pieces.held in
    subst (λ (s : StockView). IsTicketOf s.gate s.domain c.take_out.result) c.self.view_is kept.1
