use Rattle.std.proofs.Common.{arith}
use Rattle.call_book.specs.Pieces.{is_kept}
use Rattle.call_book.proofs.Sweeping.{swept_pieces}
use Rattle.call_book.proofs.book.stock.Stock.sweep.Goals as goal

pub invariant_of-self : goal.invariant_of-self
invariant_of-self c =
    let inside = c.self.inside in
    let now = c.sweep_held.new in
    let given = c.sweep_held.ensures.given in
    let room = c.self.invariant.room in
    record {
      pieces = swept_pieces (is_kept c.args.state.now) inside.gate inside.domain inside.held.items now.held.items inside.blanks.items now.blanks.items given.0 c.self.invariant.pieces c.sweep_held.ensures.kept given.1 given.2;
      empty = c.self.invariant.empty;
      room = (omega (arith, c.sweep_held.ensures.held_room, room.0), omega (arith, c.sweep_held.ensures.free_room, room.1), room.2);
    }
