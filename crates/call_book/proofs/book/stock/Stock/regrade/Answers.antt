use Rattle.std.proofs.Common.{◌≤◌, ◌*◌, IfSome, arith, subst}
use Rattle.bw_gate.specs.Pieces.{cpus_of}
use Rattle.call_book.specs.private.Stock.{StockView}
use Rattle.call_book.proofs.Asking.{asked_keeps, asked_length}
use Rattle.call_book.proofs.Regrading.{asked_within}
use Rattle.call_book.proofs.book.stock.Stock.regrade.Goals as goal

pub invariant_of-self : goal.invariant_of-self
invariant_of-self g c =
    let inside = c.self.inside in
    let asked = c.regrade_held.ensures.asked in
    let pieces = c.self.invariant.pieces in
    let few = pieces.few in
    let long = asked_length c.args.number c.args.bw inside.held.items c.regrade_held.new.held.items c.regrade_held.result asked in
    let capacity = c.regrade_held.ensures.capacity in
    let room = c.self.invariant.room in
    record {
      pieces = record {
        held = asked_keeps inside.gate inside.domain c.args.number c.args.bw inside.held.items c.regrade_held.new.held.items c.regrade_held.result asked pieces.held;
        free = pieces.free;
        few = omega (arith, long, few);
      };
      empty = c.self.invariant.empty;
      room = (omega (arith, capacity, room.0), room.1, room.2);
    }

pub returns-clause-within : goal.returns-clause-within
returns-clause-within g c =
    let inside = c.self.inside in
    let asked = c.regrade_held.ensures.asked in
    let within = asked_within inside.gate inside.domain c.args.number c.args.bw inside.held.items c.regrade_held.new.held.items c.regrade_held.result asked c.self.invariant.pieces.held in
    subst (λ (s : StockView). IfSome c.regrade_held.result (λ used. used ≤ cpus_of s.gate s.domain * 1048576)) c.self.view_is within
