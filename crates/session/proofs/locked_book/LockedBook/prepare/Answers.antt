use Rattle.std.proofs.Common.{subst, sym}
use Rattle.std.specs.Prelude.{IfOk, IfErr}
use Rattle.pass_seats.specs.Lists.{PassView}
use Rattle.calls_text.specs.declared.section.Entry.{Entry}
use Rattle.call_book.specs.MoveAnswers.{moving_as}
use Rattle.session.specs.Moves.{WasListed}
use Rattle.session.specs.private.Entering.{IsSessionBook, part_with, IsSeenBook}
use Rattle.session.specs.private.Moving.{IsUnpreparedAt}
use Rattle.session.proofs.Moved.{prepared_seen, unprepared_seen}
use Rattle.session.proofs.locked_book.LockedBook.prepare.Goals as goal

pub returns-clause-listed : goal.returns-clause-listed
returns-clause-listed g c =
    let id = g.N.Names.id in
    let d = g.row.D in
    let named = subst (IsSessionBook id d) (sym c.agree.ensures.book) (subst (IsSessionBook id d) (sym c.deref_mut-domain.ensures.value) c.args.self.now.named) in
    let shown : IsSeenBook c.agree.new.self c.agree.new.pass = record { history = c.agree.ensures.history; own = c.agree.ensures.own } in
    subst (λ (p : PassView Entry). IfOk c.prepare_move.result (λ a. WasListed id d c.args.number (part_with p) (moving_as a))) c.agree.ensures.pass
    (prepared_seen id d c.args.number c.agree.new.self c.agree.new.pass c.prepare_move.result named shown c.prepare_move.ensures.task)

pub returns-clause-fault : goal.returns-clause-fault
returns-clause-fault g c =
    let id = g.N.Names.id in
    let d = g.row.D in
    let named = subst (IsSessionBook id d) (sym c.agree.ensures.book) (subst (IsSessionBook id d) (sym c.deref_mut-domain.ensures.value) c.args.self.now.named) in
    let shown : IsSeenBook c.agree.new.self c.agree.new.pass = record { history = c.agree.ensures.history; own = c.agree.ensures.own } in
    subst (λ (p : PassView Entry). IfErr c.prepare_move.result (IsUnpreparedAt id d c.args.number (part_with p))) c.agree.ensures.pass
    (unprepared_seen id d c.args.number c.agree.new.self c.agree.new.pass c.prepare_move.result named shown c.prepare_move.ensures.fault)
