use Rattle.std.proofs.Common.{subst, sym}
use Rattle.pass_seats.specs.Lists.{PassView}
use Rattle.calls_text.specs.declared.section.Entry.{Entry}
use Rattle.call_book.specs.BookAnswers.{IsNotAdvanced}
use Rattle.session.specs.Seen.{SawFull, SawRoom}
use Rattle.session.specs.private.Entering.{IsSessionBook, part_with, IsSeenBook}
use Rattle.session.proofs.Sighted.{saw_full, saw_room}
use Rattle.session.proofs.locked_book.LockedBook.advance.Goals as goal

pub returns-in-Err-Full-clause-seen : goal.returns-in-Err-Full-clause-seen
returns-in-Err-Full-clause-seen g c =
    let id = g.N.Names.id in
    let d = g.row.D in
    let named = subst (IsSessionBook id d) (sym c.agree.ensures.book) (subst (IsSessionBook id d) (sym c.deref_mut-domain.ensures.value) c.args.self.now.named) in
    let shown : IsSeenBook c.agree.new.self c.agree.new.pass = record { history = c.agree.ensures.history; own = c.agree.ensures.own } in
    let met = subst (IsNotAdvanced c.agree.new.self c.advance.new.self c.agree.new.pass c.advance.new.pass) c.in-Err-Full.field-0-is c.in-Err-Full.ensures.stopped in
    subst (λ (p : PassView Entry). SawFull id d (part_with p)) c.agree.ensures.pass (saw_full id d c.agree.new.self c.agree.new.pass named shown met.full)

pub returns-in-Err-Memory-clause-seen : goal.returns-in-Err-Memory-clause-seen
returns-in-Err-Memory-clause-seen g c =
    let id = g.N.Names.id in
    let d = g.row.D in
    let named = subst (IsSessionBook id d) (sym c.agree.ensures.book) (subst (IsSessionBook id d) (sym c.deref_mut-domain.ensures.value) c.args.self.now.named) in
    let shown : IsSeenBook c.agree.new.self c.agree.new.pass = record { history = c.agree.ensures.history; own = c.agree.ensures.own } in
    let met = subst (IsNotAdvanced c.agree.new.self c.advance.new.self c.agree.new.pass c.advance.new.pass) c.in-Err-Memory.field-0-is c.in-Err-Memory.ensures.stopped in
    subst (λ (p : PassView Entry). SawRoom id d (part_with p)) c.agree.ensures.pass (saw_room id d c.agree.new.self c.agree.new.pass named shown met.0)
