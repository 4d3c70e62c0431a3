use Rattle.std.proofs.Common.{◌≡◌, ◌<◌, length, [], ◌∷◌, ◌++◌, sym, ap, subst, ◌∙◌}
use Rattle.domain_run.specs.declared.call.Call.{Call}
use Rattle.domain_run.specs.declared.call.Reply.TheVariants as Reply
use Rattle.domain_run.specs.Domain.{Domain}
use Rattle.domain_run.specs.Calls.{reply_to}
use Rattle.call_book.specs.declared.book.stock.Held.{Held}
use Rattle.call_book.specs.Book.{BookView, Enters, state_of}
use Rattle.call_book.specs.MoveAnswers.{arrival}
use Rattle.call_book.specs.private.Stock.{StockView}
use Rattle.call_book.specs.private.Kept.{book_of}
use Rattle.domain_run.proofs.CallerLemmas.{granted_is}
use Rattle.call_book.proofs.Spared.{spared_room}
use Rattle.call_book.proofs.Growing.{moved, enters}
use Rattle.call_book.proofs.Moves.{arrived_grows}
use Rattle.call_book.proofs.book.domain.Domain.take_in.Goals as goal

pub invariant_of-self : goal.invariant_of-self
invariant_of-self c =
    let inside = c.self.inside in
    let spared = c.spare-blank.new.self in
    let t = c.hold.new.self in
    let number = c.arrive-number.result.0 in
    let h : Held = record { number = number; ticket = c.args.ticket } in
    let pieces : t ≡ record inside.stock { tickets = t.tickets; blanks = t.blanks } = moved inside.stock spared t h c.spare-blank.ensures.stock c.hold.ensures in
    let held : t.tickets ≡ inside.stock.tickets ++ h ∷ [] = ap (λ (s : StockView). s.tickets) c.hold.ensures ∙ ap (λ (s : StockView). s.tickets ++ h ∷ []) c.spare-blank.ensures.stock in
    let same : inside.state ≡ state_of c.args.self.now = c.self.invariant.run ∙ ap (λ (b : BookView). state_of b) c.self.view_is in
    let lawful = subst (λ (d : Domain). reply_to d (arrival c.args.prepared) ≡ Reply.Admitted) (sym same) c.requires.granted in
    arrived_grows inside.cpus inside.limit inside.workers.count inside.left inside.ledger c.enter.new.self inside.stock t inside.state c.arrive-number.new.state c.args.prepared c.args.ticket number c.arrive-number.result.1 c.args.pass.now c.self.invariant c.enter.ensures.ledger pieces held lawful c.arrive-number.ensures.state c.arrive-number.ensures.number c.arrive-number.ensures.call c.requires.bw

pub returns-clause-came : goal.returns-clause-came
returns-clause-came c =
    let inside = c.self.inside in
    let t = c.hold.new.self in
    let number = c.arrive-number.result.0 in
    let h : Held = record { number = number; ticket = c.args.ticket } in
    let pieces : t ≡ record inside.stock { tickets = t.tickets; blanks = t.blanks } = moved inside.stock c.spare-blank.new.self t h c.spare-blank.ensures.stock c.hold.ensures in
    let same : inside.state ≡ state_of c.args.self.now = c.self.invariant.run ∙ ap (λ (b : BookView). state_of b) c.self.view_is in
    let lawful = subst (λ (d : Domain). reply_to d (arrival c.args.prepared) ≡ Reply.Admitted) (sym same) c.requires.granted in
    let call = c.arrive-number.ensures.call in
    let says : reply_to inside.state c.arrive-number.result.1 ≡ Reply.Admitted = ap (reply_to inside.state) call ∙ lawful in
    let free : length inside.ledger.history < inside.ledger.room = subst (λ (b : BookView). length b.history < b.room) (sym c.self.view_is) c.requires.free in
    subst (λ (k : Call). Enters c.args.self.now (book_of inside.cpus inside.limit inside.workers.count inside.left c.enter.new.self t) c.args.pass.now c.enter.new.pass k Reply.Admitted) call
    (enters c.args.self.now inside.cpus inside.limit inside.workers.count inside.left inside.ledger c.enter.new.self inside.stock t inside.state c.args.pass.now c.enter.new.pass c.arrive-number.result.1 Reply.Admitted c.self.view_is c.self.invariant free c.enter.ensures.ledger pieces c.enter.ensures.pass says)

pub hold-requires-clause-room : goal.hold-requires-clause-room
hold-requires-clause-room c =
    let inside = c.self.inside in
    let same : inside.state ≡ state_of c.args.self.now = c.self.invariant.run ∙ ap (λ (b : BookView). state_of b) c.self.view_is in
    let lawful = subst (λ (d : Domain). reply_to d (arrival c.args.prepared) ≡ Reply.Admitted) (sym same) c.requires.granted in
    let granted = granted_is inside.state c.args.prepared.number c.args.prepared.params lawful in
    let e = c.spare-blank.ensures in
    spared_room inside.state inside.stock c.spare-blank.new.self c.spare-blank.result c.self.invariant.held granted.room e.stock e.blank e.none e.few
