use Rattle.std.proofs.Common.{◌≡◌, List, sym, ap, subst, ◌∙◌}
use Rattle.std.specs.Prelude.{IfSome}
use Rattle.domain_run.specs.declared.call.Call.TheVariants as Call
use Rattle.domain_run.specs.declared.call.Reply.TheVariants as Reply
use Rattle.domain_run.specs.Domain.{Domain}
use Rattle.domain_run.specs.Calls.{reply_to}
use Rattle.domain_run.specs.Views.{moving_in}
use Rattle.call_book.specs.Book.{BookView, state_of}
use Rattle.call_book.specs.private.Stock.{StockView}
use Rattle.call_book.proofs.TakenOut.{departing_is_held, taken_bw}
use Rattle.call_book.specs.declared.book.stock.Held.{Held}
use Rattle.call_book.specs.MoveAnswers.{IsTakenOut}
use Rattle.call_book.proofs.Moves.{departed_grows, ticket_goes, blank_comes}
use Rattle.call_book.proofs.book.domain.Domain.let_go.Goals as goal

pub release-ticket-requires : goal.release-ticket-requires
release-ticket-requires c =
    let inside = c.self.inside in
    let same : inside.state ≡ state_of c.args.self.now = c.self.invariant.run ∙ ap (λ (b : BookView). state_of b) c.self.view_is in
    let lawful = subst (λ (d : Domain). reply_to d (Call.Depart c.args.number) ≡ Reply.Departed) (sym same) c.requires.listed in
    record { held = departing_is_held inside.state inside.stock.tickets c.args.number c.self.invariant.held lawful }

pub invariant_of-self : goal.invariant_of-self
invariant_of-self c =
    let inside = c.self.inside in
    let same : inside.state ≡ state_of c.args.self.now = c.self.invariant.run ∙ ap (λ (b : BookView). state_of b) c.self.view_is in
    let lawful = subst (λ (d : Domain). reply_to d (Call.Depart c.args.number) ≡ Reply.Departed) (sym same) c.requires.listed in
    let t = c.keep.new.self in
    let pieces = blank_comes inside.stock c.release-ticket.new.self t c.in-Some.blank c.release-ticket.ensures.stock c.keep.ensures in
    let taken = subst (λ (hs : List Held). IsTakenOut c.args.number inside.stock.tickets hs c.release-ticket.result) (sym (ap (λ (s : StockView). s.tickets) c.keep.ensures)) c.release-ticket.ensures.taken in
    departed_grows inside.cpus inside.limit inside.workers.count inside.left inside.ledger c.enter.new.self inside.stock t inside.state c.depart.new.self c.args.number c.release-ticket.result c.args.pass.now c.self.invariant c.now.ensures.domain.steady.numbered c.enter.ensures.ledger pieces taken lawful c.depart.ensures.domain

pub invariant_of-self-in_default : goal.invariant_of-self-in_default
invariant_of-self-in_default c =
    let inside = c.self.inside in
    let same : inside.state ≡ state_of c.args.self.now = c.self.invariant.run ∙ ap (λ (b : BookView). state_of b) c.self.view_is in
    let lawful = subst (λ (d : Domain). reply_to d (Call.Depart c.args.number) ≡ Reply.Departed) (sym same) c.requires.listed in
    let t = c.release-ticket.new.self in
    let pieces = ticket_goes inside.stock t c.release-ticket.ensures.stock in
    departed_grows inside.cpus inside.limit inside.workers.count inside.left inside.ledger c.enter.new.self inside.stock t inside.state c.depart.new.self c.args.number c.release-ticket.result c.args.pass.now c.self.invariant c.now.ensures.domain.steady.numbered c.enter.ensures.ledger pieces c.release-ticket.ensures.taken lawful c.depart.ensures.domain

pub returns-in-Some-clause-bw : goal.returns-in-Some-clause-bw
returns-in-Some-clause-bw c =
    let inside = c.self.inside in
    let same : inside.state ≡ state_of c.args.self.now = c.self.invariant.run ∙ ap (λ (b : BookView). state_of b) c.self.view_is in
    subst (λ (d : Domain). IfSome (moving_in d c.args.number) (λ m. c.release-ticket.result.bw ≡ m.params.bw)) same
    (taken_bw inside.state c.args.number inside.stock.tickets c.release-ticket.new.self.tickets c.release-ticket.result c.release-ticket.ensures.taken c.now.ensures.domain.steady.numbered c.self.invariant.held)

pub returns-in_default-clause-bw : goal.returns-in_default-clause-bw
returns-in_default-clause-bw c =
    let inside = c.self.inside in
    let same : inside.state ≡ state_of c.args.self.now = c.self.invariant.run ∙ ap (λ (b : BookView). state_of b) c.self.view_is in
    subst (λ (d : Domain). IfSome (moving_in d c.args.number) (λ m. c.release-ticket.result.bw ≡ m.params.bw)) same
    (taken_bw inside.state c.args.number inside.stock.tickets c.release-ticket.new.self.tickets c.release-ticket.result c.release-ticket.ensures.taken c.now.ensures.domain.steady.numbered c.self.invariant.held)
