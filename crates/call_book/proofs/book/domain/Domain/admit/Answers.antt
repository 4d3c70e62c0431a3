use Rattle.std.proofs.Common.{◌≡◌, ℕ, List, [], ◌∷◌, ◌++◌, length, sym, ap, subst, ◌∙◌}
use Rattle.std.specs.Prelude.{IfNone, IfSome}
use Rattle.std.specs.Option.{option_to_list}
use Rattle.bw_gate.specs.Pieces.{BlankView}
use Rattle.domain_run.specs.declared.call.Call.{Call}
use Rattle.domain_run.specs.declared.call.Reply.TheVariants as Reply
use Rattle.domain_run.specs.Calls.{reply_to}
use Rattle.call_book.specs.declared.book.stock.Held.{Held}
use Rattle.call_book.specs.Pieces.{IsTicketOf}
use Rattle.call_book.specs.Book.{BookView, Enters, IsMember}
use Rattle.call_book.specs.private.Kept.{book_of}
use Rattle.call_book.specs.private.Stock.{StockView}
use Rattle.domain_run.proofs.CallerLemmas.{granted_is}
use Rattle.call_book.proofs.Spared.{spared_room}
use Rattle.call_book.proofs.Growing.{has_room, moved, enters, admitted_grows, busy_grows, busy_answer}
use Rattle.call_book.proofs.book.domain.Domain.admit.Goals as goal

pub invariant_of-self : goal.invariant_of-self
invariant_of-self c =
    let inside = c.self.inside in
    let says = c.in-Listed.ensures in
    let spared = c.spare-blank.new.self in
    let t = c.hold.new.self in
    let h : Held = record { number = c.in-Listed.number; ticket = c.args.ticket } in
    let pieces : t ≡ record inside.stock { tickets = t.tickets; blanks = t.blanks } = moved inside.stock spared t h c.spare-blank.ensures.stock c.hold.ensures in
    let held : t.tickets ≡ inside.stock.tickets ++ h ∷ [] = ap (λ (s : StockView). s.tickets) c.hold.ensures ∙ ap (λ (s : StockView). s.tickets ++ h ∷ []) c.spare-blank.ensures.stock in
    admitted_grows inside.cpus inside.limit inside.workers.count inside.left inside.ledger c.enter.new.self inside.stock t inside.state c.list.new.state c.args.prepared c.args.ticket c.in-Listed.number c.in-Listed.call c.args.pass.now c.self.invariant c.enter.ensures.ledger pieces held says.0 says.1 says.2.same c.requires.bw

pub invariant_of-self-in-Busy : goal.invariant_of-self-in-Busy
invariant_of-self-in-Busy c =
    let inside = c.self.inside in
    let says = c.in-Busy.ensures in
    busy_grows inside.cpus inside.limit inside.workers.count inside.left inside.ledger c.enter-in-Busy.new.self inside.stock inside.state c.list.new.state c.args.prepared c.in-Busy.seen c.in-Busy.call c.args.pass.now c.self.invariant c.enter-in-Busy.ensures.ledger says.0 says.2.same

pub returns-in-Busy : goal.returns-in-Busy
returns-in-Busy c =
    let inside = c.self.inside in
    let says = c.in-Busy.ensures in
    let free = has_room c.is_full.result (length inside.ledger.history) inside.ledger.room c.is_full.ensures.full c.if-is_full.false c.is_full.ensures.history.within in
    busy_answer c.args.self.now inside.cpus inside.limit inside.workers.count inside.left inside.ledger c.enter-in-Busy.new.self inside.stock inside.state c.list.new.state c.args.pass.now c.enter-in-Busy.new.pass c.args.prepared c.args.ticket c.in-Busy.seen c.in-Busy.call c.self.view_is c.self.invariant free c.enter-in-Busy.ensures.ledger c.enter-in-Busy.ensures.pass says.0 says.2.same says.1

pub returns-in-Listed : goal.returns-in-Listed
returns-in-Listed c =
    let inside = c.self.inside in
    let says = c.in-Listed.ensures in
    let spared = c.spare-blank.new.self in
    let t = c.hold.new.self in
    let h : Held = record { number = c.in-Listed.number; ticket = c.args.ticket } in
    let pieces : t ≡ record inside.stock { tickets = t.tickets; blanks = t.blanks } = moved inside.stock spared t h c.spare-blank.ensures.stock c.hold.ensures in
    let held : t.tickets ≡ inside.stock.tickets ++ h ∷ [] = ap (λ (s : StockView). s.tickets) c.hold.ensures ∙ ap (λ (s : StockView). s.tickets ++ h ∷ []) c.spare-blank.ensures.stock in
    let blanks : spared.blanks ≡ t.blanks = sym (ap (λ (s : StockView). s.blanks) c.hold.ensures) in
    let view = c.self.view_is in
    let free = has_room c.is_full.result (length inside.ledger.history) inside.ledger.room c.is_full.ensures.full c.if-is_full.false c.is_full.ensures.history.within in
    let reply : reply_to inside.state c.in-Listed.call ≡ Reply.Admitted = ap (reply_to inside.state) says.2.same ∙ says.0.reply in
    let entered = enters c.args.self.now inside.cpus inside.limit inside.workers.count inside.left inside.ledger c.enter.new.self inside.stock t inside.state c.args.pass.now c.enter.new.pass c.in-Listed.call Reply.Admitted view c.self.invariant free c.enter.ensures.ledger pieces c.enter.ensures.pass reply in
    let blank = c.spare-blank.result in
    record {
      entered = subst (λ (k : Call). Enters c.args.self.now (book_of inside.cpus inside.limit inside.workers.count inside.left c.enter.new.self t) c.args.pass.now c.enter.new.pass k Reply.Admitted) says.2.same entered;
      tickets = held ∙ ap (λ (n : ℕ). inside.stock.tickets ++ record { number = n; ticket = c.args.ticket } ∷ []) says.1 ∙ ap (λ (b : BookView). b.tickets ++ record { number = c.args.prepared.number; ticket = c.args.ticket } ∷ []) view;
      handed = sym (ap (λ (b : BookView). b.blanks) view) ∙ c.spare-blank.ensures.blank ∙ ap (λ (bs : List BlankView). bs ++ option_to_list blank) blanks;
      none = subst (λ (b : BookView). IfNone blank (b.blanks ≡ [])) view c.spare-blank.ensures.none;
      own = subst (λ (b : BookView). IfSome blank (λ x. x.gate ≡ b.gate)) view c.spare-blank.ensures.own;
    }

pub hold-requires-clause-room : goal.hold-requires-clause-room
hold-requires-clause-room c =
    let inside = c.self.inside in
    let granted = granted_is inside.state c.args.prepared.number c.args.prepared.params c.in-Listed.ensures.0.reply in
    let e = c.spare-blank.ensures in
    spared_room inside.state inside.stock c.spare-blank.new.self c.spare-blank.result c.self.invariant.held granted.room e.stock e.blank e.none e.few

pub enter-requires-clause-own : goal.enter-requires-clause-own
enter-requires-clause-own c = c.requires.pass.spine ∙ ap (λ (b : BookView). b.spine) (sym c.self.view_is)

pub enter-requires-clause-member : goal.enter-requires-clause-member
enter-requires-clause-member c = subst (λ (b : BookView). IsMember b.clients c.args.pass.now.client) (sym c.self.view_is) c.requires.pass.member

pub enter-requires-clause-free : goal.enter-requires-clause-free
enter-requires-clause-free c =
    let ledger = c.self.inside.ledger in
    has_room c.is_full.result (length ledger.history) ledger.room c.is_full.ensures.full c.if-is_full.false c.is_full.ensures.history.within

pub enter-requires-clause-call : goal.enter-requires-clause-call
enter-requires-clause-call c = c.in-Listed.ensures.2.spelled

pub enter-requires-in-Busy-clause-own : goal.enter-requires-in-Busy-clause-own
enter-requires-in-Busy-clause-own c = c.requires.pass.spine ∙ ap (λ (b : BookView). b.spine) (sym c.self.view_is)

pub enter-requires-in-Busy-clause-member : goal.enter-requires-in-Busy-clause-member
enter-requires-in-Busy-clause-member c = subst (λ (b : BookView). IsMember b.clients c.args.pass.now.client) (sym c.self.view_is) c.requires.pass.member

pub enter-requires-in-Busy-clause-free : goal.enter-requires-in-Busy-clause-free
enter-requires-in-Busy-clause-free c =
    let ledger = c.self.inside.ledger in
    has_room c.is_full.result (length ledger.history) ledger.room c.is_full.ensures.full c.if-is_full.false c.is_full.ensures.history.within

pub enter-requires-in-Busy-clause-call : goal.enter-requires-in-Busy-clause-call
enter-requires-in-Busy-clause-call c = c.in-Busy.ensures.2.spelled

pub hold-requires-clause-own : goal.hold-requires-clause-own
hold-requires-clause-own c =
    let own = subst (λ (b : BookView). IsTicketOf b.gate b.domain c.args.ticket) (sym c.self.view_is) c.requires.ticket in
    subst (λ (s : StockView). IsTicketOf s.gate s.domain c.args.ticket) (sym c.spare-blank.ensures.stock) own
