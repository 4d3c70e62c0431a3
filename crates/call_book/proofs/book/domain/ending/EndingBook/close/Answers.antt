use Rattle.std.proofs.Common.{◌≡◌, ℕ, List, length, map, All, sym, ap, ◌∙◌, subst, arith}
use Rattle.std.proofs.lemmas.List.{length-map}
use Rattle.std.proofs.lemmas.List.Elements.{All-map}
use Rattle.bw_gate.specs.Pieces.{GateId, TicketView, BlankView, bw_of_tickets, cpus_of}
use Rattle.pass_seats.specs.Lists.{PassView}
use Rattle.calls_text.specs.declared.section.Entry.{Entry}
use Rattle.call_book.specs.declared.book.stock.Held.{Held}
use Rattle.call_book.specs.Pieces.{IsTicketOf, HoldsTickets}
use Rattle.call_book.specs.Book.{BookView, own_entries, HasItsLimit, IsBookHistory}
use Rattle.call_book.specs.Ending.{EndingView, state_left}
use Rattle.call_book.specs.private.Ledger.{LedgerView, IsHistory}
use Rattle.call_book.specs.private.Kept.{book_of}
use Rattle.call_book.proofs.TicketSums.{tickets_sum}
use Rattle.call_book.proofs.Ended.{holds_left, machine_left}
use Rattle.call_book.proofs.book.domain.ending.EndingBook.close.Goals as goal

-- A term stands for each clause, in place of searches, which take seconds.

pub agree_all-requires : goal.agree_all-requires
agree_all-requires c = subst (λ (e : EndingView). All (λ (p : PassView Entry). p.spine ≡ e.book.spine) c.args.passes.items) (sym c.self.view_is) c.requires

pub returns-clause-state : goal.returns-clause-state
returns-clause-state c = c.self.invariant.left ∙ ap (λ (e : EndingView). state_left e) c.self.view_is

pub returns-clause-machine : goal.returns-clause-machine
returns-clause-machine c =
    let machine = machine_left _ c.self.inside.streamed c.self.inside.state c.self.invariant in
    (machine.0 ∙ ap (λ (e : EndingView). e.book.cpus) c.self.view_is, machine.1)

pub returns-clause-limited : goal.returns-clause-limited
returns-clause-limited c = subst (λ (e : EndingView). HasItsLimit e.book) c.self.view_is c.self.invariant.kept.limited

pub returns-clause-cpus : goal.returns-clause-cpus
returns-clause-cpus c = subst (λ (e : EndingView). cpus_of e.book.gate e.book.domain ≡ e.book.cpus) c.self.view_is c.self.invariant.kept.capped

pub returns-clause-entries : goal.returns-clause-entries
returns-clause-entries c =
    c.into_entries.ensures.entries ∙ ap (λ (l : LedgerView). l.history) c.agree_all.ensures.ledger ∙ ap (λ (e : EndingView). e.book.history) c.self.view_is

pub returns-clause-tickets : goal.returns-clause-tickets
returns-clause-tickets c = c.into_pieces-tickets.ensures.tickets ∙ ap (λ (e : EndingView). map (λ (h : Held). h.ticket) e.book.tickets) c.self.view_is

pub returns-clause-blanks : goal.returns-clause-blanks
returns-clause-blanks c = c.into_pieces-tickets.ensures.blanks ∙ ap (λ (e : EndingView). e.book.blanks) c.self.view_is

pub returns-clause-history : goal.returns-clause-history
returns-clause-history c =
    let inside = c.self.inside in
    let ledger = inside.ledger in
    let kept : IsHistory ledger.clients ledger.room ledger.history = subst (λ (l : LedgerView). IsHistory l.clients l.room l.history) c.agree_all.ensures.ledger c.into_entries.ensures.history in
    let book = book_of inside.cpus inside.limit inside.workers.count inside.left ledger inside.stock in
    let is : IsBookHistory book = record { legal = c.self.invariant.kept.legal; numbered = kept.numbered; members = kept.members; spelled = kept.entries; within = kept.within; short = kept.short } in
    subst (λ (e : EndingView). IsBookHistory e.book) c.self.view_is is

pub returns-clause-own : goal.returns-clause-own
returns-clause-own c =
    subst (λ (e : EndingView). All (λ (p : PassView Entry). p.entries ≡ own_entries p.client e.book.history) c.args.passes.items) c.self.view_is c.agree_all.ensures.own

pub returns-clause-held : goal.returns-clause-held
returns-clause-held c =
    let inside = c.self.inside in
    subst (λ (e : EndingView). HoldsTickets inside.state e.book.tickets) c.self.view_is (holds_left _ inside.streamed inside.state c.self.invariant)

pub returns-clause-sums : goal.returns-clause-sums
returns-clause-sums c =
    let stock = c.self.inside.stock in
    let tickets = c.into_pieces-tickets.result.0.items in
    let domain : c.args.self.book.domain ≡ stock.domain = ap (λ (e : EndingView). e.book.domain) (sym c.self.view_is) in
    ap (λ (d : ℕ). bw_of_tickets d tickets) domain ∙ ap (bw_of_tickets stock.domain) c.into_pieces-tickets.ensures.tickets
    ∙ tickets_sum stock.gate stock.domain c.self.inside.state stock.tickets (holds_left _ _ _ c.self.invariant) c.into_pieces-tickets.ensures.pieces.held

pub returns-clause-homes : goal.returns-clause-homes
returns-clause-homes c =
    let stock = c.self.inside.stock in
    let own : BookView → List TicketView → Type 0 = λ b ts. All (IsTicketOf b.gate b.domain) ts in
    let held : All (IsTicketOf stock.gate stock.domain) (map (λ (h : Held). h.ticket) stock.tickets) = All-map (IsTicketOf stock.gate stock.domain) (λ (h : Held). h.ticket) stock.tickets c.into_pieces-tickets.ensures.pieces.held in
    let there : All (IsTicketOf stock.gate stock.domain) c.into_pieces-tickets.result.0.items = subst (All (IsTicketOf stock.gate stock.domain)) (sym c.into_pieces-tickets.ensures.tickets) held in
    subst (λ (e : EndingView). own e.book c.into_pieces-tickets.result.0.items) c.self.view_is there

pub returns-clause-spare : goal.returns-clause-spare
returns-clause-spare c =
    let stock = c.self.inside.stock in
    let own : GateId → List BlankView → Type 0 = λ g bs. All (λ b. b.gate ≡ g) bs in
    let there : own stock.gate c.into_pieces-tickets.result.1.items = subst (own stock.gate) (sym c.into_pieces-tickets.ensures.blanks) c.into_pieces-tickets.ensures.pieces.free in
    subst (λ (e : EndingView). own e.book.gate c.into_pieces-tickets.result.1.items) c.self.view_is there

pub returns-clause-few : goal.returns-clause-few
returns-clause-few c =
    let stock = c.self.inside.stock in
    let tickets : length c.into_pieces-tickets.result.0.items ≡ length stock.tickets = ap length c.into_pieces-tickets.ensures.tickets ∙ simp length-map in
    let blanks : length c.into_pieces-tickets.result.1.items ≡ length stock.blanks = ap length c.into_pieces-tickets.ensures.blanks in
    let few = c.into_pieces-tickets.ensures.pieces.few in
    omega (arith, tickets, blanks, few)
