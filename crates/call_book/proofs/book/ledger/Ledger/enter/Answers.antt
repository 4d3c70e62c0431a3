use Rattle.std.proofs.Common.{◌≡◌, ℕ, ◌<◌, Some, length, map, sym, ap, ◌∙◌, subst, arith}
use Rattle.pass_seats.specs.Lists.{SpineView, PassView, own}
use Rattle.calls_text.specs.declared.section.Entry.{Entry}
use Rattle.calls_text.specs.OwnCalls.{count_made_by}
use Rattle.call_book.specs.Book.{with_key, IsMember}
use Rattle.call_book.specs.private.Ledger.{LedgerView, IsHistory}
use Rattle.call_book.proofs.Histories.{length-own, made_by_most, history_push, log_push}
use Rattle.call_book.proofs.book.ledger.Ledger.enter.Goals as goal

pub append-requires-clause-room : goal.append-requires-clause-room
append-requires-clause-room c =
    let client = c.agree.new.pass.client in
    let history = c.self.inside.entries.items in
    let log : c.agree.new.self.log ≡ map with_key history = ap (λ (s : SpineView Entry). s.log) c.agree.ensures.spine ∙ c.self.invariant.log in
    let count : length c.agree.new.pass.entries ≡ count_made_by client history = ap length (c.agree.ensures.own ∙ ap (own client) log) ∙ length-own client history in
    let most = made_by_most client history in
    let kept = c.self.invariant.kept in
    omega (arith, count, most, kept.within, kept.short)

pub invariant_of-self : goal.invariant_of-self
invariant_of-self c =
    let client = c.agree.new.pass.client in
    let history = c.self.inside.entries.items in
    let e : Entry = record { client = c.client.result; seq = c.made.result; call = c.args.call; reply = Some c.args.reply } in
    let log : c.agree.new.self.log ≡ map with_key history = ap (λ (s : SpineView Entry). s.log) c.agree.ensures.spine ∙ c.self.invariant.log in
    let count : length c.agree.new.pass.entries ≡ count_made_by client history = ap length (c.agree.ensures.own ∙ ap (own client) log) ∙ length-own client history in
    let seq : c.made.result ≡ count_made_by c.client.result history = c.made.ensures ∙ count ∙ ap (λ (x : ℕ). count_made_by x history) (sym c.client.ensures) in
    let mine : c.client.result ≡ c.args.pass.now.client = c.client.ensures ∙ ap (λ (p : PassView Entry). p.client) c.agree.ensures.pass in
    let clients : c.args.self.now.clients ≡ c.self.inside.clients = ap (λ (l : LedgerView). l.clients) (sym c.self.view_is) in
    let member : IsMember c.self.inside.clients c.client.result = record { some = omega (arith, mine, c.requires.member.some); most = omega (arith, mine, clients, c.requires.member.most) } in
    let free : length history < c.self.inside.room = omega (arith, ap (λ (l : LedgerView). l.room) c.self.view_is, ap (λ (l : LedgerView). length l.history) c.self.view_is, c.requires.free) in
    let grown = history_push c.self.inside.clients c.self.inside.room history e c.self.invariant.kept seq member c.requires.call free in
    record {
      log = log_push c.agree.new.self.log c.append.new.self.log history c.push_reserved.new.self.items client e log (ap (λ (s : SpineView Entry). s.log) c.append.ensures.spine) (sym c.client.ensures) c.push_reserved.ensures.items;
      kept = subst (IsHistory c.self.inside.clients c.self.inside.room) (sym c.push_reserved.ensures.items) grown;
      reserved = omega (arith, c.push_reserved.ensures.capacity, c.self.invariant.reserved);
    }
