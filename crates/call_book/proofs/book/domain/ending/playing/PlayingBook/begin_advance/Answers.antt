use Rattle.std.proofs.Common.{◌≡◌, ℕ, ◌+◌, ◌∙◌, length, sym, ap, subst, arith}
use Rattle.std.proofs.lemmas.List.{length_push}
use Rattle.domain_run.specs.declared.call.Call.TheVariants as Call
use Rattle.domain_run.specs.declared.call.Reply.TheVariants as Reply
use Rattle.call_book.specs.Book.{entry_by}
use Rattle.call_book.specs.Playing.{PlayingView, HasWholeRun}
use Rattle.call_book.specs.private.Ledger.{LedgerView}
use Rattle.call_book.specs.private.Kept.{book_of}
use Rattle.call_book.specs.private.Played.{LeadsOn}
use Rattle.call_book.specs.private.Ticking.{domain_in}
use Rattle.call_book.proofs.Growing.{has_room}
use Rattle.call_book.proofs.Played.{play_of, playing_begun, whole_begun}
use Rattle.call_book.proofs.book.domain.ending.playing.PlayingBook.begin_advance.Goals as goal

pub invariant_of-self : goal.invariant_of-self
invariant_of-self c =
    let own = c.self.inside in
    let n = c.args.n in
    let p = c.args.pass.now in
    let book = book_of own.cpus own.limit own.workers.count own.left own.ledger own.stock in
    let none : own.ticks ≡ 0 = ap (λ (v : PlayingView). v.left) c.self.view_is ∙ c.requires.made in
    let was : LeadsOn book (domain_in own.domain) 0 = subst (LeadsOn book (domain_in own.domain)) none c.self.invariant.on in
    let kept = c.is_full.ensures.history in
    let short = kept.short in
    let free = has_room c.is_full.result (length own.ledger.history) own.ledger.room c.is_full.ensures.full c.if-is_full.false kept.within in
    let long : length c.enter.new.self.history ≡ length own.ledger.history + 1 =
    ap (λ (l : LedgerView). length l.history) c.enter.ensures.ledger ∙ length_push own.ledger.history (entry_by p (Call.Advance n) (Reply.Done n)) in
    record {
      on = playing_begun own.cpus own.limit own.workers.count own.left own.ledger c.enter.new.self own.stock (domain_in own.domain) n p was c.state.ensures.domain c.enter.ensures.ledger c.requires.call.1 (omega (arith, long, free, short));
      until = c.self.invariant.until;
    }

pub returns-clause-whole : goal.returns-clause-whole
returns-clause-whole c = λ whole.
    let own = c.self.inside in
    let n = c.args.n in
    let p = c.args.pass.now in
    let book = book_of own.cpus own.limit own.workers.count own.left own.ledger own.stock in
    let none : own.ticks ≡ 0 = ap (λ (v : PlayingView). v.left) c.self.view_is ∙ c.requires.made in
    let was : LeadsOn book (domain_in own.domain) 0 = subst (LeadsOn book (domain_in own.domain)) none c.self.invariant.on in
    let here : HasWholeRun (play_of book (domain_in own.domain) 0) = subst (λ (k : ℕ). HasWholeRun (play_of book (domain_in own.domain) k)) none (subst HasWholeRun (sym c.self.view_is) whole) in
    whole_begun own.cpus own.limit own.workers.count own.left own.ledger c.enter.new.self own.stock (domain_in own.domain) n p was c.state.ensures.domain c.enter.ensures.ledger c.requires.call.1 here
