use Rattle.std.proofs.Common.{◌≡◌, ap, subst, drop}
use Rattle.std.proofs.lemmas.List.Elements.{All-drop}
use Rattle.domain_run.specs.Domain.{Domain}
use Rattle.domain_run.specs.LoggedRun.{IsLoggedUntil}
use Rattle.domain_run.specs.Passing.{without_switches}
use Rattle.call_book.specs.Playing.{PlayingView}
use Rattle.call_book.specs.private.Kept.{book_of}
use Rattle.call_book.specs.private.Ticking.{domain_in, logs_in, waits_in}
use Rattle.call_book.proofs.Played.{playing_after, until_same}
use Rattle.call_book.proofs.book.domain.ending.playing.PlayingBook.forget_logged.Goals as goal

pub invariant_of-self : goal.invariant_of-self
invariant_of-self c =
    let own = c.self.inside in
    let old = domain_in own.domain in
    let gone = c.forget_logged in
    let new = domain_in gone.new.self in
    let count = c.args.count in
    record {
      on = playing_after (book_of own.cpus own.limit own.workers.count own.left own.ledger own.stock) old new own.ticks c.self.invariant.on (ap without_switches gone.ensures.domain);
      until = until_same old new (drop count (waits_in own.domain)) (waits_in gone.new.self) (ap (λ (d : Domain). d.time) gone.ensures.domain) gone.ensures.logged
          (All-drop (IsLoggedUntil old.time) count (waits_in own.domain) c.self.invariant.until);
    }

pub returns : goal.returns
returns c =
    let own = c.self.inside in
    let gone = c.forget_logged in
    let book = book_of own.cpus own.limit own.workers.count own.left own.ledger own.stock in
    let at = gone.ensures.domain in
    let logs = gone.ensures.logs in
    let logged = gone.ensures.logged in
    let new : PlayingView = record { book = book; at = domain_in gone.new.self; left = own.ticks; logs = logs_in gone.new.self; logged = waits_in gone.new.self } in
    subst (λ (p : PlayingView). new ≡ record p { logged = drop c.args.count p.logged }) c.self.view_is (λ i. record { book = book; at = at i; left = own.ticks; logs = logs i; logged = logged i })
