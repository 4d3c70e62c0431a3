use Rattle.std.proofs.Common.{◌≡◌, ◌-◌, ◌<◌, [], All, sym, subst, arith}
use Rattle.std.proofs.lemmas.List.Elements.{All-nil}
use Rattle.domain_run.specs.LoggedRun.{IsLoggedUntil}
use Rattle.domain_run.proofs.CallerLemmas.{to_come_later}
use Rattle.call_book.specs.Playing.{PlayingView, IsFurther, all_switches}
use Rattle.call_book.specs.private.Kept.{book_of}
use Rattle.call_book.specs.private.Ticking.{domain_in, logs_in, waits_in}
use Rattle.call_book.proofs.Played.{playing_on, to_come_more, some_made}
use Rattle.call_book.proofs.book.domain.ending.playing.PlayingBook.fill.Goals as goal

pub invariant_of-self : goal.invariant_of-self
invariant_of-self c =
    let own = c.self.inside in
    let made = c.fill-self-inside in
    let new = domain_in made.new.self in
    record {
      on = playing_on (book_of own.cpus own.limit own.workers.count own.left own.ledger own.stock) (domain_in own.domain) new own.ticks made.result c.self.invariant.on made.ensures.made made.ensures.most;
      until = subst (All (IsLoggedUntil new.time)) (sym made.ensures.logged) (All-nil (IsLoggedUntil new.time));
    }

pub returns-clause-further : goal.returns-clause-further
returns-clause-further c =
    let own = c.self.inside in
    let made = c.fill-self-inside in
    let book = book_of own.cpus own.limit own.workers.count own.left own.ledger own.stock in
    let most = made.ensures.most in
    let at = made.ensures.made in
    let logs = made.ensures.logs in
    let left : made.result ≡ own.ticks - (own.ticks - made.result) = omega (arith, most) in
    let new : PlayingView = record { book = book; at = domain_in made.new.self; left = made.result; logs = logs_in made.new.self; logged = waits_in made.new.self } in
    subst (λ (p : PlayingView). IsFurther p new) c.self.view_is (record {
      made = own.ticks - made.result;
      most = omega arith;
      play = λ i. record { book = book; at = at i; left = left i; logs = logs i; logged = waits_in made.new.self };
    })

pub returns-clause-switches : goal.returns-clause-switches
returns-clause-switches c =
    let own = c.self.inside in
    let made = c.fill-self-inside in
    let book = book_of own.cpus own.limit own.workers.count own.left own.ledger own.stock in
    let new : PlayingView = record { book = book; at = domain_in made.new.self; left = made.result; logs = logs_in made.new.self; logged = waits_in made.new.self } in
    let most = made.ensures.most in
    subst (λ (p : PlayingView). all_switches new ≡ all_switches p) c.self.view_is
    (to_come_more own.ticks (own.ticks - made.result) made.result (domain_in own.domain) (domain_in made.new.self) made.ensures.made (omega (arith, most)))

pub returns-clause-later : goal.returns-clause-later
returns-clause-later c = let made = c.fill-self-inside in to_come_later made.result (domain_in made.new.self)

pub returns-clause-some : goal.returns-clause-some
returns-clause-some c =
    let own = c.self.inside in
    let made = c.fill-self-inside in
    subst (λ (p : PlayingView). p.at.switches ≡ [] → 0 < p.left → made.result < p.left) c.self.view_is
    (some_made own.ticks made.result (domain_in own.domain) (domain_in made.new.self) made.ensures.made made.ensures.full)
