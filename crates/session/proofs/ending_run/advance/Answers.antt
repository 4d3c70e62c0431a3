use Rattle.std.proofs.Common.{◌≡◌, ◌∙◌, ℕ, length, subst, arith}
use Rattle.session.specs.private.Ending.{AreOpenLogs}
use Rattle.session.proofs.Advanced.{end_logs}
use Rattle.session.proofs.ending_run.advance.Goals as goal

pub returns-clause-logs : goal.returns-clause-logs
returns-clause-logs g c =
    let books = c.advance_all.new.books.items in
    let logs = c.in_ok-logs.logs.items in
    let count : c.len.result ≡ length books = omega (arith, c.len.ensures, c.args.unlocked.now.books.ok.0, c.advance_all.ensures.count) in
    end_logs c.args.wanted c.args.duration books logs c.advance_all.new.logs.items (subst (λ (n : ℕ). AreOpenLogs n c.args.wanted logs) count c.in_ok-logs.ensures)
    c.advance_all.ensures.logs c.in_ok-advance_all.ensures.logged

pub invariant_of-unlocked : goal.invariant_of-unlocked
invariant_of-unlocked g c =
    let was = c.args.unlocked.now in
    let done = c.advance_all.ensures in
    record {
      session = was.session;
      same_limit = was.same_limit;
      same_gate = was.same_gate;
      count = done.count ∙ was.count;
      named = done.named;
      blanks_own = was.blanks_own;
      none_ended = was.none_ended;
      for_all = was.for_all;
      enough = was.enough;
    }
