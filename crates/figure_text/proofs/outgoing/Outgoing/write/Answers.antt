use Rattle.std.proofs.Common.{◌+◌, ◌%◌, ℕ, List, ◌++◌, ap}
use Rattle.figure_text.specs.private.Outgoing.{OutgoingView}
use Rattle.figure_text.proofs.Sending.{stops_at}
use Rattle.figure_text.proofs.outgoing.Outgoing.write.Goals as goal

pub returns-in-Err-clause-err : goal.returns-in-Err-clause-err
returns-in-Err-clause-err g c =
    stops_at _ _ c.args.self.now _ c.args.text.now c.args.text.now c.in-Err.n (ap (λ (xs : List ℕ). xs ++ c.args.text.now) c.requires.empty)
    (ap (λ (v : OutgoingView). (v.written + c.in-Err.n) % 18446744073709551616) c.self.view_is) c.in-Err.ensures.err
