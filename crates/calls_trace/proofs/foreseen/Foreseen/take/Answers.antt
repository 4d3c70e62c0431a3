use Rattle.std.proofs.Common.{◌≡◌, ◌+◌, ◌∷◌, [], ◌++◌, refl, ap}
use Rattle.calls_text.specs.KeptCall.{call_kept}
use Rattle.calls_trace.specs.private.Foreseen.{IsForeseen}
use Rattle.calls_trace.proofs.Naming.{on_ok}
use Rattle.calls_trace.proofs.Forelogged.{one_foreseen}
use Rattle.calls_trace.proofs.foreseen.Foreseen.take.Goals as goal

pub returns-clause-foreseen : goal.returns-clause-foreseen
returns-clause-foreseen c =
    let was = c.list.new.self in
    let call = call_kept c.args.kept in
    on_ok c.push.result (c.push.new.self ≡ was.calls ++ call ∷ []) (IsForeseen (record { calls = c.push.new.self; ticks = was.ticks + c.ticks_of.result; numbers = was.numbers }))
    (λ more. one_foreseen was (record { calls = c.push.new.self; ticks = was.ticks + c.ticks_of.result; numbers = was.numbers }) call c.in_ok-list.ensures.foreseen more refl (ap (λ n. was.ticks + n) c.ticks_of.ensures) c.requires.call
    (c.number_of.ensures.forelogged was.numbers.keys c.in_ok-list.ensures.listed))
    c.push.ensures
