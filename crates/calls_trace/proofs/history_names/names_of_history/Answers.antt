use Rattle.std.proofs.Common.{refl, sym}
use Rattle.std.proofs.lemmas.Result.{IfOk-weaker}
use Rattle.switch_text.specs.Names.{Names}
use Rattle.calls_trace.specs.HistoryNames.{AreNamesOf}
use Rattle.calls_trace.specs.Replay.{no_names}
use Rattle.calls_trace.specs.DomainEvents.{domain_of}
use Rattle.calls_trace.specs.private.Recorded.{given_by_all}
use Rattle.calls_trace.specs.private.Replaying.{MapGives}
use Rattle.calls_trace.proofs.Recorded.{run_is}
use Rattle.calls_trace.proofs.history_names.names_of_history.Goals as goal

pub returns : goal.returns
returns c = λ s same section legal.
    let entries = c.args.entries.now in
    IfOk-weaker c.names_given.result (λ (names : Names). MapGives names (given_by_all entries no_names)) (AreNamesOf s)
    (λ names gives.
    let run = run_is s (domain_of s) names entries section legal refl (sym same) gives in
    record { given = λ i n. run.called n i; all_named = run.all_named })
    c.names_given.ensures.names
