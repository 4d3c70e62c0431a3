use Rattle.std.proofs.Common.{◌≡◌, ◌+◌, ◌++◌, List, length, drop, refl, ap, subst, sym, ◌∙◌, arith}
use Rattle.domain_run.specs.Domain.{Domain}
use Rattle.domain_run.specs.Switch.{Switch}
use Rattle.repeat_run.specs.declared.phase.Kept.{Kept}
use Rattle.repeat_run.specs.private.Knows.{IsRecorded}
use Rattle.repeat_run.proofs.Recording.{longer, recorded_more}
use Rattle.repeat_run.proofs.stepping.record.Goals as goal

pub add_from-requires : goal.add_from-requires
add_from-requires c =
    let more = longer c.simulate-ticks.result c.args.buffered.now c.simulate-ticks.new.buffered c.simulate-ticks.ensures.made in
    let a = ap (λ (ss : List Switch). length ss) c.switches-before.ensures.switches in
    let b = ap (λ (ss : List Switch). length ss) c.switches.ensures.switches in
    omega (arith, more, a, b)

pub close-phase-requires-clause-knows : goal.close-phase-requires-clause-knows
close-phase-requires-clause-knows c =
    let kept = c.args.kept.now in
    let start = c.args.buffered.now in
    let end = c.simulate-ticks.new.buffered in
    let more : Kept = record { seen = kept.seen; running = kept.running; paces = kept.paces; period = c.add_from.new.period } in
    let before = c.switches-before.ensures.switches in
    let after = c.switches.ensures.switches in
    let added : c.add_from.new.period.items ≡ kept.period.items ++ drop (length start.switches) end.switches =
    c.if-not-add_from.ensures refl ∙ (λ i. kept.period.items ++ drop (length (before i)) (after i)) in
    let here : c.state.result.now ≡ end = c.state.ensures.state in
    subst (λ (d : Domain). IsRecorded (c.args.recording.made + c.simulate-ticks.result) more d) (sym here)
    (recorded_more c.args.recording.made c.simulate-ticks.result kept more start end c.requires.knows c.simulate-ticks.ensures.made refl refl added)
