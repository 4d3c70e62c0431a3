use Rattle.deadline_promise.proofs.Blocked.{demand_is}
use Rattle.deadline_promise.proofs.demand.Demand.of.Goals as goal

pub returns : goal.returns
returns c =
    let phases = c.phases-phases in
    demand_is c.args.script.now c.rounds_of.result phases.result.now c.work_max.result c.span_of_round.result c.of_phases-blocks.result c.are_alike.result
    phases.ensures.within phases.ensures.phases c.rounds_of.ensures.rounds c.span_of_round.ensures.span c.work_max.ensures c.of_phases-blocks.ensures c.are_alike.ensures
