use Rattle.std.proofs.Common.{◌+◌, ◌*◌, ◌∙◌, subst, sym, arith, length, take, ap}
use Rattle.std.proofs.lemmas.List.{length-take}
use Rattle.std.proofs.lemmas.Grind.{common_steps}
use Rattle.trace_compare.specs.Runs.{InTurn}
use Rattle.trace_compare.proofs.SideBySide.{take_in_turn}
use Rattle.trace_compare.proofs.shift.score_of_task.Goals as goal

pub matched_if-requires-clause-model_turn : goal.matched_if-requires-clause-model_turn
matched_if-requires-clause-model_turn c = subst InTurn (sym (c.front-ms.ensures ∙ ap (take c.args.share) c.as_slice.ensures.value)) (take_in_turn c.args.share c.args.task.now.model.items c.requires.task.model_turn)

pub matched_if-requires-clause-recorded_turn : goal.matched_if-requires-clause-recorded_turn
matched_if-requires-clause-recorded_turn c = subst InTurn (sym (c.front-rs.ensures ∙ ap (take (4 * c.args.share + 50)) c.as_slice-2.ensures.value)) (take_in_turn (4 * c.args.share + 50) c.args.task.now.recorded.items c.requires.task.recorded_turn)

pub returns-clause-few : goal.returns-clause-few
returns-clause-few c = grind (arith, common_steps, c.matched_if.ensures.few, ap length c.front-ms.ensures, length-take c.args.share c.as_slice.result.now, ap length c.as_slice.ensures.value)
