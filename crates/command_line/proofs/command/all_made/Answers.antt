use Rattle.std.proofs.Common.{ap, arith, map, subst}
use Rattle.std.proofs.lemmas.List.{length_push, take_all}
use Rattle.command_line.specs.private.Made.{AreInTurn, IsOption, of_choice}
use Rattle.command_line.proofs.Made.{choices_more}
use Rattle.command_line.proofs.command.all_made.Goals as goal

pub loop-choice-preserved : goal.loop-choice-preserved
loop-choice-preserved c =
    let i = c.loop-choice.invariant in
    let was = c.loop-choice.all.items in
    let one = c.made.result in
    rw c.push_reserved.ensures.items (record {
      made = choices_more was one c.args.choices.now c.loop-choice.choice-index _ c.loop-choice-test.true c.made.ensures i.made;
      count = omega (arith, i.count, length_push was one);
      room = omega (arith, i.room, c.push_reserved.ensures.capacity);
    })

pub returns : goal.returns
returns c =
    subst (AreInTurn IsOption c.loop-choice.all.items) (ap (map of_choice) (take_all c.loop-choice.choice-index c.args.choices.now c.loop-choice-test.false)) c.loop-choice.invariant.made
