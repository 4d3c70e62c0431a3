use Rattle.rtapp_scenario.proofs.Walks.{at_found, at_passed, at_end}
use Rattle.rtapp_scenario.proofs.value.at.Goals as goal

pub returns-then-is : goal.returns-then-is
returns-then-is c = at_found c.args.key.now c.args.members.now c.loop-member.member-index c.member-item.result c.loop-member-test.true c.member-item.is (cc) c.loop-member.invariant

pub loop-member-preserved : goal.loop-member-preserved
loop-member-preserved c = at_passed c.args.key.now c.args.members.now c.loop-member.member-index c.member-item.result c.loop-member-test.true c.member-item.is (cc) c.loop-member.invariant

pub returns : goal.returns
returns c = at_end c.args.key.now c.args.members.now c.loop-member.member-index c.loop-member-test.false c.loop-member.invariant
