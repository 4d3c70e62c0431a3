use Rattle.std.proofs.Common.{arith}
use Rattle.std.proofs.lemmas.Grind.{common_steps}
use Rattle.calls_trace.proofs.named_run.RunWithNames.make.Goals as goal

pub returns-in-Advance-clause-state : goal.returns-in-Advance-clause-state
returns-in-Advance-clause-state c = grind (arith, common_steps)

pub returns-in-Advance-clause-names : goal.returns-in-Advance-clause-names
returns-in-Advance-clause-names c = grind (arith, common_steps)

pub returns-in-Advance-clause-given : goal.returns-in-Advance-clause-given
returns-in-Advance-clause-given c = grind (arith, common_steps)

pub returns-in-Advance-clause-logged : goal.returns-in-Advance-clause-logged
returns-in-Advance-clause-logged c = grind (arith, common_steps)

pub returns-in-Advance-clause-named : goal.returns-in-Advance-clause-named
returns-in-Advance-clause-named c = grind (arith, common_steps)

pub returns-in-Advance-clause-time : goal.returns-in-Advance-clause-time
returns-in-Advance-clause-time c = grind (arith, common_steps)

pub returns-in-Regrade-clause-state : goal.returns-in-Regrade-clause-state
returns-in-Regrade-clause-state c = grind (arith, common_steps)

pub returns-in-Regrade-clause-names : goal.returns-in-Regrade-clause-names
returns-in-Regrade-clause-names c = grind (arith, common_steps)

pub returns-in-Regrade-clause-given : goal.returns-in-Regrade-clause-given
returns-in-Regrade-clause-given c = grind (arith, common_steps)

pub returns-in-Regrade-clause-logged : goal.returns-in-Regrade-clause-logged
returns-in-Regrade-clause-logged c = grind (arith, common_steps)

pub returns-in-Regrade-clause-named : goal.returns-in-Regrade-clause-named
returns-in-Regrade-clause-named c = grind (arith, common_steps)

pub returns-in-Regrade-clause-time : goal.returns-in-Regrade-clause-time
returns-in-Regrade-clause-time c = grind (arith, common_steps)

pub returns-in-Wake-clause-state : goal.returns-in-Wake-clause-state
returns-in-Wake-clause-state c = grind (arith, common_steps)

pub returns-in-Wake-clause-names : goal.returns-in-Wake-clause-names
returns-in-Wake-clause-names c = grind (arith, common_steps)

pub returns-in-Wake-clause-given : goal.returns-in-Wake-clause-given
returns-in-Wake-clause-given c = grind (arith, common_steps)

pub returns-in-Wake-clause-logged : goal.returns-in-Wake-clause-logged
returns-in-Wake-clause-logged c = grind (arith, common_steps)

pub returns-in-Wake-clause-named : goal.returns-in-Wake-clause-named
returns-in-Wake-clause-named c = grind (arith, common_steps)

pub returns-in-Wake-clause-time : goal.returns-in-Wake-clause-time
returns-in-Wake-clause-time c = grind (arith, common_steps)

pub returns-in-Leave-clause-state : goal.returns-in-Leave-clause-state
returns-in-Leave-clause-state c = grind (arith, common_steps)

pub returns-in-Leave-clause-names : goal.returns-in-Leave-clause-names
returns-in-Leave-clause-names c = grind (arith, common_steps)

pub returns-in-Leave-clause-given : goal.returns-in-Leave-clause-given
returns-in-Leave-clause-given c = grind (arith, common_steps)

pub returns-in-Leave-clause-logged : goal.returns-in-Leave-clause-logged
returns-in-Leave-clause-logged c = grind (arith, common_steps)

pub returns-in-Leave-clause-named : goal.returns-in-Leave-clause-named
returns-in-Leave-clause-named c = grind (arith, common_steps)

pub returns-in-Leave-clause-time : goal.returns-in-Leave-clause-time
returns-in-Leave-clause-time c = grind (arith, common_steps)

pub returns-in-Limit-clause-state : goal.returns-in-Limit-clause-state
returns-in-Limit-clause-state c = grind (arith, common_steps)

pub returns-in-Limit-clause-names : goal.returns-in-Limit-clause-names
returns-in-Limit-clause-names c = grind (arith, common_steps)

pub returns-in-Limit-clause-given : goal.returns-in-Limit-clause-given
returns-in-Limit-clause-given c = grind (arith, common_steps)

pub returns-in-Limit-clause-logged : goal.returns-in-Limit-clause-logged
returns-in-Limit-clause-logged c = grind (arith, common_steps)

pub returns-in-Limit-clause-named : goal.returns-in-Limit-clause-named
returns-in-Limit-clause-named c = grind (arith, common_steps)

pub returns-in-Limit-clause-time : goal.returns-in-Limit-clause-time
returns-in-Limit-clause-time c = grind (arith, common_steps)

pub returns-in-Depart-clause-state : goal.returns-in-Depart-clause-state
returns-in-Depart-clause-state c = grind (arith, common_steps)

pub returns-in-Depart-clause-names : goal.returns-in-Depart-clause-names
returns-in-Depart-clause-names c = grind (arith, common_steps)

pub returns-in-Depart-clause-given : goal.returns-in-Depart-clause-given
returns-in-Depart-clause-given c = grind (arith, common_steps)

pub returns-in-Depart-clause-logged : goal.returns-in-Depart-clause-logged
returns-in-Depart-clause-logged c = grind (arith, common_steps)

pub returns-in-Depart-clause-named : goal.returns-in-Depart-clause-named
returns-in-Depart-clause-named c = grind (arith, common_steps)

pub returns-in-Depart-clause-time : goal.returns-in-Depart-clause-time
returns-in-Depart-clause-time c = grind (arith, common_steps)

pub returns-in-Admit-clause-logged : goal.returns-in-Admit-clause-logged
returns-in-Admit-clause-logged c = grind (arith, common_steps)

pub returns-in-Admit-clause-time : goal.returns-in-Admit-clause-time
returns-in-Admit-clause-time c = grind (arith, common_steps)

pub returns-in-Arrive-clause-logged : goal.returns-in-Arrive-clause-logged
returns-in-Arrive-clause-logged c = grind (arith, common_steps)

pub returns-in-Arrive-clause-time : goal.returns-in-Arrive-clause-time
returns-in-Arrive-clause-time c = grind (arith, common_steps)
