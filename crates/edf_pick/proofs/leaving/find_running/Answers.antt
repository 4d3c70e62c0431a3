use Rattle.std.proofs.Common.{Option, None, length, ap, inl, inr, arith}
use Rattle.std.proofs.lemmas.Bool.{cases_lt}
use Rattle.std.proofs.lemmas.List.{get_or_past}
use Rattle.edf_pick.specs.declared.candidate.Candidate.{Candidate}
use Rattle.edf_pick.specs.private.Ready.{is_there}
use Rattle.edf_pick.proofs.leaving.find_running.Goals as goal

pub returns-clause-none : goal.returns-clause-none
returns-clause-none c = λ cpu. elim (cases_lt cpu (length c.args.running.now)) [
  | inl h ↦ c.loop-cpu.invariant cpu (omega (arith, h))
  | inr h ↦ ap (λ (o : Option Candidate). is_there c.args.c.now o) (get_or_past c.args.running.now cpu None h)
]
