use Rattle.std.proofs.Common.{◌≡◌, drop}
use Rattle.dl_session.specs.Promised.{answer_from}
use Rattle.dl_session.proofs.promising.answer_in.Given as goal

abbrev pub invariant-loop-place : goal.invariant-loop-place
invariant-loop-place l = answer_from l.place (drop l.place l.states) l.number l.demand ≡ answer_from 0 l.states l.number l.demand
