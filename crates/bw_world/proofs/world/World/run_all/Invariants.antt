use Rattle.std.proofs.Common.{◌≡◌, length, take, vec_len}
use Rattle.std.specs.Prelude.{vec_capacity}
use Rattle.bw_world.specs.WorldStep.{after_steps, outcomes_of}
use Rattle.bw_world.proofs.world.World.run_all.Given as goal

-- the answers to the steps so far and the domains after them, and room for all answers
abbrev pub invariant-loop-step : goal.invariant-loop-step
invariant-loop-step l = record {
  outcomes : l.outcomes.items ≡ outcomes_of (take l.step-index l.steps) l.fn.self.domains;
  world : l.self.domains ≡ after_steps (take l.step-index l.steps) l.fn.self.domains;
  applied : l.self.applied ≡ l.step-index;
  count : vec_len l.outcomes ≡ l.step-index;
  room : vec_capacity l.outcomes ≡ length l.steps;
}
