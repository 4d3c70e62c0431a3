-- Jobs of which each number has 64 bits, as all that a program holds.
use Rattle.std.specs.Prelude.{◌<◌, ◌^◌, IfSome}
use Rattle.run_figures.specs.declared.job.Job.{Job}

pub record IsWide (j : Job) : Type 0 where
  pub release : j.release < 2 ^ 64
  pub deadline : j.deadline < 2 ^ 64
  pub ended : IfSome j.ended (λ end. end < 2 ^ 64)
  pub throttled : j.throttled < 2 ^ 64
