use Rattle.std.proofs.Common.{◌≡◌, ◌+◌, ◌++◌, map, All}
use Rattle.std.specs.List.{range_with_len}
use Rattle.rtapp_scenario.specs.Values.{member_of}
use Rattle.rtapp_scenario.specs.Scenario.{task_at}
use Rattle.rtapp_scenario.specs.ScenarioView.{IsTaskSpec}
use Rattle.rtapp_scenario.proofs.tasks.add_thread.Given as goal

abbrev pub invariant-loop-k : goal.invariant-loop-k
invariant-loop-k l = record { made : l.tasks.items ≡ l.initial.tasks.items ++ map (λ k. task_at (member_of l.thread) (l.others + 1 + k) k) (range_with_len 0 l.k); limits : All IsTaskSpec l.initial.tasks.items → All IsTaskSpec l.tasks.items }
