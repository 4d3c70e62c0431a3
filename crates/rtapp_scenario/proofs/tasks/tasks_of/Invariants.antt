use Rattle.std.proofs.Common.{◌≡◌, ◌≤◌, ◌+◌, ◌++◌, drop, take, map, [], All}
use Rattle.rtapp_scenario.specs.Values.{members_of}
use Rattle.rtapp_scenario.specs.Faults.{first_fault_in}
use Rattle.rtapp_scenario.specs.Tests.{thread_fault, refs_in, tasks_in}
use Rattle.rtapp_scenario.specs.Scenario.{tasks_from}
use Rattle.rtapp_scenario.specs.ScenarioView.{IsTaskSpec}
use Rattle.rtapp_scenario.specs.FaultText.{ref_seen}
use Rattle.rtapp_scenario.proofs.tasks.tasks_of.Given as goal

abbrev pub invariant-loop-thread : goal.invariant-loop-thread
invariant-loop-thread l = record { passed : first_fault_in thread_fault (members_of (take l.thread-index l.threads)) (members_of (drop l.thread-index l.threads)) ≡ first_fault_in thread_fault [] (members_of l.threads); made : l.tasks.items ++ tasks_from (l.others + 1) (members_of (drop l.thread-index l.threads)) ≡ tasks_from 1 (members_of l.threads); refs : map ref_seen l.refs.items ≡ refs_in (members_of (take l.thread-index l.threads)); others : l.others ≡ tasks_in (members_of (take l.thread-index l.threads)); most : l.others ≤ 256; limits : All IsTaskSpec l.tasks.items }
