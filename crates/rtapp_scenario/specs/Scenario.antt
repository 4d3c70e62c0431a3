-- The scenario of a JSON value, or its first fault.
use Rattle.std.specs.Prelude.{ℕ, ◌==◌, ◌+◌, ◌*◌, if◌then◌else◌, List, [], ◌∷◌, ◌++◌, map, take, Option, Some, None, Result, Ok, Err, unwrap_or, codes, decimal}
use Rattle.std.specs.List.{filter_map, range_with_len}
use Rattle.json_order.specs.Json.{Json}
use Rattle.attr_check.specs.declared.attr.SchedAttr.{SchedAttr}
use Rattle.task_script.specs.script.ScriptView.{PhaseView, ScriptView, script_of}
use Rattle.rtapp_scenario.specs.Values.{Member, members, has, members_at}
use Rattle.rtapp_scenario.specs.Faults.{Fault}
use Rattle.rtapp_scenario.specs.Threads.{instances, delay, runtime, period, deadline, rounds, count, cpus, event_of_member}
use Rattle.rtapp_scenario.specs.Tests.{threads_of, duration_of, fault_of}
use Rattle.rtapp_scenario.specs.ScenarioView.{TaskSpecView, ScenarioView}

-- ---- scripts

unfoldable pub phase_of : ℕ → List Member → PhaseView
phase_of n ms = record { count = n; events = filter_map event_of_member ms }

abbrev pub member_phase : Member → PhaseView
member_phase phase = phase_of (count (members phase.value)) (members phase.value)

-- events of its own are one phase
abbrev pub phases : List Member → List PhaseView
phases ms =
    if has (codes "phases") ms then map member_phase (members_at (codes "phases") ms)
    else phase_of 1 ms ∷ []

unfoldable pub script : List Member → ScriptView
script ms = script_of (rounds ms) (phases ms)

-- ---- tasks

-- The thread's name, where it is one task; else with - and the task's number in the thread, from 0.
-- The first 15 bytes of that.
abbrev pub task_name : List ℕ → ℕ → ℕ → List ℕ
task_name name instances k =
    take 15 (if instances == 1 then name else name ++ (codes "-" ++ decimal k))

-- SCHED_DEADLINE is policy 6 (sched_setattr(2)); times in nanoseconds
abbrev pub attr : List Member → SchedAttr
attr ms =
    record {
      policy = 6;
      flags = 0;
      runtime = runtime ms * 1000;
      deadline = deadline ms * 1000;
      period = period ms * 1000;
    }

-- the k-th task of a thread
unfoldable pub task_at : Member → ℕ → ℕ → TaskSpecView
task_at thread number k =
    let ms = members thread.value in
    record {
      number = number;
      name = task_name thread.key (instances ms) k;
      attr = attr ms;
      cpus = cpus ms;
      delay = delay ms;
      script = script ms;
    }

-- the tasks of a thread, of which the first has this number
unfoldable pub thread_tasks : ℕ → Member → List TaskSpecView
thread_tasks number thread =
    map (λ k. task_at thread (number + k) k) (range_with_len 0 (instances (members thread.value)))

-- every instance is a task, and numbers go on from thread to thread
abbrev pub tasks_from : ℕ → List Member → List TaskSpecView
tasks_from number [] = []
tasks_from number (thread ∷ threads) =
    thread_tasks number thread ++ tasks_from (number + instances (members thread.value)) threads

-- ---- the scenario

abbrev pub scenario_of : Json → ScenarioView
scenario_of root =
    record {
      duration_us = unwrap_or (duration_of root) 0 * 1000000;
      tasks = tasks_from 1 (threads_of root);
    }

abbrev pub unless_faulty : Json → Option Fault → Result ScenarioView Fault
unless_faulty root None = Ok (scenario_of root)
unless_faulty root (Some fault) = Err fault

-- the scenario where every test passes, else the first fault
abbrev pub parsed : Json → Result ScenarioView Fault
parsed root = unless_faulty root (fault_of root)
