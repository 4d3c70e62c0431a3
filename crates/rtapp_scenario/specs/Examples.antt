-- Worked rows, computed from the definitions.
use Rattle.std.specs.Prelude.{ℕ, ◌≡◌, List, [], ◌∷◌, Some, None, Ok, Err, codes, refl}
use Rattle.json_order.specs.Json.{Json, number, string, object, Members, no_members, member}
use Rattle.task_script.specs.declared.phase.Event.TheVariants.{Run, Sleep}
use Rattle.rtapp_scenario.specs.Values.{natural_in, natural_within, at}
use Rattle.rtapp_scenario.specs.Faults.{no_tasks, unsupported, policy, idle}
use Rattle.rtapp_scenario.specs.Keys.{are_cpus, takes, key_fault, missing_fault, kind_of}
use Rattle.rtapp_scenario.specs.Threads.{number_at, event_of_member, timer_at, timer_of, thread_ref}
use Rattle.rtapp_scenario.specs.Tests.{event_value_fault, event_fault, phase_member_fault, phase_fault, phases_fault, thread_member_fault, is_shared, members_fault, own_fault, beside_fault, fault_of}
use Rattle.rtapp_scenario.specs.Scenario.{phase_of, script, task_at, thread_tasks, parsed}

-- "key": value, and more members
abbrev num : List ℕ → List ℕ → Members → Members
num key digits more = member key (number digits) more

abbrev text : List ℕ → List ℕ → Members → Members
text key letters more = member key (string letters) more

abbrev obj : List ℕ → Members → Members → Members
obj key inside more = member key (object inside) more

-- the root of these threads and a duration in seconds
abbrev root : Members → List ℕ → Json
root threads seconds =
    object (obj (codes "tasks") threads
    (obj (codes "global") (num (codes "duration") seconds no_members) no_members))

abbrev deadline_policy : Members → Members
deadline_policy more = text (codes "policy") (codes "SCHED_DEADLINE") more

-- NO TASKS
no_tasks_row : parsed (root no_members (codes "1")) ≡ Err no_tasks
unfolding at
no_tasks_row = refl

-- MEMBER ORDER
abbrev light : Members
light =
    num (codes "loop") (codes "2")
    (num (codes "run0") (codes "3") (num (codes "sleep1") (codes "7") no_members))

abbrev heavy : Members
heavy =
    num (codes "run0") (codes "4")
    (num (codes "sleep1") (codes "2") (num (codes "run2") (codes "1") no_members))

abbrev p : Members
p =
    deadline_policy
    (num (codes "dl-runtime") (codes "5")
    (num (codes "dl-period") (codes "10")
    (obj (codes "phases")
    (obj (codes "light") light (obj (codes "heavy") heavy no_members)) no_members)))

member_order : parsed (root (obj (codes "p") p no_members) (codes "0")) ≡ Ok (record {
  duration_us = 0;
  tasks = record {
    number = 1;
    name = codes "p";
    attr = record { policy = 6; flags = 0; runtime = 5000; deadline = 10000; period = 10000 };
    cpus = None;
    delay = 0;
    script =
        record {
          rounds = None;
          phases =
              record { count = 2; events = Run 3 ∷ Sleep 7 ∷ [] }
              ∷ record { count = 1; events = Run 4 ∷ Sleep 2 ∷ Run 1 ∷ [] } ∷ [];
        };
  } ∷ [];
})
unfolding natural_in natural_within at are_cpus takes key_fault missing_fault kind_of number_at
    event_of_member timer_at timer_of thread_ref event_value_fault event_fault phase_member_fault
    phase_fault phases_fault thread_member_fault is_shared members_fault own_fault beside_fault
    phase_of script task_at thread_tasks
member_order = refl

-- PROFILE FAULTS
a_run : fault_of
    (object (obj (codes "tasks")
    (obj (codes "a") (num (codes "run") (codes "1") no_members) no_members)
    (obj (codes "global") (num (codes "duration") (codes "1") no_members)
    (obj (codes "resources") no_members no_members)))) ≡ Some (unsupported (codes "resources"))
unfolding natural_in natural_within at are_cpus takes key_fault missing_fault kind_of number_at
    event_of_member timer_at timer_of thread_ref event_value_fault event_fault phase_member_fault
    phase_fault phases_fault thread_member_fault is_shared members_fault own_fault beside_fault
a_run = refl

no_policy : fault_of
    (root (obj (codes "a") (num (codes "run") (codes "1") no_members) no_members) (codes "1"))
    ≡ Some policy
unfolding natural_in natural_within at are_cpus takes key_fault missing_fault kind_of number_at
    event_of_member timer_at timer_of thread_ref event_value_fault event_fault phase_member_fault
    phase_fault phases_fault thread_member_fault is_shared members_fault own_fault beside_fault
no_policy = refl

abbrev a_task : Members → Json
a_task more =
    root (obj (codes "a")
    (deadline_policy (num (codes "dl-runtime") (codes "100") more)) no_members) (codes "1")

nothing_left : fault_of (a_task (num (codes "sleep") (codes "0") no_members)) ≡ Some idle
unfolding natural_in natural_within at are_cpus takes key_fault missing_fault kind_of number_at
    event_of_member timer_at timer_of thread_ref event_value_fault event_fault phase_member_fault
    phase_fault phases_fault thread_member_fault is_shared members_fault own_fault beside_fault
nothing_left = refl

other_key : fault_of (a_task (num (codes "runtime") (codes "5") no_members))
    ≡ Some (unsupported (codes "runtime"))
unfolding natural_in natural_within at are_cpus takes key_fault missing_fault kind_of number_at
    event_of_member timer_at timer_of thread_ref event_value_fault event_fault phase_member_fault
    phase_fault phases_fault thread_member_fault is_shared members_fault own_fault beside_fault
other_key = refl

abbrev timer : List ℕ → Members
timer ref =
    num (codes "run") (codes "5")
    (obj (codes "timer")
    (text (codes "ref") ref (num (codes "period") (codes "1000") no_members)) no_members)

shared_ref : fault_of (a_task (num (codes "instance") (codes "2") (timer (codes "tick"))))
    ≡ Some (unsupported (codes "ref"))
unfolding natural_in natural_within at are_cpus takes key_fault missing_fault kind_of number_at
    event_of_member timer_at timer_of thread_ref event_value_fault event_fault phase_member_fault
    phase_fault phases_fault thread_member_fault is_shared members_fault own_fault beside_fault
shared_ref = refl

unique_ref : fault_of (a_task (num (codes "instance") (codes "2") (timer (codes "unique")))) ≡ None
unfolding natural_in natural_within at are_cpus takes key_fault missing_fault kind_of number_at
    event_of_member timer_at timer_of thread_ref event_value_fault event_fault phase_member_fault
    phase_fault phases_fault thread_member_fault is_shared members_fault own_fault beside_fault
unique_ref = refl

one_instance : fault_of (a_task (num (codes "instance") (codes "1") (timer (codes "tick")))) ≡ None
unfolding natural_in natural_within at are_cpus takes key_fault missing_fault kind_of number_at
    event_of_member timer_at timer_of thread_ref event_value_fault event_fault phase_member_fault
    phase_fault phases_fault thread_member_fault is_shared members_fault own_fault beside_fault
one_instance = refl
