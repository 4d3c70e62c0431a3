use Rattle.std.proofs.Common.{◌≡◌, ◌≤◌, ◌+◌, ◌∙◌, ℕ, List, length, ap, arith}
use Rattle.std.specs.List.{insert}
use Rattle.edf_pick.specs.declared.candidate.Candidate.{Candidate}
use Rattle.edf_pick.specs.declared.room.Room.{Room}
use Rattle.edf_pick.specs.private.Room.{IsTaskRoom, tasks_in_room}
use Rattle.edf_pick.proofs.Spans.{between_len}
use Rattle.edf_pick.proofs.room.Room.insert.Goals as goal

there : (room : Room) (place : ℕ) → IsTaskRoom room → place ≤ length (tasks_in_room room) → room.front + place ≤ room.end
there room place is h =
    let many = between_len room.front room.end room.tasks.items is.forward (let within = is.within in let full = is.full in omega (arith, within, full)) in
    let forward = is.forward in
    omega (arith, h, many, forward)

pub len-requires : goal.len-requires
len-requires c = c.requires.is

pub insert_below-requires-clause-is : goal.insert_below-requires-clause-is
insert_below-requires-clause-is c = c.requires.is

pub insert_below-requires-clause-free : goal.insert_below-requires-clause-free
insert_below-requires-clause-free c = omega arith

pub insert_below-requires-clause-there : goal.insert_below-requires-clause-there
insert_below-requires-clause-there c = there c.args.self.now c.args.place c.requires.is c.requires.there

pub returns-then-place-len-clause-is : goal.returns-then-place-len-clause-is
returns-then-place-len-clause-is c = c.insert_below.ensures.is

pub returns-then-place-len-clause-tasks : goal.returns-then-place-len-clause-tasks
returns-then-place-len-clause-tasks c = c.insert_below.ensures.tasks

pub returns-then-place-len-clause-capacity : goal.returns-then-place-len-clause-capacity
returns-then-place-len-clause-capacity c = c.insert_below.ensures.capacity

pub free_end-requires-clause-is : goal.free_end-requires-clause-is
free_end-requires-clause-is c = c.requires.is

pub free_end-requires-clause-few : goal.free_end-requires-clause-few
free_end-requires-clause-few c = c.requires.few

pub insert_above-requires-clause-is : goal.insert_above-requires-clause-is
insert_above-requires-clause-is c = c.free_end.ensures.is

pub insert_above-requires-clause-free : goal.insert_above-requires-clause-free
insert_above-requires-clause-free c = c.free_end.ensures.free

pub insert_above-requires-clause-there : goal.insert_above-requires-clause-there
insert_above-requires-clause-there c =
    let e = c.free_end.ensures in
    let same : length (tasks_in_room c.free_end.new.self) ≡ length (tasks_in_room c.args.self.now) = ap (λ (xs : List Candidate). length xs) e.tasks in
    there c.free_end.new.self c.args.place e.is (let h = c.requires.there in omega (arith, h, same))

pub returns-clause-is : goal.returns-clause-is
returns-clause-is c = c.insert_above.ensures.is

pub returns-clause-tasks : goal.returns-clause-tasks
returns-clause-tasks c = c.insert_above.ensures.tasks ∙ ap (λ (xs : List Candidate). insert xs c.args.place c.args.task) c.free_end.ensures.tasks

pub returns-clause-capacity : goal.returns-clause-capacity
returns-clause-capacity c = c.insert_above.ensures.capacity ∙ c.free_end.ensures.capacity
