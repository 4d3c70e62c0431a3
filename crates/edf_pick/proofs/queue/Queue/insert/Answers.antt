use Rattle.std.proofs.Common.{◌≡◌, ◌<◌, ℕ, false, List, length, sym, ap, ◌∙◌}
use Rattle.std.specs.Prelude.{vec_capacity}
use Rattle.std.specs.List.{insert}
use Rattle.edf_pick.specs.declared.candidate.Candidate.{Candidate}
use Rattle.edf_pick.specs.Order.{has_candidate, with_candidate}
use Rattle.edf_pick.specs.private.Room.{tasks_in_room}
use Rattle.edf_pick.proofs.Rising.{place, insert_place, queue_with}
use Rattle.edf_pick.proofs.queue.Queue.insert.Goals as goal
use Rattle.edf_pick.proofs.queue.Queue.insert.Goals.{After-insert}

inserted : (c : After-insert) → tasks_in_room c.insert.new.self ≡ with_candidate c.args.c (tasks_in_room c.self.inside.room)
inserted c =
    let old = tasks_in_room c.self.inside.room in
    let one = c.args.c in
    let at : c.place_from_end-place.result ≡ place one old = c.place_from_end-place.ensures.place ∙ ap (λ (xs : List Candidate). place one xs) c.as_slice.ensures in
    c.insert.ensures.tasks ∙ ap (λ (k : ℕ). insert old k one) at ∙ sym (insert_place one old)

pub invariant_of-self : goal.invariant_of-self
invariant_of-self c =
    let old = tasks_in_room c.self.inside.room in
    let same = c.self.view_is in
    let few : length old < 256 = rw same c.requires.few in
    let absent : has_candidate c.args.c old ≡ false = rw same c.requires.absent in
    record {
      queue = queue_with c.args.c old (tasks_in_room c.insert.new.self) (vec_capacity c.self.inside.room.tasks) (vec_capacity c.insert.new.self.tasks) c.self.invariant.queue few absent c.insert.ensures.capacity
          (inserted (goal.at.invariant_of-self c).After-insert);
      is = c.insert.ensures.is;
    }

pub returns : goal.returns
returns c = inserted (goal.at.returns c).After-insert ∙ ap (λ (xs : List Candidate). with_candidate c.args.c xs) c.self.view_is
