use Rattle.std.proofs.Common.{◌<◌, ◌∙◌, ◌∷◌, List, length, get_or, ap, subst, sym}
use Rattle.std.specs.Prelude.{vec_capacity}
use Rattle.std.specs.List.{remove}
use Rattle.edf_pick.specs.declared.candidate.Candidate.{Candidate}
use Rattle.edf_pick.specs.private.Room.{tasks_in_room}
use Rattle.edf_pick.proofs.Rising.{first_rest, few_rest, queue_rest}
use Rattle.edf_pick.proofs.queue.Queue.take_first.Goals as goal

pub as_slice-requires : goal.as_slice-requires
as_slice-requires c = c.self.invariant.is

pub bounds-as_slice-0 : goal.bounds-as_slice-0
bounds-as_slice-0 c = subst (λ (xs : List Candidate). 0 < length xs) (sym (c.as_slice.ensures ∙ c.self.view_is)) c.requires

pub remove_first-requires-clause-is : goal.remove_first-requires-clause-is
remove_first-requires-clause-is c = c.self.invariant.is

pub remove_first-requires-clause-some : goal.remove_first-requires-clause-some
remove_first-requires-clause-some c = subst (λ (xs : List Candidate). 0 < length xs) (sym c.self.view_is) c.requires

pub invariant_of-self : goal.invariant_of-self
invariant_of-self c =
    let old = tasks_in_room c.self.inside.room in
    let e = c.remove_first.ensures in
    let some : 0 < length old = subst (λ (xs : List Candidate). 0 < length xs) (sym c.self.view_is) c.requires in
    record {
      queue = queue_rest old (tasks_in_room c.remove_first.new.self) (vec_capacity c.self.inside.room.tasks) (vec_capacity c.remove_first.new.self.tasks) c.self.invariant.queue some e.tasks e.capacity;
      is = e.is;
    }

pub returns-clause-first : goal.returns-clause-first
returns-clause-first c =
    let old = tasks_in_room c.self.inside.room in
    let d : Candidate = record { deadline = 0; number = 0; home = 0 } in
    let some : 0 < length old = subst (λ (xs : List Candidate). 0 < length xs) (sym c.self.view_is) c.requires in
    sym c.self.view_is ∙ first_rest old d some
    ∙ ap (λ (xs : List Candidate). get_or xs 0 d ∷ remove old 0) (sym c.as_slice.ensures)
    ∙ ap (λ (xs : List Candidate). get_or c.as_slice.result.now 0 d ∷ xs) (sym c.remove_first.ensures.tasks)

pub returns-clause-few : goal.returns-clause-few
returns-clause-few c =
    let old = tasks_in_room c.self.inside.room in
    let some : 0 < length old = subst (λ (xs : List Candidate). 0 < length xs) (sym c.self.view_is) c.requires in
    subst (λ (xs : List Candidate). length xs < 256) (sym c.remove_first.ensures.tasks) (few_rest old c.self.invariant.queue.few some)
