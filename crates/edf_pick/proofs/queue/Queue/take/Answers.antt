use Rattle.std.proofs.Common.{◌≡◌, ◌<◌, ◌∙◌, ℕ, true, List, length, get_or, ap, sym, subst}
use Rattle.std.specs.Prelude.{vec_capacity}
use Rattle.std.specs.List.{remove}
use Rattle.std.proofs.lemmas.List.{get_or_default}
use Rattle.edf_pick.specs.declared.candidate.Candidate.{Candidate}
use Rattle.edf_pick.specs.Order.{has_candidate, is_same, without_candidate}
use Rattle.edf_pick.specs.private.Room.{tasks_in_room}
use Rattle.edf_pick.proofs.Rising.{place, queue_without}
use Rattle.edf_pick.proofs.Scheduling.{there_same}
use Rattle.edf_pick.proofs.queue.Queue.take.Goals as goal

pub invariant_of-self : goal.invariant_of-self
invariant_of-self c =
    let old = tasks_in_room c.self.inside.room in
    let p = c.in-Some.place in
    let e = c.in-Some.ensures in
    let one = c.args.c.now in
    let h : p < length old = subst (λ (xs : List Candidate). p < length xs) c.as_slice.ensures e.inside in
    let gone : without_candidate one old ≡ remove old p = subst (λ (xs : List Candidate). without_candidate one xs ≡ remove xs p) c.as_slice.ensures e.at in
    record {
      queue = queue_without one old (tasks_in_room c.remove.new.self) p (vec_capacity c.self.inside.room.tasks) (vec_capacity c.remove.new.self.tasks) c.self.invariant.queue h gone c.remove.ensures.tasks c.remove.ensures.capacity;
      is = c.remove.ensures.is;
    }

pub returns-clause-entry : goal.returns-clause-entry
returns-clause-entry c =
    let p = c.in-Some.place in
    let d : Candidate = record { deadline = 0; number = 0; home = 0 } in
    let x = get_or c.as_slice-2.result.now p d in
    let whole : c.as_slice.result.now ≡ c.args.self.now = c.as_slice.ensures ∙ c.self.view_is in
    let again : c.as_slice-2.result.now ≡ c.args.self.now = c.as_slice-2.ensures ∙ c.self.view_is in
    let h : p < length c.args.self.now = subst (λ (xs : List Candidate). p < length xs) whole c.in-Some.ensures.inside in
    let h2 : p < length c.as_slice-2.result.now = subst (λ (xs : List Candidate). p < length xs) (sym again) h in
    (p, h, ap (λ (xs : List Candidate). get_or xs p x) (sym again) ∙ get_or_default c.as_slice-2.result.now p x d h2)

pub returns-clause-same : goal.returns-clause-same
returns-clause-same c =
    let old = tasks_in_room c.self.inside.room in
    let one = c.args.c.now in
    let at : c.in-Some.place ≡ place one old = c.in-Some.ensures.place ∙ ap (place one) c.as_slice.ensures in
    let there : has_candidate one old ≡ true = ap (has_candidate one) (sym c.as_slice.ensures) ∙ sym c.in-Some.ensures.there in
    let d : Candidate = record { deadline = 0; number = 0; home = 0 } in
    ap (λ (xs : List Candidate). is_same (get_or xs c.in-Some.place d) one) c.as_slice-2.ensures ∙ ap (λ (k : ℕ). is_same (get_or old k d) one) at ∙ there_same one old d c.self.invariant.queue.rising there
