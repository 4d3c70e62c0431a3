use Rattle.std.proofs.Common.{◌≢◌, ◌∙◌, List, length, sym, ap, subst, arith}
use Rattle.std.specs.Prelude.{All}
use Rattle.edf_pick.specs.declared.candidate.Candidate.{Candidate}
use Rattle.edf_pick.specs.Order.{with_candidate}
use Rattle.edf_pick.specs.Places.{Places}
use Rattle.edf_pick.specs.Schedule.{ScheduleView, IsAtHome}
use Rattle.edf_pick.specs.private.Ready.{all_held, all_ready, IsReady}
use Rattle.edf_pick.proofs.Left.{waits_absent, waits_few, entered_all, entered_is}
use Rattle.edf_pick.proofs.schedule.Schedule.insert.Goals as goal
use Rattle.edf_pick.proofs.schedule.Schedule.insert.Goals.{After-self}

others : (c : After-self) → All (λ a. a.number ≢ c.args.c.number) (all_ready c.self.inside.running c.self.inside.ready_rest)
others c = subst (λ (xs : List Candidate). All (λ a. a.number ≢ c.args.c.number) xs) (sym (ap (λ (v : ScheduleView). v.queue) c.self.view_is)) c.requires.numbered

pub insert-requires-clause-few : goal.insert-requires-clause-few
insert-requires-clause-few c =
    let some = waits_few c.self.inside.running c.self.inside.ready_rest in
    let all = ap (λ (v : ScheduleView). length v.queue) c.self.view_is in
    omega (arith, some, all, c.requires.few)

pub insert-requires-clause-absent : goal.insert-requires-clause-absent
insert-requires-clause-absent c =
    let k = (goal.at.insert-requires-clause-absent c).After-self in
    waits_absent c.args.c (all_held c.self.inside.running) c.self.inside.ready_rest (others k)

pub invariant_of-self : goal.invariant_of-self
invariant_of-self c =
    let k = (goal.at.invariant_of-self c).After-self in
    let s = c.self.inside in
    let home = subst (λ (ps : Places). IsAtHome ps c.args.c) (sym (ap (λ (v : ScheduleView). v.places) c.self.view_is)) c.requires.homed in
    subst (λ (xs : List Candidate). IsReady s.running xs s.placement) (sym c.insert.ensures) (entered_is c.args.c s.running s.ready_rest s.placement c.self.invariant (others k) home)

pub returns : goal.returns
returns c =
    let k = (goal.at.returns c).After-self in
    let s = c.self.inside in
    ap (λ (xs : List Candidate). record { queue = all_ready s.running xs; places = s.placement; moves = s.moves }) c.insert.ensures
    ∙ ap (λ (xs : List Candidate). record { queue = xs; places = s.placement; moves = s.moves }) (entered_all c.args.c s.running s.ready_rest c.self.invariant.numbered (others k))
    ∙ ap (λ (v : ScheduleView). record v { queue = with_candidate c.args.c v.queue }) c.self.view_is
