use Rattle.std.proofs.Common.{◌≡◌, ◌<◌, ◌∙◌, List, Option, Some, None, get_or, set, refl, sym, ap, arith, length}
use Rattle.std.specs.Int.{bit_at}
use Rattle.std.proofs.lemmas.Nat.Bits.{bit_at-lt}
use Rattle.edf_pick.specs.declared.candidate.Candidate.{Candidate}
use Rattle.edf_pick.specs.private.RunningSet.{bare_key}
use Rattle.edf_pick.specs.private.Ready.{all_held}
use Rattle.edf_pick.proofs.Held.{held_length}
use Rattle.edf_pick.proofs.Stays.{no_mark, view_at, view_length, is_stayed, came_view}
use Rattle.edf_pick.proofs.running.RunningSet.stay.Goals as goal
use Rattle.edf_pick.proofs.running.RunningSet.stay.Goals.{After-self}

inside : (c : After-self) → c.args.cpu < c.self.inside.cpus
inside c =
    let s = c.self.inside in
    let inv = c.self.invariant in
    let len = view_length s.marks s.cpus s.keys inv.full inv.few in
    let same = ap (λ (stays : List (Option Candidate)). length stays) c.self.view_is in
    omega (arith, len, same, c.requires.within)

within : (c : After-self) → c.args.cpu < 64
within c = let h = inside c in let few = c.self.invariant.few in omega (arith, h, few)

unmarked : (c : After-self) → bit_at c.self.inside.marks c.args.cpu ≡ 0
unmarked c =
    let s = c.self.inside in
    let inv = c.self.invariant in
    let cpu = c.args.cpu in
    no_mark (bit_at s.marks cpu) (get_or s.keys cpu bare_key) (bit_at-lt s.marks cpu)
    (sym (view_at s.marks s.cpus cpu s.keys inv.full inv.few inv.within) ∙ ap (λ (stays : List (Option Candidate)). get_or stays cpu None) c.self.view_is ∙ c.requires.bare)

pub with-self-inside-requires : goal.with-self-inside-requires
with-self-inside-requires c = within c

pub overflow_cast-key : goal.overflow_cast-key
overflow_cast-key c = let h = within (goal.at.overflow_cast-key c).After-self in omega (arith, h)

pub overflow_add-self : goal.overflow_add-self
overflow_add-self c =
    let s = c.self.inside in
    let inv = c.self.invariant in
    let most = held_length c.args.self.now in
    let len = view_length s.marks s.cpus s.keys inv.full inv.few in
    let same = ap (λ (stays : List (Option Candidate)). length stays) c.self.view_is in
    let many = inv.many ∙ ap (λ (stays : List (Option Candidate)). length (all_held stays)) c.self.view_is in
    omega (arith, most, len, same, many, inv.few)

pub offset_bounds-self-inside-cpu : goal.offset_bounds-self-inside-cpu
offset_bounds-self-inside-cpu c = let h = within (goal.at.offset_bounds-self-inside-cpu c).After-self in omega (arith, h)

pub bounds-self-inside-cpu : goal.bounds-self-inside-cpu
bounds-self-inside-cpu c = within (goal.at.bounds-self-inside-cpu c).After-self

pub offset_bounds-self-inside-g : goal.offset_bounds-self-inside-g
offset_bounds-self-inside-g c = let h = within (goal.at.offset_bounds-self-inside-g c).After-self in omega (arith, h)

pub bounds-self-inside-g : goal.bounds-self-inside-g
bounds-self-inside-g c = let h = within (goal.at.bounds-self-inside-g c).After-self in omega (arith, h)

pub later-requires : goal.later-requires
later-requires c = tt

pub offset_bounds-self-inside-g-2 : goal.offset_bounds-self-inside-g-2
offset_bounds-self-inside-g-2 c = let h = within (goal.at.offset_bounds-self-inside-g-2 c).After-self in omega (arith, h)

pub bounds-self-inside-g-2 : goal.bounds-self-inside-g-2
bounds-self-inside-g-2 c = let h = within (goal.at.bounds-self-inside-g-2 c).After-self in omega (arith, h)

pub later-self-inside-requires : goal.later-self-inside-requires
later-self-inside-requires c = tt

pub invariant_of-self : goal.invariant_of-self
invariant_of-self c =
    let k = (goal.at.invariant_of-self c).After-self in
    let s = c.self.inside in
    let one = c.args.c.now in
    let w = c.with-self-inside in
    let key : Candidate = record { deadline = one.deadline; number = one.number; home = c.args.cpu } in
    is_stayed s.cpus s.busy s.marks w.result s.unknown c.args.cpu s.keys s.most s.top key c.later.result c.later-self-inside.result c.self.invariant (inside k)
    (unmarked k) refl w.ensures.marked w.ensures.others c.later.ensures.one c.later.ensures.first c.later.ensures.second c.later.ensures.tie c.later-self-inside.ensures.first c.later-self-inside.ensures.second

pub returns : goal.returns
returns c =
    let k = (goal.at.returns c).After-self in
    let s = c.self.inside in
    let one = c.args.c.now in
    let w = c.with-self-inside in
    let key : Candidate = record { deadline = one.deadline; number = one.number; home = c.args.cpu } in
    came_view s.cpus s.busy s.marks w.result s.unknown c.args.cpu s.keys s.most s.top key c.self.invariant (inside k) w.ensures.marked w.ensures.others
    ∙ ap (λ (stays : List (Option Candidate)). set stays c.args.cpu (Some key)) c.self.view_is
