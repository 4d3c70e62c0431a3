use Rattle.std.proofs.Common.{◌≡◌, ◌<◌, ◌-◌, ◌∙◌, List, Option, None, get_or, set, sym, ap, arith, length}
use Rattle.std.specs.Prelude.{is_some}
use Rattle.std.specs.Int.{bit_at}
use Rattle.std.proofs.lemmas.Nat.Bits.{bit_at-lt}
use Rattle.edf_pick.specs.declared.candidate.Candidate.{Candidate}
use Rattle.edf_pick.specs.private.RunningSet.{bare_key}
use Rattle.edf_pick.specs.private.Ready.{all_held}
use Rattle.edf_pick.proofs.Stays.{is_mark, view_at, count_less, is_off, gone_view}
use Rattle.edf_pick.proofs.running.RunningSet.off.Goals as goal
use Rattle.edf_pick.proofs.running.RunningSet.off.Goals.{After-self}

mark : (c : After-self) → bit_at c.self.inside.marks c.args.cpu ≡ 1
mark c =
    let s = c.self.inside in
    let inv = c.self.invariant in
    let cpu = c.args.cpu in
    is_mark (bit_at s.marks cpu) (get_or s.keys cpu bare_key) (bit_at-lt s.marks cpu)
    (ap (λ (o : Option Candidate). is_some o) (sym (view_at s.marks s.cpus cpu s.keys inv.full inv.few inv.within) ∙ ap (λ (stays : List (Option Candidate)). get_or stays cpu None) c.self.view_is) ∙ c.requires)

within : (c : After-self) → c.args.cpu < 64
within c = let inv = c.self.invariant in let h = inv.within c.args.cpu (mark c) in omega (arith, h, inv.few)

pub without-self-inside-requires : goal.without-self-inside-requires
without-self-inside-requires c = within c

pub overflow_sub-self : goal.overflow_sub-self
overflow_sub-self c =
    let inv = c.self.invariant in
    let less = count_less c.args.self.now c.args.cpu c.requires in
    let many = inv.many ∙ ap (λ (stays : List (Option Candidate)). length (all_held stays)) c.self.view_is in
    omega (arith, less, many)

pub with-self-inside-requires : goal.with-self-inside-requires
with-self-inside-requires c = let h = within (goal.at.with-self-inside-requires c).After-self in omega (arith, h)

pub offset_bounds-self-inside-cpu : goal.offset_bounds-self-inside-cpu
offset_bounds-self-inside-cpu c = let h = within (goal.at.offset_bounds-self-inside-cpu c).After-self in omega (arith, h)

pub bounds-self-inside-cpu : goal.bounds-self-inside-cpu
bounds-self-inside-cpu c = within (goal.at.bounds-self-inside-cpu c).After-self

pub invariant_of-self : goal.invariant_of-self
invariant_of-self c =
    let k = (goal.at.invariant_of-self c).After-self in
    let s = c.self.inside in
    let inv = c.self.invariant in
    let w = c.without-self-inside in
    let v = c.with-self-inside in
    let less = count_less c.args.self.now c.args.cpu c.requires in
    let many = inv.many ∙ ap (λ (stays : List (Option Candidate)). length (all_held stays)) c.self.view_is in
    is_off s.cpus s.busy (s.busy - 1) s.marks w.result s.unknown v.result c.args.cpu s.keys s.most s.top inv (mark k) w.ensures.bare w.ensures.others v.ensures.marked v.ensures.others (omega (arith, less, many))

pub returns : goal.returns
returns c =
    let k = (goal.at.returns c).After-self in
    let s = c.self.inside in
    let w = c.without-self-inside in
    gone_view s.cpus s.busy s.marks w.result s.unknown c.args.cpu s.keys s.most s.top c.self.invariant (mark k) w.ensures.bare w.ensures.others
    ∙ ap (λ (stays : List (Option Candidate)). set stays c.args.cpu None) c.self.view_is
