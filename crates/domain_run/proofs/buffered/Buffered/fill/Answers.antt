use Rattle.std.proofs.Common.{◌≡◌, ℕ, zero, suc, ◌+◌, ◌-◌, ◌<◌, ◌≤◌, List, [], ◌∷◌, length, refl, sym, ap, subst, ◌∙◌, arith}
use Rattle.domain_run.specs.Domain.{Domain}
use Rattle.domain_run.specs.Switch.{Switch}
use Rattle.domain_run.specs.Keys.{AreKept}
use Rattle.domain_run.specs.Tick.{ticks}
use Rattle.domain_run.proofs.CallerLemmas.{kept_itself, kept_more, ticks_time}
use Rattle.domain_run.proofs.Coming.{ticks_then, to_come_more, to_come_later}
use Rattle.domain_run.proofs.buffered.Buffered.fill.Goals as goal

-- what is left goes down, and what was made up
made_more : (n left made : ℕ) → left ≤ n → made ≤ left → n - left + made ≡ n - (left - made)
made_more n left made fits within = omega (arith, fits, within)

not_empty : (ss : List Switch) (made : ℕ) → made ≡ 0 → (ss ≡ [] → 0 < made) → 0 < length ss
not_empty [] made none some = absurd (omega (arith, none, some refl))
not_empty (s ∷ ss) made none some = omega arith

-- where ticks are left and none was made, switches wait
some_wait : (left made : ℕ) (d e : Domain) → e ≡ ticks made d → made ≡ 0 → (d.switches ≡ [] → 0 < made) → 0 < length e.switches
some_wait left made d e is none some =
    let same : e ≡ d = is ∙ ap (λ k. ticks k d) none in
    subst (λ (x : Domain). 0 < length x.switches) (sym same) (not_empty d.switches made none some)

pub events-init : goal.events-init
events-init c =
    let none : 0 ≡ c.args.n - c.args.n = omega arith in
    record {
      state = c.self.view_is ∙ ap (λ k. ticks k c.args.self.now) none;
      most = omega arith;
      keys = subst (λ (x : Domain). AreKept c.args.self.now.tasks x.tasks) (sym c.self.view_is) (kept_itself c.args.self.now.tasks);
    }

pub leap_in_room-made-requires-clause-early : goal.leap_in_room-made-requires-clause-early
leap_in_room-made-requires-clause-early c =
    let inv = c.events.invariant in
    let time = ap (λ (d : Domain). d.time) inv.state ∙ ticks_time (c.args.n - c.events.left) c.args.self.now in
    omega (arith, time, inv.most, c.requires)

pub events-preserved : goal.events-preserved
events-preserved c =
    let start = c.args.self.now in
    let now = c.events.self-inside.state in
    let inv = c.events.invariant in
    let leap = c.leap_in_room-made in
    record {
      state = leap.ensures.ticks ∙ ap (ticks leap.result) inv.state ∙ ticks_then (c.args.n - c.events.left) leap.result start
          ∙ ap (λ k. ticks k start) (made_more c.args.n c.events.left leap.result inv.most leap.ensures.most);
      most = omega (arith, inv.most);
      keys = kept_more start.tasks now.tasks leap.new.self.tasks inv.keys leap.ensures.keys;
    }

pub returns-then-made-eq0 : goal.returns-then-made-eq0
returns-then-made-eq0 c =
    let start = c.args.self.now in
    let now = c.events.self-inside.state in
    let inv = c.events.invariant in
    let leap = c.leap_in_room-made in
    let same : leap.new.self ≡ ticks (c.args.n - c.events.left) start = leap.ensures.ticks ∙ ap (λ k. ticks k now) c.if-made-eq0.true ∙ inv.state in
    record {
      made = same;
      most = inv.most;
      full = λ more. some_wait c.events.left leap.result now leap.new.self leap.ensures.ticks c.if-made-eq0.true leap.ensures.some;
      more = to_come_more c.args.n (c.args.n - c.events.left) c.events.left start leap.new.self same (omega (arith, inv.most));
      later = to_come_later c.events.left leap.new.self;
      keys = kept_more start.tasks now.tasks leap.new.self.tasks inv.keys leap.ensures.keys;
    }

pub returns : goal.returns
returns c =
    let start = c.args.self.now in
    let now = c.events.self-inside.state in
    let inv = c.events.invariant in
    let none : c.events.left ≡ 0 = omega (arith, c.events-test.false) in
    let same : now ≡ ticks (c.args.n - 0) start = inv.state ∙ ap (λ k. ticks (c.args.n - k) start) none in
    record {
      made = same;
      most = omega arith;
      full = λ more. absurd (omega (arith, more));
      more = to_come_more c.args.n (c.args.n - 0) 0 start now same (omega arith);
      later = to_come_later 0 now;
      keys = inv.keys;
    }
