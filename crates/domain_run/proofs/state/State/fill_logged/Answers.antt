use Rattle.std.proofs.Common.{◌≡◌, ℕ, zero, suc, ◌+◌, ◌-◌, ◌<◌, ◌≤◌, List, [], ◌∷◌, ◌++◌, length, refl, sym, ap, subst, ◌∙◌, arith}
use Rattle.std.proofs.lemmas.List.{length-append}
use Rattle.domain_run.specs.declared.happened.Happened.{Happened}
use Rattle.domain_run.specs.Domain.{Domain}
use Rattle.domain_run.specs.Happened.{logged_by_ticks}
use Rattle.domain_run.specs.Keys.{AreKept}
use Rattle.domain_run.specs.Log.{LogView, if_wanted, HasLogged}
use Rattle.domain_run.specs.Switch.{Switch}
use Rattle.domain_run.specs.Tick.{ticks}
use Rattle.domain_run.proofs.KeptKeys.{kept_itself, kept_more}
use Rattle.domain_run.proofs.Coming.{ticks_then}
use Rattle.domain_run.proofs.LogTicks.{time_is, logged_then, room_if_empty}
use Rattle.domain_run.proofs.Logging.{logs_none, logs_more}
use Rattle.domain_run.proofs.state.State.fill_logged.Goals as goal

-- what is left goes down, and what was made up
made_more : (n left made : ℕ) → left ≤ n → made ≤ left → n - left + made ≡ n - (left - made)
made_more n left made fits within = omega (arith, fits, within)

-- if nothing waits there is room, and then a tick is made
some_wait : (ss : List Switch) (hs : List Happened) (made room : ℕ) → made ≡ 0 → (length hs ≡ 0 → 2496 ≤ room) → (ss ≡ [] → 2496 ≤ room → 0 < made) → 0 < length ss + length hs
some_wait (s ∷ ss) hs made room none at some = omega arith
some_wait [] (h ∷ hs) made room none at some = omega arith
some_wait [] [] made room none at some = absurd (omega (arith, none, some refl (at refl)))

logs_then : (m k n : ℕ) (d e : Domain) (a b c : LogView) → e ≡ ticks m d → m + k ≡ n → HasLogged a (logged_by_ticks m d) b → HasLogged b (logged_by_ticks k e) c → HasLogged a (logged_by_ticks n d) c
logs_then m k n d e a b c is sum one two =
    subst (λ (hs : List Happened). HasLogged a hs c) (ap (λ (x : Domain). logged_by_ticks m d ++ logged_by_ticks k x) is ∙ logged_then m k d ∙ ap (λ j. logged_by_ticks j d) sum)
    (logs_more (logged_by_ticks m d) (logged_by_ticks k e) a b c one two)

pub events-init : goal.events-init
events-init c =
    let none : 0 ≡ c.args.n - c.args.n = omega arith in
    record {
      state = ap (λ k. ticks k c.args.self.now) none;
      most = omega arith;
      logged = subst (λ k. HasLogged c.args.log.now (logged_by_ticks k c.args.self.now) c.args.log.now) none (logs_none c.args.log.now);
      keys = kept_itself c.args.self.now.tasks;
    }

pub leap_logged_in_room-made-requires-clause-early : goal.leap_logged_in_room-made-requires-clause-early
leap_logged_in_room-made-requires-clause-early c =
    let inv = c.events.invariant in
    let time = ap (λ (d : Domain). d.time) inv.state ∙ time_is (c.args.n - c.events.left) c.args.self.now in
    omega (arith, time, inv.most, c.requires.early)

pub events-preserved : goal.events-preserved
events-preserved c =
    let start = c.args.self.now in
    let inv = c.events.invariant in
    let leap = c.leap_logged_in_room-made in
    let sum = made_more c.args.n c.events.left leap.result inv.most leap.ensures.most in
    record {
      state = leap.ensures.ticks ∙ ap (ticks leap.result) inv.state ∙ ticks_then (c.args.n - c.events.left) leap.result start ∙ ap (λ k. ticks k start) sum;
      most = omega (arith, inv.most);
      logged = logs_then (c.args.n - c.events.left) leap.result (c.args.n - (c.events.left - leap.result)) start c.events.self c.args.log.now c.events.log leap.new.log inv.state sum inv.logged leap.ensures.logged;
      keys = kept_more start.tasks c.events.self.tasks leap.new.self.tasks inv.keys leap.ensures.keys;
    }

-- a log has no less than before
no_less : (d : Domain) (a b : LogView) (k : ℕ) → HasLogged a (logged_by_ticks k d) b → length a.happened ≤ length b.happened
no_less d a b k logged = omega (arith, ap (λ (hs : List Happened). length hs) logged.happened, length-append a.happened (if_wanted a (logged_by_ticks k d)))

some_there : (d e : Domain) (a b : LogView) → e ≡ d → length a.happened ≤ length b.happened → 0 < length d.switches + length a.happened → 0 < length e.switches + length b.happened
some_there d e a b is le some = omega (arith, ap (λ (x : Domain). length x.switches) is, le, some)

pub returns-then-made-eq0 : goal.returns-then-made-eq0
returns-then-made-eq0 c =
    let start = c.args.self.now in
    let inv = c.events.invariant in
    let leap = c.leap_logged_in_room-made in
    let none : leap.result ≡ 0 = c.if-made-eq0.true in
    let same : leap.new.self ≡ c.events.self = leap.ensures.ticks ∙ ap (λ k. ticks k c.events.self) none in
    let sum : c.args.n - c.events.left + leap.result ≡ c.args.n - c.events.left = omega (arith, none) in
    let logged = logs_then (c.args.n - c.events.left) leap.result (c.args.n - c.events.left) start c.events.self c.args.log.now c.events.log leap.new.log inv.state sum inv.logged leap.ensures.logged in
    let few : length c.events.log.happened ≤ length leap.new.log.happened = no_less c.events.self c.events.log leap.new.log leap.result leap.ensures.logged in
    record {
      made = same ∙ inv.state;
      most = inv.most;
      full = λ more. some_there c.events.self leap.new.self c.events.log leap.new.log same few
          (some_wait c.events.self.switches c.events.log.happened leap.result c.events.log.room none (λ empty. room_if_empty 2496 (logged_by_ticks (c.args.n - c.events.left) start) c.args.log.now c.events.log c.requires.room inv.logged empty) leap.ensures.some);
      logged = logged;
      keys = kept_more start.tasks c.events.self.tasks leap.new.self.tasks inv.keys leap.ensures.keys;
    }

pub returns : goal.returns
returns c =
    let start = c.args.self.now in
    let inv = c.events.invariant in
    let none : c.args.n - c.events.left ≡ c.args.n - 0 = omega (arith, c.events-test.false) in
    record {
      made = inv.state ∙ ap (λ k. ticks k start) none;
      most = omega arith;
      full = λ more. absurd (omega (arith, more));
      logged = subst (λ k. HasLogged c.args.log.now (logged_by_ticks k start) c.events.log) none inv.logged;
      keys = inv.keys;
    }
