use Rattle.std.proofs.Common.{◌≡◌, ℕ, ◌+◌, ◌-◌, ◌≤◌, ap, ◌∙◌, arith}
use Rattle.domain_run.specs.Domain.{Domain}
use Rattle.domain_run.specs.Tick.{ticks}
use Rattle.domain_run.proofs.CallerLemmas.{ticks_time, ticks_then}
use Rattle.call_book.proofs.book.domain.ending.ticking.fill_unlogged.Goals as goal

-- what is left goes down, and what was made goes up
made_more : (n left after : ℕ) → left ≤ n → after ≤ left → n - left + (left - after) ≡ n - after
made_more n left after fits within = omega (arith, fits, within)

state_on : (n left after : ℕ) (start d e f : Domain) → d ≡ ticks (n - left) start → e ≡ ticks (left - after) d → f ≡ e → left ≤ n → after ≤ left → f ≡ ticks (n - after) start
state_on n left after start d e f was made same fits within =
    same ∙ made ∙ ap (ticks (left - after)) was ∙ ticks_then (n - left) (left - after) start ∙ ap (λ (k : ℕ). ticks k start) (made_more n left after fits within)

pub fill-left-requires : goal.fill-left-requires
fill-left-requires c =
    let inv = c.pieces.invariant in
    let start = c.args.logged_run.now.domain in
    let time = ap (λ (d : Domain). d.time) inv.state ∙ ticks_time (c.args.n - c.pieces.left) start in
    omega (arith, time, inv.most, c.requires)

pub returns-then-not-is_empty-clause-made : goal.returns-then-not-is_empty-clause-made
returns-then-not-is_empty-clause-made c =
    let inv = c.pieces.invariant in
    let made = c.fill-left in
    state_on c.args.n c.pieces.left made.result c.args.logged_run.now.domain c.pieces.logged_run.domain made.new.self.domain c.forget_logged-in-pieces.new.logged_run.domain
    inv.state made.ensures.made c.forget_logged-in-pieces.ensures.domain inv.most made.ensures.most

pub pieces-preserved : goal.pieces-preserved
pieces-preserved c =
    let inv = c.pieces.invariant in
    let made = c.fill-left in
    record {
      state = state_on c.args.n c.pieces.left made.result c.args.logged_run.now.domain c.pieces.logged_run.domain made.new.self.domain c.forget_logged-in-pieces.new.logged_run.domain
          inv.state made.ensures.made c.forget_logged-in-pieces.ensures.domain inv.most made.ensures.most;
      most = omega (arith, inv.most, made.ensures.most);
      logged = c.forget_logged-in-pieces.ensures.logged;
    }
