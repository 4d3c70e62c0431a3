use Rattle.std.proofs.Common.{◌<◌, ◌∙◌, ◌++◌, ◌∷◌, ℕ, [], Bool, cond, Some, set, ap, subst, sym}
use Rattle.edf_pick.proofs.Chosen.{home_within}
use Rattle.edf_pick.proofs.choosing.choose.Goals as goal

pub is_at_home-requires : goal.is_at_home-requires
is_at_home-requires c = tt

pub stay-requires-clause-within : goal.stay-requires-clause-within
stay-requires-clause-within c = subst (λ (n : ℕ). c.args.c.now.home < n) (sym c.requires.len) (home_within c.args.places.now c.args.c.now (sym c.is_at_home.ensures ∙ c.if-is_at_home.true))

pub stay-requires-clause-bare : goal.stay-requires-clause-bare
stay-requires-clause-bare c = c.requires.bare (sym c.is_at_home.ensures ∙ c.if-is_at_home.true)

pub push-requires : goal.push-requires
push-requires c = c.requires.few

pub returns-then-is_at_home-clause-running : goal.returns-then-is_at_home-clause-running
returns-then-is_at_home-clause-running c =
    let one = c.args.c.now in
    let stays = c.args.running.now in
    c.stay.ensures ∙ sym (ap (λ (b : Bool). cond b (set stays one.home (Some one)) stays) (sym c.is_at_home.ensures ∙ c.if-is_at_home.true))

pub returns-then-is_at_home-clause-movers : goal.returns-then-is_at_home-clause-movers
returns-then-is_at_home-clause-movers c =
    let one = c.args.c.now in
    let movers = c.args.movers.now in
    sym (ap (λ (b : Bool). cond b movers (movers ++ one ∷ [])) (sym c.is_at_home.ensures ∙ c.if-is_at_home.true))

pub returns-else-is_at_home-clause-running : goal.returns-else-is_at_home-clause-running
returns-else-is_at_home-clause-running c =
    let one = c.args.c.now in
    let stays = c.args.running.now in
    sym (ap (λ (b : Bool). cond b (set stays one.home (Some one)) stays) (sym c.is_at_home.ensures ∙ c.if-is_at_home.false))

pub returns-else-is_at_home-clause-movers : goal.returns-else-is_at_home-clause-movers
returns-else-is_at_home-clause-movers c =
    let one = c.args.c.now in
    let movers = c.args.movers.now in
    c.push.ensures ∙ sym (ap (λ (b : Bool). cond b movers (movers ++ one ∷ [])) (sym c.is_at_home.ensures ∙ c.if-is_at_home.false))
