use Rattle.std.proofs.Common.{◌≡◌, ◌+◌, length, refl, ◌∙◌, subst, arith, All}
use Rattle.run_figures.specs.private.Logging.{IsLoggedWithin}
use Rattle.run_figures.proofs.Passing.{none_logged, one_logged, logged_keyed, logged_room}
use Rattle.run_figures.proofs.logging.log_all.Goals as goal

pub loop-entry-init : goal.loop-entry-init
loop-entry-init c = record { logged = none_logged c.args.end c.args.happened.now c.args.logged.now.items; same_room = refl }

pub say-requires-clause-keyed : goal.say-requires-clause-keyed
say-requires-clause-keyed c =
    logged_keyed c.args.end c.args.happened.now c.loop-entry.entry-index c.args.logged.now.items c.loop-entry.logged.items c.args.places.now c.loop-entry.invariant.logged c.requires.keyed

pub say-requires-clause-room : goal.say-requires-clause-room
say-requires-clause-room c =
    logged_room c.args.end c.args.happened.now c.loop-entry.entry-index c.args.logged.now.items c.loop-entry.logged.items c.loop-entry.invariant.logged c.loop-entry-test.true c.requires.room

pub loop-entry-preserved : goal.loop-entry-preserved
loop-entry-preserved c = record {
  same_room = c.say.ensures.same_room ∙ c.loop-entry.invariant.same_room;
  logged = one_logged c.args.end c.args.happened.now c.loop-entry.entry-index _ c.args.logged.now.items c.loop-entry.logged.items c.say.new.logged.items c.loop-entry-test.true c.loop-entry.invariant.logged c.say.ensures.logged c.say.ensures.within;
}

pub returns-clause-within : goal.returns-clause-within
returns-clause-within c n all =
    let at : c.loop-entry.entry-index ≡ length c.args.happened.now = omega arith in
    subst (λ k. All (IsLoggedWithin (n + k)) c.loop-entry.logged.items) at (c.loop-entry.invariant.logged.within n all)
