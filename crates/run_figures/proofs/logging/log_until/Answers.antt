use Rattle.std.proofs.Common.{◌+◌, ap, ◌∙◌, refl, subst, sym, arith, All}
use Rattle.std.proofs.lemmas.List.{get_or_default}
use Rattle.domain_run.specs.declared.happened.Happened.{Happened}
use Rattle.run_figures.specs.private.Logging.{IsLoggedWithin}
use Rattle.run_figures.proofs.Passing.{none_logged, one_logged, logged_keyed, logged_room, one_passed, all_passed, blank}
use Rattle.run_figures.proofs.logging.log_until.Goals as goal

pub loop-entry-init : goal.loop-entry-init
loop-entry-init c = record {
  count = refl;
  logged = none_logged c.args.end c.args.happened.now c.args.logged.now.items;
  passed = λ k d l. absurd (omega (arith, l));
  same_room = refl;
}

pub say-requires-clause-keyed : goal.say-requires-clause-keyed
say-requires-clause-keyed c =
    logged_keyed c.args.end c.args.happened.now c.loop-entry.entry-index c.args.logged.now.items c.loop-entry.logged.items c.args.places.now c.loop-entry.invariant.logged c.requires.keyed

pub say-requires-clause-room : goal.say-requires-clause-room
say-requires-clause-room c =
    logged_room c.args.end c.args.happened.now c.loop-entry.entry-index c.args.logged.now.items c.loop-entry.logged.items c.loop-entry.invariant.logged c.loop-entry-test.true c.requires.room

pub loop-entry-preserved : goal.loop-entry-preserved
loop-entry-preserved c = record {
  count = omega arith;
  logged = one_logged c.args.end c.args.happened.now c.loop-entry.entry-index _ c.args.logged.now.items c.loop-entry.logged.items c.say.new.logged.items c.loop-entry-test.true c.loop-entry.invariant.logged c.say.ensures.logged c.say.ensures.within;
  same_room = c.say.ensures.same_room ∙ c.loop-entry.invariant.same_room;
  passed = one_passed c.args.happened.now c.loop-entry.entry-index _ c.args.time c.loop-entry-test.true c.loop-entry.invariant.passed c.if-entry-time.false;
}

pub returns-then-entry-time-clause-count : goal.returns-then-entry-time-clause-count
returns-then-entry-time-clause-count c =
    let hs = c.args.happened.now in
    let i = c.loop-entry.entry-index in
    let l = c.loop-entry-test.true in
    c.loop-entry.invariant.count
    ∙ all_passed hs i c.args.time (omega (arith, l)) c.loop-entry.invariant.passed
    (λ d m. omega (arith, c.if-entry-time.true, ap (λ (x : Happened). x.time) (get_or_default hs i d blank l)))

pub returns-then-entry-time-clause-within : goal.returns-then-entry-time-clause-within
returns-then-entry-time-clause-within c n all =
    subst (λ k. All (IsLoggedWithin (n + k)) c.loop-entry.logged.items) (sym c.loop-entry.invariant.count) (c.loop-entry.invariant.logged.within n all)

pub returns-clause-count : goal.returns-clause-count
returns-clause-count c =
    let end = c.loop-entry-test.false in
    c.loop-entry.invariant.count
    ∙ all_passed c.args.happened.now c.loop-entry.entry-index c.args.time (omega arith) c.loop-entry.invariant.passed
    (λ d m. absurd (omega (arith, end, m)))

pub returns-clause-within : goal.returns-clause-within
returns-clause-within c n all =
    subst (λ k. All (IsLoggedWithin (n + k)) c.loop-entry.logged.items) (sym c.loop-entry.invariant.count) (c.loop-entry.invariant.logged.within n all)
