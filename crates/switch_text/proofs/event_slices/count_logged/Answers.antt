use Rattle.std.proofs.Common.{◌≡◌, ◌+◌, ◌≤◌, length, take, drop, get_or, sym, ◌∙◌, arith}
use Rattle.std.proofs.lemmas.List.{drop_all, get_or_default}
use Rattle.domain_run.specs.declared.happened.What.TheVariants.{JobEnds}
use Rattle.domain_run.specs.declared.happened.Happened.{Happened}
use Rattle.switch_text.proofs.EventSplitting.{IsLoggedLate, logged_counted, logged_counted_from, others_unlogged, firsts_logged, none_after}
use Rattle.switch_text.proofs.event_slices.count_logged.Goals as goal

pub returns-then-not-is_logged_before-clause-front : goal.returns-then-not-is_logged_before-clause-front
returns-then-not-is_logged_before-clause-front c =
    let hs = c.args.happened.now in
    let cut = c.args.cut in
    let n = c.count.count in
    let first : Happened = record { time = 0; what = JobEnds; number = 0; cpu = 0 } in
    let h = get_or hs n first in
    let at : get_or hs n h ≡ h = get_or_default hs n h first c.count-test.true in
    let late : IsLoggedLate cut h = sym c.is_logged_before.ensures ∙ c.if-not-is_logged_before.true in
    logged_counted cut hs n (firsts_logged cut hs n c.count.invariant.inside c.count.invariant.early) (others_unlogged cut hs n h c.requires.rising c.requires.lines c.count-test.true at late)

pub returns-then-not-is_logged_before-clause-rest : goal.returns-then-not-is_logged_before-clause-rest
returns-then-not-is_logged_before-clause-rest c =
    let hs = c.args.happened.now in
    let cut = c.args.cut in
    let n = c.count.count in
    let first : Happened = record { time = 0; what = JobEnds; number = 0; cpu = 0 } in
    let h = get_or hs n first in
    let at : get_or hs n h ≡ h = get_or_default hs n h first c.count-test.true in
    let late : IsLoggedLate cut h = sym c.is_logged_before.ensures ∙ c.if-not-is_logged_before.true in
    logged_counted_from cut hs n (firsts_logged cut hs n c.count.invariant.inside c.count.invariant.early) (others_unlogged cut hs n h c.requires.rising c.requires.lines c.count-test.true at late)

pub returns-clause-front : goal.returns-clause-front
returns-clause-front c =
    let hs = c.args.happened.now in
    let n = c.count.count in
    let all : length hs ≤ n = omega (arith, c.count-test.false) in
    logged_counted c.args.cut hs n (firsts_logged c.args.cut hs n c.count.invariant.inside c.count.invariant.early) (none_after c.args.cut hs n all (drop_all n hs all))

pub returns-clause-rest : goal.returns-clause-rest
returns-clause-rest c =
    let hs = c.args.happened.now in
    let n = c.count.count in
    let all : length hs ≤ n = omega (arith, c.count-test.false) in
    logged_counted_from c.args.cut hs n (firsts_logged c.args.cut hs n c.count.invariant.inside c.count.invariant.early) (none_after c.args.cut hs n all (drop_all n hs all))
