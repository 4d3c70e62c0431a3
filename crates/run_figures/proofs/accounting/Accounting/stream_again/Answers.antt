use Rattle.std.proofs.Common.{◌≡◌, length, refl, sym, subst, ap, ◌∙◌}
use Rattle.domain_run.specs.Later.{later_happened, later_switch}
use Rattle.run_figures.specs.Accounting.{AccountingView, with_piece, IsNextPiece}
use Rattle.run_figures.specs.Again.{more_logged, more_switches, IsPeriodSince}
use Rattle.run_figures.specs.private.Past.{items_of}
use Rattle.run_figures.specs.private.Keeping.{accounting_view_of, IsAccountingKept, IsOfRun}
use Rattle.run_figures.proofs.PeriodAgain.{logged_room, switched_room, logged_then, switched_then, more_counted}
use Rattle.run_figures.proofs.Closing.{not_kept}
use Rattle.run_figures.proofs.Streaming.{of_run_still}
use Rattle.run_figures.proofs.accounting.Accounting.stream_again.Goals as goal

pub give_again-requires : goal.give_again-requires
give_again-requires c = record {
  room = logged_room c.args.micros c.args.periods c.self.inside.streamed.happened.count c.mark.inside.happened c.mark.inside.of.value c.args.mark.now c.args.self.now (sym c.mark.view_is) c.requires.period
      (c.self.invariant.3.happened ∙ ap (λ (x : AccountingView). length x.happened) c.self.view_is) c.mark.invariant.1.happened_count;
}

pub give_again-requires-2 : goal.give_again-requires-2
give_again-requires-2 c = record {
  room = switched_room c.args.micros c.args.periods c.self.inside.streamed.switches.count c.mark.inside.switches c.mark.inside.of.value c.args.mark.now c.args.self.now (sym c.mark.view_is) c.requires.period
      (c.self.invariant.3.switches ∙ ap (λ (x : AccountingView). length x.switches) c.self.view_is) c.mark.invariant.1.switches_count;
}

pub returns-clause-made : goal.returns-clause-made
returns-clause-made c made hs ss streamed =
    let v = accounting_view_of c.self.inside.streamed c.self.inside.places in
    let here : v ≡ c.args.self.now = c.self.view_is in
    let is : v ≡ with_piece c.args.mark.now hs ss = here ∙ streamed in
    let first = c.give_again.ensures.more later_happened ∙ logged_then c.args.micros c.args.periods c.mark.inside.happened c.mark.inside.of.value c.args.mark.now v hs ss (sym c.mark.view_is) c.mark.invariant.1.happened_count is in
    let second = c.give_again-2.ensures.more later_switch ∙ switched_then c.args.micros c.args.periods c.mark.inside.switches c.mark.inside.of.value c.args.mark.now v hs ss (sym c.mark.view_is) c.mark.invariant.1.switches_count is in
    (λ i. record v { happened = first i; switches = second i })
    ∙ ap (λ (x : AccountingView). with_piece x (more_logged c.args.micros c.args.periods hs) (more_switches c.args.micros c.args.periods ss)) here

pub invariant_of-self-2 : goal.invariant_of-self-2
invariant_of-self-2 c =
    let p = c.requires.period in
    let v = accounting_view_of c.self.inside.streamed c.self.inside.places in
    let here : v ≡ c.args.self.now = c.self.view_is in
    let is : v ≡ with_piece c.args.mark.now p.logged p.switches = here ∙ p.streamed in
    let first = c.give_again.ensures.more later_happened ∙ logged_then c.args.micros c.args.periods c.mark.inside.happened c.mark.inside.of.value c.args.mark.now v p.logged p.switches (sym c.mark.view_is) c.mark.invariant.1.happened_count is in
    let second = c.give_again-2.ensures.more later_switch ∙ switched_then c.args.micros c.args.periods c.mark.inside.switches c.mark.inside.of.value c.args.mark.now v p.logged p.switches (sym c.mark.view_is) c.mark.invariant.1.switches_count is in
    let all : record v { happened = items_of later_happened c.give_again.new.self.items; switches = items_of later_switch c.give_again-2.new.self.items } ≡ with_piece v (more_logged c.args.micros c.args.periods p.logged) (more_switches c.args.micros c.args.periods p.switches) =
    λ i. record v { happened = first i; switches = second i } in
    let period : IsPeriodSince c.args.micros c.args.periods c.args.mark.now v = subst (λ (x : AccountingView). IsPeriodSince c.args.micros c.args.periods c.args.mark.now x) (sym here) p in
    let run : IsOfRun (with_piece v (more_logged c.args.micros c.args.periods p.logged) (more_switches c.args.micros c.args.periods p.switches)) =
    of_run_still v (more_logged c.args.micros c.args.periods p.logged) (more_switches c.args.micros c.args.periods p.switches) c.self.invariant.1 (subst (λ (x : AccountingView). IsNextPiece x (more_logged c.args.micros c.args.periods p.logged) (more_switches c.args.micros c.args.periods p.switches)) (sym here) p.more) in (
      subst (λ (x : AccountingView). IsAccountingKept x c.count_again.new.logged.items c.count_again.new.ran.tasks.items c.count_again.new.ran.cpus.items) (sym all) (c.if-not-count_again.ensures.kept refl p.logged p.switches is),
      subst IsOfRun (sym all) run,
      record {
        logged_room = c.count_again.ensures.same_logged_room ∙ c.self.invariant.2.logged_room;
        tasks_room = c.count_again.ensures.same_tasks_room ∙ c.self.invariant.2.tasks_room;
        cpus_room = c.count_again.ensures.same_cpus_room ∙ c.self.invariant.2.cpus_room;
      },
      record {
        happened = more_counted later_happened c.args.micros c.args.periods c.self.inside.streamed.happened.count c.mark.inside.happened _ v.happened _ c.self.invariant.3.happened c.give_again.ensures.count (c.give_again.ensures.more later_happened);
        switches = more_counted later_switch c.args.micros c.args.periods c.self.inside.streamed.switches.count c.mark.inside.switches _ v.switches _ c.self.invariant.3.switches c.give_again-2.ensures.count (c.give_again-2.ensures.more later_switch);
      },
      not_kept (items_of later_happened c.give_again.new.self.items) c.self.inside.places c.self.inside.lines (sym c.if-is_some.ensures),
    )
