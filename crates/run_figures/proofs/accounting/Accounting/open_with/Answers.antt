use Rattle.std.proofs.Common.{map, sym, ap, ◌∙◌}
use Rattle.domain_run.specs.Later.{later_happened, later_switch}
use Rattle.run_figures.specs.declared.run.Admitted.{Admitted}
use Rattle.run_figures.specs.private.Logging.{nothing_logged}
use Rattle.run_figures.specs.private.Running.{not_run}
use Rattle.run_figures.proofs.Passing.{map-map}
use Rattle.run_figures.proofs.Streaming.{nothing_kept, nothing_of_run, none_counted}
use Rattle.run_figures.proofs.Closing.{none_kept}
use Rattle.run_figures.proofs.accounting.Accounting.open_with.Goals as goal

pub invariant_of-result : goal.invariant_of-result
invariant_of-result c =
    let tasks = c.args.tasks.now in (
      nothing_kept _ _ _ _ (c.new.ensures.none later_happened) (c.new-2.ensures.none later_switch)
          (c.in_ok-logged.ensures ∙ sym (map-map nothing_logged (λ (t : Admitted). t.number) tasks) ∙ ap (map nothing_logged) (sym c.in_ok-places.ensures))
          (c.in_ok-ran.ensures.tasks ∙ sym (map-map not_run (λ (t : Admitted). t.number) tasks) ∙ ap (map not_run) (sym c.in_ok-places.ensures))
          c.in_ok-ran.ensures.cpus,
      nothing_of_run _ (c.new.ensures.none later_happened) (c.new-2.ensures.none later_switch) c.requires.early c.requires.cpus,
      record { logged_room = sym c.capacity.ensures; tasks_room = sym c.capacity-2.ensures; cpus_room = sym c.capacity-3.ensures },
      none_counted _ c.new.ensures.count c.new-2.ensures.count (c.new.ensures.none later_happened) (c.new-2.ensures.none later_switch),
      none_kept tasks _ _ c.args.lines c.in_ok-places.ensures (c.new.ensures.none later_happened) c.requires.lines,
    )
