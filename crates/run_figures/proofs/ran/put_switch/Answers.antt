use Rattle.std.proofs.Common.{◌-◌, length, map, get_or, ap, ◌∙◌}
use Rattle.std.specs.List.{range_with_len}
use Rattle.std.proofs.Math.ListN.{set}
use Rattle.run_figures.specs.declared.ran.Cpu.{Cpu}
use Rattle.run_figures.specs.private.Running.{with_switch, with_switch_on}
use Rattle.run_figures.proofs.Turning.{turned_place, cpus_apart, cpu_at}
use Rattle.run_figures.proofs.After.{stay_keyed}
use Rattle.run_figures.proofs.ran.put_switch.Goals as goal

pub take_rest-requires : goal.take_rest-requires
take_rest-requires c =
    let s = c.args.switch.now in
    record {
      keyed = stay_keyed s.next s.cpu c.saturating_sub-rest.result c.args.tables.now.tasks.items c.put_stay.new.table.items c.args.places.now c.put_stay.ensures.stay c.requires.keyed;
    }

pub returns-clause-cpus : goal.returns-clause-cpus
returns-clause-cpus c =
    let items = c.args.tables.now.cpus.items in
    let s = c.args.switch.now in
    ap (λ n. set items n c.add_switch.new.cpu) c.cpu-cpu.ensures
    ∙ ap (λ (x : Cpu). set items s.cpu x) c.add_switch.ensures
    ∙ turned_place (λ (x : Cpu). x.cpu) s.cpu (with_switch s c.saturating_sub-rest.result) items (range_with_len 0 (length items)) s.cpu c.index_mut.result.now c.requires.cpu (cpus_apart (length items)) (cpu_at (length items) s.cpu c.requires.inside) (c.index_mut.ensures.value ∙ ap (λ n. get_or items n c.index_mut.result.now) c.cpu-cpu.ensures)
    ∙ ap (λ u. map (with_switch_on s u) items) (c.saturating_sub-rest.ensures ∙ ap (λ t. c.args.end - t) c.time.ensures)
