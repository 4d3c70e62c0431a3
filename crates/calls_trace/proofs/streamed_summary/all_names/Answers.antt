use Rattle.std.proofs.Common.{map, sym, ap, subst, ◌∙◌, arith}
use Rattle.std.proofs.lemmas.List.{length_push, take_all}
use Rattle.calls_text.specs.SectionView.{SectionView}
use Rattle.calls_text.specs.Histories.{IsLegal}
use Rattle.switch_text.specs.Names.{name_of_task}
use Rattle.calls_trace.specs.DomainEvents.{names_in}
use Rattle.calls_trace.proofs.Texts.{views_more}
use Rattle.calls_trace.proofs.streamed_summary.all_names.Goals as goal

pub names_of-requires : goal.names_of-requires
names_of-requires c =
    subst (λ (s : SectionView). IsLegal s.cpus s.limit s.entries) (sym c.history-item.is) (c.requires c.loop-history.history-index c.history-item.result c.loop-history-test.true)

pub loop-history-preserved : goal.loop-history-preserved
loop-history-preserved c =
    let i = c.loop-history.invariant in
    let was = c.loop-history.all.items in
    let one = c.in_ok-names_of.field-0 in
    rw c.push_reserved.ensures.items (record {
      names = views_more name_of_task names_in was one c.args.histories.now c.loop-history.history-index c.history-item.result c.loop-history-test.true c.history-item.is c.in_ok-names_of.ensures i.names;
      count = omega (arith, i.count, length_push was one);
      room = omega (arith, i.room, c.push_reserved.ensures.capacity);
    })

pub returns : goal.returns
returns c = c.loop-history.invariant.names ∙ ap (map names_in) (take_all c.loop-history.history-index c.args.histories.now c.loop-history-test.false)
