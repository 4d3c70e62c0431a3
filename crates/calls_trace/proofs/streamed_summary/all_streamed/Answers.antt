use Rattle.std.proofs.Common.{◌<◌, length, map, sym, ap, subst, ◌∙◌, arith}
use Rattle.std.proofs.lemmas.List.{length_push, take_all}
use Rattle.domain_run.specs.Passing.{without_switches}
use Rattle.calls_text.specs.SectionView.{SectionView}
use Rattle.calls_text.specs.Histories.{IsLegal}
use Rattle.switch_text.specs.Names.{name_of_task}
use Rattle.calls_trace.specs.DomainEvents.{domain_of, names_in, summary_view}
use Rattle.calls_trace.specs.Streamed.{section_streamed}
use Rattle.calls_trace.specs.private.Counting.{counted_as}
use Rattle.calls_trace.proofs.Texts.{views_more}
use Rattle.calls_trace.proofs.Figured.{one_of_all}
use Rattle.calls_trace.proofs.streamed_summary.all_streamed.Goals as goal

pub count_streamed-requires-clause-names : goal.count_streamed-requires-clause-names
count_streamed-requires-clause-names c =
    let inside : c.loop-place.place < length c.args.histories.now = c.loop-place-test.true in
    one_of_all name_of_task names_in c.args.names.now c.args.histories.now c.loop-place.place c.index-names-place.result c.index-histories-place.result c.requires.names inside c.index-names-place.is c.index-histories-place.is

pub loop-place-preserved : goal.loop-place-preserved
loop-place-preserved c =
    let i = c.loop-place.invariant in
    let was = c.loop-place.all.items in
    let one = c.in_ok-one.one in
    let inside : c.loop-place.place < length c.args.histories.now = c.loop-place-test.true in
    rw c.push_reserved.ensures.items (record {
      views = views_more counted_as summary_view was one c.args.histories.now c.loop-place.place c.index-histories-place.result inside c.index-histories-place.is c.in_ok-one.ensures i.views;
      count = omega (arith, i.count, length_push was one);
      room = omega (arith, i.room, c.push_reserved.ensures.capacity);
    })

pub count_streamed-requires-clause-legal : goal.count_streamed-requires-clause-legal
count_streamed-requires-clause-legal c =
    let h = c.index-histories-place.result in
    subst (λ (s : SectionView). IsLegal s.cpus s.limit s.entries) (sym c.index-histories-place.is) (c.requires.legal c.loop-place.place h c.loop-place-test.true)

pub count_streamed-requires-clause-state : goal.count_streamed-requires-clause-state
count_streamed-requires-clause-state c =
    ap without_switches c.index-states-place.is
    ∙ c.requires.runs c.loop-place.place c.index-histories-place.result c.index-states-place.result c.loop-place-test.true
    ∙ ap (λ (s : SectionView). without_switches (domain_of s)) (sym c.index-histories-place.is)

pub count_streamed-requires-clause-streamed : goal.count_streamed-requires-clause-streamed
count_streamed-requires-clause-streamed c =
    c.index-streamed-place.is
    ∙ c.requires.streamed c.loop-place.place c.index-histories-place.result c.index-streamed-place.result c.loop-place-test.true
    ∙ ap section_streamed (sym c.index-histories-place.is)

pub returns : goal.returns
returns c = c.loop-place.invariant.views ∙ ap (map summary_view) (take_all c.loop-place.place c.args.histories.now c.loop-place-test.false)
