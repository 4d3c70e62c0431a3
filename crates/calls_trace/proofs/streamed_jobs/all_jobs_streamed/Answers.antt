use Rattle.std.proofs.Common.{◌<◌, List, length, get_or, map, sym, ap, subst, ◌∙◌, arith}
use Rattle.std.proofs.Math.ListN.{set}
use Rattle.std.proofs.lemmas.List.{length_push, take_all, set-get_or}
use Rattle.domain_run.specs.Passing.{without_switches}
use Rattle.calls_text.specs.SectionView.{SectionView}
use Rattle.calls_text.specs.Histories.{IsLegal}
use Rattle.run_figures.specs.Accounting.{AccountingView}
use Rattle.calls_trace.specs.DomainEvents.{domain_of, jobs_view}
use Rattle.calls_trace.specs.Streamed.{section_streamed}
use Rattle.calls_trace.specs.private.Summed.{named_as}
use Rattle.calls_trace.proofs.Texts.{views_more}
use Rattle.calls_trace.proofs.streamed_jobs.all_jobs_streamed.Goals as goal

pub jobs_streamed-requires-clause-legal : goal.jobs_streamed-requires-clause-legal
jobs_streamed-requires-clause-legal c =
    let h = c.index-histories-place.result in
    subst (λ (s : SectionView). IsLegal s.cpus s.limit s.entries) (sym c.index-histories-place.is) (c.requires.legal c.loop-place.place h c.loop-place-test.true)

pub jobs_streamed-requires-clause-state : goal.jobs_streamed-requires-clause-state
jobs_streamed-requires-clause-state c =
    ap without_switches c.index-states-place.is
    ∙ c.requires.runs c.loop-place.place c.index-histories-place.result c.index-states-place.result c.loop-place-test.true
    ∙ ap (λ (s : SectionView). without_switches (domain_of s)) (sym c.index-histories-place.is)

pub jobs_streamed-requires-clause-streamed : goal.jobs_streamed-requires-clause-streamed
jobs_streamed-requires-clause-streamed c =
    ap (λ (hs : List AccountingView). get_or hs c.loop-place.place c.index-streamed-place.result) c.loop-place.invariant.same
    ∙ c.requires.streamed c.loop-place.place c.index-histories-place.result c.index-streamed-place.result c.loop-place-test.true
    ∙ ap section_streamed (sym c.index-histories-place.is)

pub loop-place-preserved : goal.loop-place-preserved
loop-place-preserved c =
    let i = c.loop-place.invariant in
    let was = c.loop-place.all.items in
    let one = c.in_ok-one.one in
    let inside : c.loop-place.place < length c.args.histories.now = c.loop-place-test.true in
    rw c.push_reserved.ensures.items (record {
      views = views_more named_as jobs_view was one c.args.histories.now c.loop-place.place c.index-histories-place.result inside c.index-histories-place.is c.in_ok-one.ensures.jobs i.views;
      count = omega (arith, i.count, length_push was one);
      room = omega (arith, i.room, c.push_reserved.ensures.capacity);
      same = ap (λ (a : AccountingView). set c.loop-place.streamed c.loop-place.place a) c.in_ok-one.ensures.same ∙ set-get_or c.loop-place.streamed c.loop-place.place c.index-streamed-place.result ∙ i.same;
    })

pub returns : goal.returns
returns c = c.loop-place.invariant.views ∙ ap (map jobs_view) (take_all c.loop-place.place c.args.histories.now c.loop-place-test.false)
