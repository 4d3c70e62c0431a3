use Rattle.std.proofs.Common.{◌≤◌, ◌+◌, ◌∙◌, [], ap, arith}
use Rattle.domain_run.specs.Domain.{Domain}
use Rattle.domain_run.specs.Happened.{logged_by_ticks}
use Rattle.run_figures.specs.Accounting.{with_piece}
use Rattle.streamed_run.proofs.Again.{piece_here, trail_passed}
use Rattle.streamed_run.proofs.Pieces.{seen, logged_alone}
use Rattle.streamed_run.proofs.repeating.stream_piece.Goals as goal

pub stream-requires : goal.stream-requires
stream-requires c =
    let e = c.args.state.now in
    let m = c.in-Ok.made in
    let made = c.next_piece.new in
    let logged = logged_alone (logged_by_ticks m e) c.args.log.now made.log c.requires.wanted c.requires.empty c.in-Ok.ensures.logged in
    let early : e.time + m ≤ c.args.accounting.now.time = omega (arith, c.requires.early, c.in-Ok.ensures.most, c.up_to_look.ensures.most) in
    record {
      next = piece_here m e made.state c.args.accounting.now made.log.happened c.now.ensures.domain (seen made.state c.now-2.ensures.domain) c.requires.up_to c.requires.forgotten early c.requires.end c.in-Ok.ensures.ok logged.1;
    }

pub returns-clause-knows : goal.returns-clause-knows
returns-clause-knows c =
    let e = c.args.state.now in
    let m = c.in-Ok.made in
    let made = c.next_piece.new in
    let logged = logged_alone (logged_by_ticks m e) c.args.log.now made.log c.requires.wanted c.requires.empty c.in-Ok.ensures.logged in
    let ok = c.in-Ok.ensures.ok in
    trail_passed c.args.trail.now c.pass.new.trail m e c.stream.new.state c.args.accounting.now c.stream.new.accounting c.now.ensures.domain c.requires.knows
    c.pass.ensures.counts c.pass.ensures.since c.pass.ensures.sight
    (c.stream.ensures.state ∙ ap (λ (x : Domain). record x { switches = [] }) ok)
    (c.stream.ensures.streamed ∙ (λ i. with_piece c.args.accounting.now (logged.1 i) (ok i).switches))
