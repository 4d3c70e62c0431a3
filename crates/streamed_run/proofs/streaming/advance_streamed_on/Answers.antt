use Rattle.std.proofs.Common.{◌≡◌, ◌∙◌, ◌≤◌, ◌+◌, List, [], sym, ap, subst, arith}
use Rattle.domain_run.specs.Domain.{Domain}
use Rattle.domain_run.specs.Happened.{logged_by_ticks}
use Rattle.domain_run.specs.Keys.{AreKept}
use Rattle.domain_run.specs.declared.happened.Happened.{Happened}
use Rattle.domain_run.proofs.CallerLemmas.{kept_itself, kept_more, ticks_time}
use Rattle.run_figures.specs.Accounting.{AccountingView, IsNextPiece}
use Rattle.streamed_run.proofs.Pieces.{first_streamed, next_streamed, next_piece, logged_alone, streamed_up_to, still_up_to}
use Rattle.streamed_run.proofs.streaming.advance_streamed_on.Goals as goal

-- what is asked of a piece, said of equal lists
next_as : (a : AccountingView) (hs gs : List Happened) (ss : _) → hs ≡ gs → IsNextPiece a gs ss → IsNextPiece a hs ss
next_as a hs gs ss same is = subst (λ (xs : List Happened). IsNextPiece a xs ss) (sym same) is

pub stream-requires : goal.stream-requires
stream-requires g c = record { next = c.requires.up_to.next }

pub pieces-init : goal.pieces-init
pieces-init g c =
    let d = c.args.state.now in
    record {
      streamed = first_streamed d c.stream.new.state (g.H.Sink.streamed c.args.accounting.now) (g.H.Sink.streamed c.stream.new.accounting) c.args.log.now.happened c.stream.new.log c.now.ensures.domain c.requires.up_to c.stream.ensures.streamed c.stream.ensures.state
          (c.stream.ensures.wanted ∙ c.requires.wanted) c.stream.ensures.empty;
      kept = c.stream.ensures.kept;
      most = omega arith;
      keys = subst (λ (x : Domain). AreKept d.tasks x.tasks) (sym c.stream.ensures.state) (kept_itself d.tasks);
    }

pub next_piece-requires-clause-early : goal.next_piece-requires-clause-early
next_piece-requires-clause-early g c =
    let inv = c.pieces.invariant in
    let time = ap (λ (x : Domain). x.time) inv.streamed.state ∙ ticks_time c.pieces.ticks c.args.state.now in
    omega (arith, time, c.requires.early, c.requires.end, inv.most, c.pieces-test.true)

pub next_piece-requires-clause-forgotten : goal.next_piece-requires-clause-forgotten
next_piece-requires-clause-forgotten g c = ap (λ (x : Domain). x.switches) c.pieces.invariant.streamed.state

pub next_piece-requires-clause-empty : goal.next_piece-requires-clause-empty
next_piece-requires-clause-empty g c = c.pieces.invariant.streamed.empty

pub stream-requires-in-pieces : goal.stream-requires-in-pieces
stream-requires-in-pieces g c =
    let inv = c.pieces.invariant in
    let d = c.args.state.now in
    let k = c.pieces.ticks in
    let made = c.next_piece in
    let m = c.in-Ok.made in
    let e = c.pieces.state in
    let most : d.time + (k + m) ≤ (g.H.Sink.streamed c.args.accounting.now).time = omega (arith, c.requires.early, c.in-Ok.ensures.most, c.pieces-test.true) in
    let logged = logged_alone (logged_by_ticks m e) c.pieces.log made.new.log inv.streamed.wanted inv.streamed.empty c.in-Ok.ensures.logged in
    record {
      next = next_as (g.H.Sink.streamed c.pieces.accounting) made.new.log.happened (logged_by_ticks m e) made.new.state.switches logged.1
          (next_piece (g.H.Sink.streamed c.args.accounting.now) c.args.log.now.happened k m d e made.new.state (g.H.Sink.streamed c.pieces.accounting) c.pieces.log c.now.ensures.domain c.now-in-pieces.ensures.domain c.requires.up_to most c.requires.end inv.streamed c.in-Ok.ensures.ok);
    }

pub pieces-preserved : goal.pieces-preserved
pieces-preserved g c =
    let inv = c.pieces.invariant in
    let d = c.args.state.now in
    let k = c.pieces.ticks in
    let made = c.next_piece in
    let m = c.in-Ok.made in
    let e = c.pieces.state in
    let streamed = c.stream-in-pieces in
    let logged = logged_alone (logged_by_ticks m e) c.pieces.log made.new.log inv.streamed.wanted inv.streamed.empty c.in-Ok.ensures.logged in
    record {
      streamed = next_streamed (g.H.Sink.streamed c.args.accounting.now) c.args.log.now.happened k m d e made.new.state streamed.new.state (g.H.Sink.streamed c.pieces.accounting) (g.H.Sink.streamed streamed.new.accounting) made.new.log.happened c.pieces.log streamed.new.log c.now-in-pieces.ensures.domain inv.streamed c.in-Ok.ensures.ok logged.1 streamed.ensures.streamed streamed.ensures.state
          (streamed.ensures.wanted ∙ logged.0) streamed.ensures.empty;
      kept = streamed.ensures.kept ∙ inv.kept;
      most = omega (arith, c.in-Ok.ensures.most, c.pieces-test.true);
      keys = subst (λ (x : Domain). AreKept d.tasks x.tasks) (sym streamed.ensures.state) (kept_more d.tasks e.tasks made.new.state.tasks inv.keys c.in-Ok.ensures.keys);
    }

pub returns-after-pieces-clause-up_to : goal.returns-after-pieces-clause-up_to
returns-after-pieces-clause-up_to g c =
    let inv = c.pieces.invariant in
    let now : c.args.state.now.time + c.pieces.ticks ≤ (g.H.Sink.streamed c.args.accounting.now).time = omega (arith, c.requires.early, inv.most) in
    streamed_up_to (g.H.Sink.streamed c.args.accounting.now) c.args.log.now.happened c.pieces.ticks c.args.state.now c.pieces.state (g.H.Sink.streamed c.pieces.accounting) c.pieces.log c.now.ensures.domain c.requires.up_to now c.requires.end inv.streamed

-- where room is refused, nothing has changed since the piece before
pub returns-in_default-clause-wanted : goal.returns-in_default-clause-wanted
returns-in_default-clause-wanted g c =
    let inv = c.pieces.invariant in
    (logged_alone [] c.pieces.log c.next_piece.new.log inv.streamed.wanted inv.streamed.empty c.in_default.ensures.unlogged).0

pub returns-in_default-clause-empty : goal.returns-in_default-clause-empty
returns-in_default-clause-empty g c =
    let inv = c.pieces.invariant in
    (logged_alone [] c.pieces.log c.next_piece.new.log inv.streamed.wanted inv.streamed.empty c.in_default.ensures.unlogged).1

pub returns-in_default-clause-up_to : goal.returns-in_default-clause-up_to
returns-in_default-clause-up_to g c =
    let inv = c.pieces.invariant in
    let now : c.args.state.now.time + c.pieces.ticks ≤ (g.H.Sink.streamed c.args.accounting.now).time = omega (arith, c.requires.early, inv.most) in
    still_up_to c.pieces.state c.next_piece.new.state c.pieces.log.happened c.next_piece.new.log.happened (g.H.Sink.streamed c.pieces.accounting) c.in_default.ensures.err (returns-in_default-clause-empty g c ∙ sym inv.streamed.empty)
    (streamed_up_to (g.H.Sink.streamed c.args.accounting.now) c.args.log.now.happened c.pieces.ticks c.args.state.now c.pieces.state (g.H.Sink.streamed c.pieces.accounting) c.pieces.log c.now.ensures.domain c.requires.up_to now c.requires.end inv.streamed)
