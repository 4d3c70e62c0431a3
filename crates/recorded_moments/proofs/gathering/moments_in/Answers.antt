use Rattle.std.proofs.Common.{◌+◌, ◌≡◌, ◌∙◌, sym, ap, arith, take, drop, length, List, ℕ, subst, map}
use Rattle.std.proofs.lemmas.List.{length-drop}
use Rattle.recorded_text.specs.Text.{split_lines}
use Rattle.recorded_text.proofs.CallerLemmas.{first_line, only_line, rest_is}
use Rattle.recorded_moments.specs.Moments.{watched_view}
use Rattle.recorded_moments.specs.private.Lines.{IsGatheredSoFar}
use Rattle.recorded_moments.proofs.LineSteps.{line_taken, line_bad, last_taken}
use Rattle.recorded_moments.proofs.gathering.moments_in.Goals as goal

pub returns-in-Err-Bad-clause-fault : goal.returns-in-Err-Bad-clause-fault
returns-in-Err-Bad-clause-fault c =
    line_bad c.args.wanted.now (map watched_view c.args.tasks.now) c.args.text.now c.loop-end.rest.now _ _ c.loop-end.line c.loop-end.moments.items (first_line c.loop-end.rest.now c.in-Some.end c.in-Some.ensures) (rw c.in-Err-Bad.field-0-is at c.in-Err-Bad.ensures.bad) c.loop-end.invariant.found

pub loop-end-preserved : goal.loop-end-preserved
loop-end-preserved c =
    let rest = c.loop-end.rest.now in
    let i = c.in-Some.end in
    record {
      found = rw (rest_is (i + 1) rest) (line_taken c.args.wanted.now (map watched_view c.args.tasks.now) c.args.text.now rest (take i rest) (drop (i + 1) rest) c.loop-end.line c.loop-end.moments.items c.take_line.new.moments.items (first_line rest i c.in-Some.ensures) c.in-Ok.ensures.good c.in-Ok.ensures.added c.loop-end.invariant.found);
      few = rw (rest_is (i + 1) rest) (omega (arith, c.loop-end.invariant.few, length-drop (i + 1) rest, c.in-Some.ensures.0.high));
    }

pub returns-in-Ok-take_line-clause-gathered : goal.returns-in-Ok-take_line-clause-gathered
returns-in-Ok-take_line-clause-gathered c =
    last_taken c.args.wanted.now (map watched_view c.args.tasks.now) c.args.text.now c.loop-end.rest.now c.loop-end.line c.loop-end.moments.items c.take_line-2.new.moments.items (only_line c.loop-end.rest.now c.memchr.result c.memchr.ensures c.in_default.not-Some) c.in-Ok-take_line.ensures.good c.in-Ok-take_line.ensures.added c.loop-end.invariant.found

pub returns-in-Err-Bad-take_line-clause-fault : goal.returns-in-Err-Bad-take_line-clause-fault
returns-in-Err-Bad-take_line-clause-fault c =
    line_bad c.args.wanted.now (map watched_view c.args.tasks.now) c.args.text.now c.loop-end.rest.now _ _ c.loop-end.line c.loop-end.moments.items (only_line c.loop-end.rest.now c.memchr.result c.memchr.ensures c.in_default.not-Some) (rw c.in-Err-Bad-take_line.field-0-is at c.in-Err-Bad-take_line.ensures.bad) c.loop-end.invariant.found
