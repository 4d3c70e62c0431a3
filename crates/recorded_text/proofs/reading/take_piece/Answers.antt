use Rattle.std.proofs.Common.{◌+◌, List, ℕ, ◌++◌, [], append-nil, map, take, drop, refl, sym, subst, arith}
use Rattle.std.proofs.lemmas.List.{length-drop}
use Rattle.recorded_text.specs.Steps.{step_view}
use Rattle.recorded_text.specs.Text.{switches_in_line}
use Rattle.recorded_text.specs.private.SoFar.{Lacks, IsReadSoFar}
use Rattle.recorded_text.proofs.Cutting.{rest_is}
use Rattle.recorded_text.proofs.Lining.{split_line, no_line_from, bad_line, next_line, Lacks-append}
use Rattle.recorded_text.proofs.Stepping.{grows_on, brings_more}
use Rattle.recorded_text.proofs.reading.take_piece.Goals as goal

pub returns-in-Err-Bad-clause-bad : goal.returns-in-Err-Bad-clause-bad
returns-in-Err-Bad-clause-bad c = λ whole after h.
    let i = c.in-Some.i in
    let left = c.loop-i.left.now in
    let found = map (step_view c.loop-i.names) c.loop-i.steps.items in
    let cut = split_line left i c.in-Some.ensures in
    let so = subst (λ (t : List ℕ). IsReadSoFar whole ((c.loop-i.rest.items ++ t) ++ after) c.loop-i.lines found) cut.0 (c.loop-i.invariant.so_far whole after h) in
    bad_line whole c.loop-i.rest.items (take i left) (drop (i + 1) left) after c.loop-i.lines found c.loop-i.invariant.lacks cut.1 so (rw c.in-Err-Bad.field-0-is at c.in-Err-Bad.ensures.bad)

pub loop-i-preserved : goal.loop-i-preserved
loop-i-preserved c =
    let i = c.in-Some.i in
    let left = c.loop-i.left.now in
    let found = map (step_view c.loop-i.names) c.loop-i.steps.items in
    let more = map (step_view c.end_line.new.names) c.end_line.new.steps.items in
    let cut = split_line left i c.in-Some.ensures in
    let e = c.in-Ok.ensures in
    record {
      so_far = λ whole after h.
          let so = subst (λ (t : List ℕ). IsReadSoFar whole ((c.loop-i.rest.items ++ t) ++ after) c.loop-i.lines found) cut.0 (c.loop-i.invariant.so_far whole after h) in
          let next = next_line whole c.loop-i.rest.items (take i left) (drop (i + 1) left) after c.loop-i.lines found more c.loop-i.invariant.lacks cut.1 so e.good e.shown in
          rw (e.empty, rest_is (i + 1) left) next;
      called = λ first h. brings_more first c.loop-i.names c.end_line.new.names found (switches_in_line (c.loop-i.rest.items ++ take i left)) more (c.loop-i.invariant.called first h) e.called e.shown;
      lacks = subst (Lacks 10) (sym e.empty) tt;
      named = e.named;
      few = rw (rest_is (i + 1) left) (omega (arith, c.loop-i.invariant.few, length-drop (i + 1) left, c.in-Some.ensures.0.high));
      grows = grows_on _ _ _ c.loop-i.invariant.grows c.end_line.ensures.grows;
    }

pub loop-i-init : goal.loop-i-init
loop-i-init c = record { so_far = λ whole after h. h; called = λ first h. h; lacks = c.requires.rest; named = c.requires.named; few = omega arith; grows = record { more = []; behind = sym (append-nil _) } }

pub end_line-requires : goal.end_line-requires
end_line-requires c = c.loop-i.invariant.named

pub returns-in-Err-Bad-clause-so_far : goal.returns-in-Err-Bad-clause-so_far
returns-in-Err-Bad-clause-so_far c = tt

pub returns-in-Err-Bad-clause-called : goal.returns-in-Err-Bad-clause-called
returns-in-Err-Bad-clause-called c = tt

pub returns-in-Err-Bad-clause-not_read : goal.returns-in-Err-Bad-clause-not_read
returns-in-Err-Bad-clause-not_read c = refl

pub returns-in-Err-Bad-clause-not_endless : goal.returns-in-Err-Bad-clause-not_endless
returns-in-Err-Bad-clause-not_endless c = refl

pub returns-in-Err-Bad-clause-rest : goal.returns-in-Err-Bad-clause-rest
returns-in-Err-Bad-clause-rest c = tt

pub returns-in-Err-Bad-clause-named : goal.returns-in-Err-Bad-clause-named
returns-in-Err-Bad-clause-named c = tt

pub returns-in-Err-Bad-clause-few : goal.returns-in-Err-Bad-clause-few
returns-in-Err-Bad-clause-few c = tt

pub returns-in-Err-Bad-clause-grows : goal.returns-in-Err-Bad-clause-grows
returns-in-Err-Bad-clause-grows c = grows_on _ _ _ c.loop-i.invariant.grows c.end_line.ensures.grows

pub returns-in-Err-Memory : goal.returns-in-Err-Memory
returns-in-Err-Memory c = record { so_far = tt; bad = λ whole after h. tt; called = tt; not_read = refl; not_endless = refl; rest = tt; named = tt; few = tt; grows = grows_on _ _ _ c.loop-i.invariant.grows c.end_line.ensures.grows }

pub returns-in-Ok-extend_from_slice : goal.returns-in-Ok-extend_from_slice
returns-in-Ok-extend_from_slice c =
    let was = c.loop-i.invariant in
    let items = c.in-Ok-extend_from_slice.ensures.items in
    let found = map (step_view c.loop-i.names) c.loop-i.steps.items in
    record {
      so_far = λ whole after h. subst (λ (t : List ℕ). IsReadSoFar whole (t ++ after) c.loop-i.lines found) (sym items) (was.so_far whole after h);
      bad = tt;
      called = was.called;
      not_read = tt;
      not_endless = tt;
      rest = subst (Lacks 10) (sym items) (Lacks-append 10 c.loop-i.rest.items c.loop-i.left.now was.lacks (no_line_from c.loop-i.left.now c.memchr.result c.memchr.ensures c.in_default.not-Some));
      named = was.named;
      few = omega (arith, was.few);
      grows = was.grows;
    }

pub returns-in-Err : goal.returns-in-Err
returns-in-Err c = record { so_far = tt; bad = λ whole after h. tt; called = tt; not_read = refl; not_endless = refl; rest = tt; named = tt; few = tt; grows = c.loop-i.invariant.grows }
