use Rattle.std.proofs.Common.{ℕ, ◌<◌, ◌+◌, ◌∙◌, length, sym, ap, subst, arith}
use Rattle.std.specs.Prelude.{All}
use Rattle.std.proofs.lemmas.List.{length_push, take_all}
use Rattle.std.proofs.lemmas.List.Elements.{All-push}
use Rattle.calls_trace.proofs.Sketches.{places_next}
use Rattle.calls_trace.proofs.drawn_chart.places_up_to.Goals as goal

pub loop-place-preserved : goal.loop-place-preserved
loop-place-preserved c =
    let i = c.loop-place.invariant in
    let k = c.loop-place.place in
    let n = c.args.count in
    let was = c.loop-place.places.items in
    let is = c.push_reserved.ensures.items in
    let inside : k < n = c.loop-place-test.true in
    record {
      inside = subst (All (λ (j : ℕ). j < n)) (sym is) (All-push (λ (j : ℕ). j < n) was k i.inside inside);
      many = ap length is ∙ length_push was k ∙ ap (λ (m : ℕ). m + 1) i.many;
      all = λ rows long. places_next rows k was _ (omega (arith, inside, long)) (i.all rows long) is;
      most = omega (arith, inside);
      room = omega (arith, i.room, c.push_reserved.ensures.capacity);
    }

pub returns-clause-many : goal.returns-clause-many
returns-clause-many c =
    let i = c.loop-place.invariant in
    omega (arith, i.many, i.most, c.loop-place-test.false)

pub returns-clause-all : goal.returns-clause-all
returns-clause-all c = λ rows long.
    let i = c.loop-place.invariant in
    i.all rows long ∙ take_all c.loop-place.place rows (omega (arith, long, c.loop-place-test.false))
