use Rattle.std.proofs.Common.{◌+◌, Some, None, refl, ap, inl, inr, rules, arith, ◌∙◌, ◌≡◌, ◌++◌, take, subst, sym}
use Rattle.std.proofs.lemmas.List.{length-take-le}
use Rattle.std.specs.Io.KnownBytes.{Consumes}
use Rattle.std.proofs.KnownBytes.{Consumes-trans, Consumes-kept}
use Rattle.counted_io.proofs.Known.{whole_from_end}
use Rattle.counted_io.proofs.Asked.{read_on, read_to}
use Rattle.counted_io.proofs.counted.Counted.read_all.Goals as goal

pub returns-in-Some-eq0-clause-all : goal.returns-in-Some-eq0-clause-all
returns-in-Some-eq0-clause-all g c =
    whole_from_end _ _ (g.R.Read.remaining c.read.new.self.port.inner) c.loop.bytes.items c.read.new.buf c.in-Some-eq0.field-0 c.loop.invariant.gone c.in-Some-eq0.ensures.given c.in-Some-eq0.field-0-test (search rules) c.in-Some-eq0.ensures.end

pub returns-then-is_err-clause-err : goal.returns-then-is_err-clause-err
returns-then-is_err-clause-err g c = (_, Consumes-trans _ _ _ _ _ c.loop.invariant.gone c.in-Some.ensures.given)

pub returns-in-None-clause-asked : goal.returns-in-None-clause-asked
returns-in-None-clause-asked g c =
    let p = read_to None _ _ _ _ _ c.loop.invariant.asked c.in-None.ensures.asked refl in
    (p.0, p.1, inl p.2)

pub returns-then-is_err-clause-asked : goal.returns-then-is_err-clause-asked
returns-then-is_err-clause-asked g c =
    let r = read_on _ _ _ _ _ c.loop.invariant.asked c.in-Some.ensures.asked (search rules) in
    (r.calls, r.since, (r.moves, omega (arith, r.count)))

pub loop-preserved : goal.loop-preserved
loop-preserved g c =
    let items : c.extend_from_slice.new.self.items ≡ c.loop.bytes.items ++ take c.in-Some.n c.read.new.buf = search (rules, c.extend_from_slice.ensures.items, c.if-is_err.ensures.value) in
    record {
      gone = subst (Consumes (g.R.Read.remaining c.args.self.now.port.inner) (g.R.Read.remaining c.read.new.self.port.inner)) (sym items) (Consumes-trans _ _ _ _ _ c.loop.invariant.gone c.in-Some.ensures.given);
      faults = c.in-Some.ensures.faults ∙ c.loop.invariant.faults;
      asked = read_on _ _ _ _ _ c.loop.invariant.asked c.in-Some.ensures.asked (search rules);
      few = omega (arith, c.loop-test.true);
    }

pub returns-in-None-clause-faults : goal.returns-in-None-clause-faults
returns-in-None-clause-faults g c = c.in-None.ensures.faults ∙ ap (λ n. n + 1) c.loop.invariant.faults

pub returns-in-Some-eq0-clause-faults : goal.returns-in-Some-eq0-clause-faults
returns-in-Some-eq0-clause-faults g c = c.in-Some-eq0.ensures.faults ∙ c.loop.invariant.faults

pub returns-then-is_err-clause-faults : goal.returns-then-is_err-clause-faults
returns-then-is_err-clause-faults g c = c.in-Some.ensures.faults ∙ c.loop.invariant.faults

pub returns-clause-faults : goal.returns-clause-faults
returns-clause-faults g c = ap (λ n. n + 1) c.loop.invariant.faults

pub returns-in-Some-eq0-clause-asked : goal.returns-in-Some-eq0-clause-asked
returns-in-Some-eq0-clause-asked g c = read_to (Some 0) _ _ _ _ _ c.loop.invariant.asked c.in-Some-eq0.ensures.asked (ap Some c.in-Some-eq0.field-0-test)

pub returns-clause-asked : goal.returns-clause-asked
returns-clause-asked g c =
    let r = c.loop.invariant.asked in
    (r.calls, r.since, inr (r.moves, omega (arith, r.count)))

pub returns-clause-err : goal.returns-clause-err
returns-clause-err g c = (c.loop.bytes.items, c.loop.invariant.gone)

pub slice_bounds-extend_from_slice-end : goal.slice_bounds-extend_from_slice-end
slice_bounds-extend_from_slice-end g c = sym (length-take-le c.in-Some.n c.read.new.buf c.in-Some.ensures.count)

pub returns-in-Some-eq0-clause-end : goal.returns-in-Some-eq0-clause-end
returns-in-Some-eq0-clause-end g c = c.in-Some-eq0.ensures.end c.in-Some-eq0.field-0-test (search rules)

pub returns-in-None-clause-err : goal.returns-in-None-clause-err
returns-in-None-clause-err g c = (c.loop.bytes.items, Consumes-kept _ _ _ _ c.loop.invariant.gone c.in-None.ensures.kept)
