use Rattle.std.proofs.Common.{◌≡◌, ◌+◌, ◌*◌, ◌≤◌, ◌<◌, ◌^◌, List, [], ◌∷◌, ℕ, Option, None, Some, true, false, map, take, length, All, refl, inl, inr, sym, subst, ap, ◌∙◌, arith, rules, ◌++◌}
use Rattle.std.proofs.lemmas.Grind.{common_steps}
use Rattle.std.specs.Prelude.{IfSome, Err}
use Rattle.std.proofs.lemmas.List.{length-take, length-take-le}
use Rattle.std.proofs.lemmas.List.Elements.{All-weaker}
use Rattle.recorded_text.specs.Steps.{step_view, IsNamed}
use Rattle.recorded_text.specs.Text.{is_bad_line, switches_in_line}
use Rattle.recorded_text.proofs.Ending.{end_good, end_bad, piece_done, piece_bad}
use Rattle.recorded_text.proofs.Stepping.{grows_on, brings_more}
use Rattle.counted_io.specs.Sides.{inner_of}
use Rattle.counted_io.specs.declared.call.Call.{Call}
use Rattle.counted_io.specs.Calls.{Moves}
use Rattle.counted_io.proofs.CallerLemmas.{AreReads, read_on, read_to}
use Rattle.recorded_text.specs.declared.fault.RecordedFault.{RecordedFault}
use Rattle.recorded_text.specs.declared.fault.RecordedFault.TheVariants.{BadLine, Read, Endless, Memory}
use Rattle.recorded_text.specs.Text.{is_read}
use Rattle.recorded_text.specs.Reads.{MayBreakOff, AreReadsOf, is_endless}
use Rattle.recorded_text.proofs.reading.read_switches.Goals as goal

-- such a fault says nothing of the text
no_text : (text : Option (List ℕ)) → IfSome text (λ t. Unit {0})
no_text None = tt
no_text (Some t) = tt

-- the last read told the end, and broke the reads off
broken_at_end : (old now next : List Call) (one : Call) (n : ℕ) → AreReads old now n → next ≡ now ++ one ∷ [] → one.answer ≡ Some 0 → (calls : List Call) × (next ≡ old ++ calls) × MayBreakOff calls
broken_at_end old now next one n are more end = let p = read_to (Some 0) old now next one n are more end in (p.0, p.1, inl p.2)

-- a fault of the lines broke them off behind the last piece
broken_in_piece : (e : RecordedFault) (calls : List Call) → is_read e ≡ false → is_endless e ≡ false → All Moves calls → 0 < length calls → AreReadsOf {T = Unit} calls (Err e)
broken_in_piece (BadLine n) calls not_read not_endless moves some = inr (moves, some)
broken_in_piece Read calls not_read not_endless moves some = absurd cc
broken_in_piece Endless calls not_read not_endless moves some = absurd cc
broken_in_piece Memory calls not_read not_endless moves some = inr (moves, some)

pub returns-in-Ok-clause-read : goal.returns-in-Ok-clause-read
returns-in-Ok-clause-read g c =
    let found = map (step_view c.loop.names) c.loop.steps.items in
    let room : 0 < length c.read.new.buf = search rules in
    end_good _ (g.R.Read.remaining (inner_of c.loop.reader)) (g.R.Read.remaining (inner_of c.read.new.self)) (take c.in-Some-eq0.field-0 c.read.new.buf) c.loop.rest.items c.loop.lines found c.take_line.new.names c.take_line.new.steps.items
    c.loop.invariant.done c.in-Some-eq0.ensures.given (ap (λ (n : ℕ). take n c.read.new.buf) c.in-Some-eq0.field-0-test) (c.in-Some-eq0.ensures.end c.in-Some-eq0.field-0-test room) c.loop.invariant.lacks
    (subst (λ (t : List ℕ). is_bad_line t ≡ false) c.as_slice.ensures.value c.in-Ok.ensures.good)
    (subst (λ (t : List ℕ). map (step_view c.take_line.new.names) c.take_line.new.steps.items ≡ found ++ switches_in_line t) c.as_slice.ensures.value c.in-Ok.ensures.shown)

pub returns-in-Err-Bad-clause-fault : goal.returns-in-Err-Bad-clause-fault
returns-in-Err-Bad-clause-fault g c =
    let found = map (step_view c.loop.names) c.loop.steps.items in
    let room : 0 < length c.read.new.buf = search rules in
    let bad : is_bad_line c.as_slice.result.now ≡ true = rw c.in-Err-Bad.field-0-is at c.in-Err-Bad.ensures.bad in
    end_bad _ (g.R.Read.remaining (inner_of c.loop.reader)) (g.R.Read.remaining (inner_of c.read.new.self)) (take c.in-Some-eq0.field-0 c.read.new.buf) c.loop.rest.items c.loop.lines found
    c.loop.invariant.done c.in-Some-eq0.ensures.given (ap (λ (n : ℕ). take n c.read.new.buf) c.in-Some-eq0.field-0-test) (c.in-Some-eq0.ensures.end c.in-Some-eq0.field-0-test room) c.loop.invariant.lacks
    (subst (λ (t : List ℕ). is_bad_line t ≡ true) c.as_slice.ensures.value bad)

pub returns-in-Err-clause-fault : goal.returns-in-Err-clause-fault
returns-in-Err-clause-fault g c =
    piece_bad _ (g.R.Read.remaining (inner_of c.loop.reader)) (g.R.Read.remaining (inner_of c.read.new.self)) (take c.in-Some.n c.read.new.buf) c.loop.rest.items c.loop.lines (map (step_view c.loop.names) c.loop.steps.items) c.in-Err.fault
    c.loop.invariant.done c.in-Some.ensures.given c.in-Err.ensures.bad

few_more : (before after counter n : ℕ) (buf : List ℕ) → before ≤ counter * 65536 → length buf ≡ 65536 → after ≤ before + length (take n buf) → after ≤ (counter + 1) * 65536
few_more before after counter n buf few room more = grind (arith, common_steps)

few_ahead : (lines counter n : ℕ) (buf : List ℕ) → lines ≤ counter * 65536 → counter < 4294967296 → length buf ≡ 65536 → lines + length (take n buf) < 2 ^ 63
few_ahead lines counter n buf few turn room = omega (arith, length-take n buf)

pub loop-preserved : goal.loop-preserved
loop-preserved g c =
    let e = c.in-Ok-take_piece.ensures in
    record {
      done = piece_done _ (g.R.Read.remaining (inner_of c.loop.reader)) (g.R.Read.remaining (inner_of c.read.new.self)) (take c.in-Some.n c.read.new.buf) c.loop.rest.items c.take_piece.new.rest.items c.loop.lines c.take_piece.new.lines (map (step_view c.loop.names) c.loop.steps.items) (map (step_view c.take_piece.new.names) c.take_piece.new.steps.items)
          c.loop.invariant.done c.in-Some.ensures.given e.so_far;
      called = e.called c.args.names.now c.loop.invariant.called;
      lacks = e.rest;
      named = e.named;
      few = few_more c.loop.lines c.take_piece.new.lines c.loop.counter c.in-Some.n c.read.new.buf c.loop.invariant.few (search rules) e.few;
      room = search rules;
      faults = c.in-Some.ensures.faults ∙ c.loop.invariant.faults;
      grows = grows_on _ _ _ c.loop.invariant.grows c.take_piece.ensures.grows;
      asked = read_on _ _ _ _ _ c.loop.invariant.asked c.in-Some.ensures.asked (search rules);
      turns = omega (arith, c.loop-test.true);
    }

pub returns-in-Ok-clause-called : goal.returns-in-Ok-clause-called
returns-in-Ok-clause-called g c =
    let found = map (step_view c.loop.names) c.loop.steps.items in
    let all = map (step_view c.take_line.new.names) c.take_line.new.steps.items in
    brings_more _ c.loop.names c.take_line.new.names found (switches_in_line c.as_slice.result.now) all c.loop.invariant.called c.in-Ok.ensures.called c.in-Ok.ensures.shown

pub returns-in-Ok-clause-named : goal.returns-in-Ok-clause-named
returns-in-Ok-clause-named g c = c.in-Ok.ensures.named

pub returns-in-Ok-clause-small : goal.returns-in-Ok-clause-small
returns-in-Ok-clause-small g c = All-weaker (IsNamed c.take_line.new.names) (λ s. s.time < 2 ^ 61) (λ s named. named.1) c.take_line.new.steps.items c.in-Ok.ensures.named

pub returns-in-Ok-clause-faults : goal.returns-in-Ok-clause-faults
returns-in-Ok-clause-faults g c = c.in-Some-eq0.ensures.faults ∙ c.loop.invariant.faults

pub returns-in-Ok-clause-grows : goal.returns-in-Ok-clause-grows
returns-in-Ok-clause-grows g c = grows_on _ _ _ c.loop.invariant.grows c.take_line.ensures.grows

pub returns-in-Err-Bad-clause-faults : goal.returns-in-Err-Bad-clause-faults
returns-in-Err-Bad-clause-faults g c = c.in-Some-eq0.ensures.faults ∙ c.loop.invariant.faults

pub returns-in-Err-Bad-clause-grows : goal.returns-in-Err-Bad-clause-grows
returns-in-Err-Bad-clause-grows g c = grows_on _ _ _ c.loop.invariant.grows c.take_line.ensures.grows

pub returns-in-Err-clause-faults : goal.returns-in-Err-clause-faults
returns-in-Err-clause-faults g c = rw c.in-Err.ensures.not_read (c.in-Some.ensures.faults ∙ c.loop.invariant.faults)

pub returns-in-Ok-clause-asked : goal.returns-in-Ok-clause-asked
returns-in-Ok-clause-asked g c = read_to (Some 0) _ _ _ _ _ c.loop.invariant.asked c.in-Some-eq0.ensures.asked (ap Some c.in-Some-eq0.field-0-test)

pub returns-in-Err-Bad-clause-asked : goal.returns-in-Err-Bad-clause-asked
returns-in-Err-Bad-clause-asked g c = broken_at_end _ _ _ _ _ c.loop.invariant.asked c.in-Some-eq0.ensures.asked (ap Some c.in-Some-eq0.field-0-test)

pub returns-in-Err-clause-asked : goal.returns-in-Err-clause-asked
returns-in-Err-clause-asked g c =
    let r = read_on _ _ _ _ _ c.loop.invariant.asked c.in-Some.ensures.asked (search rules) in
    (r.calls, r.since, broken_in_piece c.in-Err.fault r.calls c.in-Err.ensures.not_read c.in-Err.ensures.not_endless r.moves (omega (arith, r.count)))

pub returns-in-Err-clause-grows : goal.returns-in-Err-clause-grows
returns-in-Err-clause-grows g c = grows_on _ _ _ c.loop.invariant.grows c.take_piece.ensures.grows

pub returns-in-None : goal.returns-in-None
returns-in-None g c = record { read = tt; named = tt; called = tt; small = tt; fault = no_text (g.R.Read.remaining (inner_of c.args.reader.now)); grows = c.loop.invariant.grows; faults = c.in-None.ensures.faults ∙ ap (λ n. n + 1) c.loop.invariant.faults; asked = read_to None _ _ _ _ _ c.loop.invariant.asked c.in-None.ensures.asked refl }

pub returns-in-Err-Memory : goal.returns-in-Err-Memory
returns-in-Err-Memory g c = record { read = tt; named = tt; called = tt; small = tt; fault = no_text (g.R.Read.remaining (inner_of c.args.reader.now)); grows = grows_on _ _ _ c.loop.invariant.grows c.take_line.ensures.grows; faults = c.in-Some-eq0.ensures.faults ∙ c.loop.invariant.faults; asked = broken_at_end _ _ _ _ _ c.loop.invariant.asked c.in-Some-eq0.ensures.asked (ap Some c.in-Some-eq0.field-0-test) }

pub returns : goal.returns
returns g c =
    let r = c.loop.invariant.asked in
    record { read = tt; named = tt; called = tt; small = tt; fault = no_text (g.R.Read.remaining (inner_of c.args.reader.now)); grows = c.loop.invariant.grows; faults = c.loop.invariant.faults; asked = (r.calls, r.since, (r.moves, omega (arith, r.count))) }

pub take_piece-requires-clause-few : goal.take_piece-requires-clause-few
take_piece-requires-clause-few g c = few_ahead c.loop.lines c.loop.counter c.in-Some.n c.read.new.buf c.loop.invariant.few (omega arith) (search rules)

pub slice_bounds-take_piece-end : goal.slice_bounds-take_piece-end
slice_bounds-take_piece-end g c = sym (length-take-le c.in-Some.n c.read.new.buf c.in-Some.ensures.count)

pub take_line-requires : goal.take_line-requires
take_line-requires g c = c.loop.invariant.named

pub returns-in-Ok-clause-fault : goal.returns-in-Ok-clause-fault
returns-in-Ok-clause-fault g c = tt

pub returns-in-Err-Bad-clause-read : goal.returns-in-Err-Bad-clause-read
returns-in-Err-Bad-clause-read g c = tt

pub returns-in-Err-Bad-clause-named : goal.returns-in-Err-Bad-clause-named
returns-in-Err-Bad-clause-named g c = tt

pub returns-in-Err-Bad-clause-called : goal.returns-in-Err-Bad-clause-called
returns-in-Err-Bad-clause-called g c = tt

pub returns-in-Err-Bad-clause-small : goal.returns-in-Err-Bad-clause-small
returns-in-Err-Bad-clause-small g c = tt

pub take_piece-requires-clause-named : goal.take_piece-requires-clause-named
take_piece-requires-clause-named g c = c.loop.invariant.named

pub take_piece-requires-clause-rest : goal.take_piece-requires-clause-rest
take_piece-requires-clause-rest g c = c.loop.invariant.lacks

pub returns-in-Err-clause-read : goal.returns-in-Err-clause-read
returns-in-Err-clause-read g c = tt

pub returns-in-Err-clause-named : goal.returns-in-Err-clause-named
returns-in-Err-clause-named g c = tt

pub returns-in-Err-clause-called : goal.returns-in-Err-clause-called
returns-in-Err-clause-called g c = tt

pub returns-in-Err-clause-small : goal.returns-in-Err-clause-small
returns-in-Err-clause-small g c = tt
