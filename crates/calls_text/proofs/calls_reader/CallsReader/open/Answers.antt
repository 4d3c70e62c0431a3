use Rattle.std.proofs.Common.{sym, refl, arith}
use Rattle.calls_text.proofs.Readers.{none_made}
use Rattle.calls_text.proofs.SectionSteps.{sections_start}
use Rattle.calls_text.proofs.Stops.{no_header, other_header, header_first}
use Rattle.calls_text.proofs.calls_reader.CallsReader.open.Goals as goal

pub returns-in_default-clause-fault : goal.returns-in_default-clause-fault
returns-in_default-clause-fault c = no_header c.args.text.now (sym c.in_default.ensures)

pub returns-in_default-header_of-clause-fault : goal.returns-in_default-header_of-clause-fault
returns-in_default-header_of-clause-fault c = other_header c.args.text.now c.in-Some.header.now c.in-Some.rest.now (sym c.in-Some.ensures) (sym c.in_default-header_of.ensures)

pub invariant_of-result : goal.invariant_of-result
invariant_of-result c = record { most = omega arith; few = omega arith; counted = omega arith; fewer = none_made }

pub returns-clause-following : goal.returns-clause-following
returns-clause-following c =
    let later = c.in-Some-header_of.later in
    record {
      body = c.in-Some.rest.now;
      header = header_first c.args.text.now c.in-Some.header.now c.in-Some.rest.now later (sym c.in-Some.ensures) (sym c.in-Some-header_of.ensures);
      so_far = sections_start later c.in-Some.rest.now;
      found = refl;
      few = omega arith;
      count = refl;
      lines = refl;
      full = refl;
    }
