use Rattle.std.proofs.Common.{◌≡◌, ◌<◌, length, refl, rules, subst, sym, tests}
use Rattle.counted_io.specs.Sides.{side}
use Rattle.compare_report.specs.private.Met.{IsTextFault}
use Rattle.compare_report.proofs.Answering.{fault_told, no_switch}
use Rattle.compare_report.proofs.comparing.read_text.Goals as goal

pub read_switches-requires : goal.read_switches-requires
read_switches-requires g c = c.requires

pub returns-then-is_empty : goal.returns-then-is_empty
returns-then-is_empty g c =
    let none : length c.in-Ok.steps.items ≡ 0 = search (tests, rules) in
    record {
      read = tt;
      small = tt;
      grows = c.in-Ok.ensures.grows;
      fine = tt;
      fault = (refl, no_switch (side g.R.Read.remaining c.args.reader.now c.read_switches.new.reader) c.read_switches.new.names c.in-Ok.steps.items none c.in-Ok.ensures.read c.in-Ok.ensures.faults);
    }

pub returns-else-is_empty : goal.returns-else-is_empty
returns-else-is_empty g c =
    let some : 0 < length c.in-Ok.steps.items = search (tests, rules) in
    record {
      read = record { read = c.in-Ok.ensures.read; named = c.in-Ok.ensures.named; called = c.in-Ok.ensures.called; some = some };
      small = c.in-Ok.ensures.small;
      grows = c.in-Ok.ensures.grows;
      fine = c.in-Ok.ensures.faults;
      fault = tt;
    }

pub returns-in-Err : goal.returns-in-Err
returns-in-Err g c =
    let s = side g.R.Read.remaining c.args.reader.now c.read_switches.new.reader in
    record {
      read = tt;
      small = tt;
      grows = c.in-Err.ensures.grows;
      fine = tt;
      fault = subst (IsTextFault c.args.input s) (sym c.fault_of.ensures) (fault_told c.args.input s c.in-Err.fault c.in-Err.ensures.fault c.in-Err.ensures.faults);
    }
