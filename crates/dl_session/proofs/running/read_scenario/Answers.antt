use Rattle.std.proofs.Common.{subst}
use Rattle.json_order.specs.Fault.{strict, Spells, IsJsonFault}
use Rattle.json_order.specs.Lent.{lent_json}
use Rattle.counted_io.specs.Sides.{side}
use Rattle.calls_trace.specs.Answer.{streams}
use Rattle.dl_session.proofs.Ran.{json_faulted, scenario_faulted}
use Rattle.dl_session.proofs.running.read_scenario.Goals as goal

pub returns-in-Err-clause-err : goal.returns-in-Err-clause-err
returns-in-Err-clause-err g c = λ w o unwritten writes.
    json_faulted (streams (side g.R.Read.remaining c.args.reader.now c.read_all.new.self) w) o c.in-Ok.text.items c.in-Err.fault c.json_fault.result
    (record { all = c.in-Ok.ensures.all }) (subst (λ t. IsJsonFault t c.in-Err.fault.kind c.in-Err.fault.at) c.deref.ensures.value c.in-Err.ensures.fault) unwritten c.in-Ok.ensures.faults writes c.json_fault.ensures

pub returns-clause-err : goal.returns-clause-err
returns-clause-err g c = λ w o unwritten writes.
    scenario_faulted (streams (side g.R.Read.remaining c.args.reader.now c.read_all.new.self) w) o (lent_json c.in-Ok-read_lent.tree) c.in-Err-parse_lent.fault c.scenario_fault.result
    (record { text = c.in-Ok.text.items; input = record { all = c.in-Ok.ensures.all }; spelled = subst (λ t. Spells strict t (lent_json c.in-Ok-read_lent.tree)) c.deref.ensures.value c.in-Ok-read_lent.ensures.found })
    c.in-Err-parse_lent.ensures.fault unwritten c.in-Ok.ensures.faults writes c.scenario_fault.ensures
