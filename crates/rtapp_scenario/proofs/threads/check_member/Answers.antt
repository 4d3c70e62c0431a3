use Rattle.std.proofs.Common.{◌≡◌, ◌<◌, sym, true, count_by, arith}
use Rattle.std.proofs.lemmas.Grind.{common_steps}
use Rattle.rtapp_scenario.specs.Values.{member_of}
use Rattle.rtapp_scenario.specs.Keys.{is_event}
use Rattle.rtapp_scenario.specs.Tests.{is_phases}
use Rattle.rtapp_scenario.specs.FaultText.{ref_seen}
use Rattle.rtapp_scenario.proofs.Seen.{phases_refused, phases_tested, phases_added}
use Rattle.rtapp_scenario.proofs.threads.check_member.Goals as goal

pub returns-then-events-gt0-clause-fault : goal.returns-then-events-gt0-clause-fault
returns-then-events-gt0-clause-fault c = λ ms before.
    let p : is_phases (member_of c.args.member.now) ≡ true = cc in
    let some : 0 < count_by is_event ms = omega (arith, c.if-events-gt0.true, before.events) in
    rw c.as_str-then-events-gt0.ensures (sym (phases_refused (ref_seen c.args.first_ref) ms (member_of c.args.member.now) p some))

pub returns-in_err-check_phases-clause-fault : goal.returns-in_err-check_phases-clause-fault
returns-in_err-check_phases-clause-fault c = λ ms before.
    let p : is_phases (member_of c.args.member.now) ≡ true = cc in
    let none : count_by is_event ms ≡ 0 = omega (arith, c.if-events-gt0.false, before.events) in
    let is = phases_tested (ref_seen c.args.first_ref) ms (member_of c.args.member.now) p none in
    grind (arith, common_steps, is)

pub returns-then-is-clause-fault : goal.returns-then-is-clause-fault
returns-then-is-clause-fault c = λ ms before.
    let p : is_phases (member_of c.args.member.now) ≡ true = cc in
    let none : count_by is_event ms ≡ 0 = omega (arith, c.if-events-gt0.false, before.events) in
    let is = phases_tested (ref_seen c.args.first_ref) ms (member_of c.args.member.now) p none in
    grind (arith, common_steps, is)

pub returns-then-is-clause-after : goal.returns-then-is-clause-after
returns-then-is-clause-after c = λ ms before.
    let p : is_phases (member_of c.args.member.now) ≡ true = cc in
    phases_added ms (member_of c.args.member.now) c.args.before p before
