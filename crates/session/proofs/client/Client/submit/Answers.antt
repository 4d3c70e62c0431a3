use Rattle.std.proofs.Common.{◌≡◌, ℕ, Some, Err, ap, refl, sym, subst, length, ◌∙◌}
use Rattle.bw_gate.specs.Pieces.{GateId, cpus_of as gate_cpus}
use Rattle.call_book.specs.Book.{admission}
use Rattle.session.specs.declared.refusal.Refusal.TheVariants as refusals
use Rattle.session.specs.SessionId.{cpu_set_of}
use Rattle.session.specs.Asks.{ClientView, part_in, AsksGate, IsLastFound, IsOverCap, IsGateRefusal}
use Rattle.session.proofs.Asked.{refused_makes, last_seen, gate_over, gate_refused}
use Rattle.session.proofs.Sighted.{entry_seen}
use Rattle.session.proofs.client.Client.submit.Goals as goal

pub returns-in-Refused-clause-made : goal.returns-in-Refused-clause-made
returns-in-Refused-clause-made g c =
    refused_makes c.args.self.now _ c.args.place (admission c.args.prepared) (refusals.Busy c.used_of.result) (ap (λ (v : ClientView). v.number) c.keep.ensures) (ap (λ (v : ClientView). v.passes) c.keep.ensures)

pub returns-in-Refused-clause-verdict : goal.returns-in-Refused-clause-verdict
returns-in-Refused-clause-verdict g c =
    let cpus = length (cpu_set_of g.N.Names.id c.args.place) in
    let same : gate_cpus c.args.blank.gate c.args.place ≡ cpus =
    ap (λ (i : GateId). gate_cpus i c.args.place) c.requires.own ∙ c.shared.invariant.2.machines c.args.place c.requires.place in
    subst (λ (bw : ℕ). IsOverCap cpus bw c.used_of.result) c.bw.ensures.value
    (gate_over cpus c.args.blank c.args.place c.bw.result c.in-Refused.blank c.in-Refused.word c.used_of.result same c.in-Refused.ensures c.used_of.ensures)

pub returns-in-Refused-clause-last : goal.returns-in-Refused-clause-last
returns-in-Refused-clause-last g c =
    subst (λ (v : ClientView). IsLastFound v.hand (Err (refusals.Busy c.used_of.result))) (sym c.keep.ensures)
    (last_seen c.args.blank c.args.place c.bw.result c.in-Refused.blank c.in-Refused.word c.used_of.result c.in-Refused.ensures c.used_of.ensures, refl)

pub returns-in-Refused-clause-gate : goal.returns-in-Refused-clause-gate
returns-in-Refused-clause-gate g c =
    let bw = c.args.prepared.params.bw in
    subst (λ (v : ClientView). AsksGate g.N.Names.id.gate c.args.place bw (Some c.args.blank) (Err (refusals.Busy c.used_of.result)) v.hand) (sym c.keep.ensures)
    (subst (λ (n : ℕ). IsGateRefusal c.args.blank c.args.place n c.used_of.result c.in-Refused.blank) c.bw.ensures.value
    (gate_refused c.args.blank c.args.place c.bw.result c.in-Refused.blank c.in-Refused.word c.used_of.result c.in-Refused.ensures c.used_of.ensures))

pub returns-in-Taken-clause-seen : goal.returns-in-Taken-clause-seen
returns-in-Taken-clause-seen g c =
    entry_seen g.N.Names.id c.args.place (part_in c.args.self.now c.args.place) (admission c.args.prepared) c.enter_at.result c.enter_at.new.self.hand c.enter_at.ensures.3
