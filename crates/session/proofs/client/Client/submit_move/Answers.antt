use Rattle.std.proofs.Common.{◌≡◌, ℕ, Some, inl, ap, sym, subst, length, ◌∙◌}
use Rattle.bw_gate.specs.Pieces.{GateId, cpus_of as gate_cpus}
use Rattle.call_book.specs.MoveAnswers.{moving_as}
use Rattle.session.specs.SessionId.{cpu_set_of}
use Rattle.session.specs.declared.refusal.Refusal.TheVariants as refusals
use Rattle.session.specs.Moves.{IsWhyUnmoved}
use Rattle.session.specs.Asks.{ClientView, IsOverCap, IsGateRefusal}
use Rattle.session.proofs.Asked.{gate_over, gate_refused}
use Rattle.session.proofs.client.Client.submit_move.Goals as goal

pub returns-in-Refused-clause-why : goal.returns-in-Refused-clause-why
returns-in-Refused-clause-why g c =
    let to = c.args.to in
    let cpus = length (cpu_set_of g.N.Names.id to) in
    let same : gate_cpus c.args.blank.gate to ≡ cpus =
    ap (λ (i : GateId). gate_cpus i to) c.requires.own ∙ c.shared.invariant.2.machines to c.requires.to in
    subst (λ (v : ClientView). IsWhyUnmoved g.N.Names.id c.args.self.now c.args.prepared.number c.args.from to (Some c.args.blank) v.hand (refusals.Busy c.used_of.result)) (sym c.keep.ensures)
    (inl (record {
      task = moving_as c.args.prepared;
      listed = c.requires.listed;
      over = subst (λ (bw : ℕ). IsOverCap cpus bw c.used_of.result) c.bw.ensures.value
          (gate_over cpus c.args.blank to c.bw.result c.in-Refused.blank c.in-Refused.word c.used_of.result same c.in-Refused.ensures c.used_of.ensures);
      refused = subst (λ (bw : ℕ). IsGateRefusal c.args.blank to bw c.used_of.result c.in-Refused.blank) c.bw.ensures.value
          (gate_refused c.args.blank to c.bw.result c.in-Refused.blank c.in-Refused.word c.used_of.result c.in-Refused.ensures c.used_of.ensures);
    }))
