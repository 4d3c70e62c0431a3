use Rattle.std.proofs.Common.{◌≤◌, ◌*◌, inl, refl, ap, ◌∙◌, subst}
use Rattle.bw_gate.specs.Pieces.{GateId, cpus_of}
use Rattle.call_book.proofs.Limiting.{inside, set_answer, busy_answer}
use Rattle.call_book.proofs.book.domain.ask_limit.Goals as goal

pub limit-requires-clause-inside : goal.limit-requires-clause-inside
limit-requires-clause-inside g c = inside c.args.gate.now.terms.cpus c.args.domain c.args.state.now.cpus c.if-not-may_limit.ensures.domain.steady.cpus.0 c.requires.machine

pub returns-in-Set : goal.returns-in-Set
returns-in-Set g c =
    let machine = ap (λ (i : GateId). cpus_of i c.args.domain) c.requires.own ∙ c.requires.machine in
    inl (c.if-not-may_limit.ensures.room.0 refl, set_answer c.args.state.now.cpus c.args.domain c.args.limit c.args.blank c.in-Set.blank machine c.in-Set.ensures, tt)

pub returns-in-Refused : goal.returns-in-Refused
returns-in-Refused g c =
    let machine = ap (λ (i : GateId). cpus_of i c.args.domain) c.requires.own ∙ c.requires.machine in
    let answer = busy_answer c.args.state.now.cpus c.args.domain c.args.limit c.args.blank c.in-Refused.blank c.in-Refused.seen c.used_of.result machine c.in-Refused.ensures c.used_of.ensures in
    inl (c.if-not-may_limit.ensures.room.0 refl, answer.0, subst (λ (i : GateId). c.used_of.result ≤ cpus_of i c.args.domain * 1048576) c.requires.own answer.1)
