use Rattle.std.proofs.Common.{◌≡◌, ◌∙◌, inl, inr, List, Option, None, eqb, eqb-true, get_or, ap, sym, arith}
use Rattle.std.specs.Int.{bit_at}
use Rattle.std.proofs.lemmas.Bool.{both_ways, cases_eq}
use Rattle.std.proofs.lemmas.Nat.Bits.{bit_at-lt}
use Rattle.std.proofs.Common.{eq-eqb}
use Rattle.edf_pick.specs.declared.candidate.Candidate.{Candidate}
use Rattle.edf_pick.specs.private.RunningSet.{bare_key}
use Rattle.edf_pick.proofs.Stays.{view_at, stay_marked, stay_bare}
use Rattle.edf_pick.proofs.running.RunningSet.at.Goals as goal
use Rattle.edf_pick.proofs.running.RunningSet.at.Goals.{else-cpu-self-via-then-cpu-self+else-has, else-cpu-self-via-else-cpu-self}

pub returns-then-has : goal.returns-then-has
returns-then-has c =
    let s = c.self.inside in
    let inv = c.self.invariant in
    let cpu = c.args.cpu in
    let mark : bit_at s.marks cpu ≡ 1 = eqb-true (bit_at s.marks cpu) 1 (sym c.has.ensures ∙ c.if-has.true) in
    sym (ap (λ (stays : List (Option Candidate)). get_or stays cpu None) (sym c.self.view_is) ∙ view_at s.marks s.cpus cpu s.keys inv.full inv.few inv.within ∙ stay_marked (bit_at s.marks cpu) (get_or s.keys cpu bare_key) mark)

pub returns : goal.returns
returns c =
    let s = c.self.inside in
    let inv = c.self.invariant in
    let cpu = c.args.cpu in
    let few = bit_at-lt s.marks cpu in
    let bare : bit_at s.marks cpu ≡ 0 = elim (cases_eq (bit_at s.marks cpu) 1) [
      | inl mark ↦ elim c.else-cpu-self.branch [
        | else-cpu-self-via-then-cpu-self+else-has w ↦ absurd (both_ways (eqb (bit_at s.marks cpu) 1) (sym w.has.ensures ∙ w.if-has.false) (eq-eqb (bit_at s.marks cpu) 1 mark))
        | else-cpu-self-via-else-cpu-self w ↦ let h = inv.within cpu mark in absurd (omega (arith, h))
      ]
      | inr other ↦ omega (arith, other, few)
    ] in
    sym (ap (λ (stays : List (Option Candidate)). get_or stays cpu None) (sym c.self.view_is) ∙ view_at s.marks s.cpus cpu s.keys inv.full inv.few inv.within ∙ stay_bare (bit_at s.marks cpu) (get_or s.keys cpu bare_key) bare)
