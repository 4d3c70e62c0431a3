use Rattle.std.proofs.Common.{◌≡◌, ◌∙◌, ◌≤◌, ℕ, Option, None, length, get_or, sym, ap, inl, inr, arith}
use Rattle.std.proofs.lemmas.Bool.{cases_lt}
use Rattle.std.proofs.lemmas.List.{get_or_past}
use Rattle.edf_pick.specs.Places.{Places, kept_if_chosen}
use Rattle.edf_pick.proofs.Occupants.{kept_all}
use Rattle.edf_pick.proofs.reference.keep_all.Goals as goal

pub returns : goal.returns
returns c =
    let old = c.args.placement.now in
    let kept : Option ℕ → Option ℕ = kept_if_chosen (length old) c.args.ready.now in
    let inv = c.loop-cpu.invariant in
    let len = ap (λ (ps : Places). length ps) c.occupants-cpu-end.ensures.occupants in
    let past : (k : ℕ) → c.loop-cpu.cpu ≤ k → get_or old k None ≡ None = λ k above. get_or_past old k None (omega (arith, c.loop-cpu-test.false, len, above)) in
    kept_all kept old c.loop-cpu.placement inv.len (λ k. elim (cases_lt k c.loop-cpu.cpu) [
      | inl below ↦ inv.done k below
      | inr above ↦ inv.ahead k above ∙ past k above ∙ sym (ap kept (past k above))
    ])
