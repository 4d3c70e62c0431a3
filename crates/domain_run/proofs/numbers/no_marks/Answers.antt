use Rattle.std.proofs.Common.{◌≡◌, ℕ, false, replicate, ap, ◌∙◌, arith}
use Rattle.std.proofs.lemmas.Grind.{common_steps}
use Rattle.domain_run.proofs.numbers.no_marks.Goals as goal

pub returns-in_err-marks-clause-marks : goal.returns-in_err-marks-clause-marks
returns-in_err-marks-clause-marks c = grind (arith, common_steps)

pub returns-in_err-marks-clause-len : goal.returns-in_err-marks-clause-len
returns-in_err-marks-clause-len c = grind (arith, common_steps)

pub returns-in_err-marks-clause-room : goal.returns-in_err-marks-clause-room
returns-in_err-marks-clause-room c = grind (arith, common_steps)

pub loop-init : goal.loop-init
loop-init c = grind (arith, common_steps)

pub loop-preserved : goal.loop-preserved
loop-preserved c = grind (arith, common_steps)

pub returns-clause-marks : goal.returns-clause-marks
returns-clause-marks c =
    let all : c.loop.counter ≡ c.args.count = omega arith in
    c.loop.invariant.marks ∙ ap (λ (n : ℕ). replicate n false) all

pub returns-clause-len : goal.returns-clause-len
returns-clause-len c = grind (arith, common_steps)

pub returns-clause-room : goal.returns-clause-room
returns-clause-room c = grind (arith, common_steps)
