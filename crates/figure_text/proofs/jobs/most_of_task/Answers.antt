use Rattle.std.proofs.Common.{◌≡◌, ℕ, List, ◌+◌, ◌<◌, ◌≤◌, ◌^◌, length, ap, ◌∙◌, arith, min}
use Rattle.switch_text.specs.Names.{name_of_task}
use Rattle.figure_text.proofs.Lengths.{lines_short, task_most, usual_most}
use Rattle.figure_text.proofs.jobs.most_of_task.Goals as goal

pub returns-clause-most : goal.returns-clause-most
returns-clause-most c = λ small.
    let names = name_of_task c.args.names.now in
    let task = c.args.task.now in
    let name : c.name_of-name.result.now ≡ names task.number = c.name_of-name.ensures ∙ ap names c.number.ensures in
    let word : c.number.result < 2 ^ 32 = omega arith in
    let number : task.number < 2 ^ 32 = omega (arith, c.number.ensures, word) in
    let many : c.count.result < 2 ^ 64 = omega arith in
    let few : 0 + length task.jobs ≤ 2 ^ 64 = omega (arith, c.count.ensures.count, many) in
    let lines = lines_short (names task.number) task.number task.jobs 0 number few c.count.ensures.wide in
    let line : c.saturating_add.result ≡ _ = c.saturating_add.ensures ∙ ap (λ (xs : List ℕ). min (256 + length xs) 18446744073709551615) name in
    let most = task_most c.count.result c.saturating_add.result c.saturating_mul.result (length task.jobs) (length (names task.number)) c.count.ensures.count line c.saturating_mul.ensures small in
    omega (arith, lines, most)

pub returns-clause-usual : goal.returns-clause-usual
returns-clause-usual c = λ short.
    let names = name_of_task c.args.names.now in
    let task = c.args.task.now in
    let name : c.name_of-name.result.now ≡ names task.number = c.name_of-name.ensures ∙ ap names c.number.ensures in
    let line = c.saturating_add.ensures ∙ ap (λ (xs : List ℕ). min (256 + length xs) 18446744073709551615) name in
    usual_most c.count.result c.saturating_add.result c.saturating_mul.result (length task.jobs) (length (names task.number)) c.count.ensures.count line c.saturating_mul.ensures short
