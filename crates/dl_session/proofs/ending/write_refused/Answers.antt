use Rattle.std.proofs.Common.{rules, refl, ap, ◌∙◌, ◌++◌, take, ℕ}
use Rattle.std.specs.List.{flat_map}
use Rattle.std.proofs.lemmas.Grind.{put_two}
use Rattle.session.specs.declared.refusal.Refusal.{Refusal}
use Rattle.dl_session.specs.Ending.{refused_task_line}
use Rattle.dl_session.proofs.Endings.{task_lines_more}
use Rattle.dl_session.proofs.ending.write_refused.Goals as goal

pub loop-number-preserved : goal.loop-number-preserved
loop-number-preserved g c = λ plain.
    let tasks = c.args.refused.now in
    let i = c.loop-number.number-index in
    let item : ℕ × Refusal = c.loop-number-item.result in
    let this = ap (λ (t : ℕ × Refusal). flat_map refused_task_line (take i tasks) ++ refused_task_line t) c.loop-number-item.is in
    put_two _ _ _ _ _ _ _ (c.loop-number.invariant plain) (c.in_ok-writeln.ensures.writes (search rules) refl) (this ∙ task_lines_more tasks i item (search rules))
