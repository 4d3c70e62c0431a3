use Rattle.std.proofs.Common.{◌+◌, ◌≤◌, sym, ◌∙◌, length, ap, subst, arith}
use Rattle.std.specs.Prelude.{IfSome}
use Rattle.std.proofs.lemmas.List.{length-take-le}
use Rattle.switch_text.specs.Names.{name_of_task, HasName}
use Rattle.switch_text.proofs.Calling.{task_text-is}
use Rattle.switch_text.proofs.EventRoom.{HasName-in_front, logged_line_of-by_parts}
use Rattle.switch_text.proofs.logged_lines.logged_line.Goals as goal

pub title_piece-requires : goal.title_piece-requires
title_piece-requires c =
    let names = c.args.names.now in
    let h = c.args.happened.now in
    subst (λ task. IfSome task (HasName names)) (sym c.in_front-front.ensures) (HasName-in_front names h.what h.number c.requires.line.name)

pub returns-clause-text : goal.returns-clause-text
returns-clause-text c =
    let names = name_of_task c.args.names.now in
    let front = c.in_front-front.result in
    logged_line_of-by_parts names c.args.base c.args.happened.now front (c.args.base + c.from.result) _ _ _ _ _ c.in_front-front.ensures (ap (λ n. c.args.base + n) c.from.ensures)
    (c.put_task-at.ensures.text ∙ task_text-is names front _ _ c.title_piece.ensures.text c.pid_piece.ensures.text) c.put_cpu-at.ensures.text c.put_second-at.ensures.text c.put_micros-at.ensures.text c.put_fields.ensures.text

pub returns-clause-len : goal.returns-clause-len
returns-clause-len c =
    let room : c.put_fields.result ≤ length c.put_fields.new.out = omega arith in
    sym (length-take-le c.put_fields.result c.put_fields.new.out room) ∙ ap length (returns-clause-text c)
