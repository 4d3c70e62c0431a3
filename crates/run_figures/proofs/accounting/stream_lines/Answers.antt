use Rattle.std.proofs.Common.{Some, sym, subst}
use Rattle.run_figures.specs.private.Keeping.{happened_in}
use Rattle.run_figures.specs.private.Lines.{AreLinesKept}
use Rattle.run_figures.proofs.Listed.{lines_keyed, lines_have_room, lines_more}
use Rattle.run_figures.proofs.accounting.stream_lines.Goals as goal

pub log_lines-requires-clause-keyed : goal.log_lines-requires-clause-keyed
log_lines-requires-clause-keyed c =
    let before = happened_in c.args.streamed.now in
    let kept : AreLinesKept before c.args.places.now (Some c.in-Some.table) = subst (AreLinesKept before c.args.places.now) (sym c.in-Some.ensures.value) c.requires.kept in
    lines_keyed before c.args.places.now c.in-Some.table.items kept

pub log_lines-requires-clause-room : goal.log_lines-requires-clause-room
log_lines-requires-clause-room c =
    let before = happened_in c.args.streamed.now in
    let kept : AreLinesKept before c.args.places.now (Some c.in-Some.table) = subst (AreLinesKept before c.args.places.now) (sym c.in-Some.ensures.value) c.requires.kept in
    lines_have_room before c.args.places.now c.in-Some.table.items _ kept c.requires.few

pub returns-in-Ok : goal.returns-in-Ok
returns-in-Ok c =
    let before = happened_in c.args.streamed.now in
    let kept : AreLinesKept before c.args.places.now (Some c.in-Some.table) = subst (AreLinesKept before c.args.places.now) (sym c.in-Some.ensures.value) c.requires.kept in
    lines_more before c.args.happened.now c.args.places.now c.in-Some.table.items c.log_lines.new.table.items kept c.in-Ok.ensures
