use Rattle.std.proofs.Common.{[], arith}
use Rattle.run_figures.proofs.Listed.{lines_keyed, lines_have_room, lines_more}
use Rattle.run_figures.proofs.Closing.{none_logged, among_all, closed_are, all_are_released}
use Rattle.run_figures.proofs.lines.jobs_of.Goals as goal

pub log_lines-requires-clause-keyed : goal.log_lines-requires-clause-keyed
log_lines-requires-clause-keyed c =
    lines_keyed [] c.in_ok-places.places c.in_ok-table.table.items (none_logged c.args.run.now.tasks.now c.in_ok-places.places c.in_ok-table.table.items c.in_ok-places.ensures c.in_ok-table.ensures)

pub log_lines-requires-clause-room : goal.log_lines-requires-clause-room
log_lines-requires-clause-room c =
    lines_have_room [] c.in_ok-places.places c.in_ok-table.table.items _ (none_logged c.args.run.now.tasks.now c.in_ok-places.places c.in_ok-table.table.items c.in_ok-places.ensures c.in_ok-table.ensures) (omega arith)

pub closed_lines-requires-clause-among : goal.closed_lines-requires-clause-among
closed_lines-requires-clause-among c = among_all c.args.run.now.tasks.now c.in_ok-places.places c.in_ok-places.ensures

pub returns-clause-jobs : goal.returns-clause-jobs
returns-clause-jobs c =
    let hs = c.args.run.now.happened.now in
    let tasks = c.args.run.now.tasks.now in
    let numbers = c.in_ok-places.places in
    let none = none_logged tasks numbers c.in_ok-table.table.items c.in_ok-places.ensures c.in_ok-table.ensures in
    let logged = c.log_lines.new.table.items in
    closed_are hs tasks numbers logged c.closed_lines.result (lines_more [] hs numbers c.in_ok-table.table.items logged none c.in_ok-log_lines.ensures) c.closed_lines.ensures

pub returns-clause-released : goal.returns-clause-released
returns-clause-released c = all_are_released c.args.run.now.happened.now c.args.run.now.tasks.now c.closed_lines.result (returns-clause-jobs c)
