use Rattle.std.proofs.Common.{List, get_or, take, map, sym, ap, ◌∙◌, subst, arith, All}
use Rattle.std.proofs.lemmas.List.{map-id, take_all, length-take, get_or_default}
use Rattle.domain_run.specs.declared.happened.Happened.{Happened}
use Rattle.run_figures.specs.private.LineView.{JobLineView}
use Rattle.run_figures.specs.private.Lines.{line_all, IsLineWithin}
use Rattle.run_figures.proofs.Passing.{blank}
use Rattle.run_figures.proofs.Listed.{numbers_of_lines, one_more_line, lines_within}
use Rattle.run_figures.proofs.lines.log_lines.Goals as goal

pub loop-entry-init : goal.loop-entry-init
loop-entry-init c = sym (map-id c.args.table.now.items)

pub say-requires-clause-keyed : goal.say-requires-clause-keyed
say-requires-clause-keyed c =
    ap (λ (ls : List JobLineView). map (λ l. l.number) ls) c.loop-entry.invariant
    ∙ numbers_of_lines (take c.loop-entry.entry-index c.args.happened.now) c.args.table.now.items
    ∙ c.requires.keyed

pub say-requires-clause-room : goal.say-requires-clause-room
say-requires-clause-room c =
    let hs = c.args.happened.now in
    let i = c.loop-entry.entry-index in
    let room = c.requires.room in
    subst (All (IsLineWithin 18446744073709551614)) (sym c.loop-entry.invariant)
    (lines_within (take i hs) room.used 18446744073709551614 c.args.table.now.items (omega (arith, length-take i hs, room.fits, c.loop-entry-test.true)) room.within)

pub loop-entry-preserved : goal.loop-entry-preserved
loop-entry-preserved c =
    let hs = c.args.happened.now in
    let i = c.loop-entry.entry-index in
    one_more_line hs i (get_or hs i blank) c.say.new.table.items c.loop-entry.table.items c.args.table.now.items c.loop-entry-test.true
    (get_or_default hs i blank (get_or hs i blank) c.loop-entry-test.true) c.loop-entry.invariant c.in_ok-say.ensures

pub returns : goal.returns
returns c =
    c.loop-entry.invariant
    ∙ ap (λ (hs : List Happened). map (line_all hs) c.args.table.now.items) (take_all c.loop-entry.entry-index c.args.happened.now c.loop-entry-test.false)
