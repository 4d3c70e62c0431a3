use Rattle.std.proofs.Common.{length, true, false, sym, subst, ◌∙◌}
use Rattle.std.specs.List.{flat_map}
use Rattle.calls_text.specs.Spelling.{section_lines}
use Rattle.calls_text.specs.Reader.{IsAfter}
use Rattle.calls_text.specs.private.Reading.{is_stuck}
use Rattle.calls_text.proofs.Readers.{view_of, bad_is}
use Rattle.calls_text.proofs.calls_reader.CallsReader.bad_line.Goals as goal

pub returns-then-is_stuck : goal.returns-then-is_stuck
returns-then-is_stuck c = λ text done b.
    let own : IsAfter text done (view_of c.self.inside) = subst (IsAfter text done) (sym c.self.view_is) b in
    bad_is c.self.inside.lines (length (flat_map section_lines done)) true (is_stuck c.args.self.now.later done) own.lines (sym c.if-is_stuck.true ∙ c.is_stuck.ensures text done b)

pub returns : goal.returns
returns c = λ text done b.
    let own : IsAfter text done (view_of c.self.inside) = subst (IsAfter text done) (sym c.self.view_is) b in
    bad_is c.self.inside.lines (length (flat_map section_lines done)) false (is_stuck c.args.self.now.later done) own.lines (sym c.if-is_stuck.false ∙ c.is_stuck.ensures text done b)
