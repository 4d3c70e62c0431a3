use Rattle.std.proofs.Common.{◌≡◌, ◌∷◌, take}
use Rattle.std.specs.Prelude.{true}
use Rattle.std.specs.List.{flat_map}
use Rattle.calls_text.specs.Spelling.{section_lines, has_later, header_line, text_of}
use Rattle.calls_text.proofs.writing.write_calls.Given as goal

abbrev pub invariant-loop-section : goal.invariant-loop-section
invariant-loop-section l = l.out.whole ≡ true → l.out.text ≡ text_of (header_line (has_later l.sections) ∷ flat_map section_lines (take l.section-index l.sections))
