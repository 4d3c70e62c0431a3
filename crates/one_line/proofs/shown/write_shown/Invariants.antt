use Rattle.std.specs.Fmt.{HasWritten, IsPlainFormatter}
use Rattle.std.specs.Prelude.{flat_map}
use Rattle.one_line.specs.Shown.{shown_character}
use Rattle.one_line.proofs.shown.write_shown.Given as goal

-- the characters so far were written
abbrev pub invariant-loop-c : goal.invariant-loop-c
invariant-loop-c g l =
    IsPlainFormatter l.initial.f → HasWritten g.W.Write.write_str_gives l.initial.f (flat_map shown_character l.yielded) l.f
