use Rattle.std.specs.Prelude.{flat_map}
use Rattle.draft.specs.Draft.{Adds}
use Rattle.one_line.specs.Shown.{shown_character}
use Rattle.one_line.proofs.shown.put_shown.Given as goal

-- the characters so far were put
abbrev pub invariant-loop-c : goal.invariant-loop-c
invariant-loop-c l = Adds l.initial.out l.out (flat_map shown_character l.yielded)
