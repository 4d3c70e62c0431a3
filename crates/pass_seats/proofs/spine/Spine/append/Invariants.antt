use Rattle.std.proofs.Common.{[], ◌∷◌}
use Rattle.pass_seats.proofs.spine.Spine.append.Given as goal

abbrev pub ghosts-append_as : goal.ghosts-append_as
ghosts-append_as g a = record { said = a.entry.now ∷ [] }
