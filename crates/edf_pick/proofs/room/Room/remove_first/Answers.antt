use Rattle.std.proofs.Common.{refl, arith}
use Rattle.edf_pick.proofs.Spans.{between_len, removed_below}
use Rattle.edf_pick.proofs.room.Room.remove_first.Goals as goal

pub returns-clause-tasks : goal.returns-clause-tasks
returns-clause-tasks c =
    let room = c.args.self.now in
    let len = between_len room.front room.end room.tasks.items c.requires.is.forward (omega (arith, c.requires.is.within, c.requires.is.full)) in
    removed_below room.front room.end 0 room.tasks.items room.tasks.items refl (omega (arith, c.requires.is.within, c.requires.is.full)) (omega (arith, len, c.requires.some)) (λ k d low high. absurd (omega (arith, low, high))) (λ k d low. refl)
