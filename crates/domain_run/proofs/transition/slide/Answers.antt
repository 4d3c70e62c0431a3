use Rattle.std.proofs.Common.{◌≡◌, ◌^◌, ◌<◌, to_z, of_z, arith}
use Rattle.std.specs.Prelude.{ℤ, pos, negsuc, ◌<ℤ◌, ◌≤ℤ◌, unsigned_abs}
use Rattle.std.proofs.Math.Facts.{to_z-of_z}
use Rattle.std.proofs.lemmas.Int.{ints, fits_signed_from_abs}
use mir.Syntax.{w128}
use Rattle.domain_run.proofs.Sliding.{slides, slid_sound}
use Rattle.domain_run.proofs.transition.slide.Goals as goal

-- what is left is within 127 bits
short : (left : ℤ) → pos 0 <ℤ left → left ≤ℤ pos (2 ^ 52) → unsigned_abs left < 2 ^ 127
short (pos n) some high = omega (arith, ints, some, high)
short (negsuc n) some high = omega (arith, ints, some, high)

same : (left : ℤ) → pos 0 <ℤ left → left ≤ℤ pos (2 ^ 52) → to_z w128 (of_z w128 left) ≡ left
same left some high = to_z-of_z {w = w128} {z = left} (fits_signed_from_abs w128 left (short left some high))

pub returns-clause-task : goal.returns-clause-task
returns-clause-task c = rw (same c.args.left c.requires.lasted c.requires.high) (slides c.args.time c.args.ticks c.args.left c.args.task.now c.requires.ready c.requires.worked c.requires.lasted)

pub returns-clause-sound : goal.returns-clause-sound
returns-clause-sound c = rw (same c.args.left c.requires.lasted c.requires.high) (slid_sound c.args.time c.args.ticks c.args.left c.args.task.now c.requires.ready c.requires.worked c.requires.lasted c.requires.high c.requires.sound)
