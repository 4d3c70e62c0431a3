use Rattle.std.proofs.Common.{[], ◌∷◌, ◌++◌, arith}
use Rattle.calls_trace.proofs.playing_so_far.PlayingSoFar.read.Goals as goal

pub put-requires-clause-kept : goal.put-requires-clause-kept
put-requires-clause-kept c =
    let b = c.requires.begun in
    let m = c.in_ok-kept.ensures.read b.text b.before b.within in
    record { section = m.section; is = m.is; same = m.same }

pub put-requires-clause-inside : goal.put-requires-clause-inside
put-requires-clause-inside c =
    let b = c.requires.begun in
    let m = c.in_ok-kept.ensures.read b.text b.before b.within in
    omega (arith, m.same.same_cpus, m.is.most_cpus, c.requires.inside)

pub returns-in-Ok-clause-read : goal.returns-in-Ok-clause-read
returns-in-Ok-clause-read c = λ text done w so_far.
    let m = c.in_ok-kept.ensures.read text done w in
    record { done = done ++ m.section ∷ []; following = m.following; playing = c.in-Ok.ensures done m.section so_far m.is m.same }
