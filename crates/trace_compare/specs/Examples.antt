-- Worked rows, computed by the definitions.
use Rattle.std.specs.Prelude.{◌≡◌, ℕ, [], ◌∷◌, Option, Some, None, refl}
use Rattle.recorded_text.specs.declared.step.Step.{Step}
use Rattle.trace_compare.specs.declared.clock.ClockShift.{ClockShift}
use Rattle.trace_compare.specs.declared.run.Run.{Run}
use Rattle.trace_compare.specs.Runs.{raw_runs, joined_runs, joined_on, runs_of}
use Rattle.trace_compare.specs.Pairs.{fits, split_at, partners, left_over}

abbrev to : ℕ → ℕ → Option ℕ → Step
to time cpu task = record { time = time; cpu = cpu; task = task }

abbrev run : ℕ → ℕ → ℕ → Run
run start «end» cpu = record { start = start; «end» = «end»; cpu = cpu }

abbrev ahead_by : ℕ → ClockShift
ahead_by n = record { ahead = n; behind = 0 }

-- task 0 runs on CPU 0 up to 2000 and on CPU 1 from then on; the run that is still open does not
-- count
moved :
    raw_runs 0 (to 0 0 (Some 0) ∷ to 2000 0 None ∷ to 2000 1 (Some 0) ∷ to 2500 1 (Some 7)
    ∷ to 2600 0 (Some 0) ∷ [])
    ≡ run 0 2000 0 ∷ run 2000 2500 1 ∷ []
unfolding raw_runs
moved = refl

-- an interrupt's thread of 30 us splits a run, which is one again; a run of 40 us is left out
split_by_an_interrupt :
    runs_of 100 (run 0 1000 3 ∷ run 1030 2000 3 ∷ run 5000 5040 3 ∷ [])
    ≡ run 0 2000 3 ∷ []
unfolding joined_runs joined_on
split_by_an_interrupt = refl

-- without noise it stays two
without_noise : runs_of 0 (run 0 1000 3 ∷ run 1030 2000 3 ∷ []) ≡ run 0 1000 3 ∷ run 1030 2000 3
    ∷ []
unfolding joined_runs joined_on
without_noise = refl

-- the recording's clock is 5 s ahead; the second run ends 1001 us too late, the third is 1000 us
-- late
one_in_between :
    partners (fits 1000 (ahead_by 5000000))
    (run 0 2000 0 ∷ run 8000 9000 0 ∷ run 20000 21000 0 ∷ [])
    (run 5000010 5002010 2 ∷ run 5008000 5010001 2 ∷ run 5021000 5022000 2 ∷ [])
    ≡ Some (run 5000010 5002010 2) ∷ None ∷ Some (run 5021000 5022000 2) ∷ []
unfolding partners split_at
one_in_between = refl

-- and the run that matches none is left
left_in_between :
    left_over (fits 1000 (ahead_by 5000000))
    (run 0 2000 0 ∷ run 8000 9000 0 ∷ run 20000 21000 0 ∷ [])
    (run 5000010 5002010 2 ∷ run 5008000 5010001 2 ∷ run 5021000 5022000 2 ∷ [])
    ≡ run 5008000 5010001 2 ∷ []
unfolding left_over split_at
left_in_between = refl
