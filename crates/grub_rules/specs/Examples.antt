-- Worked rows of zero-lag times, rates and sums.
use Rattle.std.specs.Prelude.{ℕ, Bool, true, false, List, [], ◌∷◌, pos, neg_ℤ, ◌≡◌, Some, None, refl}
use Rattle.attr_check.specs.ParamsView.{ParamsView}
use Rattle.attr_check.specs.Ratio.{ratio}
use Rattle.cbs_rules.specs.declared.server.Server.{Server}
use Rattle.grub_rules.specs.Lag.{zero_lag}
use Rattle.grub_rules.specs.Rate.{extra, rate}
use Rattle.grub_rules.specs.Sums.{Share, total_bw, this_bw, running_bw, uinact}

-- runtime, relative deadline and period, without and with reclaiming
abbrev plain : ℕ → ℕ → ℕ → ParamsView
plain runtime deadline period =
    record {
      runtime = runtime;
      deadline = deadline;
      period = period;
      reclaim = false;
      bw = ratio period runtime;
    }

abbrev reclaiming : ℕ → ℕ → ℕ → ParamsView
reclaiming runtime deadline period =
    record {
      runtime = runtime;
      deadline = deadline;
      period = period;
      reclaim = true;
      bw = ratio period runtime;
    }

abbrev server : ℕ → ℕ → Server
server deadline left = record { deadline = Some deadline; left = pos left }

-- 2 us of 4 in 8 are left: they are in step with a deadline of 8 at 4, and not later. Without a
-- deadline there is no such time
zero_lag_ahead : zero_lag (plain 4 8 8) 2 (server 8 2097152) ≡ Some 4
zero_lag_ahead = refl

zero_lag_come : zero_lag (plain 4 8 8) 4 (server 8 2097152) ≡ None
zero_lag_come = refl

-- with nothing left, or less, it is the deadline
zero_lag_of_nothing : zero_lag (plain 4 8 8) 2 (record { deadline = Some 8; left = neg_ℤ (pos 3) })
    ≡ Some 8
zero_lag_of_nothing = refl

zero_lag_of_no_deadline : zero_lag (plain 4 8 8) 2 (record { deadline = None; left = pos 0 }) ≡ None
zero_lag_of_no_deadline = refl

-- RECLAIMING EXAMPLE: two halves of a CPU; while the other is active the rate is one, then it is
-- its own half
rate_beside_an_active : rate (reclaiming 4 8 8) 0 1048576 1 1048576 ≡ 1048576
rate_beside_an_active = refl

rate_beside_an_inactive : rate (reclaiming 4 8 8) 524288 1048576 1 1048576 ≡ 524288
rate_beside_an_inactive = refl

rate_without_reclaiming : rate (plain 4 8 8) 524288 1048576 1 1048576 ≡ 1048576
rate_without_reclaiming = refl

-- FRACTION AND CARRY: half a CPU of a limit of 0.95, rounded up; and a bandwidth above the limit
rate_of_a_fraction : rate (reclaiming 4 8 8) 0 524288 1 996147 ≡ 551883
rate_of_a_fraction = refl

rate_above_one : rate (reclaiming 8 8 8) 0 1048576 2 524288 ≡ 2097152
rate_above_one = refl

-- UEXTRA BELOW ZERO: an eighth of a CPU has 0.75 of one beside it, and the limit is a half. The
-- rate is that of all 0.875
extra_below_zero : extra 917504 1 524288 ≡ neg_ℤ (pos 393216)
extra_below_zero = refl

rate_below_zero : rate (reclaiming 1 8 8) 0 917504 1 524288 ≡ 1835008
rate_below_zero = refl

rate_below_zero_beside_an_inactive : rate (reclaiming 1 8 8) 262144 917504 1 524288 ≡ 1310720
rate_below_zero_beside_an_inactive = refl

-- no bandwidth, with all the rest inactive: the least rate
least_rate : rate (reclaiming 2 4000000 4000000) 1048576 1048576 1 1048576 ≡ 1
least_rate = refl

-- THREE TASKS: an active and an inactive one on the first CPU, and an inactive one on the second
abbrev share : ℕ → ℕ → Bool → Share
share cpu bw active = record { cpu = cpu; bw = bw; active = active }

abbrev three : List Share
three = share 0 524288 true ∷ (share 0 262144 false ∷ (share 1 131072 false ∷ []))

this_of_three : this_bw 0 three ≡ 786432
this_of_three = refl

running_of_three : running_bw 0 three ≡ 524288
running_of_three = refl

inactive_of_three : (uinact 0 three ≡ 262144) × (uinact 1 three ≡ 131072)
inactive_of_three = (refl, refl)

total_of_three : total_bw three ≡ 917504
total_of_three = refl
