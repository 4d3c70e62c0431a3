-- The ticks of the time's axis (own): at most eleven, at a step of 1, 2 or 5 times a power of ten.
use Rattle.std.specs.Prelude.{ℕ, zero, suc, ◌+◌, ◌-◌, ◌*◌, ◌/◌, Bool, nat_lt, nat_le, if◌then◌else◌, List, codes, map}
use Rattle.std.specs.List.{range_with_len}
use Rattle.chart_pieces.specs.declared.window.Window.{Window}
use Rattle.chart.specs.Seconds.{second, seconds, millis}

-- a power of ten of which a hundred are as long as this
abbrev pub wider : ℕ → ℕ → ℕ
wider length unit = if nat_lt (unit * 100) length then unit * 10 else unit

abbrev pub widened : ℕ → ℕ → ℕ
widened zero length = 1
widened (suc n) length = wider length (widened n length)

abbrev pub step_by : ℕ → ℕ → ℕ
step_by unit length =
    if nat_le length (unit * 10) then unit else
    (if nat_le length (unit * 20) then unit * 2 else
    (if nat_le length (unit * 50) then unit * 5 else unit * 10))

-- the least step of which ten are as long as this, which is at most 2^42
abbrev pub step_of : ℕ → ℕ
step_of length = step_by (widened 12 length) length

-- the first tick in a window, in steps
abbrev pub first_tick : Window → ℕ → ℕ
first_tick w step = (w.from + (step - 1)) / step

abbrev pub ticks_by : Window → ℕ → List ℕ
ticks_by w step =
    map (λ k. k * step) (range_with_len (first_tick w step) (w.to / step + 1 - first_tick w step))

abbrev pub ticks_of : Window → List ℕ
ticks_of w = ticks_by w (step_of (w.to - w.from))

-- THE UNIT: milliseconds where less than a second is drawn, else seconds
abbrev pub is_in_millis : Window → Bool
is_in_millis w = nat_lt (w.to - w.from) second

abbrev pub axis_time : Window → ℕ → List ℕ
axis_time w time = if is_in_millis w then millis time else seconds time

abbrev pub unit_name : Window → List ℕ
unit_name w = if is_in_millis w then codes "ms" else codes "s"
