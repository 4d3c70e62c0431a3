-- The part of a run that is drawn (own).
use Rattle.std.specs.Prelude.{ℕ, ◌≡◌, ◌<◌, ◌≤◌, ◌^◌, ◌+◌, ◌-◌, Bool, ◌&&◌, nat_lt, nat_le, min, max, Option, Some, None}
use Rattle.chart_pieces.specs.declared.window.Window.{Window}
use Rattle.chart_pieces.specs.declared.window.Span.{Span}
use Rattle.limits.specs.Limits.{clock_end}

-- what lasts from one time to another has a part in the window
abbrev pub touches : Window → ℕ → ℕ → Bool
touches w start stop = nat_lt start stop && (nat_lt start w.to && nat_lt w.from stop)

-- a time is in it, its ends too
abbrev pub holds : Window → ℕ → Bool
holds w time = nat_le w.from time && nat_le time w.to

-- it begins before it ends, at most 2^42 us after the beginning of the run
pub record IsWindow (w : Window) : Type 0 where
  pub some : w.from < w.to
  pub early : w.to ≤ clock_end

-- it shows a run that ends at this time from its beginning to its end
pub record IsWhole (w : Window) (time : ℕ) : Type 0 where
  pub first : w.from ≡ 0
  pub last : time ≤ w.to

-- WHAT IS ASKED FOR: a part of a run, to its end where no end is given; at least a microsecond of
-- it is shown, and nothing after 2^42 us
abbrev pub window_end : Option ℕ → ℕ → ℕ
window_end None end = end
window_end (Some to) end = to

abbrev pub first_of : Span → ℕ
first_of span = min span.from (clock_end - 1)

abbrev pub window_of : Span → ℕ → Window
window_of span end = record {
  from = first_of span;
  to = max (first_of span + 1) (min (window_end span.to end) (clock_end));
}
