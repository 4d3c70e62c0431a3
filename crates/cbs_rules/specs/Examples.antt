-- Worked rows of the rules.
use Rattle.std.specs.Prelude.{ℕ, false, pos, neg_ℤ, ◌≡◌, Some, None, refl}
use Rattle.attr_check.specs.ParamsView.{ParamsView}
use Rattle.attr_check.specs.Ratio.{ratio}
use Rattle.cbs_rules.specs.declared.server.Server.{Server}
use Rattle.cbs_rules.specs.Serving.{woken, charged, replenished}

-- runtime, relative deadline and period
abbrev plain : ℕ → ℕ → ℕ → ParamsView
plain runtime deadline period =
    record {
      runtime = runtime;
      deadline = deadline;
      period = period;
      reclaim = false;
      bw = ratio period runtime;
    }

abbrev server : ℕ → ℕ → Server
server deadline left = record { deadline = Some deadline; left = pos left }

-- WAKE TEST IS STRICT: 2 us left of 4 in 8, and 8 the deadline. At 4 that is just the share, at 5
-- it is more
kept_at_4 : woken (plain 4 8 8) 4 (server 8 2097152) ≡ server 8 2097152
kept_at_4 = refl

renewed_at_5 : woken (plain 4 8 8) 5 (server 8 2097152) ≡ server 13 4194304
renewed_at_5 = refl

-- a first wake, a wake at the deadline with nothing left, and one after it
first_wake : woken (plain 4 6 8) 5 (record { deadline = None; left = pos 0 }) ≡ server 11 4194304
first_wake = refl

kept_at_the_deadline : woken (plain 4 8 8) 8 (server 8 0) ≡ server 8 0
kept_at_the_deadline = refl

renewed_after_the_deadline : woken (plain 4 8 8) 9 (server 8 0) ≡ server 17 4194304
renewed_after_the_deadline = refl

-- charged three ticks at one and a half
charged_thrice : charged 1572864 3 (server 8 2097152)
    ≡ record { deadline = Some 8; left = neg_ℤ (pos 2621440) }
charged_thrice = refl

-- replenished once where nothing is left, and again where a whole budget is missing
replenished_once : replenished (plain 2 5 5) (server 5 0) ≡ server 10 2097152
replenished_once = refl

replenished_twice : replenished (plain 2 5 5)
    (record { deadline = Some 5; left = neg_ℤ (pos 2097152) }) ≡ server 15 2097152
replenished_twice = refl
