-- Worked rows: the texts of two domains, and of promises.
use Rattle.std.specs.Prelude.{ℕ, ◌≡◌, ◌==◌, true, false, if◌then◌else◌, negsuc, List, [], ◌∷◌, Some, None, codes, refl}
use Rattle.std.specs.Fmt.{digits}
use Rattle.figure_text.specs.Columns.{share}
use Rattle.figure_text.specs.Jobs.{JobsView, jobs_text}
use Rattle.figure_text.specs.Summary.{SummaryView, summary_text}
use Rattle.deadline_promise.specs.declared.answer.Promise.TheVariants.{NeverLate, Refused}
use Rattle.figure_text.specs.Promises.{PromiseView, promises_text}

abbrev names : ℕ → List ℕ
names n = if n == 1 then codes "player" else codes "of-sixteen-bytes"

-- the first ends late, the second is under way, and the third, in another domain, is cut
abbrev first : JobsView
first = record {
  names = names;
  tasks = record {
    number = 1;
    jobs =
        record {
          release = 350000;
          deadline = 450000;
          ended = Some 510000;
          throttled = 2;
          cut = false;
        }
        ∷ record { release = 880000; deadline = 980000; ended = None; throttled = 2; cut = false }
        ∷ [];
  } ∷ [];
}

abbrev second : JobsView
second = record {
  names = names;
  tasks = record {
    number = 65535;
    jobs =
        record { release = 0; deadline = 5; ended = None; throttled = 0; cut = true } ∷ [];
  } ∷ [];
}

jobs : jobs_text (first ∷ second ∷ []) ≡ codes
    "#          task    pid    job     release         end    response       slack throttled\n         player   1001      0      350000      510000      160000      -60000         2\n         player   1001      1      880000           -           -           -         2\nof-sixteen-bytes  66535      0           0           -           -           -         0\n"
unfolding digits
jobs = refl

-- a share is rounded down, and of nothing it is 0
two_thirds : share 2 3 ≡ codes "   66.66"
unfolding digits
two_thirds = refl

of_nothing : share 5 0 ≡ codes "    0.00"
unfolding digits
of_nothing = refl

abbrev one : SummaryView
one = record {
  names = names;
  tasks = record {
    number = 1;
    runtime = 40000;
    period = 160000;
    jobs = 5;
    late = 1;
    responses = Some (record { least = 40000; mean = 40001; most = 160000; slack = negsuc 1 });
    throttled = 6;
    throttled_us = 7;
    preempted = 8;
    migrated = 9;
    cpu_us = 200000;
  } ∷ [];
  cpus = record { busy_us = 560000; switches = 13 } ∷ [];
  bandwidth = 681574;
  cap = 996147;
  time = 1000000;
}

abbrev other : SummaryView
other = record {
  names = names;
  tasks = record {
    number = 2;
    runtime = 2;
    period = 3;
    jobs = 0;
    late = 0;
    responses = None;
    throttled = 0;
    throttled_us = 0;
    preempted = 0;
    migrated = 0;
    cpu_us = 0;
  } ∷ [];
  cpus = record { busy_us = 0; switches = 0 } ∷ record { busy_us = 0; switches = 0 } ∷ [];
  bandwidth = 0;
  cap = 1992294;
  time = 0;
}

summary : summary_text (one ∷ other ∷ []) ≡ codes
    "#          task    pid dom    jobs    late   resp_min   resp_avg   resp_max   slack_min throttled throttled_us preempted migrated       cpu_us   used%    has%\n         player   1001   0       5       1      40000      40001     160000          -2         6            7         8        9       200000   20.00   25.00\nof-sixteen-bytes   1002   1       0       0          -          -          -           -         0            0         0        0            0    0.00   66.66\n#  cpu dom      busy_us   busy%  switches\n   000   0       560000   56.00        13\n   001   1            0    0.00         0\n   002   1            0    0.00         0\n#domain cpus  bandwidth        cap  taken%      time_us\n      0    1     681574     996147   68.42      1000000\n      1    2          0    1992294    0.00            0\n"
unfolding digits
summary = refl

abbrev kept : PromiseView
kept = record {
  name = codes "sensor";
  number = 1;
  domain = Some 0;
  work_max = Some 40000;
  gap_min = Some 200000;
  promise = NeverLate;
}

-- its work never ends, and no domain admitted it; a wide number widens its own line
abbrev other_one : PromiseView
other_one = record {
  name = codes "of-sixteen-bytes";
  number = 2;
  domain = None;
  work_max = None;
  gap_min = Some 12345678901;
  promise = Refused;
}

promises : promises_text (kept ∷ other_one ∷ []) ≡ codes
    "#          task    pid dom   work_max    gap_min promise\n         sensor   1001   0      40000     200000 never late\nof-sixteen-bytes   1002   -          - 12345678901 refused\n"
unfolding digits
promises = refl
