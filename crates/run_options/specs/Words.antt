-- What the words of a command line mean (own).
use Rattle.std.specs.Prelude.{◌≡◌, ℕ, ◌*◌, ◌^◌, ◌<◌, ◌≤◌, ◌==◌, ◌&&◌, nat_lt, nat_le, Bool, if◌then◌else◌, List, length, map, All, Option, Some, None, is_none, unwrap_or, Result, Ok, Err, codes, decimal}
use Rattle.std.specs.List.{slice_split}
use Rattle.attr_check.specs.Ratio.{ratio}
use Rattle.domain_run.specs.Domain.{IsCpus}
use Rattle.chart_pieces.specs.Window.{window_of}
use Rattle.chart_pieces.specs.declared.window.Span.{Span}
use Rattle.run_options.specs.declared.options.Options.{Options}
use Rattle.run_options.specs.declared.words.SpanWords.{SpanWords}
use Rattle.run_options.specs.declared.words.Words.{Words}
use Rattle.run_options.specs.declared.words.WordsFault.{WordsFault}
use Rattle.run_options.specs.declared.words.WordsFault.TheVariants as faults

abbrev pub is_comma : ℕ → Bool
is_comma byte = byte == 44

-- the text spells these numbers of CPUs: 1 to 8 numbers from 1 to 64, which in decimal are what
-- stands between its commas
pub record IsList (text : List ℕ) (cpus : List ℕ) : Type 0 where
  pub some : 0 < length cpus
  pub few : length cpus ≤ 8
  pub range : All IsCpus cpus
  pub pieces : slice_split is_comma text ≡ map decimal cpus

-- the limit of each CPU: rt_runtime in rt_period, rounded down to 1/2^20, where that is at least a
-- hundredth and at most the whole (sched-deadline.rst, "Bandwidth management"; the hundredth and
-- the rounding are own)
abbrev pub limit_of : ℕ → ℕ → Option ℕ
limit_of runtime period =
    if nat_lt 0 period && (nat_le runtime period && nat_le period (100 * runtime))
    then Some (ratio period runtime) else None

-- A PART OF A RUN for a chart: where the words do not say so, it begins at 0, and ends with the run
abbrev pub part_of : SpanWords → Span
part_of w = record { from = unwrap_or w.from 0; to = w.to }

-- where it ends at the latest, in microseconds
abbrev pub span_end : Span → ℕ
span_end s = unwrap_or s.to (2 ^ 42)

-- it begins before it ends
abbrev pub is_part : Span → Bool
is_part s = nat_lt s.from (span_end s) && nat_le (span_end s) (2 ^ 42)

abbrev pub span_of : SpanWords → Result Span WordsFault
span_of w = if is_part (part_of w) then Ok (part_of w) else Err faults.Window

-- the window that shows it of a run, whenever that ends, begins where it does, and ends where it
-- does if that is said
pub record IsAsAsked (s : Span) : Type 0 where
  pub from : (end : ℕ) → (window_of s end).from ≡ s.from
  pub to : (end to : ℕ) → s.to ≡ Some to → (window_of s end).to ≡ to

-- no part is asked for
abbrev pub no_part_asked : SpanWords → Result (Unit {0}) WordsFault
no_part_asked w = if is_none w.from && is_none w.to then Ok tt else Err faults.NoChart

-- the options that the words mean
pub record AreMeant (w : Words) (o : Options) : Type 0 where
  pub domains : IsList w.domains.now o.domains.items
  pub limit : limit_of w.rt_runtime w.rt_period ≡ Some o.limit
  pub clients : o.clients ≡ w.clients
  pub workers : o.workers ≡ w.workers
  pub history : o.history ≡ 1024
  pub reclaim : o.reclaim ≡ w.reclaim
  pub print : o.print ≡ w.print

-- the domains are no list; or they are one, and the limit is none; want of memory may come before
-- any
abbrev pub IsWordsFault : Words → WordsFault → Type 0
IsWordsFault w faults.Window = ⊥
IsWordsFault w faults.NoChart = ⊥
IsWordsFault w faults.List = (cpus : List ℕ) → IsList w.domains.now cpus → ⊥
IsWordsFault w faults.Limit =
    ((cpus : List ℕ) × IsList w.domains.now cpus) × (limit_of w.rt_runtime w.rt_period ≡ None)
IsWordsFault w faults.Memory = Unit {0}

-- 2 for wrong words, 4 for want of memory
abbrev pub words_status : WordsFault → ℕ
words_status faults.Window = 2
words_status faults.NoChart = 2
words_status faults.List = 2
words_status faults.Limit = 2
words_status faults.Memory = 4

-- how it prints
abbrev pub words_text : WordsFault → List ℕ
words_text faults.Window = codes "empty window"
words_text faults.NoChart = codes "no chart to cut"
words_text faults.List = codes "bad list"
words_text faults.Limit = codes "limit out of range"
words_text faults.Memory = codes "out of memory"
