-- What the words at the options of a command mean: of an option's name, clap finds a text, or none.
use Rattle.std.specs.Prelude.{◌≡◌, ◌≢◌, ◌⊎◌, ◌<◌, ◌^◌, ℕ, List, Option, Some, None, Ok, Err, Bool, true, false, codes, min, max}
use Rattle.std.specs.Str.Parse.{IsNumeral, digits_value, without_leading_plus}
use Rattle.clap.specs.Words.{Row, first_of, one_of}
use Rattle.chart_pieces.specs.declared.window.Span.{Span}
use Rattle.run_options.specs.Words.{AreMeant, IsWordsFault, span_of, no_part_asked}
use Rattle.run_options.specs.declared.options.Options.{Options}
use Rattle.run_options.specs.declared.options.Print.{Print}
use Rattle.run_options.specs.declared.options.Print.TheVariants as prints
use Rattle.run_options.specs.declared.replay_print.ReplayPrint.{ReplayPrint}
use Rattle.run_options.specs.declared.replay_print.ReplayPrint.TheVariants as replay_prints
use Rattle.run_options.specs.declared.words.SpanWords.{SpanWords}
use Rattle.run_options.specs.declared.words.Words.{Words}
use Rattle.run_options.specs.declared.words.WordsFault.{WordsFault}

-- the text is decimal digits that write the number, which is below 2^64; zeros may stand before
-- them, and before these a plus
pub record SpellsNumber (text : List ℕ) (number : ℕ) : Type 0 where
  pub digits : IsNumeral 10 (without_leading_plus text)
  pub value : digits_value 10 (without_leading_plus text) ≡ number
  pub small : number < 2 ^ 64

-- the number that an option's text spells, moved into the range from 1 to the most; 1 where there
-- is no text or it spells no number
pub record IsNumberAt (rows : List Row) (name : List ℕ) (most n : ℕ) : Type 0 where
  pub absent : one_of name rows ≡ None → n ≡ 1
  pub spelled : (text : List ℕ) (v : ℕ) → one_of name rows ≡ Some text → SpellsNumber text v
      → n ≡ min (max v 1) most
  pub other : (text : List ℕ) → one_of name rows ≡ Some text → ((v : ℕ) → SpellsNumber text v → ⊥)
      → n ≡ 1

-- the number that an option's text spells; none where there is no text, or it spells no number
pub record IsReadAt (rows : List Row) (name : List ℕ) (o : Option ℕ) : Type 0 where
  pub absent : one_of name rows ≡ None → o ≡ None
  pub spelled : (text : List ℕ) (v : ℕ) → one_of name rows ≡ Some text → SpellsNumber text v
      → o ≡ Some v
  pub other : (text : List ℕ) → one_of name rows ≡ Some text → ((v : ℕ) → SpellsNumber text v → ⊥)
      → o ≡ None

-- the words that say which part of a run is drawn
pub record AreSpanWordsAt (rows : List Row) (words : SpanWords) : Type 0 where
  pub from : IsReadAt rows (codes "from") words.from
  pub to : IsReadAt rows (codes "to") words.to

-- a chart shows the part that these words ask for, and beside another text they ask for none
abbrev pub IsCutBy : SpanWords → Option Span → Type 0
IsCutBy words (Some span) = span_of words ≡ Ok span
IsCutBy words None = no_part_asked words ≡ Ok tt

-- what is printed: the text at `print` asks for it, each by a text of its own; and where that asks
-- for nothing, this one. A chart is of that part
pub record IsAskedAt {P : Type 0} (text_of : P → List ℕ) (span_in : P → Option Span) (otherwise : P)
    (rows : List Row) (print : P) : Type 0 where
  pub asked : (p : P) → first_of (codes "print") rows ≡ Some (text_of p)
      → text_of print ≡ text_of p
  pub unasked : ((p : P) → first_of (codes "print") rows ≡ Some (text_of p) → ⊥) → print ≡ otherwise
  pub words : SpanWords
  pub are_found : AreSpanWordsAt rows words
  pub cut : IsCutBy words (span_in print)

-- or why nothing is printed: of a chart its part, of another text that a part is asked for
pub record IsCutFault (rows : List Row) (fault : WordsFault) : Type 0 where
  pub words : SpanWords
  pub are_found : AreSpanWordsAt rows words
  pub chart : first_of (codes "print") rows ≡ Some (codes "chart") → span_of words ≡ Err fault
  pub other : first_of (codes "print") rows ≢ Some (codes "chart") → no_part_asked words ≡ Err fault

-- the texts that ask for what is printed of a run
abbrev pub print_text : Print → List ℕ
print_text prints.Trace = codes "trace"
print_text prints.Calls = codes "calls"
print_text prints.Replies = codes "replies"
print_text prints.Events = codes "events"
print_text prints.Jobs = codes "jobs"
print_text prints.Summary = codes "summary"
print_text prints.Promises = codes "promises"
print_text (prints.Chart span) = codes "chart"

abbrev pub span_in : Print → Option Span
span_in prints.Trace = None
span_in prints.Calls = None
span_in prints.Replies = None
span_in prints.Events = None
span_in prints.Jobs = None
span_in prints.Summary = None
span_in prints.Promises = None
span_in (prints.Chart span) = Some span

abbrev pub IsPrintAt : List Row → Print → Type 0
IsPrintAt = IsAskedAt print_text span_in prints.Trace

-- and of a replay
abbrev pub replay_print_text : ReplayPrint → List ℕ
replay_print_text replay_prints.Trace = codes "trace"
replay_print_text replay_prints.Replies = codes "replies"
replay_print_text replay_prints.Events = codes "events"
replay_print_text replay_prints.Jobs = codes "jobs"
replay_print_text replay_prints.Summary = codes "summary"
replay_print_text (replay_prints.Chart span) = codes "chart"

abbrev pub replay_span_in : ReplayPrint → Option Span
replay_span_in replay_prints.Trace = None
replay_span_in replay_prints.Replies = None
replay_span_in replay_prints.Events = None
replay_span_in replay_prints.Jobs = None
replay_span_in replay_prints.Summary = None
replay_span_in (replay_prints.Chart span) = Some span

abbrev pub IsReplayPrintAt : List Row → ReplayPrint → Type 0
IsReplayPrintAt = IsAskedAt replay_print_text replay_span_in replay_prints.Trace

-- a flag that is there, and one that is not
pub record IsFlagAt (rows : List Row) (name : List ℕ) (flag : Bool) : Type 0 where
  pub absent : one_of name rows ≡ None → flag ≡ false
  pub on : one_of name rows ≡ Some (codes "true") → flag ≡ true
  pub off : one_of name rows ≡ Some (codes "false") → flag ≡ false

-- the text at an option, and the empty one where there is none
pub record IsTextAt (rows : List Row) (name text : List ℕ) : Type 0 where
  pub absent : first_of name rows ≡ None → text ≡ codes ""
  pub some : (found : List ℕ) → first_of name rows ≡ Some found → text ≡ found

-- each word is that of its own option
pub record AreFound (rows : List Row) (words : Words) : Type 0 where
  pub domains : IsTextAt rows (codes "domains") words.domains.now
  pub rt_runtime : IsNumberAt rows (codes "rt-runtime") 1000000000 words.rt_runtime
  pub rt_period : IsNumberAt rows (codes "rt-period") 1000000000 words.rt_period
  pub clients : IsNumberAt rows (codes "clients") 64 words.clients
  pub workers : IsNumberAt rows (codes "workers") 8 words.workers
  pub reclaim : IsFlagAt rows (codes "reclaim") words.reclaim
  pub print : IsPrintAt rows words.print

-- the options that the words at the options mean
pub record AreMeantBy (rows : List Row) (options : Options) : Type 0 where
  pub words : Words
  pub are_found : AreFound rows words
  pub meant : AreMeant words options

-- why the words at the options mean no options: first of what is printed, then of the rest
pub record AreFaulty (rows : List Row) (fault : WordsFault) : Type 0 where
  pub words : Words
  pub are_found : AreFound rows words
  pub is_fault : IsWordsFault words fault

abbrev pub IsFaultOfRows : List Row → WordsFault → Type 0
IsFaultOfRows rows fault = IsCutFault rows fault ⊎ AreFaulty rows fault
