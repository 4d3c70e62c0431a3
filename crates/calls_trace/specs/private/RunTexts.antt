-- The texts that are made of runs.
use Rattle.std.specs.Prelude.{ℕ, Bool, true, false, List, Option, Some, None}
use Rattle.calls_text.specs.SectionView.{SectionView}
use Rattle.run_options.specs.declared.replay_print.ReplayPrint.{ReplayPrint}
use Rattle.run_options.specs.declared.replay_print.ReplayPrint.TheVariants as prints
use Rattle.calls_trace.specs.declared.run_text.RunText.{RunText}
use Rattle.calls_trace.specs.declared.run_text.RunText.TheVariants.{Trace, Events, Jobs, Summary, Chart}
use Rattle.calls_trace.specs.private.Replaying.{views_from, text_in}

abbrev pub run_text : ReplayPrint → Option RunText
run_text prints.Trace = Some Trace
run_text prints.Replies = None
run_text prints.Events = Some Events
run_text prints.Jobs = Some Jobs
run_text prints.Summary = Some Summary
run_text (prints.Chart span) = Some (Chart span)

abbrev pub is_logged_text : RunText → Bool
is_logged_text Trace = false
is_logged_text Events = true
is_logged_text Jobs = true
is_logged_text Summary = true
is_logged_text (Chart span) = true

-- that of the runs of sections
unfoldable pub text_of_all : RunText → List SectionView → List ℕ
text_of_all text sections = text_in text (views_from (is_logged_text text) 0 sections)
