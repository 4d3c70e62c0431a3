-- What is written of histories alone.
use Rattle.std.specs.Prelude.{ℕ, List}
use Rattle.calls_text.specs.SectionView.{SectionView}
use Rattle.calls_text.specs.Spelling.{spelling}
use Rattle.reply_text.specs.Replies.{replies_of}
use Rattle.run_options.specs.declared.options.Print.{Print}
use Rattle.run_options.specs.declared.options.Print.TheVariants as prints
use Rattle.dl_session.specs.declared.history_text.HistoryText.{HistoryText}
use Rattle.dl_session.specs.declared.history_text.HistoryText.TheVariants.{Calls, Replies}

abbrev pub logged_text : HistoryText → List SectionView → List ℕ
logged_text Calls histories = spelling histories
logged_text Replies histories = replies_of histories

-- the text for which it is asked
abbrev pub print_of : HistoryText → Print
print_of Calls = prints.Calls
print_of Replies = prints.Replies
