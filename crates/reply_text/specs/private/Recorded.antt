-- Entries with the replies that they have. No public clause names them.
use Rattle.std.specs.Prelude.{ℕ, List, [], ◌++◌, Option, Some, None, codes}
use Rattle.std.specs.List.{flat_map}
use Rattle.domain_run.specs.declared.call.Reply.{Reply}
use Rattle.calls_text.specs.declared.section.Entry.{Entry}
use Rattle.reply_text.specs.Replies.{answered_line}

abbrev pub line_with : Entry → Option Reply → List ℕ
line_with e None = []
line_with e (Some reply) = answered_line e reply ++ codes "\n"

abbrev pub recorded_line : Entry → List ℕ
recorded_line e = line_with e e.reply

abbrev pub recorded_lines : List Entry → List ℕ
recorded_lines entries = flat_map recorded_line entries
