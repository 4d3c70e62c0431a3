use Rattle.std.proofs.Common.{◌≡◌, ◌+◌, ◌*◌, ◌≤◌, ◌^◌, ◌++◌, length}
use Rattle.std.specs.Prelude.{true, All}
use Rattle.calls_text.specs.Limits.{IsEntry}
use Rattle.calls_text.specs.Spelling.{text_of}
use Rattle.reply_text.specs.Replies.{answered_lines}
use Rattle.reply_text.proofs.writing.put_all_made.Given as goal

-- the lines so far, and those of the calls that are left, from the domain so far
abbrev pub invariant-loop-entry : goal.invariant-loop-entry
invariant-loop-entry l = record {
  text : l.out.whole ≡ true → (l.initial.out.whole ≡ true) × (l.out.text ++ text_of (answered_lines l.domain l.left.items) ≡ l.initial.out.text ++ text_of (answered_lines l.initial.domain l.initial.left.items));
  entries : All IsEntry l.left.items;
  early : l.domain.time + length l.left.items * 60000000 ≤ 2 ^ 42;
}

abbrev pub decreases-loop-entry : goal.decreases-loop-entry
decreases-loop-entry l = length l.left.items
