use Rattle.std.proofs.Common.{◌≡◌, ◌++◌, length}
use Rattle.std.specs.Prelude.{true, All}
use Rattle.calls_text.specs.Limits.{IsSection}
use Rattle.reply_text.specs.Replies.{replies_of}
use Rattle.reply_text.proofs.writing.write_replies.Given as goal

-- the lines so far, and those of the sections that are left
abbrev pub invariant-loop-section : goal.invariant-loop-section
invariant-loop-section l = record {
  text : l.out.whole ≡ true → l.out.text ++ replies_of l.left.items ≡ replies_of l.fn.sections.items;
  sections : All IsSection l.left.items;
}

abbrev pub decreases-loop-section : goal.decreases-loop-section
decreases-loop-section l = length l.left.items
