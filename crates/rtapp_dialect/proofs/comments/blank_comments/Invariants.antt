use Rattle.std.proofs.Common.{◌≡◌, ◌++◌, drop}
use Rattle.rtapp_dialect.specs.Comments.{blanked_from, comments_blanked, comment_from, unended_comment}
use Rattle.rtapp_dialect.proofs.comments.blank_comments.Given as goal

-- what was written, and what the rest of the text will give
abbrev pub invariant-loop-i : goal.invariant-loop-i
invariant-loop-i l = record { written : l.blanked.items ++ blanked_from l.within (drop l.i l.text) ≡ comments_blanked l.text; fault : comment_from l.within l.comment l.i (drop l.i l.text) ≡ unended_comment l.text }
