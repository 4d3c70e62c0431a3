use Rattle.std.proofs.Common.{◌≡◌, take}
use Rattle.std.specs.Prelude.{true}
use Rattle.reply_text.specs.Replies.{replies_of}
use Rattle.reply_text.proofs.recorded.write_recorded.Given as goal

abbrev pub invariant-loop-history : goal.invariant-loop-history
invariant-loop-history l = l.out.whole ≡ true → l.out.text ≡ replies_of (take l.history-index l.histories)
