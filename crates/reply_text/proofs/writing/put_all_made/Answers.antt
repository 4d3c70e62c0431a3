use Rattle.std.proofs.Common.{◌≡◌, ◌∷◌, length, ap, arith}
use Rattle.std.proofs.lemmas.List.Elements.{All-rest}
use Rattle.calls_text.specs.Limits.{IsEntry}
use Rattle.reply_text.proofs.Answered.{made_more}
use Rattle.reply_text.proofs.writing.put_all_made.Goals as goal

pub loop-entry-preserved : goal.loop-entry-preserved
loop-entry-preserved c =
    let i = c.loop-entry.invariant in
    let e = c.in-Some.entry in
    let left = c.pop_front.new.self.items in
    let first : c.loop-entry.left.items ≡ e ∷ left = c.in-Some.ensures.items in
    let long = ap length first in
    let made = c.put_made.ensures in
    record {
      text = λ whole.
          let put = made.text whole in
          let was = i.text put.0 in
          (was.0, made_more c.loop-entry.domain c.put_made.new.domain e left c.loop-entry.left.items c.loop-entry.out.text c.put_made.new.out.text _ first made.domain put.1 was.1);
      entries = All-rest IsEntry e left c.loop-entry.left.items first i.entries;
      early = omega (arith, i.early, made.time, long);
    }
