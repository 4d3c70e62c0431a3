use Rattle.std.proofs.Common.{◌≡◌, ◌∷◌}
use Rattle.std.proofs.lemmas.List.Elements.{All-rest}
use Rattle.calls_text.specs.Limits.{IsSection}
use Rattle.reply_text.proofs.Answered.{section_more}
use Rattle.reply_text.proofs.writing.write_replies.Goals as goal

pub loop-section-preserved : goal.loop-section-preserved
loop-section-preserved c =
    let i = c.loop-section.invariant in
    let s = c.in-Some.section in
    let left = c.pop_front.new.self.items in
    let first : c.loop-section.left.items ≡ s ∷ left = c.in-Some.ensures.items in
    record {
      text = λ whole. let put = c.in_ok-put_section.ensures whole in section_more s left c.loop-section.left.items c.loop-section.out.text c.put_section.new.out.text _ first put.1 (i.text put.0);
      sections = All-rest IsSection s left c.loop-section.left.items first i.sections;
    }
