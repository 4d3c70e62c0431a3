use Rattle.std.proofs.Common.{◌∙◌, ap}
use Rattle.domain_run.specs.Domain.{empty_domain}
use Rattle.calls_text.specs.SectionView.{SectionView}
use Rattle.draft.proofs.CallerLemmas.{joined3, as_text}
use Rattle.reply_text.specs.private.Recorded.{recorded_lines}
use Rattle.reply_text.proofs.Answered.{headed, recorded_is}
use Rattle.reply_text.proofs.recorded.put_history.Goals as goal

pub returns : goal.returns
returns c =
    let s = c.args.history.now in
    let entries = c.deref.ensures.value ∙ ap (λ (x : SectionView). x.entries) c.history.view_is in
    let lines = ap recorded_lines entries ∙ recorded_is (empty_domain s.cpus s.limit) s.entries c.requires.legal in
    as_text c.args.out.now c.put_entries.new.out _ _ (headed s (recorded_lines c.deref.result.now) lines)
    (joined3 c.args.out.now c.put_domain.new.out c.put.new.self c.put_entries.new.out _ _ _ c.put_domain.ensures c.put.ensures c.put_entries.ensures)
