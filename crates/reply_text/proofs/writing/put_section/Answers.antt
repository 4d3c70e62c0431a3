use Rattle.std.proofs.Common.{ap, ◌∙◌}
use Rattle.domain_run.specs.Domain.{empty_domain}
use Rattle.calls_text.specs.SectionView.{SectionView}
use Rattle.draft.proofs.CallerLemmas.{joined3, as_text}
use Rattle.reply_text.proofs.Answered.{headed, lines_of}
use Rattle.reply_text.proofs.writing.put_section.Goals as goal

pub returns : goal.returns
returns c =
    let s = c.args.section in
    let old = c.args.out.now in
    let new = c.put_all_made.new.out in
    let domain = c.in_ok-domain.ensures ∙ c.in_ok-state.ensures ∙ ap (λ (x : SectionView). empty_domain x.cpus x.limit) c.section.view_is in
    let all = ap (λ (x : SectionView). x.entries) c.section.view_is in
    as_text old new _ _ (headed s _ (lines_of s c.in_ok-domain.domain c.section.inside.entries.items domain all)) (joined3 old c.put_domain.new.out c.put.new.self new _ _ _ c.put_domain.ensures c.put.ensures c.put_all_made.ensures)
