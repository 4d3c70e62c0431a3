use Rattle.std.proofs.Common.{Option, ap, sym}
use Rattle.compare_report.specs.declared.finding.Missing.{Missing}
use Rattle.compare_report.specs.Text.{differences_told}
use Rattle.draft.proofs.CallerLemmas.{joined, as_text}
use Rattle.compare_report.proofs.text.put_differences.Goals as goal

pub returns-in-Some : goal.returns-in-Some
returns-in-Some c =
    as_text c.args.out.now c.put_some_other.new.out _ _ (ap (λ (m : Option Missing). differences_told m c.args.other) (sym c.in-Some.is))
    (joined c.args.out.now c.put_missing.new.out c.put_some_other.new.out _ _ c.put_missing.ensures c.put_some_other.ensures)
