use Rattle.std.proofs.Common.{◌∙◌, sym, true≢false}
use Rattle.std.proofs.lemmas.Slice.Eq.{bytes_eq-Decides}
use Rattle.command_line.proofs.ImportTexts.{calls_asked, jobs_asked}
use Rattle.command_line.proofs.importing.print_of.Goals as goal

pub returns-then-eq : goal.returns-then-eq
returns-then-eq c = jobs_asked _ _ c.text_of.ensures ((bytes_eq-Decides _ _).0 (sym c.eq.ensures ∙ c.if-eq.true))

pub returns-else-eq : goal.returns-else-eq
returns-else-eq c = calls_asked _ _ c.text_of.ensures (λ is. true≢false (sym ((bytes_eq-Decides _ _).1 is) ∙ (sym c.eq.ensures ∙ c.if-eq.false)))
