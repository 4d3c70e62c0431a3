use Rattle.std.proofs.Common.{◌∙◌, subst, sym, ap, arith}
use Rattle.std.proofs.lemmas.Grind.{common_steps}
use Rattle.atomic_table.specs.Seated.{TableId}
use Rattle.call_book.specs.Book.{BookView}
use Rattle.session.specs.private.Parts.{AreNewPasses}
use Rattle.session.proofs.Opening.{new_passes_are}
use Rattle.session.proofs.parts.book_of.Goals as goal

-- the list of a book's entries
abbrev spine : BookView → TableId
spine b = b.spine

pub open-requires-clause-machine : goal.open-requires-clause-machine
open-requires-clause-machine c = grind (arith, common_steps)

pub returns-in-Ok-clause-passes : goal.returns-in-Ok-clause-passes
returns-in-Ok-clause-passes c =
    let opened = c.in_ok-domain.ensures in
    let same = ap spine (c.in-Ok.ensures.ok ∙ c.set_workers.ensures) in
    subst (λ s. AreNewPasses s c.in_ok-domain.passes.items) (sym same) (new_passes_are _ c.args.options.now.clients _ opened.count opened.passes)
