use Rattle.std.proofs.Common.{rules, ap, ◌∙◌}
use Rattle.rtapp_dialect.specs.Filling.{values_filled, values_inserted}
use Rattle.rtapp_dialect.proofs.Order.{ordered}
use Rattle.rtapp_dialect.proofs.Sameness.{same_text, no_insertion, fails}
use Rattle.rtapp_dialect.proofs.Kept.{strict_bytes}
use Rattle.rtapp_dialect.proofs.Within.{text_within}
use Rattle.rtapp_dialect.proofs.strict.strict_text.Goals as goal

pub returns-clause-order : goal.returns-clause-order
returns-clause-order c = ordered c.deref.result.now c.in_ok-filled.filled.insertions.items c.in_ok-filled.ensures.insertions

pub returns-in_err-blanked-clause-strict : goal.returns-in_err-blanked-clause-strict
returns-in_err-blanked-clause-strict c = λ j.
    fails c.args.file.now c.from_residual.result j c.from_residual.ensures.0 (search rules)

pub returns-clause-strict : goal.returns-clause-strict
returns-clause-strict c = λ j.
    let blanked = c.deref.ensures.value ∙ c.in_ok-blanked.ensures.value in (
      (
        same_text c.args.file.now c.in_ok-filled.filled.text.items j (c.in_ok-filled.ensures.text ∙ ap values_filled blanked),
        no_insertion c.args.file.now c.in_ok-filled.filled.insertions.items j (c.in_ok-filled.ensures.insertions ∙ ap values_inserted blanked),
      ),
      tt,
    )

pub returns-clause-within : goal.returns-clause-within
returns-clause-within c =
    let blanked = c.deref.ensures.value ∙ c.in_ok-blanked.ensures.value in
    text_within c.args.file.now c.in_ok-filled.filled.text.items c.in_ok-filled.filled.insertions.items (c.in_ok-filled.ensures.text ∙ ap values_filled blanked) (c.in_ok-filled.ensures.insertions ∙ ap values_inserted blanked)

pub returns-clause-bytes : goal.returns-clause-bytes
returns-clause-bytes c =
    let blanked = c.deref.ensures.value ∙ c.in_ok-blanked.ensures.value in
    strict_bytes c.args.file.now c.in_ok-filled.filled.text.items c.in_ok-filled.filled.insertions.items (c.in_ok-filled.ensures.text ∙ ap values_filled blanked) (c.in_ok-filled.ensures.insertions ∙ ap values_inserted blanked)
