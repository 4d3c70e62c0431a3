use Rattle.std.proofs.Common.{◌∙◌}
use Rattle.switch_text.proofs.slices.fill_round.Goals as goal

pub returns-clause-whole : goal.returns-clause-whole
returns-clause-whole g c = c.fill_all.ensures.whole ∙ c.requires.keeps _ _ c.ahead.ensures

pub returns-clause-kept : goal.returns-clause-kept
returns-clause-kept g c = c.fill_all.ensures.kept ∙ c.requires.leaves _ _ c.ahead.ensures
