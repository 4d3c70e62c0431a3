use Rattle.std.proofs.lemmas.List.Elements.{All-replicate}
use Rattle.switch_text.specs.declared.ready.Who.TheVariants.{Nobody}
use Rattle.std.proofs.Common.{◌≡◌}
use Rattle.switch_text.proofs.ready.no_slots.Goals as goal

pub returns : goal.returns
returns c = All-replicate (λ s. s.who ≡ Nobody) 640 c.no_slot.result c.no_slot.ensures
