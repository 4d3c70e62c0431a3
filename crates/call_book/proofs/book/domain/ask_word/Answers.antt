use Rattle.std.proofs.Common.{refl}
use Rattle.call_book.proofs.Regrading.{asked_is_held}
use Rattle.call_book.proofs.book.domain.ask_word.Goals as goal

pub regrade-requires-clause-held : goal.regrade-requires-clause-held
regrade-requires-clause-held g c = asked_is_held c.args.state.now c.args.stock.now.tickets c.args.number c.args.params.now c.requires.held (c.if-not-may_regrade.ensures.room.0 refl)
