use Rattle.call_book.proofs.Regrading.{regrade_grows}
use Rattle.call_book.proofs.book.domain.Domain.regrade.Goals as goal

pub invariant_of-self : goal.invariant_of-self
invariant_of-self g c =
    let inside = c.self.inside in
    regrade_grows inside.cpus inside.limit inside.workers.count inside.left inside.ledger c.enter.new.self inside.stock c.ask_word-word.new.stock inside.state c.regrade-reply.new.self c.args.number c.args.params c.ask_word-word.result c.regrade-reply.result c.args.pass.now c.self.invariant c.enter.ensures.ledger c.ask_word-word.ensures c.regrade-reply.ensures.reply c.regrade-reply.ensures.domain
