use Rattle.call_book.proofs.Growing.{wake_grows}
use Rattle.call_book.proofs.book.domain.Domain.wake.Goals as goal

pub invariant_of-self : goal.invariant_of-self
invariant_of-self c =
    let inside = c.self.inside in
    wake_grows inside.cpus inside.limit inside.workers.count inside.left inside.ledger c.enter.new.self inside.stock inside.state c.wake-reply.new.self c.args.number c.args.pass.now c.wake-reply.result c.self.invariant c.enter.ensures.ledger c.wake-reply.ensures.reply c.wake-reply.ensures.domain
