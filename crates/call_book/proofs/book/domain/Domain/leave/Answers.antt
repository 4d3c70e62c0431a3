use Rattle.call_book.proofs.Growing.{leave_grows}
use Rattle.call_book.proofs.book.domain.Domain.leave.Goals as goal

pub invariant_of-self : goal.invariant_of-self
invariant_of-self c =
    let inside = c.self.inside in
    leave_grows inside.cpus inside.limit inside.workers.count inside.left inside.ledger c.enter.new.self inside.stock inside.state c.leave-reply.new.self c.args.number c.args.pass.now c.leave-reply.result c.self.invariant c.enter.ensures.ledger c.leave-reply.ensures.reply c.leave-reply.ensures.domain
