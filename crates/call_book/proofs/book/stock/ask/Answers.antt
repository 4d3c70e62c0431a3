use Rattle.call_book.proofs.Words.{refused_answer, changed_answer}
use Rattle.call_book.proofs.book.stock.ask.Goals as goal

pub returns-in-Refused : goal.returns-in-Refused
returns-in-Refused g c = refused_answer c.args.ticket c.in-Refused.ticket c.args.bw c.in-Refused.seen c.used_of.result c.in-Refused.ensures c.used_of.ensures

pub returns-in-Changed : goal.returns-in-Changed
returns-in-Changed g c = changed_answer c.args.ticket c.in-Changed.ticket c.args.bw c.in-Changed.ensures
