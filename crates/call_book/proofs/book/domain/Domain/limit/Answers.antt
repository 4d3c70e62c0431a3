use Rattle.std.proofs.Common.{◌++◌, ◌∷◌, [], ℕ, ◌*◌, length, Some, sym, ap, ◌∙◌, subst}
use Rattle.domain_run.specs.declared.call.Call.TheVariants as Call
use Rattle.domain_run.specs.declared.call.Reply.{Reply}
use Rattle.call_book.specs.Book.{BookView, entry_by, with_entry}
use Rattle.call_book.specs.LimitAnswers.{word_of_blank, IsLimitSet}
use Rattle.call_book.specs.private.Kept.{book_of, IsBook}
use Rattle.call_book.proofs.Growing.{has_room}
use Rattle.call_book.proofs.Limiting.{asked_of_book, is_set, not_refused, set_entry, set_pass, set_state, limit_refused_grows, limit_set_grows, limit_set_answer, limit_busy_answer}
use Rattle.call_book.proofs.book.domain.Domain.limit.Goals as goal

pub invariant_of-self : goal.invariant_of-self
invariant_of-self g c =
    let inside = c.self.inside in
    let p = c.args.pass.now in
    let word = c.ask_limit-blank.result.1 in
    let more = c.enter.ensures.ledger ∙ ap (λ (r : Reply). record inside.ledger { history = inside.ledger.history ++ entry_by p (Call.Limit c.args.limit word) r ∷ [] }) c.in-Busy.is in
    limit_refused_grows inside.cpus inside.limit inside.workers.count inside.left inside.ledger c.enter.new.self inside.stock inside.state c.set_limit-reply.new.self c.args.limit word c.in-Busy.seen p c.self.invariant more (sym c.in-Busy.is ∙ c.set_limit-reply.ensures.reply) c.set_limit-reply.ensures.domain

pub invariant_of-self-in_default : goal.invariant_of-self-in_default
invariant_of-self-in_default g c =
    let inside = c.self.inside in
    let p = c.args.pass.now in
    let back = c.ask_limit-blank.result.0 in
    let word = c.ask_limit-blank.result.1 in
    let reply = c.set_limit-reply.result in
    let lawful = c.set_limit-reply.ensures.reply in
    let set = not_refused inside.state c.args.limit word reply lawful c.in_default.not-Busy in
    let logged = is_set inside.state c.args.gate.now c.domain-domain.result c.args.limit c.args.blank back word c.ask_limit-blank.ensures set in
    let carries = logged.2.answer.0 ∙ ap (λ (n : ℕ). n * c.args.limit) c.self.invariant.machine.0 in
    let more = set_entry inside.ledger c.enter.new.self p c.args.limit word reply c.enter.ensures.ledger logged.0 (lawful ∙ set) in
    let becomes = set_state inside.state c.set_limit-reply.new.self c.args.limit word c.set_limit-reply.ensures.domain set in
    let grown = limit_set_grows inside.cpus inside.limit inside.workers.count inside.left inside.ledger c.enter.new.self inside.stock inside.state c.set_limit-reply.new.self c.args.limit (word_of_blank back) p c.self.invariant c.requires.limit carries more logged.1 becomes in
    subst (λ (n : ℕ). IsBook (book_of inside.cpus inside.limit inside.workers.count (Some n) c.enter.new.self inside.stock) c.set_limit-reply.new.self) (sym c.last.ensures) grown

pub returns-in-Busy-clause-answer : goal.returns-in-Busy-clause-answer
returns-in-Busy-clause-answer g c =
    let inside = c.self.inside in
    let p = c.args.pass.now in
    let back = c.ask_limit-blank.result.0 in
    let word = c.ask_limit-blank.result.1 in
    let more = c.enter.ensures.ledger ∙ ap (λ (r : Reply). record inside.ledger { history = inside.ledger.history ++ entry_by p (Call.Limit c.args.limit word) r ∷ [] }) c.in-Busy.is in
    let made = c.enter.ensures.pass ∙ ap (λ (r : Reply). with_entry p (Call.Limit c.args.limit word) r) c.in-Busy.is in
    let own = c.requires.gate ∙ sym (ap (λ (b : BookView). b.gate) c.self.view_is) in
    let asked = asked_of_book inside.state c.args.gate.now inside.stock.gate c.domain-domain.result inside.stock.domain c.args.limit c.args.blank back word own c.domain-domain.ensures c.ask_limit-blank.ensures in
    let free = has_room c.is_full.result (length inside.ledger.history) inside.ledger.room c.is_full.ensures.full c.if-is_full.false c.is_full.ensures.history.within in
    limit_busy_answer c.args.self.now inside.cpus inside.limit inside.workers.count inside.left inside.ledger c.enter.new.self inside.stock inside.state c.set_limit-reply.new.self c.args.limit c.args.blank back word c.in-Busy.seen p c.enter.new.pass c.self.view_is c.self.invariant free more made asked (sym c.in-Busy.is ∙ c.set_limit-reply.ensures.reply) c.set_limit-reply.ensures.domain

pub returns-in_default : goal.returns-in_default
returns-in_default g c =
    let inside = c.self.inside in
    let p = c.args.pass.now in
    let back = c.ask_limit-blank.result.0 in
    let word = c.ask_limit-blank.result.1 in
    let reply = c.set_limit-reply.result in
    let lawful = c.set_limit-reply.ensures.reply in
    let set = not_refused inside.state c.args.limit word reply lawful c.in_default.not-Busy in
    let own = c.requires.gate ∙ sym (ap (λ (b : BookView). b.gate) c.self.view_is) in
    let asked = asked_of_book inside.state c.args.gate.now inside.stock.gate c.domain-domain.result inside.stock.domain c.args.limit c.args.blank back word own c.domain-domain.ensures c.ask_limit-blank.ensures in
    let logged = is_set inside.state inside.stock.gate inside.stock.domain c.args.limit c.args.blank back word asked set in
    let more = set_entry inside.ledger c.enter.new.self p c.args.limit word reply c.enter.ensures.ledger logged.0 (lawful ∙ set) in
    let made = set_pass p c.enter.new.pass c.args.limit word reply c.enter.ensures.pass logged.0 (lawful ∙ set) in
    let becomes = set_state inside.state c.set_limit-reply.new.self c.args.limit word c.set_limit-reply.ensures.domain set in
    let free = has_room c.is_full.result (length inside.ledger.history) inside.ledger.room c.is_full.ensures.full c.if-is_full.false c.is_full.ensures.history.within in
    let answer = limit_set_answer c.args.self.now inside.cpus inside.limit inside.workers.count inside.left inside.ledger c.enter.new.self inside.stock inside.state c.set_limit-reply.new.self c.args.limit c.args.blank back p c.enter.new.pass c.self.view_is c.self.invariant c.requires.limit free more made logged.1 logged.2 becomes in
    record {
      answer = subst (λ (n : ℕ). IsLimitSet c.args.self.now (book_of inside.cpus inside.limit inside.workers.count (Some n) c.enter.new.self inside.stock) p c.enter.new.pass c.args.limit c.args.blank back) (sym c.last.ensures) answer;
      own = logged.2.own ∙ c.requires.blank;
    }
