use Rattle.std.proofs.Common.{◌∙◌}
use Rattle.book_tests.proofs.of_book.closed.Goals as goal

pub close-words-requires-clause-tickets : goal.close-words-requires-clause-tickets
close-words-requires-clause-tickets c = λ k d h. (c.close-state.ensures.homes k d h).own ∙ c.args.desk.own
