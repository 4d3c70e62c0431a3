use Rattle.std.proofs.Common.{◌∙◌, sym}
use Rattle.book_tests.proofs.of_book.moves.ends.Goals as goal

pub give_all-requires : goal.give_all-requires
give_all-requires g c k d h =
    (c.close-state.ensures.homes k d h).own ∙ c.args.pair.own ∙ sym c.used_at-there.ensures
