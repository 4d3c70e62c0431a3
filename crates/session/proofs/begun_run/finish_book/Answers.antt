use Rattle.std.proofs.Common.{◌∙◌, ap}
use Rattle.session.specs.private.Begun.{without_pieces}
use Rattle.session.proofs.begun_run.finish_book.Goals as goal

pub returns : goal.returns
returns c = ap without_pieces c.finish.ensures.swept.book ∙ ap without_pieces c.make_rest.ensures.book
