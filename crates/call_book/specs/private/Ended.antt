-- What every book at its end keeps.
use Rattle.std.specs.Prelude.{◌≡◌, Bool}
use Rattle.domain_run.specs.Domain.{Domain}
use Rattle.call_book.specs.Book.{BookView, state_of}
use Rattle.call_book.specs.Ending.{left_of}
use Rattle.call_book.specs.private.Kept.{IsBook}

-- the book of the run of its history, of which this is left
pub record IsEnding (b : BookView) (streamed : Bool) (state : Domain) : Type 0 where
  pub kept : IsBook b (state_of b)
  pub left : state ≡ left_of streamed (state_of b)
