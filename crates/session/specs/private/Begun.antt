-- The books of a session while their ticks are made.
use Rattle.std.specs.Prelude.{◌≡◌, ◌<◌, Bool, []}
use Rattle.call_book.specs.Book.{BookView}
use Rattle.call_book.specs.Playing.{PlayingView, played_from}
use Rattle.session.specs.private.Ending.{unstreamed_ending}

-- a book with a buffer, in which nothing more is entered yet
abbrev pub unplayed : Bool → BookView → PlayingView
unplayed logs b = played_from logs (unstreamed_ending b)

-- a book apart from its pieces
abbrev pub without_pieces : BookView → BookView
without_pieces b = record b { tickets = []; blanks = [] }
