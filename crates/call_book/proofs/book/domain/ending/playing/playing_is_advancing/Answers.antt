use Rattle.call_book.proofs.Played.{played_is_advanced}
use Rattle.call_book.proofs.book.domain.ending.playing.playing_is_advancing.Goals as goal

pub returns : goal.returns
returns c = record { law = played_is_advanced }
