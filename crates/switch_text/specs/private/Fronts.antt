-- A line up to the name of who comes, of parts that are kept ready.
use Rattle.std.specs.Prelude.{ℕ, List, ◌++◌}
use Rattle.switch_text.specs.declared.batch.Front.{Front}
use Rattle.switch_text.specs.Line.{digits_in}
use Rattle.switch_text.specs.private.Parts.{event_part}
use Rattle.switch_text.specs.private.Pieces.{piece_text, short_text_of}

abbrev pub front_text : Front → List ℕ
front_text f =
    short_text_of f.head.now ++ short_text_of f.lane.now ++ digits_in 6 f.micros
    ++ event_part ++ piece_text f.leaving.now ++ short_text_of f.state.now
