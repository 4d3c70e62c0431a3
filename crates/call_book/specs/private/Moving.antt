-- Whether a task moves, and why it does not.
use Rattle.std.specs.Prelude.{◌≡◌, ◌⊎◌}
use Rattle.domain_run.specs.declared.call.Call.TheVariants.{Depart}
use Rattle.domain_run.specs.declared.call.Reply.TheVariants as replies
use Rattle.domain_run.specs.Calls.{reply_to}
use Rattle.call_book.specs.declared.book.domain.moving.Verdict.{Verdict}
use Rattle.call_book.specs.declared.book.domain.moving.Verdict.TheVariants.{Moves, Full, NotListed, Stale, Twice, Busy}
use Rattle.calls_text.specs.Limits.{IsCall}
use Rattle.call_book.specs.Book.{BookView, AdmissionView, state_of, IsFull}
use Rattle.call_book.specs.MoveAnswers.{BothHaveRoom, IsAsPrepared, IsStale, LacksRoom, arrival}

-- it may move
pub record IsMoveReady (from to : BookView) (a : AdmissionView) : Type 0 where
  pub room : BothHaveRoom from to a
  pub as_prepared : IsAsPrepared from a
  pub goes : reply_to (state_of from) (Depart a.number) ≡ replies.Departed
  pub comes : reply_to (state_of to) (arrival a) ≡ replies.Admitted
  pub spelled : IsCall (Depart a.number)

abbrev pub IsMoveVerdict : BookView → BookView → AdmissionView → Verdict → Type 0
IsMoveVerdict from to a Moves = IsMoveReady from to a
IsMoveVerdict from to a Full =
    IsFull from ⊎ IsFull to ⊎ (reply_to (state_of to) (arrival a) ≡ replies.Full)
IsMoveVerdict from to a NotListed =
    BothHaveRoom from to a × (reply_to (state_of from) (Depart a.number) ≡ replies.NotListed)
IsMoveVerdict from to a (Stale now) = BothHaveRoom from to a × IsStale from a now
IsMoveVerdict from to a Twice =
    BothHaveRoom from to a × IsAsPrepared from a
    × (reply_to (state_of to) (arrival a) ≡ replies.Twice)
IsMoveVerdict from to a (Busy seen) =
    BothHaveRoom from to a × IsAsPrepared from a × LacksRoom to a seen
