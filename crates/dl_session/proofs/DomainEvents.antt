-- The fault of a replay, as the program tells it.
use Rattle.std.proofs.Common.{ℕ, List}
use Rattle.calls_text.specs.SectionView.{SectionView}
use Rattle.calls_trace.specs.declared.fault.ReplayFault.{ReplayFault}
use Rattle.calls_trace.specs.declared.fault.ReplayFault.TheVariants.{Calls, Read, Write, Memory}
use Rattle.calls_trace.specs.Answer as replays
use Rattle.dl_session.specs.Upward.{of_replay}
use Rattle.dl_session.specs.Answer.{IsSessionFaultBy}

pub logged : (text : List SectionView → List ℕ) (s : replays.Streams) (e : ReplayFault) → replays.IsReplayFaultBy text s e → IsSessionFaultBy text s (of_replay e)
logged text s (Calls n) met = met
logged text s Read met = met
logged text s (Write n) met = met
logged text s Memory met = met
