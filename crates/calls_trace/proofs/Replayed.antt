-- What a replay of a text says of it, and of its writer.
use Rattle.std.proofs.Common.{◌≡◌, ℕ, List, [], ◌∷◌}
use Rattle.calls_text.specs.SectionView.{SectionView}
use Rattle.calls_text.specs.Spelling.{spelling}
use Rattle.calls_text.specs.Limits.{AreRead}
use Rattle.counted_io.specs.Sides.{Side}
use Rattle.calls_trace.specs.declared.fault.TraceFault.{TraceFault}
use Rattle.calls_trace.specs.declared.fault.TraceFault.TheVariants as traces
use Rattle.calls_trace.specs.Upward.{of_trace}
use Rattle.calls_trace.specs.Written.{IsUnwritten}
use Rattle.calls_trace.specs.private.Replayed.{IsUnreplayed}

-- a text of sections that was not written whole
pub unwritten : (text : List ℕ) (wanted : List SectionView → List ℕ) (w : Side) (sections : List SectionView) (fault : TraceFault) → AreRead sections → text ≡ spelling sections → IsUnwritten w (wanted sections) fault → IsUnreplayed text wanted w (of_trace fault)
unwritten text wanted w sections (traces.Write written) read spelled cut = record { spells = record { sections = sections; read = read; spelled = spelled }; cut = cut }
unwritten text wanted w sections traces.Memory read spelled kept = kept
