use Rattle.std.proofs.Common.{◌∷◌, take}
use Rattle.std.specs.List.{flat_map}
use Rattle.calls_text.specs.Spelling.{event_text}
use Rattle.draft.specs.Draft.{Adds}
use Rattle.calls_text.proofs.writing.put_events.Given as goal

abbrev pub invariant-loop-event : goal.invariant-loop-event
invariant-loop-event l = Adds l.initial.out l.out (flat_map (λ e. 44 ∷ event_text e) (take l.event-index l.others))
