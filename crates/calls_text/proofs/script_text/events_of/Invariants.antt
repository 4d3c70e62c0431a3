use Rattle.std.proofs.Common.{◌≡◌, ◌-◌}
use Rattle.calls_text.specs.private.Reading.{many_at, event_first_at}
use Rattle.calls_text.proofs.Many.{with_front}
use Rattle.calls_text.proofs.script_text.events_of.Given as goal

abbrev pub invariant-loop : goal.invariant-loop
invariant-loop l = with_front l.events.items (many_at event_first_at (64 - l.counter) l.rest) ≡ many_at event_first_at 64 l.text
