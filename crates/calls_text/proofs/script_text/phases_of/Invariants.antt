use Rattle.std.proofs.Common.{◌≡◌, ◌-◌}
use Rattle.calls_text.specs.private.Reading.{many_at, phase_first_at}
use Rattle.calls_text.proofs.Many.{with_front}
use Rattle.calls_text.proofs.script_text.phases_of.Given as goal

abbrev pub invariant-loop : goal.invariant-loop
invariant-loop l = with_front l.phases.items (many_at phase_first_at (64 - l.counter) l.rest) ≡ many_at phase_first_at 64 l.text
