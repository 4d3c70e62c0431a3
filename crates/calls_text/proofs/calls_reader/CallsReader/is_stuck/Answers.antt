use Rattle.std.proofs.Common.{rules}
use Rattle.calls_text.proofs.calls_reader.CallsReader.is_stuck.Goals as goal

pub returns-then-self-eq-MOST_SECTIONS : goal.returns-then-self-eq-MOST_SECTIONS
returns-then-self-eq-MOST_SECTIONS c = search rules
