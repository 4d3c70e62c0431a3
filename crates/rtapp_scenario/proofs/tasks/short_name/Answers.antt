use Rattle.std.specs.Prelude.{string_bytes}
use Rattle.rtapp_scenario.proofs.Named.{cut_name}
use Rattle.rtapp_scenario.proofs.tasks.short_name.Goals as goal

pub unreachable-requires : goal.unreachable-requires
unreachable-requires c = let no = c.in-Err.ensures.named.1 (rw c.truncate.ensures.bytes (cut_name (string_bytes c.args.text) c.requires.bytes c.requires.some)) in cc
