use Rattle.std.proofs.lemmas.Str.Ascii.{trim_ascii_start_is}
use Rattle.recorded_text.specs.Threads.{start_trimmed}
use Rattle.recorded_text.proofs.cut.trimmed_start.Goals as goal

pub returns : goal.returns
unfolding start_trimmed
returns c = trim_ascii_start_is c.args.text.now c.trim_ascii_start.result.now c.trim_ascii_start.ensures.value
