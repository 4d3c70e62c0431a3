use Rattle.std.proofs.lemmas.Str.Ascii.{trim_ascii_end_is}
use Rattle.recorded_text.specs.Cuts.{end_trimmed}
use Rattle.recorded_text.proofs.cut.trimmed.Goals as goal

pub returns : goal.returns
unfolding end_trimmed
returns c = trim_ascii_end_is c.args.text.now c.trim_ascii_end.result.now c.trim_ascii_end.ensures.value
