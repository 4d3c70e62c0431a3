use Rattle.std.proofs.Common.{rules}
use Rattle.cpu_marks.proofs.Words.{beyond_here, beyond_only, beyond_bare}
use Rattle.cpu_marks.proofs.beyond.Goals as goal

pub returns-clause-here : goal.returns-clause-here
returns-clause-here c = λ i h. beyond_here c.args.marks c.args.others i h

pub returns-clause-only : goal.returns-clause-only
returns-clause-only c = λ i h. beyond_only c.args.marks c.args.others i (search rules) (search rules) h

pub returns-clause-bare : goal.returns-clause-bare
returns-clause-bare c = λ i h bare. beyond_bare c.args.marks c.args.others i (search rules) (search rules) h bare
