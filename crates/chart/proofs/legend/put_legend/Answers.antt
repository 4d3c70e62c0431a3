use Rattle.std.proofs.Common.{ℕ, List, ap, ◌∙◌}
use Rattle.chart.specs.Legend.{legend_of}
use Rattle.draft.proofs.CallerLemmas.{as_text}
use Rattle.chart.proofs.legend.put_legend.Goals as goal

pub returns-in-Ok : goal.returns-in-Ok
returns-in-Ok c =
    as_text c.args.out.now c.put_legend_of.new.out _ _
    (ap (λ (cpus : List ℕ). legend_of c.args.sheet.now cpus) (c.deref.ensures.value ∙ c.in-Ok.ensures.cpus))
    c.put_legend_of.ensures
