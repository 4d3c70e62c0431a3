use Rattle.std.proofs.Common.{Some, List, sym, subst, ◌∙◌, ap}
use Rattle.task_script.specs.script.ScriptView.{PhaseView, IsScript, script_of}
use Rattle.recorded_scripts.specs.Scripts.{phases_of}
use Rattle.recorded_scripts.proofs.Within.{script_within}
use Rattle.recorded_scripts.proofs.script.script_of.Goals as goal

pub round_of-requires : goal.round_of-requires
round_of-requires c =
    subst (λ (ps : List PhaseView). IsScript (script_of (Some 1) ps))
    (sym (c.in_ok-phases_of.ensures ∙ ap (phases_of 64) (c.deref.ensures.value ∙ c.in_ok-events.ensures)))
    (script_within c.args.releases.now c.requires.some c.requires.short)
