-- Two texts as they were read (own).
use Rattle.std.specs.Prelude.{◌≡◌, ℕ, ◌<◌, ◌≤◌, List, [], length, map, take, IfSome, Option}
use Rattle.recorded_text.specs.declared.step.Step.{Step}
use Rattle.recorded_text.specs.Steps.{step_view, AreNamed}
use Rattle.recorded_text.specs.Names.{names_on}
use Rattle.recorded_text.specs.Text.{IsRead}

-- the switches of a text, of which there are some; the names of their tasks stand behind those that
-- were there, as they first come
pub record AreReadFrom (text : Option (List ℕ)) (before names : List (List ℕ)) (steps : List Step)
    : Type 0 where
  pub read : IfSome text (λ bytes. IsRead bytes names steps)
  pub named : AreNamed names steps
  pub called : names ≡ names_on before (map (step_view names) steps)
  pub some : 0 < length steps

-- the model's switches and the recorded ones, and the names of all tasks, of which the first so
-- many are the model's
pub record Pair : Type 0 where
  pub names : List (List ℕ)
  pub many : ℕ
  pub model : List Step
  pub recorded : List Step

abbrev pub pair : List (List ℕ) → ℕ → List Step → List Step → Pair
pair names many model recorded =
    record { names = names; many = many; model = model; recorded = recorded }

-- those of these two texts, the model's and the recorded one, as far as they are known
pub record ArePair (one other : Option (List ℕ)) (p : Pair) : Type 0 where
  pub few : p.many ≤ length p.names
  pub model : AreReadFrom one [] (take p.many p.names) p.model
  pub recorded : AreReadFrom other (take p.many p.names) p.names p.recorded
