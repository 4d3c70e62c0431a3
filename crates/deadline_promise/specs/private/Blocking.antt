-- How some events block.
use Rattle.std.specs.Prelude.{ℕ, min, true, false, not, ◌&&◌, Bool, List, fold, Option, Some, None}
use Rattle.task_script.specs.declared.phase.Event.{Event}
use Rattle.task_script.specs.declared.phase.Event.TheVariants.{Run, Sleep, Timer, Wait}
use Rattle.task_script.specs.script.ScriptView.{PhaseView}
use Rattle.deadline_promise.specs.declared.blocks.Blocks.{Blocks}

abbrev pub no_blocks : Blocks
no_blocks = record { gap = None; timers = false; sleeps = false; waits = false }

-- the lesser of two gaps, if there was one before
abbrev pub lesser_gap : Option ℕ → ℕ → Option ℕ
lesser_gap None n = Some n
lesser_gap (Some g) n = Some (min g n)

-- with one event more
abbrev pub with_block : Blocks → Event → Blocks
with_block b (Run n) = b
with_block b (Sleep n) = record b { gap = lesser_gap b.gap n; sleeps = true }
with_block b (Timer n) = record b { gap = lesser_gap b.gap n; timers = true }
with_block b Wait = record b { waits = true }

abbrev pub with_blocks : Blocks → List Event → Blocks
with_blocks b events = fold with_block b events

abbrev pub blocks_of_phases : List PhaseView → Blocks
blocks_of_phases phases = fold (λ b p. with_blocks b p.events) no_blocks phases

-- by timers alone, or by sleeps alone
abbrev pub are_alike : Blocks → Bool
are_alike b = not b.waits && not (b.timers && b.sleeps)
