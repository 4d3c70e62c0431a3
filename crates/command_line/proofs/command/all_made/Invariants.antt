use Rattle.std.proofs.Common.{◌≡◌, ◌≤◌, length, map, take, vec_capacity}
use Rattle.command_line.specs.private.Made.{AreInTurn, IsOption, of_choice}
use Rattle.command_line.proofs.command.all_made.Given as goal

abbrev pub invariant-loop-choice : goal.invariant-loop-choice
invariant-loop-choice l = record {
  made : AreInTurn IsOption l.all.items (map of_choice (take l.choice-index l.choices));
  count : length l.all.items ≡ l.choice-index;
  room : length l.choices ≤ vec_capacity l.all;
}
