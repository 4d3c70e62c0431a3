-- What the program says of refused tasks, line by line.
use Rattle.std.proofs.Common.{◌≡◌, ◌∙◌, ◌+◌, ◌<◌, ◌++◌, ℕ, List, [], ap, sym, take, length, get_or}
use Rattle.std.specs.List.{flat_map}
use Rattle.std.proofs.lemmas.List.{flat_map_more, take_more}
use Rattle.dl_session.specs.Ending.{refused_task_line}
use Rattle.session.specs.declared.refusal.Refusal.{Refusal}

-- the lines of the first tasks, and then that of the next one
pub task_lines_more : (xs : List (ℕ × Refusal)) (i : ℕ) (d : ℕ × Refusal) → i < length xs → flat_map refused_task_line (take i xs) ++ refused_task_line (get_or xs i d) ≡ flat_map refused_task_line (take (i + 1) xs)
task_lines_more xs i d inside = flat_map_more refused_task_line [] (take i xs) (get_or xs i d) ∙ ap (flat_map refused_task_line) (sym (take_more xs i d inside))
