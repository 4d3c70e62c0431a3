-- No line of what happens has more than 256 bytes.
use Rattle.std.proofs.Common.{ℕ, ◌+◌, append_assoc, ◌/◌, ◌%◌, ◌^◌, ◌<◌, ◌≤◌, ◌≡◌, List, ◌++◌, length, Option, arith}
use Rattle.std.specs.Prelude.{decimal, IfSome}
use Rattle.std.proofs.lemmas.Fmt.{length-decimal-le}
use Rattle.domain_run.specs.declared.happened.What.{What}
use Rattle.domain_run.specs.declared.happened.What.TheVariants.{JobEnds, NextReleased, Spent, Cut, Replenished, Released, WokenSpent}
use Rattle.domain_run.specs.declared.happened.Happened.{Happened}
use Rattle.switch_text.specs.Names.{Names, HasName}
use Rattle.switch_text.specs.Line.{digits_in, task_part, cpu_part, time_part}
use Rattle.switch_text.specs.LoggedLine.{stands_in_front, event_fields, logged_line_of}
use Rattle.switch_text.specs.private.Parts.{second_part}

pub seconds_fit : (time : ℕ) → time < 2 ^ 64 → length (decimal (time / 1000000)) ≤ 14
seconds_fit time lt = length-decimal-le 14 (time / 1000000) (omega arith) (omega arith) (omega arith)

pub pid_fits : (pid : ℕ) → pid < 2 ^ 33 → length (decimal pid) ≤ 10
pid_fits pid lt = length-decimal-le 10 pid (omega arith) (omega arith) (omega arith)

-- who stands in front has a name where the task has one
pub HasName-in_front : (names : Names) (what : What) (number : ℕ) → HasName names number → IfSome (stands_in_front what number) (HasName names)
HasName-in_front names JobEnds number h = h
HasName-in_front names (NextReleased deadline) number h = h
HasName-in_front names (Spent deadline) number h = h
HasName-in_front names Cut number h = tt
HasName-in_front names (Replenished deadline) number h = tt
HasName-in_front names (Released deadline) number h = tt
HasName-in_front names (WokenSpent deadline) number h = tt

-- a line, of the parts that are put down one after another
pub logged_line_of-by_parts : (names : ℕ → List ℕ) (base : ℕ) (h : Happened) (front : Option ℕ) (cpu : ℕ) (t1 t2 t3 t4 t5 : List ℕ) → front ≡ stands_in_front h.what h.number → cpu ≡ base + h.cpu
    → t1 ≡ task_part names front → t2 ≡ t1 ++ cpu_part cpu → t3 ≡ t2 ++ second_part (h.time / 1000000) → t4 ≡ t3 ++ digits_in 6 (h.time % 1000000) → t5 ≡ t4 ++ event_fields names cpu h.number h.what
    → t5 ≡ logged_line_of names base h
unfolding logged_line_of time_part
logged_line_of-by_parts names base h front cpu t1 t2 t3 t4 t5 e f p1 p2 p3 p4 p5 = rw (p5, p4, p3, p2, p1, e, f) (simp append_assoc)
