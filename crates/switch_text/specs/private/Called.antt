-- How a task, or the idle task of a CPU, is called in lines.
use Rattle.std.specs.Prelude.{ℕ, ◌≡◌, ◌≤◌, List, length, decimal, Option}
use Rattle.switch_text.specs.declared.called.Called.{Called}
use Rattle.switch_text.specs.Line.{pid_of, title_of, comm_of}
use Rattle.switch_text.specs.private.Pieces.{short_text_of}

pub record IsCalled (names : ℕ → List ℕ) (cpu : ℕ) (task : Option ℕ) (c : Called) : Type 0 where
  pub title : short_text_of c.title ≡ title_of names task
  pub title_short : length (short_text_of c.title) ≤ 15
  pub comm : short_text_of c.comm ≡ comm_of names cpu task
  pub comm_short : length (short_text_of c.comm) ≤ 15
  pub pid : short_text_of c.pid ≡ decimal (pid_of task)
  pub pid_short : length (short_text_of c.pid) ≤ 10
