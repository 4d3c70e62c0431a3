-- The parts of a line, of how it calls a task.
use Rattle.std.proofs.Common.{ℕ, ◌≡◌, ◌∙◌, List, Option, refl}
use Rattle.std.specs.Prelude.{decimal}
use Rattle.switch_text.specs.declared.called.Called.{Called}
use Rattle.switch_text.specs.declared.ready.Slot.{Slot}
use Rattle.switch_text.specs.Line.{pid_of, title_of, comm_of, task_part}
use Rattle.switch_text.specs.private.Called.{IsCalled}
use Rattle.switch_text.specs.private.Parts.{task_text, leaving_text, coming_text, leaving_part, coming_part}
use Rattle.switch_text.specs.private.Pieces.{piece_text, short_text_of}
use Rattle.switch_text.specs.private.Ready.{IsSlotReady}

pub task_text-is : (names : ℕ → List ℕ) (task : Option ℕ) (title pid : List ℕ) → title ≡ title_of names task → pid ≡ decimal (pid_of task) → task_text title pid ≡ task_part names task
unfolding task_text task_part
task_text-is names task title pid t p = rw (t, p) refl

pub leaving_text-is : (names : ℕ → List ℕ) (cpu : ℕ) (task : Option ℕ) (comm pid : List ℕ) → comm ≡ comm_of names cpu task → pid ≡ decimal (pid_of task) → leaving_text comm pid task ≡ leaving_part names cpu task
unfolding leaving_text leaving_part
leaving_text-is names cpu task comm pid c p = rw (c, p) refl

pub coming_text-is : (names : ℕ → List ℕ) (cpu : ℕ) (task : Option ℕ) (comm pid : List ℕ) → comm ≡ comm_of names cpu task → pid ≡ decimal (pid_of task) → coming_text comm pid task ≡ coming_part names cpu task
unfolding coming_text coming_part
coming_text-is names cpu task comm pid c p = rw (c, p) refl

pub IsReady-called : (names : ℕ → List ℕ) (cpu : ℕ) (task : Option ℕ) (c : Called) (s : Slot) → IsCalled names cpu task c
    → short_text_of s.head ≡ task_text (short_text_of c.title) (short_text_of c.pid)
    → piece_text s.leaving ≡ leaving_text (short_text_of c.comm) (short_text_of c.pid) task
    → piece_text s.coming ≡ coming_text (short_text_of c.comm) (short_text_of c.pid) task
    → IsSlotReady names cpu task s
IsReady-called names cpu task c s is h l e = record {
  head = h ∙ task_text-is names task (short_text_of c.title) (short_text_of c.pid) is.title is.pid;
  leaving = l ∙ leaving_text-is names cpu task (short_text_of c.comm) (short_text_of c.pid) is.comm is.pid;
  coming = e ∙ coming_text-is names cpu task (short_text_of c.comm) (short_text_of c.pid) is.comm is.pid;
}
