use Rattle.std.proofs.Common.{ℕ, arith}
use Rattle.domain_run.specs.Domain.{Domain}
use Rattle.domain_run.specs.Shift.{just_later}
use Rattle.repeat_law.specs.Shift.{MayShiftFor}
use Rattle.repeat_law.proofs.Dating.{shiftable_of}
use Rattle.repeat_law.proofs.Ticking.{ticks_over}
use Rattle.repeat_law.proofs.Logging.{ticks_log}
use Rattle.repeat_law.proofs.Lasting.{lasts_through, forever, always}
use Rattle.repeat_law.proofs.Repeating.{repeats, after, after_logs, gives_again, logs_again}
use Rattle.repeat_law.proofs.Marking.{marks_paced, marks_go}
use Rattle.repeat_law.proofs.Figuring.{count_again, count_switches}
use Rattle.repeat_law.proofs.Finding.{found}
use Rattle.repeat_law.proofs.Keeping.{kept_over}
use Rattle.repeat_law.proofs.law.repeats_go_on.Goals as goal

-- to be just later asks nothing of the tasks
may_be_later : (k n : ℕ) (d : Domain) → MayShiftFor (just_later k) n d
may_be_later k n d = λ i within j x w some. absurd (omega (arith, some))

pub returns : goal.returns
returns c = record {
  delayed = λ k n d is. ticks_over (just_later k) n d (shiftable_of d is) (may_be_later k n d);
  shifted = λ s n d is may. ticks_over s n d (shiftable_of d is) may;
  shifted_logs = λ s n d is may. ticks_log s n d (shiftable_of d is) may;
  shifted_keeps = λ s d is may early soon. kept_over s d is may early soon;
  unlimited = λ s n d is none may. forever s n d (shiftable_of d is) none may;
  repeats = λ s m d is once lasts. repeats s d (shiftable_of d is) once m lasts;
  switches = λ s m d is once lasts. gives_again s d (shiftable_of d is) once m lasts;
  has_logged = λ s m d is once lasts. logs_again s d (shiftable_of d is) once m lasts;
  after = λ s m n d is once lasts may. after s d (shiftable_of d is) once m n lasts may;
  after_logs = λ s m n d is once lasts may. after_logs s d (shiftable_of d is) once m n lasts may;
  lasts = λ s m n d is once lasts within. lasts_through s m d (shiftable_of d is) once lasts n within;
  always = λ s m n d is none lasts. always s m n d (shiftable_of d is) none lasts;
  counts = count_again;
  counts_switches = count_switches;
  found = found;
  marks = marks_paced;
  has_periods = marks_go;
}
