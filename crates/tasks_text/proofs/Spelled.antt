-- The lines of tasks.
use Rattle.std.proofs.Common.{◌≡◌, ℕ, ◌<◌, Bool, true, false, cond, List, ◌∷◌, ◌++◌, refl, subst, inl, arith}
use Rattle.std.specs.Prelude.{codes, decimal}
use Rattle.attr_check.specs.ParamsView.{ParamsView}
use Rattle.calls_text.specs.Spelling.{flag_text}
use Rattle.tasks_text.specs.declared.task.Task.{Task}
use Rattle.tasks_text.specs.Tasks.{pid_text, task_line, IsTask}
use Rattle.tasks_text.specs.private.Lines.{LacksByte, params_fields, AreTaskFields}
use Rattle.tasks_text.proofs.Lacking.{LacksByte-append, lacks_not, same_front, plain_lacks, name_lacks, decimal_lacks, pid_lacks, names_same}

flag_lacks_by : (c : ℕ) (reclaim : Bool) → c < 45 → LacksByte c (cond reclaim (codes "R") (codes "-"))
flag_lacks_by c true low = ((λ e. omega (arith, e, low)), tt)
flag_lacks_by c false low = ((λ e. omega (arith, e, low)), tt)

between_lacks : (a b : List ℕ) → LacksByte 10 a → LacksByte 10 b → LacksByte 10 (a ++ 32 ∷ b)
between_lacks a b h k = LacksByte-append 10 a (32 ∷ b) h ((λ e. omega (arith, e)), k)

params_lack : (p : ParamsView) → LacksByte 10 (params_fields p)
params_lack p =
    let flag = between_lacks (decimal p.period) (flag_text p) (decimal_lacks 10 p.period (inl (omega arith))) (flag_lacks_by 10 p.reclaim (omega arith)) in
    let deadline = between_lacks (decimal p.deadline) (decimal p.period ++ 32 ∷ flag_text p) (decimal_lacks 10 p.deadline (inl (omega arith))) flag in
    between_lacks (decimal p.runtime) (decimal p.deadline ++ 32 ∷ (decimal p.period ++ 32 ∷ flag_text p)) (decimal_lacks 10 p.runtime (inl (omega arith))) deadline

first_lacks : (c : ℕ) (t : Task) → IsTask t → c < 33 → LacksByte c (t.name ++ pid_text t.pid)
first_lacks c t is low = LacksByte-append c t.name (pid_text t.pid) (name_lacks c t.name low is.named.bytes) (pid_lacks c t.pid (omega (arith, low)))

pub line_parts : (t : Task) → task_line t ≡ (t.name ++ pid_text t.pid) ++ 32 ∷ params_fields t.params
line_parts t = refl

pub line_lacks : (t : Task) → IsTask t → LacksByte 10 (task_line t)
line_lacks t is = between_lacks (t.name ++ pid_text t.pid) (params_fields t.params) (first_lacks 10 t is (omega arith)) (params_lack t.params)

pub line_has_space : (t : Task) (line : List ℕ) → LacksByte 32 line → line ≡ task_line t → ⊥
line_has_space t line lacks e = lacks_not 32 (t.name ++ pid_text t.pid) (params_fields t.params) (subst (LacksByte 32) e lacks)

pub line_fields : (t : Task) (first rest : List ℕ) → IsTask t → LacksByte 32 first → first ++ 32 ∷ rest ≡ task_line t → AreTaskFields t first rest
line_fields t first rest is lacks e =
    let s = same_front 32 first (t.name ++ pid_text t.pid) rest (params_fields t.params) lacks (first_lacks 32 t is (omega arith)) e in
    record { first_is = s.0; rest_is = s.1 }

-- tasks of one line have one name
pub line_names : (t u : Task) → IsTask t → IsTask u → task_line t ≡ task_line u → t.name ≡ u.name
line_names t u it iu e =
    let s = same_front 32 (t.name ++ pid_text t.pid) (u.name ++ pid_text u.pid) (params_fields t.params) (params_fields u.params) (first_lacks 32 t it (omega arith)) (first_lacks 32 u iu (omega arith)) e in
    (names_same t.name u.name t.pid u.pid (plain_lacks 61 t.name it.plain) (plain_lacks 61 u.name iu.plain) s.0).0
