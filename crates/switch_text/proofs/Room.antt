-- No line has more than 256 bytes.
use Rattle.std.proofs.Common.{ℕ, ◌+◌, sym, ap, ◌∙◌, append_assoc, [], ◌∷◌, ◌-◌, ◌/◌, ◌%◌, ◌^◌, ◌<◌, ◌≤◌, ◌≡◌, List, ◌++◌, length, replicate, Option, Some, None, arith}
use Rattle.std.specs.Prelude.{decimal, codes, IfSome}
use Rattle.std.proofs.lemmas.Fmt.{length-decimal-le}
use Rattle.std.proofs.lemmas.List.{length-append, length-replicate}
use Rattle.domain_run.specs.declared.switch.PrevState.{PrevState}
use Rattle.domain_run.specs.declared.switch.PrevState.TheVariants.{Running, Preempted, Sleeping, Dead}
use Rattle.switch_text.specs.Names.{Names, name_of_task, HasName}
use Rattle.draft.specs.Columns.{right}
use Rattle.switch_text.specs.Line.{padded_right, digits_in, pid_of, prio_of, title_of, comm_of, letters_of, task_part, cpu_part}
use Rattle.switch_text.proofs.Digits.{digits_three, length-digits_three}
use Rattle.switch_text.specs.private.Parts.{second_part, leaving_part, state_part, coming_part}

-- a task whose name has at most 15 bytes
abbrev pub IsShort : (ℕ → List ℕ) → Option ℕ → Type 0
IsShort names task = IfSome task (λ n. length (names n) ≤ 15)

pub IsShort-from_name : (names : Names) (task : Option ℕ) → IfSome task (HasName names) → IsShort (name_of_task names) task
IsShort-from_name names None h = tt
IsShort-from_name names (Some n) h = h.most

length-right : (width most : ℕ) (text : List ℕ) → width ≤ most → length text ≤ most → length (right width text) ≤ most
length-right width most text h k = omega (arith, length-append (replicate (width - length text) 32) text, length-replicate {A = ℕ} (width - length text) 32)

length-left_in : (width most : ℕ) (text : List ℕ) → width ≤ most → length text ≤ most → length (padded_right width text) ≤ most
length-left_in width most text h k = omega (arith, length-append text (replicate (width - length text) 32), length-replicate {A = ℕ} (width - length text) 32)

length-pid : (task : Option ℕ) → pid_of task < 2 ^ 33 → length (decimal (pid_of task)) ≤ 10
length-pid task lt = length-decimal-le 10 (pid_of task) (omega arith) (omega arith) (omega arith)

length-prio : (task : Option ℕ) → length (prio_of task) ≤ 3
length-prio None = omega arith
length-prio (Some n) = omega arith

length-letters : (state : PrevState) → length (letters_of state) ≤ 2
length-letters Running = omega arith
length-letters Preempted = omega arith
length-letters Sleeping = omega arith
length-letters Dead = omega arith

length-title : (names : ℕ → List ℕ) (task : Option ℕ) → IsShort names task → length (title_of names task) ≤ 16
length-title names None h = omega arith
length-title names (Some n) h = omega arith

length-comm : (names : ℕ → List ℕ) (cpu : ℕ) (task : Option ℕ) → cpu < 512 → IsShort names task → length (comm_of names cpu task) ≤ 15
length-comm names cpu None lt h = omega (arith, length-append (codes "swapper/") (decimal cpu), length-decimal-le 3 cpu (omega arith) (omega arith) (omega arith))
length-comm names cpu (Some n) lt h = h

pub length-task_part : (names : ℕ → List ℕ) (prev : Option ℕ) → IsShort names prev → pid_of prev < 2 ^ 33 → length (task_part names prev) ≤ 27
unfolding task_part
length-task_part names prev h small =
    let title = right 16 (title_of names prev) in
    let number = padded_right 7 (decimal (pid_of prev)) in
    omega (arith, length-append (title ++ codes "-") number, length-append title (codes "-"), length-right 16 16 (title_of names prev) (omega arith) (length-title names prev h), length-left_in 7 10 (decimal (pid_of prev)) (omega arith) (length-pid prev small))

pub length-cpu_part : (cpu : ℕ) → cpu < 512 → length (cpu_part cpu) ≡ 13
unfolding cpu_part
length-cpu_part cpu lt =
    let number = digits_in 3 cpu in
    omega (arith, length-append (codes " [" ++ number) (codes "] d..2. "), length-append (codes " [") number, length-digits_three cpu (omega arith))

-- the CPU's three digits, put down as one and two
pub cpu_text : (cpu n : ℕ) (two : List ℕ) → n ≡ cpu → cpu < 512 → two ≡ digits_in 2 (n % 100) → codes " [" ++ ((48 + n / 100) ∷ []) ++ two ++ codes "] d..2. " ≡ cpu_part cpu
unfolding cpu_part
cpu_text cpu n two e lt q =
    rw (q, e) (ap (λ (ds : List ℕ). ds ++ codes "] d..2. ") (append_assoc (codes " [") ((48 + cpu / 100) ∷ []) (digits_in 2 (cpu % 100)) ∙ ap (λ (ds : List ℕ). codes " [" ++ ds) (sym (digits_three cpu (omega arith)))))

pub length-second_part : (second : ℕ) → second < 10000000 → length (second_part second) ≤ 8
length-second_part second lt =
    omega (arith, length-append (right 5 (decimal second)) (codes "."), length-right 5 7 (decimal second) (omega arith) (length-decimal-le 7 second (omega arith) (omega arith) (omega arith)))

pub length-leaving_part : (names : ℕ → List ℕ) (cpu : ℕ) (prev : Option ℕ) → cpu < 512 → IsShort names prev → pid_of prev < 2 ^ 33 → length (leaving_part names cpu prev) ≤ 61
unfolding leaving_part
length-leaving_part names cpu prev lt h small =
    let b = comm_of names cpu prev ++ codes " prev_pid=" ++ decimal (pid_of prev) in
    let c = b ++ codes " prev_prio=" ++ prio_of prev in
    omega (arith, length-append c (codes " prev_state="), length-append (b ++ codes " prev_prio=") (prio_of prev), length-append b (codes " prev_prio="), length-append (comm_of names cpu prev ++ codes " prev_pid=") (decimal (pid_of prev)), length-append (comm_of names cpu prev) (codes " prev_pid="), length-comm names cpu prev lt h, length-pid prev small, length-prio prev)

pub length-state_part : (state : PrevState) → length (state_part state) ≤ 17
length-state_part state = omega (arith, length-append (letters_of state) (codes " ==> next_comm="), length-letters state)

pub length-coming_part : (names : ℕ → List ℕ) (cpu : ℕ) (next : Option ℕ) → cpu < 512 → IsShort names next → pid_of next < 2 ^ 33 → length (coming_part names cpu next) ≤ 50
unfolding coming_part
length-coming_part names cpu next lt h small =
    let b = comm_of names cpu next ++ codes " next_pid=" ++ decimal (pid_of next) in
    let c = b ++ codes " next_prio=" ++ prio_of next in
    omega (arith, length-append c (codes "\n"), length-append (b ++ codes " next_prio=") (prio_of next), length-append b (codes " next_prio="), length-append (comm_of names cpu next ++ codes " next_pid=") (decimal (pid_of next)), length-append (comm_of names cpu next) (codes " next_pid="), length-comm names cpu next lt h, length-pid next small, length-prio next)
