-- The texts that are kept, and the lines that are made of them.
use Rattle.std.proofs.Common.{◌≡◌, ℕ, zero, suc, ◌+◌, ◌/◌, ◌%◌, ◌<◌, List, [], ◌∷◌, ◌++◌, length, get_or, Option, Some, None, refl, sym, ap, ◌∙◌, subst, append_assoc, arith}
use Rattle.std.specs.Prelude.{codes, decimal, All, IfSome}
use Rattle.std.proofs.lemmas.List.Elements.{All-weaker}
use Rattle.domain_run.specs.Switch.{Switch}
use Rattle.domain_run.specs.declared.switch.PrevState.{PrevState}
use Rattle.domain_run.specs.declared.switch.PrevState.TheVariants.{Running, Preempted, Sleeping, Dead}
use Rattle.switch_text.specs.declared.piece.ShortPiece.{ShortPiece}
use Rattle.switch_text.specs.declared.run.Run.{Run}
use Rattle.switch_text.specs.declared.merge.Next.{Next}
use Rattle.switch_text.specs.declared.ready.Who.{Who}
use Rattle.switch_text.specs.declared.ready.Who.TheVariants.{Nobody, Idle, Task}
use Rattle.switch_text.specs.declared.ready.Slot.{Slot}
use Rattle.switch_text.specs.Names.{name_of_task, SameNames}
use Rattle.switch_text.specs.Line.{digits_in, pid_of, prio_of, comm_of, letters_of, task_part, cpu_part, time_part, prev_part, next_part, switch_line}
use Rattle.switch_text.specs.private.Parts.{second_part, event_part, leaving_part, state_part, coming_part}
use Rattle.switch_text.specs.private.Pieces.{piece_text, short_text_of}
use Rattle.switch_text.specs.private.Merging.{IsRunAt, IsAmong, IsNextNamed}
use Rattle.switch_text.specs.private.Ready.{IsSlotReady, names_at, who_of, RunsHaveNames, AreNobodys, IsFor, IsSlot, nth_state}
use Rattle.switch_text.proofs.CallerLemmas.{task_part-same, line_of-same_names, SameNames-everywhere}

pub names_at-is : (runs : List Run) (i : ℕ) (r : Run) → i < length runs → r ≡ get_or runs i r → names_at runs i ≡ name_of_task r.names.now
names_at-is [] i r inside is = absurd (omega arith)
names_at-is (x ∷ runs) zero r inside is = ap (λ (q : Run). name_of_task q.names.now) (sym is)
names_at-is (x ∷ runs) (suc i) r inside is = names_at-is runs i r (omega arith) is

-- ---- how tasks are named

SameNames-itself : (f : ℕ → List ℕ) (s : Switch) → SameNames f f s
SameNames-itself f s = SameNames-everywhere f f (s ∷ []) (λ n. refl) 0 s (omega arith)

-- runs name their tasks as they name them
pub AreNamed-at : (runs : List Run) → RunsHaveNames (names_at runs) runs
AreNamed-at runs = λ i r inside is.
    subst (λ (f : ℕ → List ℕ). All (SameNames (name_of_task r.names.now) f) r.switches.now) (sym (names_at-is runs i r inside is)) (SameNames-everywhere (name_of_task r.names.now) (name_of_task r.names.now) r.switches.now (λ n. refl))

pub IsNamed-at : (runs : List Run) (n : Next) → IsRunAt runs n → IsNextNamed (names_at runs) n
IsNamed-at runs n at =
    subst (λ (f : ℕ → List ℕ). SameNames (name_of_task n.run.now.names.now) f n.switch.now) (sym (names_at-is runs n.index n.run.now at.inside at.is)) (SameNames-itself (name_of_task n.run.now.names.now) n.switch.now)

-- where all switches of the runs are named so, one of them is
pub IsNamed-among : (names : ℕ → ℕ → List ℕ) (runs : List Run) (n : Next) → RunsHaveNames names runs → IsRunAt runs n → IsAmong n → IsNextNamed names n
IsNamed-among names runs n are at among =
    subst (λ (s : Switch). SameNames (name_of_task n.run.now.names.now) (names n.index) s) (sym among.is) (are n.index n.run.now at.inside at.is among.place n.switch.now among.inside)

-- one run alone
pub AreNamed-one : (names : ℕ → List ℕ) (r : Run) → All (SameNames (name_of_task r.names.now) names) r.switches.now → RunsHaveNames (λ run. names) (r ∷ [])
AreNamed-one names r h zero q inside is = subst (λ (x : Run). All (SameNames (name_of_task x.names.now) names) x.switches.now) (sym is) h
AreNamed-one names r h (suc i) q inside is = absurd (omega arith)

-- ---- texts of tasks and idle CPUs

leaving_part-same : (f g : ℕ → List ℕ) (cpu : ℕ) (task : Option ℕ) → IfSome task (λ n. f n ≡ g n) → leaving_part f cpu task ≡ leaving_part g cpu task
unfolding leaving_part
leaving_part-same f g cpu None h = refl
leaving_part-same f g cpu (Some n) h = rw h refl

coming_part-same : (f g : ℕ → List ℕ) (cpu : ℕ) (task : Option ℕ) → IfSome task (λ n. f n ≡ g n) → coming_part f cpu task ≡ coming_part g cpu task
unfolding coming_part
coming_part-same f g cpu None h = refl
coming_part-same f g cpu (Some n) h = rw h refl

-- texts serve under all names that give the same name to their task, and those of a task on all
-- CPUs
pub IsReady-same : (f g : ℕ → List ℕ) (cpu : ℕ) (task : Option ℕ) (s : Slot) → IfSome task (λ n. f n ≡ g n) → IsSlotReady f cpu task s → IsSlotReady g cpu task s
IsReady-same f g cpu task s same h = record {
  head = h.head ∙ task_part-same f g task same;
  leaving = h.leaving ∙ leaving_part-same f g cpu task same;
  coming = h.coming ∙ coming_part-same f g cpu task same;
}

task_anywhere : (f : ℕ → List ℕ) (a b number : ℕ) (s : Slot) → IsSlotReady f a (Some number) s → IsSlotReady f b (Some number) s
unfolding leaving_part coming_part
task_anywhere f a b number s h = record { head = h.head; leaving = h.leaving; coming = h.coming }

pub IsSlot-made : (names : ℕ → ℕ → List ℕ) (run cpu : ℕ) (task : Option ℕ) (s : Slot) → s.who ≡ who_of run cpu task → IsSlotReady (names run) cpu task s → IsSlot names s
IsSlot-made names run cpu None s is h = subst (λ (w : Who). IsFor names w s) (sym is) (λ others. IsReady-same (names run) others cpu None s tt h)
IsSlot-made names run cpu (Some number) s is h = subst (λ (w : Who). IsFor names w s) (sym is) (λ b. task_anywhere (names run) cpu b number s h)

-- nobody's texts are nobody's under whatever names
pub nobody_is_slot : (names : ℕ → ℕ → List ℕ) (slots : List Slot) → AreNobodys slots → All (IsSlot names) slots
nobody_is_slot names slots h = All-weaker (λ s. s.who ≡ Nobody) (IsSlot names) (λ s e. subst (λ (w : Who). IsFor names w s) (sym e) tt) slots h

pub IsReady-kept : (names : ℕ → ℕ → List ℕ) (run cpu : ℕ) (task : Option ℕ) (s : Slot) → s.who ≡ who_of run cpu task → IsSlot names s → IsSlotReady (names run) cpu task s
IsReady-kept names run cpu None s is h = let all = subst (λ (w : Who). IsFor names w s) is h in all (names run)
IsReady-kept names run cpu (Some number) s is h = let all = subst (λ (w : Who). IsFor names w s) is h in all cpu

IsFor-same : (f g : ℕ → ℕ → List ℕ) → ((run number : ℕ) → f run number ≡ g run number) → (w : Who) (s : Slot) → IsFor f w s → IsFor g w s
IsFor-same f g same Nobody s h = tt
IsFor-same f g same (Idle cpu) s h = h
IsFor-same f g same (Task run number) s h = λ cpu. IsReady-same (f run) (g run) cpu (Some number) s (same run number) (h cpu)

-- where other names give each task the same name, the texts that are kept serve on
pub slots_kept : (f g : ℕ → List ℕ) (slots : List Slot) → ((number : ℕ) → f number ≡ g number) → All (IsSlot (λ run. f)) slots → All (IsSlot (λ run. g)) slots
slots_kept f g slots same h = All-weaker (IsSlot (λ run. f)) (IsSlot (λ run. g)) (λ s is. IsFor-same (λ run. f) (λ run. g) (λ run number. same number) s.who s is) slots h

-- ---- lines

regrouped : (a b c d e f g h i : List ℕ) → a ++ b ++ (c ++ d) ++ ((e ++ f) ++ g) ++ (h ++ i) ≡ (a ++ b ++ c ++ d ++ e ++ f ++ (g ++ h)) ++ i
regrouped a b c d e f g h i = simp append_assoc

prev_by_parts : (names : ℕ → List ℕ) (cpu : ℕ) (prev : Option ℕ) (e c p n q o r l : List ℕ) → e ++ c ++ p ++ n ++ q ++ o ++ r ++ l ≡ (e ++ (c ++ p ++ n ++ q ++ o ++ r)) ++ l
prev_by_parts names cpu prev e c p n q o r l = simp append_assoc

prev_part-is : (names : ℕ → List ℕ) (s : Switch) (cpu : ℕ) → prev_part names cpu s.prev s.state ≡ (event_part ++ leaving_part names cpu s.prev) ++ letters_of s.state
unfolding prev_part event_part leaving_part
prev_part-is names s cpu =
    prev_by_parts names cpu s.prev (codes ": sched_switch: prev_comm=") (comm_of names cpu s.prev) (codes " prev_pid=") (decimal (pid_of s.prev)) (codes " prev_prio=") (prio_of s.prev) (codes " prev_state=") (letters_of s.state)

next_by_parts : (e c p n q o r : List ℕ) → e ++ c ++ p ++ n ++ q ++ o ++ r ≡ e ++ (c ++ p ++ n ++ q ++ o ++ r)
next_by_parts e c p n q o r = simp append_assoc

next_part-is : (names : ℕ → List ℕ) (s : Switch) (cpu : ℕ) → next_part names cpu s.next ≡ codes " ==> next_comm=" ++ coming_part names cpu s.next
unfolding next_part coming_part
next_part-is names s cpu = next_by_parts (codes " ==> next_comm=") (comm_of names cpu s.next) (codes " next_pid=") (decimal (pid_of s.next)) (codes " next_prio=") (prio_of s.next) (codes "\n")

time_part-is : (time : ℕ) → time_part time ≡ second_part (time / 1000000) ++ digits_in 6 (time % 1000000)
unfolding time_part
time_part-is time = refl

-- a line, of the parts that are kept ready
pub line_of-by_parts : (names : ℕ → List ℕ) (base : ℕ) (s : Switch) (cpu : ℕ) → cpu ≡ base + s.cpu
    → (task_part names s.prev ++ cpu_part cpu ++ second_part (s.time / 1000000) ++ digits_in 6 (s.time % 1000000) ++ event_part ++ leaving_part names cpu s.prev ++ state_part s.state) ++ coming_part names cpu s.next
    ≡ switch_line names base s
unfolding switch_line
line_of-by_parts names base s cpu e =
    rw (sym e, prev_part-is names s cpu, next_part-is names s cpu, time_part-is s.time)
    (sym (regrouped (task_part names s.prev) (cpu_part cpu) (second_part (s.time / 1000000)) (digits_in 6 (s.time % 1000000)) event_part (leaving_part names cpu s.prev) (letters_of s.state) (codes " ==> next_comm=") (coming_part names cpu s.next)))

-- the CPU and the second are kept as one text
with_lane : (a b c d e f g h : List ℕ) → (a ++ (b ++ c) ++ d ++ e ++ f ++ g) ++ h ≡ (a ++ b ++ c ++ d ++ e ++ f ++ g) ++ h
with_lane a b c d e f g h = simp append_assoc

-- after what waited, the line of a switch
pub line_made : (run : Run) (names : ℕ → List ℕ) (s : Switch) (cpu : ℕ) (a b : Slot) (lane state batch mid after : List ℕ) → SameNames (name_of_task run.names.now) names s → cpu ≡ run.base + s.cpu
    → IsSlotReady names cpu s.prev a → IsSlotReady names cpu s.next b → lane ≡ cpu_part cpu ++ second_part (s.time / 1000000) → state ≡ state_part s.state
    → mid ≡ batch ++ (short_text_of a.head ++ lane ++ digits_in 6 (s.time % 1000000) ++ event_part ++ piece_text a.leaving ++ state) → after ≡ mid ++ piece_text b.coming
    → after ≡ batch ++ switch_line (name_of_task run.names.now) run.base s
line_made run names s cpu a b lane state batch mid after alike at pa pb el et em ea =
    let front = short_text_of a.head ++ lane ++ digits_in 6 (s.time % 1000000) ++ event_part ++ piece_text a.leaving ++ state in
    let same : front ++ piece_text b.coming ≡ (task_part names s.prev ++ cpu_part cpu ++ second_part (s.time / 1000000) ++ digits_in 6 (s.time % 1000000) ++ event_part ++ leaving_part names cpu s.prev ++ state_part s.state) ++ coming_part names cpu s.next
    = rw (pa.head, pa.leaving, pb.coming, el, et) (with_lane (task_part names s.prev) (cpu_part cpu) (second_part (s.time / 1000000)) (digits_in 6 (s.time % 1000000)) event_part (leaving_part names cpu s.prev) (state_part s.state) (coming_part names cpu s.next)) in
    ea ∙ ap (λ (xs : List ℕ). xs ++ piece_text b.coming) em ∙ append_assoc batch front (piece_text b.coming) ∙ ap (λ (xs : List ℕ). batch ++ xs) (same ∙ line_of-by_parts names run.base s cpu at ∙ sym (line_of-same_names (name_of_task run.names.now) names run.base s alike))

-- the texts of the states, in the order of their places
pub middles_made : (a b c d : ShortPiece) → short_text_of a ≡ state_part Running → short_text_of b ≡ state_part Preempted → short_text_of c ≡ state_part Sleeping → short_text_of d ≡ state_part Dead
    → (state : PrevState) (x : ShortPiece) → short_text_of (get_or (a ∷ b ∷ c ∷ d ∷ []) (nth_state state) x) ≡ state_part state
middles_made a b c d p q r s Running x = p
middles_made a b c d p q r s Preempted x = q
middles_made a b c d p q r s Sleeping x = r
middles_made a b c d p q r s Dead x = s
