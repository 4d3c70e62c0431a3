-- The tickets of a book hold together what its tasks need.
use Rattle.std.proofs.Common.{◌≡◌, ℕ, Bool, cond, List, [], ◌∷◌, map, refl, sym, ap, ◌∙◌, arith, eq-eqb}
use Rattle.std.specs.Prelude.{All, sum_by}
use Rattle.std.proofs.lemmas.List.Elements.{All-head, All-tail}
use Rattle.std.proofs.lemmas.List.Sums.{sum_by-cons}
use Rattle.bw_gate.specs.Pieces.{GateId, bw_in, bw_of_tickets}
use Rattle.domain_run.specs.declared.task.Task.{Task}
use Rattle.domain_run.proofs.CallerLemmas.{sum_first}
use Rattle.domain_run.specs.Tick as tick
use Rattle.domain_run.specs.Domain.{Domain}
use Rattle.domain_run.specs.Keys.{key_of, keys}
use Rattle.call_book.specs.declared.book.stock.Held.{Held}
use Rattle.call_book.specs.Pieces.{held_key, IsTicketOf, HoldsTickets}

of_tickets : (gate : GateId) (domain : ℕ) (tickets : List Held) → All (λ h. IsTicketOf gate domain h.ticket) tickets → bw_of_tickets domain (map (λ (h : Held). h.ticket) tickets) ≡ sum_by (λ (k : ℕ × ℕ). k.1) (map held_key tickets)
of_tickets gate domain [] all = refl
of_tickets gate domain (h ∷ tickets) all =
    let P : Held → Type 0 = λ h. IsTicketOf gate domain h.ticket in
    let first = All-head P h tickets all in
    let share : bw_in domain h.ticket ≡ h.ticket.bw = ap (λ (b : Bool). cond b h.ticket.bw 0) (eq-eqb h.ticket.domain domain first.inside) in
    let rest = of_tickets gate domain tickets (All-tail P h tickets all) in
    let left = sum_by-cons (bw_in domain) h.ticket (map (λ (x : Held). x.ticket) tickets) in
    let right = sum_by-cons (λ (k : ℕ × ℕ). k.1) (held_key h) (map held_key tickets) in
    omega (arith, share, rest, left, right)

of_tasks : (tasks : List Task) → tick.sum_of tasks ≡ sum_by (λ (k : ℕ × ℕ). k.1) (keys tasks)
of_tasks [] = refl
of_tasks (t ∷ tasks) =
    let rest = of_tasks tasks in
    let left = sum_first t tasks in
    let right = sum_by-cons (λ (k : ℕ × ℕ). k.1) (key_of t) (keys tasks) in
    omega (arith, rest, left, right)

pub tickets_sum : (gate : GateId) (domain : ℕ) (state : Domain) (tickets : List Held) → HoldsTickets state tickets → All (λ h. IsTicketOf gate domain h.ticket) tickets → bw_of_tickets domain (map (λ (h : Held). h.ticket) tickets) ≡ tick.sum_of state.tasks
tickets_sum gate domain state tickets held all = of_tickets gate domain tickets all ∙ ap (sum_by (λ (k : ℕ × ℕ). k.1)) held ∙ sym (of_tasks state.tasks)
