-- Quarters of a CPU, added up.
use Rattle.std.proofs.Common.{◌≡◌, ◌*◌, List, [], ◌∷◌, length, All, refl, arith, eq-eqb}
use Rattle.std.proofs.lemmas.List.Elements.{All-head, All-tail}
use Rattle.std.proofs.lemmas.List.Sums.{sum_by-cons}
use Rattle.bw_gate.specs.Pieces.{GateId, TicketView, bw_in, bw_of_tickets}
use Rattle.book_tests.specs.Quarters.{IsQuarter}

pub quarters : (gate : GateId) (tickets : List TicketView) → All (IsQuarter gate) tickets → bw_of_tickets 0 tickets ≡ length tickets * 262144
quarters gate [] all = refl
quarters gate (t ∷ tickets) all =
    let quarter = All-head (IsQuarter gate) t tickets all in
    let share : bw_in 0 t ≡ 262144 = rw (eq-eqb t.domain 0 quarter.domain) quarter.bw in
    let a = sum_by-cons (bw_in 0) t tickets in
    let b = quarters gate tickets (All-tail (IsQuarter gate) t tickets all) in
    omega (arith, share, a, b)
