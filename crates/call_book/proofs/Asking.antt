-- The tickets of a book, where one of them asks for another bandwidth.
use Rattle.std.proofs.Common.{◌≡◌, ℕ, suc, ◌+◌, ◌≤◌, List, ◌∷◌, ◌++◌, length, sym, ap, ◌∙◌, subst, arith, length-append, Option}
use Rattle.std.specs.Prelude.{All, take, drop}
use Rattle.std.proofs.Math.Seq.{take-append_seam, drop-append_seam}
use Rattle.std.proofs.lemmas.List.{length-take-le}
use Rattle.std.proofs.lemmas.List.{get_or_append_left, get_or-append-add}
use Rattle.std.proofs.lemmas.List.Elements.{All-cons, All-append}
use Rattle.bw_gate.specs.Pieces.{GateId}
use Rattle.call_book.specs.declared.book.stock.Held.{Held}
use Rattle.call_book.specs.Pieces.{IsTicketOf, AsksTheWord}

pub all_front : {X : Type 0} (P : X → Type 0) (xs ys : List X) → All P (xs ++ ys) → All P xs
all_front P xs ys all = λ k d h. subst P (get_or_append_left xs ys d k h) (all k d (omega (arith, length-append xs ys)))

pub all_after : {X : Type 0} (P : X → Type 0) (xs ys : List X) → All P (xs ++ ys) → All P ys
all_after P xs ys all = λ k d h. subst P (get_or-append-add xs ys k d) (all (length xs + k) d (omega (arith, length-append xs ys)))

-- the tickets stay those of their gate and domain
pub asked_keeps : (gate : GateId) (domain number bw : ℕ) (old new : List Held) (word : Option ℕ) → AsksTheWord number bw old new word → All (λ h. IsTicketOf gate domain h.ticket) old → All (λ h. IsTicketOf gate domain h.ticket) new
asked_keeps gate domain number bw old new word asked all =
    let P : Held → Type 0 = λ h. IsTicketOf gate domain h.ticket in
    let x : Held = record { number = number; ticket = asked.was } in
    let y : Held = record { number = number; ticket = asked.becomes } in
    let parts : All P (asked.before ++ x ∷ asked.following) = subst (All P) asked.old_tickets all in
    let tail : All P (x ∷ asked.following) = all_after P asked.before (x ∷ asked.following) parts in
    let was : IsTicketOf gate domain asked.was = tail 0 x (omega arith) in
    let is : P y = record { own = asked.answered.own.own ∙ was.own; inside = asked.answered.own.inside ∙ was.inside } in
    let rest : All P asked.following = λ k d h. tail (suc k) d (omega arith) in
    subst (All P) (sym asked.new_tickets) (All-append P asked.before (y ∷ asked.following) (all_front P asked.before (x ∷ asked.following) parts) (All-cons P y asked.following is rest))

pub asked_length : (number bw : ℕ) (old new : List Held) (word : Option ℕ) → AsksTheWord number bw old new word → length new ≡ length old
asked_length number bw old new word asked =
    let x : Held = record { number = number; ticket = asked.was } in
    let y : Held = record { number = number; ticket = asked.becomes } in
    ap length asked.new_tickets ∙ length-append asked.before (y ∷ asked.following) ∙ sym (length-append asked.before (x ∷ asked.following)) ∙ ap length (sym asked.old_tickets)

-- an item that is put in where one was taken out
pub put_back : {X : Type 0} (i : ℕ) (xs ys : List X) (y : X) → i ≤ length xs → take i (take i xs ++ ys) ++ y ∷ drop i (take i xs ++ ys) ≡ take i xs ++ y ∷ ys
put_back {X} i xs ys y within =
    let at : length (take i xs) ≡ i = length-take-le i xs within in
    subst (λ (n : ℕ). take n (take i xs ++ ys) ++ y ∷ drop n (take i xs ++ ys) ≡ take i xs ++ y ∷ ys) at
    (ap (λ (zs : List X). zs ++ y ∷ drop (length (take i xs)) (take i xs ++ ys)) (take-append_seam (take i xs) ys) ∙ ap (λ (zs : List X). take i xs ++ y ∷ zs) (drop-append_seam (take i xs) ys))
