-- A book from which a task departs: its ticket is taken out of the others.
use Rattle.std.proofs.Common.{◌≡◌, ℕ, suc, ◌+◌, true, eqb, eq-eqb, Option, Some, None, List, [], ◌∷◌, ◌++◌, length, map, refl, sym, ap, ◌∙◌, subst, arith, length-append}
use Rattle.std.specs.Prelude.{All, AllPairs, ◌≢◌, Contains, IfSome, filter, not, option_map}
use Rattle.std.specs.List.{list_any}
use Rattle.std.proofs.lemmas.List.{map-append}
use Rattle.std.proofs.lemmas.List.Elements.{All-append}
use Rattle.std.proofs.lemmas.List.Folds.{list_any_at}
use Rattle.bw_gate.specs.Pieces.{GateId, TicketView}
use Rattle.domain_run.specs.declared.task.Task.{Task}
use Rattle.domain_run.specs.declared.call.Call.TheVariants as Call
use Rattle.domain_run.specs.declared.call.Reply.TheVariants as Reply
use Rattle.domain_run.specs.Domain.{Domain}
use Rattle.domain_run.specs.Calls.{reply_to, after_call, depart_reply, task_of}
use Rattle.domain_run.specs.Keys.{keys}
use Rattle.domain_run.specs.Views.{moving_of, moving_in}
use Rattle.domain_run.proofs.CallerLemmas.{AreNumbered, live_key, keys_apart, one_bw, departed_keys, without_between}
use Rattle.call_book.specs.declared.book.stock.Held.{Held}
use Rattle.call_book.specs.Pieces.{held_key, is_held, IsTicketOf, HoldsTickets}
use Rattle.call_book.specs.MoveAnswers.{IsTakenOut}
use Rattle.call_book.proofs.Asking.{all_front, all_after}
use Rattle.call_book.proofs.Regrading.{keyed_any}

abbrev held_for : ℕ → TicketView → Held
held_for number ticket = record { number = number; ticket = ticket }

-- the tickets stay those of their gate and domain, and the one that is taken out is one of them
pub taken_keeps : (gate : GateId) (domain number : ℕ) (old new : List Held) (ticket : TicketView) → IsTakenOut number old new ticket → All (λ h. IsTicketOf gate domain h.ticket) old → All (λ h. IsTicketOf gate domain h.ticket) new × IsTicketOf gate domain ticket
taken_keeps gate domain number old new ticket taken all =
    let P : Held → Type 0 = λ h. IsTicketOf gate domain h.ticket in
    let x : Held = held_for number ticket in
    let parts : All P (taken.before ++ x ∷ taken.following) = subst (All P) taken.old_tickets all in
    let tail : All P (x ∷ taken.following) = all_after P taken.before (x ∷ taken.following) parts in
    let rest : All P taken.following = λ k d h. tail (suc k) d (omega arith) in
    (subst (All P) (sym taken.new_tickets) (All-append P taken.before taken.following (all_front P taken.before (x ∷ taken.following) parts) rest), tail 0 x (omega arith))

pub taken_length : (number : ℕ) (old new : List Held) (ticket : TicketView) → IsTakenOut number old new ticket → length old ≡ length new + 1
taken_length number old new ticket taken =
    let a = ap length taken.old_tickets in
    let b = ap length taken.new_tickets in
    let c = length-append taken.before (held_for number ticket ∷ taken.following) in
    let d = length-append taken.before taken.following in
    omega (arith, a, b, c, d)

-- a task that may depart
live_by : (o : Option Task) → depart_reply o ≡ Reply.Departed → (t : Task) × (o ≡ Some t)
live_by None e = absurd cc
live_by (Some t) e = (t, refl)

pub departing_is_held : (state : Domain) (tickets : List Held) (number : ℕ) → HoldsTickets state tickets → depart_reply (task_of state number) ≡ Reply.Departed → list_any (is_held number) tickets ≡ true
departing_is_held state tickets number held e =
    let live = live_by (task_of state number) e in
    let there = live_key state number live.0 live.1 in
    let any : list_any (λ (k : ℕ × ℕ). eqb k.0 number) (keys state.tasks) ≡ true = list_any_at (λ (k : ℕ × ℕ). eqb k.0 number) (keys state.tasks) there.0 (number, live.0.params.bw) there.1 (ap (λ (x : ℕ × ℕ). eqb x.0 number) there.2 ∙ eq-eqb number number refl) in
    sym (keyed_any number tickets) ∙ ap (list_any (λ (k : ℕ × ℕ). eqb k.0 number)) held ∙ any

-- the keys of the tickets that are left are those of the tasks that are left
pub taken_holds : (state : Domain) (number : ℕ) (old new : List Held) (ticket : TicketView) → IsTakenOut number old new ticket → AreNumbered state.tasks → HoldsTickets state old → reply_to state (Call.Depart number) ≡ Reply.Departed → HoldsTickets (after_call state (Call.Depart number)) new
taken_holds state number old new ticket taken numbered held e =
    let front = map held_key taken.before in
    let following = map held_key taken.following in
    let was : map held_key old ≡ front ++ (number, ticket.bw) ∷ following = ap (map held_key) taken.old_tickets ∙ map-append held_key taken.before (held_for number ticket ∷ taken.following) in
    let is : map held_key new ≡ front ++ following = ap (map held_key) taken.new_tickets ∙ map-append held_key taken.before taken.following in
    let same : keys state.tasks ≡ front ++ (number, ticket.bw) ∷ following = sym held ∙ was in
    let apart = subst (AllPairs (λ (k l : ℕ × ℕ). k.0 ≢ l.0)) same (keys_apart state.tasks numbered) in
    is ∙ sym (without_between number ticket.bw front following apart) ∙ ap (filter (λ (k : ℕ × ℕ). not (eqb k.0 number))) (sym same) ∙ sym (departed_keys state number e)

-- the ticket has the bandwidth of its task
bw_by : (state : Domain) (number bw : ℕ) (o : Option Task) → task_of state number ≡ o → AreNumbered state.tasks → Contains (keys state.tasks) (number, bw) → IfSome (option_map moving_of o) (λ m. bw ≡ m.params.bw)
bw_by state number bw None is numbered there = tt
bw_by state number bw (Some t) is numbered there = one_bw (keys state.tasks) number bw t.params.bw (keys_apart state.tasks numbered) there (live_key state number t is)

pub taken_bw : (state : Domain) (number : ℕ) (old new : List Held) (ticket : TicketView) → IsTakenOut number old new ticket → AreNumbered state.tasks → HoldsTickets state old → IfSome (moving_in state number) (λ m. ticket.bw ≡ m.params.bw)
taken_bw state number old new ticket taken numbered held =
    let front = map held_key taken.before in
    let following = map held_key taken.following in
    let key : ℕ × ℕ = (number, ticket.bw) in
    let same : front ++ key ∷ following ≡ keys state.tasks = sym (ap (map held_key) taken.old_tickets ∙ map-append held_key taken.before (held_for number ticket ∷ taken.following)) ∙ held in
    let inside : Contains (front ++ key ∷ following) key = contains_at front key following in
    bw_by state number ticket.bw (task_of state number) refl numbered (subst (λ (ks : List (ℕ × ℕ)). Contains ks key) same inside)
  where
    contains_at : (front : List (ℕ × ℕ)) (k : ℕ × ℕ) (following : List (ℕ × ℕ)) → Contains (front ++ k ∷ following) k
    contains_at [] k following = (0, omega arith, refl)
    contains_at (f ∷ front) k following = let rest = contains_at front k following in (suc rest.0, omega (arith, rest.1), rest.2)
