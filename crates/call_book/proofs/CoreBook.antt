-- What a book does is what the pure core does with admitted tasks.
use Rattle.std.proofs.Common.{◌≡◌, ◌≢◌, ◌<◌, ℕ, zero, suc, ◌-◌, Bool, true, false, not, cond, eqb, eq-eqb, ◌||◌, ◌&&◌, List, [], ◌∷◌, ◌++◌, length, map, get_or, Option, Some, None, All, refl, sym, ap, subst, ◌∙◌, arith, append_assoc, ⊎_elim}
use Rattle.std.specs.Prelude.{AllPairs}
use Rattle.std.specs.List.{filter, find, list_any}
use Rattle.std.proofs.lemmas.Bool.{ne_eqb, eqb-false, or_parts, cases_Bool}
use Rattle.std.proofs.lemmas.List.{map-append}
use Rattle.pass_seats.specs.Lists.{PassView}
use Rattle.bw_world.specs.declared.book.Change.TheVariants.{Entered, Released}
use Rattle.bw_world.specs.declared.step.Outcome.TheVariants.{Not}
use Rattle.bw_world.specs.declared.ticket.Ticket.{Ticket}
use Rattle.bw_world.specs.declared.ticket.Task.{Task}
use Rattle.bw_world.specs.WorldView.{DomainView}
use Rattle.bw_world.specs.DomainStep.{done, unchanged_step, in_hand_of, without, entered, entered_found, released, released_found, given, given_found}
use Rattle.bw_world.specs.WorldStep.{fits_found}
use Rattle.bw_gate.specs.Pieces.{TicketView}
use Rattle.domain_run.specs.declared.task.Task.{Task as ListedTask}
use Rattle.domain_run.specs.declared.call.Call.{Call}
use Rattle.domain_run.specs.declared.call.Reply.TheVariants.{Admitted}
use Rattle.domain_run.specs.Domain.{Domain}
use Rattle.domain_run.specs.Calls.{admit_reply, after_call}
use Rattle.domain_run.specs.Run.{after_calls}
use Rattle.domain_run.specs.Keys.{keys, has_task}
use Rattle.domain_run.proofs.CallerLemmas.{HasKnown, has_call, has_opened, granted_is, keys_apart, beside_listed, pairs_first, pairs_rest}
use Rattle.calls_text.specs.Histories.{calls_of}
use Rattle.call_book.specs.declared.book.stock.Held.{Held}
use Rattle.call_book.specs.Pieces.{HoldsTickets, held_key, is_kept}
use Rattle.call_book.specs.Book.{BookView, state_of}
use Rattle.call_book.specs.CoreSteps.{AreApart, core_task, IsCoreOf, IsHeldBook, IsInHand, IsNotInHand, EntersTask, ReleasesTask, SettleTasks, EntersAsTheCore, SettlesAsTheCore, MovesAsTheCore}

-- ---- tickets of other numbers

abbrev Others : ℕ → List Held → Type 0
Others n [] = Unit {0}
Others n (x ∷ xs) = (eqb x.number n ≡ false) × Others n xs

-- no two have one number
abbrev Numbered : List Held → Type 0
Numbered [] = Unit {0}
Numbered (x ∷ xs) = Others x.number xs × Numbered xs

others_of : (n : ℕ) (xs : List Held) → All (λ k. n ≢ k.0) (map held_key xs) → Others n xs
others_of n [] all = tt
others_of n (x ∷ xs) all = (ne_eqb x.number n (λ e. all zero (held_key x) (omega arith) (sym e)), others_of n xs (λ i d h. all (suc i) d (omega (arith, h))))

numbered_of : (xs : List Held) → AllPairs (λ k l. k.0 ≢ l.0) (map held_key xs) → Numbered xs
numbered_of [] apart = tt
numbered_of (x ∷ xs) apart = (
  others_of x.number xs (pairs_first (λ k l. k.0 ≢ l.0) (held_key x) (map held_key xs) apart),
  numbered_of xs (pairs_rest (λ k l. k.0 ≢ l.0) (held_key x) (map held_key xs) apart),
)

turned : (m n : ℕ) → eqb n m ≡ false → eqb m n ≡ false
turned m n e = ne_eqb m n (λ same. eqb-false n m e (sym same))

others_head : (front : List Held) (h : Held) (rest : List Held) (n : ℕ) → Others n (front ++ h ∷ rest) → eqb h.number n ≡ false
others_head [] h rest n o = o.0
others_head (x ∷ front) h rest n o = others_head front h rest n o.1

-- of a ticket that stands between others
others_front : (front : List Held) (h : Held) (rest : List Held) → Numbered (front ++ h ∷ rest) → Others h.number front
others_front [] h rest n = tt
others_front (x ∷ front) h rest n = (turned x.number h.number (others_head front h rest x.number n.0), others_front front h rest n.1)

others_rest : (front : List Held) (h : Held) (rest : List Held) → Numbered (front ++ h ∷ rest) → Others h.number rest
others_rest [] h rest n = n.0
others_rest (x ∷ front) h rest n = others_rest front h rest n.1

others_without : (n : ℕ) (front : List Held) (h : Held) (rest : List Held) → Others n (front ++ h ∷ rest) → Others n (front ++ rest)
others_without n [] h rest o = o.1
others_without n (x ∷ front) h rest o = (o.0, others_without n front h rest o.1)

numbered_without : (front : List Held) (h : Held) (rest : List Held) → Numbered (front ++ h ∷ rest) → Numbered (front ++ rest)
numbered_without [] h rest n = n.1
numbered_without (x ∷ front) h rest n = (others_without x.number front h rest n.0, numbered_without front h rest n.1)

-- ---- the core's tasks of some tickets

module _ (ids : ℕ → ℕ) where
  abbrev tasks : List Held → List Task
  tasks hs = map (core_task ids) hs

  any_core : (n : ℕ) (hs : List Held) → list_any (λ (t : Task). eqb t.number n) (tasks hs) ≡ list_any (λ (x : Held). eqb (held_key x).0 n) hs
  any_core n [] = refl
  any_core n (x ∷ hs) = ap (λ (b : Bool). eqb x.number n || b) (any_core n hs)

  module _ (apart : AreApart ids) where
    same_id : (n : ℕ) → eqb (ids n) (ids n) ≡ true
    same_id n = eq-eqb (ids n) (ids n) refl

    other_id : (m n : ℕ) → eqb m n ≡ false → eqb (ids m) (ids n) ≡ false
    other_id m n e = ne_eqb (ids m) (ids n) (λ is. eqb-false m n e (apart m n is))

    found : (front : List Held) (h : Held) (rest : List Held) → Others h.number front → find (λ (t : Task). eqb t.ticket (ids h.number)) (tasks (front ++ h ∷ rest)) ≡ Some (core_task ids h)
    found [] h rest o = ap (λ (b : Bool). cond b (Some (core_task ids h)) (find (λ (t : Task). eqb t.ticket (ids h.number)) (tasks rest))) (same_id h.number)
    found (x ∷ front) h rest o =
        ap (λ (b : Bool). cond b (Some (core_task ids x)) (find (λ (t : Task). eqb t.ticket (ids h.number)) (tasks (front ++ h ∷ rest)))) (other_id x.number h.number o.0)
        ∙ found front h rest o.1

    stay : (n : ℕ) (hs : List Held) → Others n hs → filter (λ (t : Task). not (eqb t.ticket (ids n))) (tasks hs) ≡ tasks hs
    stay n [] o = refl
    stay n (x ∷ hs) o =
        let rest = filter (λ (t : Task). not (eqb t.ticket (ids n))) (tasks hs) in
        ap (λ (b : Bool). cond (not b) (core_task ids x ∷ rest) rest) (other_id x.number n o.0) ∙ ap (λ (ts : List Task). core_task ids x ∷ ts) (stay n hs o.1)

    removed : (front : List Held) (h : Held) (rest : List Held) → Others h.number front → Others h.number rest
        → filter (λ (t : Task). not (eqb t.ticket (ids h.number))) (tasks (front ++ h ∷ rest)) ≡ tasks (front ++ rest)
    removed [] h rest o r =
        let left = filter (λ (t : Task). not (eqb t.ticket (ids h.number))) (tasks rest) in
        ap (λ (b : Bool). cond (not b) (core_task ids h ∷ left) left) (same_id h.number) ∙ stay h.number rest r
    removed (x ∷ front) h rest o r =
        let left = filter (λ (t : Task). not (eqb t.ticket (ids h.number))) (tasks (front ++ h ∷ rest)) in
        ap (λ (b : Bool). cond (not b) (core_task ids x ∷ left) left) (other_id x.number h.number o.0)
        ∙ ap (λ (ts : List Task). core_task ids x ∷ ts) (removed front h rest o.1 r)

    -- Release of a ticket between others
    releases : (front : List Held) (h : Held) (rest : List Held) (c : DomainView) → c.admitted ≡ tasks (front ++ h ∷ rest) → Numbered (front ++ h ∷ rest)
        → ReleasesTask ids h.number h.ticket.bw (front ++ rest) c
    releases front h rest c is n =
        let id = ids h.number in
        let there = ap (find (λ (t : Task). eqb t.ticket id)) is ∙ found front h rest (others_front front h rest n) in
        let left = ap (filter (λ (t : Task). not (eqb t.ticket id))) is ∙ removed front h rest (others_front front h rest n) (others_rest front h rest n) in
        ap (released_found id c) there
        ∙ ap (λ (ts : List Task). done (record c {
          in_hand = c.in_hand ++ record { id = id; bw = h.ticket.bw } ∷ [];
          admitted = ts;
          changes = c.changes ++ Released h.number ∷ [];
        })) left

-- ---- a ticket in hand

hand_found : (id bw : ℕ) (hand : List Ticket) → list_any (λ (t : Ticket). eqb t.id id) hand ≡ false → find (λ (t : Ticket). eqb t.id id) (hand ++ record { id = id; bw = bw } ∷ []) ≡ Some (record { id = id; bw = bw })
hand_found id bw [] none = ap (λ (b : Bool). cond b (Some (record { id = id; bw = bw })) None) (eq-eqb id id refl)
hand_found id bw (x ∷ hand) none =
    let parts = or_parts (eqb x.id id) (list_any (λ (t : Ticket). eqb t.id id) hand) none in
    ap (λ (b : Bool). cond b (Some x) (find (λ (t : Ticket). eqb t.id id) (hand ++ record { id = id; bw = bw } ∷ []))) parts.0 ∙ hand_found id bw hand parts.1

hand_back : (id bw : ℕ) (hand : List Ticket) → list_any (λ (t : Ticket). eqb t.id id) hand ≡ false → filter (λ (t : Ticket). not (eqb t.id id)) (hand ++ record { id = id; bw = bw } ∷ []) ≡ hand
hand_back id bw [] none = ap (λ (b : Bool). cond (not b) (record { id = id; bw = bw } ∷ []) []) (eq-eqb id id refl)
hand_back id bw (x ∷ hand) none =
    let parts = or_parts (eqb x.id id) (list_any (λ (t : Ticket). eqb t.id id) hand) none in
    let rest = filter (λ (t : Ticket). not (eqb t.id id)) (hand ++ record { id = id; bw = bw } ∷ []) in
    ap (λ (b : Bool). cond (not b) (x ∷ rest) rest) parts.0 ∙ ap (λ (ts : List Ticket). x ∷ ts) (hand_back id bw hand parts.1)

-- Give of the ticket that came into hand last
gives : (id bw : ℕ) (c : DomainView) (hand : List Ticket) → c.in_hand ≡ hand ++ record { id = id; bw = bw } ∷ [] → list_any (λ (t : Ticket). eqb t.id id) hand ≡ false
    → given id c ≡ done (record c { used = c.used - bw; in_hand = hand })
gives id bw c hand is none =
    ap (given_found id c) (ap (find (λ (t : Ticket). eqb t.id id)) is ∙ hand_found id bw hand none)
    ∙ ap (λ (ts : List Ticket). done (record c { used = c.used - bw; in_hand = ts })) (ap (filter (λ (t : Ticket). not (eqb t.id id))) is ∙ hand_back id bw hand none)

-- ---- Enter

enters : (ids : ℕ → ℕ) (number : ℕ) (ticket : TicketView) (old new : List Held) (c : DomainView)
    → new ≡ old ++ record { number = number; ticket = ticket } ∷ [] → IsCoreOf ids old c → list_any (λ (t : Task). eqb t.number number) c.admitted ≡ false
    → IsInHand (ids number) ticket.bw c → EntersTask ids number ticket.bw new c
enters ids number ticket old new c held is absent hand =
    let id = ids number in
    let h : Held = record { number = number; ticket = ticket } in
    let step : List Task → DomainView = λ ts. record c {
      in_hand = without id c.in_hand;
      admitted = ts;
      changes = c.changes ++ Entered number id ticket.bw ∷ [];
    } in
    let more : c.admitted ++ core_task ids h ∷ [] ≡ map (core_task ids) new =
    ap (λ (ts : List Task). ts ++ core_task ids h ∷ []) is ∙ sym (map-append (core_task ids) old (h ∷ [])) ∙ ap (map (core_task ids)) (sym held) in
    ap (entered_found id number c) hand
    ∙ ap (λ (b : Bool). cond b (unchanged_step c Not) (done (step (c.admitted ++ core_task ids h ∷ [])))) absent
    ∙ ap (λ (ts : List Task). done (step ts)) more

-- ---- what every book keeps

after_known : (d : Domain) (cs : List Call) → HasKnown d → HasKnown (after_calls d cs)
after_known d [] has = has
after_known d (c ∷ cs) has = after_known (after_call d c) cs (has_call d c has)

book_known : (b : BookView) → 0 < b.cpus → HasKnown (state_of b)
book_known b some = after_known _ (calls_of b.history) (has_opened b.cpus b.limit some)

book_numbered : (b : BookView) → IsHeldBook b → Numbered b.tickets
book_numbered b is = numbered_of b.tickets (subst (AllPairs (λ k l. k.0 ≢ l.0)) (sym is.held) (keys_apart (state_of b).tasks (book_known b is.some).numbered))

fresh_absent : (used : List ℕ) (n : ℕ) (ts : List ListedTask) → ((k : ℕ) (t : ListedTask) → k < length ts → list_any (λ m. eqb m (get_or ts k t).number) used ≡ true)
    → list_any (λ m. eqb m n) used ≡ false → list_any (λ (t : ListedTask). eqb t.number n) ts ≡ false
fresh_absent used n [] all fresh = refl
fresh_absent used n (t ∷ ts) all fresh =
    let clash : true ≡ false → ⊥ = λ e. absurd cc in
    let other : eqb t.number n ≡ false =
    ne_eqb t.number n (λ e. clash (sym (subst (λ (k : ℕ). list_any (λ m. eqb m k) used ≡ true) e (all zero t (omega arith))) ∙ fresh)) in
    ap (λ (b : Bool). b || list_any (λ (u : ListedTask). eqb u.number n) ts) other ∙ fresh_absent used n ts (λ k u h. all (suc k) u (omega (arith, h))) fresh

-- no task of a number that is admitted
is_absent : (ids : ℕ → ℕ) (b : BookView) (number : ℕ) (c : DomainView) → IsHeldBook b → IsCoreOf ids b.tickets c → list_any (λ m. eqb m number) (state_of b).used ≡ false
    → list_any (λ (t : Task). eqb t.number number) c.admitted ≡ false
is_absent ids b number c is core fresh =
    let has = book_known b is.some in
    ap (list_any (λ (t : Task). eqb t.number number)) core ∙ any_core ids number b.tickets
    ∙ beside_listed held_key b.tickets (state_of b).tasks number is.held
    ∙ fresh_absent (state_of b).used number (state_of b).tasks (λ k t h. (has.known k t h).admitted) fresh

-- ---- what a book does

pub enters_as_the_core : EntersAsTheCore
enters_as_the_core ids old new p q a ticket blank c apart is step core hand =
    let granted = granted_is (state_of old) a.number a.params (sym step.entered.lawful) in
    enters ids a.number ticket old.tickets new.tickets c step.tickets core (is_absent ids old a.number c is core granted.fresh) hand

abbrev NoneInHand : (ℕ → ℕ) → List Held → List Ticket → Type 0
NoneInHand ids [] hand = Unit {0}
NoneInHand ids (h ∷ hs) hand = (list_any (λ (t : Ticket). eqb t.id (ids h.number)) hand ≡ false) × NoneInHand ids hs hand

none_of : (ids : ℕ → ℕ) (hs : List Held) (c : DomainView) → All (λ h. IsNotInHand (ids h.number) c) hs → NoneInHand ids hs c.in_hand
none_of ids [] c all = tt
none_of ids (h ∷ hs) c all = (all zero h (omega arith), none_of ids hs c (λ k d less. all (suc k) d (omega (arith, less))))

record Settled (ids : ℕ → ℕ) (gone left : List Held) (c : DomainView) : Type 0 where
  pub after : DomainView
  pub settled : SettleTasks ids gone c after
  pub rest : after.admitted ≡ map (core_task ids) left
  pub hands : after.in_hand ≡ c.in_hand

abbrev gone_of : (Held → Bool) → List Held → List Held
gone_of kept hs = filter (λ h. not (kept h)) hs

settle : (ids : ℕ → ℕ) (apart : AreApart ids) (kept : Held → Bool) (front rest : List Held) (c : DomainView)
    → c.admitted ≡ map (core_task ids) (front ++ rest) → Numbered (front ++ rest) → NoneInHand ids rest c.in_hand
    → Settled ids (gone_of kept rest) (front ++ filter kept rest) c
settle ids apart kept front [] c is n none = record { after = c; settled = refl; rest = is; hands = refl }
settle ids apart kept front (h ∷ rest) c is n none =
    ⊎_elim
    (λ (e : kept h ≡ true).
    let seam : front ++ h ∷ rest ≡ (front ++ h ∷ []) ++ rest = sym (append_assoc front (h ∷ []) rest) in
    let s = settle ids apart kept (front ++ h ∷ []) rest c (is ∙ ap (map (core_task ids)) seam) (subst Numbered seam n) none.1 in
    let gone : gone_of kept rest ≡ gone_of kept (h ∷ rest) = ap (λ (b : Bool). cond (not b) (h ∷ gone_of kept rest) (gone_of kept rest)) (sym e) in
    let left : (front ++ h ∷ []) ++ filter kept rest ≡ front ++ filter kept (h ∷ rest) =
    append_assoc front (h ∷ []) (filter kept rest) ∙ ap (λ (b : Bool). front ++ cond b (h ∷ filter kept rest) (filter kept rest)) (sym e) in
    subst (λ (g : List Held). Settled ids g (front ++ filter kept (h ∷ rest)) c) gone (subst (λ (l : List Held). Settled ids (gone_of kept rest) l c) left s))
    (λ (e : kept h ≡ false).
    let id = ids h.number in
    let free : DomainView = record c {
      in_hand = c.in_hand ++ record { id = id; bw = h.ticket.bw } ∷ [];
      admitted = map (core_task ids) (front ++ rest);
      changes = c.changes ++ Released h.number ∷ [];
    } in
    let next : DomainView = record free { used = free.used - h.ticket.bw; in_hand = c.in_hand } in
    let s = settle ids apart kept front rest next refl (numbered_without front h rest n) none.1 in
    let gone : h ∷ gone_of kept rest ≡ gone_of kept (h ∷ rest) = ap (λ (b : Bool). cond (not b) (h ∷ gone_of kept rest) (gone_of kept rest)) (sym e) in
    let left : front ++ filter kept rest ≡ front ++ filter kept (h ∷ rest) = ap (λ (b : Bool). front ++ cond b (h ∷ filter kept rest) (filter kept rest)) (sym e) in
    let one : Settled ids (h ∷ gone_of kept rest) (front ++ filter kept rest) c = record {
      after = s.after;
      settled = (free, next, releases ids apart front h rest c is n, gives id h.ticket.bw free c.in_hand refl none.0, s.settled);
      rest = s.rest;
      hands = s.hands;
    } in
    subst (λ (g : List Held). Settled ids g (front ++ filter kept (h ∷ rest)) c) gone (subst (λ (l : List Held). Settled ids (h ∷ gone_of kept rest) l c) left one))
    (cases_Bool (kept h))

pub settles_as_the_core : SettlesAsTheCore
settles_as_the_core ids old new p q n reply c apart is step core none =
    let s = settle ids apart (is_kept (state_of new)) [] old.tickets c core (book_numbered old is) (none_of ids old.tickets c none) in
    record { left = s.after; settled = s.settled; rest = s.rest ∙ ap (map (core_task ids)) (sym step.tickets); hands = s.hands }

all_three : (x y z : Bool) → x ≡ true → y ≡ true → z ≡ false → (x && y && not z) ≡ true
all_three x y z a b c = rw (a, b, c) refl

pub moves_as_the_core : MovesAsTheCore
moves_as_the_core out into old new a ticket back c e apart from_is to_is step bw core_c core_e hand =
    let number = a.number in
    let h : Held = record { number = number; ticket = back } in
    let taken = step.taken in
    let same : back.bw ≡ ticket.bw = step.bw ∙ sym bw in
    let is : c.admitted ≡ map (core_task out) (taken.before ++ h ∷ taken.following) = core_c ∙ ap (map (core_task out)) taken.old_tickets in
    let n : Numbered (taken.before ++ h ∷ taken.following) = subst Numbered taken.old_tickets (book_numbered old.from from_is) in
    let granted = granted_is (state_of old.to) number a.params (sym step.came.lawful) in
    let absent = is_absent into old.to number e to_is core_e granted.fresh in
    let there = ap (find (λ (t : Task). eqb t.ticket (out number))) is ∙ found out apart taken.before h taken.following (others_front taken.before h taken.following n) in
    record {
      fits = ap (λ (o : Option Task). fits_found number e o (in_hand_of (into number) e)) there
          ∙ ap (fits_found number e (Some (core_task out h))) hand
          ∙ all_three (eqb number number) (eqb back.bw ticket.bw) (list_any (λ (t : Task). eqb t.number number) e.admitted) (eq-eqb number number refl) (eq-eqb back.bw ticket.bw same) absent;
      leaves = subst (λ (hs : List Held). ReleasesTask out number ticket.bw hs c) (sym taken.new_tickets)
          (subst (λ (k : ℕ). ReleasesTask out number k (taken.before ++ taken.following) c) same (releases out apart taken.before h taken.following c is n));
      comes = enters into number ticket old.to.tickets new.to.tickets e step.held core_e absent hand;
    }
