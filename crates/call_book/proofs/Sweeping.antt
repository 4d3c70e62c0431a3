-- The tickets of a book, where those of tasks that have gone are given back one after another.
use Rattle.std.proofs.Common.{◌≡◌, ℕ, zero, suc, ◌+◌, ◌<◌, ◌≤◌, Bool, true, false, cond, eqb, eq-eqb, ◌||◌, Option, Some, None, List, [], ◌∷◌, ◌++◌, length, map, get_or, refl, sym, ap, ◌∙◌, subst, arith, append_assoc, append-nil, length-append}
use Rattle.std.specs.Prelude.{filter, not, All, remove, option_map, slice_get}
use Rattle.std.specs.Option.{option_eq}
use Rattle.std.proofs.lemmas.Bool.{eqb-true}
use Rattle.std.proofs.lemmas.Option.{same_Some, none-some}
use Rattle.std.proofs.lemmas.List.{length_push}
use Rattle.std.proofs.lemmas.List.Elements.{All-nil, All-cons, All-head, All-tail, All-append, All-filter, All-weaker}
use Rattle.bw_gate.specs.Pieces.{GateId, BlankView}
use Rattle.call_book.specs.Pieces.{ArePieces}
use Rattle.bw_gate.specs.Answers.{IsGive}
use Rattle.call_book.specs.declared.book.stock.Held.{Held}
use Rattle.domain_run.specs.declared.task.Task.{Task}
use Rattle.domain_run.specs.Domain.{Domain}
use Rattle.domain_run.specs.Views.{number_in}
use Rattle.domain_run.specs.Keys.{keys, has_task}
use Rattle.domain_run.proofs.CallerLemmas.{view_where_listed}
use Rattle.call_book.specs.Pieces.{IsTicketOf, AreGiven, HoldsTickets, held_key, is_kept}

abbrev gone_by : (Held → Bool) → List Held → List Held
gone_by kept tickets = filter (λ h. not (kept h)) tickets

given_push : (tickets : List Held) (blanks : List BlankView) (h : Held) (b : BlankView) → AreGiven tickets blanks → IsGive h.ticket b → AreGiven (tickets ++ h ∷ []) (blanks ++ b ∷ [])
given_push [] [] h b are give = (give, tt)
given_push [] (y ∷ blanks) h b are give = absurd are
given_push (x ∷ tickets) [] h b are give = absurd are
given_push (x ∷ tickets) (y ∷ blanks) h b are give = (are.0, given_push tickets blanks h b are.1 give)

-- the tickets before a place stay, those after it are still to be looked at
pub record IsSwept (kept : Held → Bool) (all : List Held) (first : List BlankView) (items : List Held) (place : ℕ) (blanks : List BlankView) : Type 0 where
  pub front : List Held
  pub following : List Held
  pub gone : List Held
  pub given : List BlankView
  pub items_are : items ≡ front ++ following
  pub place_is : length front ≡ place
  pub kept_are : front ++ filter kept following ≡ filter kept all
  pub gone_are : gone ++ gone_by kept following ≡ gone_by kept all
  pub blanks_are : blanks ≡ first ++ given
  pub are_given : AreGiven gone given

pub swept_none : (kept : Held → Bool) (all : List Held) (first : List BlankView) → IsSwept kept all first all 0 first
swept_none kept all first = record { front = []; following = all; gone = []; given = []; items_are = refl; place_is = refl; kept_are = refl; gone_are = refl; blanks_are = sym (append-nil first); are_given = tt }

at_front : (front rest : List Held) (x h : Held) → get_or (front ++ x ∷ rest) (length front) h ≡ x
at_front [] rest x h = refl
at_front (y ∷ front) rest x h = at_front front rest x h

remove_front : (front rest : List Held) (x : Held) → remove (front ++ x ∷ rest) (length front) ≡ front ++ rest
remove_front [] rest x = refl
remove_front (y ∷ front) rest x = ap (λ (xs : List Held). y ∷ xs) (remove_front front rest x)

-- the next ticket: what stands after the place begins with it
pub record IsNext (front following : List Held) (h : Held) : Type 0 where
  pub rest : List Held
  pub after_is : following ≡ h ∷ rest

next_at : (front following items : List Held) (place : ℕ) (h : Held) → items ≡ front ++ following → length front ≡ place → place < length items → h ≡ get_or items place h → IsNext front following h
next_at front [] items place h is at within read =
    let e : length items ≡ length front = ap length is ∙ ap length (append-nil front) in absurd (omega (arith, e, at, within))
next_at front (x ∷ rest) items place h is at within read =
    let same : h ≡ x = read ∙ ap (λ (xs : List Held). get_or xs place h) is ∙ ap (λ (i : ℕ). get_or (front ++ x ∷ rest) i h) (sym at) ∙ at_front front rest x h in
    record { rest = rest; after_is = ap (λ (y : Held). y ∷ rest) (sym same) }

kept_first : (kept : Held → Bool) (h : Held) (rest : List Held) → kept h ≡ true → (filter kept (h ∷ rest) ≡ h ∷ filter kept rest) × (gone_by kept (h ∷ rest) ≡ gone_by kept rest)
kept_first kept h rest e = (rw e refl, rw e refl)

gone_first : (kept : Held → Bool) (h : Held) (rest : List Held) → kept h ≡ false → (filter kept (h ∷ rest) ≡ filter kept rest) × (gone_by kept (h ∷ rest) ≡ h ∷ gone_by kept rest)
gone_first kept h rest e = (rw e refl, rw e refl)

pub swept_keep : (kept : Held → Bool) (all : List Held) (first : List BlankView) (items : List Held) (place : ℕ) (blanks : List BlankView) (h : Held) → IsSwept kept all first items place blanks → place < length items → h ≡ get_or items place h → kept h ≡ true → IsSwept kept all first items (place + 1) blanks
swept_keep kept all first items place blanks h is within read stays =
    let next = next_at is.front is.following items place h is.items_are is.place_is within read in
    let step = kept_first kept h next.rest stays in
    record {
      front = is.front ++ h ∷ [];
      following = next.rest;
      gone = is.gone;
      given = is.given;
      items_are = is.items_are ∙ ap (λ (xs : List Held). is.front ++ xs) next.after_is ∙ sym (append_assoc is.front (h ∷ []) next.rest);
      place_is = length_push is.front h ∙ ap (λ (n : ℕ). n + 1) is.place_is;
      kept_are = append_assoc is.front (h ∷ []) (filter kept next.rest) ∙ ap (λ (xs : List Held). is.front ++ xs) (sym step.0) ∙ ap (λ (xs : List Held). is.front ++ filter kept xs) (sym next.after_is) ∙ is.kept_are;
      gone_are = ap (λ (xs : List Held). is.gone ++ xs) (sym step.1) ∙ ap (λ (xs : List Held). is.gone ++ gone_by kept xs) (sym next.after_is) ∙ is.gone_are;
      blanks_are = is.blanks_are;
      are_given = is.are_given;
    }

pub swept_give : (kept : Held → Bool) (all : List Held) (first : List BlankView) (items : List Held) (place : ℕ) (blanks : List BlankView) (h : Held) (left : List Held) (more : List BlankView) (b : BlankView) → IsSwept kept all first items place blanks → place < length items → h ≡ get_or items place h → kept h ≡ false → left ≡ remove items place → more ≡ blanks ++ b ∷ [] → IsGive h.ticket b → IsSwept kept all first left place more
swept_give kept all first items place blanks h left more b is within read goes removed pushed give =
    let next = next_at is.front is.following items place h is.items_are is.place_is within read in
    let step = gone_first kept h next.rest goes in
    record {
      front = is.front;
      following = next.rest;
      gone = is.gone ++ h ∷ [];
      given = is.given ++ b ∷ [];
      items_are = removed ∙ ap (λ (xs : List Held). remove xs place) (is.items_are ∙ ap (λ (xs : List Held). is.front ++ xs) next.after_is) ∙ ap (λ (i : ℕ). remove (is.front ++ h ∷ next.rest) i) (sym is.place_is) ∙ remove_front is.front next.rest h;
      place_is = is.place_is;
      kept_are = ap (λ (xs : List Held). is.front ++ xs) (sym step.0) ∙ ap (λ (xs : List Held). is.front ++ filter kept xs) (sym next.after_is) ∙ is.kept_are;
      gone_are = append_assoc is.gone (h ∷ []) (gone_by kept next.rest) ∙ ap (λ (xs : List Held). is.gone ++ xs) (sym step.1) ∙ ap (λ (xs : List Held). is.gone ++ gone_by kept xs) (sym next.after_is) ∙ is.gone_are;
      blanks_are = pushed ∙ ap (λ (xs : List BlankView). xs ++ b ∷ []) is.blanks_are ∙ append_assoc first is.given (b ∷ []);
      are_given = given_push is.gone is.given h b is.are_given give;
    }

-- ---- which ticket stays: that of the task at its place

-- the number of the task at a place
abbrev listed_at : List Task → ℕ → Option ℕ
listed_at tasks place = option_map (λ (t : Task). t.number) (slice_get tasks place)

abbrev first_key : List (ℕ × ℕ) → ℕ × ℕ
first_key ks = get_or ks 0 (0, 0)

abbrev later_keys : List (ℕ × ℕ) → List (ℕ × ℕ)
later_keys [] = []
later_keys (k ∷ ks) = ks

-- the ticket after some that stay, where these tickets are those of the tasks
stays_here : (front rest : List Held) (h : Held) (tasks : List Task) → map held_key (front ++ h ∷ rest) ≡ keys tasks → listed_at tasks (length front) ≡ Some h.number
stays_here [] rest h [] same = absurd (omega (arith, ap length same))
stays_here [] rest h (t ∷ tasks) same = ap (λ (ks : List (ℕ × ℕ)). Some (first_key ks).0) (sym same)
stays_here (x ∷ front) rest h [] same = absurd (omega (arith, ap length same))
stays_here (x ∷ front) rest h (t ∷ tasks) same = stays_here front rest h tasks (ap later_keys same)

-- who stands at a place is listed
listed_here : (tasks : List Task) (place number : ℕ) → listed_at tasks place ≡ Some number → has_task tasks number ≡ true
listed_here [] place number here = absurd (none-some number here)
listed_here (t ∷ tasks) zero number here = ap (λ b. b || has_task tasks number) (eq-eqb t.number number (same_Some t.number number here))
listed_here (t ∷ tasks) (suc place) number here =
    let rest = listed_here tasks place number here in
    elim (eqb t.number number) as (λ b. (b || has_task tasks number) ≡ true) [ true ↦ refl | false ↦ rest ]

same_number : (o : Option ℕ) (number : ℕ) → option_eq eqb o (Some number) ≡ true → o ≡ Some number
same_number None number is = absurd cc
same_number (Some n) number is = ap (λ (m : ℕ). Some m) (eqb-true n number is)

-- a ticket whose task is the one at its place stays
pub kept_there : (state : Domain) (place : ℕ) (h : Held) → option_eq eqb (number_in state place) (Some h.number) ≡ true → is_kept state h ≡ true
kept_there state place h here = view_where_listed state h.number ∙ listed_here state.tasks place h.number (same_number (number_in state place) h.number here)

-- a ticket that stays is that of the task at its place
there_kept : (state : Domain) (all : List Held) (first : List BlankView) (items : List Held) (place : ℕ) (blanks : List BlankView) (h : Held) → HoldsTickets state (filter (is_kept state) all) → IsSwept (is_kept state) all first items place blanks → place < length items → h ≡ get_or items place h → is_kept state h ≡ true → number_in state place ≡ Some h.number
there_kept state all first items place blanks h held is within read stays =
    let next = next_at is.front is.following items place h is.items_are is.place_is within read in
    let step = kept_first (is_kept state) h next.rest stays in
    let following : filter (is_kept state) is.following ≡ h ∷ filter (is_kept state) next.rest = ap (filter (is_kept state)) next.after_is ∙ step.0 in
    let same : map held_key (is.front ++ h ∷ filter (is_kept state) next.rest) ≡ keys state.tasks =
    ap (map held_key) (ap (λ (xs : List Held). is.front ++ xs) (sym following) ∙ is.kept_are) ∙ held in
    ap (listed_at state.tasks) (sym is.place_is) ∙ stays_here is.front (filter (is_kept state) next.rest) h state.tasks same

-- so any other goes
pub gone_there : (state : Domain) (all : List Held) (first : List BlankView) (items : List Held) (place : ℕ) (blanks : List BlankView) (h : Held) → HoldsTickets state (filter (is_kept state) all) → IsSwept (is_kept state) all first items place blanks → place < length items → h ≡ get_or items place h → option_eq eqb (number_in state place) (Some h.number) ≡ false → is_kept state h ≡ false
gone_there state all first items place blanks h held is within read other =
    elim (is_kept state h) as (λ b. is_kept state h ≡ b → b ≡ false) [
      | true ↦ λ stays.
          let here = there_kept state all first items place blanks h held is within read stays in
          let yes : option_eq eqb (number_in state place) (Some h.number) ≡ true = ap (λ (o : Option ℕ). option_eq eqb o (Some h.number)) here ∙ eq-eqb h.number h.number refl in
          absurd cc
      | false ↦ λ stays. refl
    ] refl

-- all have been looked at
pub swept_all : (kept : Held → Bool) (all : List Held) (first : List BlankView) (items : List Held) (place : ℕ) (blanks : List BlankView) → IsSwept kept all first items place blanks → length items ≤ place → (items ≡ filter kept all) × ((given : List BlankView) × (blanks ≡ first ++ given) × AreGiven (gone_by kept all) given)
swept_all kept all first items place blanks is past =
    let long : length items ≡ length is.front + length is.following = ap length is.items_are ∙ length-append is.front is.following in
    let none : is.following ≡ [] = empty is.following (omega (arith, long, is.place_is, past)) in
    let gone : is.gone ≡ gone_by kept all = sym (append-nil is.gone) ∙ ap (λ (xs : List Held). is.gone ++ gone_by kept xs) (sym none) ∙ is.gone_are in
    (is.items_are ∙ ap (λ (xs : List Held). is.front ++ xs) none ∙ ap (λ (xs : List Held). is.front ++ filter kept xs) (sym none) ∙ is.kept_are, (is.given, is.blanks_are, subst (λ (xs : List Held). AreGiven xs is.given) gone is.are_given))
  where
    empty : (xs : List Held) → length xs ≡ 0 → xs ≡ []
    empty [] e = refl
    empty (x ∷ xs) e = absurd (omega arith)

-- what is kept is of the gate and domain, what was given back is of the gate, and no piece is lost
length-given : (tickets : List Held) (blanks : List BlankView) → AreGiven tickets blanks → length blanks ≡ length tickets
length-given [] [] are = refl
length-given [] (y ∷ blanks) are = absurd are
length-given (x ∷ tickets) [] are = absurd are
length-given (x ∷ tickets) (y ∷ blanks) are = let more = length-given tickets blanks are.1 in omega (arith, more)

length-split : (kept : Held → Bool) (tickets : List Held) → length (filter kept tickets) + length (gone_by kept tickets) ≡ length tickets
length-split kept [] = refl
length-split kept (x ∷ tickets) =
    let more = length-split kept tickets in
    elim (kept x) as (λ b. length (cond b (x ∷ filter kept tickets) (filter kept tickets)) + length (cond (not b) (x ∷ gone_by kept tickets) (gone_by kept tickets)) ≡ length (x ∷ tickets)) [ true ↦ omega (arith, more) | false ↦ omega (arith, more) ]

given_own : (gate : GateId) (tickets : List Held) (blanks : List BlankView) → AreGiven tickets blanks → All (λ h. h.ticket.gate ≡ gate) tickets → All (λ b. b.gate ≡ gate) blanks
given_own gate [] [] are all = All-nil (λ (b : BlankView). b.gate ≡ gate)
given_own gate [] (y ∷ blanks) are all = absurd are
given_own gate (x ∷ tickets) [] are all = absurd are
given_own gate (x ∷ tickets) (y ∷ blanks) are all =
    let P : Held → Type 0 = λ h. h.ticket.gate ≡ gate in
    let Q : BlankView → Type 0 = λ b. b.gate ≡ gate in
    All-cons Q y blanks (ap (λ (b : BlankView). b.gate) are.0.blank ∙ All-head P x tickets all) (given_own gate tickets blanks are.1 (All-tail P x tickets all))

pub swept_pieces : (kept : Held → Bool) (gate : GateId) (domain : ℕ) (tickets left : List Held) (blanks more given : List BlankView) → ArePieces gate domain tickets blanks → left ≡ filter kept tickets → more ≡ blanks ++ given → AreGiven (gone_by kept tickets) given → ArePieces gate domain left more
swept_pieces kept gate domain tickets left blanks more given are kept_are more_are given_are =
    let P : Held → Type 0 = λ h. IsTicketOf gate domain h.ticket in
    let Q : BlankView → Type 0 = λ b. b.gate ≡ gate in
    let own = All-weaker P (λ (h : Held). h.ticket.gate ≡ gate) (λ h is. is.own) tickets are.held in
    let free = given_own gate (gone_by kept tickets) given given_are (All-filter (λ h. not (kept h)) (λ (h : Held). h.ticket.gate ≡ gate) tickets own) in
    let few = are.few in
    record {
      held = subst (All P) (sym kept_are) (All-filter kept P tickets are.held);
      free = subst (All Q) (sym more_are) (All-append Q blanks given are.free free);
      few = omega (arith, ap length kept_are, ap length more_are, length-append blanks given, length-given (gone_by kept tickets) given given_are, length-split kept tickets, few);
    }
