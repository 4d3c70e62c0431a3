-- The admissions of several clients, and their union.
use Rattle.std.proofs.Common.{◌≡◌, ◌≢◌, ℕ, suc, ◌+◌, ◌-◌, ◌%◌, ◌≤◌, ◌<◌, Bool, true, false, cond, eqb, List, [], ◌∷◌, ◌++◌, length, map, set, get_or, take, drop, Option, Some, None, option_map, All, refl, sym, ap, subst, ◌∙◌, arith, mod-lt, add-zero, eq-eqb}
use Rattle.std.specs.Prelude.{slice_index_or}
use Rattle.std.specs.List.{cons_option}
use Rattle.std.proofs.lemmas.Bool.{eqb-true, eqb-false}
use Rattle.std.proofs.lemmas.List.{append_assoc, append-nil, length-append, map-append, get_or-set_same, get_or-set_other, length-set, length-map, get_or_default, get_or-map, get_or_push, get_or_append_left, take-append-drop}
use Rattle.std.proofs.lemmas.List.Elements.{All-append, All-nil, All-cons, All-head, All-tail, filter-append, filter_map-append}
use Rattle.std.proofs.lemmas.List.Filters.{length-filter_more}
use Rattle.rtapp_scenario.specs.ScenarioView.{TaskSpecView}
use Rattle.bw_gate.specs.Pieces.{BlankView}
use Rattle.calls_text.specs.declared.section.Entry.{Entry}
use Rattle.session.specs.declared.refusal.Refusal.{Refusal}
use Rattle.session.specs.SessionId.{SessionId}
use Rattle.session.specs.Asks.{Answer, IsLawful, Asked, Made, made_in, made_at, admit_call, domain_with_cpus, entries_from, ClientView, client_pass_in, followed_by, Asks, AsksInTurn, IsHandAfterAll}
use Rattle.session.specs.Admissions.{is_own, own_asked, refused_with, refused_in}
use Rattle.session.specs.Admissions.{AllAsked}
use Rattle.session.proofs.Closed.{by_place_more}
use Rattle.session.specs.private.Admitting.{is_own_task, own_tasks, with_answers, AreAnswers, AsksOwn, SeatView, AsksSeat, IsSeat, HasRoom, HaveSeats, AreAsked, IsUnion}

-- ---- one client after another list of tasks

entries_more : (client seq : ℕ) (xs ys : List Made) → entries_from client seq (xs ++ ys) ≡ entries_from client seq xs ++ entries_from client (seq + length xs) ys
entries_more client seq [] ys = ap (λ (n : ℕ). entries_from client n ys) (sym (add-zero seq))
entries_more client seq (x ∷ xs) ys =
    let e : (seq + 1) + length xs ≡ seq + suc (length xs) = omega arith in
    ap (λ (l : List Entry). record { client = client; seq = seq; call = x.call; reply = Some x.reply } ∷ l)
    (entries_more client (seq + 1) xs ys ∙ ap (λ (n : ℕ). entries_from client (seq + 1) xs ++ entries_from client n ys) e)

entries_count : (client seq : ℕ) (xs : List Made) → length (entries_from client seq xs) ≡ length xs
entries_count client seq [] = refl
entries_count client seq (x ∷ xs) = ap suc (entries_count client (seq + 1) xs)

pub followed_more : (a b c : ClientView) (d : ℕ) (xs ys : List Made) → b.number ≡ a.number → client_pass_in b d ≡ followed_by a d xs → client_pass_in c d ≡ followed_by b d ys → client_pass_in c d ≡ followed_by a d (xs ++ ys)
followed_more a b c d xs ys number first next =
    let front = client_pass_in a d in
    let made = entries_from a.number (length front) xs in
    let count : length (front ++ made) ≡ length front + length xs = length-append front made ∙ ap (λ (n : ℕ). length front + n) (entries_count a.number (length front) xs) in
    next
    ∙ ap (λ (n : ℕ). client_pass_in b d ++ entries_from n (length (client_pass_in b d)) ys) number
    ∙ ap (λ (l : List Entry). l ++ entries_from a.number (length l) ys) first
    ∙ ap (λ (n : ℕ). (front ++ made) ++ entries_from a.number n ys) count
    ∙ append_assoc front made (entries_from a.number (length front + length xs) ys)
    ∙ ap (λ (l : List Entry). front ++ l) (sym (entries_more a.number (length front) xs ys))

hand_more : (id : SessionId) (a b c : Option BlankView) (xs ys : List Asked) → IsHandAfterAll id a xs b → IsHandAfterAll id b ys c → IsHandAfterAll id a (xs ++ ys) c
hand_more id a b c [] ys first next = subst (λ (h : Option BlankView). IsHandAfterAll id h ys c) first next
hand_more id a b c (x ∷ xs) ys first next = (first.0, first.1, hand_more id first.0 b c xs ys first.2 next)

turns_more : (id : SessionId) (a b c : ClientView) (xs ys : List Asked) → AsksInTurn id a xs b → AsksInTurn id b ys c → AsksInTurn id a (xs ++ ys) c
turns_more id a b c [] ys first next = subst (λ (v : ClientView). AsksInTurn id v ys c) first next
turns_more id a b c (x ∷ xs) ys first next = (first.0, first.1, turns_more id first.0 b c xs ys first.2 next)

pub asks_more : (id : SessionId) (a b c : ClientView) (xs ys : List Asked) → Asks id a b xs → Asks id b c ys → Asks id a c (xs ++ ys)
asks_more id a b c xs ys first next = record {
  lawful = All-append (λ q. IsLawful id q.task q.answer) xs ys first.lawful next.lawful;
  made = record {
    number = next.made.number ∙ first.made.number;
    domains = next.made.domains ∙ first.made.domains;
    passes = λ d inside.
        let there : d < length b.passes = omega (arith, inside, first.made.domains) in
        followed_more a b c d (made_in id d xs) (made_in id d ys) first.made.number (first.made.passes d inside) (next.made.passes d there)
        ∙ ap (λ (l : List Made). followed_by a d l) (sym (filter_map-append (λ q. made_at d (domain_with_cpus id.cpu_sets q.task.cpus) (admit_call q.task) q.answer) xs ys));
  };
  hand = hand_more id a.hand b.hand c.hand xs ys first.hand next.hand;
  turns = turns_more id a b c xs ys first.turns next.turns;
}

-- ---- the tasks of one client

answered_more : (xs ys : List TaskSpecView) (ans bs : List Answer) → length ans ≡ length xs → with_answers (xs ++ ys) (ans ++ bs) ≡ with_answers xs ans ++ with_answers ys bs
answered_more [] ys [] bs e = refl
answered_more [] ys (a ∷ ans) bs e = absurd (omega (arith, e))
answered_more (x ∷ xs) ys [] bs e = absurd (omega (arith, e))
answered_more (x ∷ xs) ys (a ∷ ans) bs e = ap (λ (l : List Asked). record { task = x; answer = a } ∷ l) (answered_more xs ys ans bs (omega (arith, e)))

own_of_one : (n i : ℕ) (t : TaskSpecView) (b : Bool) → is_own_task n i t ≡ b → own_tasks n i (t ∷ []) ≡ cond b (t ∷ []) []
own_of_one n i t b e = ap (λ (c : Bool). cond c (t ∷ []) []) e

own_more : (n i : ℕ) (t : TaskSpecView) (ts : List TaskSpecView) (b : Bool) → is_own_task n i t ≡ b → own_tasks n i (ts ++ t ∷ []) ≡ own_tasks n i ts ++ cond b (t ∷ []) []
own_more n i t ts b e = filter-append (is_own_task n i) ts (t ∷ []) ∙ ap (λ (l : List TaskSpecView). own_tasks n i ts ++ l) (own_of_one n i t b e)

-- its next task
pub own_next : (id : SessionId) (n i : ℕ) (ts : List TaskSpecView) (t : TaskSpecView) (c d e : ClientView) (ans : List Answer) (a : Answer)
    → is_own_task n i t ≡ true → AsksOwn id n i ts c d ans → Asks id d e (record { task = t; answer = a } ∷ []) → AsksOwn id n i (ts ++ t ∷ []) c e (ans ++ a ∷ [])
own_next id n i ts t c d e ans a is before one =
    let own : own_tasks n i (ts ++ t ∷ []) ≡ own_tasks n i ts ++ t ∷ [] = own_more n i t ts true is in
    record {
      each = length-append ans (a ∷ []) ∙ (ap (λ (k : ℕ). k + 1) before.each ∙ (sym (length-append (own_tasks n i ts) (t ∷ [])) ∙ sym (ap length own)));
      asks = subst (λ (l : List Asked). Asks id c e l)
          (sym (answered_more (own_tasks n i ts) (t ∷ []) ans (a ∷ []) before.each) ∙ ap (λ (l : List TaskSpecView). with_answers l (ans ++ a ∷ [])) (sym own))
          (asks_more id c d e (with_answers (own_tasks n i ts) ans) (record { task = t; answer = a } ∷ []) before.asks one);
    }

-- a task of another client
pub own_same : (id : SessionId) (n i : ℕ) (ts : List TaskSpecView) (t : TaskSpecView) (c d : ClientView) (ans : List Answer)
    → is_own_task n i t ≡ false → AsksOwn id n i ts c d ans → AsksOwn id n i (ts ++ t ∷ []) c d ans
own_same id n i ts t c d ans is before =
    let own : own_tasks n i (ts ++ t ∷ []) ≡ own_tasks n i ts = own_more n i t ts false is ∙ append-nil (own_tasks n i ts) in
    record {
      each = before.each ∙ sym (ap length own);
      asks = subst (λ (l : List TaskSpecView). Asks id c d (with_answers l ans)) (sym own) before.asks;
    }

-- ---- the union

-- what is left of the clients' answers when those to the tasks before these are put together; f
-- tells the answers of a share
pub record IsLeft {X : Type 0} (f : X → List Answer) (n : ℕ) (tasks rest : List TaskSpecView) (shares left : List X) (refused : List (ℕ × Refusal)) : Type 0 where
  pub asked : List Asked
  pub tasks_are : map (λ q. q.task) asked ++ rest ≡ tasks
  pub refused_are : refused ≡ refused_in asked
  pub count : length left ≡ n
  pub each : (i : ℕ) (x : X) → i < n → AreAnswers n i rest (f (get_or left i x))
  pub own : (i : ℕ) (x : X) → i < n
      → own_asked n i asked ++ with_answers (own_tasks n i rest) (f (get_or left i x)) ≡ with_answers (own_tasks n i tasks) (f (get_or shares i x))

own_cons : (n i : ℕ) (t : TaskSpecView) (rest : List TaskSpecView) (b : Bool) → is_own_task n i t ≡ b → own_tasks n i (t ∷ rest) ≡ cond b (t ∷ own_tasks n i rest) (own_tasks n i rest)
own_cons n i t rest b e = ap (λ (c : Bool). cond c (t ∷ own_tasks n i rest) (own_tasks n i rest)) e

asked_push : (n i : ℕ) (asked : List Asked) (q : Asked) (b : Bool) → is_own n i q ≡ b → own_asked n i (asked ++ q ∷ []) ≡ own_asked n i asked ++ cond b (q ∷ []) []
asked_push n i asked q b e = filter-append (is_own n i) asked (q ∷ []) ∙ ap (λ (c : Bool). own_asked n i asked ++ cond c (q ∷ []) []) e

-- what one share has for the tasks from t on, and for those after it
pub record IsShare (n i : ℕ) (rest : List TaskSpecView) (asked : List Asked) (share : List Answer) (whole : List Asked) : Type 0 where
  pub each : AreAnswers n i rest share
  pub own : own_asked n i asked ++ with_answers (own_tasks n i rest) share ≡ whole

share_next : (n i : ℕ) (t : TaskSpecView) (rest : List TaskSpecView) (asked : List Asked) (old new : List Answer) (a : Answer) (whole : List Asked) (b : Bool)
    → is_own_task n i t ≡ b → old ≡ cond b (a ∷ new) new → IsShare n i (t ∷ rest) asked old whole
    → IsShare n i rest (asked ++ record { task = t; answer = a } ∷ []) new whole
share_next n i t rest asked old new a whole true is turn was =
    let tasks : own_tasks n i (t ∷ rest) ≡ t ∷ own_tasks n i rest = own_cons n i t rest true is in
    let q : Asked = record { task = t; answer = a } in
    record {
      each = omega (arith, was.each, ap length tasks, ap length turn);
      own =
          ap (λ (l : List Asked). l ++ with_answers (own_tasks n i rest) new) (asked_push n i asked q true is)
          ∙ (append_assoc (own_asked n i asked) (q ∷ []) (with_answers (own_tasks n i rest) new)
          ∙ (ap (λ (l : List TaskSpecView). own_asked n i asked ++ with_answers l (a ∷ new)) (sym tasks)
          ∙ (ap (λ (l : List Answer). own_asked n i asked ++ with_answers (own_tasks n i (t ∷ rest)) l) (sym turn) ∙ was.own)));
    }
share_next n i t rest asked old new a whole false is turn was =
    let tasks : own_tasks n i (t ∷ rest) ≡ own_tasks n i rest = own_cons n i t rest false is in
    let q : Asked = record { task = t; answer = a } in
    record {
      each = sym (ap length turn) ∙ (was.each ∙ ap length tasks);
      own =
          ap (λ (l : List Asked). l ++ with_answers (own_tasks n i rest) new) (asked_push n i asked q false is ∙ append-nil (own_asked n i asked))
          ∙ (ap (λ (l : List TaskSpecView). own_asked n i asked ++ with_answers l new) (sym tasks)
          ∙ (ap (λ (l : List Answer). own_asked n i asked ++ with_answers (own_tasks n i (t ∷ rest)) l) (sym turn) ∙ was.own));
    }

-- the share of the place p gives its first answer, and the others stay
turn_at : {X : Type 0} (f : X → List Answer) (left : List X) (p i : ℕ) (x d y : X) (a : Answer) (b : Bool)
    → eqb p i ≡ b → p < length left → f (get_or left p d) ≡ a ∷ f y
    → f (get_or left i x) ≡ cond b (a ∷ f (get_or (set left p y) i x)) (f (get_or (set left p y) i x))
turn_at {X} f left p i x d y a true is inside first =
    subst
    (λ (k : ℕ). f (get_or left k x) ≡ a ∷ f (get_or (set left p y) k x))
    (eqb-true p i is)
    (ap f (get_or_default left p x d inside) ∙ (first ∙ ap (λ (z : X). a ∷ f z) (sym (get_or-set_same left p y x inside))))
turn_at f left p i x d y a false is inside first =
    let other : i ≢ p = λ same. eqb-false p i is (sym same) in
    ap f (sym (get_or-set_other left p i y x other))

-- the next task's answer
pub left_next : {X : Type 0} (f : X → List Answer) (n : ℕ) (tasks rest : List TaskSpecView) (t : TaskSpecView) (shares left : List X) (d y : X) (a : Answer) (refused more : List (ℕ × Refusal))
    → 0 < n → IsLeft f n tasks (t ∷ rest) shares left refused
    → f (get_or left ((t.number - 1) % n) d) ≡ a ∷ f y
    → more ≡ refused ++ refused_in (record { task = t; answer = a } ∷ [])
    → IsLeft f n tasks rest shares (set left ((t.number - 1) % n) y) more
left_next {X} f n tasks rest t shares left d y a refused more some was first logged =
    let p = (t.number - 1) % n in
    let q : Asked = record { task = t; answer = a } in
    let inside : p < length left = omega (arith, mod-lt (t.number - 1) some, was.count) in
    let next : (i : ℕ) (x : X) → i < n → IsShare n i rest (was.asked ++ q ∷ []) (f (get_or (set left p y) i x)) (with_answers (own_tasks n i tasks) (f (get_or shares i x))) =
    λ i x within. share_next n i t rest was.asked (f (get_or left i x)) (f (get_or (set left p y) i x)) a (with_answers (own_tasks n i tasks) (f (get_or shares i x))) (eqb p i) refl
    (turn_at f left p i x d y a (eqb p i) refl inside first)
    (record { each = was.each i x within; own = was.own i x within }) in
    record {
      asked = was.asked ++ q ∷ [];
      tasks_are = ap (λ (l : List TaskSpecView). l ++ rest) (map-append (λ q. q.task) was.asked (q ∷ [])) ∙ (append_assoc (map (λ q. q.task) was.asked) (t ∷ []) rest ∙ was.tasks_are);
      refused_are = logged ∙ (ap (λ (l : List (ℕ × Refusal)). l ++ refused_in (q ∷ [])) was.refused_are ∙ sym (filter_map-append (λ q. option_map (λ r. (q.task.number, r)) (refused_with q.answer)) was.asked (q ∷ [])));
      count = length-set left p y ∙ was.count;
      each = λ i x within. (next i x within).each;
      own = λ i x within. (next i x within).own;
    }

logged_of : (refused : List (ℕ × Refusal)) (o : Option (ℕ × Refusal)) → length (refused ++ cons_option o []) ≤ length refused + 1
logged_of refused None = omega (arith, length-append refused [])
logged_of refused (Some r) = omega (arith, length-append refused (r ∷ []))

-- at most one is refused
pub logged_few : (refused : List (ℕ × Refusal)) (t : TaskSpecView) (a : Answer) → length (refused ++ refused_in (record { task = t; answer = a } ∷ [])) ≤ length refused + 1
logged_few refused t a = logged_of refused (option_map (λ r. (t.number, r)) (refused_with a))

-- there is an answer to the next task
pub some_left : {X : Type 0} (f : X → List Answer) (n : ℕ) (tasks rest : List TaskSpecView) (t : TaskSpecView) (shares left : List X) (d : X) (refused : List (ℕ × Refusal))
    → 0 < n → IsLeft f n tasks (t ∷ rest) shares left refused → 0 < length (f (get_or left ((t.number - 1) % n) d))
some_left f n tasks rest t shares left d refused some was =
    let p = (t.number - 1) % n in
    omega (arith, was.each p d (mod-lt (t.number - 1) some), ap length (own_cons n p t rest true (eq-eqb p p refl)))

some_of : {X : Type 0} (xs : List X) → 0 < length xs → X
some_of [] some = absurd (omega (arith, some))
some_of (x ∷ xs) some = x

-- after the last task
pub union_of : {X : Type 0} (f : X → List Answer) (tasks : List TaskSpecView) (shares left : List X) (refused : List (ℕ × Refusal))
    → IsLeft f (length shares) tasks [] shares left refused → IsUnion tasks (map f shares) refused
union_of {X} f tasks shares left refused was =
    let n = length shares in
    let count : length (map f shares) ≡ n = length-map shares f in
    record {
      asked = was.asked;
      tasks_are = sym (append-nil (map (λ q. q.task) was.asked)) ∙ was.tasks_are;
      refused_are = was.refused_are;
      own = λ i x inside.
          let within : i < n = omega (arith, inside, count) in
          let y : X = some_of shares (omega (arith, within)) in
          subst
          (λ (k : ℕ). own_asked k i was.asked ≡ with_answers (own_tasks k i tasks) (slice_index_or (map f shares) i x))
          (sym count)
          (sym (append-nil (own_asked n i was.asked)) ∙ (was.own i y within ∙ ap (λ (l : List Answer). with_answers (own_tasks n i tasks) l) (sym (get_or-map f shares i y x within))));
    }

-- ---- all clients

following : (P : Asked → Type 0) (q : Asked) (l : List Asked) (b : Bool) → All P (cond b (q ∷ l) l) → All P l
following P q l true h = All-tail P q l h
following P q l false h = h

-- what holds of the tasks of each client holds of all
all_own : (P : Asked → Type 0) (n : ℕ) (asked : List Asked) → 0 < n → ((i : ℕ) → i < n → All P (own_asked n i asked)) → All P asked
all_own P n [] some each = All-nil P
all_own P n (q ∷ asked) some each =
    let i = (q.task.number - 1) % n in
    let within : i < n = mod-lt (q.task.number - 1) some in
    let is : is_own n i q ≡ true = eq-eqb i i refl in
    All-cons P q asked
    (All-head P q (own_asked n i asked) (subst (λ (c : Bool). All P (cond c (q ∷ own_asked n i asked) (own_asked n i asked))) is (each i within)))
    (all_own P n asked some (λ j there. following P q (own_asked n j asked) (is_own n j q) (each j there)))

nobody : ClientView
nobody = record { number = 0; passes = []; hand = None }

pub all_asked : (id : SessionId) (tasks : List TaskSpecView) (before after : List ClientView) (shares : List (List Answer)) (refused : List (ℕ × Refusal))
    → 0 < length before → length after ≡ length before → length shares ≡ length before
    → ((i : ℕ) (x : ClientView) → i < length before → AsksOwn id (length before) i tasks (get_or before i x) (get_or after i x) (get_or shares i []))
    → IsUnion tasks shares refused → AllAsked id tasks before after refused
all_asked id tasks before after shares refused some places count each union =
    let n = length before in
    let own : (i : ℕ) → i < n → own_asked n i union.asked ≡ with_answers (own_tasks n i tasks) (get_or shares i []) =
    λ i within. subst (λ (k : ℕ). own_asked k i union.asked ≡ with_answers (own_tasks k i tasks) (get_or shares i [])) count (union.own i [] (omega (arith, within, count))) in
    record {
      asked = union.asked;
      tasks_are = union.tasks_are;
      lawful = all_own (λ q. IsLawful id q.task q.answer) n union.asked some (λ i within. subst (All (λ q. IsLawful id q.task q.answer)) (sym (own i within)) (each i nobody within).asks.lawful);
      refused_are = union.refused_are;
      places = places;
      each = λ i x within. subst (λ (l : List Asked). Asks id (get_or before i x) (get_or after i x) l) (sym (own i within)) (each i x within).asks;
    }

seated_asks : (id : SessionId) (tasks : List TaskSpecView) (n i : ℕ) (c e : ClientView) (s : SeatView) (answers : List Answer)
    → IsSeat tasks n i c s → AsksSeat id tasks s e answers → AsksOwn id n i tasks c e answers
seated_asks id tasks n i c e s answers seat asks =
    subst (λ (x : ClientView). AsksOwn id n i tasks x e answers) seat.client
    (subst (λ (j : ℕ). AsksOwn id n j tasks s.client e answers) seat.place
    (subst (λ (m : ℕ). AsksOwn id m s.place tasks s.client e answers) seat.many asks))

-- the clients at their seats
pub all_seated : (id : SessionId) (tasks : List TaskSpecView) (before : List ClientView) (seats : List SeatView) (after : List ClientView) (shares : List (List Answer)) (refused : List (ℕ × Refusal))
    → 0 < length before → HaveSeats tasks before seats → AreAsked id tasks seats after shares → IsUnion tasks shares refused → AllAsked id tasks before after refused
all_seated id tasks before seats after shares refused some assigned asked union =
    all_asked id tasks before after shares refused some (asked.count ∙ assigned.count) (asked.shared ∙ assigned.count)
    (λ i x inside.
    let s : SeatView = record { client = x; place = i; many = 0; room = 0 } in
    seated_asks id tasks (length before) i (get_or before i x) (get_or after i x) (get_or seats i s) (get_or shares i []) (assigned.each i x s inside) (asked.each i s x (omega (arith, inside, assigned.count))))
    union

-- before the last task of its own a client has had fewer
pub own_few : (n i k : ℕ) (tasks : List TaskSpecView) (d : TaskSpecView) → k < length tasks → is_own_task n i (get_or tasks k d) ≡ true
    → length (own_tasks n i (take k tasks)) < length (own_tasks n i tasks)
own_few n i k tasks d inside is =
    let more = length-filter_more (is_own_task n i) tasks k d inside in
    let one = ap {B = ℕ} (λ (b : Bool). cond b 1 0) is in
    let split = ap (λ (l : List TaskSpecView). length (own_tasks n i l)) (take-append-drop (k + 1) tasks) in
    let both = ap length (filter-append (is_own_task n i) (take (k + 1) tasks) (drop (k + 1) tasks)) in
    let sum = length-append (own_tasks n i (take (k + 1) tasks)) (own_tasks n i (drop (k + 1) tasks)) in
    omega (arith, more, one, split, both, sum)

-- two lists grow by one element each
pub both_more : {X Y : Type 0} (P : ℕ → X → Y → Type 0) (xs : List X) (ys : List Y) (x : X) (y : Y) → length ys ≡ length xs
    → ((k : ℕ) (d : X) (e : Y) → k < length xs → P k (get_or xs k d) (get_or ys k e)) → P (length xs) x y
    → (k : ℕ) (d : X) (e : Y) → k < length (xs ++ x ∷ []) → P k (get_or (xs ++ x ∷ []) k d) (get_or (ys ++ y ∷ []) k e)
both_more {X} {Y} P xs ys x y same each last k d e inside =
    by_place_more
    (λ (j : ℕ) (a : X). (f : Y) → P j a (get_or (ys ++ y ∷ []) j f))
    xs x
    (λ j a low f. subst (P j (get_or xs j a)) (sym (get_or_append_left ys (y ∷ []) f j (omega (arith, low, same)))) (each j a f low))
    (λ f. subst (P (length xs) x) (sym (get_or_push ys y f (length xs) same)) last)
    k d inside e

-- the clients of the threads that were joined have asked
pub asked_of : {H S : Type 0} (id : SessionId) (tasks : List TaskSpecView) (f : H → SeatView) (g : S → List Answer) (handles : List H) (clients : List ClientView) (shares : List S)
    → length clients ≡ length handles → length shares ≡ length handles
    → ((k : ℕ) (d : H) (x : ClientView) (y : S) → k < length handles → AsksSeat id tasks (f (get_or handles k d)) (get_or clients k x) (g (get_or shares k y)))
    → AreAsked id tasks (map f handles) clients (map g shares)
asked_of {H} {S} id tasks f g handles clients shares count shared each =
    let all : length (map f handles) ≡ length handles = length-map handles f in
    record {
      count = count ∙ sym all;
      shared = length-map shares g ∙ shared ∙ sym all;
      each = λ i s x inside.
          let within : i < length handles = omega (arith, inside, all) in
          let there : i < length shares = omega (arith, within, shared) in
          let d : H = some_of handles (omega (arith, within)) in
          let y : S = some_of shares (omega (arith, there)) in
          subst (λ (t : SeatView). AsksSeat id tasks t (get_or clients i x) (get_or (map g shares) i [])) (sym (get_or-map f handles i d s within))
          (subst (λ (l : List Answer). AsksSeat id tasks (f (get_or handles i d)) (get_or clients i x) l) (sym (get_or-map g shares i y [] there)) (each i d x y within));
    }

-- and they are those of these seats
pub threads_asked : {H : Type 0} (id : SessionId) (tasks : List TaskSpecView) (f : H → SeatView) (handles : List H) (seats : List SeatView) (clients : List ClientView) (shares : List (List Answer))
    → length handles ≡ length seats → ((k : ℕ) (d : H) (s : SeatView) → k < length seats → f (get_or handles k d) ≡ get_or seats k s)
    → AreAsked id tasks (map f handles) clients shares → AreAsked id tasks seats clients shares
threads_asked {H} id tasks f handles seats clients shares count at asked =
    let all : length (map f handles) ≡ length handles = length-map handles f in
    record {
      count = asked.count ∙ all ∙ count;
      shared = asked.shared ∙ all ∙ count;
      each = λ i s x inside.
          let there : i < length handles = omega (arith, inside, count) in
          let d : H = some_of handles (omega (arith, there)) in
          subst (λ (t : SeatView). AsksSeat id tasks t (get_or clients i x) (get_or shares i [])) (get_or-map f handles i d s there ∙ at i d s inside) (asked.each i s x (omega (arith, there, all)));
    }

pub have_room : (tasks : List TaskSpecView) (clients : List ClientView) (seats : List SeatView) → HaveSeats tasks clients seats
    → (k : ℕ) (s : SeatView) → k < length seats → HasRoom tasks (get_or seats k s)
have_room tasks clients seats assigned k s inside = (assigned.each k nobody s (omega (arith, inside, assigned.count))).room

-- each share has an answer for each of its client's tasks
pub shares_answer : {S : Type 0} (id : SessionId) (tasks : List TaskSpecView) (g : S → List Answer) (before after : List ClientView) (seats : List SeatView) (shares : List S)
    → HaveSeats tasks before seats → AreAsked id tasks seats after (map g shares)
    → (i : ℕ) (x : S) → i < length shares → AreAnswers (length shares) i tasks (g (get_or shares i x))
shares_answer id tasks g before after seats shares assigned asked i x inside =
    let count : length shares ≡ length before = sym (length-map shares g) ∙ asked.shared ∙ assigned.count in
    let within : i < length before = omega (arith, inside, count) in
    let s : SeatView = record { client = nobody; place = i; many = 0; room = 0 } in
    let own = seated_asks id tasks (length before) i (get_or before i nobody) (get_or after i nobody) (get_or seats i s) (get_or (map g shares) i []) (assigned.each i nobody s within) (asked.each i s nobody (omega (arith, within, assigned.count))) in
    subst (λ (n : ℕ). AreAnswers n i tasks (g (get_or shares i x))) (sym count)
    (subst (λ (l : List Answer). AreAnswers (length before) i tasks l) (get_or-map g shares i x [] inside) own.each)
