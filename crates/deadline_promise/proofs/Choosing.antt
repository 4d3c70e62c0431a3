-- On one CPU the ready task of the earliest deadline runs.
use Rattle.std.proofs.Common.{◌≡◌, ℕ, zero, suc, ◌≤◌, Bool, true, false, cond, ◌||◌, ◌&&◌, leb, ltb, eqb, Option, Some, None, List, [], ◌∷◌, map, length, refl, ap, sym, ◌∙◌, subst, arith, eq-eqb}
use Rattle.std.specs.Prelude.{All, find, count_by, slice_get, is_none, position, filter}
use Rattle.std.specs.List.{list_any}
use Rattle.std.proofs.lemmas.Bool.{false≢true, eqb-true, ltb-true, leb-true, le-leb}
use Rattle.std.proofs.lemmas.List.Elements.{All-cons, All-nil, All-weaker}
use Rattle.std.proofs.lemmas.List.Sums.{sum_by-cons}
use Rattle.edf_pick.specs.declared.candidate.Candidate.{Candidate}
use Rattle.edf_pick.specs.Choice.{is_before, rank, candidate_at_rank}
use Rattle.edf_pick.specs.Places.{Places, is_on_cpu, is_chosen_number, kept_if_chosen, is_free, put, assigned, assigned_if, placed}
use Rattle.domain_run.specs.declared.task.Task.{Task}
use Rattle.domain_run.specs.Conditions.{is_ready}
use Rattle.domain_run.specs.Tick.{candidate_of, candidates}

or_true : (b : Bool) → (b || true) ≡ true
or_true true = refl
or_true false = refl

any_weaker : {X : Type 0} (p q : X → Bool) → ((x : X) → p x ≡ true → q x ≡ true) → (xs : List X) → list_any p xs ≡ true → list_any q xs ≡ true
any_weaker p q weaker [] h = h
any_weaker p q weaker (x ∷ xs) h =
    elim (p x) as (λ b. p x ≡ b → (b || list_any p xs) ≡ true → (q x || list_any q xs) ≡ true) [
      | true ↦ λ e a. rw (weaker x e) refl
      | false ↦ λ e a. let rest = any_weaker p q weaker xs a in rw rest (or_true (q x))
    ] refl h

itself : (n d : ℕ) → (ltb d d || (eqb d d && ltb n n)) ≡ false
itself n d = grind arith

earlier_first : (a m c : Candidate) → is_before c m ≡ true → is_before a m ≡ false → is_before a c ≡ false
earlier_first a m c one two = grind arith

-- a least one
abbrev Least : List Candidate → Type 0
Least cs = (m : Candidate) × ((q : Candidate → Bool) → q m ≡ true → list_any q cs ≡ true) × All (λ a. is_before a m ≡ false) cs

least : (c : Candidate) (cs : List Candidate) → Least (c ∷ cs)
least c [] = (c, λ q h. ap (λ b. b || false) h, All-cons (λ a. is_before a c ≡ false) c [] (itself c.number c.deadline) (All-nil (λ a. is_before a c ≡ false)))
least c (d ∷ cs) =
    let l = least d cs in
    let m = l.0 in
    elim (is_before c m) as (λ b. is_before c m ≡ b → Least (c ∷ d ∷ cs)) [
      | true ↦ λ e. (
        c,
        λ q h. ap (λ b. b || list_any q (d ∷ cs)) h,
        All-cons (λ a. is_before a c ≡ false) c (d ∷ cs) (itself c.number c.deadline) (All-weaker (λ a. is_before a m ≡ false) (λ a. is_before a c ≡ false) (λ a h. earlier_first a m c e h) (d ∷ cs) l.2),
      )
      | false ↦ λ e. (m, λ q h. ap (λ b. q c || b) (l.1 q h) ∙ or_true (q c), All-cons (λ a. is_before a m ≡ false) c (d ∷ cs) e l.2)
    ] refl

count_none : (p : Candidate → Bool) (xs : List Candidate) → All (λ x. p x ≡ false) xs → count_by p xs ≡ 0
count_none p [] all = refl
count_none p (x ∷ xs) all =
    let rest : All (λ y. p y ≡ false) xs = λ k d h. all (suc k) d (omega arith) in
    let here : p x ≡ false = all zero x (omega arith) in
    omega (arith, sum_by-cons (λ y. cond (p y) 1 0) x xs, ap {B = ℕ} (λ b. cond b 1 0) here, count_none p xs rest)

first_there : (c : Candidate) (cs : List Candidate) → list_any (λ x. eqb (rank (c ∷ cs) x) 0) (c ∷ cs) ≡ true
first_there c cs =
    let l = least c cs in
    l.1 (λ x. eqb (rank (c ∷ cs) x) 0) (eq-eqb (rank (c ∷ cs) l.0) 0 (count_none (λ a. is_before a l.0) (c ∷ cs) l.2))

not_later : (w c : Candidate) (x : ℕ) → is_before w c ≡ false → w.deadline ≤ x → c.deadline ≤ x
not_later w c x e h = grind (arith, e, h)

-- who is first is due, if anybody is
low_by : (c : Candidate) (x : ℕ) (cs : List Candidate) → count_by (λ a. is_before a c) cs ≡ 0 → list_any (λ w. leb w.deadline x) cs ≡ true → c.deadline ≤ x
low_by c x [] none some = absurd (false≢true some)
low_by c x (w ∷ cs) none some =
    let sum = sum_by-cons (λ a. cond (is_before a c) 1 0) w cs in
    elim (leb w.deadline x) as (λ b. leb w.deadline x ≡ b → (b || list_any (λ w. leb w.deadline x) cs) ≡ true → c.deadline ≤ x) [
      | true ↦ λ e h.
          elim (is_before w c) as (λ b. is_before w c ≡ b → c.deadline ≤ x) [
            | true ↦ λ y. absurd (omega (arith, sum, none, ap {B = ℕ} (λ b. cond b 1 0) y))
            | false ↦ λ y. not_later w c x y (leb-true w.deadline x e)
          ] refl
      | false ↦ λ e h. low_by c x cs (omega (arith, sum, none)) h
    ] refl some

found : {X : Type 0} (p q : X → Bool) (xs : List X) → list_any p xs ≡ true → ((x : X) → p x ≡ true → q x ≡ true) → (x : X) × (find p xs ≡ Some x) × (p x ≡ true) × (list_any q xs ≡ true)
found p q [] h weaker = absurd (false≢true h)
found p q (y ∷ xs) h weaker =
    elim (p y) as (λ b. p y ≡ b → (b || list_any p xs) ≡ true → (x : _) × (cond b (Some y) (find p xs) ≡ Some x) × (p x ≡ true) × ((q y || list_any q xs) ≡ true)) [
      | true ↦ λ e a. (y, refl, e, ap (λ b. b || list_any q xs) (weaker y e))
      | false ↦ λ e a. let r = found p q xs a weaker in (r.0, r.1, r.2, ap (λ b. q y || b) r.3 ∙ or_true (q y))
    ] refl h

one_seat : (home : ℕ) → cond (is_free (slice_get {X = Option ℕ} (None ∷ []) home)) (Some home) (position (λ (o : Option ℕ). is_none o) (None ∷ [])) ≡ Some 0
one_seat zero = refl
one_seat (suc home) = refl

no_seat : (n home : ℕ) → cond (is_free (slice_get {X = Option ℕ} (Some n ∷ []) home)) (Some home) (position (λ (o : Option ℕ). is_none o) (Some n ∷ [])) ≡ None
no_seat n zero = refl
no_seat n (suc home) = refl

into_free : (c : Candidate) → assigned (None ∷ []) c ≡ Some c.number ∷ []
into_free c = ap (λ s. put (None ∷ []) c.number s) (one_seat c.home)

into_full : (n : ℕ) (o : Option Candidate) → assigned_if (Some n ∷ []) o ≡ Some n ∷ []
into_full n None = refl
into_full n (Some c) =
    ap (λ s. cond (is_on_cpu c.number (Some n ∷ [])) (Some n ∷ []) (put (Some n ∷ []) c.number s)) (no_seat n c.home)
    ∙ elim (is_on_cpu c.number (Some n ∷ [])) as (λ b. cond b (Some n ∷ []) (Some n ∷ []) ≡ Some n ∷ []) [ true ↦ refl | false ↦ refl ]

abbrev runs_due : Places → ℕ → Candidate → Bool
runs_due places x c = is_on_cpu c.number places && leb c.deadline x

there_due : (n x : ℕ) (c : Candidate) → eqb c.number n ≡ true → c.deadline ≤ x → runs_due (Some n ∷ []) x c ≡ true
there_due n x c e h =
    let a : eqb n c.number ≡ true = eq-eqb n c.number (sym (eqb-true c.number n e)) in
    let b = le-leb c.deadline x h in
    (λ i. (a i || false) && b i)

pub and_both : (a b : Bool) → (a && b) ≡ true → (a ≡ true) × (b ≡ true)
and_both true b e = (refl, e)
and_both false b e = absurd (false≢true e)

chosen_runs : (x : ℕ) (ready : List Candidate) (o : Option ℕ) (s : Option ℕ) → kept_if_chosen 1 ready o ≡ s → list_any (λ c. leb c.deadline x) ready ≡ true → list_any (λ c. eqb (rank ready c) 0) ready ≡ true
    → list_any (runs_due (assigned_if (s ∷ []) (candidate_at_rank ready 0)) x) ready ≡ true
chosen_runs x ready o None e due first =
    let f = found (λ c. eqb (rank ready c) 0) (λ c. eqb (rank ready c) 0) ready first (λ c h. h) in
    let c = f.0 in
    let low = low_by c x ready (eqb-true (rank ready c) 0 f.2) due in
    let places : assigned_if (None ∷ []) (candidate_at_rank ready 0) ≡ Some c.number ∷ [] = ap (assigned_if (None ∷ [])) f.1 ∙ into_free c in
    subst (λ (ps : Places). list_any (runs_due ps x) ready ≡ true) (sym places)
    (passes ready (λ a. eqb (rank ready a) 0) (runs_due (Some c.number ∷ []) x) c f.1 (there_due c.number x c (eq-eqb c.number c.number refl) low))
  where
    passes : (xs : List Candidate) (p q : Candidate → Bool) (y : Candidate) → find p xs ≡ Some y → q y ≡ true → list_any q xs ≡ true
    passes [] p q y e h = absurd cc
    passes (z ∷ xs) p q y e h =
        elim (p z) as (λ b. cond b (Some z) (find p xs) ≡ Some y → (q z || list_any q xs) ≡ true) [
          | true ↦ λ a. let same : z ≡ y = cc in ap (λ b. b || list_any q xs) (ap q same ∙ h)
          | false ↦ λ a. ap (λ b. q z || b) (passes xs p q y a h) ∙ or_true (q z)
        ] e
chosen_runs x ready None (Some n) e due first = absurd cc
chosen_runs x ready (Some m) (Some n) e due first =
    let both = some_is (is_chosen_number 1 ready m) m n e in
    let chosen : list_any (λ c. eqb c.number n && ltb (rank ready c) 1) ready ≡ true = subst (λ k. is_chosen_number 1 ready k ≡ true) both.1 both.0 in
    subst (λ (ps : Places). list_any (runs_due ps x) ready ≡ true) (sym (into_full n (candidate_at_rank ready 0)))
    (any_weaker (λ c. eqb c.number n && ltb (rank ready c) 1) (runs_due (Some n ∷ []) x)
    (λ c h.
    let f = and_both (eqb c.number n) (ltb (rank ready c) 1) h in
    let r : rank ready c ≡ 0 = omega (arith, ltb-true (rank ready c) 1 f.1) in
    there_due n x c f.0 (low_by c x ready r due))
    ready chosen)
  where
    some_is : (b : Bool) (k j : ℕ) → cond b (Some k) None ≡ Some j → (b ≡ true) × (k ≡ j)
    some_is true k j a = (refl, cc)
    some_is false k j a = absurd cc

some_first : (q : Candidate → Bool) (ready : List Candidate) → list_any q ready ≡ true → list_any (λ c. eqb (rank ready c) 0) ready ≡ true
some_first q [] h = absurd (false≢true h)
some_first q (c ∷ cs) h = first_there c cs

-- ONE CPU: where a ready task is due by x, so is one that runs
pub first_runs : (x : ℕ) (ready : List Candidate) (before : Places) → length before ≡ 1 → list_any (λ c. leb c.deadline x) ready ≡ true → list_any (runs_due (placed 1 ready before) x) ready ≡ true
first_runs x ready [] one due = absurd (omega (arith, one))
first_runs x ready (o ∷ p ∷ before) one due = absurd (omega (arith, one))
first_runs x ready (o ∷ []) one due = chosen_runs x ready o (kept_if_chosen 1 ready o) refl due (some_first (λ c. leb c.deadline x) ready due)

-- what is there of the candidates is there of the tasks
pub of_tasks : (q : Candidate → Bool) (ts : List Task) → list_any q (candidates ts) ≡ list_any (λ t. is_ready t.condition && q (candidate_of t)) ts
of_tasks q [] = refl
of_tasks q (t ∷ ts) =
    elim (is_ready t.condition) as (λ b. list_any q (map candidate_of (cond b (t ∷ filter (λ u. is_ready u.condition) ts) (filter (λ u. is_ready u.condition) ts))) ≡ ((b && q (candidate_of t)) || list_any (λ u. is_ready u.condition && q (candidate_of u)) ts)) [
      | true ↦ ap (λ b. q (candidate_of t) || b) (of_tasks q ts)
      | false ↦ of_tasks q ts
    ]

-- ONE CPU, one place: the task that runs on it is a candidate
found_passes : {X : Type 0} (p q : X → Bool) (xs : List X) (x : X) → find p xs ≡ Some x → q x ≡ true → list_any q xs ≡ true
found_passes p q [] x e h = absurd cc
found_passes p q (y ∷ xs) x e h =
    elim (p y) as (λ b. cond b (Some y) (find p xs) ≡ Some x → (q y || list_any q xs) ≡ true) [
      | true ↦ λ a. let same : y ≡ x = cc in ap (λ b. b || list_any q xs) (ap q same ∙ h)
      | false ↦ λ a. ap (λ b. q y || b) (found_passes p q xs x a h) ∙ or_true (q y)
    ] e

abbrev HasCandidates : List Candidate → Places → Type 0
HasCandidates ready places = (length places ≡ 1) × ((n : ℕ) → is_on_cpu n places ≡ true → list_any (λ (c : Candidate). eqb c.number n) ready ≡ true)

only_one : (m n : ℕ) → is_on_cpu n (Some m ∷ []) ≡ true → m ≡ n
only_one m n h = eqb-true m n (or_none (eqb m n) h)
  where
    or_none : (b : Bool) → (b || false) ≡ true → b ≡ true
    or_none true e = refl
    or_none false e = e

one_has : (ready : List Candidate) (m : ℕ) → list_any (λ (c : Candidate). eqb c.number m) ready ≡ true → HasCandidates ready (Some m ∷ [])
one_has ready m there = (refl, λ n h. subst (λ k. list_any (λ (c : Candidate). eqb c.number k) ready ≡ true) (only_one m n h) there)

seated_has : (ready : List Candidate) (o : Option Candidate) → candidate_at_rank ready 0 ≡ o → HasCandidates ready (assigned_if (None ∷ []) o)
seated_has ready None e = (refl, λ n h. absurd (false≢true h))
seated_has ready (Some c) e =
    subst (HasCandidates ready) (sym (into_free c))
    (one_has ready c.number (found_passes (λ x. eqb (rank ready x) 0) (λ x. eqb x.number c.number) ready c e (eq-eqb c.number c.number refl)))

kept_has : (ready : List Candidate) (o s : Option ℕ) → kept_if_chosen 1 ready o ≡ s → HasCandidates ready (assigned_if (s ∷ []) (candidate_at_rank ready 0))
kept_has ready o None e = seated_has ready (candidate_at_rank ready 0) refl
kept_has ready None (Some n) e = absurd cc
kept_has ready (Some m) (Some n) e =
    let both = some_is (is_chosen_number 1 ready m) m n e in
    subst (HasCandidates ready) (sym (into_full n (candidate_at_rank ready 0)))
    (one_has ready n
    (any_weaker (λ c. eqb c.number n && ltb (rank ready c) 1) (λ c. eqb c.number n) (λ c h. (and_both (eqb c.number n) (ltb (rank ready c) 1) h).0) ready
    (subst (λ k. is_chosen_number 1 ready k ≡ true) both.1 both.0)))
  where
    some_is : (b : Bool) (k j : ℕ) → cond b (Some k) None ≡ Some j → (b ≡ true) × (k ≡ j)
    some_is true k j a = (refl, cc)
    some_is false k j a = absurd cc

pub one_placed : (ready : List Candidate) (before : Places) → length before ≡ 1 → HasCandidates ready (placed 1 ready before)
one_placed ready [] wide = absurd (omega (arith, wide))
one_placed ready (o ∷ p ∷ before) wide = absurd (omega (arith, wide))
one_placed ready (o ∷ []) wide = kept_has ready o (kept_if_chosen 1 ready o) refl
