-- The numbers of those who run, and the CPUs to which they belong, one CPU after another.
use Rattle.std.proofs.Common.{◌≡◌, ◌≢◌, ℕ, zero, suc, ◌+◌, ◌<◌, Bool, true, false, cond, eqb, Option, Some, None, List, [], ◌∷◌, ◌++◌, length, take, get_or, map, refl, sym, ap, subst, ◌∙◌, arith, inl, inr, eq-eqb}
use Rattle.std.specs.Prelude.{ℤ, pos, All, AllPairs, position, slice_index_or, option_map, IfSome, replicate}
use Rattle.std.proofs.lemmas.Bool.{cases_eq, ne_eqb, lt-ltb}
use Rattle.std.proofs.lemmas.List.{take_more, get_or-take, length-take-le, append-nil, get_or_default}
use Rattle.std.proofs.lemmas.List.Kept.{AllPairs-cons}
use Rattle.std.proofs.lemmas.List.Sums.{position_or_len_is}
use Rattle.std.proofs.lemmas.Option.{slice_get-get_or}
use Rattle.edf_pick.specs.Places.{Places, is_task}
use Rattle.domain_run.specs.declared.task.Task.{Task}
use Rattle.domain_run.specs.Parts.{with_last_cpu}
use Rattle.domain_run.specs.Calls.{of_number}
use Rattle.domain_run.specs.Jump.{running_numbers}
use Rattle.domain_run.specs.Sound.{occupant, HasNoTaskTwice}
use Rattle.domain_run.specs.private.Paying.{ran_until, index_of, paid_at, paid, MayPay, MayPayIf}
use Rattle.domain_run.proofs.Placing.{homed_number}
use Rattle.domain_run.proofs.KeptRunning.{first_at, first_is}
use Rattle.domain_run.proofs.Runners.{running_occupies}

-- ---- the first that passes, and one more after

first_push_no : {X : Type 0} (p : X → Bool) (xs : List X) (y : X) → p y ≡ false → first_at p (xs ++ y ∷ []) ≡ first_at p xs
first_push_no p [] y fails = ap (λ b. cond b (Some 0) None) fails
first_push_no p (x ∷ xs) y fails = ap (λ o. cond (p x) (Some 0) (option_map suc o)) (first_push_no p xs y fails)

pub position_push_no : {X : Type 0} (p : X → Bool) (xs : List X) (y : X) → p y ≡ false → position p (xs ++ y ∷ []) ≡ position p xs
position_push_no p xs y fails = first_is p (xs ++ y ∷ []) ∙ first_push_no p xs y fails ∙ sym (first_is p xs)

first_none : {X : Type 0} (p : X → Bool) (xs : List X) → All (λ x. p x ≡ false) xs → first_at p xs ≡ None
first_none p [] all = refl
first_none p (x ∷ xs) all =
    let rest : All (λ x. p x ≡ false) xs = λ k d h. all (suc k) d (omega arith) in
    let first : p x ≡ false = all zero x (omega arith) in
    ap (λ b. cond b (Some 0) (option_map suc (first_at p xs))) first ∙ ap (option_map suc) (first_none p xs rest)

position_is : {X : Type 0} (p : X → Bool) (xs : List X) (i : ℕ) (d : X) → i < length xs → ((k : ℕ) → k < i → p (get_or xs k d) ≡ false) → p (get_or xs i d) ≡ true → position p xs ≡ Some i
position_is p xs i d within before at = rw (position_or_len_is p xs i d (omega (arith, within)) before (λ h. at), lt-ltb i (length xs) within) refl

-- a map after a map
pub map_steps : (one f g : Task → Task) (first now : List Task) → now ≡ map f first → All (λ t. one (f t) ≡ g t) first → map one now ≡ map g first
map_steps one f g first now is steps = ap (map one) is ∙ fused first steps
  where
    fused : (tasks : List Task) → All (λ t. one (f t) ≡ g t) tasks → map one (map f tasks) ≡ map g tasks
    fused [] all = refl
    fused (t ∷ tasks) all =
        let here : one (f t) ≡ g t = all zero t (omega arith) in
        let more = fused tasks (λ k d h. all (suc k) d (omega arith)) in
        λ i. here i ∷ more i

pub map_same : (f g : Task → Task) (tasks : List Task) → ((t : Task) → f t ≡ g t) → map f tasks ≡ map g tasks
map_same f g tasks same = λ i. map (λ t. same t i) tasks

-- ---- HOMES

-- a map of homes keeps the numbers
pub homed_keeps : (places : Places) (t : Task) → (with_last_cpu places t).number ≡ t.number
homed_keeps places t = homed_number (position (is_task t.number) places) t

-- ---- The task that runs

abbrev pub AreDistinct : List ℕ → Type 0
AreDistinct numbers = AllPairs (λ m n. m ≢ n) numbers

pub running_distinct : (places : Places) → HasNoTaskTwice places → AreDistinct (running_numbers places)
running_distinct [] apart = λ i j d less within. absurd (omega (arith, within))
running_distinct (None ∷ places) apart = running_distinct places (record { once = λ i j n a b. let same : suc i ≡ suc j = apart.once (suc i) (suc j) n a b in omega (arith, same) })
running_distinct (Some n ∷ places) apart =
    let rest : HasNoTaskTwice places = record { once = λ i j m a b. let same : suc i ≡ suc j = apart.once (suc i) (suc j) m a b in omega (arith, same) } in
    let first : All (λ m. n ≢ m) (running_numbers places) = λ k d h same.
    let at = running_occupies places k (get_or (running_numbers places) k d) (slice_get-get_or (running_numbers places) k d h) in
    let two : zero ≡ suc at.0 = apart.once zero (suc at.0) n refl (at.1 ∙ ap (λ m. Some m) (sym same)) in
    absurd (omega (arith, two)) in
    AllPairs-cons (λ m k. m ≢ k) n (running_numbers places) first (running_distinct places rest)

-- what is listed of them, one CPU more
pub running_push : (places : Places) (o : Option ℕ) → running_numbers (places ++ o ∷ []) ≡ running_numbers places ++ running_numbers (o ∷ [])
running_push [] o = refl
running_push (None ∷ places) o = running_push places o
running_push (Some n ∷ places) o = ap (λ ns. n ∷ ns) (running_push places o)

-- nobody
pub running_opened : (cpus : ℕ) → running_numbers (replicate cpus None) ≡ []
running_opened zero = refl
running_opened (suc cpus) = running_opened cpus

pub running_one : (places : Places) (i n : ℕ) → i < length places → occupant places i ≡ Some n → running_numbers (take i places) ++ n ∷ [] ≡ running_numbers (take (i + 1) places)
running_one places i n h is =
    sym (running_push (take i places) (Some n)) ∙ ap (λ o. running_numbers (take i places ++ o ∷ [])) (sym is) ∙ ap running_numbers (sym (take_more places i None h))

pub running_idle : (places : Places) (i : ℕ) → i < length places → occupant places i ≡ None → running_numbers (take i places) ≡ running_numbers (take (i + 1) places)
running_idle places i h is =
    sym (append-nil (running_numbers (take i places))) ∙ sym (running_push (take i places) None) ∙ ap (λ o. running_numbers (take i places ++ o ∷ [])) (sym is) ∙ ap running_numbers (sym (take_more places i None h))

-- ---- WHO IS PAID, one running task after another

-- the i-th running task is no earlier one
pub record IsIth (running : List ℕ) (i : ℕ) (t : Task) : Type 0 where
  pub whole : index_of running t ≡ Some i
  pub now : index_of (take (i + 1) running) t ≡ Some i
  pub before : index_of (take i running) t ≡ None

pub ith : (running : List ℕ) (i : ℕ) (t : Task) → AreDistinct running → i < length running → get_or running i 0 ≡ t.number → IsIth running i t
ith running i t distinct h at =
    let p : ℕ → Bool = λ n. eqb n t.number in
    let earlier : (k : ℕ) → k < i → p (get_or running k 0) ≡ false = λ k less. ne_eqb (get_or running k 0) t.number (λ e. distinct k i 0 less h (e ∙ sym at)) in
    let here : p (get_or running i 0) ≡ true = eq-eqb (get_or running i 0) t.number at in
    let len : length (take (i + 1) running) ≡ i + 1 = length-take-le (i + 1) running (omega (arith, h)) in
    let few : length (take i running) ≡ i = length-take-le i running (omega (arith, h)) in
    record {
      whole = position_is p running i 0 h earlier here;
      now = position_is p (take (i + 1) running) i 0 (omega (arith, len)) (λ k less. ap p (get_or-take (i + 1) running k 0 (omega (arith, less))) ∙ earlier k less) (ap p (get_or-take (i + 1) running i 0 (omega arith)) ∙ here);
      before = first_is p (take i running) ∙ first_none p (take i running) (λ k d inside. let less : k < i = omega (arith, inside, few) in ap p (get_or_default (take i running) k d 0 inside ∙ get_or-take i running k 0 less) ∙ earlier k less);
    }

paid_keeps_at : (time ticks : ℕ) (budgets : List ℤ) (o : Option ℕ) (t : Task) → ((left : ℤ) → (ran_until time ticks left t).number ≡ t.number) → (paid_at time ticks budgets o t).number ≡ t.number
paid_keeps_at time ticks budgets None t same = refl
paid_keeps_at time ticks budgets (Some i) t same = same (slice_index_or budgets i (pos 0))

pub paid_next : (time : ℕ) (running : List ℕ) (i ticks : ℕ) (budgets : List ℤ) (t : Task) → AreDistinct running → i < length running → (paid time (take i running) ticks budgets t).number ≡ t.number
    → of_number (get_or running i 0) (ran_until time ticks (slice_index_or budgets i (pos 0))) (paid time (take i running) ticks budgets t) ≡ paid time (take (i + 1) running) ticks budgets t
paid_next time running i ticks budgets t distinct h keeps =
    let n = get_or running i 0 in
    let left = slice_index_or budgets i (pos 0) in
    let was = paid time (take i running) ticks budgets t in
    elim (cases_eq t.number n) [
      | inl same ↦
          let is = ith running i t distinct h (sym same) in
          ap (λ b. cond b (ran_until time ticks left was) was) (eq-eqb was.number n (keeps ∙ same))
          ∙ ap (λ o. ran_until time ticks left (paid_at time ticks budgets o t)) is.before
          ∙ sym (ap (λ o. paid_at time ticks budgets o t) is.now)
      | inr other ↦
          ap (λ b. cond b (ran_until time ticks left was) was) (ne_eqb was.number n (λ e. other (sym keeps ∙ e)))
          ∙ sym (ap (λ (ns : List ℕ). paid time ns ticks budgets t) (take_more running i 0 h)
          ∙ ap (λ o. paid_at time ticks budgets o t) (position_push_no (λ m. eqb m t.number) (take i running) n (ne_eqb n t.number (λ e. other (sym e)))))
    ]

-- the task that comes next is as it was, and may run
pub may_next : (time : ℕ) (running : List ℕ) (i ticks : ℕ) (budgets : List ℤ) (t : Task) → AreDistinct running → i < length running → (paid time (take i running) ticks budgets t).number ≡ t.number
    → MayPayIf running ticks budgets t → (paid time (take i running) ticks budgets t).number ≡ get_or running i 0 → MayPay ticks budgets (paid time (take i running) ticks budgets t) i
may_next time running i ticks budgets t distinct h keeps may is =
    let at = ith running i t distinct h (sym is ∙ keeps) in
    let mine : MayPay ticks budgets t i = subst (λ o. IfSome o (MayPay ticks budgets t)) at.whole may in
    subst (λ o. MayPay ticks budgets (paid_at time ticks budgets o t) i) (sym at.before) mine
