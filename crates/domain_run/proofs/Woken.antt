-- Parts 1 to 3 of each task of a list in one walk, from which those that have left go off.
use Rattle.std.proofs.Common.{◌≡◌, ◌≢◌, ℕ, zero, suc, ◌+◌, ◌-◌, ◌<◌, ◌≤◌, true, false, cond, not, List, [], ◌∷◌, ◌++◌, length, map, get_or, take, drop, refl, sym, ap, ◌∙◌, subst, arith, eq-eqb}
use Rattle.std.specs.Prelude.{All, AllPairs, filter}
use Rattle.std.proofs.Math.Seq.{get_or-append_seam}
use Rattle.std.proofs.lemmas.Bool.{ne_eqb}
use Rattle.std.proofs.lemmas.List.{append-nil, append_assoc, length-append, length-take-le, length-drop, take-set, take_at, drop_at, drop-set-lt, set-get_or, get_or-set_same}
use Rattle.std.proofs.lemmas.List.Elements.{All-nil, All-cons}
use Rattle.grub_rules.proofs.CallerLemmas.{set_at}
use Rattle.domain_run.specs.declared.task.Task.{Task}
use Rattle.domain_run.specs.Calls.{is_other}
use Rattle.domain_run.specs.Parts.{replenish_due, settled, is_listed, unblocked}
use Rattle.domain_run.specs.Tick.{prepared}
use Rattle.domain_run.specs.private.TaskTable.{timers_served, IsWoken}
use Rattle.domain_run.specs.private.Timers.{due_of, IsTimerStep, AreNotDue}
use Rattle.domain_run.proofs.Due.{some_task, still_at}
use Rattle.domain_run.proofs.Jumping.{IsStill, filter_whole, prepared_still}

-- ---- ONE TASK after another

pub prepared_append : (time : ℕ) (xs ys : List Task) → prepared time (xs ++ ys) ≡ prepared time xs ++ prepared time ys
prepared_append time [] ys = refl
prepared_append time (x ∷ xs) ys =
    let more = prepared_append time xs ys in
    let following : List Task → List Task = λ ts. filter is_listed (map (settled time) (map (replenish_due time) ts)) in
    elim (is_listed (timers_served time x)) as (λ b. map (unblocked time) (cond b (timers_served time x ∷ following (xs ++ ys)) (following (xs ++ ys)))
    ≡ map (unblocked time) (cond b (timers_served time x ∷ following xs) (following xs)) ++ prepared time ys) [
      | true ↦ ap (λ ts. unblocked time (timers_served time x) ∷ ts) more
      | false ↦ more
    ]

-- one that stays, one that goes, and one that is not due
kept : (time : ℕ) (t : Task) → is_listed (timers_served time t) ≡ true → prepared time (t ∷ []) ≡ unblocked time (timers_served time t) ∷ []
kept time t h = ap (λ b. map (unblocked time) (cond b (timers_served time t ∷ []) [])) h

gone : (time : ℕ) (t : Task) → is_listed (timers_served time t) ≡ false → prepared time (t ∷ []) ≡ []
gone time t h = ap (λ b. map (unblocked time) (cond b (timers_served time t ∷ []) [])) h

alone : (time : ℕ) (t : Task) → time < due_of t → prepared time (t ∷ []) ≡ t ∷ []
alone time t h = prepared_still time (t ∷ []) (All-cons (IsStill time) t [] (still_at time t h) (All-nil (IsStill time)))

-- ---- THE TASK AT A PLACE

-- without the one of its number
pub others_at : (xs : List Task) (p n : ℕ) → AllPairs (λ a b. a.number ≢ b.number) xs → p < length xs → ((d : Task) → n ≡ (get_or xs p d).number) → filter (is_other n) xs ≡ take p xs ++ drop (p + 1) xs
others_at [] p n numbered h is = absurd (omega (arith, h))
others_at (x ∷ xs) zero n numbered h is =
    let here : is_other n x ≡ false = ap not (eq-eqb x.number n (sym (is x))) in
    let rest : All (λ t. is_other n t ≡ true) xs = λ k d within. ap not (ne_eqb (get_or xs k d).number n (λ e. numbered zero (suc k) d (omega arith) (omega (arith, within)) (sym (is x) ∙ sym e))) in
    ap (λ b. cond b (x ∷ filter (is_other n) xs) (filter (is_other n) xs)) here ∙ filter_whole (is_other n) xs rest
others_at (x ∷ xs) (suc p) n numbered h is =
    let other : is_other n x ≡ true = ap not (ne_eqb x.number n (λ e. numbered zero (suc p) x (omega arith) h (e ∙ is x))) in
    let apart : AllPairs (λ a b. a.number ≢ b.number) xs = λ i j e less within. numbered (suc i) (suc j) e (omega (arith, less)) (omega (arith, within)) in
    let more = others_at xs p n apart (omega (arith, h)) is in
    let same : suc (p + 1) ≡ suc p + 1 = omega arith in
    ap (λ b. cond b (x ∷ filter (is_other n) xs) (filter (is_other n) xs)) other
    ∙ ap (λ ts. x ∷ ts) more
    ∙ ap (λ m. (x ∷ take p xs) ++ drop m (x ∷ xs)) same

pub woken_still : (time : ℕ) (now : List Task) (p : ℕ) → p < length now → ((d : Task) → time < due_of (get_or now p d)) → IsWoken time p now now (p + 1)
woken_still time now p h later = record {
  tasks = λ d.
      sym (ap (λ ts. take p now ++ (ts ++ drop (p + 1) now)) (alone time (get_or now p d) (later d))
      ∙ sym (set_at now p (get_or now p d) h)
      ∙ set-get_or now p d);
  next = λ d. sym (ap (λ (ts : List Task). p + length ts) (alone time (get_or now p d) (later d)));
}

pub woken_stays : (time : ℕ) (old new : List Task) (p : ℕ) → p < length old → IsTimerStep (λ t. unblocked time (timers_served time t)) p old new → ((d : Task) → is_listed (timers_served time (get_or old p d)) ≡ true) → IsWoken time p old new (p + 1)
woken_stays time old new p h step listed = record {
  tasks = λ d.
      step.is d
      ∙ set_at old p (unblocked time (timers_served time (get_or old p d))) h
      ∙ sym (ap (λ ts. take p old ++ (ts ++ drop (p + 1) old)) (kept time (get_or old p d) (listed d)));
  next = λ d. sym (ap (λ (ts : List Task). p + length ts) (kept time (get_or old p d) (listed d)));
}

-- as it is after parts 1 and 2
pub served_at : (time : ℕ) (old mid : List Task) (p : ℕ) (d : Task) → p < length old → IsTimerStep (timers_served time) p old mid → get_or mid p d ≡ timers_served time (get_or old p d)
served_at time old mid p d h step = ap (λ (ts : List Task). get_or ts p d) (step.is d) ∙ get_or-set_same old p (timers_served time (get_or old p d)) d h

pub woken_goes : (time : ℕ) (old mid new : List Task) (p n : ℕ) → p < length old → p < length mid → IsTimerStep (timers_served time) p old mid → AllPairs (λ a b. a.number ≢ b.number) mid
    → ((d : Task) → n ≡ (get_or mid p d).number) → ((d : Task) → is_listed (get_or mid p d) ≡ false) → new ≡ filter (is_other n) mid → IsWoken time p old new p
woken_goes time old mid new p n h within step numbered is left filtered = record {
  tasks = λ d.
      let x = timers_served time (get_or old p d) in
      filtered
      ∙ others_at mid p n numbered within is
      ∙ ap (λ (ts : List Task). take p ts ++ drop (p + 1) ts) (step.is d)
      ∙ (λ i. take-set old p x i ++ drop-set-lt (p + 1) old p x (omega arith) i)
      ∙ sym (ap (λ ts. take p old ++ (ts ++ drop (p + 1) old)) (none d));
  next = λ d. sym (ap (λ (ts : List Task). p + length ts) (none d) ∙ omega arith);
}
  where
    none : (d : Task) → prepared time (get_or old p d ∷ []) ≡ []
    none d = gone time (get_or old p d) (ap is_listed (sym (served_at time old mid p d h step)) ∙ left d)

-- as many are after it as before
pub woken_rest : (time : ℕ) (old new : List Task) (p next : ℕ) → p < length old → IsWoken time p old new next → length new ≡ next + (length old - (p + 1))
woken_rest time old new p next h one =
    let d = some_task old p h in
    let X = prepared time (get_or old p d ∷ []) in
    let front : length (take p old) ≡ p = length-take-le p old (omega (arith, h)) in
    let following : length (drop (p + 1) old) ≡ length old - (p + 1) = length-drop (p + 1) old in
    let whole : length new ≡ length (take p old) + (length X + length (drop (p + 1) old)) = ap (λ (ts : List Task). length ts) (one.tasks d) ∙ length-append (take p old) (X ++ drop (p + 1) old) ∙ ap (λ n. length (take p old) + n) (length-append X (drop (p + 1) old)) in
    omega (arith, whole, front, following, one.next d)

-- ---- ALL OF THEM

-- so far: those before a place are what is left of the first
pub record Walked (time : ℕ) (first now : List Task) (place : ℕ) : Type 0 where
  pub done : List Task
  pub rest : List Task
  pub first_is : first ≡ done ++ rest
  pub now_is : now ≡ prepared time done ++ rest
  pub place_is : place ≡ length (prepared time done)

pub walk_begins : (time : ℕ) (first : List Task) → Walked time first first 0
walk_begins time first = record { done = []; rest = first; first_is = refl; now_is = refl; place_is = refl }

-- and the task at the place then
pub record WalkedMore (time : ℕ) (first now new : List Task) (p next : ℕ) (w : Walked time first now p) : Type 0 where
  pub task : Task
  pub read : (d : Task) → get_or now p d ≡ task
  pub walked : Walked time first new next
  pub done_is : walked.done ≡ w.done ++ task ∷ []

pub walk_more : (time : ℕ) (first now new : List Task) (p next : ℕ) → (w : Walked time first now p) → p < length now → IsWoken time p now new next → WalkedMore time first now new p next w
walk_more time first now new p next w h one = by_rest w.rest refl
  where
    P : List Task
    P = prepared time w.done

    by_rest : (rest : List Task) → w.rest ≡ rest → WalkedMore time first now new p next w
    by_rest [] e =
        let len : length now ≡ length P = ap (λ (ts : List Task). length ts) (w.now_is ∙ ap (λ ts. P ++ ts) e ∙ append-nil P) in
        let at : p ≡ length P = w.place_is in
        absurd (omega (arith, h, len, at))
    by_rest (t ∷ more) e =
        let is : now ≡ P ++ (t ∷ more) = w.now_is ∙ ap (λ ts. P ++ ts) e in
        let at : p ≡ length P = w.place_is in
        let front : take p now ≡ P = ap (take p) is ∙ take_at P (t ∷ more) p (sym at) in
        let here : get_or now p t ≡ t = (λ i. get_or (is i) (at i) t) ∙ get_or-append_seam P t more t in
        let long : length (P ++ (t ∷ [])) ≡ p + 1 = omega (arith, length-append P (t ∷ []), at) in
        let following : drop (p + 1) now ≡ more = ap (drop (p + 1)) (is ∙ sym (append_assoc P (t ∷ []) more)) ∙ drop_at (P ++ (t ∷ [])) more (p + 1) long in
        let X = prepared time (t ∷ []) in
        let both : P ++ X ≡ prepared time (w.done ++ (t ∷ [])) = sym (prepared_append time w.done (t ∷ [])) in
        record {
          task = t;
          read = λ d. (λ i. get_or (is i) (at i) d) ∙ get_or-append_seam P t more d;
          walked = record {
            done = w.done ++ (t ∷ []);
            rest = more;
            first_is = w.first_is ∙ ap (λ ts. w.done ++ ts) e ∙ sym (append_assoc w.done (t ∷ []) more);
            now_is = one.tasks t ∙ (λ i. front i ++ (prepared time (here i ∷ []) ++ following i)) ∙ sym (append_assoc P X more) ∙ ap (λ ts. ts ++ more) both;
            place_is = one.next t ∙ (λ i. at i + length (prepared time (here i ∷ []))) ∙ sym (length-append P X) ∙ ap (λ (ts : List Task). length ts) both;
          };
          done_is = refl;
        }

pub walk_step : (time : ℕ) (first now new : List Task) (p next : ℕ) → Walked time first now p → p < length now → IsWoken time p now new next → Walked time first new next
walk_step time first now new p next w h one = (walk_more time first now new p next w h one).walked

-- those that are not due are passed by
walk_on : (time : ℕ) (first now : List Task) (n p : ℕ) → Walked time first now p → p + n ≤ length now → ((q : ℕ) (d : Task) → p ≤ q → q < p + n → time < due_of (get_or now q d)) → Walked time first now (p + n)
walk_on time first now zero p w h later = subst (λ m. Walked time first now m) (omega arith) w
walk_on time first now (suc n) p w h later =
    let within : p < length now = omega (arith, h) in
    let one = woken_still time now p within (λ d. later p d (omega arith) (omega arith)) in
    subst (λ m. Walked time first now m) (omega arith)
    (walk_on time first now n (p + 1) (walk_step time first now now p (p + 1) w within one) (omega (arith, h)) (λ q d a b. later q d (omega (arith, a)) (omega (arith, b))))

pub walk_by : (time : ℕ) (first now : List Task) (p r : ℕ) → Walked time first now p → p ≤ r → r ≤ length now → AreNotDue now time p r → Walked time first now r
walk_by time first now p r w from most later =
    let whole : p + (r - p) ≡ r = omega (arith, from) in
    subst (λ m. Walked time first now m) whole
    (walk_on time first now (r - p) p w (omega (arith, whole, most)) (λ q d a b. later q d a (omega (arith, b, whole)) (omega (arith, b, whole, most))))

-- at its end all are done
pub walk_done : (time : ℕ) (first now : List Task) (p : ℕ) → (w : Walked time first now p) → length now ≤ p → w.done ≡ first
walk_done time first now p w h = by_rest w.rest refl
  where
    P : List Task
    P = prepared time w.done

    by_rest : (rest : List Task) → w.rest ≡ rest → w.done ≡ first
    by_rest [] e = sym (w.first_is ∙ ap (λ ts. w.done ++ ts) e ∙ append-nil w.done)
    by_rest (t ∷ more) e =
        let len : length now ≡ length P + length (t ∷ more) = ap (λ (ts : List Task). length ts) (w.now_is ∙ ap (λ ts. P ++ ts) e) ∙ length-append P (t ∷ more) in
        let at : p ≡ length P = w.place_is in
        absurd (omega (arith, h, len, at))

pub walk_ends : (time : ℕ) (first now : List Task) (p : ℕ) → Walked time first now p → length now ≤ p → now ≡ prepared time first
walk_ends time first now p w h = by_rest w.rest refl
  where
    P : List Task
    P = prepared time w.done

    by_rest : (rest : List Task) → w.rest ≡ rest → now ≡ prepared time first
    by_rest [] e =
        let whole : first ≡ w.done = w.first_is ∙ ap (λ ts. w.done ++ ts) e ∙ append-nil w.done in
        w.now_is ∙ ap (λ ts. P ++ ts) e ∙ append-nil P ∙ ap (prepared time) (sym whole)
    by_rest (t ∷ more) e =
        let len : length now ≡ length P + length (t ∷ more) = ap (λ (ts : List Task). length ts) (w.now_is ∙ ap (λ ts. P ++ ts) e) ∙ length-append P (t ∷ more) in
        let at : p ≡ length P = w.place_is in
        absurd (omega (arith, h, len, at))
