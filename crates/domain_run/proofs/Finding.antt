-- The task of a number, and a map that changes this task alone.
use Rattle.std.proofs.Common.{◌≡◌, ◌≢◌, ℕ, zero, suc, ◌<◌, Bool, true, false, cond, eqb, ◌&&◌, not, Option, Some, None, List, [], ◌∷◌, length, get_or, set, map, refl, sym, ap, ◌∙◌, arith, eq-eqb}
use Rattle.std.specs.Prelude.{AllPairs, filter, find}
use Rattle.std.proofs.lemmas.Bool.{ne_eqb, eqb-true}
use Rattle.std.proofs.lemmas.List.{get_or-map}
use Rattle.domain_run.specs.declared.task.Task.{Task}
use Rattle.domain_run.specs.Conditions.{is_leaving}
use Rattle.domain_run.specs.private.Index.{IsListedAt, IsUnlisted}
use Rattle.domain_run.specs.Calls.{of_number}
use Rattle.domain_run.proofs.Paying.{find_here}

abbrev pub AreNumbered : List Task → Type 0
AreNumbered tasks = AllPairs (λ a b. a.number ≢ b.number) tasks

rest_absent : (t : Task) (tasks : List Task) (n : ℕ) → IsUnlisted (t ∷ tasks) n → IsUnlisted tasks n
rest_absent t tasks n absent k d h = absent (suc k) d (omega arith)

rest_numbered : (t : Task) (tasks : List Task) → AreNumbered (t ∷ tasks) → AreNumbered tasks
rest_numbered t tasks numbered i j d less within = numbered (suc i) (suc j) d (omega arith) (omega arith)

others : (t : Task) (tasks : List Task) (n : ℕ) → AreNumbered (t ∷ tasks) → t.number ≡ n → IsUnlisted tasks n
others t tasks n numbered is k d h same = numbered zero (suc k) d (omega arith) (omega arith) (is ∙ sym same)

-- FOUND
find_absent_if : (q : Task → Bool) (tasks : List Task) (n : ℕ) → IsUnlisted tasks n → find (λ t. eqb t.number n && q t) tasks ≡ None
find_absent_if q [] n absent = refl
find_absent_if q (t ∷ tasks) n absent =
    let other : eqb t.number n ≡ false = ne_eqb t.number n (absent zero t (omega arith)) in
    ap (λ b. cond (b && q t) (Some t) (find (λ t. eqb t.number n && q t) tasks)) other ∙ find_absent_if q tasks n (rest_absent t tasks n absent)

pub find_absent : (tasks : List Task) (n : ℕ) → IsUnlisted tasks n → find (λ t. eqb t.number n) tasks ≡ None
find_absent [] n absent = refl
find_absent (t ∷ tasks) n absent =
    let other : eqb t.number n ≡ false = ne_eqb t.number n (absent zero t (omega arith)) in
    ap (λ b. cond b (Some t) (find (λ t. eqb t.number n) tasks)) other ∙ find_absent tasks n (rest_absent t tasks n absent)

pub find_at : (tasks : List Task) (n p : ℕ) (d : Task) → AreNumbered tasks → IsListedAt tasks n p → find (λ t. eqb t.number n) tasks ≡ Some (get_or tasks p d)
find_at tasks n p d numbered is = ap (λ m. find (λ t. eqb t.number m) tasks) (sym (is.is d)) ∙ find_here tasks p d numbered is.within

-- where it has not ended
abbrev pub unless_ended : Option Task → Option Task
unless_ended None = None
unless_ended (Some t) = cond (not (is_leaving t.condition)) (Some t) None

pub find_live : (tasks : List Task) (n : ℕ) → AreNumbered tasks → find (λ t. eqb t.number n && not (is_leaving t.condition)) tasks ≡ unless_ended (find (λ t. eqb t.number n) tasks)
find_live [] n numbered = refl
find_live (t ∷ tasks) n numbered =
    let live : Task → Bool = λ t. eqb t.number n && not (is_leaving t.condition) in
    elim (eqb t.number n) as (λ b. eqb t.number n ≡ b → cond (b && not (is_leaving t.condition)) (Some t) (find live tasks) ≡ unless_ended (cond b (Some t) (find (λ t. eqb t.number n) tasks))) [
      | true ↦ λ e. ap (λ o. cond (not (is_leaving t.condition)) (Some t) o) (find_absent_if (λ t. not (is_leaving t.condition)) tasks n (others t tasks n numbered (eqb-true t.number n e)))
      | false ↦ λ e. find_live tasks n (rest_numbered t tasks numbered)
    ] refl

-- CHANGED
pub map_others : (f : Task → Task) (n : ℕ) (tasks : List Task) → IsUnlisted tasks n → map (of_number n f) tasks ≡ tasks
map_others f n [] absent = refl
map_others f n (t ∷ tasks) absent =
    let first : of_number n f t ≡ t = ap (λ b. cond b (f t) t) (ne_eqb t.number n (absent zero t (omega arith))) in
    let more = map_others f n tasks (rest_absent t tasks n absent) in
    λ i. first i ∷ more i

pub map_at : (f : Task → Task) (n : ℕ) (tasks : List Task) (p : ℕ) (d : Task) → AreNumbered tasks → IsListedAt tasks n p → map (of_number n f) tasks ≡ set tasks p (f (get_or tasks p d))
map_at f n [] p d numbered is = let no : p < 0 = is.within in absurd (omega (arith, no))
map_at f n (t ∷ tasks) zero d numbered is =
    let first : of_number n f t ≡ f t = ap (λ b. cond b (f t) t) (eq-eqb t.number n (is.is t)) in
    let more = map_others f n tasks (others t tasks n numbered (is.is t)) in
    λ i. first i ∷ more i
map_at f n (t ∷ tasks) (suc p) d numbered is =
    let inside : suc p < suc (length tasks) = is.within in
    let rest : IsListedAt tasks n p = record { within = omega (arith, inside); is = is.is } in
    let other : t.number ≢ n = λ e. numbered zero (suc p) t (omega arith) inside (e ∙ sym (is.is t)) in
    let first : of_number n f t ≡ t = ap (λ b. cond b (f t) t) (ne_eqb t.number n other) in
    let more = map_at f n tasks p d (rest_numbered t tasks numbered) rest in
    λ i. first i ∷ more i

-- what a map left at a place
pub read_before : (f : Task → Task) (tasks now : List Task) (p : ℕ) (d : Task) → p < length tasks → now ≡ map f tasks → get_or now p d ≡ f (get_or tasks p d)
read_before f tasks now p d h is = ap (λ (ts : List Task). get_or ts p d) is ∙ get_or-map f tasks p d d h

-- ALL OF A NUMBER
pub filter_absent : (tasks : List Task) (n : ℕ) → IsUnlisted tasks n → filter (λ t. eqb t.number n) tasks ≡ []
filter_absent [] n absent = refl
filter_absent (t ∷ tasks) n absent =
    ap (λ b. cond b (t ∷ filter (λ t. eqb t.number n) tasks) (filter (λ t. eqb t.number n) tasks)) (ne_eqb t.number n (absent zero t (omega arith)))
    ∙ filter_absent tasks n (rest_absent t tasks n absent)

pub filter_at : (tasks : List Task) (n p : ℕ) (d : Task) → AreNumbered tasks → IsListedAt tasks n p → filter (λ t. eqb t.number n) tasks ≡ get_or tasks p d ∷ []
filter_at [] n p d numbered is = let no : p < 0 = is.within in absurd (omega (arith, no))
filter_at (t ∷ tasks) n zero d numbered is =
    ap (λ b. cond b (t ∷ filter (λ t. eqb t.number n) tasks) (filter (λ t. eqb t.number n) tasks)) (eq-eqb t.number n (is.is t))
    ∙ ap (λ (ts : List Task). t ∷ ts) (filter_absent tasks n (others t tasks n numbered (is.is t)))
filter_at (t ∷ tasks) n (suc p) d numbered is =
    let inside : suc p < suc (length tasks) = is.within in
    let rest : IsListedAt tasks n p = record { within = omega (arith, inside); is = is.is } in
    let other : t.number ≢ n = λ e. numbered zero (suc p) t (omega arith) inside (e ∙ sym (is.is t)) in
    ap (λ b. cond b (t ∷ filter (λ t. eqb t.number n) tasks) (filter (λ t. eqb t.number n) tasks)) (ne_eqb t.number n other)
    ∙ filter_at tasks n p d (rest_numbered t tasks numbered) rest
