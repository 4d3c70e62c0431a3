-- Every step keeps the law.
use Rattle.std.proofs.Common.{◌^◌, ◌≡◌, ◌≤◌, ◌<◌, ◌+◌, ℕ, Bool, true, false, not, List, [], ◌∷◌, ◌++◌, length, take, Option, Some, None, Result, Ok, Err, map, get_or, refl, sym, ap, ◌∙◌, subst, ⊎_elim, inr, arith, nat_le}
use Rattle.std.specs.Prelude.{◌==◌, position, slice_get, slice_set, OnOk, OnErr, IsSomeAnd}
use Rattle.std.specs.List.{list_any, All}
use Rattle.std.proofs.lemmas.Bool.{eqb-true, cases_Bool, or_parts, and_parts, not-true}
use Rattle.std.proofs.lemmas.List.Elements.{All-set, All-get_or, All-nil, All-cons}
use Rattle.std.proofs.lemmas.List.{set-get_or, take_more}
use Rattle.std.proofs.lemmas.List.Folds.{list_any_at}
use Rattle.std.proofs.lemmas.List.Sums.{sum_by-set, sum_by-cons, get_or-le-sum_by}
use Rattle.std.proofs.lemmas.Option.{slice_get-get_or, get_or_from_slice_get, slice_get_within}
use Rattle.no_memory.specs.declared.NoMemory.{NoMemory}
use Rattle.bw_world.specs.declared.step.Outcome.{Outcome}
use Rattle.bw_world.specs.declared.step.Step.{Step}
use Rattle.bw_world.specs.declared.step.Step.TheVariants.{Load, Take, Regrade, Give, Enter, Release, Limit, Move}
use Rattle.bw_world.specs.declared.step.Word.{Word}
use Rattle.bw_world.specs.declared.ticket.Ticket.{Ticket}
use Rattle.bw_world.specs.declared.ticket.Task.{Task}
use Rattle.bw_world.specs.WorldView.{DomainView}
use Rattle.bw_world.specs.DomainStep.{DomainStep, unused_domain, is_live_in, loaded, taken, regraded, given, entered, released, limited}
use Rattle.bw_world.specs.WorldStep.{may_take, may_move, is_live, at_found, at_place, at_home, stepped, after_steps, outcomes_of}
use Rattle.limits.specs.Limits.{unit}
use Rattle.bw_world.specs.Growing.{IsGrowing, IsGrowingAt}
use Rattle.bw_world.specs.ExactWord.{IsExactDomain, IsExact, live_in, live}
use Rattle.bw_world.proofs.Counted.{one_if, none_counted}
use Rattle.bw_world.proofs.DomainLaw.{Keeps, IsSingle, give_keeps, regrade_keeps, enter_keeps, release_keeps, take_keeps, limit_keeps}

-- an id that is not live
pub not_live : (id : ℕ) (ds : List DomainView) → is_live id ds ≡ false → live id ds ≡ 0
not_live id [] none = refl
not_live id (d ∷ ds) none =
    let parts = or_parts (is_live_in id d) (is_live id ds) none in
    let here = or_parts (list_any (λ (t : Ticket). t.id == id) d.in_hand) (list_any (λ (t : Task). t.ticket == id) d.admitted) parts.0 in
    omega (arith, sum_by-cons (live_in id) d ds, not_live id ds parts.1, none_counted (λ (t : Ticket). t.id == id) d.in_hand here.0, none_counted (λ (t : Task). t.ticket == id) d.admitted here.1)

-- the domain of an index
exact_at : (ds : List DomainView) (k : ℕ) (d : DomainView) → slice_get ds k ≡ Some d → IsExact ds → IsExactDomain d
exact_at ds k d is exact = subst IsExactDomain (get_or_from_slice_get ds k d d is) (All-get_or IsExactDomain ds k d (slice_get_within ds k d is) exact.each)

single_at : (ds : List DomainView) (k : ℕ) (d : DomainView) → slice_get ds k ≡ Some d → IsExact ds → IsSingle d
single_at ds k d is exact = λ id. omega (arith, exact.ids id, get_or-le-sum_by (live_in id) ds k d (slice_get_within ds k d is), ap (live_in id) (get_or_from_slice_get ds k d d is))

live-set : (ds : List DomainView) (k : ℕ) (d e : DomainView) (id : ℕ) → slice_get ds k ≡ Some d → live id (slice_set ds k e) + live_in id d ≡ live id ds + live_in id e
live-set ds k d e id is = ap (λ x. live id (slice_set ds k e) + live_in id x) (sym (get_or_from_slice_get ds k d d is)) ∙ sum_by-set (live_in id) ds k e d (slice_get_within ds k d is)

set_exact : (ds : List DomainView) (k : ℕ) (d e : DomainView) → slice_get ds k ≡ Some d → IsExact ds → Keeps d e → IsExact (slice_set ds k e)
set_exact ds k d e is exact kept =
    record {
      each = All-set IsExactDomain ds k e kept.exact exact.each;
      ids = λ id. omega (arith, exact.ids id, kept.ids id, live-set ds k d e id is);
    }

abbrev RuleKeeps : (DomainView → DomainStep) → Type 0
RuleKeeps rule = (d : DomainView) → IsExactDomain d → IsSingle d → Keeps d (rule d).domain

found_exact : (ds : List DomainView) (k : ℕ) (rule : DomainView → DomainStep) (found : Option DomainView) → slice_get ds k ≡ found → IsExact ds → RuleKeeps rule → IsExact (at_found ds k rule found).domains
found_exact ds k rule None is exact keeps = exact
found_exact ds k rule (Some d) is exact keeps = set_exact ds k d (rule d).domain is exact (keeps d (exact_at ds k d is exact) (single_at ds k d is exact))

place_exact : (ds : List DomainView) (rule : DomainView → DomainStep) (place : Option ℕ) → IsExact ds → RuleKeeps rule → IsExact (at_place ds rule place).domains
place_exact ds rule None exact keeps = exact
place_exact ds rule (Some k) exact keeps = found_exact ds k rule (slice_get ds k) refl exact keeps

home_exact : (ds : List DomainView) (id : ℕ) (rule : DomainView → DomainStep) → IsExact ds → RuleKeeps rule → IsExact (at_home ds id rule).domains
home_exact ds id rule exact keeps = place_exact ds rule (position (is_live_in id) ds) exact keeps

-- an id that is taken anew
taken_once : (id other : ℕ) (ds : List DomainView) → IsExact ds → is_live id ds ≡ false → live other ds + one_if (id == other) ≤ 1
taken_once id other ds exact fresh =
    ⊎_elim
    (λ (yes : (id == other) ≡ true).
    let none = subst (λ n. live n ds ≡ 0) (eqb-true id other yes) (not_live id ds fresh) in
    omega (arith, none, ap one_if yes))
    (λ (no : (id == other) ≡ false). omega (arith, exact.ids other, ap one_if no))
    (cases_Bool (id == other))

taken_exact : (ds : List DomainView) (k id bw : ℕ) (expected : Word) (found : Option DomainView) → slice_get ds k ≡ found → IsExact ds → is_live id ds ≡ false → IsExact (at_found ds k (taken id bw expected) found).domains
taken_exact ds k id bw expected None is exact fresh = exact
taken_exact ds k id bw expected (Some d) is exact fresh =
    let kept = take_keeps id bw expected d (exact_at ds k d is exact) in
    record {
      each = All-set IsExactDomain ds k (taken id bw expected d).domain kept.exact exact.each;
      ids = λ other. omega (arith, taken_once id other ds exact fresh, kept.ids other, live-set ds k d (taken id bw expected d).domain other is);
    }

take_exact : (ds : List DomainView) (k id bw : ℕ) (expected : Word) → IsExact ds → IsExact (stepped (Take id k bw expected) ds).domains
take_exact ds k id bw expected exact =
    let test : Bool = may_take id bw ds in
    ⊎_elim
    (λ (yes : test ≡ true). rw yes (taken_exact ds k id bw expected (slice_get ds k) refl exact (not-true (is_live id ds) (and_parts (nat_le bw unit) (not (is_live id ds)) yes).1)))
    (λ (no : test ≡ false). rw no exact)
    (cases_Bool test)

limit_exact : (ds : List DomainView) (k cap : ℕ) (expected : Word) → IsExact ds → IsExact (stepped (Limit k cap expected) ds).domains
limit_exact ds k cap expected exact =
    let test : Bool = nat_le cap (2 ^ 26) in
    ⊎_elim
    (λ (yes : test ≡ true). rw yes (found_exact ds k (limited cap expected) (slice_get ds k) refl exact (limit_keeps cap expected)))
    (λ (no : test ≡ false). rw no exact)
    (cases_Bool test)

move_exact : (ds : List DomainView) (old new number : ℕ) → IsExact ds → IsExact (stepped (Move old new number) ds).domains
move_exact ds old new number exact =
    let test : Bool = may_move old new number ds in
    let left : List DomainView = (at_home ds old (released old)).domains in
    ⊎_elim
    (λ (yes : test ≡ true). rw yes (home_exact left new (entered new number) (home_exact ds old (released old) exact (release_keeps old)) (enter_keeps new number)))
    (λ (no : test ≡ false). rw no exact)
    (cases_Bool test)

-- one step
pub step_exact : (s : Step) (ds : List DomainView) → IsExact ds → IsExact (stepped s ds).domains
step_exact (Load k) ds exact = found_exact ds k loaded (slice_get ds k) refl exact (λ d e single. record { exact = e; ids = λ id. omega arith })
step_exact (Take id k bw expected) ds exact = take_exact ds k id bw expected exact
step_exact (Regrade id bw expected) ds exact = home_exact ds id (regraded id bw expected) exact (regrade_keeps id bw expected)
step_exact (Give id) ds exact = home_exact ds id (given id) exact (give_keeps id)
step_exact (Enter id number) ds exact = home_exact ds id (entered id number) exact (enter_keeps id number)
step_exact (Release id) ds exact = home_exact ds id (released id) exact (release_keeps id)
step_exact (Limit k cap expected) ds exact = limit_exact ds k cap expected exact
step_exact (Move old new number) ds exact = move_exact ds old new number exact

-- after every step of every list
pub after_exact : (steps : List Step) (ds : List DomainView) → IsExact ds → IsExact (after_steps steps ds)
after_exact [] ds exact = exact
after_exact (s ∷ steps) ds exact = after_exact steps (stepped s ds).domains (step_exact s ds exact)

-- a step that was refused for want of memory leaves what was there
pub exact_either_way : (r : Result Outcome NoMemory) (s : Step) (before now : List DomainView) → IsExact before → OnOk r (now ≡ (stepped s before).domains) → OnErr r (now ≡ before) → IsExact now
exact_either_way (Ok o) s before now exact done same = subst IsExact (sym done) (step_exact s before exact)
exact_either_way (Err e) s before now exact done same = subst IsExact (sym same) exact

-- a world before its first step
live-opened : (id : ℕ) (caps : List ℕ) → live id (map unused_domain caps) ≡ 0
live-opened id [] = refl
live-opened id (cap ∷ caps) = omega (arith, sum_by-cons (live_in id) (unused_domain cap) (map unused_domain caps), live-opened id caps)

opened_exact : (cap : ℕ) → IsExactDomain (unused_domain cap)
opened_exact cap = record { sum = refl; capped = omega arith; book = refl; numbers = λ number. omega arith }

all_opened : (caps : List ℕ) → All IsExactDomain (map unused_domain caps)
all_opened [] = All-nil IsExactDomain
all_opened (cap ∷ caps) = All-cons IsExactDomain (unused_domain cap) (map unused_domain caps) (opened_exact cap) (all_opened caps)

pub opened_world_exact : (caps : List ℕ) → IsExact (map unused_domain caps)
opened_world_exact caps = record { each = all_opened caps; ids = λ id. omega (arith, live-opened id caps) }

-- Load
set_same : (ds : List DomainView) (k : ℕ) (found : Option DomainView) → slice_get ds k ≡ found → (at_found ds k loaded found).domains ≡ ds
set_same ds k None is = refl
set_same ds k (Some d) is = ap (slice_set ds k) (sym (get_or_from_slice_get ds k d d is)) ∙ set-get_or ds k d

pub load_changes_nothing : (ds : List DomainView) (k : ℕ) → (stepped (Load k) ds).domains ≡ ds
load_changes_nothing ds k = set_same ds k (slice_get ds k) refl

-- a Regrade that lengthens a book
pub lengthens_at : (ds : List DomainView) (k id : ℕ) (d : DomainView) → k < length ds → d ≡ get_or ds k d → list_any (λ (t : Task). t.ticket == id) d.admitted ≡ true → list_any (λ (e : DomainView). list_any (λ (t : Task). t.ticket == id) e.admitted) ds ≡ true
lengthens_at ds k id d within is here = list_any_at (λ (e : DomainView). list_any (λ (t : Task). t.ticket == id) e.admitted) ds k d within (ap (λ (e : DomainView). list_any (λ (t : Task). t.ticket == id) e.admitted) (sym is) ∙ here)

-- one step more
pub after-push : (steps : List Step) (s : Step) (ds : List DomainView) → after_steps (steps ++ s ∷ []) ds ≡ (stepped s (after_steps steps ds)).domains
after-push [] s ds = refl
after-push (r ∷ steps) s ds = after-push steps s (stepped r ds).domains

pub outcomes_of-push : (steps : List Step) (s : Step) (ds : List DomainView) → outcomes_of (steps ++ s ∷ []) ds ≡ outcomes_of steps ds ++ (stepped s (after_steps steps ds)).outcome ∷ []
outcomes_of-push [] s ds = refl
outcomes_of-push (r ∷ steps) s ds = ap (λ os. (stepped r ds).outcome ∷ os) (outcomes_of-push steps s (stepped r ds).domains)

pub after_more : (steps : List Step) (i : ℕ) (s : Step) (ds : List DomainView) → i < length steps → after_steps (take (i + 1) steps) ds ≡ (stepped (get_or steps i s) (after_steps (take i steps) ds)).domains
after_more steps i s ds within = ap (λ ss. after_steps ss ds) (take_more steps i s within) ∙ after-push (take i steps) (get_or steps i s) ds

pub outcomes_of_more : (steps : List Step) (i : ℕ) (s : Step) (ds : List DomainView) → i < length steps → outcomes_of (take (i + 1) steps) ds ≡ outcomes_of (take i steps) ds ++ (stepped (get_or steps i s) (after_steps (take i steps) ds)).outcome ∷ []
outcomes_of_more steps i s ds within = ap (λ ss. outcomes_of ss ds) (take_more steps i s within) ∙ outcomes_of-push (take i steps) (get_or steps i s) ds

-- the next step of a run, from what stands before it
pub world_next : (steps : List Step) (i : ℕ) (s : Step) (ds before now : List DomainView) → i < length steps → before ≡ after_steps (take i steps) ds → now ≡ (stepped (get_or steps i s) before).domains → now ≡ after_steps (take (i + 1) steps) ds
world_next steps i s ds before now within is done = done ∙ ap (λ b. (stepped (get_or steps i s) b).domains) is ∙ sym (after_more steps i s ds within)

pub outcomes_next : (steps : List Step) (i : ℕ) (s : Step) (ds before : List DomainView) (so_far now : List Outcome) (o : Outcome) → i < length steps → before ≡ after_steps (take i steps) ds → so_far ≡ outcomes_of (take i steps) ds → o ≡ (stepped (get_or steps i s) before).outcome → now ≡ so_far ++ o ∷ [] → now ≡ outcomes_of (take (i + 1) steps) ds
outcomes_next steps i s ds before so_far now o within is told gave pushed =
    pushed ∙ ap (λ os. os ++ o ∷ []) told ∙ ap (λ a. outcomes_of (take i steps) ds ++ a ∷ []) (gave ∙ ap (λ b. (stepped (get_or steps i s) b).outcome) is) ∙ sym (outcomes_of_more steps i s ds within)

-- the next step wants memory
pub growing_next : (steps : List Step) (i applied : ℕ) (s : Step) (ds before : List DomainView) → i < length steps → applied ≡ i → before ≡ after_steps (take i steps) ds → IsGrowing (get_or steps i s) before → IsGrowingAt steps applied ds
growing_next steps i applied s ds before within count is growing =
    let here : IsGrowing (get_or steps i s) (after_steps (take i steps) ds) = subst (IsGrowing (get_or steps i s)) is growing in
    let there : IsSomeAnd (slice_get steps i) (λ t. IsGrowing t (after_steps (take i steps) ds)) = subst (λ (o : Option Step). IsSomeAnd o (λ t. IsGrowing t (after_steps (take i steps) ds))) (sym (slice_get-get_or steps i s within)) here in
    subst (λ n. IsGrowingAt steps n ds) (sym count) (inr there)

pub on_err : {T E P : Type 0} (r : Result T E) → P → OnErr r P
on_err (Ok x) p = tt
on_err (Err e) p = p
