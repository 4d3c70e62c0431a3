-- What the ticks leave of the keys of a list of tasks.
use Rattle.std.proofs.Common.{◌≡◌, ℕ, zero, suc, Bool, true, false, cond, eqb, eq-eqb, get_or, ◌||◌, List, [], ◌∷◌, map, refl, sym, ap, ◌∙◌, arith}
use Rattle.std.specs.Prelude.{All, AllPairs, ◌≢◌, filter, position}
use Rattle.std.specs.List.{list_any}
use Rattle.std.proofs.lemmas.Bool.{ne_eqb}
use Rattle.std.proofs.lemmas.List.Folds.{list_any_at, list_any_none}
use Rattle.std.proofs.lemmas.List.Elements.{All-filter, All-weaker}
use Rattle.std.proofs.lemmas.List.Kept.{AllPairs-filter}
use Rattle.edf_pick.specs.Places.{is_task}
use Rattle.domain_run.specs.declared.task.Task.{Task}
use Rattle.domain_run.specs.Parts.{replenish_due, settled, is_listed, unblocked, with_last_cpu}
use Rattle.domain_run.specs.Domain.{Domain}
use Rattle.domain_run.specs.Tick.{with_tick_begun, ran_if, ticked, ticks}
use Rattle.domain_run.specs.Keys.{key_of, keys, has_task, listed_keys, AreKept}
use Rattle.domain_run.proofs.Keeping.{Same, same_replenished, same_settled, same_unblocked, AllPairs-map}
use Rattle.domain_run.proofs.Placing.{homed_number, homed_params}
use Rattle.domain_run.proofs.Ticking.{same_ran_if}

-- ---- lists

filter_whole : {X : Type 0} (p : X → Bool) (xs : List X) → All (λ x. p x ≡ true) xs → filter p xs ≡ xs
filter_whole p [] all = refl
filter_whole p (x ∷ xs) all =
    let rest : All (λ y. p y ≡ true) xs = λ k d h. all (suc k) d (omega arith) in
    ap (λ b. cond b (x ∷ filter p xs) (filter p xs)) (all zero x (omega arith)) ∙ ap (λ ys. x ∷ ys) (filter_whole p xs rest)

filter_alike : {X : Type 0} (p q : X → Bool) (xs : List X) → All (λ x. p x ≡ q x) xs → filter p xs ≡ filter q xs
filter_alike p q [] all = refl
filter_alike p q (x ∷ xs) all =
    let rest : All (λ y. p y ≡ q y) xs = λ k d h. all (suc k) d (omega arith) in
    ap (λ b. cond b (x ∷ filter p xs) (filter p xs)) (all zero x (omega arith)) ∙ ap (λ ys. cond (q x) (x ∷ ys) ys) (filter_alike p q xs rest)

-- what the second filter keeps the first keeps too
filter_twice : {X : Type 0} (p q : X → Bool) → ((x : X) → q x ≡ true → p x ≡ true) → (xs : List X) → filter q (filter p xs) ≡ filter q xs
filter_twice p q wider [] = refl
filter_twice p q wider (x ∷ xs) =
    let more = filter_twice p q wider xs in
    elim (p x) as (λ b. p x ≡ b → filter q (cond b (x ∷ filter p xs) (filter p xs)) ≡ cond (q x) (x ∷ filter q xs) (filter q xs)) [
      | true ↦ λ e. ap (λ ys. cond (q x) (x ∷ ys) ys) more
      | false ↦ λ e. elim (q x) as (λ b. q x ≡ b → filter q (filter p xs) ≡ cond b (x ∷ filter q xs) (filter q xs)) [
        | true ↦ λ k. let no : false ≡ true = sym e ∙ wider x k in absurd cc
        | false ↦ λ k. more
      ] refl
    ] refl

filter_map_keys : (p : ℕ → Bool) (tasks : List Task) → filter (λ k. p k.0) (keys tasks) ≡ keys (filter (λ t. p t.number) tasks)
filter_map_keys p [] = refl
filter_map_keys p (t ∷ tasks) =
    elim (p t.number) as (λ b. cond b (key_of t ∷ filter (λ k. p k.0) (keys tasks)) (filter (λ k. p k.0) (keys tasks)) ≡ keys (cond b (t ∷ filter (λ u. p u.number) tasks) (filter (λ u. p u.number) tasks))) [
      | true ↦ ap (λ ks. key_of t ∷ ks) (filter_map_keys p tasks)
      | false ↦ filter_map_keys p tasks
    ]

-- a number is listed where its key is
pub has_key : (tasks : List Task) (number : ℕ) → has_task tasks number ≡ list_any (λ k. eqb k.0 number) (keys tasks)
has_key [] number = refl
has_key (t ∷ tasks) number = ap (λ b. eqb t.number number || b) (has_key tasks number)

any_filter : {X : Type 0} (p q : X → Bool) (xs : List X) → list_any p (filter q xs) ≡ true → list_any p xs ≡ true
any_filter p q [] e = e
any_filter p q (x ∷ xs) e =
    let more : (b : Bool) → list_any p (filter q xs) ≡ true → (b || list_any p xs) ≡ true = λ b h. elim b as (λ c. (c || list_any p xs) ≡ true) [ true ↦ refl | false ↦ any_filter p q xs h ] in
    elim (q x) as (λ b. list_any p (cond b (x ∷ filter q xs) (filter q xs)) ≡ true → (p x || list_any p xs) ≡ true) [
      | true ↦ λ h. elim (p x) as (λ c. (c || list_any p (filter q xs)) ≡ true → (c || list_any p xs) ≡ true) [ true ↦ λ k. refl | false ↦ λ k. any_filter p q xs k ] h
      | false ↦ λ h. more (p x) h
    ] e

-- ---- kept keys

pub kept_itself : (tasks : List Task) → AreKept tasks tasks
kept_itself tasks =
    sym (filter_whole (λ k. has_task tasks k.0) (keys tasks)
    (λ i d h. has_key tasks _ ∙ list_any_at _ (keys tasks) i d h (eq-eqb _ _ refl)))

-- who is listed after was listed before
pub kept_listed : (before after : List Task) (number : ℕ) → AreKept before after → has_task after number ≡ true → has_task before number ≡ true
kept_listed before after number kept e =
    has_key before number ∙ any_filter (λ k. eqb k.0 number) (λ k. has_task after k.0) (keys before) (ap (λ ks. list_any (λ k. eqb k.0 number) ks) (sym kept) ∙ sym (has_key after number) ∙ e)

pub kept_more : (first then last : List Task) → AreKept first then → AreKept then last → AreKept first last
kept_more first then last one two =
    two ∙ ap (λ ks. listed_keys ks last) one ∙ filter_twice (λ k. has_task then k.0) (λ k. has_task last k.0) (λ k h. kept_listed then last k.0 two h) (keys first)

-- ---- a change that keeps number and bandwidth

pub keys_map : (f : Task → Task) → ((t : Task) → (f t).number ≡ t.number) → ((t : Task) → (f t).params ≡ t.params) → (tasks : List Task) → keys (map f tasks) ≡ keys tasks
keys_map f number params [] = refl
keys_map f number params (t ∷ tasks) =
    ap (λ n. (n, (f t).params.bw) ∷ keys (map f tasks)) (number t) ∙ ap (λ p. (t.number, p.bw) ∷ keys (map f tasks)) (params t) ∙ ap (λ ks. key_of t ∷ ks) (keys_map f number params tasks)

keys_same : (f : Task → Task) → ((t : Task) → Same t (f t)) → (tasks : List Task) → keys (map f tasks) ≡ keys tasks
keys_same f same tasks = keys_map f (λ t. (same t).number) (λ t. (same t).params) tasks

-- the law speaks of keys alone
kept_by_keys : (before after before' after' : List Task) → keys before ≡ keys before' → keys after ≡ keys after' → AreKept before after → AreKept before' after'
kept_by_keys before after before' after' b a kept =
    let test : (k : ℕ × ℕ) → has_task after k.0 ≡ has_task after' k.0 = λ k. has_key after k.0 ∙ ap (λ ks. list_any (λ l. eqb l.0 k.0) ks) a ∙ sym (has_key after' k.0) in
    sym a ∙ kept ∙ ap (λ ks. listed_keys ks after) b ∙ filter_alike (λ k. has_task after k.0) (λ k. has_task after' k.0) (keys before') (λ i d h. test (get_or (keys before') i d))

-- ---- tasks that go off the list

abbrev pub AreNumbered : List Task → Type 0
AreNumbered tasks = AllPairs (λ a b. a.number ≢ b.number) tasks

pub others_first : (t : Task) (tasks : List Task) → AreNumbered (t ∷ tasks) → All (λ u. t.number ≢ u.number) tasks
others_first t tasks all k d h = all zero (suc k) d (omega arith) (omega arith)

pub others_rest : (t : Task) (tasks : List Task) → AreNumbered (t ∷ tasks) → AreNumbered tasks
others_rest t tasks all i j d less within = all (suc i) (suc j) d (omega arith) (omega arith)

-- a test by the numbers of those that pass it is that test
tested : (p : Task → Bool) (tasks : List Task) → AreNumbered tasks → filter (λ t. has_task (filter p tasks) t.number) tasks ≡ filter p tasks
tested p [] numbered = refl
tested p (t ∷ tasks) numbered =
    let others = others_first t tasks numbered in
    let passed = filter p tasks in
    let rest = tested p tasks (others_rest t tasks numbered) in
    let absent : has_task passed t.number ≡ false =
    list_any_none (λ u. eqb u.number t.number) passed (All-filter p (λ u. eqb u.number t.number ≡ false) tasks (All-weaker (λ u. t.number ≢ u.number) (λ u. eqb u.number t.number ≡ false) (λ u h. ne_eqb u.number t.number (λ e. h (sym e))) tasks others)) in
    let alike : filter (λ u. eqb t.number u.number || has_task passed u.number) tasks ≡ filter (λ u. has_task passed u.number) tasks =
    filter_alike _ _ tasks (All-weaker (λ u. t.number ≢ u.number) (λ u. (eqb t.number u.number || has_task passed u.number) ≡ has_task passed u.number) (λ u h. ap (λ b. b || has_task passed u.number) (ne_eqb t.number u.number h)) tasks others) in
    elim (p t) as (λ b. filter (λ u. has_task (cond b (t ∷ passed) passed) u.number) (t ∷ tasks) ≡ cond b (t ∷ passed) passed) [
      | true ↦ ap (λ b. cond (b || has_task passed t.number) (t ∷ filter (λ u. eqb t.number u.number || has_task passed u.number) tasks) (filter (λ u. eqb t.number u.number || has_task passed u.number) tasks)) (eq-eqb t.number t.number refl)
          ∙ ap (λ ts. t ∷ ts) (alike ∙ rest)
      | false ↦ ap (λ b. cond b (t ∷ filter (λ u. has_task passed u.number) tasks) (filter (λ u. has_task passed u.number) tasks)) absent ∙ rest
    ]

kept_filter : (p : Task → Bool) (tasks : List Task) → AreNumbered tasks → AreKept tasks (filter p tasks)
kept_filter p tasks numbered = ap keys (sym (tested p tasks numbered)) ∙ sym (filter_map_keys (has_task (filter p tasks)) tasks)

-- ---- a tick

numbered_map : (f : Task → Task) → ((t : Task) → (f t).number ≡ t.number) → (tasks : List Task) → AreNumbered tasks → AreNumbered (map f tasks)
numbered_map f keeps tasks numbered = AllPairs-map (λ a b. a.number ≢ b.number) f (λ a b h e. h (sym (keeps a) ∙ e ∙ keeps b)) tasks numbered

numbered_due : (d : Domain) → AreNumbered d.tasks → AreNumbered (map (settled d.time) (map (replenish_due d.time) d.tasks))
numbered_due d numbered =
    numbered_map (settled d.time) (λ t. (same_settled d.time t).number) (map (replenish_due d.time) d.tasks) (numbered_map (replenish_due d.time) (λ t. (same_replenished d.time t).number) d.tasks numbered)

pub ticked_kept : (d : Domain) → AreNumbered d.tasks → AreKept d.tasks (ticked d).tasks
ticked_kept d numbered =
    let b = map (replenish_due d.time) d.tasks in
    let c = map (settled d.time) b in
    let s = filter is_listed c in
    let w = map (unblocked d.time) s in
    let h = (with_tick_begun d).tasks in
    let before : keys c ≡ keys d.tasks = keys_same (settled d.time) (same_settled d.time) b ∙ keys_same (replenish_due d.time) (same_replenished d.time) d.tasks in
    let after : keys (ticked d).tasks ≡ keys s =
    keys_same (ran_if (with_tick_begun d)) (same_ran_if (with_tick_begun d)) h
    ∙ keys_map (with_last_cpu (with_tick_begun d).curr) (λ t. homed_number (position (is_task t.number) (with_tick_begun d).curr) t) (λ t. homed_params (position (is_task t.number) (with_tick_begun d).curr) t) w
    ∙ keys_same (unblocked d.time) (same_unblocked d.time) s in
    kept_by_keys c s d.tasks (ticked d).tasks before (sym after) (kept_filter is_listed c (numbered_due d numbered))

pub ticked_numbered : (d : Domain) → AreNumbered d.tasks → AreNumbered (ticked d).tasks
ticked_numbered d numbered =
    let s = filter is_listed (map (settled d.time) (map (replenish_due d.time) d.tasks)) in
    let w = map (unblocked d.time) s in
    numbered_map (ran_if (with_tick_begun d)) (λ t. (same_ran_if (with_tick_begun d) t).number) (with_tick_begun d).tasks
    (numbered_map (with_last_cpu (with_tick_begun d).curr) (λ t. homed_number (position (is_task t.number) (with_tick_begun d).curr) t) w
    (numbered_map (unblocked d.time) (λ t. (same_unblocked d.time t).number) s
    (AllPairs-filter (λ a b. a.number ≢ b.number) is_listed (map (settled d.time) (map (replenish_due d.time) d.tasks)) (numbered_due d numbered))))

-- ---- any number of ticks

pub ticks_numbered : (k : ℕ) (d : Domain) → AreNumbered d.tasks → AreNumbered (ticks k d).tasks
ticks_numbered zero d numbered = numbered
ticks_numbered (suc k) d numbered = ticked_numbered (ticks k d) (ticks_numbered k d numbered)

pub ticks_kept : (k : ℕ) (d : Domain) → AreNumbered d.tasks → AreKept d.tasks (ticks k d).tasks
ticks_kept zero d numbered = kept_itself d.tasks
ticks_kept (suc k) d numbered = kept_more d.tasks (ticks k d).tasks (ticked (ticks k d)).tasks (ticks_kept k d numbered) (ticked_kept (ticks k d) (ticks_numbered k d numbered))
