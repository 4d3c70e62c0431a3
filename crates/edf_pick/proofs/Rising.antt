-- Lists that rise in the order of the choice, and a task's place in them.
use Rattle.std.proofs.Common.{◌≡◌, ◌<◌, ◌≤◌, ℕ, subst, suc, ◌+◌, ◌-◌, Bool, true, false, cond, eqb, eqb-true, List, [], ◌∷◌, length, get_or, refl, sym, ap, ◌∙◌, arith, inl, inr}
use Rattle.std.specs.Prelude.{All, not}
use Rattle.std.specs.List.{insert, remove, prefix_len}
use Rattle.std.specs.List.Sorted.{IsPartitionedBy}
use Rattle.std.proofs.lemmas.Bool.{cond_both, or_parts, or_from, cases_lt}
use Rattle.std.proofs.lemmas.List.{get_or_default}
use Rattle.std.proofs.lemmas.List.Elements.{All-nil, All-cons, All-head, All-tail, All-weaker}
use Rattle.std.proofs.lemmas.List.Kept.{AllPairs-cons, AllPairs-filter}
use Rattle.std.proofs.lemmas.List.Edits.{length-insert, length-remove}
use Rattle.std.proofs.lemmas.List.Sums.{prefix_len-le-length}
use Rattle.edf_pick.specs.declared.candidate.Candidate.{Candidate}
use Rattle.edf_pick.specs.Choice.{is_before}
use Rattle.edf_pick.specs.Order.{IsRising, is_same, has_candidate, with_candidate, without_candidate}
use Rattle.edf_pick.specs.private.Room.{IsQueue}
use Rattle.edf_pick.proofs.Before.{before_both, before_other, before_differs, differs_reverse, same_before}

-- whether there is one
pub none_there : (queue : List Candidate) → eqb (length queue) 0 ≡ true → queue ≡ []
none_there [] e = refl
none_there (a ∷ queue) e = let none = eqb-true (length (a ∷ queue)) 0 e in absurd (omega (arith, none))

pub some_there : (queue : List Candidate) → eqb (length queue) 0 ≡ false → 0 < length queue
some_there [] e = absurd cc
some_there (a ∷ queue) e = omega arith

-- how many at the front are before c
abbrev pub place : Candidate → List Candidate → ℕ
place c queue = prefix_len (λ a. is_before a c) queue

pub rising_first : (a : Candidate) (queue : List Candidate) → IsRising (a ∷ queue) → All (λ b. is_before a b ≡ true) queue
rising_first a queue rising k d h = rising 0 (suc k) d (omega arith) (omega arith)

pub rising_rest : (a : Candidate) (queue : List Candidate) → IsRising (a ∷ queue) → IsRising queue
rising_rest a queue rising i j d h k = rising (suc i) (suc j) d (omega arith) (omega arith)

rising_cons : (a : Candidate) (queue : List Candidate) → All (λ b. is_before a b ≡ true) queue → IsRising queue → IsRising (a ∷ queue)
rising_cons a queue first rest = AllPairs-cons (λ a b. is_before a b ≡ true) a queue first rest

-- a task that is before the first is before all
before_all : (c a : Candidate) (queue : List Candidate) → is_before c a ≡ true → All (λ b. is_before a b ≡ true) queue → All (λ b. is_before c b ≡ true) queue
before_all c a queue h all = All-weaker (λ b. is_before a b ≡ true) (λ b. is_before c b ≡ true) (λ b k. before_both c a b h k) queue all

-- those before c come first
pub rising_parted : (c : Candidate) (queue : List Candidate) → IsRising queue → IsPartitionedBy (λ a. is_before a c) queue
rising_parted c queue rising i j d h within later =
    elim (cases_lt i j) [
      | inl less ↦ before_both (get_or queue i d) (get_or queue j d) c (rising i j d less within) later
      | inr more ↦ let same : i ≡ j = omega arith in rw same later
    ]

-- where the last is before c all are
all_first : (c : Candidate) (queue : List Candidate) → All (λ a. is_before a c ≡ true) queue → place c queue ≡ length queue
all_first c [] all = refl
all_first c (a ∷ queue) all =
    let rest = all_first c queue (All-tail (λ b. is_before b c ≡ true) a queue all) in
    ap (λ (b : Bool). cond b (1 + place c queue) 0) (All-head (λ b. is_before b c ≡ true) a queue all) ∙ omega (arith, rest)

pub place_none : (c : Candidate) (queue : List Candidate) → length queue ≡ 0 → place c queue ≡ length queue
place_none c [] e = refl
place_none c (a ∷ queue) e = absurd (omega arith)

pub place_end : (c : Candidate) (queue : List Candidate) (d : Candidate) (end : ℕ) → IsRising queue → end ≡ length queue → (end ≡ 0 → ⊥) → is_before (get_or queue (end - 1) d) c ≡ true → place c queue ≡ length queue
place_end c queue d end rising is some last =
    let h : end - 1 < length queue = omega (arith, is, some) in
    all_first c queue (λ k e l. rising_parted c queue rising k (end - 1) e (omega (arith, l, is)) h (ap (λ (a : Candidate). is_before a c) (get_or_default queue (end - 1) e d h) ∙ last))

-- WITH
pub All-with : (P : Candidate → Type 0) (c : Candidate) (queue : List Candidate) → P c → All P queue → All P (with_candidate c queue)
All-with P c [] p all = All-cons P c [] p all
All-with P c (a ∷ queue) p all =
    cond_both (is_before a c) (a ∷ with_candidate c queue) (c ∷ a ∷ queue) (λ xs. All P xs)
    (λ _. All-cons P a (with_candidate c queue) (All-head P a queue all) (All-with P c queue p (All-tail P a queue all)))
    (λ _. All-cons P c (a ∷ queue) p all)

pub rising_with : (c : Candidate) (queue : List Candidate) → IsRising queue → has_candidate c queue ≡ false → IsRising (with_candidate c queue)
rising_with c [] rising absent = rising_cons c [] (All-nil (λ b. is_before c b ≡ true)) rising
rising_with c (a ∷ queue) rising absent =
    let parts = or_parts (is_same a c) (has_candidate c queue) absent in
    let rest = rising_rest a queue rising in
    let first = rising_first a queue rising in
    cond_both (is_before a c) (a ∷ with_candidate c queue) (c ∷ a ∷ queue) (λ xs. IsRising xs)
    (λ e. rising_cons a (with_candidate c queue) (All-with (λ b. is_before a b ≡ true) c queue e first) (rising_with c queue rest parts.1))
    (λ e.
    let h = before_other a c e parts.0 in
    rising_cons c (a ∷ queue) (All-cons (λ b. is_before c b ≡ true) a queue h (before_all c a queue h first)) rising)

pub insert_place : (c : Candidate) (queue : List Candidate) → with_candidate c queue ≡ insert queue (place c queue) c
insert_place c [] = refl
insert_place c (a ∷ queue) =
    let one : 1 + place c queue ≡ suc (place c queue) = omega arith in
    elim (is_before a c) as (λ b. cond b (a ∷ with_candidate c queue) (c ∷ a ∷ queue) ≡ insert (a ∷ queue) (cond b (1 + place c queue) 0) c) [
      | true ↦ rw one (ap (λ (xs : List Candidate). a ∷ xs) (insert_place c queue))
      | false ↦ refl
    ]

pub length-with : (c : Candidate) (queue : List Candidate) → length (with_candidate c queue) ≡ length queue + 1
length-with c queue = ap (λ (xs : List Candidate). length xs) (insert_place c queue) ∙ length-insert queue (place c queue) c (prefix_len-le-length (λ a. is_before a c) queue)

-- a queue that has taken in one more
pub queue_with : (c : Candidate) (queue items : List Candidate) (before after : ℕ) → IsQueue queue before → length queue < 256 → has_candidate c queue ≡ false → after ≡ before → items ≡ with_candidate c queue → IsQueue items after
queue_with c queue items before after is few absent same e =
    let n = length-with c queue in
    let len : length items ≡ length queue + 1 = ap (λ (xs : List Candidate). length xs) e ∙ n in
    record { rising = subst (λ xs. IsRising xs) (sym e) (rising_with c queue is.rising absent); few = omega arith; room = same ∙ is.room }

-- WITHOUT
-- a queue out of which one has gone
pub queue_without : (c : Candidate) (queue items : List Candidate) (p before after : ℕ) → IsQueue queue before → p < length queue → without_candidate c queue ≡ remove queue p → items ≡ remove queue p → after ≡ before → IsQueue items after
queue_without c queue items p before after is h e gone same =
    let few = is.few in
    let fewer : length (remove queue p) + 1 ≡ length queue = length-remove queue p h in
    let many : length items ≡ length (remove queue p) = ap (λ (xs : List Candidate). length xs) gone in
    record {
      rising = subst (λ xs. IsRising xs) (e ∙ sym gone) (AllPairs-filter (λ a b. is_before a b ≡ true) (λ a. not (is_same a c)) queue is.rising);
      few = omega (arith, few, fewer, many);
      room = same ∙ is.room;
    }

-- out of which the first has gone
pub first_rest : (queue : List Candidate) (d : Candidate) → 0 < length queue → queue ≡ get_or queue 0 d ∷ remove queue 0
first_rest [] d h = absurd (omega (arith, h))
first_rest (a ∷ queue) d h = refl

pub few_rest : (queue : List Candidate) → length queue ≤ 256 → 0 < length queue → length (remove queue 0) < 256
few_rest queue few some = let fewer = length-remove queue 0 some in omega (arith, few, fewer)

pub queue_rest : (queue items : List Candidate) (before after : ℕ) → IsQueue queue before → 0 < length queue → items ≡ remove queue 0 → after ≡ before → IsQueue items after
queue_rest [] items before after is h gone same = absurd (omega (arith, h))
queue_rest (a ∷ queue) items before after is h gone same =
    let few = is.few in
    let many : length items ≡ length queue = ap (λ (xs : List Candidate). length xs) gone in
    record {
      rising = subst (λ xs. IsRising xs) (sym gone) (rising_rest a queue is.rising);
      few = omega (arith, few, many);
      room = same ∙ is.room;
    }

pub without_absent : (c : Candidate) (queue : List Candidate) → has_candidate c queue ≡ false → without_candidate c queue ≡ queue
without_absent c [] absent = refl
without_absent c (a ∷ queue) absent =
    let parts = or_parts (is_same a c) (has_candidate c queue) absent in
    elim (is_same a c) as (λ b. b ≡ false → cond (not b) (a ∷ without_candidate c queue) (without_candidate c queue) ≡ a ∷ queue) [
      | true ↦ λ e. absurd cc
      | false ↦ λ e. ap (λ (xs : List Candidate). a ∷ xs) (without_absent c queue parts.1)
    ] parts.0

-- c is before all of them
none_later : (c : Candidate) (queue : List Candidate) → All (λ b. is_before c b ≡ true) queue → has_candidate c queue ≡ false
none_later c [] all = refl
none_later c (a ∷ queue) all =
    or_from (is_same a c) (has_candidate c queue) (differs_reverse c a (All-head (λ b. is_before c b ≡ true) a queue all)) (none_later c queue (All-tail (λ b. is_before c b ≡ true) a queue all))

pub without_place : (c : Candidate) (queue : List Candidate) (d : Candidate) → IsRising queue → place c queue < length queue → is_same (get_or queue (place c queue) d) c ≡ true
    → without_candidate c queue ≡ remove queue (place c queue)
without_place c [] d rising h s = absurd (omega arith)
without_place c (a ∷ queue) d rising h s =
    let n = place c queue in
    let one : 1 + n ≡ suc n = omega arith in
    let first = rising_first a queue rising in
    elim (is_before a c) as (λ b. is_before a c ≡ b → cond b (1 + n) 0 < suc (length queue) → is_same (get_or (a ∷ queue) (cond b (1 + n) 0) d) c ≡ true → without_candidate c (a ∷ queue) ≡ remove (a ∷ queue) (cond b (1 + n) 0)) [
      | true ↦ λ e within at.
          let there : is_same (get_or queue n d) c ≡ true = ap (λ (k : ℕ). is_same (get_or (a ∷ queue) k d) c) (sym one) ∙ at in
          ap (λ (b : Bool). cond (not b) (a ∷ without_candidate c queue) (without_candidate c queue)) (before_differs a c e)
          ∙ (ap (λ (xs : List Candidate). a ∷ xs) (without_place c queue d (rising_rest a queue rising) (omega arith) there) ∙ ap (λ (k : ℕ). remove (a ∷ queue) k) (sym one))
      | false ↦ λ e within at.
          let later : All (λ b. is_before c b ≡ true) queue = All-weaker (λ b. is_before a b ≡ true) (λ b. is_before c b ≡ true) (λ b k. same_before a c b at k) queue first in
          ap (λ (b : Bool). cond (not b) (a ∷ without_candidate c queue) (without_candidate c queue)) at ∙ without_absent c queue (none_later c queue later)
    ] refl h s

-- where its place has another, it is nowhere
pub absent_place : (c : Candidate) (queue : List Candidate) (d : Candidate) → IsRising queue → (place c queue < length queue → is_same (get_or queue (place c queue) d) c ≡ false) → has_candidate c queue ≡ false
absent_place c [] d rising other = refl
absent_place c (a ∷ queue) d rising other =
    let n = place c queue in
    let one : 1 + n ≡ suc n = omega arith in
    let first = rising_first a queue rising in
    elim (is_before a c) as (λ b. is_before a c ≡ b → (cond b (1 + n) 0 < suc (length queue) → is_same (get_or (a ∷ queue) (cond b (1 + n) 0) d) c ≡ false) → has_candidate c (a ∷ queue) ≡ false) [
      | true ↦ λ e f.
          or_from (is_same a c) (has_candidate c queue) (before_differs a c e)
          (absent_place c queue d (rising_rest a queue rising) (λ within. ap (λ (k : ℕ). is_same (get_or (a ∷ queue) k d) c) (sym one) ∙ f (omega arith)))
      | false ↦ λ e f.
          let differs : is_same a c ≡ false = f (omega arith) in
          or_from (is_same a c) (has_candidate c queue) differs (none_later c queue (before_all c a queue (before_other a c e differs) first))
    ] refl other
