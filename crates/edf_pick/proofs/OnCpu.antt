-- Where a task runs, and that there is a seat as long as fewer run than there are CPUs.
use Rattle.std.proofs.Common.{◌≡◌, ◌<◌, ◌+◌, ℕ, suc, Bool, true, false, cond, ◌||◌, Option, Some, None, [], ◌∷◌, length, get_or, refl, sym, ap, ◌∙◌, arith, inl, inr}
use Rattle.std.specs.Prelude.{is_none, position, slice_get}
use Rattle.std.specs.List.{position_or_len}
use Rattle.std.proofs.lemmas.Bool.{cases_lt, cases_Bool, lt-ltb}
use Rattle.std.proofs.lemmas.List.Sums.{fails_before_first}
use Rattle.std.proofs.lemmas.Option.{slice_get_past}
use Rattle.edf_pick.specs.declared.candidate.Candidate.{Candidate}
use Rattle.edf_pick.specs.Places.{Places, count_occupant, is_task, is_on_cpu, is_free, cpu_for}
use Rattle.edf_pick.proofs.Occupants.{task_is}

-- HOW MANY Run
abbrev pub busy : Places → ℕ
busy [] = 0
busy (o ∷ places) = count_occupant o + busy places

pub runs_where : (n : ℕ) (places : Places) → is_on_cpu n places ≡ true → (cpu : ℕ) × (get_or places cpu None ≡ Some n)
runs_where n [] there = absurd cc
runs_where n (o ∷ places) there =
    elim (cases_Bool (is_task n o)) [
      | inl here ↦ (0, task_is n o here)
      | inr other ↦
          let rest = runs_where n places (sym (ap (λ (b : Bool). b || is_on_cpu n places) other) ∙ there) in
          (suc rest.0, rest.1)
    ]

-- A SEAT FOR EACH
all_busy : (places : Places) → ((cpu : ℕ) → cpu < length places → is_none (get_or places cpu None) ≡ false) → busy places ≡ length places
all_busy [] all = refl
all_busy (None ∷ places) all = absurd (let clash : true ≡ false = all 0 (omega arith) in cc)
all_busy (Some n ∷ places) all = let rest = all_busy places (λ cpu h. all (suc cpu) (omega (arith, h))) in omega (arith, rest)

some_free : (places : Places) → busy places < length places → (cpu : ℕ) × (position (λ o. is_none o) places ≡ Some cpu)
some_free places few =
    let k = position_or_len (λ (o : Option ℕ). is_none o) places in
    elim (cases_lt k (length places)) [
      | inl h ↦ (k, ap (λ (b : Bool). cond b (Some k) None) (lt-ltb k (length places) h))
      | inr h ↦ absurd (let full : busy places ≡ length places = all_busy places (λ cpu l. fails_before_first (λ (o : Option ℕ). is_none o) places cpu None (omega (arith, l, h))) in omega (arith, full, few))
    ]

pub some_assign : (places : Places) (c : Candidate) → busy places < length places → (cpu : ℕ) × (cpu_for places c ≡ Some cpu)
some_assign places c few =
    elim (cases_Bool (is_free (slice_get places c.home))) [
      | inl free ↦ (c.home, ap (λ (b : Bool). cond b (Some c.home) (position (λ o. is_none o) places)) free)
      | inr other ↦
          let f = some_free places few in
          (f.0, ap (λ (b : Bool). cond b (Some c.home) (position (λ o. is_none o) places)) other ∙ f.1)
    ]

pub free_inside : (places : Places) (cpu : ℕ) → is_free (slice_get places cpu) ≡ true → cpu < length places
free_inside places cpu free =
    elim (cases_lt cpu (length places)) [
      | inl h ↦ h
      | inr h ↦ absurd (let clash : false ≡ true = ap is_free (sym (slice_get_past places cpu h)) ∙ free in cc)
    ]
