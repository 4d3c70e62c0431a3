-- The jobs of tasks, one task after the other.
use Rattle.std.proofs.Common.{◌≡◌, ℕ, ◌+◌, ◌<◌, ◌≤◌, Bool, true, false, List, length, get_or, drop, map, Option, Some, None, refl, sym, ap, ◌∙◌, arith, ⊎_elim}
use Rattle.std.specs.Prelude.{nat_lt}
use Rattle.std.specs.declared.vec.Vec.{Vec}
use Rattle.std.specs.Global.{Global}
use Rattle.std.proofs.lemmas.List.{drop_more, drop_all}
use Rattle.std.proofs.lemmas.Bool.{lt-ltb, le-ltb, cases_Bool}
use Rattle.recorded_jobs.specs.declared.job.Release.{Release}
use Rattle.recorded_workload.specs.declared.fault.WorkloadFault.TheVariants.{ManyJobs, LongSleep}
use Rattle.recorded_workload.specs.Refusals.{many_from, fits_script, long_from}

abbrev pub Jobs : Type 0
Jobs = Vec Release Global

abbrev pub lists : List Jobs → List (List Release)
lists jobs = map (λ v. v.items) jobs

pub many_here : (jobs : List Jobs) (i count : ℕ) (v : Jobs) → v ≡ get_or jobs i v → i < length jobs → count ≡ length v.items → 2048 < count → many_from i (lists (drop i jobs)) ≡ Some (ManyJobs i count)
unfolding many_from
many_here jobs i count v read l same more =
    let long : length (get_or jobs i v).items ≡ count = ap (λ (u : Jobs). length u.items) (sym read) ∙ sym same in
    let many : nat_lt 2048 (length (get_or jobs i v).items) ≡ true = lt-ltb _ _ (omega (arith, long, more)) in
    ap (λ (js : List Jobs). many_from i (lists js)) (drop_more jobs i v l) ∙ rw many (ap (λ (n : ℕ). Some (ManyJobs i n)) long)

pub many_later : (jobs : List Jobs) (i count : ℕ) (v : Jobs) → v ≡ get_or jobs i v → i < length jobs → count ≡ length v.items → count ≤ 2048 → many_from i (lists (drop i jobs)) ≡ many_from (i + 1) (lists (drop (i + 1) jobs))
unfolding many_from
many_later jobs i count v read l same few =
    let long : length (get_or jobs i v).items ≡ count = ap (λ (u : Jobs). length u.items) (sym read) ∙ sym same in
    let not_many : nat_lt 2048 (length (get_or jobs i v).items) ≡ false = le-ltb _ _ (omega (arith, long, few)) in
    ap (λ (js : List Jobs). many_from i (lists js)) (drop_more jobs i v l) ∙ rw not_many refl

pub many_none : (jobs : List Jobs) (i : ℕ) → length jobs ≤ i → many_from i (lists (drop i jobs)) ≡ None
unfolding many_from
many_none jobs i l = ap (λ (js : List Jobs). many_from i (lists js)) (drop_all i jobs l)

fits_read : (start : ℕ) (jobs : List Jobs) (i : ℕ) (v : Jobs) (b : Bool) → v ≡ get_or jobs i v → fits_script start v.items ≡ b → fits_script start (get_or jobs i v).items ≡ b
fits_read start jobs i v b read h = ap (λ (u : Jobs). fits_script start u.items) (sym read) ∙ h

pub long_here : (start : ℕ) (jobs : List Jobs) (i : ℕ) (v : Jobs) → v ≡ get_or jobs i v → i < length jobs → fits_script start v.items ≡ false → long_from start i (lists (drop i jobs)) ≡ Some (LongSleep i)
unfolding long_from
long_here start jobs i v read l h = ap (λ (js : List Jobs). long_from start i (lists js)) (drop_more jobs i v l) ∙ rw (fits_read start jobs i v false read h) refl

pub long_later : (start : ℕ) (jobs : List Jobs) (i : ℕ) (v : Jobs) → v ≡ get_or jobs i v → i < length jobs → fits_script start v.items ≡ true → long_from start i (lists (drop i jobs)) ≡ long_from start (i + 1) (lists (drop (i + 1) jobs))
unfolding long_from
long_later start jobs i v read l h = ap (λ (js : List Jobs). long_from start i (lists js)) (drop_more jobs i v l) ∙ rw (fits_read start jobs i v true read h) refl

pub long_none : (start : ℕ) (jobs : List Jobs) (i : ℕ) → length jobs ≤ i → long_from start i (lists (drop i jobs)) ≡ None
unfolding long_from
long_none start jobs i l = ap (λ (js : List Jobs). long_from start i (lists js)) (drop_all i jobs l)

some_is_none : {X : Type 0} (o : Option X) (x : X) → o ≡ Some x → o ≡ None → ⊥
some_is_none o x e f = absurd cc

-- if no task is refused, this one is not
pub long_fits : (start : ℕ) (jobs : List Jobs) (i : ℕ) (v : Jobs) → v ≡ get_or jobs i v → i < length jobs → long_from start i (lists (drop i jobs)) ≡ None → fits_script start v.items ≡ true
long_fits start jobs i v read l h =
    ⊎_elim (λ good. good) (λ bad. absurd (some_is_none (long_from start i (lists (drop i jobs))) (LongSleep i) (long_here start jobs i v read l bad) h)) (cases_Bool (fits_script start v.items))
