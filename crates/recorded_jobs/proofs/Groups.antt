-- The stretches of the first job, and of the others.
use Rattle.std.proofs.Common.{◌≡◌, ℕ, zero, suc, ◌+◌, ◌<◌, ◌≤◌, ⊎_elim, Bool, true, false, List, [], ◌∷◌, ◌++◌, length, get_or, take, drop, refl, sym, ap, ◌∙◌, arith, map, append_assoc, append-nil}
use Rattle.std.proofs.lemmas.List.{drop_more, drop_all}
use Rattle.std.specs.Prelude.{if◌then◌else◌}
use Rattle.std.specs.List.{onto_first}
use Rattle.std.proofs.lemmas.Bool.{cases_Bool}
use Rattle.std.proofs.lemmas.List.Elements.{filter-append}
use Rattle.recorded_jobs.specs.declared.stretch.Stretch.{Stretch}
use Rattle.recorded_jobs.specs.declared.job.Job.{Job}
use Rattle.recorded_jobs.specs.Jobs.{is_closed, stretches_cut, job_of, jobs_cut}
use Rattle.recorded_jobs.specs.private.Groups.{group_len, with_work}

pub group_some : (ss : List Stretch) → 0 < length ss → 0 < group_len ss
unfolding group_len
group_some [] l = absurd (omega (arith, l))
group_some (s ∷ ss) l = ⊎_elim (λ yes. rw yes (omega arith)) (λ no. rw no (omega arith)) (cases_Bool (is_closed s))

cut_by : (b : Bool) (s : Stretch) (xs : List Stretch) → stretches_cut xs ≡ take (group_len xs) xs ∷ stretches_cut (drop (group_len xs) xs)
    → (if b then (s ∷ []) ∷ stretches_cut xs else onto_first s (stretches_cut xs)) ≡ take (if b then 1 else suc (group_len xs)) (s ∷ xs) ∷ stretches_cut (drop (if b then 1 else suc (group_len xs)) (s ∷ xs))
cut_by true s xs rest = refl
cut_by false s xs rest = ap (onto_first s) rest

cut_first : (ss : List Stretch) → 0 < length ss → stretches_cut ss ≡ take (group_len ss) ss ∷ stretches_cut (drop (group_len ss) ss)
unfolding stretches_cut group_len
cut_first [] l = absurd (omega (arith, l))
cut_first (s ∷ []) l = ⊎_elim (λ yes. rw yes refl) (λ no. rw no refl) (cases_Bool (is_closed s))
cut_first (s ∷ t ∷ ss) l =
    cut_by (is_closed s) s (t ∷ ss) (cut_first (t ∷ ss) (omega arith))

pub first_job : (ss : List Stretch) → 0 < length ss → jobs_cut ss ≡ with_work (job_of (take (group_len ss) ss) ∷ []) ++ jobs_cut (drop (group_len ss) ss)
first_job ss l =
    ap (λ (gs : List (List Stretch)). with_work (map job_of gs)) (cut_first ss l)
    ∙ filter-append (λ (j : Job). Rattle.std.specs.Prelude.nat_lt 0 j.work) (job_of (take (group_len ss) ss) ∷ []) (map job_of (stretches_cut (drop (group_len ss) ss)))

pub len_closed : (ss : List Stretch) (i : ℕ) (d : Stretch) → i < length ss → is_closed (get_or ss i d) ≡ true → group_len ss ≡ i + group_len (drop i ss) → i + 1 ≡ group_len ss
unfolding group_len
len_closed ss i d l holds h =
    let one : group_len (drop i ss) ≡ 1 = ap group_len (drop_more ss i d l) ∙ rw holds refl in
    sym (h ∙ ap (λ (n : ℕ). i + n) one)

pub len_open : (ss : List Stretch) (i : ℕ) (d : Stretch) → i < length ss → is_closed (get_or ss i d) ≡ false → group_len ss ≡ i + group_len (drop i ss) → group_len ss ≡ (i + 1) + group_len (drop (i + 1) ss)
unfolding group_len
len_open ss i d l fails h =
    let more : group_len (drop i ss) ≡ suc (group_len (drop (i + 1) ss)) = ap group_len (drop_more ss i d l) ∙ rw fails refl in
    omega (arith, h, more)

pub len_all : (ss : List Stretch) (i : ℕ) → length ss ≤ i → i ≤ length ss → group_len ss ≡ i + group_len (drop i ss) → length ss ≡ group_len ss
unfolding group_len
len_all ss i l m h =
    let none : group_len (drop i ss) ≡ 0 = ap group_len (drop_all i ss l) in
    omega (arith, h, none, l, m)

pub next_job : (rest group others : List Stretch) (job : Job) (n : ℕ) (old new all : List Job) → 0 < length rest → n ≡ group_len rest → group ≡ take n rest → others ≡ drop n rest → job ≡ job_of group → new ≡ old ++ with_work (job ∷ []) → old ++ jobs_cut rest ≡ all → new ++ jobs_cut others ≡ all
next_job rest group others job n old new all some e front back is more h =
    let cut = first_job rest some in
    let j : job ≡ job_of (take (group_len rest) rest) = is ∙ ap job_of front ∙ ap (λ (k : ℕ). job_of (take k rest)) e in
    let o : others ≡ drop (group_len rest) rest = back ∙ ap (λ (k : ℕ). drop k rest) e in
    ap (λ (js : List Job). js ++ jobs_cut others) more ∙ append_assoc old (with_work (job ∷ [])) (jobs_cut others)
    ∙ ap (λ (js : List Job). old ++ js) (ap (λ (k : Job). with_work (k ∷ []) ++ jobs_cut others) j ∙ ap (λ (ss : List Stretch). with_work (job_of (take (group_len rest) rest) ∷ []) ++ jobs_cut ss) o ∙ sym cut)
    ∙ h

pub none_cut : (rest : List Stretch) (jobs all : List Job) → length rest ≡ 0 → jobs ++ jobs_cut rest ≡ all → jobs ≡ all
unfolding stretches_cut
none_cut [] jobs all e h = sym (append-nil jobs) ∙ h
none_cut (s ∷ ss) jobs all e h = absurd (omega (arith, e))
