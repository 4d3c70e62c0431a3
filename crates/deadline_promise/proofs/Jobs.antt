-- The jobs that are over in what is logged, and the one that is under way after it.
use Rattle.std.proofs.Common.{◌≡◌, Option, List, [], ◌∷◌, ◌++◌, map, refl, sym, ap, ◌∙◌}
use Rattle.std.specs.Option.{option_to_list}
use Rattle.domain_run.specs.declared.happened.Happened.{Happened}
use Rattle.edf_pick.specs.Places.{Places}
use Rattle.domain_run.specs.Happened.{with_its_cpu}
use Rattle.run_figures.specs.declared.job.Job.{Job}
use Rattle.run_figures.specs.Jobs.{over_by, job_after, jobs_from}

abbrev pub over_in : Option Job → List Happened → List Job
over_in o [] = []
over_in o (h ∷ hs) = option_to_list (over_by h.time h.what o) ++ over_in (job_after h.time h.what o) hs

abbrev pub open_after : Option Job → List Happened → Option Job
open_after o [] = o
open_after o (h ∷ hs) = open_after (job_after h.time h.what o) hs

append_all : {X : Type 0} (xs ys zs : List X) → (xs ++ ys) ++ zs ≡ xs ++ (ys ++ zs)
append_all [] ys zs = refl
append_all (x ∷ xs) ys zs = ap (λ l. x ∷ l) (append_all xs ys zs)

pub over_more : (o : Option Job) (hs gs : List Happened) → over_in o (hs ++ gs) ≡ over_in o hs ++ over_in (open_after o hs) gs
over_more o [] gs = refl
over_more o (h ∷ hs) gs =
    let first = option_to_list (over_by h.time h.what o) in
    let next = job_after h.time h.what o in
    ap (λ l. first ++ l) (over_more next hs gs) ∙ sym (append_all first (over_in next hs) (over_in (open_after next hs) gs))

pub open_more : (o : Option Job) (hs gs : List Happened) → open_after o (hs ++ gs) ≡ open_after (open_after o hs) gs
open_more o [] gs = refl
open_more o (h ∷ hs) gs = open_more (job_after h.time h.what o) hs gs

-- all jobs are those that are over and the one under way
pub jobs_are : (o : Option Job) (hs : List Happened) → jobs_from o hs ≡ over_in o hs ++ option_to_list (open_after o hs)
jobs_are o [] = refl
jobs_are o (h ∷ hs) =
    let first = option_to_list (over_by h.time h.what o) in
    let next = job_after h.time h.what o in
    ap (λ l. first ++ l) (jobs_are next hs) ∙ sym (append_all first (over_in next hs) (option_to_list (open_after next hs)))

-- the CPU does not matter
pub over_homed : (places : Places) (o : Option Job) (hs : List Happened) → over_in o (map (with_its_cpu places) hs) ≡ over_in o hs
over_homed places o [] = refl
over_homed places o (h ∷ hs) = ap (λ l. option_to_list (over_by h.time h.what o) ++ l) (over_homed places (job_after h.time h.what o) hs)

pub open_homed : (places : Places) (o : Option Job) (hs : List Happened) → open_after o (map (with_its_cpu places) hs) ≡ open_after o hs
open_homed places o [] = refl
open_homed places o (h ∷ hs) = open_homed places (job_after h.time h.what o) hs
