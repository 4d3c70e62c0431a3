-- The rows of a table, one after the other.
use Rattle.std.proofs.Common.{◌≡◌, ℕ, ◌+◌, ◌-◌, ◌<◌, ◌≤◌, true, List, [], ◌∷◌, ◌++◌, length, get_or, take, drop, map, sym, ap, ◌∙◌, arith, append_assoc, append-nil}
use Rattle.std.specs.declared.vec.Vec.{Vec}
use Rattle.std.specs.Global.{Global}
use Rattle.std.proofs.lemmas.List.{drop_more, drop_all, length-take, length-drop}
use Rattle.draft.specs.Draft.{DraftView, Adds}
use Rattle.recorded_jobs.specs.declared.job.Release.{Release}
use Rattle.tasks_text.specs.declared.task.Task.{Task}
use Rattle.recorded_table.specs.Table.{shown_time, distances_after, jobs_row, jobs_rows}

pub distance_more : (before : ℕ) (rs : List Release) (i : ℕ) (d : Release) (t : ℕ) (old new all : List ℕ) → i < length rs → t ≡ shown_time ((get_or rs i d).time - before) → new ≡ old ++ t ∷ [] → old ++ distances_after before (drop i rs) ≡ all → new ++ distances_after (get_or rs i d).time (drop (i + 1) rs) ≡ all
unfolding distances_after
distance_more before rs i d t old new all l is more h =
    let r = get_or rs i d in
    ap (λ (ds : List ℕ). ds ++ distances_after r.time (drop (i + 1) rs)) more
    ∙ append_assoc old (t ∷ []) (distances_after r.time (drop (i + 1) rs))
    ∙ ap (λ (n : ℕ). old ++ n ∷ distances_after r.time (drop (i + 1) rs)) is
    ∙ ap (λ (rest : List Release). old ++ distances_after before rest) (sym (drop_more rs i d l)) ∙ h

pub distance_none : (before : ℕ) (rs : List Release) (i : ℕ) (found all : List ℕ) → length rs ≤ i → found ++ distances_after before (drop i rs) ≡ all → found ≡ all
unfolding distances_after
distance_none before rs i found all l h =
    sym (append-nil found) ∙ ap (λ (rest : List Release). found ++ distances_after before rest) (sym (drop_all i rs l)) ∙ h

abbrev pub Jobs : Type 0
Jobs = Vec Release Global

abbrev pub rows_on : List Task → List Jobs → List ℕ
rows_on tasks jobs = jobs_rows (map (λ t. t.name) tasks) (map (λ v. v.items) jobs)

rows_cut : (tasks : List Task) (jobs : List Jobs) (i : ℕ) (t : Task) (v : Jobs) → i < length tasks → i < length jobs → rows_on (drop i tasks) (drop i jobs) ≡ jobs_row (get_or tasks i t).name (get_or jobs i v).items ++ rows_on (drop (i + 1) tasks) (drop (i + 1) jobs)
unfolding jobs_rows
rows_cut tasks jobs i t v l m =
    ap (λ (ts : List Task). rows_on ts (drop i jobs)) (drop_more tasks i t l)
    ∙ ap (λ (js : List Jobs). rows_on (get_or tasks i t ∷ drop (i + 1) tasks) js) (drop_more jobs i v m)

pub rows_more : (tasks : List Task) (jobs : List Jobs) (i : ℕ) (t : Task) (v : Jobs) (start old new : DraftView) (all : List ℕ) → t ≡ get_or tasks i t → v ≡ get_or jobs i v → i < length tasks → i < length jobs → Adds old new (jobs_row t.name v.items)
    → (old.whole ≡ true → (start.whole ≡ true) × (old.text ++ rows_on (drop i tasks) (drop i jobs) ≡ all))
    → new.whole ≡ true → (start.whole ≡ true) × (new.text ++ rows_on (drop (i + 1) tasks) (drop (i + 1) jobs) ≡ all)
rows_more tasks jobs i t v start old new all task_read read l m adds h whole =
    let added = adds whole in
    let before = h added.0 in
    let row : jobs_row t.name v.items ≡ jobs_row (get_or tasks i t).name (get_or jobs i v).items = ap (λ (u : Task). jobs_row u.name v.items) task_read ∙ ap (λ (u : Jobs). jobs_row (get_or tasks i t).name u.items) read in (
      before.0,
      ap (λ (x : List ℕ). x ++ rows_on (drop (i + 1) tasks) (drop (i + 1) jobs)) added.1
          ∙ append_assoc old.text (jobs_row t.name v.items) (rows_on (drop (i + 1) tasks) (drop (i + 1) jobs))
          ∙ ap (λ (x : List ℕ). old.text ++ (x ++ rows_on (drop (i + 1) tasks) (drop (i + 1) jobs))) row
          ∙ ap (λ (x : List ℕ). old.text ++ x) (sym (rows_cut tasks jobs i t v l m)) ∙ before.1,
    )

pub rows_none : (tasks : List Task) (jobs : List Jobs) (i : ℕ) (start old : DraftView) (all : List ℕ) → length tasks ≤ i → (old.whole ≡ true → (start.whole ≡ true) × (old.text ++ rows_on (drop i tasks) (drop i jobs) ≡ all)) → old.whole ≡ true → (start.whole ≡ true) × (old.text ≡ all)
unfolding jobs_rows
rows_none tasks jobs i start old all l h whole =
    let before = h whole in
    (before.0, sym (append-nil old.text) ∙ ap (λ (ts : List Task). old.text ++ rows_on ts (drop i jobs)) (sym (drop_all i tasks l)) ∙ before.1)

-- the numbers after the first, and it
pub tail_len : (numbers : List ℕ) → 1 ≤ length numbers → length (take (length numbers - 1) (drop 1 numbers)) + 1 ≡ length numbers
tail_len numbers some = omega (arith, some, length-take (length numbers - 1) (drop 1 numbers), length-drop 1 numbers)
