-- Calls under their numbers.
use Rattle.std.proofs.Common.{◌≡◌, ℕ, suc, ◌+◌, ◌-◌, ◌<◌, ◌≤◌, List, [], ◌∷◌, ◌++◌, length, get_or, drop, refl, sym, ap, subst, ◌∙◌, arith, append_assoc, append-nil, length-append}
use Rattle.std.proofs.lemmas.List.{drop_more, drop_all}
use Rattle.domain_run.specs.declared.call.Call.{Call}
use Rattle.domain_run.specs.declared.call.Call.TheVariants.{Advance}
use Rattle.calls_text.specs.declared.section.Entry.{Entry}
use Rattle.tasks_text.specs.declared.task.Task.{Task}
use Rattle.recorded_jobs.specs.declared.job.Release.{Release}
use Rattle.recorded_workload.specs.Workload.{admit_of, admits_from, full_advances, workload_entry, numbered_from}
use Rattle.recorded_workload.proofs.Walks.{Jobs, lists}

pub numbered_len : (n : ℕ) (calls : List Call) → length (numbered_from n calls) ≡ length calls
unfolding numbered_from
numbered_len n [] = refl
numbered_len n (c ∷ calls) = ap suc (numbered_len (n + 1) calls)

pub numbered_append : (n : ℕ) (a b : List Call) → numbered_from n (a ++ b) ≡ numbered_from n a ++ numbered_from (n + length a) b
unfolding numbered_from
numbered_append n [] b = ap (λ (k : ℕ). numbered_from k b) (omega arith)
numbered_append n (c ∷ a) b =
    ap (λ (es : List Entry). workload_entry n c ∷ es) (numbered_append (n + 1) a b ∙ ap (λ (k : ℕ). numbered_from (n + 1) a ++ numbered_from k b) (omega arith))

-- calls that were added, and those that follow
pub calls_more : (old new all : List Entry) (added rest : List Call) → new ≡ old ++ numbered_from (length old) added → old ++ numbered_from (length old) (added ++ rest) ≡ all → new ++ numbered_from (length new) rest ≡ all
calls_more old new all added rest more h =
    let long : length new ≡ length old + length added = ap length more ∙ length-append old (numbered_from (length old) added) ∙ ap (λ (k : ℕ). length old + k) (numbered_len (length old) added) in
    ap (λ (k : ℕ). new ++ numbered_from k rest) long ∙ ap (λ (es : List Entry). es ++ numbered_from (length old + length added) rest) more
    ∙ append_assoc old (numbered_from (length old) added) (numbered_from (length old + length added) rest)
    ∙ ap (λ (es : List Entry). old ++ es) (sym (numbered_append (length old) added rest)) ∙ h

pub calls_done : (found all : List Entry) → found ++ numbered_from (length found) [] ≡ all → found ≡ all
unfolding numbered_from
calls_done found all h = sym (append-nil found) ∙ h

one_numbered : (n : ℕ) (call : Call) → numbered_from n (call ∷ []) ≡ workload_entry n call ∷ []
unfolding numbered_from
one_numbered n call = refl

pub advance_step : (whole i : ℕ) (rest : List Call) (old new all : List Entry) → i < whole → new ≡ old ++ workload_entry (length old) (Advance 60000000) ∷ [] → old ++ numbered_from (length old) (full_advances (whole - i) ++ rest) ≡ all → new ++ numbered_from (length new) (full_advances (whole - (i + 1)) ++ rest) ≡ all
unfolding full_advances
advance_step whole i rest old new all l more h =
    let n : whole - i ≡ suc (whole - (i + 1)) = omega (arith, l) in
    let h2 : old ++ numbered_from (length old) (full_advances (suc (whole - (i + 1))) ++ rest) ≡ all = subst (λ (k : ℕ). old ++ numbered_from (length old) (full_advances k ++ rest) ≡ all) n h in
    calls_more old new all (Advance 60000000 ∷ []) (full_advances (whole - (i + 1)) ++ rest) (more ∙ ap (λ (es : List Entry). old ++ es) (sym (one_numbered (length old) (Advance 60000000)))) h2

pub advance_last : (whole i : ℕ) (rest : List Call) (old new all : List Entry) → whole ≤ i → new ≡ old ++ numbered_from (length old) rest → old ++ numbered_from (length old) (full_advances (whole - i) ++ rest) ≡ all → new ≡ all
unfolding full_advances
advance_last whole i rest old new all l more h =
    let n : whole - i ≡ 0 = omega (arith, l) in
    let h2 : old ++ numbered_from (length old) (full_advances 0 ++ rest) ≡ all = subst (λ (k : ℕ). old ++ numbered_from (length old) (full_advances k ++ rest) ≡ all) n h in
    more ∙ h2

admits_cut : (start i : ℕ) (tasks : List Task) (jobs : List Jobs) (t : Task) (d : Jobs) → i < length tasks → i < length jobs → admits_from start i (drop i tasks) (lists (drop i jobs)) ≡ admit_of start i (get_or tasks i t) (get_or jobs i d).items ++ admits_from start (i + 1) (drop (i + 1) tasks) (lists (drop (i + 1) jobs))
unfolding admits_from
admits_cut start i tasks jobs t d l m =
    ap (λ (ts : List Task). admits_from start i ts (lists (drop i jobs))) (drop_more tasks i t l)
    ∙ ap (λ (js : List Jobs). admits_from start i (get_or tasks i t ∷ drop (i + 1) tasks) (lists js)) (drop_more jobs i d m)

pub admits_step : (start i : ℕ) (tasks : List Task) (jobs : List Jobs) (t : Task) (v : Jobs) (old new all : List Entry) → t ≡ get_or tasks i t → v ≡ get_or jobs i v → i < length tasks → i < length jobs → new ≡ old ++ numbered_from (length old) (admit_of start i t v.items) → old ++ numbered_from (length old) (admits_from start i (drop i tasks) (lists (drop i jobs))) ≡ all → new ++ numbered_from (length new) (admits_from start (i + 1) (drop (i + 1) tasks) (lists (drop (i + 1) jobs))) ≡ all
admits_step start i tasks jobs t v old new all task_read read l m more h =
    let here : admit_of start i t v.items ≡ admit_of start i (get_or tasks i t) (get_or jobs i v).items = ap (λ (u : Task). admit_of start i u v.items) task_read ∙ ap (λ (u : Jobs). admit_of start i (get_or tasks i t) u.items) read in
    calls_more old new all (admit_of start i (get_or tasks i t) (get_or jobs i v).items) (admits_from start (i + 1) (drop (i + 1) tasks) (lists (drop (i + 1) jobs)))
    (more ∙ ap (λ (cs : List Call). old ++ numbered_from (length old) cs) here)
    (ap (λ (cs : List Call). old ++ numbered_from (length old) cs) (sym (admits_cut start i tasks jobs t v l m)) ∙ h)

pub admits_none : (start i : ℕ) (tasks : List Task) (jobs : List (List Release)) (found all : List Entry) → length tasks ≤ i → found ++ numbered_from (length found) (admits_from start i (drop i tasks) jobs) ≡ all → found ≡ all
unfolding admits_from
admits_none start i tasks jobs found all l h =
    calls_done found all (ap (λ (ts : List Task). found ++ numbered_from (length found) (admits_from start i ts jobs)) (sym (drop_all i tasks l)) ∙ h)
