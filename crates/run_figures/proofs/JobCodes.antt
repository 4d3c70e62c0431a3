-- What is read from the code of a job is the job.
use Rattle.std.proofs.Common.{◌≡◌, ℕ, zero, suc, ◌+◌, ◌<◌, ◌≤◌, ◌^◌, Bool, true, false, cond, nat_eq, List, [], ◌∷◌, ◌++◌, length, refl, sym, ap, ◌∙◌, subst, arith, Option, Some, None, length-append, append-nil}
use Rattle.std.specs.Prelude.{All, IfSome}
use Rattle.std.specs.Option.{option_map, option_to_list}
use Rattle.std.proofs.lemmas.List.{append_assoc}
use Rattle.std.proofs.lemmas.List.Elements.{All-head, All-tail, All-append, All-cons}
use Rattle.run_figures.specs.declared.job.Job.{Job}
use Rattle.run_figures.specs.declared.job_codes.Before.{Before}
use Rattle.run_figures.specs.declared.job_codes.Parts.{Parts}
use Rattle.run_figures.specs.WideJobs.{IsWide}
use Rattle.run_figures.specs.private.JobCodes.{wrapped_distance, wrapped_by, no_job, before_of, unless_same, parts_of, or_usual, job_by, marks_of, code_of, number_read, rest_if, after_code, parts_read, job_read, read_jobs, jobs_coded, codes_of, before_after, AreCodes, AreCodesKept}

-- ---- distances

pub there : (from to : ℕ) → from < 2 ^ 64 → to < 2 ^ 64 → wrapped_by from (wrapped_distance from to) ≡ to
there from to small wide = omega (arith, small, wide)

pub usual_back : (usual n : ℕ) → or_usual usual (unless_same usual n) ≡ n
usual_back usual n = by (nat_eq n usual) refl
  where
    by : (c : Bool) → nat_eq n usual ≡ c → or_usual usual (cond c None (Some n)) ≡ n
    by true same = grind (arith, same)
    by false other = refl

pub ended_back : (release : ℕ) (ended : Option ℕ) → release < 2 ^ 64 → IfSome ended (λ end. end < 2 ^ 64) → option_map (wrapped_by release) (option_map (wrapped_distance release) ended) ≡ ended
ended_back release None small wide = refl
ended_back release (Some end) small wide = ap Some (there release end small wide)

-- ---- parts

pub job_back : (b : Before) (j : Job) → b.release < 2 ^ 64 → IsWide j → job_by b (parts_of b j) ≡ j
job_back b j small wide =
    let release = there b.release j.release small wide.release in
    let deadline : wrapped_by (wrapped_by b.release (wrapped_distance b.release j.release)) (or_usual b.span (unless_same b.span (wrapped_distance j.release j.deadline))) ≡ j.deadline =
    (λ i. wrapped_by (release i) (usual_back b.span (wrapped_distance j.release j.deadline) i)) ∙ there j.release j.deadline wide.release wide.deadline in
    let ended : option_map (wrapped_by (wrapped_by b.release (wrapped_distance b.release j.release))) (option_map (wrapped_distance j.release) j.ended) ≡ j.ended =
    ap (λ (r : ℕ). option_map (wrapped_by r) (option_map (wrapped_distance j.release) j.ended)) release ∙ ended_back j.release j.ended wide.release wide.ended in
    let throttled = usual_back 0 j.throttled in
    λ i. record { release = release i; deadline = deadline i; ended = ended i; throttled = throttled i; cut = j.cut }

-- ---- codes

-- a code without its marks
abbrev pub after_marks : Parts → List ℕ
after_marks p = p.step ∷ ((option_to_list p.span ++ option_to_list p.took) ++ option_to_list p.throttled)

abbrev pub parts : Bool → ℕ → Option ℕ → Option ℕ → Option ℕ → Parts
parts cut step span took throttled = record { cut = cut; step = step; span = span; took = took; throttled = throttled }

-- read back, and what follows is left
pub record IsReadBack (p : Parts) (more : List ℕ) : Type 0 where
  pub parts : parts_read (marks_of p) (after_marks p ++ more) ≡ p
  pub left : after_code (marks_of p) (after_marks p ++ more) ≡ more

read_back_from : (cut : Bool) (step : ℕ) (span took throttled : Option ℕ) (more : List ℕ) → IsReadBack (parts cut step span took throttled) more
read_back_from true step None None None more = record { parts = refl; left = refl }
read_back_from true step None None (Some n) more = record { parts = refl; left = refl }
read_back_from true step None (Some t) None more = record { parts = refl; left = refl }
read_back_from true step None (Some t) (Some n) more = record { parts = refl; left = refl }
read_back_from true step (Some s) None None more = record { parts = refl; left = refl }
read_back_from true step (Some s) None (Some n) more = record { parts = refl; left = refl }
read_back_from true step (Some s) (Some t) None more = record { parts = refl; left = refl }
read_back_from true step (Some s) (Some t) (Some n) more = record { parts = refl; left = refl }
read_back_from false step None None None more = record { parts = refl; left = refl }
read_back_from false step None None (Some n) more = record { parts = refl; left = refl }
read_back_from false step None (Some t) None more = record { parts = refl; left = refl }
read_back_from false step None (Some t) (Some n) more = record { parts = refl; left = refl }
read_back_from false step (Some s) None None more = record { parts = refl; left = refl }
read_back_from false step (Some s) None (Some n) more = record { parts = refl; left = refl }
read_back_from false step (Some s) (Some t) None more = record { parts = refl; left = refl }
read_back_from false step (Some s) (Some t) (Some n) more = record { parts = refl; left = refl }

pub read_back : (p : Parts) (more : List ℕ) → IsReadBack p more
read_back p more = read_back_from p.cut p.step p.span p.took p.throttled more

-- ---- lists of jobs

pub read_codes : (js : List Job) (b : Before) (most : ℕ) → b.release < 2 ^ 64 → All IsWide js → length (codes_of b js) ≤ most → read_jobs most b (codes_of b js) ≡ js
read_codes [] b zero small wide enough = refl
read_codes [] b (suc most) small wide enough = refl
read_codes (j ∷ js) b zero small wide enough = absurd (omega (arith, enough))
read_codes (j ∷ js) b (suc most) small wide enough =
    let p = parts_of b j in
    let rest = codes_of (before_of j) js in
    let wide_one = All-head IsWide j js wide in
    let back = read_back p rest in
    let one : job_read b (marks_of p) (after_marks p ++ rest) ≡ j = ap (job_by b) back.parts ∙ job_back b j small wide_one in
    let fewer : length rest ≤ most = omega (arith, enough, length-append (code_of p) rest) in
    (λ i. one i ∷ read_jobs most (before_of (one i)) (back.left i))
    ∙ ap (λ (l : List Job). j ∷ l) (read_codes js (before_of j) most wide_one.release (All-tail IsWide j js wide) fewer)

pub codes_more : (js : List Job) (b : Before) (j : Job) → codes_of b (js ++ j ∷ []) ≡ codes_of b js ++ code_of (parts_of (before_after b js) j)
codes_more [] b j = append-nil (code_of (parts_of b j))
codes_more (k ∷ js) b j =
    ap (λ (ns : List ℕ). code_of (parts_of b k) ++ ns) (codes_more js (before_of k) j)
    ∙ sym (append_assoc (code_of (parts_of b k)) (codes_of (before_of k) js) (code_of (parts_of (before_after (before_of k) js) j)))

pub before_more : (js : List Job) (b : Before) (j : Job) → before_after b (js ++ j ∷ []) ≡ before_of j
before_more [] b j = refl
before_more (k ∷ js) b j = before_more js (before_of k) j

-- the numbers are these jobs'
pub record AreJobs (b : Before) (numbers : List ℕ) (js : List Job) : Type 0 where
  pub codes : AreCodes b numbers
  pub jobs : jobs_coded b numbers ≡ js

pub are_jobs : (js : List Job) (b : Before) (numbers : List ℕ) → b.release < 2 ^ 64 → All IsWide js → numbers ≡ codes_of b js → AreJobs b numbers js
are_jobs js b numbers small wide is =
    let jobs : jobs_coded b numbers ≡ js = ap (jobs_coded b) is ∙ read_codes js b (length (codes_of b js)) small wide (omega arith) in
    record {
      codes = record {
        before = small;
        wide = subst (All IsWide) (sym jobs) wide;
        whole = is ∙ ap (codes_of b) (sym jobs);
      };
      jobs = jobs;
    }

-- one job more
pub record IsOneMore (numbers : List ℕ) (many : ℕ) (j : Job) (more : List ℕ) : Type 0 where
  pub kept : AreCodesKept more (before_of j) (many + 1)
  pub jobs : jobs_coded no_job more ≡ jobs_coded no_job numbers ++ j ∷ []

pub one_more : (numbers : List ℕ) (end : Before) (many : ℕ) (j : Job) (more : List ℕ) → AreCodesKept numbers end many → IsWide j → more ≡ numbers ++ code_of (parts_of end j) → IsOneMore numbers many j more
one_more numbers end many j more kept wide is =
    let js = jobs_coded no_job numbers in
    let all = js ++ j ∷ [] in
    let codes : more ≡ codes_of no_job all =
    is
    ∙ (λ i. kept.codes.whole i ++ code_of (parts_of (kept.last i) j))
    ∙ sym (codes_more js no_job j) in
    let are = are_jobs all no_job more kept.codes.before (All-append IsWide js (j ∷ []) kept.codes.wide (All-cons IsWide j [] wide (λ k d within. absurd (omega (arith, within))))) codes in
    record {
      kept = record {
        codes = are.codes;
        last = sym (before_more js no_job j) ∙ ap (before_after no_job) (sym are.jobs);
        count = omega (arith, kept.count, ap length are.jobs, length-append js (j ∷ []));
      };
      jobs = are.jobs;
    }

-- the first job is read
pub one_read : (b : Before) (marks : ℕ) (ns : List ℕ) → AreCodes b (marks ∷ ns) → AreJobs (before_of (job_read b marks ns)) (after_code marks ns) (read_jobs (length ns) (before_of (job_read b marks ns)) (after_code marks ns))
one_read b marks ns codes =
    let j = job_read b marks ns in
    let js = read_jobs (length ns) (before_of j) (after_code marks ns) in
    let p = parts_of b j in
    let rest = codes_of (before_of j) js in
    let whole : marks ∷ ns ≡ code_of p ++ rest = codes.whole in
    let left : after_code marks ns ≡ rest =
    (λ i. after_code (number_read (whole i)) (rest_if true (whole i)))
    ∙ (read_back p rest).left in
    are_jobs js (before_of j) (after_code marks ns) (All-head IsWide j js codes.wide).release (All-tail IsWide j js codes.wide) left

-- each job has a number of its own
jobs_few : (js : List Job) (b : Before) → length js ≤ length (codes_of b js)
jobs_few [] b = omega arith
jobs_few (j ∷ js) b =
    let rest = jobs_few js (before_of j) in
    omega (arith, rest, length-append (code_of (parts_of b j)) (codes_of (before_of j) js))

pub jobs_countable : (b : Before) (numbers : List ℕ) (most : ℕ) → AreCodes b numbers → length numbers < most → length (jobs_coded b numbers) < most
jobs_countable b numbers most codes few =
    let jobs = jobs_few (jobs_coded b numbers) b in
    omega (arith, jobs, ap length codes.whole, few)
