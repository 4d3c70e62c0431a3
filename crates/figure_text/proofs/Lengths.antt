-- How long the lines of jobs are at most.
use Rattle.std.proofs.Common.{◌≡◌, ℕ, zero, suc, ◌+◌, ◌-◌, ◌*◌, ◌<◌, ◌≤◌, ◌^◌, pos, ◌-ℤ◌, List, [], ◌∷◌, ◌++◌, length, replicate, Option, Some, None, arith, length-append, min, sym, ap, ◌∙◌, refl, get_or, take, append-nil, Bool, true, false}
use Rattle.std.specs.Prelude.{flat_map, codes, decimal, All, IfSome}
use Rattle.std.specs.Fmt.{signed_decimal}
use Rattle.itoa.proofs.Decimal.{signed_wide}
use Rattle.std.proofs.lemmas.Int.{ints}
use Rattle.std.proofs.lemmas.Fmt.{length-decimal-le}
use Rattle.std.proofs.lemmas.List.{length-replicate, take_more, take_all}
use Rattle.std.proofs.lemmas.Grind.{flat_map-append}
use Rattle.std.specs.Bool.{OnTrue}
use Rattle.std.specs.List.{sum_by}
use Rattle.std.proofs.lemmas.List.Sums.{sum_by_push}
use Rattle.std.proofs.lemmas.List.Elements.{All-head, All-tail}
use Rattle.std.proofs.Math.Nat.{suc-mul, mul-le-mul_left}
use Rattle.draft.specs.Columns.{right, column}
use Rattle.run_figures.specs.declared.job.Job.{Job}
use Rattle.run_figures.specs.WideJobs.{IsWide}
use Rattle.run_figures.specs.Lines.{numbered_lines}
use Rattle.figure_text.specs.Columns.{pid}
use Rattle.figure_text.specs.Jobs.{end_columns, job_name, job_line, job_header}

right_short : (width : ℕ) (text : List ℕ) (most : ℕ) → length text ≤ most → length (right width text) ≤ width + most
right_short width text most few =
    omega (arith, few, length-append (replicate (width - length text) 32) text, length-replicate {A = ℕ} (width - length text) 32)

column_short : (width : ℕ) (text : List ℕ) (most : ℕ) → length text ≤ most → length (column width text) ≤ width + most + 1
column_short width text most few = omega (arith, right_short width text most few)

decimal_short : (n : ℕ) → n < 2 ^ 64 → length (decimal n) ≤ 20
decimal_short n small = length-decimal-le 20 n (omega arith) (omega (arith, small)) small

signed_short : (a b : ℕ) → a < 2 ^ 64 → b < 2 ^ 64 → length (signed_decimal (pos a -ℤ pos b)) ≤ 40
signed_short a b wide small = (signed_wide (pos a -ℤ pos b) (omega (arith, ints))).1

number_short : (width n : ℕ) → n < 2 ^ 64 → length (column width (decimal n)) ≤ width + 21
number_short width n small = omega (arith, column_short width (decimal n) 20 (decimal_short n small))

end_short : (j : Job) (ended : Option ℕ) → IsWide j → IfSome ended (λ end. end < 2 ^ 64) → length (end_columns j ended) ≤ 118
end_short j None wide small =
    let dash = column_short 11 (codes "-") 1 (omega arith) in
    omega (arith, dash, length-append (column 11 (codes "-")) (column 11 (codes "-") ++ column 11 (codes "-")), length-append (column 11 (codes "-")) (column 11 (codes "-")))
end_short j (Some end) wide small =
    let slack = column 11 (signed_decimal (pos j.deadline -ℤ pos end)) in
    let response = column 11 (decimal (end - j.release)) in
    let one = number_short 11 end small in
    let two = number_short 11 (end - j.release) (omega (arith, small)) in
    let three = column_short 11 (signed_decimal (pos j.deadline -ℤ pos end)) 40 (signed_short j.deadline end wide.deadline small) in
    omega (arith, one, two, three, length-append (column 11 (decimal end)) (response ++ slack), length-append response slack)

pub line_short : (name : List ℕ) (number place : ℕ) (j : Job) → number < 2 ^ 32 → place < 2 ^ 64 → IsWide j → length (job_line name number place j) ≤ 256 + length name
line_short name number place j few early wide =
    let head = column 6 (pid number) ++ column 6 (decimal place) in
    let last = column 9 (decimal j.throttled) ++ codes "\n" in
    let ended = end_columns j j.ended in
    let a = right_short 15 name (length name) (omega arith) in
    let b = number_short 6 (1000 + number) (omega (arith, few)) in
    let c = number_short 6 place early in
    let d = number_short 11 j.release wide.release in
    let e = end_short j j.ended wide wide.ended in
    let f = number_short 9 j.throttled wide.throttled in
    let all = length-append (job_name name number place) (column 11 (decimal j.release) ++ (ended ++ last)) in
    let one = length-append (right 15 name) head in
    let two = length-append (column 6 (pid number)) (column 6 (decimal place)) in
    let three = length-append (column 11 (decimal j.release)) (ended ++ last) in
    let four = length-append ended last in
    let five = length-append (column 9 (decimal j.throttled)) (codes "\n") in
    omega (arith, a, b, c, d, e, f, all, one, two, three, four, five)

pub lines_short : (name : List ℕ) (number : ℕ) (js : List Job) (n : ℕ) → number < 2 ^ 32 → n + length js ≤ 2 ^ 64 → All IsWide js → length (numbered_lines (job_line name number) n js) ≤ length js * (256 + length name)
lines_short name number [] n few early wide = omega arith
lines_short name number (j ∷ js) n few early wide =
    let one = line_short name number n j few (omega (arith, early)) (All-head IsWide j js wide) in
    let rest = lines_short name number js (n + 1) few (omega (arith, early)) (All-tail IsWide j js wide) in
    omega (arith, one, rest, suc-mul (length js) (256 + length name), length-append (job_line name number n j) (numbered_lines (job_line name number) (n + 1) js))

-- ---- their sums, where the greatest number stands for any above it

pub task_most : (count was_started most jobs name : ℕ) → count ≡ jobs → was_started ≡ min (256 + name) (2 ^ 64 - 1) → most ≡ min (count * was_started) (2 ^ 64 - 1) → most < 2 ^ 64 - 1 → jobs * (256 + name) ≤ most
task_most zero was_started most jobs name same line all small =
    let none : jobs * (256 + name) ≡ 0 = ap (λ (n : ℕ). n * (256 + name)) (sym same) ∙ omega arith in
    omega (arith, none)
task_most (suc k) was_started most jobs name same line all small =
    let product : most ≡ suc k * was_started = least_below (suc k * was_started) most (2 ^ 64 - 1) all small in
    let whole : was_started ≡ 256 + name = omega (arith, line, product, suc-mul k was_started, small) in
    let is : jobs * (256 + name) ≡ suc k * was_started = (λ i. sym same i * sym whole i) in
    omega (arith, is, product)
  where
    least_below : (n r m : ℕ) → r ≡ min n m → r < m → r ≡ n
    least_below n r m is small = omega (arith, is, small)

pub usual_most : (count was_started most jobs name : ℕ) → count ≡ jobs → was_started ≡ min (256 + name) (2 ^ 64 - 1) → most ≡ min (count * was_started) (2 ^ 64 - 1) → name ≤ 256 → most ≤ 512 * jobs
usual_most count was_started most jobs name same line all short =
    let few : was_started ≤ 512 = omega (arith, line, short) in
    let product : count * was_started ≤ count * 512 = mul-le-mul_left count few in
    let below : most ≤ count * was_started = least_within (count * was_started) most (2 ^ 64 - 1) all in
    omega (arith, below, product, same)
  where
    least_within : (n r m : ℕ) → r ≡ min n m → r ≤ n
    least_within n r m is = omega (arith, is)

pub one_more_sum : {X : Type 0} (f : X → ℕ) (xs : List X) (i : ℕ) (x : X) → i < length xs → x ≡ get_or xs i x → sum_by f (take (i + 1) xs) ≡ sum_by f (take i xs) + f x
one_more_sum f xs i x inside is =
    ap (sum_by f) (take_more xs i x inside ∙ ap (λ y. take i xs ++ y ∷ []) (sym is)) ∙ sum_by_push f (take i xs) x

pub one_more_piece : {X : Type 0} (f : X → List ℕ) (xs : List X) (i : ℕ) (x : X) → i < length xs → x ≡ get_or xs i x → length (flat_map f (take (i + 1) xs)) ≡ length (flat_map f (take i xs)) + length (f x)
one_more_piece f xs i x inside is =
    ap (λ (ys : List _). length (flat_map f ys)) (take_more xs i x inside ∙ ap (λ y. take i xs ++ y ∷ []) (sym is))
    ∙ ap length (flat_map-append f (take i xs) (x ∷ []) ∙ ap (λ (ys : List ℕ). flat_map f (take i xs) ++ ys) (append-nil (f x)))
    ∙ length-append (flat_map f (take i xs)) (f x)

pub all_pieces : {X : Type 0} (f : X → List ℕ) (xs : List X) (i : ℕ) → length xs ≤ i → flat_map f (take i xs) ≡ flat_map f xs
all_pieces f xs i over = ap (flat_map f) (take_all i xs over)

pub on_true : {P : Type 0} (b : Bool) → (b ≡ true → P) → OnTrue b P
on_true true p = p refl
on_true false p = tt

pub header_and : (lines : List ℕ) (most : ℕ) → 88 + length lines ≤ most → most < 2 ^ 64 - 1 → length (job_header ++ lines) < 2 ^ 64
header_and lines most all small =
    let header : length job_header ≡ 88 = refl in
    omega (arith, length-append job_header lines, header, all, small)
