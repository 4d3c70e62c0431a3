-- Lines put after one another.
use Rattle.std.proofs.Common.{◌≡◌, ℕ, suc, ◌+◌, ◌<◌, List, [], ◌∷◌, ◌++◌, length, get_or, take, map, refl, sym, ap, ◌∙◌, arith, append_assoc, append-nil}
use Rattle.std.specs.Prelude.{sum_by}
use Rattle.std.proofs.lemmas.List.{take_more, map-append, length-map, length-take-le}
use Rattle.std.proofs.lemmas.List.Sums.{sum_by-cons, sum_by_push}
use Rattle.run_figures.specs.Lines.{numbered_lines}
use Rattle.draft.specs.Draft.{DraftView, Adds}
use Rattle.draft.proofs.CallerLemmas.{joined, as_text}
use Rattle.figure_text.specs.declared.summary.DomainSummary.{DomainSummary}
use Rattle.figure_text.specs.Summary.{SummaryView, summary_view_of, cpu_rows, cpu_lines}

numbered_push : {X : Type 0} (line : ℕ → X → List ℕ) (n : ℕ) (xs : List X) (x : X) → numbered_lines line n (xs ++ x ∷ []) ≡ numbered_lines line n xs ++ line (n + length xs) x
numbered_push line n [] x =
    let e : n ≡ n + 0 = omega arith in
    append-nil (line n x) ∙ ap (λ k. line k x) e
numbered_push line n (y ∷ ys) x =
    let e : n + 1 + length ys ≡ n + suc (length ys) = omega arith in
    ap (λ t. line n y ++ t) (numbered_push line (n + 1) ys x ∙ ap (λ k. numbered_lines line (n + 1) ys ++ line k x) e)
    ∙ sym (append_assoc (line n y) (numbered_lines line (n + 1) ys) (line (n + suc (length ys)) x))

-- the line of what was read at a place, which has a number, after those of what stands before it
numbered_at : {X : Type 0} (line : ℕ → X → List ℕ) (n : ℕ) (xs : List X) (i k : ℕ) (d : X) (old before after : List ℕ) → i < length xs → k ≡ n + i → before ≡ old ++ numbered_lines line n (take i xs) → after ≡ before ++ line k (get_or xs i d) → after ≡ old ++ numbered_lines line n (take (i + 1) xs)
numbered_at line n xs i k d old before after l at b a =
    let x = get_or xs i d in
    let len : length (take i xs) ≡ i = length-take-le i xs (omega arith) in
    let here : n + length (take i xs) ≡ k = omega (arith, len, at) in
    let more : numbered_lines line n (take (i + 1) xs) ≡ numbered_lines line n (take i xs) ++ line k x =
    ap (numbered_lines line n) (take_more xs i d l) ∙ numbered_push line n (take i xs) x ∙ ap (λ m. numbered_lines line n (take i xs) ++ line m x) here in
    a ∙ ap (λ t. t ++ line k x) b ∙ append_assoc old (numbered_lines line n (take i xs)) (line k x) ∙ ap (λ t. old ++ t) (sym more)

-- the same after a draft
pub more_numbered : {X : Type 0} (line : ℕ → X → List ℕ) (n : ℕ) (xs : List X) (i k : ℕ) (d : X) (old before after : DraftView) → i < length xs → k ≡ n + i → Adds old before (numbered_lines line n (take i xs)) → Adds before after (line k (get_or xs i d)) → Adds old after (numbered_lines line n (take (i + 1) xs))
more_numbered line n xs i k d old before after l at b a whole =
    let last = a whole in
    let first = b last.0 in
    (first.0, numbered_at line n xs i k d old.text before.text after.text l at first.1 last.1)

pub numbered-map : {X Y : Type 0} (line : ℕ → Y → List ℕ) (v : X → Y) (n : ℕ) (xs : List X) → numbered_lines line n (map v xs) ≡ numbered_lines (λ k x. line k (v x)) n xs
numbered-map line v n [] = refl
numbered-map line v n (x ∷ xs) = ap (λ t. line n (v x) ++ t) (numbered-map line v (n + 1) xs)

-- THE CPUS
abbrev pub cpus_in : List SummaryView → ℕ
cpus_in domains = sum_by (λ (d : SummaryView). length d.cpus) domains

cpu_lines_push : (domain cpu : ℕ) (ds : List SummaryView) (d : SummaryView) → cpu_lines domain cpu (ds ++ d ∷ []) ≡ cpu_lines domain cpu ds ++ cpu_rows (domain + length ds) (cpu + cpus_in ds) d
cpu_lines_push domain cpu [] d =
    let a : domain ≡ domain + 0 = omega arith in
    let b : cpu ≡ cpu + 0 = omega arith in
    append-nil (cpu_rows domain cpu d) ∙ (λ i. cpu_rows (a i) (b i) d)
cpu_lines_push domain cpu (e ∷ es) d =
    let one = sum_by-cons (λ (x : SummaryView). length x.cpus) e es in
    let a : domain + 1 + length es ≡ domain + suc (length es) = omega arith in
    let b : cpu + length e.cpus + cpus_in es ≡ cpu + cpus_in (e ∷ es) = omega (arith, one) in
    ap (λ t. cpu_rows domain cpu e ++ t) (cpu_lines_push (domain + 1) (cpu + length e.cpus) es d ∙ (λ i. cpu_lines (domain + 1) (cpu + length e.cpus) es ++ cpu_rows (a i) (b i) d))
    ∙ sym (append_assoc (cpu_rows domain cpu e) (cpu_lines (domain + 1) (cpu + length e.cpus) es) (cpu_rows (domain + suc (length es)) (cpu + cpus_in (e ∷ es)) d))

-- what was put so far of the CPUs of domains
pub record ArePut (old out : DraftView) (cpu : ℕ) (ds : List SummaryView) : Type 0 where
  pub text : Adds old out (cpu_lines 0 0 ds)
  pub base : cpu ≡ cpus_in ds

-- and of one domain more
pub one_more_domain : (old before after : DraftView) (cpu : ℕ) (all : List DomainSummary) (i : ℕ) (d : DomainSummary) → i < length all → d ≡ get_or all i d → ArePut old before cpu (map summary_view_of (take i all)) → Adds before after (cpu_rows i cpu (summary_view_of d)) → ArePut old after (cpu + length d.cpus.now) (map summary_view_of (take (i + 1) all))
one_more_domain old before after cpu all i d l is put a =
    let ds = map summary_view_of (take i all) in
    let len : length ds ≡ i = length-map (take i all) summary_view_of ∙ length-take-le i all (omega arith) in
    let more : map summary_view_of (take (i + 1) all) ≡ ds ++ summary_view_of d ∷ [] =
    ap (map summary_view_of) (take_more all i d l ∙ ap (λ y. take i all ++ y ∷ []) (sym is)) ∙ map-append summary_view_of (take i all) (d ∷ []) in
    let here : cpu_rows i cpu (summary_view_of d) ≡ cpu_rows (0 + length ds) (0 + cpus_in ds) (summary_view_of d) =
    (let n : i ≡ 0 + length ds = omega (arith, len) in let c : cpu ≡ 0 + cpus_in ds = omega (arith, put.base) in λ k. cpu_rows (n k) (c k) (summary_view_of d)) in
    record {
      text = as_text old after _ _
          (ap (λ t. cpu_lines 0 0 ds ++ t) here ∙ sym (cpu_lines_push 0 0 ds (summary_view_of d)) ∙ ap (λ (xs : List SummaryView). cpu_lines 0 0 xs) (sym more))
          (joined old before after (cpu_lines 0 0 ds) (cpu_rows i cpu (summary_view_of d)) put.text a);
      base = ap (λ n. n + length d.cpus.now) put.base ∙ sym (sum_by_push (λ (x : SummaryView). length x.cpus) ds (summary_view_of d)) ∙ ap cpus_in (sym more);
    }
