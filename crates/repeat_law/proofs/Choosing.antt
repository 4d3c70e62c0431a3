-- Who runs where is the same if every deadline is later.
use Rattle.std.proofs.Common.{◌≡◌, ℕ, zero, suc, ◌+◌, cond, ◌||◌, ◌&&◌, ltb, eqb, Option, Some, None, List, map, refl, ◌∙◌}
use Rattle.std.specs.Prelude.{option_map}
use Rattle.edf_pick.specs.declared.candidate.Candidate.{Candidate}
use Rattle.edf_pick.specs.Choice.{is_before, rank, is_chosen, candidate_at_rank}
use Rattle.edf_pick.specs.Places.{Places, is_chosen_number, kept_if_chosen, assigned_if, assigned_upto, placed}
use Rattle.repeat_law.proofs.Lists.{map_same, find_over, any_over, count_over, lt_later, eq_later}

abbrev pub later_candidate : ℕ → Candidate → Candidate
later_candidate k c = record c { deadline = c.deadline + k }

before_later : (k : ℕ) (a b : Candidate) → is_before (later_candidate k a) (later_candidate k b) ≡ is_before a b
before_later k a b =
    let l = lt_later a.deadline b.deadline k in
    let e = eq_later a.deadline b.deadline k in
    λ i. l i || (e i && ltb a.number b.number)

abbrev all_later : ℕ → List Candidate → List Candidate
all_later k ready = map (later_candidate k) ready

rank_later : (k : ℕ) (ready : List Candidate) (c : Candidate) → rank (all_later k ready) (later_candidate k c) ≡ rank ready c
rank_later k ready c = count_over (later_candidate k) (λ a. is_before a c) (λ a. is_before a (later_candidate k c)) (λ a. before_later k a c) ready

chosen_later : (k cpus : ℕ) (ready : List Candidate) (c : Candidate) → is_chosen cpus (all_later k ready) (later_candidate k c) ≡ is_chosen cpus ready c
chosen_later k cpus ready c = let r = rank_later k ready c in λ i. ltb (r i) cpus

at_rank_later : (k : ℕ) (ready : List Candidate) (r : ℕ) → candidate_at_rank (all_later k ready) r ≡ option_map (later_candidate k) (candidate_at_rank ready r)
at_rank_later k ready r =
    find_over (later_candidate k) (λ c. eqb (rank ready c) r) (λ c. eqb (rank (all_later k ready) c) r)
    (λ c. let e = rank_later k ready c in λ i. eqb (e i) r) ready

number_later : (k cpus : ℕ) (ready : List Candidate) (n : ℕ) → is_chosen_number cpus (all_later k ready) n ≡ is_chosen_number cpus ready n
number_later k cpus ready n =
    any_over (later_candidate k) (λ c. eqb c.number n && is_chosen cpus ready c) (λ c. eqb c.number n && is_chosen cpus (all_later k ready) c)
    (λ c. let e = chosen_later k cpus ready c in λ i. eqb c.number n && e i) ready

kept_later : (k cpus : ℕ) (ready : List Candidate) (o : Option ℕ) → kept_if_chosen cpus (all_later k ready) o ≡ kept_if_chosen cpus ready o
kept_later k cpus ready None = refl
kept_later k cpus ready (Some n) = let e = number_later k cpus ready n in λ i. cond {A = Option ℕ} (e i) (Some n) None

seated_if_later : (k : ℕ) (places : Places) (o : Option Candidate) → assigned_if places (option_map (later_candidate k) o) ≡ assigned_if places o
seated_if_later k places None = refl
seated_if_later k places (Some c) = refl

seated_upto_later : (k : ℕ) (ready : List Candidate) (places : Places) (r : ℕ) → assigned_upto (all_later k ready) places r ≡ assigned_upto ready places r
seated_upto_later k ready places zero = refl
seated_upto_later k ready places (suc r) =
    let before = seated_upto_later k ready places r in
    let next = at_rank_later k ready r in
    (λ i. assigned_if (before i) (next i)) ∙ seated_if_later k (assigned_upto ready places r) (candidate_at_rank ready r)

pub placed_later : (k cpus : ℕ) (ready : List Candidate) (before : Places) → placed cpus (map (later_candidate k) ready) before ≡ placed cpus ready before
placed_later k cpus ready before =
    let kept = map_same (kept_if_chosen cpus (all_later k ready)) (kept_if_chosen cpus ready) (kept_later k cpus ready) before in
    (λ i. assigned_upto (all_later k ready) (kept i) cpus)
    ∙ seated_upto_later k ready (map (kept_if_chosen cpus ready) before) cpus
