-- Runs collected from the last switch to the first.
use Rattle.std.proofs.Common.{◌≡◌, ℕ, zero, suc, ◌+◌, ◌<◌, ◌≤◌, ⊎_elim, List, [], ◌∷◌, ◌++◌, length, get_or, drop, Option, Some, None, refl, sym, ap, ◌∙◌, arith, subst, append-nil}
use Rattle.std.specs.Prelude.{reverse, All}
use Rattle.std.proofs.Math.ListN.{set}
use Rattle.std.specs.Option.{option_to_list}
use Rattle.std.specs.List.{cons_option}
use Rattle.std.proofs.lemmas.Bool.{cases_eq, ne_eqb, eq-eqb}
use Rattle.std.proofs.lemmas.List.{drop_more, drop_all, reverse-append, get_or-set_same, get_or-set_other}
use Rattle.recorded_text.specs.declared.step.Step.{Step}
use Rattle.trace_compare.specs.declared.run.Run.{Run}
use Rattle.trace_compare.specs.Runs.{next_time, raw_runs}
use Rattle.trace_compare.specs.private.Behind.{Lists, TakesStep, run_at, AreRunsBehind}

rev_opt : (o : Option Run) (xs : List Run) → reverse (xs ++ option_to_list o) ≡ cons_option o (reverse xs)
rev_opt None xs = ap reverse (append-nil xs)
rev_opt (Some x) xs = reverse-append xs (x ∷ [])

-- what a switch adds to the runs behind it
taken : (j : ℕ) (s : Step) (time : Option ℕ) (rest : List Step) → time ≡ next_time s.cpu rest → cons_option (run_at j s time) (raw_runs j rest) ≡ raw_runs j (s ∷ rest)
unfolding raw_runs
taken j s time rest e = ap (λ (t : Option ℕ). cons_option (run_at j s t) (raw_runs j rest)) e

read_at : (next : List (Option ℕ)) (k : ℕ) (t : Option ℕ) → k < length next → t ≡ get_or next k t → t ≡ get_or next k None
read_at [] k t l e = absurd (omega (arith, l))
read_at (x ∷ xs) zero t l e = e
read_at (x ∷ xs) (suc k) t l e = read_at xs k t (omega (arith, l)) e

here_time : (s : Step) (rest : List Step) (c : ℕ) → c ≡ s.cpu → next_time c (s ∷ rest) ≡ Some s.time
here_time s rest c e = rw (eq-eqb s.cpu c (sym e)) refl

other_time : (s : Step) (rest : List Step) (c : ℕ) → (c ≡ s.cpu → ⊥) → next_time c (s ∷ rest) ≡ next_time c rest
other_time s rest c h = rw (ne_eqb s.cpu c (λ e. h (sym e))) refl

pub behind_step : (next : List (Option ℕ)) (old new : Lists) (s : Step) (rest : List Step) (k : ℕ) (time : Option ℕ) → length next ≡ 65536 → s.cpu < 65536 → k ≡ s.cpu → time ≡ get_or next k time → TakesStep old s time new → AreRunsBehind next old rest → AreRunsBehind (set next k (Some s.time)) new (s ∷ rest)
behind_step next old new s rest k time many small is read takes h =
    let l : k < length next = omega (arith, many, small, is) in
    let told : time ≡ next_time s.cpu rest = read_at next k time l read ∙ ap (λ (c : ℕ). get_or next c None) is ∙ h.times s.cpu small in
    record {
      times = λ c lt. ⊎_elim
          (λ same. ap (λ (x : ℕ). get_or (set next k (Some s.time)) x None) (same ∙ sym is) ∙ get_or-set_same next k (Some s.time) None l ∙ sym (here_time s rest c same))
          (λ other. get_or-set_other next k c (Some s.time) None (λ e. other (e ∙ is)) ∙ h.times c lt ∙ sym (other_time s rest c other))
          (cases_eq c s.cpu);
      lists = λ j d lt.
          let inside : j < length old = omega (arith, lt, takes.same_len) in
          ap reverse (takes.each j d inside) ∙ rev_opt (run_at j s time) (get_or old j d).items
          ∙ ap (cons_option (run_at j s time)) (h.lists j d inside) ∙ taken j s time rest told;
    }

pub none_behind : (next : List (Option ℕ)) (runs : Lists) (steps : List Step) (i : ℕ) → length next ≡ 65536 → All (λ t. t ≡ None) next → All (λ rs. rs.items ≡ []) runs → length steps ≤ i → AreRunsBehind next runs (drop i steps)
unfolding raw_runs
none_behind next runs steps i many none empty l =
    subst (λ (ss : List Step). AreRunsBehind next runs ss) (sym (drop_all i steps l)) (record {
      times = λ c lt. none c None (omega (arith, many, lt));
      lists = λ j d lt. ap reverse (empty j d lt);
    })

pub one_behind : (next : List (Option ℕ)) (runs : Lists) (steps : List Step) (i : ℕ) (d : Step) → i < length steps → AreRunsBehind next runs (get_or steps i d ∷ drop (i + 1) steps) → AreRunsBehind next runs (drop i steps)
one_behind next runs steps i d l h = subst (λ (ss : List Step). AreRunsBehind next runs ss) (sym (drop_more steps i d l)) h
