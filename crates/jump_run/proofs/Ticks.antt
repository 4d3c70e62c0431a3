-- So many ticks, and then so many more.
use Rattle.std.proofs.Common.{◌≡◌, ℕ, zero, suc, ◌+◌, List, [], ◌++◌, sym, ap, ◌∙◌, subst, arith}
use Rattle.std.proofs.lemmas.List.{append-nil, append_assoc}
use Rattle.domain_run.specs.declared.happened.Happened.{Happened}
use Rattle.domain_run.specs.Happened.{logged_by_tick, logged_by_ticks}
use Rattle.domain_run.specs.Log.{LogView, HasLogged}
use Rattle.domain_run.proofs.CallerLemmas.{logs_more}
use Rattle.domain_run.specs.Domain.{Domain}
use Rattle.domain_run.specs.Tick.{ticked, ticks}

pub ticks_more : (m k : ℕ) (d : Domain) → ticks k (ticks m d) ≡ ticks (m + k) d
ticks_more m zero d = let same : m ≡ m + 0 = omega arith in ap (λ n. ticks n d) same
ticks_more m (suc k) d = let next : suc (m + k) ≡ m + suc k = omega arith in ap ticked (ticks_more m k d) ∙ ap (λ n. ticks n d) next

-- and so is what they log
pub logged_more : (m k : ℕ) (d : Domain) → logged_by_ticks m d ++ logged_by_ticks k (ticks m d) ≡ logged_by_ticks (m + k) d
logged_more m zero d = append-nil (logged_by_ticks m d) ∙ (let same : m ≡ m + 0 = omega arith in ap (λ n. logged_by_ticks n d) same)
logged_more m (suc k) d =
    let next : suc (m + k) ≡ m + suc k = omega arith in
    sym (append_assoc (logged_by_ticks m d) (logged_by_ticks k (ticks m d)) (logged_by_tick (ticks k (ticks m d))))
    ∙ (λ i. logged_more m k d i ++ logged_by_tick (ticks_more m k d i))
    ∙ ap (λ n. logged_by_ticks n d) next

-- a log that was logged the ticks so far, and then those after them
pub logs_ticks : (m k : ℕ) (d e : Domain) (a b c : LogView) → e ≡ ticks m d → HasLogged a (logged_by_ticks m d) b → HasLogged b (logged_by_ticks k e) c → HasLogged a (logged_by_ticks (m + k) d) c
logs_ticks m k d e a b c is one two =
    subst (λ (hs : List Happened). HasLogged a hs c) (ap (λ (x : Domain). logged_by_ticks m d ++ logged_by_ticks k x) is ∙ logged_more m k d)
    (logs_more (logged_by_ticks m d) (logged_by_ticks k e) a b c one two)

-- and then nothing
pub logs_still : (hs : List Happened) (a b c : LogView) → HasLogged a hs b → HasLogged b [] c → HasLogged a hs c
logs_still hs a b c one two = subst (λ (gs : List Happened). HasLogged a gs c) (append-nil hs) (logs_more hs [] a b c one two)
