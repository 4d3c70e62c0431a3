-- Whoever was admitted keeps the name: an admission of the same number is refused.
use Rattle.std.proofs.Common.{◌≡◌, ℕ, zero, suc, Bool, true, false, cond, eqb, leb, ltb, ◌+◌, ◌||◌, List, [], ◌∷◌, length, refl, sym, ap, ◌∙◌, subst, arith}
use Rattle.std.specs.List.{list_any}
use Rattle.std.proofs.lemmas.Bool.{eqb-true}
use Rattle.attr_check.specs.ParamsView.{ParamsView}
use Rattle.attr_check.specs.Ratio.{cap}
use Rattle.domain_run.specs.declared.call.Call.{Call}
use Rattle.domain_run.specs.declared.call.Call.TheVariants.{Admit, Regrade, Wake, Leave, Advance, Limit, Depart, Arrive}
use Rattle.domain_run.specs.declared.call.Reply.{Reply}
use Rattle.domain_run.specs.declared.call.Reply.TheVariants.{Admitted, Full, Twice, Busy}
use Rattle.domain_run.specs.Domain.{Domain}
use Rattle.domain_run.specs.Tick.{sum_of, ticked, ticks}
use Rattle.domain_run.specs.Switch.{Switch}
use Rattle.domain_run.specs.Passing.{with_past}
use Rattle.domain_run.proofs.CallerLemmas.{after_call_after, with_number_contains}
use Rattle.domain_run.specs.Run.{after_calls}
use Rattle.domain_run.specs.Calls.{admit_reply, reply_to, is_refusal, after_granted, after_call}
use Rattle.domain_run.specs.Sound.{IsAdmitted}
use Rattle.calls_trace.specs.Replay.{with_name, named_by, names_after, names_of}

-- ticks admit nobody
ticks_used : (k : ℕ) (d : Domain) → (ticks k d).used ≡ d.used
ticks_used zero d = refl
ticks_used (suc k) d = ticks_used k d

or_true : (a b : Bool) → b ≡ true → (a || b) ≡ true
or_true true b e = refl
or_true false b e = e

either_used : (b : Bool) (d e : Domain) (n : ℕ) → IsAdmitted d.used n → IsAdmitted e.used n → IsAdmitted (cond b d e).used n
either_used true d e n old new = old
either_used false d e n old new = new

-- whoever was admitted, was admitted after a call
pub used_after : (d : Domain) (c : Call) (n : ℕ) → IsAdmitted d.used n → IsAdmitted (after_call d c).used n
used_after d (Admit number name params delay script) n there =
    let more : IsAdmitted (after_granted d (Admit number name params delay script)).used n = with_number_contains number n d.used ∙ or_true (eqb number n) _ there in
    either_used (is_refusal (reply_to d (Admit number name params delay script))) d (after_granted d (Admit number name params delay script)) n there more
used_after d (Regrade number params word) n there = either_used (is_refusal (reply_to d (Regrade number params word))) d (after_granted d (Regrade number params word)) n there there
used_after d (Wake number) n there = either_used (is_refusal (reply_to d (Wake number))) d (after_granted d (Wake number)) n there there
used_after d (Leave number) n there = either_used (is_refusal (reply_to d (Leave number))) d (after_granted d (Leave number)) n there there
used_after d (Advance k) n there = subst (λ (used : List ℕ). IsAdmitted used n) (sym (ticks_used k d)) there
used_after d (Limit limit word) n there = either_used (is_refusal (reply_to d (Limit limit word))) d (after_granted d (Limit limit word)) n there there
used_after d (Depart number) n there = either_used (is_refusal (reply_to d (Depart number))) d (after_granted d (Depart number)) n there there
used_after d (Arrive number name params script) n there =
    let more : IsAdmitted (after_granted d (Arrive number name params script)).used n = with_number_contains number n d.used ∙ or_true (eqb number n) _ there in
    either_used (is_refusal (reply_to d (Arrive number name params script))) d (after_granted d (Arrive number name params script)) n there more

either_name : (b : Bool) (names more : ℕ → List ℕ) (n : ℕ) → more n ≡ names n → (cond b names more) n ≡ names n
either_name true names more n e = refl
either_name false names more n e = e

-- an admission of a number that was admitted is refused
refused_twice : (a t c : Bool) (sum : ℕ) (names more : ℕ → List ℕ) (n : ℕ) → t ≡ true → (cond (is_refusal (cond a Full (cond t Twice (cond c (Busy sum) Admitted)))) names more) n ≡ names n
refused_twice true t c sum names more n e = refl
refused_twice false true c sum names more n e = refl
refused_twice false false c sum names more n e = absurd cc

admission_keeps : (d : Domain) (number : ℕ) (name : List ℕ) (params : ParamsView) (names : ℕ → List ℕ) (n : ℕ) → IsAdmitted d.used n
    → (cond (is_refusal (admit_reply d number params)) names (with_name names number name)) n ≡ names n
admission_keeps d number name params names n there =
    elim (eqb n number) as (λ b. eqb n number ≡ b → (cond (is_refusal (admit_reply d number params)) names (with_name names number name)) n ≡ names n) [
      | true ↦ λ e.
          let same : n ≡ number = eqb-true n number e in
          let twice : list_any (λ m. eqb m number) d.used ≡ true = subst (λ (k : ℕ). list_any (λ m. eqb m k) d.used ≡ true) same there in
          refused_twice (leb 256 (length d.tasks)) (list_any (λ m. eqb m number) d.used) (ltb (cap d.cpus d.limit) (sum_of d.tasks + params.bw)) (sum_of d.tasks) names (with_name names number name) n twice
      | false ↦ λ e. either_name (is_refusal (admit_reply d number params)) names (with_name names number name) n (ap (λ b. cond b name (names n)) e)
    ] refl

kept_after : (d : Domain) (c : Call) (names : ℕ → List ℕ) (n : ℕ) → IsAdmitted d.used n → names_after d c names n ≡ names n
kept_after d (Admit number name params delay script) names n there = admission_keeps d number name params names n there
kept_after d (Regrade number params word) names n there = either_name (is_refusal (reply_to d (Regrade number params word))) names names n refl
kept_after d (Wake number) names n there = either_name (is_refusal (reply_to d (Wake number))) names names n refl
kept_after d (Leave number) names n there = either_name (is_refusal (reply_to d (Leave number))) names names n refl
kept_after d (Advance k) names n there = refl
kept_after d (Limit limit word) names n there = either_name (is_refusal (reply_to d (Limit limit word))) names names n refl
kept_after d (Depart number) names n there = either_name (is_refusal (reply_to d (Depart number))) names names n refl
kept_after d (Arrive number name params script) names n there = admission_keeps d number name params names n there

-- whoever was admitted keeps the name, whatever calls come
pub names_kept : (d : Domain) (cs : List Call) (names : ℕ → List ℕ) (n : ℕ) → IsAdmitted d.used n → names_of d cs names n ≡ names n
names_kept d [] names n there = refl
names_kept d (c ∷ cs) names n there = names_kept (after_call d c) cs (names_after d c names) n (used_after d c n there) ∙ kept_after d c names n there

-- nor do names depend on the switches that were
pub reply_after : (past : List Switch) (d : Domain) (c : Call) → reply_to (with_past past d) c ≡ reply_to d c
reply_after past d (Admit number name params delay script) = refl
reply_after past d (Regrade number params word) = refl
reply_after past d (Wake number) = refl
reply_after past d (Leave number) = refl
reply_after past d (Advance k) = refl
reply_after past d (Limit limit word) = refl
reply_after past d (Depart number) = refl
reply_after past d (Arrive number name params script) = refl

pub names_later : (past : List Switch) (d : Domain) (cs : List Call) (names : ℕ → List ℕ) → names_of (with_past past d) cs names ≡ names_of d cs names
names_later past d [] names = refl
names_later past d (c ∷ cs) names =
    ap (λ (r : Reply). names_of (after_call (with_past past d) c) cs (cond (is_refusal r) names (named_by c names))) (reply_after past d c)
    ∙ ap (λ (e : Domain). names_of e cs (names_after d c names)) (after_call_after past d c)
    ∙ names_later past (after_call d c) cs (names_after d c names)

-- a number of ticks, and the others after them
advanced_on : (m k : ℕ) (d : Domain) → ticks k (ticks m d) ≡ ticks (m + k) d
advanced_on m zero d = let same : m ≡ m + 0 = omega arith in ap (λ n. ticks n d) same
advanced_on m (suc k) d = let next : suc (m + k) ≡ m + suc k = omega arith in ap ticked (advanced_on m k d) ∙ ap (λ n. ticks n d) next

pub rest_advanced : (made left : ℕ) (d : Domain) (cs : List Call) → after_calls d (Advance (made + left) ∷ cs) ≡ after_calls (ticks made d) (Advance left ∷ cs)
rest_advanced made left d cs = ap (λ (e : Domain). after_calls e cs) (sym (advanced_on made left d))

pub names_advanced : (made left : ℕ) (d : Domain) (cs : List Call) (names : ℕ → List ℕ) → names_of d (Advance (made + left) ∷ cs) names ≡ names_of (ticks made d) (Advance left ∷ cs) names
names_advanced made left d cs names = ap (λ (e : Domain). names_of e cs names) (sym (advanced_on made left d))
