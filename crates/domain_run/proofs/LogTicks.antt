-- What ticks log, at the time where they end and at the time where they begin.
use Rattle.std.proofs.Common.{◌≡◌, ◌≢◌, ℕ, zero, suc, ◌+◌, ◌-◌, ◌<◌, ◌≤◌, Bool, true, cond, List, [], ◌∷◌, ◌++◌, length, refl, sym, ap, subst, ◌∙◌, append-nil, append_assoc, arith, inl, inr}
use Rattle.std.specs.Prelude.{All, ◌⊎◌}
use Rattle.std.proofs.lemmas.Bool.{cases_lt}
use Rattle.std.proofs.lemmas.List.Elements.{All-nil, All-append, All-weaker}
use Rattle.domain_run.specs.declared.happened.Happened.{Happened}
use Rattle.domain_run.specs.Domain.{Domain}
use Rattle.domain_run.specs.Happened.{kind_rank, logged_by_beginning, logged_by_end, logged_by_tick, logged_by_ticks}
use Rattle.domain_run.specs.Log.{LogView, if_wanted, HasLogged}
use Rattle.domain_run.specs.LoggedRun.{IsLoggedUntil, IsLoggedFrom}
use Rattle.domain_run.specs.Tick.{with_tick_begun, ticked, ticks}
use Rattle.domain_run.proofs.Coming.{ticks_then}
use Rattle.domain_run.proofs.LoggedRising.{IsBeginning, IsEnd, beginning_is, ending_is}

pub time_is : (n : ℕ) (d : Domain) → (ticks n d).time ≡ d.time + n
time_is zero d = omega arith
time_is (suc n) d = omega (arith, time_is n d)

-- m ticks, and then k more
pub logged_then : (m k : ℕ) (d : Domain) → logged_by_ticks m d ++ logged_by_ticks k (ticks m d) ≡ logged_by_ticks (m + k) d
logged_then m zero d = append-nil (logged_by_ticks m d) ∙ (let same : m ≡ m + 0 = omega arith in ap (λ n. logged_by_ticks n d) same)
logged_then m (suc k) d =
    let next : suc (m + k) ≡ m + suc k = omega arith in
    sym (append_assoc (logged_by_ticks m d) (logged_by_ticks k (ticks m d)) (logged_by_tick (ticks k (ticks m d))))
    ∙ ap (λ (hs : List Happened). hs ++ logged_by_tick (ticks k (ticks m d))) (logged_then m k d) ∙ ap (λ (e : Domain). logged_by_ticks (m + k) d ++ logged_by_tick e) (ticks_then m k d) ∙ ap (λ n. logged_by_ticks n d) next

-- where some of the ticks are made
pub logged_to_come : (n made left : ℕ) (d e : Domain) (was now : List Happened) → e ≡ ticks made d → made + left ≡ n → now ≡ was ++ logged_by_ticks made d → now ++ logged_by_ticks left e ≡ was ++ logged_by_ticks n d
logged_to_come n made left d e was now is sum logged =
    ap (λ (hs : List Happened). hs ++ logged_by_ticks left e) logged ∙ append_assoc was (logged_by_ticks made d) (logged_by_ticks left e)
    ∙ ap (λ (hs : List Happened). was ++ hs) (ap (λ (x : Domain). logged_by_ticks made d ++ logged_by_ticks left x) is ∙ logged_then made left d ∙ ap (λ k. logged_by_ticks k d) sum)

-- ---- logged by the end

pub until_later : (t u : ℕ) (h : Happened) → t ≤ u → IsLoggedUntil t h → IsLoggedUntil u h
until_later t u h le is = record {
  shown = is.shown;
  past = elim is.past [ inl less ↦ by_time (omega (arith, less, le)) | inr at ↦ by_end at.0 at.1 ];
}
  where
    by_time : h.time < u → (h.time < u) ⊎ ((h.time ≡ u) × (kind_rank h.what < 3))
    by_time less = inl less

    by_end : h.time ≡ t → kind_rank h.what < 3 → (h.time < u) ⊎ ((h.time ≡ u) × (kind_rank h.what < 3))
    by_end at low = elim (cases_lt t u) [ inl less ↦ inl (omega (arith, at, less)) | inr more ↦ inr (omega (arith, at, le, more), low) ]

beginning_until : (t : ℕ) (h : Happened) → IsBeginning t h → IsLoggedUntil (t + 1) h
beginning_until t h is = record { shown = λ e. absurd (omega (arith, e, is.1)); past = inl (omega (arith, is.0)) }

end_until : (t : ℕ) (h : Happened) → IsEnd t h → IsLoggedUntil t h
end_until t h is = record { shown = λ e. absurd (omega (arith, e, is.1)); past = inr is }

tick_until : (d : Domain) → All (IsLoggedUntil (d.time + 1)) (logged_by_tick d)
tick_until d =
    All-append (IsLoggedUntil (d.time + 1)) (logged_by_beginning d) (logged_by_end (with_tick_begun d))
    (All-weaker (IsBeginning d.time) (IsLoggedUntil (d.time + 1)) (beginning_until d.time) (logged_by_beginning d) (beginning_is d))
    (All-weaker (IsEnd (d.time + 1)) (IsLoggedUntil (d.time + 1)) (end_until (d.time + 1)) (logged_by_end (with_tick_begun d)) (ending_is (with_tick_begun d)))

pub ticks_until : (n : ℕ) (d : Domain) → All (IsLoggedUntil (d.time + n)) (logged_by_ticks n d)
ticks_until zero d = All-nil (IsLoggedUntil (d.time + 0))
ticks_until (suc n) d =
    let e : Domain = ticks n d in
    let last : ℕ = d.time + suc n in
    let at : e.time + 1 ≡ last = omega (arith, time_is n d) in
    All-append (IsLoggedUntil last) (logged_by_ticks n d) (logged_by_tick e)
    (All-weaker (IsLoggedUntil (d.time + n)) (IsLoggedUntil last) (λ h is. until_later (d.time + n) last h (omega arith) is) (logged_by_ticks n d) (ticks_until n d))
    (subst (λ t. All (IsLoggedUntil t) (logged_by_tick e)) at (tick_until e))

-- what was logged until the time of a domain, and what its ticks log
pub logged_until_then : (n : ℕ) (d e : Domain) (was now : List Happened) → e ≡ ticks n d → now ≡ was ++ logged_by_ticks n d → All (IsLoggedUntil d.time) was → All (IsLoggedUntil e.time) now
logged_until_then n d e was now is logged all =
    let last : d.time + n ≡ e.time = sym (time_is n d) ∙ ap (λ (x : Domain). x.time) (sym is) in
    let before = All-weaker (IsLoggedUntil d.time) (IsLoggedUntil (d.time + n)) (λ h p. until_later d.time (d.time + n) h (omega arith) p) was all in
    let whole = All-append (IsLoggedUntil (d.time + n)) was (logged_by_ticks n d) before (ticks_until n d) in
    subst (λ t. All (IsLoggedUntil t) now) last (subst (All (IsLoggedUntil (d.time + n))) (sym logged) whole)

-- ---- logged from the beginning on

beginning_from : (low t : ℕ) (h : Happened) → low ≤ t → IsBeginning t h → IsLoggedFrom low h
beginning_from low t h le is = record {
  shown = λ e. absurd (omega (arith, e, is.1));
  later = elim (cases_lt low t) [ inl less ↦ inl (omega (arith, is.0, less)) | inr more ↦ inr (omega (arith, is.0, le, more), is.1) ];
}

end_from : (low t : ℕ) (h : Happened) → low < t → IsEnd t h → IsLoggedFrom low h
end_from low t h less is = record { shown = λ e. absurd (omega (arith, e, is.1)); later = inl (omega (arith, is.0, less)) }

tick_from : (low : ℕ) (d : Domain) → low ≤ d.time → All (IsLoggedFrom low) (logged_by_tick d)
tick_from low d le =
    All-append (IsLoggedFrom low) (logged_by_beginning d) (logged_by_end (with_tick_begun d))
    (All-weaker (IsBeginning d.time) (IsLoggedFrom low) (λ h is. beginning_from low d.time h le is) (logged_by_beginning d) (beginning_is d))
    (All-weaker (IsEnd (d.time + 1)) (IsLoggedFrom low) (λ h is. end_from low (d.time + 1) h (omega (arith, le)) is) (logged_by_end (with_tick_begun d)) (ending_is (with_tick_begun d)))

pub logged_from : (n : ℕ) (d : Domain) → All (IsLoggedFrom d.time) (logged_by_ticks n d)
logged_from zero d = All-nil (IsLoggedFrom d.time)
logged_from (suc n) d = All-append (IsLoggedFrom d.time) (logged_by_ticks n d) (logged_by_tick (ticks n d)) (logged_from n d) (tick_from d.time (ticks n d) (omega (arith, time_is n d)))

-- ---- a log that keeps what it logs

pub logged_wanted : (hs : List Happened) (a b : LogView) → a.wanted ≡ true → HasLogged a hs b → b.happened ≡ a.happened ++ hs
logged_wanted hs a b wanted logged = logged.happened ∙ ap (λ w. a.happened ++ cond w hs []) wanted

-- if nothing waits there is room
pub room_if_empty : (most : ℕ) (hs : List Happened) (a b : LogView) → most ≤ a.room + length a.happened → HasLogged a hs b → length b.happened ≡ 0 → most ≤ b.room
room_if_empty most hs a b le logged none = omega (arith, le, logged.room, none)
