-- The first task that a thread is, one task after the other.
use Rattle.std.proofs.Common.{◌≡◌, ℕ, ◌+◌, ◌<◌, ◌≤◌, true, false, List, [], ◌∷◌, length, get_or, drop, Some, None, refl, sym, ap, ◌∙◌, map}
use Rattle.std.proofs.lemmas.List.{drop_more, drop_all}
use Rattle.recorded_moments.specs.declared.watched.Watched.{Watched}
use Rattle.recorded_moments.specs.Moments.{watched_view, is_thread, thread_number}

pub number_here : (ts : List Watched) (i : ℕ) (d : Watched) (name : List ℕ) (pid : ℕ) → i < length ts → is_thread (watched_view (get_or ts i d)) name pid ≡ true → thread_number i (map watched_view (drop i ts)) name pid ≡ Some i
unfolding thread_number
number_here ts i d name pid l h =
    ap (λ (ws : List Watched). thread_number i (map watched_view ws) name pid) (drop_more ts i d l) ∙ rw h refl

pub number_later : (ts : List Watched) (i : ℕ) (d : Watched) (name : List ℕ) (pid : ℕ) → i < length ts → is_thread (watched_view (get_or ts i d)) name pid ≡ false → thread_number i (map watched_view (drop i ts)) name pid ≡ thread_number (i + 1) (map watched_view (drop (i + 1) ts)) name pid
unfolding thread_number
number_later ts i d name pid l h =
    ap (λ (ws : List Watched). thread_number i (map watched_view ws) name pid) (drop_more ts i d l) ∙ rw h refl

pub number_none : (ts : List Watched) (i : ℕ) (name : List ℕ) (pid : ℕ) → length ts ≤ i → thread_number i (map watched_view (drop i ts)) name pid ≡ None
unfolding thread_number
number_none ts i name pid l = ap (λ (ws : List Watched). thread_number i (map watched_view ws) name pid) (drop_all i ts l)
