-- The calls of a section that are left, and its CPUs.
use Rattle.std.proofs.Common.{◌≡◌, ℕ, List, [], ◌∷◌, refl, sym, ap, ◌∙◌}
use Rattle.domain_run.specs.declared.call.Call.{Call}
use Rattle.domain_run.specs.Domain.{Domain}
use Rattle.domain_run.specs.Calls.{after_call}
use Rattle.calls_trace.specs.Replay.{names_of, names_after}
use Rattle.domain_run.specs.Run.{after_calls}
use Rattle.domain_run.proofs.CallerLemmas.{call_cpus}

pub left_names : (d r : Domain) (c : Call) (cs all : List Call) (was is end : ℕ → List ℕ) → all ≡ c ∷ cs → r ≡ after_call d c → ((n : ℕ) → is n ≡ names_after d c was n) → ((n : ℕ) → names_of d all was n ≡ end n) → (n : ℕ) → names_of r cs is n ≡ end n
left_names d r c cs all was is end same made each left n =
    let are : is ≡ names_after d c was = λ i m. each m i in
    ap (λ (x : Domain). names_of x cs is n) made ∙ ap (λ (f : ℕ → List ℕ). names_of (after_call d c) cs f n) are ∙ sym (ap (λ (xs : List Call). names_of d xs was n) same) ∙ left n

-- ---- the CPUs of a section

-- calls change no CPUs
pub calls_cpus : (d : Domain) (calls : List Call) → (after_calls d calls).cpus ≡ d.cpus
calls_cpus d [] = refl
calls_cpus d (c ∷ calls) = calls_cpus (after_call d c) calls ∙ call_cpus d c
