-- Calls that can be made, and how far they go.
use Rattle.std.proofs.Common.{◌≡◌, ℕ, ◌+◌, List, [], ◌∷◌, refl, sym, ap, ◌∙◌, arith}
use Rattle.domain_run.specs.declared.call.Call.{Call}
use Rattle.domain_run.specs.declared.call.Call.TheVariants.{Admit, Regrade, Wake, Leave, Advance, Limit, Depart, Arrive}
use Rattle.domain_run.specs.Domain.{Domain, empty_domain}
use Rattle.domain_run.specs.Run.{after_calls}
use Rattle.domain_run.specs.Calls.{after_call}
use Rattle.domain_run.specs.Tick.{ticks}
use Rattle.domain_run.proofs.CallerLemmas.{ticks_of, call_time, call_cpus, ticks_time, ticks_cpus}
use Rattle.calls_text.specs.Limits.{IsCall}
use Rattle.calls_text.specs.SectionView.{SectionView}
use Rattle.calls_trace.specs.declared.kept_section.KeptSection.{KeptSection}
use Rattle.calls_trace.specs.Replay.{calls_in_section}
use Rattle.calls_trace.specs.private.Kept.{IsKeptSection}
use Rattle.calls_trace.specs.private.Calls.{IsCallReady, ticks_given}

-- a call of a section
pub call_ready : (c : Call) → IsCall c → IsCallReady c
call_ready (Admit number name params delay script) h = record { numbered = h.numbered; soon = h.soon; limited = (omega arith, omega arith); short = omega arith }
call_ready (Regrade number params word) h = record { numbered = (omega arith, omega arith); soon = omega arith; limited = (omega arith, omega arith); short = omega arith }
call_ready (Wake number) h = record { numbered = (omega arith, omega arith); soon = omega arith; limited = (omega arith, omega arith); short = omega arith }
call_ready (Leave number) h = record { numbered = (omega arith, omega arith); soon = omega arith; limited = (omega arith, omega arith); short = omega arith }
call_ready (Advance n) h = record { numbered = (omega arith, omega arith); soon = omega arith; limited = (omega arith, omega arith); short = h.1 }
call_ready (Limit limit word) h = record { numbered = (omega arith, omega arith); soon = omega arith; limited = (h.0, h.1); short = omega arith }
call_ready (Depart number) h = record { numbered = (omega arith, omega arith); soon = omega arith; limited = (omega arith, omega arith); short = omega arith }
call_ready (Arrive number name params script) h = record { numbered = h.numbered; soon = omega arith; limited = (omega arith, omega arith); short = omega arith }

pub same_ticks : (c : Call) → ticks_of c ≡ ticks_given c
same_ticks (Admit number name params delay script) = refl
same_ticks (Regrade number params word) = refl
same_ticks (Wake number) = refl
same_ticks (Leave number) = refl
same_ticks (Advance n) = refl
same_ticks (Limit limit word) = refl
same_ticks (Depart number) = refl
same_ticks (Arrive number name params script) = refl

-- when the ticks of a call are made that are left of it
pub call_left_time : (d e : Domain) (c : Call) (left : ℕ) → ticks left e ≡ after_call d c → e.time + left ≡ d.time + ticks_given c
call_left_time d e c left made = sym (ticks_time left e) ∙ ap (λ (x : Domain). x.time) made ∙ call_time d c ∙ ap (λ (n : ℕ). d.time + n) (same_ticks c)

-- and on which CPUs
pub call_left_cpus : (d e : Domain) (c : Call) (left : ℕ) → ticks left e ≡ after_call d c → e.cpus ≡ d.cpus
call_left_cpus d e c left made = sym (ticks_cpus left e) ∙ ap (λ (x : Domain). x.cpus) made ∙ call_cpus d c

pub calls_cpus : (d : Domain) (cs : List Call) → (after_calls d cs).cpus ≡ d.cpus
calls_cpus d [] = refl
calls_cpus d (c ∷ cs) = calls_cpus (after_call d c) cs ∙ call_cpus d c

-- a section whose calls are kept has the CPUs of its domain
pub kept_cpus : (s : SectionView) (k : KeptSection) → IsKeptSection s k → k.run.state.cpus ≡ k.cpus
kept_cpus s k same =
    sym (calls_cpus k.run.state k.calls) ∙ ap (λ (x : Domain). x.cpus) same.made.domain ∙ calls_cpus (empty_domain s.cpus s.limit) (calls_in_section s) ∙ sym same.same_cpus
