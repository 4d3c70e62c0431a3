-- Switches that are forgotten change no reply.
use Rattle.std.proofs.Common.{◌≡◌, ℕ, ◌+◌, List, [], ◌∷◌, refl, sym, ap, ◌∙◌}
use Rattle.std.proofs.lemmas.List.{append-nil}
use Rattle.domain_run.specs.declared.call.Call.{Call}
use Rattle.domain_run.specs.declared.call.Call.TheVariants.{Admit, Regrade, Wake, Leave, Advance, Limit, Depart, Arrive}
use Rattle.domain_run.specs.declared.call.Reply.{Reply}
use Rattle.domain_run.specs.Domain.{Domain}
use Rattle.domain_run.specs.Switch.{Switch}
use Rattle.domain_run.specs.Calls.{reply_to, after_call}
use Rattle.domain_run.specs.Passing.{with_past, without_switches}
use Rattle.domain_run.specs.Tick.{ticks}
use Rattle.domain_run.proofs.CallerLemmas.{after_call_after, ticks_after, ticks_then}
use Rattle.calls_text.specs.declared.section.Entry.{Entry}
use Rattle.reply_text.specs.Replies.{answered_line, answered_lines}

restored : (d : Domain) → with_past d.switches (without_switches d) ≡ d
restored d = ap (λ (ss : List Switch). record d { switches = ss }) (append-nil d.switches)

-- ---- ticks

-- more ticks of a domain that has forgotten its switches
pub forgotten_more : (k m : ℕ) (d e : Domain) → e ≡ without_switches (ticks k d) → without_switches (ticks m e) ≡ without_switches (ticks (k + m) d)
forgotten_more k m d e is =
    let b = ticks k d in
    ap (λ (x : Domain). without_switches (ticks m x)) is
    ∙ sym (ap without_switches (ticks_after m b.switches (without_switches b)))
    ∙ ap (λ (x : Domain). without_switches (ticks m x)) (restored b)
    ∙ ap without_switches (ticks_then k m d)

-- ---- calls

reply_after : (past : List Switch) (d : Domain) (c : Call) → reply_to (with_past past d) c ≡ reply_to d c
reply_after past d (Admit number name params delay script) = refl
reply_after past d (Regrade number params word) = refl
reply_after past d (Wake number) = refl
reply_after past d (Leave number) = refl
reply_after past d (Advance k) = refl
reply_after past d (Limit limit word) = refl
reply_after past d (Depart number) = refl
reply_after past d (Arrive number name params script) = refl

lines_after : (past : List Switch) (d : Domain) (entries : List Entry) → answered_lines (with_past past d) entries ≡ answered_lines d entries
lines_after past d [] = refl
lines_after past d (e ∷ entries) =
    ap (λ (r : Reply). answered_line e r ∷ answered_lines (after_call (with_past past d) e.call) entries) (reply_after past d e.call)
    ∙ ap (λ (x : Domain). answered_line e (reply_to d e.call) ∷ answered_lines x entries) (after_call_after past d e.call)
    ∙ ap (λ (ls : List (List ℕ)). answered_line e (reply_to d e.call) ∷ ls) (lines_after past (after_call d e.call) entries)

lines_forgotten : (d : Domain) (entries : List Entry) → answered_lines (without_switches d) entries ≡ answered_lines d entries
lines_forgotten d entries = sym (lines_after d.switches (without_switches d) entries) ∙ ap (λ (x : Domain). answered_lines x entries) (restored d)

-- domains that are alike but for their switches give the same replies
pub same_lines : (d e : Domain) (entries : List Entry) → without_switches d ≡ without_switches e → answered_lines d entries ≡ answered_lines e entries
same_lines d e entries alike = sym (lines_forgotten d entries) ∙ ap (λ (x : Domain). answered_lines x entries) alike ∙ lines_forgotten e entries
