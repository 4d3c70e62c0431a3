-- The run of a section, and what happens in it, while it is made: what is at hand and what is left.
use Rattle.std.proofs.Common.{◌≡◌, ℕ, ◌+◌, ◌^◌, ◌<◌, ◌≤◌, List, ◌++◌, sym, ap, ◌∙◌, arith}
use Rattle.std.specs.Prelude.{All}
use Rattle.std.proofs.lemmas.List.Elements.{All-weaker}
use Rattle.domain_run.specs.declared.call.Call.{Call}
use Rattle.domain_run.specs.declared.happened.Happened.{Happened}
use Rattle.domain_run.specs.Domain.{Domain}
use Rattle.domain_run.specs.LoggedRun.{LoggedRunView}
use Rattle.domain_run.specs.Passing.{without_switches}
use Rattle.domain_run.specs.Run.{after_calls}
use Rattle.domain_run.specs.Switch.{Switch}
use Rattle.domain_run.proofs.CallerLemmas.{IsLoggedIn}
use Rattle.switch_text.specs.Names.{Names}
use Rattle.switch_text.specs.SlicedEvents.{EventRun}
use Rattle.switch_text.specs.EventLines.{HasLoggedLine}
use Rattle.calls_trace.specs.Replay.{names_of}
use Rattle.calls_trace.specs.private.Replaying.{AdmittedHaveNames}
use Rattle.calls_trace.specs.private.LoggedSoFar.{lines_logged_by, IsLoggedSoFar}
use Rattle.calls_trace.proofs.Keeping.{names_kept}
use Rattle.calls_trace.proofs.Pieces.{switches_left}
use Rattle.calls_trace.proofs.LoggedSoFar.{waiting_in}

-- as it is written, by its first CPU of the machine, its names, its switches and what happens
abbrev pub logged_run_as : ℕ → (ℕ → List ℕ) → List Switch → List Happened → EventRun
logged_run_as base names switches happened = record {
  run = record { base = base; names = names; switches = switches };
  logged = record { base = base; names = names; happened = happened };
}

-- what leads to the same domain by the same names, and tells the same, is the same whole
pub same_logged_whole : (base : ℕ) (d e : Domain) (cs ds : List Call) (f g : ℕ → List ℕ) (was now : List Happened) → after_calls e ds ≡ after_calls d cs → ((n : ℕ) → names_of e ds g n ≡ names_of d cs f n) → now ++ lines_logged_by e ds ≡ was ++ lines_logged_by d cs
    → logged_run_as base (names_of e ds g) (e.switches ++ (after_calls (without_switches e) ds).switches) (now ++ lines_logged_by e ds) ≡ logged_run_as base (names_of d cs f) (d.switches ++ (after_calls (without_switches d) cs).switches) (was ++ lines_logged_by d cs)
same_logged_whole base d e cs ds f g was now end names logged =
    let called : names_of e ds g ≡ names_of d cs f = λ i n. names n i in
    let switches = sym (switches_left e ds) ∙ ap (λ (x : Domain). x.switches) end ∙ switches_left d cs in
    ap (λ (h : ℕ → List ℕ). logged_run_as base h (e.switches ++ (after_calls (without_switches e) ds).switches) (now ++ lines_logged_by e ds)) called
    ∙ ap (λ (ss : List Switch). logged_run_as base (names_of d cs f) ss (now ++ lines_logged_by e ds)) switches
    ∙ ap (logged_run_as base (names_of d cs f) (d.switches ++ (after_calls (without_switches d) cs).switches)) logged

-- each of what waits has a line
pub waiting_logged : (v : LoggedRunView) (names : Names) (base : ℕ) → IsLoggedSoFar v → AdmittedHaveNames v.domain names → base + v.domain.cpus ≤ 512 → v.domain.time < 2 ^ 42 → All (HasLoggedLine names base) v.logged
waiting_logged v names base s called inside early =
    All-weaker (IsLoggedIn v.domain) (HasLoggedLine names base) (λ h is. record { time = omega (arith, is.past, early); cpu = omega (arith, is.inside, inside); name = called h.number is.admitted }) v.logged (waiting_in v s)

-- and its task has the name that the whole run gives
pub waiting_named : (v : LoggedRunView) (cs : List Call) (names : ℕ → List ℕ) → IsLoggedSoFar v → All (λ h. names h.number ≡ names_of v.domain cs names h.number) v.logged
waiting_named v cs names s =
    All-weaker (IsLoggedIn v.domain) (λ h. names h.number ≡ names_of v.domain cs names h.number) (λ h is. sym (names_kept v.domain cs names h.number is.admitted)) v.logged (waiting_in v s)
