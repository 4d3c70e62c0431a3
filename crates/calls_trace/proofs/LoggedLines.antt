-- What happens in the run of a section can be written: each of it has a line, and it rises.
use Rattle.std.proofs.Common.{◌≡◌, ◌≢◌, ℕ, ◌+◌, ◌*◌, ◌^◌, ◌<◌, ◌≤◌, Bool, true, false, eqb, ltb, ◌&&◌, ◌||◌, List, [], ◌∷◌, length, map, get_or, refl, inl, inr, arith, eq-eqb}
use Rattle.std.specs.Prelude.{All, AllPairs, IsTrue, not}
use Rattle.std.proofs.lemmas.Bool.{or_left, or_right, and_from, lt-ltb}
use Rattle.std.proofs.lemmas.List.Elements.{All-head, All-tail, All-weaker}
use Rattle.domain_run.specs.declared.happened.What.{What}
use Rattle.domain_run.specs.declared.happened.What.TheVariants.{JobEnds, NextReleased, Spent, Cut, Replenished, Released, WokenSpent}
use Rattle.domain_run.specs.declared.happened.Happened.{Happened}
use Rattle.domain_run.specs.declared.call.Call.{Call}
use Rattle.domain_run.specs.declared.call.Call.TheVariants.{Admit, Regrade, Wake, Leave, Advance, Limit, Depart, Arrive}
use Rattle.domain_run.specs.Domain.{Domain, empty_domain}
use Rattle.domain_run.specs.Calls.{after_call}
use Rattle.domain_run.specs.Run.{after_calls}
use Rattle.domain_run.specs.Happened.{kind_rank, is_first}
use Rattle.domain_run.proofs.CallerLemmas.{ticks_of, call_time, IsSooner, IsSoonerUnlessCut, IsLoggedIn, run_logs, run_rises, run_cpus}
use Rattle.calls_text.specs.declared.section.Entry.{Entry}
use Rattle.calls_text.specs.SectionView.{SectionView}
use Rattle.calls_text.specs.Limits.{IsCall, IsEntry, IsSection}
use Rattle.switch_text.specs.Names.{Names}
use Rattle.switch_text.specs.LoggedLine.{has_line}
use Rattle.switch_text.specs.EventLines.{HasLoggedLine, is_sooner, is_sooner_unless_cut}
use Rattle.calls_trace.specs.Replay.{calls_in_section}
use Rattle.calls_trace.specs.DomainEvents.{domain_of, logged_of}
use Rattle.calls_trace.specs.private.Replaying.{AdmittedHaveNames}

-- ---- until when

ticks_most : (c : Call) → IsCall c → ticks_of c ≤ 60000000
ticks_most (Admit number name params delay script) is = omega arith
ticks_most (Regrade number params word) is = omega arith
ticks_most (Wake number) is = omega arith
ticks_most (Leave number) is = omega arith
ticks_most (Advance n) is = is.1
ticks_most (Limit limit word) is = omega arith
ticks_most (Depart number) is = omega arith
ticks_most (Arrive number name params script) is = omega arith

time_after : (d : Domain) (entries : List Entry) → All IsEntry entries → (after_calls d (map (λ e. e.call) entries)).time ≤ d.time + 60000000 * length entries
time_after d [] are = omega arith
time_after d (e ∷ entries) are =
    let step : (after_call d e.call).time ≡ d.time + ticks_of e.call = call_time d e.call in
    let most : ticks_of e.call ≤ 60000000 = ticks_most e.call (All-head IsEntry e entries are).call in
    let rest = time_after (after_call d e.call) entries (All-tail IsEntry e entries are) in
    omega (arith, step, most, rest)

-- a section ends before 2^42 us
pub section_time : (s : SectionView) → IsSection s → (domain_of s).time < 2 ^ 42
section_time s is =
    let last = time_after (empty_domain s.cpus s.limit) s.entries is.entries in
    omega (arith, last, is.most_entries)

-- ---- its order

line_no_cut : (w : What) → has_line w ≡ true → kind_rank w ≢ 3
line_no_cut JobEnds is e = absurd (omega (arith, e))
line_no_cut (NextReleased deadline) is e = absurd (omega (arith, e))
line_no_cut (Spent deadline) is e = absurd (omega (arith, e))
line_no_cut Cut is e = absurd cc
line_no_cut (Replenished deadline) is e = absurd (omega (arith, e))
line_no_cut (Released deadline) is e = absurd (omega (arith, e))
line_no_cut (WokenSpent deadline) is e = absurd (omega (arith, e))

sooner : (a b : Happened) → IsSooner a b → is_sooner a b ≡ true
sooner a b (inl less) = or_left (ltb a.time b.time) (eqb a.time b.time && is_first a b) (lt-ltb a.time b.time less)
sooner a b (inr is) = or_right (ltb a.time b.time) (eqb a.time b.time && is_first a b) (and_from (eqb a.time b.time) (is_first a b) (eq-eqb a.time b.time is.0) is.1)

pub unless_cut : (a b : Happened) → IsSoonerUnlessCut a b → IsTrue (is_sooner_unless_cut a b)
unless_cut a b is = by_lines (has_line a.what) (has_line b.what) refl refl
  where
    by_lines : (x y : Bool) → has_line a.what ≡ x → has_line b.what ≡ y → (not x || not y || is_sooner a b) ≡ true
    by_lines false y p q = refl
    by_lines true false p q = refl
    by_lines true true p q = sooner a b (is (line_no_cut a.what p) (line_no_cut b.what q))

pub logged_rises : (s : SectionView) → IsSection s → AllPairs (λ a b. IsTrue (is_sooner_unless_cut a b)) (logged_of s)
logged_rises s is i j d less within =
    let hs = logged_of s in
    unless_cut (get_or hs i d) (get_or hs j d) (run_rises s.cpus s.limit (calls_in_section s) is.some_cpus i j d less within)

-- ---- its lines

pub logged_lines : (s : SectionView) (base : ℕ) (names : Names) → IsSection s → AdmittedHaveNames (domain_of s) names → base + s.cpus ≤ 512 → All (HasLoggedLine names base) (logged_of s)
logged_lines s base names is named inside =
    let d : Domain = domain_of s in
    let early : d.time < 2 ^ 42 = section_time s is in
    let cpus : d.cpus ≡ s.cpus = run_cpus s.cpus s.limit (calls_in_section s) in
    All-weaker (IsLoggedIn d) (HasLoggedLine names base) (λ h in_it. record { time = omega (arith, in_it.past, early); cpu = omega (arith, in_it.inside, cpus, inside); name = named h.number in_it.admitted })
    (logged_of s) (run_logs s.cpus s.limit (calls_in_section s) is.some_cpus)
