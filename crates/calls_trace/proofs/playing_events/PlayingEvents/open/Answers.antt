use Rattle.std.proofs.Common.{◌≡◌, ℕ, List, ◌++◌, length, ap, sym, subst, ◌∙◌, arith}
use Rattle.std.specs.Prelude.{All, sum_by}
use Rattle.std.proofs.lemmas.List.Elements.{All-nil, All-weaker}
use Rattle.domain_run.specs.declared.call.Call.{Call}
use Rattle.domain_run.specs.declared.happened.Happened.{Happened}
use Rattle.domain_run.specs.Domain.{Domain}
use Rattle.domain_run.specs.LoggedRun.{IsLoggedUntil}
use Rattle.domain_run.specs.Passing.{without_switches}
use Rattle.domain_run.specs.Run.{after_calls}
use Rattle.domain_run.specs.Switch.{Switch}
use Rattle.calls_text.specs.Limits.{IsCall}
use Rattle.switch_text.specs.Names.{name_of_task}
use Rattle.calls_trace.specs.Replay.{names_of}
use Rattle.calls_trace.specs.DomainEvents.{domain_of, names_in, logged_of}
use Rattle.calls_trace.specs.private.Calls.{IsCallReady}
use Rattle.calls_trace.specs.private.Kept.{room_of}
use Rattle.calls_trace.specs.private.LoggedSoFar.{with_lines, lines_logged_by}
use Rattle.calls_trace.proofs.EventPieces.{logged_run_as}
use Rattle.calls_trace.proofs.Ready.{call_ready, kept_cpus}
use Rattle.calls_trace.proofs.Naming.{still_named}
use Rattle.calls_trace.proofs.Pieces.{switches_left}
use Rattle.calls_trace.proofs.LoggedSoFar.{lines_opened, so_far_opened}
use Rattle.calls_trace.proofs.playing_events.PlayingEvents.open.Goals as goal

pub invariant_of-result-clause-called : goal.invariant_of-result-clause-called
invariant_of-result-clause-called c =
    let run = c.args.kept.run in
    let d = c.in-Ok.named in
    still_named run.state d.logged_run.domain run.names d.names c.in-Ok.ensures.domain c.in-Ok.ensures.names c.requires.kept.same.kept.start.all_named

pub invariant_of-result-clause-kept : goal.invariant_of-result-clause-kept
invariant_of-result-clause-kept c =
    subst (All IsCallReady) (sym c.into_left.ensures) (All-weaker IsCall IsCallReady call_ready c.args.kept.calls c.requires.kept.same.kept.are)

pub invariant_of-result-clause-room : goal.invariant_of-result-clause-room
invariant_of-result-clause-room c =
    let same = ap (sum_by room_of) c.into_left.ensures in
    omega (arith, same, c.room.ensures, c.in-Ok.ensures.room)

pub invariant_of-result-clause-early : goal.invariant_of-result-clause-early
invariant_of-result-clause-early c =
    let r = c.requires.kept in
    let many = ap (λ (cs : List Call). length cs) c.into_left.ensures in
    let time = ap (λ (d : Domain). d.time) c.in-Ok.ensures.domain in
    omega (arith, many, time, r.same.kept.start.time, r.same.few, r.is.most_entries)

pub invariant_of-result-clause-inside : goal.invariant_of-result-clause-inside
invariant_of-result-clause-inside c =
    let k = c.requires.kept in
    let cpus = ap (λ (d : Domain). d.cpus) c.in-Ok.ensures.domain in
    omega (arith, cpus, kept_cpus k.section c.args.kept k.same, c.requires.inside)

pub invariant_of-result-clause-few : goal.invariant_of-result-clause-few
invariant_of-result-clause-few c =
    let none = ap (λ (hs : List Happened). length hs) c.in-Ok.ensures.logged in
    omega (arith, none)

pub invariant_of-result-clause-past : goal.invariant_of-result-clause-past
invariant_of-result-clause-past c =
    let v = c.in-Ok.named.logged_run in
    ∣ subst (All (IsLoggedUntil v.domain.time)) (sym c.in-Ok.ensures.logged) (All-nil (IsLoggedUntil v.domain.time)) ∣₁

pub invariant_of-result-clause-so_far : goal.invariant_of-result-clause-so_far
invariant_of-result-clause-so_far c =
    let r = c.requires.kept in
    ∣ so_far_opened r.section c.args.kept.calls c.args.kept.run.state c.in-Ok.named.logged_run r.is r.same.begun c.in-Ok.ensures.domain c.in-Ok.ensures.logged ∣₁

pub returns : goal.returns
returns c = λ s is same.
    let run = c.args.kept.run in
    let v = c.in-Ok.named.logged_run in
    let d = v.domain in
    let names = c.in-Ok.named.names in
    let left = c.into_left.result in
    let base = c.args.base in
    let switches : d.switches ++ (after_calls (without_switches d) left).switches ≡ (domain_of s).switches =
    sym (switches_left d left)
    ∙ ap (λ (x : Domain). (after_calls x left).switches) c.in-Ok.ensures.domain
    ∙ ap (λ (cs : List Call). (after_calls run.state cs).switches) c.into_left.ensures
    ∙ ap (λ (x : Domain). x.switches) same.made.domain in
    let as_before : name_of_task names ≡ name_of_task run.names = λ i m. c.in-Ok.ensures.names m i in
    let each : (n : ℕ) → names_of d left (name_of_task names) n ≡ names_in s n = λ n.
    ap (λ (cs : List Call). names_of d cs (name_of_task names) n) c.into_left.ensures
    ∙ ap (λ (e : Domain). names_of e c.args.kept.calls (name_of_task names) n) c.in-Ok.ensures.domain
    ∙ ap (λ (f : ℕ → List ℕ). names_of run.state c.args.kept.calls f n) as_before
    ∙ same.made.called n in
    let called : names_of d left (name_of_task names) ≡ names_in s = λ i n. each n i in
    let logged : v.logged ++ lines_logged_by d left ≡ with_lines (logged_of s) =
    ap (λ (hs : List Happened). hs ++ lines_logged_by d left) c.in-Ok.ensures.logged
    ∙ ap (λ (x : Domain). lines_logged_by x left) c.in-Ok.ensures.domain
    ∙ ap (lines_logged_by run.state) c.into_left.ensures
    ∙ lines_opened s c.args.kept.calls run.state same.begun in
    ap (λ (f : ℕ → List ℕ). logged_run_as base f (d.switches ++ (after_calls (without_switches d) left).switches) (v.logged ++ lines_logged_by d left)) called
    ∙ ap (λ (ss : List Switch). logged_run_as base (names_in s) ss (v.logged ++ lines_logged_by d left)) switches
    ∙ ap (logged_run_as base (names_in s) (domain_of s).switches) logged
