use Rattle.std.proofs.Common.{◌≡◌, ℕ, List, length, drop, refl, ap, subst, ◌∙◌, length-drop, arith}
use Rattle.std.proofs.lemmas.List.Elements.{All-drop}
use Rattle.std.proofs.Math.Logic.{∥∥₁_map}
use Rattle.domain_run.specs.declared.happened.Happened.{Happened}
use Rattle.domain_run.specs.Domain.{Domain}
use Rattle.domain_run.specs.LoggedRun.{IsLoggedUntil}
use Rattle.domain_run.specs.Passing.{without_front, without_switches}
use Rattle.domain_run.specs.Run.{after_calls}
use Rattle.domain_run.specs.Sound.{IsAdmitted}
use Rattle.switch_text.specs.Names.{name_of_task}
use Rattle.switch_text.specs.SlicedEvents.{SlicedEventsView, without_fronts}
use Rattle.calls_trace.specs.Replay.{names_of}
use Rattle.calls_trace.specs.declared.playing_events.PlayingEvents.{PlayingEvents}
use Rattle.calls_trace.specs.private.PlayingEvents.{calls_to_make, names_to_give, sliced_events_of}
use Rattle.calls_trace.specs.private.LoggedSoFar.{lines_logged_by}
use Rattle.calls_trace.proofs.Pieces.{names_front}
use Rattle.calls_trace.proofs.LoggedSoFar.{same_lines, so_far_front}
use Rattle.calls_trace.proofs.playing_events.PlayingEvents.forget_first.Goals as goal

-- as it is written, with another domain and another log
abbrev forgotten_as : PlayingEvents → Domain → List Happened → SlicedEventsView
forgotten_as p d logged = record {
  base = p.base;
  names = names_of d (calls_to_make p) (name_of_task p.run.names);
  at_hand = d.switches;
  to_come = (after_calls (without_switches d) (calls_to_make p)).switches;
  logged = logged;
  to_log = lines_logged_by d (calls_to_make p);
}

pub returns : goal.returns
returns c =
    let p = c.args.self.now in
    let k = c.args.switches in
    let m = c.args.logged in
    let d = p.run.logged_run.domain in
    let is = c.forget_front.ensures in
    let names : names_of (without_front k d) (calls_to_make p) (name_of_task p.run.names) ≡ names_to_give p = λ i n. names_front k d (calls_to_make p) (name_of_task p.run.names) n i in
    let lines : lines_logged_by (without_front k d) (calls_to_make p) ≡ lines_logged_by d (calls_to_make p) = same_lines (without_front k d) d (calls_to_make p) refl in
    ap (λ (e : Domain). forgotten_as p e c.forget_front.new.self.logged) is.domain
    ∙ ap (forgotten_as p (without_front k d)) is.logged
    ∙ ap (λ (f : ℕ → List ℕ). record (forgotten_as p (without_front k d) (drop m p.run.logged_run.logged)) { names = f }) names
    ∙ ap (λ (hs : List Happened). record (without_fronts k m (sliced_events_of p)) { to_log = hs }) lines

pub invariant_of-self : goal.invariant_of-self
invariant_of-self c =
    let p = c.args.self.now in
    let v = p.run.logged_run in
    let w = c.forget_front.new.self in
    let is = c.forget_front.ensures in
    let time : w.domain.time ≡ v.domain.time = ap (λ (d : Domain). d.time) is.domain in
    let cpus : w.domain.cpus ≡ v.domain.cpus = ap (λ (d : Domain). d.cpus) is.domain in
    let used : w.domain.used ≡ v.domain.used = ap (λ (d : Domain). d.used) is.domain in
    let long = ap (λ (hs : List Happened). length hs) is.logged in
    record {
      called = λ n h. p.called n (subst (λ (ns : List ℕ). IsAdmitted ns n) used h);
      kept = p.kept;
      room = p.room;
      early = omega (arith, time, p.early);
      short = p.short;
      inside = omega (arith, cpus, p.inside);
      few = omega (arith, long, length-drop c.args.logged v.logged, p.few);
      past = ∥∥₁_map p.past (λ all. rw (time, is.logged) (All-drop (IsLoggedUntil v.domain.time) c.args.logged v.logged all));
      so_far = ∥∥₁_map p.so_far (so_far_front v w c.args.switches c.args.logged is.domain is.logged);
    }
