use Rattle.std.proofs.Common.{◌≡◌, ℕ, ◌+◌, ◌*◌, ◌^◌, ◌<◌, ◌≤◌, List, [], ◌∷◌, ◌++◌, length, refl, sym, ap, subst, ◌∙◌, arith}
use Rattle.std.specs.Prelude.{All, sum_by}
use Rattle.std.proofs.lemmas.List.Sums.{sum_by-cons}
use Rattle.std.proofs.lemmas.List.Elements.{All-head, All-tail}
use Rattle.std.proofs.Math.Logic.{∥∥₁_map}
use Rattle.domain_run.specs.declared.call.Call.{Call}
use Rattle.domain_run.specs.declared.call.Call.TheVariants.{Advance}
use Rattle.domain_run.specs.declared.happened.Happened.{Happened}
use Rattle.indexmap.specs.IndexMap.{spare}
use Rattle.domain_run.specs.Run.{after_calls}
use Rattle.domain_run.specs.Tick.{ticks}
use Rattle.switch_text.specs.Names.{name_of_task}
use Rattle.calls_trace.specs.Replay.{names_of}
use Rattle.calls_trace.specs.private.Calls.{IsCallReady}
use Rattle.calls_trace.specs.private.Kept.{room_of}
use Rattle.calls_trace.specs.private.LoggedSoFar.{lines_logged_by}
use Rattle.calls_trace.proofs.EventPieces.{same_logged_whole}
use Rattle.calls_trace.proofs.Sections.{left_names}
use Rattle.calls_trace.proofs.Pieces.{end_begun}
use Rattle.calls_trace.proofs.Ready.{call_left_time, call_left_cpus}
use Rattle.calls_trace.proofs.LoggedSoFar.{begun_left, begun_time, lines_begun, so_far_begun}
use Rattle.calls_trace.proofs.playing_events.PlayingEvents.begin.Goals as goal

pub make-self-requires-clause-call : goal.make-self-requires-clause-call
make-self-requires-clause-call c =
    let p = c.args.self.now in
    All-head IsCallReady c.in-Some.call c.next.new.self (subst (All IsCallReady) c.in-Some.ensures.next p.kept)

pub make-self-requires-clause-room : goal.make-self-requires-clause-room
make-self-requires-clause-room c =
    let p = c.args.self.now in
    let sum : sum_by room_of p.calls ≡ room_of c.in-Some.call + sum_by room_of c.next.new.self = ap (sum_by room_of) c.in-Some.ensures.next ∙ sum_by-cons room_of c.in-Some.call c.next.new.self in
    omega (arith, sum, p.room)

pub invariant_of-self : goal.invariant_of-self
invariant_of-self c =
    let p = c.args.self.now in
    let v = p.run.logged_run in
    let w = c.make-self.new.self.logged_run in
    let is = c.make-self.ensures in
    let k = c.in-Some.call in
    let left = c.make-self.result in
    let rest = c.next.new.self in
    let more : p.calls ≡ k ∷ rest = c.in-Some.ensures.next in
    let all = subst (All IsCallReady) more p.kept in
    let long = ap (λ (cs : List Call). length cs) more in
    let sum : sum_by room_of p.calls ≡ room_of k + sum_by room_of rest = ap (sum_by room_of) more ∙ sum_by-cons room_of k rest in
    let made : ticks left w.domain ≡ after_calls v.domain (k ∷ []) = begun_left v.domain w.domain k left is.domain is.left in
    let time = call_left_time v.domain w.domain k left made in
    let same_time : w.domain.time ≡ v.domain.time = begun_time v.domain w.domain k left is.domain is.left in
    let short = (All-head IsCallReady k rest all).short in
    record {
      called = is.called;
      kept = All-tail IsCallReady k rest all;
      room = omega (arith, sum, is.room, p.room);
      early = omega (arith, long, time, short, p.early);
      short = omega (arith, is.left, short);
      inside = omega (arith, call_left_cpus v.domain w.domain k left made, p.inside);
      few = subst (λ (hs : List Happened). length hs ≤ 2 ^ 50) (sym is.logged) p.few;
      past = ∥∥₁_map p.past (λ all. rw (same_time, is.logged) all);
      so_far = ∥∥₁_map p.so_far (so_far_begun v w k is.domain is.logged);
    }

pub returns-in-Some-clause-whole : goal.returns-in-Some-clause-whole
returns-in-Some-clause-whole c =
    let p = c.args.self.now in
    let v = p.run.logged_run in
    let w = c.make-self.new.self.logged_run in
    let is = c.make-self.ensures in
    let d = v.domain in
    let e = w.domain in
    let k = c.in-Some.call in
    let left = c.make-self.result in
    let was = name_of_task p.run.names in
    let rest = c.next.new.self in
    let more : p.calls ≡ k ∷ rest = c.in-Some.ensures.next in
    let made : ticks left e ≡ after_calls d (k ∷ []) = begun_left d e k left is.domain is.left in
    let names : (n : ℕ) → names_of e (Advance left ∷ rest) (name_of_task c.make-self.new.self.names) n ≡ names_of d (Advance p.left ∷ p.calls) was n = λ n.
    left_names d (ticks left e) k rest p.calls was (name_of_task c.make-self.new.self.names) (names_of d p.calls was) more made is.names (λ m. refl) n
    ∙ ap (λ (j : ℕ). names_of d (Advance j ∷ p.calls) was n) (sym c.requires) in
    let logged : w.logged ++ lines_logged_by e (Advance left ∷ rest) ≡ v.logged ++ lines_logged_by d (Advance p.left ∷ p.calls) =
    ap (λ (hs : List Happened). hs ++ lines_logged_by e (Advance left ∷ rest)) is.logged
    ∙ ap (λ (hs : List Happened). v.logged ++ hs) (lines_begun d e k left rest is.domain is.left ∙ ap (lines_logged_by d) (sym more) ∙ ap (λ (j : ℕ). lines_logged_by d (Advance j ∷ p.calls)) (sym c.requires)) in
    same_logged_whole p.base d e (Advance p.left ∷ p.calls) (Advance left ∷ rest) was (name_of_task c.make-self.new.self.names) v.logged w.logged (end_begun d e k p.left left rest p.calls c.requires more made) names logged

-- none is left, and nothing has changed
pub returns-in-None-clause-whole : goal.returns-in-None-clause-whole
returns-in-None-clause-whole c =
    let p = c.args.self.now in
    let v = p.run.logged_run in
    let d = v.domain in
    let none = c.in-None.ensures.next in
    let was = name_of_task p.run.names in
    let same : c.next.new.self ≡ p.calls = none.1 ∙ sym none.0 in
    same_logged_whole p.base d d (Advance p.left ∷ p.calls) (Advance p.left ∷ c.next.new.self) was was v.logged v.logged (ap (λ (cs : List Call). after_calls d (Advance p.left ∷ cs)) same)
    (λ n. ap (λ (cs : List Call). names_of d (Advance p.left ∷ cs) was n) same)
    (ap (λ (cs : List Call). v.logged ++ lines_logged_by d (Advance p.left ∷ cs)) same)

pub invariant_of-self-in-None : goal.invariant_of-self-in-None
invariant_of-self-in-None c =
    let p = c.args.self.now in
    let none = c.in-None.ensures.next in
    let same : p.calls ≡ c.next.new.self = none.0 ∙ sym none.1 in
    record {
      called = p.called;
      kept = subst (All IsCallReady) same p.kept;
      room = subst (λ (cs : List Call). sum_by room_of cs ≤ spare p.run.names) same p.room;
      early = subst (λ (cs : List Call). p.run.logged_run.domain.time + p.left + length cs * 60000000 < 2 ^ 42) same p.early;
      short = p.short;
      inside = p.inside;
      few = p.few;
      past = p.past;
      so_far = p.so_far;
    }
