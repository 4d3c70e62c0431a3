use Rattle.std.proofs.Common.{◌≡◌, ℕ, ◌+◌, ◌*◌, ◌^◌, ◌≤◌, List, ◌∷◌, length, refl, sym, ap, subst, ◌∙◌, arith}
use Rattle.std.specs.Prelude.{All, sum_by}
use Rattle.std.proofs.lemmas.List.Sums.{sum_by-cons}
use Rattle.std.proofs.lemmas.List.Elements.{All-head, All-tail}
use Rattle.domain_run.specs.declared.call.Call.{Call}
use Rattle.domain_run.specs.declared.call.Call.TheVariants.{Advance}
use Rattle.indexmap.specs.IndexMap.{spare}
use Rattle.domain_run.specs.Run.{after_calls}
use Rattle.domain_run.specs.Tick.{ticks}
use Rattle.switch_text.specs.Names.{name_of_task}
use Rattle.calls_trace.specs.Replay.{names_of}
use Rattle.calls_trace.specs.private.Calls.{IsCallReady}
use Rattle.calls_trace.specs.private.Kept.{room_of}
use Rattle.calls_trace.proofs.Sections.{left_names}
use Rattle.calls_trace.proofs.Pieces.{same_whole, end_begun}
use Rattle.calls_trace.proofs.Ready.{call_left_time, call_left_cpus}
use Rattle.calls_trace.proofs.playing.Playing.begin.Goals as goal

pub make-self-requires-clause-call : goal.make-self-requires-clause-call
make-self-requires-clause-call c =
    let p = c.args.self.now in
    All-head IsCallReady c.in-Some.call c.next.new.self (subst (All IsCallReady) c.in-Some.ensures.next p.kept)

pub make-self-requires-clause-room : goal.make-self-requires-clause-room
make-self-requires-clause-room c =
    let p = c.args.self.now in
    let sum : sum_by room_of p.calls ≡ room_of c.in-Some.call + sum_by room_of c.next.new.self = ap (sum_by room_of) c.in-Some.ensures.next ∙ sum_by-cons room_of c.in-Some.call c.next.new.self in
    omega (arith, sum, p.room)

pub invariant_of-self : goal.invariant_of-self
invariant_of-self c =
    let p = c.args.self.now in
    let k = c.in-Some.call in
    let rest = c.next.new.self in
    let more : p.calls ≡ k ∷ rest = c.in-Some.ensures.next in
    let all = subst (All IsCallReady) more p.kept in
    let long = ap (λ (cs : List Call). length cs) more in
    let sum : sum_by room_of p.calls ≡ room_of k + sum_by room_of rest = ap (sum_by room_of) more ∙ sum_by-cons room_of k rest in
    let time = call_left_time p.run.domain c.make-self.new.self.domain k c.make-self.result c.make-self.ensures.domain in
    let short = (All-head IsCallReady k rest all).short in
    record {
      called = c.make-self.ensures.called;
      kept = All-tail IsCallReady k rest all;
      room = omega (arith, sum, c.make-self.ensures.room, p.room);
      early = omega (arith, long, time, short, p.early);
      inside = omega (arith, call_left_cpus p.run.domain c.make-self.new.self.domain k c.make-self.result c.make-self.ensures.domain, p.inside);
    }

pub returns-in-Some-clause-whole : goal.returns-in-Some-clause-whole
returns-in-Some-clause-whole c =
    let p = c.args.self.now in
    let d = p.run.domain in
    let e = c.make-self.new.self.domain in
    let left = c.make-self.result in
    let was = name_of_task p.run.names in
    let rest = c.next.new.self in
    let names : (n : ℕ) → names_of e (Advance left ∷ rest) (name_of_task c.make-self.new.self.names) n ≡ names_of d (Advance p.left ∷ p.calls) was n = λ n.
    left_names d (ticks left e) c.in-Some.call rest p.calls was (name_of_task c.make-self.new.self.names) (names_of d p.calls was) c.in-Some.ensures.next c.make-self.ensures.domain c.make-self.ensures.names (λ m. refl) n
    ∙ ap (λ (j : ℕ). names_of d (Advance j ∷ p.calls) was n) (sym c.requires) in
    same_whole p.base d e (Advance p.left ∷ p.calls) (Advance left ∷ rest) was (name_of_task c.make-self.new.self.names) (end_begun d e c.in-Some.call p.left left rest p.calls c.requires c.in-Some.ensures.next c.make-self.ensures.domain) names

-- none is left, and nothing has changed
pub returns-in-None-clause-whole : goal.returns-in-None-clause-whole
returns-in-None-clause-whole c =
    let p = c.args.self.now in
    let none = c.in-None.ensures.next in
    let was = name_of_task p.run.names in
    same_whole p.base p.run.domain p.run.domain (Advance p.left ∷ p.calls) (Advance p.left ∷ c.next.new.self) was was (ap (λ (cs : List Call). after_calls p.run.domain (Advance p.left ∷ cs)) (none.1 ∙ sym none.0))
    (λ n. ap (λ (cs : List Call). names_of p.run.domain (Advance p.left ∷ cs) was n) (none.1 ∙ sym none.0))

pub invariant_of-self-in-None : goal.invariant_of-self-in-None
invariant_of-self-in-None c =
    let p = c.args.self.now in
    let none = c.in-None.ensures.next in
    let same : p.calls ≡ c.next.new.self = none.0 ∙ sym none.1 in
    record {
      called = p.called;
      kept = subst (All IsCallReady) same p.kept;
      room = subst (λ (cs : List Call). sum_by room_of cs ≤ spare p.run.names) same p.room;
      early = subst (λ (cs : List Call). p.run.domain.time + p.left + length cs * 60000000 ≤ 2 ^ 42) same p.early;
      inside = p.inside;
    }
