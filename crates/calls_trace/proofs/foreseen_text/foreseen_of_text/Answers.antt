use Rattle.std.proofs.Common.{ℕ, ◌++◌, ◌∷◌, [], Option, Ok, map, sym, ap, subst, arith}
use Rattle.std.specs.Prelude.{All}
use Rattle.std.proofs.lemmas.List.Elements.{All-nil, All-push}
use Rattle.std.proofs.lemmas.Result.{err_from_is_err_and}
use Rattle.calls_text.specs.Reader.{IsWithin, IsNextDomain, empty_section}
use Rattle.calls_text.proofs.CallerLemmas.{whole_none}
use Rattle.calls_trace.specs.declared.foreseen_text.ForeseenSection.{ForeseenSection}
use Rattle.calls_trace.specs.private.Sketched.{IsReadyToRun, ahead_as}
use Rattle.calls_trace.proofs.Sketches.{ahead_more, as_many_ahead, ready_to_run}
use Rattle.calls_trace.proofs.foreseen_text.foreseen_of_text.Goals as goal

pub sections-init : goal.sections-init
sections-init c = record {
  so_far = record {
    done = [];
    following = c.in_ok-reader.ensures.following;
    same = ap (map ahead_as) c.in-Ok.ensures.items;
    ready = subst (All IsReadyToRun) (sym c.in-Ok.ensures.items) (All-nil IsReadyToRun);
  };
  room = omega (arith, c.in-Ok.ensures.capacity);
}

-- the reader has begun the section
pub foreseen_read-requires : goal.foreseen_read-requires
foreseen_read-requires c =
    let i = c.sections.invariant.so_far in
    record {
      begun = record {
        text = c.args.text.now;
        before = i.done;
        within = subst (λ (o : Option (ℕ × ℕ)). IsNextDomain c.args.text.now i.done c.next_domain.new.self (Ok o)) c.in-Some.is (c.in_ok-cpus.ensures.next c.args.text.now i.done i.following);
      };
    }

pub push_reserved-requires : goal.push_reserved-requires
push_reserved-requires c =
    let i = c.sections.invariant.so_far in
    let w : IsWithin c.args.text.now i.done (empty_section c.in-Some.cpus c.in-Some.limit) c.next_domain.new.self = subst (λ (o : Option (ℕ × ℕ)). IsNextDomain c.args.text.now i.done c.next_domain.new.self (Ok o)) c.in-Some.is (c.in_ok-cpus.ensures.next c.args.text.now i.done i.following) in
    omega (arith, as_many_ahead c.sections.all.items i.done i.same, w.few, c.sections.invariant.room)

pub sections-preserved : goal.sections-preserved
sections-preserved c =
    let text = c.args.text.now in
    let i = c.sections.invariant.so_far in
    let r = c.in-Ok-foreseen_read.ensures in
    let m = r.read text i.done (subst (λ (o : Option (ℕ × ℕ)). IsNextDomain text i.done c.next_domain.new.self (Ok o)) c.in-Some.is (c.in_ok-cpus.ensures.next text i.done i.following)) in
    let one : ForeseenSection = record { cpus = c.in-Some.cpus; limit = c.in-Some.limit; foreseen = c.in-Ok-foreseen_read.foreseen } in
    rw c.push_reserved.ensures.items (record {
      so_far = record {
        done = i.done ++ m.section ∷ [];
        following = m.following;
        same = ahead_more c.sections.all.items i.done one m.section i.same m.same;
        ready = All-push IsReadyToRun c.sections.all.items one i.ready (ready_to_run one m.section m.is m.same r.foreseen);
      };
      room = omega (arith, c.sections.invariant.room, c.push_reserved.ensures.capacity);
    })

pub returns-in_err-cpus-clause-fault : goal.returns-in_err-cpus-clause-fault
returns-in_err-cpus-clause-fault c =
    let i = c.sections.invariant.so_far in
    let p = err_from_is_err_and c.from_residual-in_err-cpus.result c.from_residual-in_err-cpus.ensures.1 in
    rw (p.1, p.2) (c.in_err-cpus.ensures.next c.args.text.now i.done i.following).0

pub returns-clause-sections : goal.returns-clause-sections
returns-clause-sections c =
    let i = c.sections.invariant.so_far in
    let read = whole_none c.args.text.now i.done c.next_domain.new.self c.in_ok-cpus.field-0 c.in_default-2.is (c.in_ok-cpus.ensures.next c.args.text.now i.done i.following) in
    record { sections = i.done; read = read.0; spelled = read.1; same = i.same; ready = i.ready }
