use Rattle.std.proofs.Common.{ℕ, ◌++◌, ◌∷◌, [], Option, Ok, map, ap, subst, arith}
use Rattle.std.proofs.lemmas.Result.{err_from_is_err_and}
use Rattle.calls_text.specs.Reader.{IsWithin, IsNextDomain, empty_section}
use Rattle.calls_text.proofs.CallerLemmas.{whole_none}
use Rattle.calls_trace.specs.private.Summed.{jobs_as, summed_as}
use Rattle.calls_trace.proofs.StreamedCalls.{summed_more, as_many_summed}
use Rattle.calls_trace.proofs.StreamedJobs.{jobs_more}
use Rattle.calls_trace.proofs.summing.summed_of_text.Goals as goal

pub sections-init : goal.sections-init
sections-init c = record {
  so_far = record { done = []; following = c.in_ok-reader.ensures.following; figures = ap (map summed_as) c.in-Ok.ensures.items; are_jobs = λ wanted. ap (map jobs_as) c.in-Ok.ensures.items };
  room = omega (arith, c.in-Ok.ensures.capacity);
}

-- the reader has begun the section
pub summed_read-requires : goal.summed_read-requires
summed_read-requires c =
    let i = c.sections.invariant.so_far in
    record {
      begun = record {
        text = c.args.text.now;
        before = i.done;
        within = subst (λ (o : Option (ℕ × ℕ)). IsNextDomain c.args.text.now i.done c.next_domain.new.self (Ok o)) c.in-Some.is (c.in_ok-cpus.ensures.next c.args.text.now i.done i.following);
      };
    }

pub push_reserved-requires : goal.push_reserved-requires
push_reserved-requires c =
    let i = c.sections.invariant.so_far in
    let w : IsWithin c.args.text.now i.done (empty_section c.in-Some.cpus c.in-Some.limit) c.next_domain.new.self = subst (λ (o : Option (ℕ × ℕ)). IsNextDomain c.args.text.now i.done c.next_domain.new.self (Ok o)) c.in-Some.is (c.in_ok-cpus.ensures.next c.args.text.now i.done i.following) in
    omega (arith, as_many_summed c.sections.runs.items i.done i.figures, w.few, c.sections.invariant.room)

pub sections-preserved : goal.sections-preserved
sections-preserved c =
    let text = c.args.text.now in
    let i = c.sections.invariant.so_far in
    let m = c.in-Ok-summed_read.ensures.read text i.done (subst (λ (o : Option (ℕ × ℕ)). IsNextDomain text i.done c.next_domain.new.self (Ok o)) c.in-Some.is (c.in_ok-cpus.ensures.next text i.done i.following)) in
    rw c.push_reserved.ensures.items (record {
      so_far = record {
        done = i.done ++ m.section ∷ [];
        following = m.following;
        figures = summed_more c.sections.runs.items i.done c.in-Ok-summed_read.run' m.section i.figures m.figures;
        are_jobs = λ wanted. jobs_more c.sections.runs.items i.done c.in-Ok-summed_read.run' m.section (i.are_jobs wanted) (m.are_jobs wanted);
      };
      room = omega (arith, c.sections.invariant.room, c.push_reserved.ensures.capacity);
    })

pub returns-in_err-cpus-clause-fault : goal.returns-in_err-cpus-clause-fault
returns-in_err-cpus-clause-fault c =
    let i = c.sections.invariant.so_far in
    let p = err_from_is_err_and c.from_residual-in_err-cpus.result c.from_residual-in_err-cpus.ensures.1 in
    rw (p.1, p.2) (c.in_err-cpus.ensures.next c.args.text.now i.done i.following).0

pub returns-clause-runs : goal.returns-clause-runs
returns-clause-runs c =
    let i = c.sections.invariant.so_far in
    let read = whole_none c.args.text.now i.done c.next_domain.new.self c.in_ok-cpus.field-0 c.in_default-2.is (c.in_ok-cpus.ensures.next c.args.text.now i.done i.following) in
    record { sections = i.done; read = read.0; spelled = read.1; figures = i.figures; are_jobs = i.are_jobs }
