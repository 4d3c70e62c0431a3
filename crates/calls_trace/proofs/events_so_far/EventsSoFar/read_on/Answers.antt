use Rattle.std.proofs.Common.{ℕ, Option, Ok, subst, arith}
use Rattle.std.proofs.lemmas.Result.{err_from_is_err_and}
use Rattle.calls_text.specs.Reader.{IsWithin, IsNextDomain, empty_section}
use Rattle.calls_text.proofs.CallerLemmas.{whole_none}
use Rattle.calls_trace.proofs.events_so_far.EventsSoFar.read_on.Goals as goal

-- the reader has begun the section
pub read-requires-clause-begun : goal.read-requires-clause-begun
read-requires-clause-begun c =
    let u = c.requires.under_way in
    let i = c.sections.invariant.so_far u.text u.so_far in
    record {
      text = u.text;
      before = i.done;
      within = subst (λ (o : Option (ℕ × ℕ)). IsNextDomain u.text i.done c.next_domain.new.self (Ok o)) c.in-Some.is (c.in_ok-cpus.ensures.next u.text i.done i.following);
    }

pub read-requires-clause-few : goal.read-requires-clause-few
read-requires-clause-few c =
    let u = c.requires.under_way in
    let i = c.sections.invariant.so_far u.text u.so_far in
    let w : IsWithin u.text i.done (empty_section c.in-Some.cpus c.in-Some.limit) c.next_domain.new.self = subst (λ (o : Option (ℕ × ℕ)). IsNextDomain u.text i.done c.next_domain.new.self (Ok o)) c.in-Some.is (c.in_ok-cpus.ensures.next u.text i.done i.following) in
    omega (arith, i.playing.count, w.few)

-- at most 8 sections, each of at most 64 CPUs
pub read-requires-clause-inside : goal.read-requires-clause-inside
read-requires-clause-inside c =
    let u = c.requires.under_way in
    let i = c.sections.invariant.so_far u.text u.so_far in
    let w : IsWithin u.text i.done (empty_section c.in-Some.cpus c.in-Some.limit) c.next_domain.new.self = subst (λ (o : Option (ℕ × ℕ)). IsNextDomain u.text i.done c.next_domain.new.self (Ok o)) c.in-Some.is (c.in_ok-cpus.ensures.next u.text i.done i.following) in
    omega (arith, i.playing.inside, w.few)

pub sections-preserved : goal.sections-preserved
sections-preserved c = record {
  so_far = λ text was.
      let i = c.sections.invariant.so_far text was in
      c.in-Ok.ensures.read text i.done (subst (λ (o : Option (ℕ × ℕ)). IsNextDomain text i.done c.next_domain.new.self (Ok o)) c.in-Some.is (c.in_ok-cpus.ensures.next text i.done i.following)) i.playing;
}

pub returns-in_err-cpus-clause-fault : goal.returns-in_err-cpus-clause-fault
returns-in_err-cpus-clause-fault c = λ text was.
    let i = c.sections.invariant.so_far text was in
    let p = err_from_is_err_and c.from_residual.result c.from_residual.ensures.1 in
    rw (p.1, p.2) (c.in_err-cpus.ensures.next text i.done i.following).0

pub returns-clause-runs : goal.returns-clause-runs
returns-clause-runs c = λ text was.
    let i = c.sections.invariant.so_far text was in
    let read = whole_none text i.done c.next_domain.new.self c.in_ok-cpus.field-0 c.in_default.is (c.in_ok-cpus.ensures.next text i.done i.following) in
    record { sections = i.done; read = read.0; spelled = read.1; lead = i.playing.lead; few = let most = read.0.within.most in omega (arith, i.playing.count, most) }
