use Rattle.std.proofs.Common.{◌<◌, List, ℕ, length, map, ap, arith, sym, subst}
use Rattle.std.specs.Prelude.{flat_map}
use Rattle.std.specs.List.{sum_by}
use Rattle.std.proofs.lemmas.Bool.{ltb-true, lt-ltb}
use Rattle.std.proofs.lemmas.List.{take_all}
use Rattle.std.proofs.lemmas.List.Folds.{flat_map-map}
use Rattle.figure_text.specs.declared.jobs.DomainJobs.{DomainJobs}
use Rattle.figure_text.specs.Jobs.{domain_job_lines, jobs_view_of}
use Rattle.figure_text.specs.Countable.{count_of_jobs, HasShortNames}
use Rattle.figure_text.proofs.Lengths.{one_more_piece, all_pieces, one_more_sum, on_true, header_and}
use Rattle.figure_text.proofs.jobs.is_countable.Goals as goal

pub domains-init : goal.domains-init
domains-init c = record { most = λ small. omega arith; usual = λ short. omega arith }

pub domains-preserved : goal.domains-preserved
domains-preserved c =
    let lines : DomainJobs → List ℕ = λ d. domain_job_lines (jobs_view_of d) in
    let counts : DomainJobs → ℕ = λ d. count_of_jobs (jobs_view_of d) in
    let domains = c.args.domains.now in
    let i = c.domains.domain-index in
    let domain = c.domain-item.result in
    record {
      most = λ small.
          let before = c.domains.invariant.most (omega (arith, c.saturating_add-most.ensures, small)) in
          let one = c.most_of_domain.ensures.most (omega (arith, c.saturating_add-most.ensures, small)) in
          let more = one_more_piece lines domains i domain c.domains-test.true c.domain-item.is in
          omega (arith, before, one, more, c.saturating_add-most.ensures, small);
      usual = λ short.
          let before = c.domains.invariant.usual short in
          let names = subst (λ (d : DomainJobs). HasShortNames (jobs_view_of d)) (sym c.domain-item.is) (short i domain c.domains-test.true) in
          let one = c.most_of_domain.ensures.usual names in
          let more = one_more_sum counts domains i domain c.domains-test.true c.domain-item.is in
          omega (arith, before, one, more, c.saturating_add-most.ensures);
    }

pub returns-clause-countable : goal.returns-clause-countable
returns-clause-countable c = on_true _ (λ test.
    let small = ltb-true c.domains.most 18446744073709551615 test in
    let lines : DomainJobs → List ℕ = λ d. domain_job_lines (jobs_view_of d) in
    let all = c.domains.invariant.most small in
    let pieces = ap length (all_pieces lines c.args.domains.now c.domains.domain-index c.domains-test.false) in
    header_and (flat_map domain_job_lines (map jobs_view_of c.args.domains.now)) c.domains.most (omega (arith, all, pieces, ap length (flat_map-map domain_job_lines jobs_view_of c.args.domains.now))) small)

pub returns-clause-usual : goal.returns-clause-usual
returns-clause-usual c = λ short few.
    let counts : DomainJobs → ℕ = λ d. count_of_jobs (jobs_view_of d) in
    let all = c.domains.invariant.usual short in
    let whole = ap (sum_by counts) (take_all c.domains.domain-index c.args.domains.now c.domains-test.false) in
    let small : c.domains.most < 18446744073709551615 = omega (arith, all, whole, few) in
    lt-ltb c.domains.most 18446744073709551615 small
