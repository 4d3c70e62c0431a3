use Rattle.std.proofs.Common.{◌≡◌, ℕ, ◌+◌, List, [], ◌++◌, map, sym, ap, ◌∙◌, subst, drop}
use Rattle.std.specs.Prelude.{flat_map}
use Rattle.counted_io.specs.Sides.{inner_of}
use Rattle.figure_text.specs.Jobs.{domain_job_lines, jobs_text, job_header, jobs_view_of}
use Rattle.std.proofs.lemmas.List.Folds.{flat_map-map}
use Rattle.std.proofs.Common.{append-nil}
use Rattle.figure_text.specs.declared.jobs.DomainJobs.{DomainJobs}
use Rattle.figure_text.specs.private.Outgoing.{Puts, Stops}
use Rattle.figure_text.proofs.Sending.{next_piece, no_piece, puts_then, stops_then, stops_before, begins, goes_on, stops_there, ends, on_ok, on_err, anyway}
use Rattle.figure_text.proofs.jobs.put_all.Goals as goal

pub returns-in_err-put-clause-err : goal.returns-in_err-put-clause-err
returns-in_err-put-clause-err g c =
    let before = g.W.Write.contents (inner_of c.args.writer.now) in
    let domains = c.args.domains.now in
    let lines : DomainJobs → List ℕ = λ d. domain_job_lines (jobs_view_of d) in
    let text = jobs_text (map jobs_view_of domains) in
    let mid = g.W.Write.contents (inner_of c.put.new.writer) in
    let whole : text ≡ job_header ++ flat_map lines domains = ap (λ (xs : List ℕ). job_header ++ xs) (flat_map-map domain_job_lines jobs_view_of domains) in
    anyway c.from_residual.result
    (subst (Stops before mid c.args.out.now c.put.new.self) (sym whole)
    (stops_before before mid c.args.out.now c.put.new.self job_header (flat_map lines domains) c.in_err-put.ensures.err))

pub domains-init : goal.domains-init
domains-init g c =
    let before = g.W.Write.contents (inner_of c.args.writer.now) in
    let domains = c.args.domains.now in
    let lines : DomainJobs → List ℕ = λ d. domain_job_lines (jobs_view_of d) in
    let text = jobs_text (map jobs_view_of domains) in
    let mid = g.W.Write.contents (inner_of c.put.new.writer) in
    let whole : text ≡ job_header ++ flat_map lines domains = ap (λ (xs : List ℕ). job_header ++ xs) (flat_map-map domain_job_lines jobs_view_of domains) in
    record {
      under = goes_on before before mid c.args.out.now c.args.out.now c.put.new.self text text job_header (flat_map lines domains) (begins before c.args.out.now text) whole c.in_ok-put.ensures.ok;
      faults = c.in_ok-put.ensures.faults;
    }

pub returns-in_err-put_domain-clause-err : goal.returns-in_err-put_domain-clause-err
returns-in_err-put_domain-clause-err g c =
    let before = g.W.Write.contents (inner_of c.args.writer.now) in
    let domains = c.args.domains.now in
    let lines : DomainJobs → List ℕ = λ d. domain_job_lines (jobs_view_of d) in
    let text = jobs_text (map jobs_view_of domains) in
    let mid = g.W.Write.contents (inner_of c.domains.writer) in
    let after = g.W.Write.contents (inner_of c.put_domain.new.writer) in
    let i = c.domains.domain-index in
    let domain = c.domain-item.result in
    let left = flat_map lines (drop i domains) in
    let rest = flat_map lines (drop (i + 1) domains) in
    let next : left ≡ lines domain ++ rest = next_piece lines domains i domain c.domains-test.true c.domain-item.is in
    anyway c.from_residual-in_err-put_domain.result
    (stops_there before mid after c.args.out.now c.domains.out c.put_domain.new.out text left (lines domain) rest c.domains.invariant.under next c.in_err-put_domain.ensures.err)

pub domains-preserved : goal.domains-preserved
domains-preserved g c =
    let before = g.W.Write.contents (inner_of c.args.writer.now) in
    let domains = c.args.domains.now in
    let lines : DomainJobs → List ℕ = λ d. domain_job_lines (jobs_view_of d) in
    let text = jobs_text (map jobs_view_of domains) in
    let mid = g.W.Write.contents (inner_of c.domains.writer) in
    let after = g.W.Write.contents (inner_of c.put_domain.new.writer) in
    let i = c.domains.domain-index in
    let domain = c.domain-item.result in
    let left = flat_map lines (drop i domains) in
    let rest = flat_map lines (drop (i + 1) domains) in
    let next : left ≡ lines domain ++ rest = next_piece lines domains i domain c.domains-test.true c.domain-item.is in
    record {
      under = goes_on before mid after c.args.out.now c.domains.out c.put_domain.new.out text left (lines domain) rest c.domains.invariant.under next c.in_ok-put_domain.ensures.ok;
      faults = c.in_ok-put_domain.ensures.faults ∙ c.domains.invariant.faults;
    }

pub returns-clause-ok : goal.returns-clause-ok
returns-clause-ok g c =
    let before = g.W.Write.contents (inner_of c.args.writer.now) in
    let domains = c.args.domains.now in
    let lines : DomainJobs → List ℕ = λ d. domain_job_lines (jobs_view_of d) in
    let text = jobs_text (map jobs_view_of domains) in
    let mid = g.W.Write.contents (inner_of c.domains.writer) in
    let after = g.W.Write.contents (inner_of c.flush.new.writer) in
    let i = c.domains.domain-index in
    let all = ends before mid c.args.out.now c.domains.out text (flat_map lines (drop i domains)) c.domains.invariant.under (no_piece lines domains i c.domains-test.false) in
    on_ok c.flush.result
    (λ p. subst (Puts before after c.args.out.now c.flush.new.self) (append-nil text)
    (puts_then before mid after c.args.out.now c.domains.out c.flush.new.self text [] all p))
    c.flush.ensures.ok

pub returns-clause-err : goal.returns-clause-err
returns-clause-err g c =
    let before = g.W.Write.contents (inner_of c.args.writer.now) in
    let domains = c.args.domains.now in
    let lines : DomainJobs → List ℕ = λ d. domain_job_lines (jobs_view_of d) in
    let text = jobs_text (map jobs_view_of domains) in
    let mid = g.W.Write.contents (inner_of c.domains.writer) in
    let after = g.W.Write.contents (inner_of c.flush.new.writer) in
    let i = c.domains.domain-index in
    let all = ends before mid c.args.out.now c.domains.out text (flat_map lines (drop i domains)) c.domains.invariant.under (no_piece lines domains i c.domains-test.false) in
    on_err c.flush.result
    (λ s. subst (Stops before after c.args.out.now c.flush.new.self) (append-nil text)
    (stops_then before mid after c.args.out.now c.domains.out c.flush.new.self text [] all s))
    c.flush.ensures.err
