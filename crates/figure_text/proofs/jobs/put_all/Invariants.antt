use Rattle.std.proofs.Common.{◌≡◌, drop, map}
use Rattle.std.specs.Prelude.{flat_map}
use Rattle.counted_io.specs.Sides.{inner_of, faults_of}
use Rattle.figure_text.specs.Jobs.{domain_job_lines, jobs_text, jobs_view_of}
use Rattle.figure_text.proofs.Sending.{IsUnderWay}
use Rattle.figure_text.proofs.jobs.put_all.Given as goal

-- the lines of the domains so far are added, and those of the others are to come
abbrev pub invariant-domains : goal.invariant-domains
invariant-domains g l = record {
  under : IsUnderWay (g.W.Write.contents (inner_of l.fn.writer)) (g.W.Write.contents (inner_of l.writer)) l.fn.out l.out (jobs_text (map jobs_view_of l.domains)) (flat_map (λ d. domain_job_lines (jobs_view_of d)) (drop l.domain-index l.domains));
  faults : faults_of l.writer ≡ faults_of l.fn.writer;
}
