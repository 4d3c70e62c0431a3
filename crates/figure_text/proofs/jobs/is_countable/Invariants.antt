use Rattle.std.proofs.Common.{◌+◌, ◌-◌, ◌<◌, ◌≤◌, ◌^◌, length, take}
use Rattle.std.specs.Prelude.{flat_map}
use Rattle.figure_text.specs.Jobs.{domain_job_lines, jobs_view_of}
use Rattle.figure_text.specs.Countable.{count_of_jobs, HasShortNames}
use Rattle.std.specs.List.{sum_by}
use Rattle.std.specs.Prelude.{All}
use Rattle.std.proofs.Common.{◌*◌}
use Rattle.figure_text.proofs.jobs.is_countable.Given as goal

abbrev pub invariant-domains : goal.invariant-domains
invariant-domains l = record {
  most : l.most < 2 ^ 64 - 1 → 88 + length (flat_map (λ d. domain_job_lines (jobs_view_of d)) (take l.domain-index l.domains)) ≤ l.most;
  usual : All (λ d. HasShortNames (jobs_view_of d)) l.domains → l.most ≤ 88 + 512 * sum_by (λ d. count_of_jobs (jobs_view_of d)) (take l.domain-index l.domains);
}
