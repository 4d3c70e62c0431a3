-- The report of two texts, from its parts.
use Rattle.std.proofs.Common.{◌≡◌, ℕ, Bool, List, length, Option, Result, Ok, Err, ap, sym, subst, ◌∙◌}
use Rattle.std.specs.Prelude.{IfOk}
use Rattle.std.specs.Option.{option_map}
use Rattle.recorded_text.specs.declared.step.Step.{Step}
use Rattle.trace_compare.specs.declared.clock.ClockShift.{ClockShift}
use Rattle.trace_compare.specs.declared.task.TaskRuns.{TaskRuns}
use Rattle.trace_compare.specs.declared.comparing.Compared.{Compared}
use Rattle.trace_compare.specs.declared.pairs.Matching.{Matching}
use Rattle.trace_compare.specs.Tasks.{IsNoise, AreTasksOf}
use Rattle.trace_compare.specs.Compared.{IsCompared, AreMatched}
use Rattle.trace_compare.specs.Differences.{first_start, last_end}
use Rattle.compare_report.specs.declared.finding.Finding.{Finding}
use Rattle.compare_report.specs.declared.options.CompareOptions.{CompareOptions}
use Rattle.compare_report.specs.declared.report.Summed.{Summed}
use Rattle.compare_report.specs.declared.tally.Tally.{Tally}
use Rattle.compare_report.specs.Findings.{AreFindings}
use Rattle.compare_report.specs.Tally.{tally_of}
use Rattle.compare_report.specs.Text.{IsTextOf}
use Rattle.compare_report.specs.Reading.{pair}
use Rattle.compare_report.specs.Report.{asked_shift, IsReport}
use Rattle.compare_report.specs.private.Fitting.{AreFitting, IsReportOfRuns}
use Rattle.compare_report.proofs.Lengths.{fitting}

-- from what is told of the tasks, under the names that the code has for the parts
pub of_findings : (text : List ℕ) (tally : Tally) (cpus : Bool) (names : List (List ℕ)) (tasks : List TaskRuns) (compared : Compared) (matchings : List Matching) (findings seen summed : List Finding) (shift : ClockShift) (from until : ℕ)
    → shift ≡ compared.shift → from ≡ first_start tasks → until ≡ last_end tasks → matchings ≡ compared.tasks.items → seen ≡ findings → summed ≡ findings
    → AreFindings shift from until names tasks matchings (length tasks) findings
    → tally ≡ tally_of summed
    → IsTextOf cpus compared.shift tally seen text
    → IsReportOfRuns cpus names tasks compared text tally
of_findings text tally cpus names tasks compared matchings findings seen summed shift from until same_shift same_from same_until same_matchings same_seen same_summed told counted h =
    let with_shift = subst (λ (s : ClockShift). AreFindings s from until names tasks matchings (length tasks) findings) same_shift told in
    let with_from = subst (λ (f : ℕ). AreFindings compared.shift f until names tasks matchings (length tasks) findings) same_from with_shift in
    let with_until = subst (λ (u : ℕ). AreFindings compared.shift (first_start tasks) u names tasks matchings (length tasks) findings) same_until with_from in
    record {
      findings = findings;
      are_findings = subst (λ (ms : List Matching). AreFindings compared.shift (first_start tasks) (last_end tasks) names tasks ms (length tasks) findings) same_matchings with_until;
      counted = counted ∙ ap tally_of same_summed;
      is_text = subst (λ (fs : List Finding). IsTextOf cpus compared.shift tally fs text) same_seen h;
    }

pub of_runs : {E : Type 0} (r : Result Summed E) (asked : CompareOptions) (names : List (List ℕ)) (many : ℕ) (model recorded : List Step) (tasks one two : List TaskRuns) (compared : Compared) (within : ℕ) (shift : Option ClockShift) (noise : Option ℕ)
    → within ≡ asked.within → shift ≡ option_map asked_shift asked.shift → noise ≡ asked.noise → one ≡ tasks → two ≡ tasks
    → (n : ℕ) × IsNoise noise model many n × AreTasksOf n model recorded many tasks
    → IsCompared within shift one compared
    → IfOk r (λ s. IsReportOfRuns asked.cpus names two compared s.text.items s.tally)
    → IfOk r (λ s. IsReport asked (pair names many model recorded) s.text.items s.tally)
of_runs (Err e) asked names many model recorded tasks one two compared within shift noise a b c d e2 (n, is_noise, are_tasks) is_compared h = tt
of_runs (Ok s) asked names many model recorded tasks one two compared within shift noise same_within same_shift same_noise first second (n, is_noise, are_tasks) is_compared h =
    let with_within = subst (λ (w : ℕ). IsCompared w shift one compared) same_within is_compared in
    let with_shift = subst (λ (o : Option ClockShift). IsCompared asked.within o one compared) same_shift with_within in
    record {
      noise = n;
      is_noise = subst (λ (o : Option ℕ). IsNoise o model many n) same_noise is_noise;
      tasks = tasks;
      are_tasks = are_tasks;
      compared = compared;
      is_compared = subst (λ (ts : List TaskRuns). IsCompared asked.within (option_map asked_shift asked.shift) ts compared) first with_shift;
      findings = h.findings;
      are_findings = subst (λ (ts : List TaskRuns). AreFindings compared.shift (first_start ts) (last_end ts) names ts compared.tasks.items (length ts) h.findings) second h.are_findings;
      counted = h.counted;
      is_text = h.is_text;
    }

-- the matchings fit the tasks, whatever the code calls these
pub fitting_in : (within : ℕ) (shift : ClockShift) (tasks one two : List TaskRuns) (matchings : List Matching) → one ≡ tasks → two ≡ tasks → AreMatched within shift one (length one) matchings → AreFitting two matchings
fitting_in within shift tasks one two matchings first second h =
    subst (λ (ts : List TaskRuns). AreFitting ts matchings) (first ∙ sym second) (fitting within shift one matchings h)
