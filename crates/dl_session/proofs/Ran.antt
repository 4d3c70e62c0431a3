-- What a run answers, from what its parts answered.
use Rattle.std.proofs.Common.{◌≡◌, ◌≢◌, ℕ, ◌<◌, arith, List, [], Option, Some, None, length, map, get_or, refl, sym, ap, subst, ◌∙◌}
use Rattle.std.specs.Io.KnownBytes.{Keeps}
use Rattle.json_order.specs.Json.{Json}
use Rattle.json_order.specs.Fault as json
use Rattle.json_order.specs.declared.fault.JsonFault.{JsonFault}
use Rattle.json_order.specs.declared.fault.JsonKind.TheVariants as kinds
use Rattle.rtapp_scenario.specs.ScenarioView.{TaskSpecView, ScenarioView}
use Rattle.rtapp_scenario.specs.Scenario.{parsed}
use Rattle.rtapp_scenario.specs.FaultText as profile
use Rattle.rtapp_scenario.specs.declared.fault.ScenarioFault.{ScenarioFault}
use Rattle.rtapp_scenario.specs.declared.fault.ScenarioFault.TheVariants as scenario_faults
use Rattle.calls_text.specs.SectionView.{SectionView}
use Rattle.counted_io.specs.Sides.{HasNoFault}
use Rattle.dl_session.specs.declared.fault.SessionFault.{SessionFault}
use Rattle.dl_session.specs.declared.fault.SessionFault.TheVariants as faults
use Rattle.run_options.specs.declared.options.Options.{Options}
use Rattle.session.specs.declared.refusal.Refusal.{Refusal}
use Rattle.session.specs.declared.report.Report.{Report}
use Rattle.session.specs.SessionId.{SessionId, IsDomainIndex}
use Rattle.session.specs.Report.{IsHistoryOf}
use Rattle.run_options.specs.Options.{AreOptions}
use Rattle.session.specs.Options.{IsSessionOf}
use Rattle.dl_session.specs.ScenarioAnswers.{AnswersScenario}
use Rattle.dl_session.specs.FullBook.{IsFullDomain}
use Rattle.calls_trace.specs.Answer.{Streams, IsInput, NothingWritten}
use Rattle.run_options.specs.declared.options.Print.{Print}
use Rattle.run_options.specs.declared.options.Print.TheVariants as prints
use Rattle.deadline_promise.specs.Answer.{IsPromiseKept}
use Rattle.dl_session.specs.RunAnswer.{IsJson, IsScenario, with_reclaim, advance_for, IsRun, IsTextOfRun, IsRunAnswer, IsRunFault}
use Rattle.dl_session.specs.private.Printing.{IsMadeText}
use Rattle.dl_session.specs.private.Running.{IsJsonLogged, IsScenarioLogged, IsOrMemory}
use Rattle.dl_session.specs.private.Asked.{AnswerTasks, IsRunWritten, IsRunUnwritten}
use Rattle.dl_session.proofs.OrderLaw.{in_order}
use Rattle.dl_session.proofs.Numbering.{AreFrom, scenario_from}
use Rattle.dl_session.proofs.KeptPromises.{promised}
use Rattle.calls_trace.proofs.CallerLemmas.{read_again, same_trace}
use Rattle.session.proofs.CallerLemmas.{length_sets}

-- ---- faults of the input

-- of this fault something was said, from which it is a fault of a run; or memory was refused
faulted : (s : Streams) (o : Options) (e : SessionFault) (this : SessionFault → Type 0) → NothingWritten s → HasNoFault s.reader → HasNoFault s.writer
    → (this e → IsRunFault s o e) → IsOrMemory this e → IsRunFault s o e
faulted s o faults.Memory this unwritten reads writes f logged = record { unwritten = unwritten; reads = reads; writes = writes }
faulted s o (faults.Json g) this unwritten reads writes f logged = f logged
faulted s o (faults.Scenario g) this unwritten reads writes f logged = f logged
faulted s o (faults.Calls n) this unwritten reads writes f logged = f logged
faulted s o faults.Read this unwritten reads writes f logged = f logged
faulted s o (faults.Write n) this unwritten reads writes f logged = f logged
faulted s o faults.Start this unwritten reads writes f logged = f logged
faulted s o faults.Full this unwritten reads writes f logged = f logged

pub json_faulted : (s : Streams) (o : Options) (text : List ℕ) (found : JsonFault) (e : SessionFault)
    → IsInput s text → json.IsJsonFault text found.kind found.at → NothingWritten s → HasNoFault s.reader → HasNoFault s.writer → IsJsonLogged found e → IsRunFault s o e
json_faulted s o text found e input first unwritten reads writes logged =
    faulted s o e (λ e. (e ≡ faults.Json found) × (found.kind ≢ kinds.Memory)) unwritten reads writes
    (λ h. subst (IsRunFault s o) (sym h.0) (record { text = text; input = input; not_memory = h.1; first = first; unwritten = unwritten; reads = reads; writes = writes })) logged

pub scenario_faulted : (s : Streams) (o : Options) (value : Json) (found : ScenarioFault) (e : SessionFault)
    → IsJson s value → profile.IsScenarioFault (parsed value) found → NothingWritten s → HasNoFault s.reader → HasNoFault s.writer → IsScenarioLogged found e → IsRunFault s o e
scenario_faulted s o value found e is first unwritten reads writes logged =
    faulted s o e (λ e. (e ≡ faults.Scenario found) × (found ≢ scenario_faults.Memory)) unwritten reads writes
    (λ h. subst (IsRunFault s o) (sym h.0) (record { value = value; json = is; not_memory = h.1; first = first; unwritten = unwritten; reads = reads; writes = writes })) logged

-- a writer that nobody used
pub keeps_itself : (bytes : Option (List ℕ)) → Keeps bytes bytes
keeps_itself None = tt
keeps_itself (Some xs) = refl

-- ---- the run

abbrev pub ran_answers : (o : Options) (scenario : ScenarioView) (duration advance : ℕ) (given tasks : List TaskSpecView) (id : SessionId) (hs : List SectionView) (refused : List (ℕ × Refusal))
    → record { duration_us = duration; tasks = given } ≡ scenario → advance ≡ advance_for o.print duration → tasks ≡ map (with_reclaim o.reclaim) given → IsSessionOf o id → AnswerTasks id tasks advance hs refused
    → AnswersScenario id o.clients (map (with_reclaim o.reclaim) scenario.tasks) (advance_for o.print scenario.duration_us) (map (λ h. h.entries) hs) refused
ran_answers o scenario duration advance given tasks id histories refused view far same session ran =
    let hs = map (λ h. h.entries) histories in
    subst (λ (x : ScenarioView). AnswersScenario id o.clients (map (with_reclaim o.reclaim) x.tasks) (advance_for o.print x.duration_us) hs refused) view
    (subst (λ (ts : List TaskSpecView). AnswersScenario id o.clients ts (advance_for o.print duration) hs refused) same
    (subst (λ (n : ℕ). AnswersScenario id n tasks (advance_for o.print duration) hs refused) session.clients
    (subst (λ (n : ℕ). AnswersScenario id id.clients tasks n hs refused) far ran.answers)))

abbrev pub is_run : (s : Streams) (o : Options) (scenario : ScenarioView) (duration advance : ℕ) (given tasks : List TaskSpecView) (id : SessionId) (hs : List SectionView) (refused : List (ℕ × Refusal))
    → AreOptions o → IsScenario s scenario → record { duration_us = duration; tasks = given } ≡ scenario → advance ≡ advance_for o.print duration → tasks ≡ map (with_reclaim o.reclaim) given → IsSessionOf o id
    → AnswerTasks id tasks advance hs refused
    → IsRun s o hs refused
is_run s o scenario duration advance given tasks id hs refused options input view far same session ran = record {
  scenario = scenario;
  input = input;
  id = id;
  session = session;
  count = ran.count;
  legal = ran.legal;
  replayed = record {
    read =
        let count = ran.count in
        let domains = ap length session.cpu_sets ∙ length_sets 0 o.domains.items in
        read_again hs (omega (arith, options.some_domains, domains, count)) (omega (arith, options.few_domains, domains, count)) (λ d x inside. (ran.legal d x (omega (arith, inside, count))).spelled);
    same = same_trace hs;
  };
  answers = ran_answers o scenario duration advance given tasks id hs refused view far same session ran;
  in_order = in_order id o.clients (map (with_reclaim o.reclaim) scenario.tasks) (advance_for o.print scenario.duration_us) hs refused options.a_client ran.count ran.legal
      (ran_answers o scenario duration advance given tasks id hs refused view far same session ran);
}

-- ---- what is written of it

-- what was made is what is printed: promises are kept
printed_as : (print : Print) (duration : ℕ) (id : SessionId) (clients : ℕ) (tasks : List TaskSpecView) (hs : List SectionView) (refused : List (ℕ × Refusal)) (text : List ℕ)
    → IsPromiseKept → AreFrom 1 tasks → length hs ≡ length id.cpu_sets → ((d : ℕ) (x : SectionView) → IsDomainIndex id d → IsHistoryOf id d [] (get_or hs d x))
    → AnswersScenario id clients tasks (advance_for print duration) (map (λ h. h.entries) hs) refused → IsMadeText print tasks hs text → IsTextOfRun print tasks hs text
printed_as prints.Trace duration id clients tasks hs refused text kept numbered count legal answers made = made
printed_as prints.Calls duration id clients tasks hs refused text kept numbered count legal answers made = made
printed_as prints.Replies duration id clients tasks hs refused text kept numbered count legal answers made = made
printed_as prints.Events duration id clients tasks hs refused text kept numbered count legal answers made = made
printed_as prints.Jobs duration id clients tasks hs refused text kept numbered count legal answers made = made
printed_as prints.Summary duration id clients tasks hs refused text kept numbered count legal answers made = made
printed_as prints.Promises duration id clients tasks hs refused text kept numbered count legal answers made = promised id clients tasks hs refused text kept numbered count legal answers made
printed_as (prints.Chart span) duration id clients tasks hs refused text kept numbered count legal answers made = made

run_printed : (s : Streams) (o : Options) (hs : List SectionView) (refused : List (ℕ × Refusal)) (run : IsRun s o hs refused) (tasks : List TaskSpecView) (written : List SectionView) (text : List ℕ)
    → IsPromiseKept → tasks ≡ map (with_reclaim o.reclaim) run.scenario.tasks → written ≡ hs → IsMadeText o.print tasks written text → IsTextOfRun o.print (map (with_reclaim o.reclaim) run.scenario.tasks) hs text
run_printed s o hs refused run tasks written text kept same_tasks same made =
    printed_as o.print run.scenario.duration_us run.id o.clients (map (with_reclaim o.reclaim) run.scenario.tasks) hs refused text kept
    (scenario_from run.input.value run.scenario o.reclaim run.input.parsed) run.count run.legal run.answers
    (subst (λ (ts : List TaskSpecView). IsMadeText o.print ts hs text) same_tasks (subst (λ (xs : List SectionView). IsMadeText o.print tasks xs text) same made))

pub tasks_as : (o : Options) (scenario : ScenarioView) (duration : ℕ) (given tasks : List TaskSpecView) → record { duration_us = duration; tasks = given } ≡ scenario → tasks ≡ map (with_reclaim o.reclaim) given
    → tasks ≡ map (with_reclaim o.reclaim) scenario.tasks
tasks_as o scenario duration given tasks view same = same ∙ ap (λ (x : ScenarioView). map (with_reclaim o.reclaim) x.tasks) view

-- the text of the run was written
pub run_answered : (s : Streams) (o : Options) (scenario : ScenarioView) (duration advance : ℕ) (given tasks : List TaskSpecView) (id : SessionId) (r : Report)
    → IsPromiseKept → AreOptions o → IsScenario s scenario → record { duration_us = duration; tasks = given } ≡ scenario → advance ≡ advance_for o.print duration → tasks ≡ map (with_reclaim o.reclaim) given → IsSessionOf o id
    → HasNoFault s.reader → IsRunWritten id tasks advance o.print s.writer r → IsRunAnswer s o r
run_answered s o scenario duration advance given tasks id r kept options input view far same session reads ran =
    let run = is_run s o scenario duration advance given tasks id r.histories.items r.refused.items options input view far same session ran.run in
    record {
      run = run;
      left = ran.left;
      text = ran.written.text;
      printed = run_printed s o r.histories.items r.refused.items run tasks r.histories.items ran.written.text kept (tasks_as o scenario duration given tasks view same) refl ran.written.said;
      written = ran.written.written.taken;
      reads = reads;
      writes = ran.written.written.writes;
    }

-- or it was not
pub run_unanswered : (s : Streams) (o : Options) (scenario : ScenarioView) (duration advance : ℕ) (given tasks : List TaskSpecView) (id : SessionId) (e : SessionFault)
    → IsPromiseKept → AreOptions o → IsScenario s scenario → record { duration_us = duration; tasks = given } ≡ scenario → advance ≡ advance_for o.print duration → tasks ≡ map (with_reclaim o.reclaim) given → IsSessionOf o id
    → HasNoFault s.reader → IsRunUnwritten id tasks advance o.print s.writer e → IsRunFault s o e
run_unanswered s o scenario duration advance given tasks id (faults.Write n) kept options input view far same session reads met =
    let run = is_run s o scenario duration advance given tasks id met.histories met.refused options input view far same session met.run in
    record {
      histories = met.histories;
      refused = met.refused;
      run = run;
      text = met.cut.text;
      printed = run_printed s o met.histories met.refused run tasks met.histories met.cut.text kept (tasks_as o scenario duration given tasks view same) refl met.cut.said;
      taken = met.cut.cut.taken;
      reads = reads;
      writes = met.cut.cut.writes;
    }
run_unanswered s o scenario duration advance given tasks id faults.Start kept options input view far same session reads met =
    record { scenario = scenario; input = input; unwritten = met.kept; reads = reads; writes = met.no_fault }
run_unanswered s o scenario duration advance given tasks id faults.Memory kept options input view far same session reads met = record { unwritten = met.kept; reads = reads; writes = met.no_fault }
run_unanswered s o scenario duration advance given tasks id faults.Full kept options input view far same session reads met = record {
  scenario = scenario;
  input = input;
  advances = subst (λ (x : ScenarioView). 0 < advance_for o.print x.duration_us) view (subst (λ (n : ℕ). 0 < n) far met.1);
  id = id;
  session = session;
  full =
      subst (λ (x : ScenarioView). IsFullDomain id o.clients (map (with_reclaim o.reclaim) x.tasks)) view
      (subst (λ (ts : List TaskSpecView). IsFullDomain id o.clients ts) same
      (subst (λ (n : ℕ). IsFullDomain id n tasks) session.clients met.2));
  unwritten = met.0.kept;
  reads = reads;
  writes = met.0.no_fault;
}
run_unanswered s o scenario duration advance given tasks id (faults.Json f) kept options input view far same session reads met = absurd met
run_unanswered s o scenario duration advance given tasks id (faults.Scenario f) kept options input view far same session reads met = absurd met
run_unanswered s o scenario duration advance given tasks id (faults.Calls n) kept options input view far same session reads met = absurd met
run_unanswered s o scenario duration advance given tasks id faults.Read kept options input view far same session reads met = absurd met
