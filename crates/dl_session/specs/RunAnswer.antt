-- What a run of a scenario answers, and what it leaves (own).
use Rattle.std.specs.Prelude.{◌≡◌, ◌≢◌, ℕ, ◌<◌, Bool, if◌then◌else◌, List, [], length, map, Ok, slice_index_or}
use Rattle.std.specs.Io.KnownBytes.{Appends}
use Rattle.json_order.specs.Json.{Json}
use Rattle.json_order.specs.Fault.{strict, Spells}
use Rattle.json_order.specs.Fault as json
use Rattle.json_order.specs.declared.fault.JsonFault.{JsonFault}
use Rattle.json_order.specs.declared.fault.JsonKind.TheVariants as kinds
use Rattle.rtapp_scenario.specs.ScenarioView.{TaskSpecView, ScenarioView}
use Rattle.rtapp_scenario.specs.Scenario.{parsed}
use Rattle.rtapp_scenario.specs.FaultText as profile
use Rattle.rtapp_scenario.specs.declared.fault.ScenarioFault.{ScenarioFault}
use Rattle.rtapp_scenario.specs.declared.fault.ScenarioFault.TheVariants as scenario_faults
use Rattle.calls_text.specs.SectionView.{SectionView}
use Rattle.calls_text.specs.Spelling.{spelling}
use Rattle.calls_text.specs.Limits.{AreRead}
use Rattle.calls_text.specs.RoundTrip.{without_replies}
use Rattle.counted_io.specs.Sides.{HasNoFault, HasOneFault}
use Rattle.counted_io.specs.Faults.{TakesFront}
use Rattle.dl_session.specs.declared.fault.SessionFault.{SessionFault}
use Rattle.dl_session.specs.declared.fault.SessionFault.TheVariants as faults
use Rattle.run_options.specs.declared.options.Options.{Options}
use Rattle.run_options.specs.declared.options.Print.{Print}
use Rattle.run_options.specs.declared.options.Print.TheVariants as prints
use Rattle.session.specs.declared.refusal.Refusal.{Refusal}
use Rattle.session.specs.declared.report.Report.{Report}
use Rattle.session.specs.SessionId.{SessionId, IsDomainIndex}
use Rattle.session.specs.Options.{IsSessionOf}
use Rattle.session.specs.Report.{IsHistoryOf, IsLeft}
use Rattle.dl_session.specs.ScenarioAnswers.{AnswersScenario}
use Rattle.dl_session.specs.FullBook.{IsFullDomain}
use Rattle.dl_session.specs.InOrder.{sections_in_order}
use Rattle.dl_session.specs.Promised.{ArePromises}
use Rattle.reply_text.specs.Replies.{replies_of}
use Rattle.calls_trace.specs.Replay.{trace_of_sections}
use Rattle.calls_trace.specs.DomainEvents.{events_of_sections, jobs_of_sections, summary_of_sections}
use Rattle.calls_trace.specs.Charted.{chart_of_sections}
use Rattle.calls_trace.specs.Answer.{Streams, IsInput, NothingWritten, IsUnread, IsOutOfMemory}

-- ---- the scenario

-- what the input spells as JSON
pub record IsJson (s : Streams) (value : Json) : Type 0 where
  pub text : List ℕ
  pub input : IsInput s text
  pub spelled : Spells strict text value

-- the scenario that the input spells
pub record IsScenario (s : Streams) (scenario : ScenarioView) : Type 0 where
  pub value : Json
  pub json : IsJson s value
  pub parsed : parsed value ≡ Ok scenario

-- a task as it is admitted: with SCHED_FLAG_RECLAIM (2) where the options ask for it
-- (sched_setattr(2))
abbrev pub with_reclaim : Bool → TaskSpecView → TaskSpecView
with_reclaim reclaim t = if reclaim then record t { attr = record t.attr { flags = 2 } } else t

-- ---- the run

-- how far each domain is advanced, in microseconds: by the whole duration, and not at all for
-- promises
abbrev pub advance_for : Print → ℕ → ℕ
advance_for prints.Trace duration = duration
advance_for prints.Calls duration = duration
advance_for prints.Replies duration = duration
advance_for prints.Events duration = duration
advance_for prints.Jobs duration = duration
advance_for prints.Summary duration = duration
advance_for prints.Promises duration = 0
advance_for (prints.Chart span) duration = duration

-- the calls text of histories is read again, as the same calls, and its replay writes the same
-- trace
pub record AreReplayed (histories : List SectionView) : Type 0 where
  pub read : AreRead (map without_replies histories)
  pub same : trace_of_sections (map without_replies histories) ≡ trace_of_sections histories

-- the session has the domains and clients of the options; each domain's history is legal and was
-- made by its clients; their calls text can be replayed; histories and refusals answer the
-- scenario; and the trace is that of each domain's admitted tasks, entered in their order, and then
-- the advance: for every number of clients the same, where the same tasks are admitted
pub record IsRun (s : Streams) (o : Options) (histories : List SectionView)
    (refused : List (ℕ × Refusal)) : Type 0 where
  pub scenario : ScenarioView
  pub input : IsScenario s scenario
  pub id : SessionId
  pub session : IsSessionOf o id
  pub count : length histories ≡ length id.cpu_sets
  pub legal : (d : ℕ) (x : SectionView) → IsDomainIndex id d
      → IsHistoryOf id d [] (slice_index_or histories d x)
  pub replayed : AreReplayed histories
  pub answers : AnswersScenario id o.clients
      (map (with_reclaim o.reclaim) scenario.tasks) (advance_for o.print scenario.duration_us)
      (map (λ h. h.entries) histories) refused
  pub in_order : trace_of_sections histories
      ≡ trace_of_sections
      (sections_in_order id answers.asked (advance_for o.print scenario.duration_us))

-- what is written of histories: the trace of their run, their calls text, their calls with the
-- replies, the trace with what happens, the jobs or the figures of what happens, or a part of their
-- run as a chart; or promises, of which this is said
abbrev pub IsTextWith : (List ℕ → Type 0) → Print → List SectionView → List ℕ → Type 0
IsTextWith promises prints.Trace histories text = text ≡ trace_of_sections histories
IsTextWith promises prints.Calls histories text = text ≡ spelling histories
IsTextWith promises prints.Replies histories text = text ≡ replies_of histories
IsTextWith promises prints.Events histories text = text ≡ events_of_sections histories
IsTextWith promises prints.Jobs histories text = text ≡ jobs_of_sections histories
IsTextWith promises prints.Summary histories text = text ≡ summary_of_sections histories
IsTextWith promises prints.Promises histories text = promises text
IsTextWith promises (prints.Chart span) histories text = text ≡ chart_of_sections span histories

-- what is written of the histories of a run with these tasks
abbrev pub IsTextOfRun : Print → List TaskSpecView → List SectionView → List ℕ → Type 0
IsTextOfRun print tasks histories text =
    IsTextWith (ArePromises tasks histories) print histories text

-- ---- what is answered

-- the histories and refusals of a run, the words that it left, and their text was written, and
-- nothing else
pub record IsRunAnswer (s : Streams) (o : Options) (r : Report) : Type 0 where
  pub run : IsRun s o r.histories.items r.refused.items
  pub left : IsLeft run.id [] r
  pub text : List ℕ
  pub printed : IsTextOfRun o.print (map (with_reclaim o.reclaim) run.scenario.tasks)
      r.histories.items text
  pub written : Appends s.writer.before.bytes s.writer.after.bytes text
  pub reads : HasNoFault s.reader
  pub writes : HasNoFault s.writer

-- ---- faults

-- the input is no JSON, and nothing was written
pub record IsNoJson (s : Streams) (fault : JsonFault) : Type 0 where
  pub text : List ℕ
  pub input : IsInput s text
  pub not_memory : fault.kind ≢ kinds.Memory
  pub first : json.IsJsonFault text fault.kind fault.at
  pub unwritten : NothingWritten s
  pub reads : HasNoFault s.reader
  pub writes : HasNoFault s.writer

-- the input is JSON and no scenario, and nothing was written
pub record IsNoScenario (s : Streams) (fault : ScenarioFault) : Type 0 where
  pub value : Json
  pub json : IsJson s value
  pub not_memory : fault ≢ scenario_faults.Memory
  pub first : profile.IsScenarioFault (parsed value) fault
  pub unwritten : NothingWritten s
  pub reads : HasNoFault s.reader
  pub writes : HasNoFault s.writer

-- the scenario asks for an advance, and in a session of the options a domain had no room for it,
-- once the tasks were asked: its history had as many entries as the options give it; nothing was
-- written
pub record LacksRoomToAdvance (s : Streams) (o : Options) : Type 0 where
  pub scenario : ScenarioView
  pub input : IsScenario s scenario
  pub advances : 0 < advance_for o.print scenario.duration_us
  pub id : SessionId
  pub session : IsSessionOf o id
  pub full : IsFullDomain id o.clients (map (with_reclaim o.reclaim) scenario.tasks)
  pub unwritten : NothingWritten s
  pub reads : HasNoFault s.reader
  pub writes : HasNoFault s.writer

-- the input is a scenario, and nothing was written; no clause says that the system started no
-- thread for one of its clients
pub record IsUnstarted (s : Streams) : Type 0 where
  pub scenario : ScenarioView
  pub input : IsScenario s scenario
  pub unwritten : NothingWritten s
  pub reads : HasNoFault s.reader
  pub writes : HasNoFault s.writer

-- the writer failed: exactly that many bytes of the text of a run were taken, and not all
pub record IsRunCutOff (s : Streams) (o : Options) (written : ℕ) : Type 0 where
  pub histories : List SectionView
  pub refused : List (ℕ × Refusal)
  pub run : IsRun s o histories refused
  pub text : List ℕ
  pub printed : IsTextOfRun o.print (map (with_reclaim o.reclaim) run.scenario.tasks) histories text
  pub taken : TakesFront s.writer.before.bytes s.writer.after.bytes text written
  pub reads : HasNoFault s.reader
  pub writes : HasOneFault s.writer

-- a fault is what was met
abbrev pub IsRunFault : Streams → Options → SessionFault → Type 0
IsRunFault s o (faults.Json fault) = IsNoJson s fault
IsRunFault s o (faults.Scenario fault) = IsNoScenario s fault
IsRunFault s o (faults.Calls n) = ⊥
IsRunFault s o faults.Read = IsUnread s
IsRunFault s o (faults.Write written) = IsRunCutOff s o written
IsRunFault s o faults.Start = IsUnstarted s
IsRunFault s o faults.Full = LacksRoomToAdvance s o
IsRunFault s o faults.Memory = IsOutOfMemory s
