-- How a run of a scenario ends: client 1 advances each domain, and all books are closed (own).
use Rattle.std.specs.Prelude.{◌≡◌, ℕ, ◌+◌, ◌-◌, ◌<◌, ◌==◌, ◌&&◌, nat_lt, if◌then◌else◌, Bool, true, false, IsTrue, List, [], ◌∷◌}
use Rattle.std.specs.Prelude.{◌++◌, length, map, take, All, Some, slice_index_or}
use Rattle.domain_run.specs.declared.call.Call.TheVariants.{Advance}
use Rattle.domain_run.specs.declared.call.Reply.TheVariants as replies
use Rattle.domain_run.specs.declared.happened.Happened.{Happened}
use Rattle.domain_run.specs.Happened.{logged_by_ticks}
use Rattle.domain_run.specs.Log.{LogView}
use Rattle.domain_run.specs.Domain.{Domain}
use Rattle.domain_run.specs.Passing.{without_switches}
use Rattle.domain_run.specs.Run.{run_of}
use Rattle.run_figures.specs.Accounting.{AccountingView}
use Rattle.streamed_run.specs.Streamed.{streamed_of}
use Rattle.chart_pieces.specs.declared.window.Window.{Window}
use Rattle.chart_pieces.specs.Drawing.{DrawingView}
use Rattle.calls_text.specs.declared.section.Entry.{Entry}
use Rattle.calls_text.specs.Histories.{calls_of}
use Rattle.calls_text.specs.SectionView.{SectionView}
use Rattle.calls_text.specs.Histories.{AreRuns}
use Rattle.session.specs.declared.fault.EndFault.{EndFault}
use Rattle.session.specs.declared.fault.EndFault.TheVariants.{Full, Memory}
use Rattle.session.specs.declared.report.Finished.{Finished}
use Rattle.session.specs.declared.report.Wanted.{Wanted}
use Rattle.session.specs.declared.report.Wanted.TheVariants.{Switches, Happened as WhatHappened, Figures, Jobs, Chart}
use Rattle.session.specs.SessionId.{SessionId, IsDomainIndex}
use Rattle.session.specs.Asks.{ClientView, Made, Makes}
use Rattle.session.specs.Report.{IsHistoryOf, IsSessionReport}

-- ---- the advance

-- client 1 advances each domain once, at its end; nobody does where the duration is 0
abbrev pub advance_of : ℕ → ℕ → List Made
advance_of duration client =
    if client == 1 && nat_lt 0 duration
    then (record { call = Advance duration; reply = replies.Done duration } ∷ [])
    else []

-- the last entry of all is client 1's advance
pub record IsEnd (duration : ℕ) (history : List Entry) : Type 0 where
  pub before : List Entry
  pub last : Entry
  pub all : history ≡ before ++ last ∷ []
  pub client : last.client ≡ 1
  pub call : last.call ≡ Advance duration
  pub reply : last.reply ≡ Some (replies.Done duration)

abbrev pub EndsWith : ℕ → List Entry → Type 0
EndsWith duration history = 0 < duration → IsEnd duration history

-- what so many ticks at the end of a domain's history tell: from the state that all entries but the
-- last lead to
abbrev pub logged_at_end : ℕ → ℕ → ℕ → List Entry → List Happened
logged_at_end ticks cpus limit entries =
    logged_by_ticks ticks (run_of cpus limit (calls_of (take (length entries - 1) entries)))

-- a log that keeps what it logs where that is wanted, and has exactly this then
pub record IsLogOf (wanted : Bool) (logged : List Happened) (log : LogView) : Type 0 where
  pub alike : log.wanted ≡ wanted
  pub has : IsTrue wanted → log.happened ≡ logged

-- ---- what it leaves

-- the first of these clients is client 1
abbrev pub FirstIsOne : List ClientView → Type 0
FirstIsOne clients = (x : ClientView) → (slice_index_or clients 0 x).number ≡ 1

-- each client has entered its advance of each domain, and nothing else: client 1 one of the whole
-- duration, the others none
pub record HaveAdvanced (duration : ℕ) (before after : List ClientView) : Type 0 where
  pub places : length after ≡ length before
  pub each : (i : ℕ) (x : ClientView) → i < length before
      → Makes (slice_index_or before i x) (slice_index_or after i x)
      (λ d. advance_of duration (i + 1))

-- the state to which a history leads
abbrev pub run_in : SectionView → Domain
run_in h = run_of h.cpus h.limit (calls_of h.entries)

-- the states are the runs of the histories; the log of each domain has what client 1's advance
-- logs, where that is wanted, and nothing where the duration is 0
pub record AreRunsLogged (duration : ℕ) (wanted : Bool) (f : Finished) : Type 0 where
  pub runs : AreRuns f.report.histories.items f.states.items
  pub logs_count : length f.logs.items ≡ length f.report.histories.items
  pub logs : (d : ℕ) (s : SectionView) (x : LogView) → d < length f.report.histories.items
      → let h = slice_index_or f.report.histories.items d s in
      IsLogOf wanted (logged_at_end duration h.cpus h.limit h.entries)
      (slice_index_or f.logs.items d x)

-- the states are those runs without their switches; all that was streamed of each is its switches,
-- and what client 1's advance logs
pub record AreStreamed (duration : ℕ) (f : Finished) (accountings : List AccountingView)
    : Type 0 where
  pub runs : (d : ℕ) (s : SectionView) (x : Domain) → d < length f.report.histories.items
      → slice_index_or f.states.items d x
      ≡ without_switches (run_in (slice_index_or f.report.histories.items d s))
  pub streamed_count : length accountings ≡ length f.report.histories.items
  pub streamed : (d : ℕ) (s : SectionView) (x : AccountingView)
      → d < length f.report.histories.items
      → let h = slice_index_or f.report.histories.items d s in
      slice_index_or accountings d x
      ≡ streamed_of (run_in h) (logged_at_end duration h.cpus h.limit h.entries)

-- all of that is drawn, in this window
pub record AreRunsDrawn (window : Window) (duration : ℕ) (f : Finished) : Type 0 where
  pub same_window : All (λ (d : DrawingView). d.window ≡ window) f.drawn.items
  pub drawn : AreStreamed duration f (map (λ (d : DrawingView). d.streamed) f.drawn.items)

-- by what is wanted
abbrev pub IsLeftAs : ℕ → Wanted → Finished → Type 0
IsLeftAs duration Switches f = AreRunsLogged duration false f
IsLeftAs duration WhatHappened f = AreRunsLogged duration true f
IsLeftAs duration Figures f = AreStreamed duration f f.streamed.items
IsLeftAs duration Jobs f = AreStreamed duration f f.streamed.items
IsLeftAs duration (Chart window) f = AreRunsDrawn window duration f

-- what the end of a run leaves, by clients that had entered so much
pub record IsFinished (id : SessionId) (duration : ℕ) (wanted : Wanted) (clients : List ClientView)
    (f : Finished) : Type 0 where
  pub after : List ClientView
  pub advanced : HaveAdvanced duration clients after
  pub report : IsSessionReport id after f.report
  pub ends : (d : ℕ) (x : SectionView) → d < length id.cpu_sets
      → EndsWith duration (slice_index_or f.report.histories.items d x).entries
  pub count : length f.states.items ≡ length id.cpu_sets
  pub left : IsLeftAs duration wanted f

-- ---- why there is none

-- a domain that was to be advanced has no room for a call more, and the entries of each of these
-- clients in it are the list of its pass
pub record IsFullWith (id : SessionId) (duration : ℕ) (clients : List ClientView) : Type 0 where
  pub advances : 0 < duration
  pub domain : ℕ
  pub place : IsDomainIndex id domain
  pub history : SectionView
  pub legal : IsHistoryOf id domain clients history
  pub full : length history.entries ≡ id.max_calls

-- a book was full, of which this is said; or memory was refused
abbrev pub IsRunStopped : Type 0 → EndFault → Type 0
IsRunStopped full Full = full
IsRunStopped full Memory = Unit {0}
