-- One domain after the other is advanced, at the end of a run.
use Rattle.std.specs.Prelude.{◌≡◌, ℕ, ◌<◌, Bool, true, false, List, [], ◌∷◌, ◌++◌, length, map, All, Some, Ok, slice_index_or}
use Rattle.domain_run.specs.declared.call.Call.TheVariants.{Advance}
use Rattle.domain_run.specs.declared.call.Reply.TheVariants as replies
use Rattle.domain_run.specs.Log.{LogView, HasLogged}
use Rattle.calls_text.specs.declared.section.Entry.{Entry}
use Rattle.run_figures.specs.Accounting.{AccountingView}
use Rattle.streamed_run.specs.Streamed.{streamed_of}
use Rattle.chart_pieces.specs.declared.window.Window.{Window}
use Rattle.chart_pieces.specs.Drawing.{DrawingView}
use Rattle.call_book.specs.Book.{BookView, IsFull, state_of}
use Rattle.call_book.specs.Ending.{EndingView}
use Rattle.session.specs.declared.ending_run.Recorded.{Recorded}
use Rattle.session.specs.declared.report.Wanted.{Wanted}
use Rattle.session.specs.declared.report.Wanted.TheVariants.{Switches, Happened as WhatHappened, Figures, Jobs, Chart}
use Rattle.session.specs.Asks.{ClientView, Makes, made_by, client_pass_in}
use Rattle.session.specs.RunEnd.{EndsWith, IsLogOf, logged_at_end}

-- a client has entered one advance of so many ticks, all made, in a domain, and nothing else
abbrev pub MakesAll : ClientView → ClientView → ℕ → ℕ → Type 0
MakesAll c c' d ticks = Makes c c' (made_by d (Advance ticks) (Ok (replies.Done ticks)))

-- the last entry of all is this client's advance
pub record IsEndBy (client duration : ℕ) (history : List Entry) : Type 0 where
  pub before : List Entry
  pub seq : ℕ
  pub all : history ≡ before
      ++ record {
        client = client;
        seq = seq;
        call = Advance duration;
        reply = Some (replies.Done duration);
      } ∷ []

-- the books end with client 1's advance
abbrev pub AllEnd : ℕ → List BookView → Type 0
AllEnd duration books =
    (d : ℕ) (b : BookView) → d < length books → EndsWith duration (slice_index_or books d b).history

-- the log of each of these books was logged what so many ticks at its end log
abbrev pub AllLogEnds : ℕ → List BookView → List LogView → List LogView → Type 0
AllLogEnds ticks books before after =
    (d : ℕ) (y : BookView) (x : LogView) → d < length books
    → let b = slice_index_or books d y in
    HasLogged (slice_index_or before d x) (logged_at_end ticks b.cpus b.limit b.history)
    (slice_index_or after d x)

-- so many logs, which have nothing yet
pub record AreOpenLogs (many : ℕ) (wanted : Bool) (logs : List LogView) : Type 0 where
  pub count : length logs ≡ many
  pub each : All (λ log. IsLogOf wanted [] log) logs

-- a log for each of these books, which has what so many ticks at its end log
pub record AreEndLogs (wanted : Bool) (ticks : ℕ) (books : List BookView)
    (logs : List LogView) : Type 0 where
  pub count : length logs ≡ length books
  pub each : (d : ℕ) (y : BookView) (x : LogView) → d < length books
      → let b = slice_index_or books d y in
      IsLogOf wanted (logged_at_end ticks b.cpus b.limit b.history) (slice_index_or logs d x)

-- one of these books is full, and a client that was to advance it has entered nothing in it
pub record IsFullAmong (duration : ℕ) (books : List BookView) (c c' : ClientView) : Type 0 where
  pub advances : 0 < duration
  pub domain : ℕ
  pub place : domain < length books
  pub full : (b : BookView) → IsFull (slice_index_or books domain b)
  pub number : c'.number ≡ c.number
  pub kept : client_pass_in c' domain ≡ client_pass_in c domain

-- ---- books at their end

abbrev pub unstreamed_ending : BookView → EndingView
unstreamed_ending b = record { book = b; streamed = false }

abbrev pub books_of : List EndingView → List BookView
books_of books = map (λ e. e.book) books

-- all of them were streamed, or none was
abbrev pub AreAllStreamed : Bool → List EndingView → Type 0
AreAllStreamed streamed books =
    (d : ℕ) (e : EndingView) → d < length books → (slice_index_or books d e).streamed ≡ streamed

-- all that an accounting streamed of the run of a book whose last so many ticks were streamed
abbrev pub IsStreamedOf : ℕ → BookView → AccountingView → Type 0
IsStreamedOf ticks b a = a ≡ streamed_of (state_of b) (logged_at_end ticks b.cpus b.limit b.history)

-- one for each of these books
pub record AreStreamedEnds (ticks : ℕ) (books : List BookView)
    (streamed : List AccountingView) : Type 0 where
  pub count : length streamed ≡ length books
  pub each : (d : ℕ) (b : BookView) (x : AccountingView) → d < length books
      → IsStreamedOf ticks (slice_index_or books d b) (slice_index_or streamed d x)

-- a drawing of each of these books, in this window
pub record AreDrawnEnds (window : Window) (ticks : ℕ) (books : List BookView)
    (drawings : List DrawingView) : Type 0 where
  pub same_window : All (λ (d : DrawingView). d.window ≡ window) drawings
  pub drawn : AreStreamedEnds ticks books (map (λ (d : DrawingView). d.streamed) drawings)

-- what is logged of them, by what is wanted
abbrev pub AreLoggedAs : ℕ → Wanted → List EndingView → Recorded → Type 0
AreLoggedAs ticks Switches books t =
    AreAllStreamed false books × AreEndLogs false ticks (books_of books) t.logs.items
AreLoggedAs ticks WhatHappened books t =
    AreAllStreamed false books × AreEndLogs true ticks (books_of books) t.logs.items
AreLoggedAs ticks Figures books t =
    AreAllStreamed true books × AreStreamedEnds ticks (books_of books) t.streamed.items
AreLoggedAs ticks Jobs books t =
    AreAllStreamed true books × AreStreamedEnds ticks (books_of books) t.streamed.items
AreLoggedAs ticks (Chart window) books t =
    AreAllStreamed true books × AreDrawnEnds window ticks (books_of books) t.drawn.items
