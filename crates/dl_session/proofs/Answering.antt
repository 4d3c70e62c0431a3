-- What a run leaves answers the tasks, once all clients have asked for them.
use Rattle.std.proofs.Common.{◌≡◌, ℕ, ◌<◌, ◌≤◌, arith, Bool, List, [], None, length, map, get_or, All, refl, sym, ap, subst, ◌∙◌}
use Rattle.std.proofs.lemmas.List.{length-map, get_or-map}
use Rattle.std.proofs.lemmas.List.Elements.{All-nil, All-from_get_or}
use Rattle.counted_io.specs.Sides.{Side, IsUntouched}
use Rattle.rtapp_scenario.specs.ScenarioView.{TaskSpecView}
use Rattle.run_options.specs.declared.options.Print.{Print}
use Rattle.calls_text.specs.SectionView.{SectionView}
use Rattle.calls_text.specs.Limits.{IsSection}
use Rattle.calls_text.specs.Histories.{IsLegal, AreLegal}
use Rattle.call_book.specs.Book.{BookView, own_entries}
use Rattle.call_book.specs.Playing.{PlayingView}
use Rattle.calls_trace.specs.declared.fault.TraceFault.{TraceFault}
use Rattle.calls_trace.specs.declared.fault.TraceFault.TheVariants as traces
use Rattle.calls_trace.specs.Charted.{last_time}
use Rattle.calls_trace.specs.DomainEvents.{logged_of}
use Rattle.calls_trace.specs.Written.{IsWritten, IsUnwritten}
use Rattle.session.specs.declared.refusal.Refusal.{Refusal}
use Rattle.session.specs.declared.report.Report.{Report}
use Rattle.session.specs.declared.report.Finished.{Finished}
use Rattle.session.specs.declared.report.Wanted.{Wanted}
use Rattle.session.specs.declared.fault.EndFault.{EndFault}
use Rattle.session.specs.declared.fault.EndFault.TheVariants as ends
use Rattle.session.specs.SessionId.{SessionId, IsDomainIndex}
use Rattle.session.specs.Asks.{ClientView, client_pass_in}
use Rattle.session.specs.Begun.{UnderWayView, section_of, IsRunBegun}
use Rattle.session.specs.Report.{IsHistoryOf, IsLeft}
use Rattle.session.specs.RunEnd.{FirstIsOne, EndsWith, IsFinished, IsFullWith, IsRunStopped, logged_at_end}
use Rattle.dl_session.specs.declared.fault.SessionFault.{SessionFault}
use Rattle.dl_session.specs.Upward.{of_end, from_trace}
use Rattle.dl_session.specs.FullBook.{IsFullDomain}
use Rattle.dl_session.specs.private.Asked.{HaveAsked, AnswerTasks, IsRunWritten, IsRunUnwritten}
use Rattle.dl_session.specs.private.PlayedBooks.{played_histories, AreLogging, AreReady, LogsAll}
use Rattle.dl_session.specs.private.Printing.{IsMadeText, IsWrittenAs, IsUnwrittenAs}
use Rattle.dl_session.specs.private.Running.{AreLeftAs}
use Rattle.dl_session.specs.private.HistoryText.{logged_text, print_of}
use Rattle.dl_session.specs.declared.history_text.HistoryText.{HistoryText}
use Rattle.dl_session.specs.declared.history_text.HistoryText.TheVariants as tellings
use Rattle.dl_session.proofs.ScenarioLaw.{answers_all, answers_tasks}
use Rattle.dl_session.specs.private.Streaming.{streamed_print, streamed_text}
use Rattle.dl_session.specs.declared.streaming.Streaming.{Streaming}
use Rattle.dl_session.specs.declared.streaming.Streaming.TheVariants as streams
use Rattle.dl_session.proofs.LoggedRun.{left_as, left_of_run, section_logs, sections_last}
use Rattle.dl_session.proofs.PlayedRuns.{history_at}

-- ---- the clients

some_before : (id : SessionId) (tasks : List TaskSpecView) (es : List ClientView) (refused : List (ℕ × Refusal)) → (h : HaveAsked id tasks es refused) → 0 < length h.before
some_before id tasks es refused h = omega (arith, h.some, h.new.count)

pub some_clients : (id : SessionId) (tasks : List TaskSpecView) (es : List ClientView) (refused : List (ℕ × Refusal)) → HaveAsked id tasks es refused → 0 < length es
some_clients id tasks es refused h = omega (arith, some_before id tasks es refused h, h.asked.places)

-- the first client has the number 1
pub first_is : (id : SessionId) (tasks : List TaskSpecView) (es : List ClientView) (refused : List (ℕ × Refusal)) → HaveAsked id tasks es refused → FirstIsOne es
first_is id tasks es refused h x = let some = some_before id tasks es refused h in (h.asked.each 0 x some).made.number ∙ (h.new.each 0 x some).numbered

-- ---- what is left

-- a history, whoever asks for its entries
by_nobody : (id : SessionId) (d : ℕ) (cs : List ClientView) (h : SectionView) → IsHistoryOf id d cs h → IsHistoryOf id d [] h
by_nobody id d cs h is = record {
  cpus = is.cpus;
  limit = is.limit;
  legal = is.legal;
  numbered = is.numbered;
  members = is.members;
  spelled = is.spelled;
  own = All-nil (λ (c : ClientView). client_pass_in c d ≡ own_entries c.number h.entries);
}

-- a report with the refused tasks
pub left_with : (id : SessionId) (cs : List ClientView) (r s : Report) → s.histories ≡ r.histories → s.words ≡ r.words → s.caps ≡ r.caps → s.home ≡ r.home → IsLeft id cs r → IsLeft id [] s
left_with id cs r s same_h same_w same_c same_o left =
    let anyone : (d : ℕ) (x : SectionView) → IsDomainIndex id d → IsHistoryOf id d [] (get_or r.histories.items d x) = λ d x place. by_nobody id d cs _ (left.histories d x place) in
    record {
      count = rw same_h left.count;
      histories = rw same_h anyone;
      words = rw same_w left.words;
      room = rw (same_h, same_w) left.room;
      caps = rw same_c left.caps;
      a_cap = rw same_c left.a_cap;
      capped = rw (same_w, same_c) left.capped;
      exact = rw (same_h, same_w, same_o) left.exact;
    }

-- ---- a run that is begun

-- no book in particular
nobody : SessionId → BookView
nobody id = record {
  gate = id.gate;
  domain = 0;
  cpus = 0;
  limit = 0;
  clients = 0;
  spine = id.gate.table;
  room = 0;
  history = [];
  tickets = [];
  blanks = [];
  workers = 0;
  left = None;
}

begun_count : (id : SessionId) (duration : ℕ) (logs : Bool) (es : List ClientView) (books : List PlayingView) (rest : UnderWayView) → IsRunBegun id duration logs es books rest → length (map section_of rest.books) ≡ length id.cpu_sets
begun_count id duration logs es books rest begun = length-map rest.books section_of ∙ begun.count

-- the history of a domain
begun_at : (id : SessionId) (duration : ℕ) (logs : Bool) (es : List ClientView) (books : List PlayingView) (rest : UnderWayView) → IsRunBegun id duration logs es books rest → (P : SectionView → Type 0) (d : ℕ) (x : SectionView) → d < length id.cpu_sets
    → (d < length rest.books → P (section_of (get_or rest.books d (nobody id)))) → P (get_or (map section_of rest.books) d x)
begun_at id duration logs es books rest begun P d x place has =
    let there : d < length rest.books = omega (arith, place, begun.count) in
    subst P (sym (get_or-map section_of rest.books d (nobody id) x there)) (has there)

begun_histories : (id : SessionId) (duration : ℕ) (logs : Bool) (es : List ClientView) (books : List PlayingView) (rest : UnderWayView) → IsRunBegun id duration logs es books rest
    → (d : ℕ) (x : SectionView) → IsDomainIndex id d → IsHistoryOf id d rest.clients (get_or (map section_of rest.books) d x)
begun_histories id duration logs es books rest begun d x place = begun_at id duration logs es books rest begun (IsHistoryOf id d rest.clients) d x place (begun.histories d (nobody id))

pub begun_answers : (id : SessionId) (tasks : List TaskSpecView) (duration : ℕ) (logs : Bool) (es : List ClientView) (refused : List (ℕ × Refusal)) (books : List PlayingView) (rest : UnderWayView)
    → HaveAsked id tasks es refused → IsRunBegun id duration logs es books rest → AnswerTasks id tasks duration (map section_of rest.books) refused
begun_answers id tasks duration logs es refused books rest asked begun =
    let count = begun_count id duration logs es books rest begun in
    let legal = begun_histories id duration logs es books rest begun in
    record {
      count = count;
      legal = λ d x place. by_nobody id d rest.clients _ (legal d x place);
      answers = answers_all id tasks duration asked.before es rest.clients refused (map section_of rest.books) asked.some asked.new asked.asked begun.advanced count legal
          (λ d x place. begun_at id duration logs es books rest begun (λ (s : SectionView). EndsWith duration s.entries) d x place (begun.ends d (nobody id)));
    }

-- its books can be written
pub begun_ready : (id : SessionId) (tasks : List TaskSpecView) (duration : ℕ) (logs : Bool) (es : List ClientView) (refused : List (ℕ × Refusal)) (books : List PlayingView) (rest : UnderWayView)
    → length id.cpu_sets ≤ 8 → duration ≤ 60000000 → HaveAsked id tasks es refused → IsRunBegun id duration logs es books rest → AreReady books
begun_ready id tasks duration logs es refused books rest few short asked begun =
    let legal = begun_histories id duration logs es books rest begun in
    let count = begun_count id duration logs es books rest begun in
    let same : map section_of rest.books ≡ played_histories books = ap (λ (bs : List BookView). map section_of bs) (sym begun.same) in
    let x = section_of (nobody id) in
    let sections : All IsSection (map section_of rest.books) = All-from_get_or IsSection (map section_of rest.books) x (λ d inside. (legal d x (omega (arith, inside, count))).spelled) in
    let lawful : AreLegal (map section_of rest.books) = All-from_get_or (λ (h : SectionView). IsLegal h.cpus h.limit h.entries) (map section_of rest.books) x (λ d inside. (legal d x (omega (arith, inside, count))).legal) in
    let are = begun_answers id tasks duration logs es refused books rest asked begun in
    let many = ap (λ (bs : List BookView). length bs) begun.same in
    let long = length-map books (λ (p : PlayingView). p.book) in
    let has_logged : (d : ℕ) (p : PlayingView) → d < length books → LogsAll (get_or books d p) = λ d p inside.
    let q = get_or books d p in
    let h = section_of q.book in
    let there : d < length id.cpu_sets = omega (arith, inside, begun.count, many, long) in
    let place : d < length (map section_of rest.books) = omega (arith, there, count) in
    let at : get_or (map section_of rest.books) d h ≡ h = ap (λ (hs : List SectionView). get_or hs d h) same ∙ history_at books d p h inside in
    let ends = begun.say d p inside in
    record {
      few = omega (arith, ends.most, short);
      all = ends.has_logged ∙ sym (subst (λ (s : SectionView). logged_of s ≡ logged_at_end duration s.cpus s.limit s.entries) at
          (section_logs id id.clients tasks duration (map section_of rest.books) refused are.count are.legal are.answers d h there));
    } in
    record {
      few = omega (arith, few, begun.count, many, long);
      sections = subst (All IsSection) same sections;
      legal = subst AreLegal same lawful;
      whole = begun.whole;
      unlogged = λ d p inside. (begun.unlogged d p inside).logged;
      say = has_logged;
    }

-- what happens in them is logged where it is wanted
pub begun_logged : (id : SessionId) (duration : ℕ) (logs : Bool) (es : List ClientView) (books : List PlayingView) (rest : UnderWayView) → IsRunBegun id duration logs es books rest → AreLogging logs books
begun_logged id duration logs es books rest begun d p inside = (begun.unlogged d p inside).logs

-- ---- a run that is finished

pub finished_answers : (id : SessionId) (tasks : List TaskSpecView) (duration : ℕ) (wanted : Wanted) (es : List ClientView) (refused : List (ℕ × Refusal)) (f : Finished)
    → HaveAsked id tasks es refused → IsFinished id duration wanted es f → AnswerTasks id tasks duration f.report.histories.items refused
finished_answers id tasks duration wanted es refused f asked finished =
    let left = finished.report.left in
    record {
      count = left.count;
      legal = λ d x place. by_nobody id d finished.after _ (left.histories d x place);
      answers = answers_all id tasks duration asked.before es finished.after refused f.report.histories.items asked.some asked.new asked.asked finished.advanced left.count left.histories finished.ends;
    }

pub finished_left : (id : SessionId) (tasks : List TaskSpecView) (duration : ℕ) (wanted : Wanted) (es : List ClientView) (refused : List (ℕ × Refusal)) (f : Finished)
    → HaveAsked id tasks es refused → IsFinished id duration wanted es f → AreLeftAs wanted f.report.histories.items (left_of_run f)
finished_left id tasks duration wanted es refused f asked finished =
    let are = finished_answers id tasks duration wanted es refused f asked finished in
    left_as id id.clients tasks duration wanted f refused are.count are.legal are.answers finished.left

-- all runs end after the whole duration
pub finished_lasts : (id : SessionId) (tasks : List TaskSpecView) (duration : ℕ) (wanted : Wanted) (es : List ClientView) (refused : List (ℕ × Refusal)) (f : Finished)
    → 0 < length id.cpu_sets → HaveAsked id tasks es refused → IsFinished id duration wanted es f → last_time f.report.histories.items ≡ duration
finished_lasts id tasks duration wanted es refused f some asked finished =
    let are = finished_answers id tasks duration wanted es refused f asked finished in
    sections_last id id.clients tasks duration f.report.histories.items refused some are.count are.legal are.answers

-- ---- histories that answer the tasks

-- ---- what was written

-- a text of the histories went out
pub is_written : (id : SessionId) (tasks : List TaskSpecView) (duration : ℕ) (print : Print) (cs : List ClientView) (refused : List (ℕ × Refusal)) (hs : List SectionView) (w : Side) (text : List ℕ) (r s : Report)
    → AnswerTasks id tasks duration hs refused → IsLeft id cs r → r.histories.items ≡ hs → IsMadeText print tasks hs text → IsWritten w text
    → s.histories ≡ r.histories → s.words ≡ r.words → s.caps ≡ r.caps → s.home ≡ r.home → s.refused.items ≡ refused → IsRunWritten id tasks duration print w s
is_written id tasks duration print cs refused hs w text r s are left from said written same_h same_w same_c same_o same_r =
    let same : hs ≡ s.histories.items = sym from ∙ ap (λ v. v.items) (sym same_h) in
    record {
      left = left_with id cs r s same_h same_w same_c same_o left;
      run = subst (λ (xs : List SectionView). AnswerTasks id tasks duration xs s.refused.items) same (subst (AnswerTasks id tasks duration hs) (sym same_r) are);
      written = record { text = text; said = subst (λ (xs : List SectionView). IsMadeText print tasks xs text) same said; written = written };
    }

-- a text of which something is said went out
pub is_written_as : (id : SessionId) (tasks : List TaskSpecView) (duration : ℕ) (print : Print) (cs : List ClientView) (refused : List (ℕ × Refusal)) (hs : List SectionView) (w : Side) (r s : Report)
    → AnswerTasks id tasks duration hs refused → IsLeft id cs r → r.histories.items ≡ hs → IsWrittenAs (IsMadeText print tasks hs) w
    → s.histories ≡ r.histories → s.words ≡ r.words → s.caps ≡ r.caps → s.home ≡ r.home → s.refused.items ≡ refused → IsRunWritten id tasks duration print w s
is_written_as id tasks duration print cs refused hs w r s are left from done = is_written id tasks duration print cs refused hs w done.text r s are left from done.said done.written

-- or the writer failed, or memory was refused
pub is_unwritten_as : (id : SessionId) (tasks : List TaskSpecView) (duration : ℕ) (print : Print) (refused : List (ℕ × Refusal)) (hs : List SectionView) (w : Side) (e : TraceFault) (f : SessionFault)
    → AnswerTasks id tasks duration hs refused → IsUnwrittenAs (IsMadeText print tasks hs) w e → f ≡ from_trace e → IsRunUnwritten id tasks duration print w f
is_unwritten_as id tasks duration print refused hs w (traces.Write n) f are unwritten is =
    subst (IsRunUnwritten id tasks duration print w) (sym is) (record { histories = hs; refused = refused; run = are; cut = unwritten })
is_unwritten_as id tasks duration print refused hs w traces.Memory f are unwritten is = subst (IsRunUnwritten id tasks duration print w) (sym is) unwritten

pub is_unwritten : (id : SessionId) (tasks : List TaskSpecView) (duration : ℕ) (print : Print) (refused : List (ℕ × Refusal)) (hs : List SectionView) (w : Side) (text : List ℕ) (e : TraceFault) (f : SessionFault)
    → AnswerTasks id tasks duration hs refused → IsMadeText print tasks hs text → IsUnwritten w text e → f ≡ from_trace e → IsRunUnwritten id tasks duration print w f
is_unwritten id tasks duration print refused hs w text (traces.Write n) f are said unwritten is =
    subst (IsRunUnwritten id tasks duration print w) (sym is) (record { histories = hs; refused = refused; run = are; cut = record { text = text; said = said; cut = unwritten } })
is_unwritten id tasks duration print refused hs w text traces.Memory f are said unwritten is = subst (IsRunUnwritten id tasks duration print w) (sym is) unwritten

-- the text of histories is what is printed
pub logged_as : (history_text : HistoryText) (tasks : List TaskSpecView) (hs : List SectionView) → IsMadeText (print_of history_text) tasks hs (logged_text history_text hs)
logged_as tellings.Calls tasks hs = refl
logged_as tellings.Replies tasks hs = refl

-- the text that is written while the run is made is what is printed
pub streamed_as : (streaming : Streaming) (tasks : List TaskSpecView) (hs : List SectionView) → IsMadeText (streamed_print streaming) tasks hs (streamed_text streaming hs)
streamed_as streams.Trace tasks hs = refl
streamed_as streams.Events tasks hs = refl

-- ---- why there is no run

-- the domain that was full, once the tasks were asked
full_domain : (id : SessionId) (tasks : List TaskSpecView) (duration : ℕ) (es : List ClientView) (refused : List (ℕ × Refusal))
    → HaveAsked id tasks es refused → IsFullWith id duration es → (0 < duration) × IsFullDomain id id.clients tasks
full_domain id tasks duration es refused asked met = (
  met.advances,
  record {
    domain = met.domain;
    place = met.place;
    history = met.history;
    legal = by_nobody id met.domain es met.history met.legal;
    answers = answers_tasks id tasks asked.before es refused met.domain met.history asked.some asked.new asked.asked met.place met.legal;
    full = met.full;
  },
)

-- a book was full, or memory was refused
pub stopped : (id : SessionId) (tasks : List TaskSpecView) (duration : ℕ) (print : Print) (es : List ClientView) (refused : List (ℕ × Refusal)) (w : Side) (e : EndFault) (f : SessionFault)
    → HaveAsked id tasks es refused → IsRunStopped (IsFullWith id duration es) e → f ≡ of_end e → IsUntouched w → IsRunUnwritten id tasks duration print w f
stopped id tasks duration print es refused w ends.Full f asked met is untouched = subst (IsRunUnwritten id tasks duration print w) (sym is) (let there = full_domain id tasks duration es refused asked met in (untouched, there.0, there.1))
stopped id tasks duration print es refused w ends.Memory f asked met is untouched = subst (IsRunUnwritten id tasks duration print w) (sym is) untouched
