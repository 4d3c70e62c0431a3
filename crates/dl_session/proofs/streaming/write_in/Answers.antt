use Rattle.std.proofs.Common.{List, length, sym, ap, subst, ◌∙◌, arith}
use Rattle.std.proofs.lemmas.List.{length-map}
use Rattle.counted_io.specs.Sides.{Side, side}
use Rattle.call_book.specs.Playing.{PlayingView}
use Rattle.dl_session.specs.declared.played.PlayedRun.{PlayedRun}
use Rattle.dl_session.specs.declared.streaming.Streaming.{Streaming}
use Rattle.dl_session.specs.private.PlayedBooks.{played_book, played_histories, AreLogging}
use Rattle.dl_session.specs.private.Streaming.{needs_log, runs_text, AreCountable}
use Rattle.std.specs.Prelude.{OnOk, IfErr}
use Rattle.calls_trace.specs.Written.{IsWritten, IsUnwritten}
use Rattle.dl_session.proofs.EventRuns.{text_streamed}
use Rattle.dl_session.proofs.PlayedRuns.{are_countable}
use Rattle.dl_session.proofs.streaming.write_in.Goals as goal

pub write_runs-written-requires-clause-few : goal.write_runs-written-requires-clause-few
write_runs-written-requires-clause-few g c =
    let runs = c.play_books.new.runs.items in
    let same = ap (λ bs. length bs) c.play_books.ensures.books in
    omega (arith, ap (λ (rs : List PlayedRun). length rs) c.as_mut_slice.ensures.value, same, length-map runs played_book, length-map c.args.books.items (λ (p : PlayingView). p.book), c.requires.ready.few)

pub write_runs-written-requires-clause-countable : goal.write_runs-written-requires-clause-countable
write_runs-written-requires-clause-countable g c κs within =
    subst (AreCountable c.args.streaming) (sym c.as_mut_slice.ensures.value)
    (are_countable c.args.streaming c.play_books.new.runs.items c.args.books.items c.requires.ready c.play_books.ensures.books c.play_books.ensures.whole)

pub returns-clause-ok : goal.returns-clause-ok
returns-clause-ok g c =
    let w : Side = side g.W.Write.contents c.args.writer.now c.write_runs-written.new.writer in
    let text = text_streamed c.args.streaming c.play_books.new.runs.items (played_histories c.args.books.items) c.play_books.ensures.whole (λ is. c.play_books.ensures.logged (subst (λ (s : Streaming). AreLogging (needs_log s) c.args.books.items) is c.requires.logged_run)) in
    subst (λ t. OnOk c.write_runs-written.result (IsWritten w t)) (ap (runs_text c.args.streaming) c.as_mut_slice.ensures.value ∙ text) c.write_runs-written.ensures.ok

pub returns-clause-err : goal.returns-clause-err
returns-clause-err g c =
    let w : Side = side g.W.Write.contents c.args.writer.now c.write_runs-written.new.writer in
    let text = text_streamed c.args.streaming c.play_books.new.runs.items (played_histories c.args.books.items) c.play_books.ensures.whole (λ is. c.play_books.ensures.logged (subst (λ (s : Streaming). AreLogging (needs_log s) c.args.books.items) is c.requires.logged_run)) in
    subst (λ t. IfErr c.write_runs-written.result (IsUnwritten w t)) (ap (runs_text c.args.streaming) c.as_mut_slice.ensures.value ∙ text) c.write_runs-written.ensures.err
