use Rattle.std.proofs.Common.{◌≡◌, ◌+◌, ◌*◌, ◌≤◌, ◌++◌, true, [], All, length, map}
use Rattle.std.specs.Prelude.{vec_capacity}
use Rattle.std.specs.List.{AllZip}
use Rattle.std.specs.Vec.Iter.{into_iter_items, into_iter_len}
use Rattle.calls_text.specs.Limits.{IsSection}
use Rattle.switch_text.specs.SlicedTrace.{wholes}
use Rattle.calls_trace.specs.Replay.{runs_from}
use Rattle.calls_trace.specs.DomainEvents.{logged_from}
use Rattle.session.specs.Begun.{played_books, HaveWholeRuns}
use Rattle.dl_session.specs.private.PlayedBooks.{played_slices, played_book, played_histories, AreLogging, IsNamedBook, LogsAll}
use Rattle.dl_session.proofs.EventRuns.{logged_parts}
use Rattle.dl_session.proofs.played_books.play_books.Given as goal

-- the runs so far, and then the books that are left
abbrev pub invariant-loop-book : goal.invariant-loop-book
invariant-loop-book l = record {
  books : map played_book l.runs.items ++ played_books (into_iter_items l.rest) ≡ played_books l.fn.books.items;
  whole : wholes (map played_slices l.runs.items) ++ runs_from l.base (played_histories (into_iter_items l.rest)) ≡ runs_from 0 (played_histories l.fn.books.items);
  named : AllZip IsNamedBook (played_books (into_iter_items l.rest)) (into_iter_items l.names);
  sections : All IsSection (played_histories (into_iter_items l.rest));
  logged : AreLogging true l.fn.books.items → AreLogging true (into_iter_items l.rest) × (logged_parts l.runs.items ++ logged_from l.base (played_histories (into_iter_items l.rest)) ≡ logged_from 0 (played_histories l.fn.books.items));
  unlogged : All (λ p. p.logged ≡ []) (into_iter_items l.rest);
  say : All LogsAll (into_iter_items l.rest);
  untouched : HaveWholeRuns (into_iter_items l.rest);
  room : length l.runs.items + into_iter_len l.rest ≤ vec_capacity l.runs;
  inside : l.base + 64 * into_iter_len l.rest ≤ 512;
}

abbrev pub decreases-loop-book : goal.decreases-loop-book
decreases-loop-book l = into_iter_len l.rest
