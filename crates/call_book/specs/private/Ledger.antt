-- What a contract inside the crate sees of the history of a book, and what it keeps.
use Rattle.std.specs.Prelude.{◌≡◌, ℕ, ◌≤◌, List, length, map, All}
use Rattle.atomic_table.specs.Seated.{TableId}
use Rattle.pass_seats.specs.Lists.{SpineView}
use Rattle.calls_text.specs.declared.section.Entry.{Entry}
use Rattle.calls_text.specs.Limits.{IsEntry}
use Rattle.calls_text.specs.OwnCalls.{IsNumbered}
use Rattle.call_book.specs.Book.{with_key, IsMember}
use Rattle.limits.specs.Limits.{max_history}

pub record LedgerView : Type 0 where
  pub spine : TableId
  pub clients : ℕ
  pub room : ℕ
  pub history : List Entry

-- what every history of a book keeps: it is the spine's list; each client's entries are numbered 0,
-- 1, 2, ..; no stranger made one; and each has a spelling
pub record IsHistory (clients room : ℕ) (history : List Entry) : Type 0 where
  pub numbered : IsNumbered history
  pub members : All (λ e. IsMember clients e.client) history
  pub entries : All IsEntry history
  pub few : clients ≤ 64
  pub within : length history ≤ room
  pub short : room ≤ max_history

-- what a ledger keeps: its history, which is the spine's list, and the room for so many entries
-- that it was opened with, so it takes no more
pub record IsLedger (spine : SpineView Entry) (clients room : ℕ) (history : List Entry)
    (capacity : ℕ) : Type 0 where
  pub log : spine.log ≡ map with_key history
  pub kept : IsHistory clients room history
  pub reserved : capacity ≡ room
