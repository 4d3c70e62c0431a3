-- What a book answers to a change of its domain's limit, which stands for a write to
-- sched_rt_runtime_us (sched-deadline.rst, "System wide settings"; the EBUSY is of the kernel's
-- sched_dl_global_validate; two tests and one step on one word are our own).
use Rattle.std.specs.Prelude.{◌≡◌, ℕ, ◌<◌, ◌≤◌, ◌⊎◌, [], ◌∷◌, ◌++◌, length, Option, Some, None}
use Rattle.attr_check.specs.Ratio.{cap}
use Rattle.pass_seats.specs.Lists.{PassView}
use Rattle.bw_gate.specs.Word.{used_of, cap_of}
use Rattle.bw_gate.specs.Pieces.{BlankView, last_word_found}
use Rattle.bw_gate.specs.Answers.{IsLimited}
use Rattle.bw_gate.specs.declared.answer.Limit.{Limit as GateLimit}
use Rattle.bw_gate.specs.declared.answer.Limit.TheVariants as gate
use Rattle.domain_run.specs.declared.call.Call.TheVariants as call
use Rattle.domain_run.specs.declared.call.Reply.TheVariants as replies
use Rattle.domain_run.specs.Calls.{reply_to, with_limit}
use Rattle.domain_run.specs.Tick.{sum_of}
use Rattle.calls_text.specs.declared.section.Entry.{Entry}
use Rattle.call_book.specs.declared.book.domain.Limit.{Limit}
use Rattle.call_book.specs.declared.book.domain.Limit.TheVariants.{Set, Busy, Full}
use Rattle.call_book.specs.Book.{BookView, state_of, entry_by, with_entry, EntersAlone, IsRefusedFull}

-- the last word that a blank found
abbrev pub word_of_blank : BlankView → ℕ
word_of_blank b = last_word_found b.found

-- the gate's answer to a blank that asked for a limit: set, or refused with the whole word that it
-- found last
abbrev pub limit_logged_as : BlankView → Option ℕ → GateLimit
limit_logged_as back None = gate.Set back
limit_logged_as back (Some used) = gate.Refused back (word_of_blank back)

-- what a blank asked of the word by one call of the gate: it is set, and the last word that it
-- found is the word that this call left, which carries the new cap; or so much is used of the last
-- word that it found, more than the new cap
abbrev pub IsLimitWord : ℕ → BlankView → Option ℕ → Type 0
IsLimitWord most back None = (cap_of (word_of_blank back) ≡ most)
    × (used_of (word_of_blank back) ≤ most)
IsLimitWord most back (Some used) = (used_of (word_of_blank back) ≡ used) × (most < used)

-- a blank asks the word of a domain for a limit, and stays a blank of its gate
pub record AsksForLimit (cpus domain limit : ℕ) (blank back : BlankView)
    (word : Option ℕ) : Type 0 where
  pub asked : IsLimited blank domain limit (limit_logged_as back word)
  pub answer : IsLimitWord (cap cpus limit) back word
  pub own : back.gate ≡ blank.gate

-- SET. The sum of bandwidths is at most CPUs times the new limit, and the word carries that cap
-- since this call; the state has the new limit, and of it nothing else has changed; the call stands
-- after the history and after the pass's list; and the book keeps the word that was left
pub record IsLimitSet (old new : BookView) (p q : PassView Entry) (limit : ℕ)
    (blank back : BlankView) : Type 0 where
  pub free : length old.history < old.room
  pub fits : sum_of (state_of old).tasks ≤ cap old.cpus limit
  pub lawful : replies.Set ≡ reply_to (state_of old) (call.Limit limit None)
  pub asked : AsksForLimit old.cpus old.domain limit blank back None
  pub book : new
      ≡ record old {
        history = old.history ++ entry_by p (call.Limit limit None) replies.Set ∷ [];
        left = Some (word_of_blank back);
      }
  pub pass : q ≡ with_entry p (call.Limit limit None) replies.Set
  pub state : state_of new ≡ with_limit limit (state_of old)

-- BUSY BY THE SUM, which is above CPUs times the new limit. The word is not asked; the call is
-- entered, and neither the state nor the blank changes
pub record IsBusyBySum (old new : BookView) (p q : PassView Entry) (limit : ℕ)
    (blank back : BlankView) (seen : ℕ) : Type 0 where
  pub entered : EntersAlone old new p q (call.Limit limit None) (replies.Busy seen)
  pub sum : seen ≡ sum_of (state_of old).tasks
  pub above : cap old.cpus limit < seen
  pub same : back ≡ blank
  pub state : state_of new ≡ state_of old

-- BUSY BY THE WORD. The sum is not above, but so much of the word that the blank found is used,
-- tickets under way among it. The call is entered with that number, and the state does not change
pub record IsBusyByWord (old new : BookView) (p q : PassView Entry) (limit : ℕ)
    (blank back : BlankView) (seen : ℕ) : Type 0 where
  pub entered : EntersAlone old new p q (call.Limit limit (Some seen)) (replies.Busy seen)
  pub fits : sum_of (state_of old).tasks ≤ cap old.cpus limit
  pub asked : AsksForLimit old.cpus old.domain limit blank back (Some seen)
  pub state : state_of new ≡ state_of old

-- the blank that comes back
abbrev pub blank_of : Limit → BlankView
blank_of (Set back) = back
blank_of (Busy back seen) = back
blank_of (Full back) = back

abbrev pub AnswersLimit : BookView → BookView → PassView Entry → PassView Entry → ℕ → BlankView
    → Limit → Type 0
AnswersLimit old new p q limit blank (Set back) = IsLimitSet old new p q limit blank back
AnswersLimit old new p q limit blank (Busy back seen) =
    IsBusyBySum old new p q limit blank back seen ⊎ IsBusyByWord old new p q limit blank back seen
AnswersLimit old new p q limit blank (Full back) = IsRefusedFull old new p q × (back ≡ blank)
