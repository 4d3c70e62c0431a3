-- A book at its end, and its last advance.
use Rattle.std.proofs.Common.{◌≡◌, ℕ, ◌≤◌, Bool, true, false, Option, List, [], ◌∷◌, ◌++◌, refl, sym, ap, subst, ◌∙◌}
use Rattle.std.specs.Prelude.{filter}
use Rattle.pass_seats.specs.Lists.{PassView}
use Rattle.bw_gate.specs.Pieces.{BlankView}
use Rattle.domain_run.specs.declared.call.Call.TheVariants as Call
use Rattle.domain_run.specs.declared.call.Reply.TheVariants as Reply
use Rattle.domain_run.specs.Domain.{Domain, IsLimit}
use Rattle.domain_run.specs.Keys.{AreKept, keys}
use Rattle.domain_run.specs.Passing.{without_switches}
use Rattle.domain_run.specs.Tick.{ticks}
use Rattle.calls_text.specs.declared.section.Entry.{Entry}
use Rattle.call_book.specs.Pieces.{HoldsTickets, is_kept, is_gone, AreGiven}
use Rattle.call_book.specs.Book.{BookView, state_of, entry_by}
use Rattle.call_book.specs.Ending.{left_of}
use Rattle.call_book.specs.private.Ledger.{LedgerView}
use Rattle.call_book.specs.private.Stock.{StockView}
use Rattle.call_book.specs.private.Kept.{book_of, IsBook}
use Rattle.call_book.specs.private.Ended.{IsEnding}
use Rattle.call_book.proofs.Sifting.{advance_grows}

-- what is left of a domain has its tasks, its CPUs and its limit
left_tasks : (streamed : Bool) (d : Domain) → (left_of streamed d).tasks ≡ d.tasks
left_tasks true d = refl
left_tasks false d = refl

left_cpus : (streamed : Bool) (d : Domain) → (left_of streamed d).cpus ≡ d.cpus
left_cpus true d = refl
left_cpus false d = refl

left_limit : (streamed : Bool) (d : Domain) → (left_of streamed d).limit ≡ d.limit
left_limit true d = refl
left_limit false d = refl

pub tasks_left : (b : BookView) (streamed : Bool) (state : Domain) → IsEnding b streamed state → state.tasks ≡ (state_of b).tasks
tasks_left b streamed state is = ap (λ (d : Domain). d.tasks) is.left ∙ left_tasks streamed (state_of b)

pub holds_left : (b : BookView) (streamed : Bool) (state : Domain) → IsEnding b streamed state → HoldsTickets state b.tickets
holds_left b streamed state is = is.kept.held ∙ ap keys (sym (tasks_left b streamed state is))

pub machine_left : (b : BookView) (streamed : Bool) (state : Domain) → IsEnding b streamed state → (state.cpus ≡ b.cpus) × IsLimit state.limit
machine_left b streamed state is = (
  ap (λ (d : Domain). d.cpus) is.left ∙ left_cpus streamed (state_of b) ∙ is.kept.machine.0,
  subst IsLimit (sym (ap (λ (d : Domain). d.limit) is.left ∙ left_limit streamed (state_of b))) is.kept.machine.1,
)

-- before anything was streamed
pub run_unstreamed : (b : BookView) (streamed : Bool) (state : Domain) → IsEnding b streamed state → streamed ≡ false → state ≡ state_of b
run_unstreamed b streamed state is none = is.left ∙ ap (λ (h : Bool). left_of h (state_of b)) none

pub book_unstreamed : (b : BookView) (streamed : Bool) (state : Domain) → IsEnding b streamed state → streamed ≡ false → IsBook b state
book_unstreamed b streamed state is none = subst (IsBook b) (sym (run_unstreamed b streamed state is none)) is.kept

-- ---- the last advance: the ticks of the domain, and what is left of it then

pub ending_of : (b : BookView) (next state : Domain) → IsBook b next → state ≡ without_switches next → IsEnding b true state
ending_of b next state is left = record { kept = subst (IsBook b) is.run is; left = left ∙ ap without_switches is.run }

-- a sweep looks at the tasks alone
pub swept_alike : (s t : StockView) (next state : Domain) → state ≡ without_switches next → t ≡ record s { tickets = filter (is_kept state) s.tickets; blanks = t.blanks }
    → t ≡ record s { tickets = filter (is_kept next) s.tickets; blanks = t.blanks }
swept_alike s t next state left swept = subst (λ (d : Domain). t ≡ record s { tickets = filter (is_kept d) s.tickets; blanks = t.blanks }) left swept

pub given_alike : (s t : StockView) (next state : Domain) → state ≡ without_switches next → ((given : List BlankView) × (t.blanks ≡ s.blanks ++ given) × AreGiven (filter (is_gone state) s.tickets) given)
    → (given : List BlankView) × (t.blanks ≡ s.blanks ++ given) × AreGiven (filter (is_gone next) s.tickets) given
given_alike s t next state left given = subst (λ (d : Domain). (given : List BlankView) × (t.blanks ≡ s.blanks ++ given) × AreGiven (filter (is_gone d) s.tickets) given) left given

pub streamed_grows : (cpus limit workers : ℕ) (left : Option ℕ) (l grown : LedgerView) (s t : StockView) (d state : Domain) (k : ℕ) (p : PassView Entry) → IsBook (book_of cpus limit workers left l s) d
    → grown ≡ record l { history = l.history ++ entry_by p (Call.Advance k) (Reply.Done k) ∷ [] } → state ≡ without_switches (ticks k d) → AreKept d.tasks state.tasks
    → t ≡ record s { tickets = filter (is_kept state) s.tickets; blanks = t.blanks } → k ≤ 60000000 → IsBook (book_of cpus limit workers left grown t) (ticks k d)
streamed_grows cpus limit workers left l grown s t d state k p is more becomes kept swept few =
    advance_grows cpus limit workers left l grown s t d (ticks k d) k p is more refl (subst (λ (x : Domain). AreKept d.tasks x.tasks) becomes kept) (swept_alike s t (ticks k d) state becomes swept) few
