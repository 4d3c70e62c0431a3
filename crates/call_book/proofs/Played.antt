-- A book whose last advance is entered first, and made piece by piece then.
use Rattle.std.proofs.Common.{◌≡◌, ℕ, ◌+◌, ◌-◌, ◌<◌, ◌≤◌, ◌^◌, Bool, true, false, cond, Option, List, [], ◌∷◌, ◌++◌, length, refl, sym, ap, subst, ◌∙◌, arith, inl, inr}
use Rattle.std.specs.Prelude.{All, filter}
use Rattle.std.proofs.lemmas.Bool.{cases_lt}
use Rattle.std.proofs.lemmas.List.{append-nil}
use Rattle.pass_seats.specs.Lists.{PassView}
use Rattle.bw_gate.specs.Pieces.{BlankView}
use Rattle.domain_run.specs.declared.call.Call.TheVariants as Call
use Rattle.domain_run.specs.declared.call.Reply.TheVariants as Reply
use Rattle.domain_run.specs.Coming.{switches_to_come}
use Rattle.domain_run.specs.declared.happened.Happened.{Happened}
use Rattle.domain_run.specs.Domain.{Domain}
use Rattle.domain_run.specs.Keys.{AreKept}
use Rattle.domain_run.specs.LoggedRun.{IsLoggedUntil}
use Rattle.domain_run.specs.Passing.{with_past, without_switches}
use Rattle.domain_run.specs.Sound.{IsDomain}
use Rattle.domain_run.specs.Switch.{Switch}
use Rattle.domain_run.specs.Tick.{ticks}
use Rattle.domain_run.proofs.CallerLemmas.{AreNumbered, kept_itself, kept_listed, ticks_kept, ticks_after, ticks_time, ticks_then, to_come_after, view_where_listed}
use Rattle.calls_text.specs.declared.section.Entry.{Entry}
use Rattle.call_book.specs.declared.book.stock.Held.{Held}
use Rattle.call_book.specs.Pieces.{is_kept, is_gone, AreGiven}
use Rattle.call_book.specs.Book.{BookView, state_of, entry_by, EntersAlone}
use Rattle.call_book.specs.BookAnswers.{IsAdvanced}
use Rattle.call_book.specs.Ending.{left_of}
use Rattle.call_book.specs.Playing.{PlayingView, HasWholeRun, IsSweptBook}
use Rattle.call_book.specs.private.Ledger.{LedgerView}
use Rattle.call_book.specs.private.Stock.{StockView}
use Rattle.call_book.specs.private.Kept.{book_of, IsBook}
use Rattle.call_book.specs.private.Ended.{IsEnding}
use Rattle.call_book.specs.private.Played.{LeadsOn, sifted_by}
use Rattle.call_book.proofs.Sifting.{sifted_holds, advance_grows}
use Rattle.call_book.proofs.Ended.{swept_alike, given_alike}

-- ---- ticks, and the switches so far

bare_left : (streamed : Bool) (d : Domain) → without_switches (left_of streamed d) ≡ without_switches d
bare_left true d = refl
bare_left false d = refl

bare_ticks : (n : ℕ) (d : Domain) → without_switches (ticks n d) ≡ without_switches (ticks n (without_switches d))
bare_ticks n d =
    let past : with_past d.switches (without_switches d) ≡ d = ap (λ (ss : List Switch). record d { switches = ss }) (append-nil d.switches) in
    ap (λ (e : Domain). without_switches (ticks n e)) (sym past) ∙ ap without_switches (ticks_after n d.switches (without_switches d))

alike_ticks : (n : ℕ) (d e : Domain) → without_switches d ≡ without_switches e → without_switches (ticks n d) ≡ without_switches (ticks n e)
alike_ticks n d e alike = bare_ticks n d ∙ ap (λ (x : Domain). without_switches (ticks n x)) alike ∙ sym (bare_ticks n e)

-- ---- tickets

filter_twice : (p q : Held → Bool) → ((h : Held) → q h ≡ true → p h ≡ true) → (hs : List Held) → filter q (filter p hs) ≡ filter q hs
filter_twice p q wider [] = refl
filter_twice p q wider (h ∷ hs) =
    let more = filter_twice p q wider hs in
    elim (p h) as (λ b. p h ≡ b → filter q (cond b (h ∷ filter p hs) (filter p hs)) ≡ cond (q h) (h ∷ filter q hs) (filter q hs)) [
      | true ↦ λ e. ap (λ (xs : List Held). cond (q h) (h ∷ xs) xs) more
      | false ↦ λ e. elim (q h) as (λ b. q h ≡ b → filter q (filter p hs) ≡ cond b (h ∷ filter q hs) (filter q hs)) [
        | true ↦ λ k. let no : false ≡ true = sym e ∙ wider h k in absurd cc
        | false ↦ λ k. more
      ] refl
    ] refl

-- who is listed after some ticks was listed before
sifted_twice : (d next : Domain) (tickets : List Held) → AreKept d.tasks next.tasks → filter (is_kept next) (filter (is_kept d) tickets) ≡ filter (is_kept next) tickets
sifted_twice d next tickets kept =
    filter_twice (is_kept d) (is_kept next) (λ h is. view_where_listed d h.number ∙ kept_listed d.tasks next.tasks h.number kept (sym (view_where_listed next h.number) ∙ is)) tickets

-- ---- the book of the tasks that a state lists

sifted_book : (b : BookView) (d : Domain) → IsBook b d → IsBook (sifted_by d b) d
sifted_book b d is = record {
  run = is.run;
  legal = is.legal;
  held = sifted_holds d d b.tickets is.held (kept_itself d.tasks);
  machine = is.machine;
  early = is.early;
  few = is.few;
  high = is.high;
  capped = is.capped;
  limited = record { first = is.limited.first; since = is.limited.since };
}

-- whatever pieces wait
other_blanks : (b : BookView) (d : Domain) (blanks : List BlankView) → IsBook b d → IsBook (record b { blanks = blanks }) d
other_blanks b d blanks is = record {
  run = is.run;
  legal = is.legal;
  held = is.held;
  machine = is.machine;
  early = is.early;
  few = is.few;
  high = is.high;
  capped = is.capped;
  limited = record { first = is.limited.first; since = is.limited.since };
}

-- ---- before the advance, and from its entry on

-- a book whose log is empty
abbrev pub play_of : BookView → Domain → ℕ → PlayingView
play_of b at left = record { book = b; at = at; left = left; logs = false; logged = [] }

-- if nothing is left and no switch is forgotten, the domain is the run of the history
pub at_run : (b : BookView) (at : Domain) → LeadsOn b at 0 → HasWholeRun (play_of b at 0) → at ≡ state_of b
at_run b at is whole =
    let d = state_of b in
    let switches : at.switches ≡ d.switches = sym (append-nil at.switches) ∙ whole in
    ap (λ (x : Domain). record x { switches = at.switches }) is.leads ∙ ap (λ (ss : List Switch). record d { switches = ss }) switches

pub playing_from : (b : BookView) (streamed : Bool) (state : Domain) → IsEnding b streamed state → IsDomain state → LeadsOn b state 0
playing_from b streamed state is domain = record {
  will_be = sifted_book b (state_of b) is.kept;
  leads = ap without_switches is.left ∙ bare_left streamed (state_of b);
  early = omega (arith, domain.steady.early);
}

-- the run of the history with the advance
entered_run : (cpus limit workers : ℕ) (left : Option ℕ) (l grown : LedgerView) (s : StockView) (at : Domain) (n : ℕ) (p : PassView Entry)
    → LeadsOn (book_of cpus limit workers left l s) at 0 → IsDomain at
    → grown ≡ record l { history = l.history ++ entry_by p (Call.Advance n) (Reply.Done n) ∷ [] } → n ≤ 60000000
    → let d = state_of (book_of cpus limit workers left l s) in IsBook (sifted_by (ticks n d) (book_of cpus limit workers left grown s)) (ticks n d)
entered_run cpus limit workers left l grown s at n p is domain more few =
    let d = state_of (book_of cpus limit workers left l s) in
    let next = ticks n d in
    let tasks : at.tasks ≡ d.tasks = ap (λ (x : Domain). x.tasks) is.leads in
    let kept : AreKept d.tasks next.tasks = ticks_kept n d (subst AreNumbered tasks domain.steady.numbered) in
    let now : StockView = record s { tickets = filter (is_kept d) s.tickets } in
    let then : StockView = record s { tickets = filter (is_kept next) s.tickets } in
    let swept : then ≡ record now { tickets = filter (is_kept next) now.tickets; blanks = then.blanks } =
    ap (λ (hs : List Held). record s { tickets = hs }) (sym (sifted_twice d next s.tickets kept)) in
    advance_grows cpus limit workers left l grown now then d next n p is.will_be more refl kept swept few

pub playing_begun : (cpus limit workers : ℕ) (left : Option ℕ) (l grown : LedgerView) (s : StockView) (at : Domain) (n : ℕ) (p : PassView Entry)
    → LeadsOn (book_of cpus limit workers left l s) at 0 → IsDomain at
    → grown ≡ record l { history = l.history ++ entry_by p (Call.Advance n) (Reply.Done n) ∷ [] } → n ≤ 60000000 → length grown.history ≤ 65536
    → LeadsOn (book_of cpus limit workers left grown s) at n
playing_begun cpus limit workers left l grown s at n p is domain more few short =
    let d = state_of (book_of cpus limit workers left l s) in
    let book = book_of cpus limit workers left grown s in
    let grows = entered_run cpus limit workers left l grown s at n p is domain more few in
    let time : at.time ≡ d.time = ap (λ (x : Domain). x.time) is.leads in
    record {
      will_be = subst (λ (x : Domain). IsBook (sifted_by x book) x) grows.run grows;
      leads = alike_ticks n at d is.leads ∙ ap without_switches grows.run;
      early = omega (arith, time, ticks_time n d, grows.early, short);
    }

-- and the switches of the whole run are those that are at hand, and those to come
pub whole_begun : (cpus limit workers : ℕ) (left : Option ℕ) (l grown : LedgerView) (s : StockView) (at : Domain) (n : ℕ) (p : PassView Entry)
    → LeadsOn (book_of cpus limit workers left l s) at 0 → IsDomain at
    → grown ≡ record l { history = l.history ++ entry_by p (Call.Advance n) (Reply.Done n) ∷ [] } → n ≤ 60000000
    → HasWholeRun (play_of (book_of cpus limit workers left l s) at 0)
    → HasWholeRun (play_of (book_of cpus limit workers left grown s) at n)
whole_begun cpus limit workers left l grown s at n p is domain more few whole =
    let d = state_of (book_of cpus limit workers left l s) in
    let grows = entered_run cpus limit workers left l grown s at n p is domain more few in
    let same : at ≡ d = at_run (book_of cpus limit workers left l s) at is whole in
    sym (to_come_after n at) ∙ ap (λ (x : Domain). (ticks n x).switches) same ∙ ap (λ (x : Domain). x.switches) grows.run

-- ---- some ticks more

pub playing_on : (b : BookView) (at further : Domain) (left after : ℕ) → LeadsOn b at left
    → further ≡ ticks (left - after) at → after ≤ left → LeadsOn b further after
playing_on b at further left after is made most =
    let sum : (left - after) + after ≡ left = omega (arith, most) in
    let time : further.time ≡ at.time + (left - after) = ap (λ (d : Domain). d.time) made ∙ ticks_time (left - after) at in
    record {
      will_be = is.will_be;
      leads = ap (λ (d : Domain). without_switches (ticks after d)) made ∙ ap without_switches (ticks_then (left - after) after at)
          ∙ ap (λ (n : ℕ). without_switches (ticks n at)) sum ∙ is.leads;
      early = omega (arith, time, most, is.early);
    }

-- what is made and what is to come is the whole
pub to_come_more : (n made left : ℕ) (d e : Domain) → e ≡ ticks made d → made + left ≡ n → e.switches ++ switches_to_come left e ≡ d.switches ++ switches_to_come n d
to_come_more n made left d e is sum =
    sym (to_come_after left e) ∙ ap (λ (x : Domain). (ticks left x).switches) is ∙ ap (λ (x : Domain). x.switches) (ticks_then made left d)
    ∙ ap (λ (k : ℕ). (ticks k d).switches) sum ∙ to_come_after n d

-- if no switch waited, a tick is made before the buffer is full
pub some_made : (n left : ℕ) (d e : Domain) → e ≡ ticks (n - left) d → (0 < left → 0 < length e.switches) → d.switches ≡ [] → 0 < n → left < n
some_made n left d e is full none some = elim (cases_lt left n) [ inl less ↦ less | inr most ↦ absurd (nobody most) ]
  where
    nobody : n ≤ left → ⊥
    nobody most =
        let made : n - left ≡ 0 = omega (arith, most) in
        let empty : e.switches ≡ [] = ap (λ (x : Domain). x.switches) (is ∙ ap (λ (k : ℕ). ticks k d) made) ∙ none in
        omega (arith, full (omega (arith, some, most)), ap (λ (ss : List Switch). length ss) empty)

-- what waits in the log, of another domain at the same time
pub until_same : (d e : Domain) (hs gs : List Happened) → e.time ≡ d.time → gs ≡ hs → All (IsLoggedUntil d.time) hs → All (IsLoggedUntil e.time) gs
until_same d e hs gs time same all = subst (λ (t : ℕ). All (IsLoggedUntil t) gs) (sym time) (subst (All (IsLoggedUntil d.time)) (sym same) all)

-- and some switches fewer
pub playing_after : (b : BookView) (at other : Domain) (left : ℕ) → LeadsOn b at left
    → without_switches other ≡ without_switches at → LeadsOn b other left
playing_after b at other left is alike = record {
  will_be = is.will_be;
  leads = alike_ticks left other at alike ∙ is.leads;
  early = subst (λ (n : ℕ). n + left ≤ 2 ^ 42) (sym (ap (λ (d : Domain). d.time) alike)) is.early;
}

-- ---- the end

-- what a sweep needs: the tickets of the tasks that are listed are those of the list
pub played_listed : (b : BookView) (state at : Domain) → LeadsOn b at 0 → state ≡ without_switches at → state ≡ without_switches (state_of b)
played_listed b state at is bare = bare ∙ is.leads

pub finished_book : (cpus limit workers : ℕ) (left : Option ℕ) (l : LedgerView) (s t : StockView) (at state : Domain) → LeadsOn (book_of cpus limit workers left l s) at 0
    → state ≡ without_switches at → t ≡ record s { tickets = filter (is_kept state) s.tickets; blanks = t.blanks }
    → IsEnding (book_of cpus limit workers left l t) true state
finished_book cpus limit workers left l s t at state is bare swept =
    let b = book_of cpus limit workers left l s in
    let d = state_of b in
    let run = played_listed b state at is bare in
    let sifted : t ≡ record s { tickets = filter (is_kept d) s.tickets; blanks = t.blanks } = swept_alike s t d state run swept in
    record {
      kept = subst (λ (x : StockView). IsBook (book_of cpus limit workers left l x) d) (sym sifted) (other_blanks (sifted_by d b) d t.blanks is.will_be);
      left = run;
    }

pub swept_book : (b : BookView) (cpus limit workers : ℕ) (left : Option ℕ) (l : LedgerView) (s t : StockView) (at state : Domain) → book_of cpus limit workers left l s ≡ b
    → LeadsOn (book_of cpus limit workers left l s) at 0 → state ≡ without_switches at
    → t ≡ record s { tickets = filter (is_kept state) s.tickets; blanks = t.blanks }
    → ((given : List BlankView) × (t.blanks ≡ s.blanks ++ given) × AreGiven (filter (is_gone state) s.tickets) given)
    → IsSweptBook b (book_of cpus limit workers left l t)
swept_book b cpus limit workers left l s t at state view is bare swept given =
    let own = book_of cpus limit workers left l s in
    let d = state_of own in
    let run = played_listed own state at is bare in
    let sifted = swept_alike s t d state run swept in
    let gone = given_alike s t d state run given in
    let whole : IsSweptBook own (book_of cpus limit workers left l t) = record {
      book = ap (λ (x : StockView). book_of cpus limit workers left l (record x { tickets = t.tickets; blanks = t.blanks })) sifted;
      tickets = ap (λ (x : StockView). x.tickets) sifted;
      given = gone.0;
      blanks = gone.1;
      are_given = gone.2;
    } in
    subst (λ (x : BookView). IsSweptBook x (book_of cpus limit workers left l t)) view whole

-- ---- an advance that is entered first is an advance

pub played_is_advanced : (old begun new : BookView) (p q : PassView Entry) (n : ℕ) → 0 < n → EntersAlone old begun p q (Call.Advance n) (Reply.Done n) → IsSweptBook begun new → IsAdvanced old new p q n (Reply.Done n)
played_is_advanced old begun new p q n some entered swept =
    let state : state_of begun ≡ state_of new = ap state_of (sym swept.book) in
    record {
      made = n;
      some = some;
      most = omega arith;
      done = refl;
      entered = record {
        free = entered.entered.free;
        lawful = entered.entered.lawful;
        book = swept.book ∙ ap (λ (b : BookView). record b { tickets = new.tickets; blanks = new.blanks }) entered.entered.book;
        pass = entered.entered.pass;
      };
      tickets = swept.tickets ∙ ap (λ (d : Domain). filter (is_kept d) begun.tickets) state ∙ ap (filter (is_kept (state_of new))) entered.tickets;
      given = swept.given;
      blanks = swept.blanks ∙ ap (λ (bs : List BlankView). bs ++ swept.given) entered.blanks;
      are_given = subst (λ (d : Domain). AreGiven (filter (is_gone d) old.tickets) swept.given) state (subst (λ (hs : List Held). AreGiven (filter (is_gone (state_of begun)) hs) swept.given) entered.tickets swept.are_given);
    }
