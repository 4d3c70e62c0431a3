-- Books whose advance is entered first, and made piece by piece then.
use Rattle.std.proofs.Common.{◌≡◌, ℕ, zero, suc, ◌+◌, ◌-◌, ◌≤◌, ◌<◌, Bool, true, false, eqb, List, [], ◌∷◌, ◌++◌, length, take, map, set, get_or, None, All, refl, sym, ap, subst, ◌∙◌, arith}
use Rattle.std.specs.Prelude.{slice_index_or, Result, Ok, Err, OnOk, OnErr}
use Rattle.std.proofs.lemmas.Bool.{eqb-true, eqb-false}
use Rattle.std.proofs.lemmas.List.{append_assoc, append-nil, get_or-set_same, get_or-set_other, get_or-map, length-map, length-set, length_push, map-set, same_lists}
use Rattle.std.proofs.Math.Seq.{take-append_seam}
use Rattle.bw_gate.specs.Pieces.{GateId}
use Rattle.pass_seats.specs.Lists.{PassView}
use Rattle.domain_run.specs.declared.call.Call.TheVariants.{Advance}
use Rattle.domain_run.specs.declared.call.Reply.TheVariants as replies
use Rattle.domain_run.specs.Domain.{Domain, empty_domain}
use Rattle.domain_run.specs.Happened.{logged_by_ticks}
use Rattle.domain_run.specs.Run.{run_of}
use Rattle.calls_text.specs.declared.section.Entry.{Entry}
use Rattle.calls_text.specs.SectionView.{SectionView}
use Rattle.calls_text.specs.Histories.{calls_of}
use Rattle.call_book.specs.Book.{BookView, EntersAlone, entry_by, state_of}
use Rattle.call_book.specs.Ending.{EndingView}
use Rattle.call_book.specs.Playing.{PlayingView, HasWholeRun}
use Rattle.session.specs.SessionId.{SessionId}
use Rattle.session.specs.Asks.{ClientView}
use Rattle.session.specs.Report.{IsHistoryOf, IsSessionReport}
use Rattle.session.specs.declared.report.Report.{Report}
use Rattle.session.specs.Begun.{section_of, played_books, AreAllMade, AreBookHistories, AreUnlogged, HaveWholeRuns, IsUnlogged, LogsItsEnd}
use Rattle.session.specs.RunEnd.{IsFullWith}
use Rattle.session.specs.private.Begun.{unplayed, without_pieces}
use Rattle.session.specs.private.Closing.{HaveEnded}
use Rattle.session.specs.private.Ending.{books_of, IsFullAmong, unstreamed_ending}
use Rattle.session.specs.private.Entering.{IsSessionBook}
use Rattle.session.specs.private.Parts.{AreSessionBooks}
use Rattle.session.proofs.Advanced.{kept_own}

-- ---- books with their buffers, before anything is entered

pub played_back : (logs : Bool) (books : List BookView) → played_books (map (unplayed logs) books) ≡ books
played_back logs [] = refl
played_back logs (b ∷ books) = ap (λ (bs : List BookView). b ∷ bs) (played_back logs books)

unplayed_made : (logs : Bool) (books : List BookView) → AreAllMade (map (unplayed logs) books)
unplayed_made logs [] d x inside = absurd (omega (arith, inside))
unplayed_made logs (b ∷ books) zero x inside = refl
unplayed_made logs (b ∷ books) (suc d) x inside = unplayed_made logs books d x (omega (arith, inside))

unplayed_whole : (logs : Bool) (books : List BookView) → HaveWholeRuns (map (unplayed logs) books)
unplayed_whole logs [] d x inside = absurd (omega (arith, inside))
unplayed_whole logs (b ∷ books) zero x inside = append-nil (state_of b).switches
unplayed_whole logs (b ∷ books) (suc d) x inside = unplayed_whole logs books d x (omega (arith, inside))

pub all_made : (logs : Bool) (playing : List PlayingView) (books : List BookView) → playing ≡ map (unplayed logs) books → AreAllMade playing
all_made logs playing books is = subst AreAllMade (sym is) (unplayed_made logs books)

pub all_whole : (logs : Bool) (playing : List PlayingView) (books : List BookView) → playing ≡ map (unplayed logs) books → HaveWholeRuns playing
all_whole logs playing books is = subst HaveWholeRuns (sym is) (unplayed_whole logs books)

unplayed_unlogged : (logs : Bool) (books : List BookView) → AreUnlogged logs (map (unplayed logs) books)
unplayed_unlogged logs [] d x inside = absurd (omega (arith, inside))
unplayed_unlogged logs (b ∷ books) zero x inside = record { logs = refl; logged = refl }
unplayed_unlogged logs (b ∷ books) (suc d) x inside = unplayed_unlogged logs books d x (omega (arith, inside))

pub all_unlogged : (logs : Bool) (playing : List PlayingView) (books : List BookView) → playing ≡ map (unplayed logs) books → AreUnlogged logs playing
all_unlogged logs playing books is = subst (AreUnlogged logs) (sym is) (unplayed_unlogged logs books)

pub books_named : (logs : Bool) (id : SessionId) (playing : List PlayingView) (books : List BookView) → playing ≡ map (unplayed logs) books → AreSessionBooks id books → AreSessionBooks id (played_books playing)
books_named logs id playing books is named = subst (AreSessionBooks id) (sym (ap played_books is ∙ played_back logs books)) named

-- one buffer more
pub played_more : (logs : Bool) (playing after : List PlayingView) (rest left : List BookView) (b : BookView) (p : PlayingView) (total : List PlayingView) → after ≡ playing ++ p ∷ [] → rest ≡ b ∷ left → p ≡ unplayed logs b
    → playing ++ map (unplayed logs) rest ≡ total → after ++ map (unplayed logs) left ≡ total
played_more logs playing after rest left b p total after_is rest_is is sum =
    ap (λ (ps : List PlayingView). ps ++ map (unplayed logs) left) after_is ∙ append_assoc playing (p ∷ []) (map (unplayed logs) left)
    ∙ ap (λ (x : PlayingView). playing ++ x ∷ map (unplayed logs) left) is ∙ ap (λ (bs : List BookView). playing ++ map (unplayed logs) bs) (sym rest_is) ∙ sum

pub played_gates : (id : SessionId) (gate : GateId) (books : List PlayingView) → gate ≡ id.gate → AreSessionBooks id (played_books books) → All (λ (p : PlayingView). p.book.gate ≡ gate) books
played_gates id gate books same named d x inside =
    let f : PlayingView → BookView = λ p. p.book in
    let there : d < length (played_books books) = omega (arith, inside, length-map books f) in
    sym (ap (λ (b : BookView). b.gate) (get_or-map f books d x x.book inside)) ∙ (named d x.book there).gate ∙ sym same

-- ---- one book after the other

-- the book at a place
pub played_at : (books : List PlayingView) (n : ℕ) (p : PlayingView) → n < length books → p ≡ get_or books n p → get_or (played_books books) n p.book ≡ p.book
played_at books n p inside is = get_or-map (λ (x : PlayingView). x.book) books n p p.book inside ∙ sym (ap (λ (x : PlayingView). x.book) is)

-- with another book at a place
pub put_played : (books : List PlayingView) (n : ℕ) (p : PlayingView) → set (played_books books) n p.book ≡ played_books (set books n p)
put_played books n p = sym (map-set (λ (x : PlayingView). x.book) books n p)

pub whole_set : (books : List PlayingView) (n : ℕ) (p : PlayingView) → n < length books → HaveWholeRuns books → HasWholeRun p → HaveWholeRuns (set books n p)
whole_set books n p there whole new d x inside = by (eqb n d) refl
  where
    by : (e : Bool) → eqb n d ≡ e → HasWholeRun (get_or (set books n p) d x)
    by true is =
        subst (λ (k : ℕ). HasWholeRun (get_or (set books n p) k x)) (eqb-true n d is) (subst HasWholeRun (sym (get_or-set_same books n p x there)) new)
    by false is =
        let other = eqb-false n d is in
        subst HasWholeRun (sym (get_or-set_other books n d p x (λ at. other (sym at)))) (whole d x (omega (arith, inside, length-set books n p)))

-- the others are not begun yet
abbrev pub RestMade : ℕ → List PlayingView → Type 0
RestMade n books = (d : ℕ) (p : PlayingView) → n ≤ d → d < length books → (slice_index_or books d p).left ≡ 0

pub rest_made : (n m : ℕ) (books : List PlayingView) (p : PlayingView) → m ≡ n + 1 → RestMade n books → RestMade m (set books n p)
rest_made n m books p more rest = λ d x following inside.
    ap (λ (x : PlayingView). x.left) (get_or-set_other books n d p x (λ same. absurd (omega (arith, same, following, more))))
    ∙ rest d x (omega (arith, following, more)) (omega (arith, inside, length-set books n p))

-- what is said of a call that was made, and of one that was not
pub ok_so : {A E : Type 0} (r : Result A E) (P Q : Type 0) → OnOk r P → (P → Q) → OnOk r Q
ok_so (Ok a) P Q is f = f is
ok_so (Err e) P Q is f = tt

pub both_ok : {A E : Type 0} (r : Result A E) (P Q R : Type 0) → OnOk r P → OnOk r Q → (P → Q → R) → OnOk r R
both_ok (Ok a) P Q R p q f = f p q
both_ok (Err e) P Q R p q f = tt

-- ---- what is still to be logged

-- a book of which an advance was entered, or none, and nothing more was logged
pub unlogged_still : {A E : Type 0} (r : Result A E) (old new : PlayingView) (b : BookView) (n : ℕ) (logs : Bool) → OnOk r (new ≡ record old { book = b; left = n }) → OnErr r (new ≡ old) → IsUnlogged logs old → IsUnlogged logs new
unlogged_still (Ok a) old new b n logs entered same is = subst (IsUnlogged logs) (sym entered) (record { logs = is.logs; logged = is.logged })
unlogged_still (Err e) old new b n logs entered same is = subst (IsUnlogged logs) (sym same) is

all_but_last : (es : List Entry) (e : Entry) → take (length (es ++ e ∷ []) - 1) (es ++ e ∷ []) ≡ es
all_but_last es e =
    let less : length (es ++ e ∷ []) - 1 ≡ length es = omega (arith, length_push es e) in
    ap (λ (n : ℕ). take n (es ++ e ∷ [])) less ∙ take-append_seam es (e ∷ [])

-- an advance was entered, of which no tick is made: what it logs is still to be logged
pub logs_end : (old new : PlayingView) (p q : PassView Entry) (n : ℕ) → old.at ≡ state_of old.book → EntersAlone old.book new.book p q (Advance n) (replies.Done n) → new ≡ record old { book = new.book; left = n } → LogsItsEnd n new
logs_end old new p q n at is entered =
    let was = old.book in
    let now = new.book in
    let cpus = ap (λ (b : BookView). b.cpus) is.entered.book in
    let limit = ap (λ (b : BookView). b.limit) is.entered.book in
    let history = ap (λ (b : BookView). b.history) is.entered.book in
    let cut : take (length now.history - 1) now.history ≡ was.history =
    ap (λ (es : List Entry). take (length es - 1) es) history ∙ all_but_last was.history (entry_by p (Advance n) (replies.Done n)) in
    record {
      most = omega (arith, ap (λ (x : PlayingView). x.left) entered);
      has_logged = ap (λ (x : PlayingView). logged_by_ticks x.left x.at) entered
          ∙ ap (logged_by_ticks n) at
          ∙ ap (λ (k : ℕ). logged_by_ticks n (run_of k was.limit (calls_of was.history))) (sym cpus)
          ∙ ap (λ (k : ℕ). logged_by_ticks n (run_of now.cpus k (calls_of was.history))) (sym limit)
          ∙ ap (λ (es : List Entry). logged_by_ticks n (run_of now.cpus now.limit (calls_of es))) (sym cut);
    }

-- the first so many of the books
abbrev pub FirstOf : (PlayingView → Type 0) → ℕ → List PlayingView → Type 0
FirstOf P n books = (d : ℕ) (x : PlayingView) → d < n → d < length books → P (slice_index_or books d x)

pub first_more : (P : PlayingView → Type 0) (n m : ℕ) (books : List PlayingView) (p : PlayingView) → n < length books → m ≡ n + 1 → FirstOf P n books → P p → FirstOf P m (set books n p)
first_more P n m books p there more first last d x upto inside = by (eqb n d) refl
  where
    by : (e : Bool) → eqb n d ≡ e → P (get_or (set books n p) d x)
    by true is = subst (λ (k : ℕ). P (get_or (set books n p) k x)) (eqb-true n d is) (subst P (sym (get_or-set_same books n p x there)) last)
    by false is =
        let other = eqb-false n d is in
        subst P (sym (get_or-set_other books n d p x (λ at. other (sym at)))) (first d x (omega (arith, upto, more, other)) (omega (arith, inside, length-set books n p)))

-- ---- histories

-- the first so many
abbrev pub FirstHistories : ℕ → SessionId → List ClientView → List BookView → Type 0
FirstHistories n id clients books = (d : ℕ) (x : BookView) → d < n → IsHistoryOf id d clients (section_of (slice_index_or books d x))

pub histories_more : (n m : ℕ) (id : SessionId) (clients : List ClientView) (books : List BookView) → m ≡ n + 1 → FirstHistories n id clients books
    → ((x : BookView) → IsHistoryOf id n clients (section_of (get_or books n x))) → FirstHistories m id clients books
histories_more n m id clients books more first last d x upto = by (eqb n d) refl
  where
    by : (e : Bool) → eqb n d ≡ e → IsHistoryOf id d clients (section_of (get_or books d x))
    by true is = subst (λ (k : ℕ). IsHistoryOf id k clients (section_of (get_or books k x))) (eqb-true n d is) (last x)
    by false is = first d x (let other = eqb-false n d is in omega (arith, upto, more, other))

-- a book was full: the history that it has, and that client 1 has entered nothing in it
pub full_played : (id : SessionId) (duration : ℕ) (cs : List ClientView) (b c : ClientView) (books : List BookView) → 0 < length cs → b ≡ get_or cs 0 b
    → length books ≡ length id.cpu_sets → AreSessionBooks id books → AreBookHistories id (set cs 0 c) books → IsFullAmong duration books b c → IsFullWith id duration cs
full_played id duration cs b c [] some first count named histories met = absurd (omega (arith, met.place))
full_played id duration cs b c (y ∷ ys) some first count named histories met =
    let books = y ∷ ys in
    let d = met.domain in
    let book = get_or books d y in
    let left = histories d y met.place in
    record {
      advances = met.advances;
      domain = d;
      place = omega (arith, met.place, count);
      history = section_of book;
      legal = record {
        cpus = left.cpus;
        limit = left.limit;
        legal = left.legal;
        numbered = left.numbered;
        members = left.members;
        spelled = left.spelled;
        own = kept_own d book.history cs b c some first met.number met.kept left.own;
      };
      full = met.full y ∙ (named d y met.place).room;
    }

-- ---- the end

-- no book in particular
nobody : SessionId → BookView
nobody id = record {
  gate = id.gate;
  domain = 0;
  cpus = 0;
  limit = 0;
  clients = 0;
  spine = id.gate.table;
  room = 0;
  history = [];
  tickets = [];
  blanks = [];
  workers = 0;
  left = None;
}

without_named : (id : SessionId) (d : ℕ) (b : BookView) → IsSessionBook id d (without_pieces b) → IsSessionBook id d b
without_named id d b is = record { gate = is.gate; domain = is.domain; spine = is.spine; cpus = is.cpus; limit = is.limit; clients = is.clients; room = is.room; workers = is.workers; place = is.place }

with_named : (id : SessionId) (d : ℕ) (b : BookView) → IsSessionBook id d b → IsSessionBook id d (without_pieces b)
with_named id d b is = record { gate = is.gate; domain = is.domain; spine = is.spine; cpus = is.cpus; limit = is.limit; clients = is.clients; room = is.room; workers = is.workers; place = is.place }

pub length_pieces : (xs ys : List BookView) → map without_pieces xs ≡ map without_pieces ys → length xs ≡ length ys
length_pieces xs ys alike = sym (length-map xs without_pieces) ∙ ap (λ (zs : List BookView). length zs) alike ∙ length-map ys without_pieces

-- the books of two lists at a place, apart from their pieces
alike_at : (xs ys : List BookView) (d : ℕ) (x y : BookView) → map without_pieces xs ≡ map without_pieces ys → d < length ys → without_pieces (get_or xs d x) ≡ without_pieces (get_or ys d y)
alike_at xs ys d x y alike inside =
    let there : d < length xs = omega (arith, inside, length_pieces xs ys alike) in
    sym (get_or-map without_pieces xs d x x there) ∙ ap (λ (zs : List BookView). get_or zs d x) alike ∙ get_or-map without_pieces ys d y x inside

pub named_alike : (id : SessionId) (xs ys : List BookView) → map without_pieces xs ≡ map without_pieces ys → AreSessionBooks id ys → AreSessionBooks id xs
named_alike id xs ys alike named d x inside =
    let there : d < length ys = omega (arith, inside, length_pieces xs ys alike) in
    without_named id d (get_or xs d x) (subst (IsSessionBook id d) (sym (alike_at xs ys d x x alike there)) (with_named id d (get_or ys d x) (named d x there)))

-- one book more is finished
push_first : (ending : List EndingView) (e : EndingView) (rest : List BookView) → map without_pieces (books_of (ending ++ e ∷ [])) ++ rest ≡ map without_pieces (books_of ending) ++ without_pieces e.book ∷ rest
push_first [] e rest = refl
push_first (x ∷ ending) e rest = ap (λ (bs : List BookView). without_pieces x.book ∷ bs) (push_first ending e rest)

pub finished_more : (ending after : List EndingView) (rest left : List PlayingView) (p : PlayingView) (e : EndingView) (total : List BookView) → after ≡ ending ++ e ∷ [] → rest ≡ p ∷ left → without_pieces e.book ≡ without_pieces p.book
    → map without_pieces (books_of ending) ++ map without_pieces (played_books rest) ≡ total → map without_pieces (books_of after) ++ map without_pieces (played_books left) ≡ total
finished_more ending after rest left p e total after_is rest_is swept sum =
    let rests = map without_pieces (played_books left) in
    ap (λ (es : List EndingView). map without_pieces (books_of es) ++ rests) after_is ∙ push_first ending e rests
    ∙ ap (λ (b : BookView). map without_pieces (books_of ending) ++ b ∷ rests) swept
    ∙ ap (λ (ps : List PlayingView). map without_pieces (books_of ending) ++ map without_pieces (played_books ps)) (sym rest_is) ∙ sum

-- the histories that are left are those that were begun
pub histories_left : (id : SessionId) (clients : List ClientView) (ending : List EndingView) (books : List BookView) (r : Report) (states : List Domain)
    → map without_pieces (books_of ending) ≡ map without_pieces books → length books ≡ length id.cpu_sets → AreSessionBooks id books
    → IsSessionReport id clients r → HaveEnded ending r.histories.items states → r.histories.items ≡ map section_of books
histories_left id clients ending books r states alike count named report ended =
    same_lists r.histories.items (map section_of books) (many ∙ sym (length-map books section_of)) each
  where
    many : length r.histories.items ≡ length books
    many = report.left.count ∙ sym count

    each : (d : ℕ) (x : SectionView) → d < length r.histories.items → get_or r.histories.items d x ≡ get_or (map section_of books) d x
    each d x inside =
        let h = get_or r.histories.items d x in
        let y = nobody id in
        let e = unstreamed_ending y in
        let f : EndingView → BookView = λ v. v.book in
        let there : d < length books = omega (arith, inside, many) in
        let ends : d < length ending = omega (arith, there, length_pieces (books_of ending) books alike, length-map ending f) in
        let left = report.left.histories d x (omega (arith, there, count)) in
        let book = get_or books d y in
        let is = named d y there in
        let last : (get_or ending d e).book.history ≡ book.history =
        ap (λ (b : BookView). b.history) (sym (get_or-map f ending d e y ends)) ∙ ap (λ (b : BookView). b.history) (alike_at (books_of ending) books d y y alike there) in
        let cpus : h.cpus ≡ book.cpus = left.cpus ∙ sym is.cpus in
        let limit : h.limit ≡ book.limit = left.limit ∙ sym is.limit in
        let entries : h.entries ≡ book.history = (ended.each d e x (empty_domain 0 0) inside).entries ∙ last in
        let same : h ≡ section_of book = λ i. record { cpus = cpus i; limit = limit i; entries = entries i } in
        same ∙ sym (get_or-map section_of books d y x there)
