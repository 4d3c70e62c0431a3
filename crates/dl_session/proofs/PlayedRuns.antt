-- Books whose advance is made while their switches are written.
use Rattle.std.proofs.Common.{◌≡◌, ℕ, zero, suc, ◌+◌, ◌^◌, ◌≤◌, ◌<◌, arith, List, [], ◌∷◌, ◌++◌, length, map, get_or, All, refl, sym, ap, subst, ◌∙◌}
use Rattle.std.specs.List.{AllZip}
use Rattle.std.proofs.lemmas.List.{length-map, get_or-map}
use Rattle.std.proofs.lemmas.List.Elements.{All-head, All-tail, recursion_from_All}
use Rattle.domain_run.specs.Domain.{Domain}
use Rattle.domain_run.specs.Sound.{IsAdmitted}
use Rattle.domain_run.specs.Tick.{ticks}
use Rattle.domain_run.proofs.CallerLemmas.{ticks_cpus}
use Rattle.calls_text.specs.SectionView.{SectionView}
use Rattle.calls_text.specs.Limits.{IsSection}
use Rattle.calls_text.specs.Histories.{IsLegal}
use Rattle.switch_text.specs.Names.{Names}
use Rattle.switch_text.specs.SlicedTrace.{whole_of, wholes, all_entries}
use Rattle.switch_text.specs.Trace.{SwitchesView}
use Rattle.call_book.specs.Book.{BookView, state_of}
use Rattle.call_book.specs.Playing.{PlayingView, LeadsToRun, IsFurther}
use Rattle.calls_trace.specs.Replay.{run_view, runs_from}
use Rattle.calls_trace.proofs.CallerLemmas.{all_few}
use Rattle.session.specs.Begun.{section_of, played_books}
use Rattle.dl_session.specs.declared.played.PlayedRun.{PlayedRun}
use Rattle.dl_session.specs.declared.streaming.Streaming.{Streaming}
use Rattle.dl_session.specs.declared.streaming.Streaming.TheVariants as streams
use Rattle.dl_session.specs.private.Named.{AreAllNamed}
use Rattle.dl_session.specs.private.Streaming.{AreCountable}
use Rattle.dl_session.proofs.EventRuns.{events_few}
use Rattle.dl_session.specs.private.PlayedBooks.{played_slices, played_book, played_histories, IsNamedBook, AreReady}

-- ---- a book

-- ticks admit nobody
ticks_used : (k : ℕ) (d : Domain) → (ticks k d).used ≡ d.used
ticks_used zero d = refl
ticks_used (suc k) d = ticks_used k d

-- each number that was admitted has a name
pub played_named : (p : PlayingView) (names : Names) → LeadsToRun p → IsNamedBook p.book names → AreAllNamed p.at.used names
played_named p names leads named n h =
    let used : p.at.used ≡ (state_of p.book).used = sym (ticks_used p.left p.at) ∙ ap (λ (d : Domain). d.used) leads in
    named.all_named n (subst (λ (us : List ℕ). IsAdmitted us n) used h)

pub further_cpus : (p q : PlayingView) → IsFurther p q → q.at.cpus ≡ p.at.cpus
further_cpus p q is = ap (λ (x : PlayingView). x.at.cpus) is.play ∙ ticks_cpus is.made p.at

pub further_named : (p q : PlayingView) (names : Names) → IsFurther p q → AreAllNamed p.at.used names → AreAllNamed q.at.used names
further_named p q names is named =
    let used : q.at.used ≡ p.at.used = ap (λ (x : PlayingView). x.at.used) is.play ∙ ticks_used is.made p.at in
    subst (λ (us : List ℕ). AreAllNamed us names) (sym used) named

-- ---- as it is written

-- ---- all books

pub named_zip : (bs : List BookView) (ns : List Names) → length ns ≡ length bs → ((d : ℕ) (n : Names) → d < length ns → (b : BookView) → IsNamedBook (get_or bs d b) (get_or ns d n)) → AllZip IsNamedBook bs ns
named_zip [] [] same each = tt
named_zip [] (n ∷ ns) same each = absurd (omega (arith, same))
named_zip (b ∷ bs) [] same each = absurd (omega (arith, same))
named_zip (b ∷ bs) (n ∷ ns) same each = (each 0 n (omega arith) b, named_zip bs ns (omega (arith, same)) (λ d m inside c. each (suc d) m (omega (arith, inside)) c))

-- the first book has the first names, and the others have the others
first_zip : (rest left : List PlayingView) (p : PlayingView) (ns ms : List Names) (n : Names) → rest ≡ p ∷ left → ns ≡ n ∷ ms → AllZip IsNamedBook (played_books rest) ns → AllZip IsNamedBook (played_books (p ∷ left)) (n ∷ ms)
first_zip rest left p ns ms n is at are = subst (λ (xs : List Names). AllZip IsNamedBook (played_books (p ∷ left)) xs) at (subst (λ (ps : List PlayingView). AllZip IsNamedBook (played_books ps) ns) is are)

pub other_named : (rest left : List PlayingView) (p : PlayingView) (ns ms : List Names) (n : Names) → rest ≡ p ∷ left → ns ≡ n ∷ ms → AllZip IsNamedBook (played_books rest) ns → AllZip IsNamedBook (played_books left) ms
other_named rest left p ns ms n is at are = (first_zip rest left p ns ms n is at are).1

push_book : (runs : List PlayedRun) (r : PlayedRun) (bs : List BookView) → map played_book (runs ++ r ∷ []) ++ bs ≡ map played_book runs ++ played_book r ∷ bs
push_book [] r bs = refl
push_book (x ∷ runs) r bs = ap (λ (cs : List BookView). played_book x ∷ cs) (push_book runs r bs)

push_whole : (runs : List PlayedRun) (r : PlayedRun) (vs : List SwitchesView) → wholes (map played_slices (runs ++ r ∷ [])) ++ vs ≡ wholes (map played_slices runs) ++ whole_of (played_slices r) ∷ vs
push_whole [] r vs = refl
push_whole (x ∷ runs) r vs = ap (λ (ws : List SwitchesView). whole_of (played_slices x) ∷ ws) (push_whole runs r vs)

-- one book more
pub books_more : (runs after : List PlayedRun) (r : PlayedRun) (rest left : List PlayingView) (p : PlayingView) (total : List BookView) → after ≡ runs ++ r ∷ [] → rest ≡ p ∷ left → played_book r ≡ p.book
    → map played_book runs ++ played_books rest ≡ total → map played_book after ++ played_books left ≡ total
books_more runs after r rest left p total after_is rest_is same sum =
    ap (λ (rs : List PlayedRun). map played_book rs ++ played_books left) after_is ∙ push_book runs r (played_books left)
    ∙ ap (λ (b : BookView). map played_book runs ++ b ∷ played_books left) same
    ∙ ap (λ (ps : List PlayingView). map played_book runs ++ played_books ps) (sym rest_is) ∙ sum

pub wholes_more : (base next : ℕ) (runs after : List PlayedRun) (r : PlayedRun) (rest left : List PlayingView) (p : PlayingView) (total : List SwitchesView) → after ≡ runs ++ r ∷ [] → rest ≡ p ∷ left → next ≡ base + p.book.cpus
    → whole_of (played_slices r) ≡ run_view base (section_of p.book) → wholes (map played_slices runs) ++ runs_from base (played_histories rest) ≡ total
    → wholes (map played_slices after) ++ runs_from next (played_histories left) ≡ total
wholes_more base next runs after r rest left p total after_is rest_is step same sum =
    ap (λ (n : ℕ). wholes (map played_slices after) ++ runs_from n (played_histories left)) step
    ∙ ap (λ (rs : List PlayedRun). wholes (map played_slices rs) ++ runs_from (base + p.book.cpus) (played_histories left)) after_is
    ∙ push_whole runs r (runs_from (base + p.book.cpus) (played_histories left))
    ∙ ap (λ (v : SwitchesView). wholes (map played_slices runs) ++ v ∷ runs_from (base + p.book.cpus) (played_histories left)) same
    ∙ ap (λ (ps : List PlayingView). wholes (map played_slices runs) ++ runs_from base (played_histories ps)) (sym rest_is) ∙ sum

-- one book is taken back
pub taken_more : (books after : List PlayingView) (p : PlayingView) (rest left : List PlayedRun) (r : PlayedRun) (total : List BookView) → after ≡ books ++ p ∷ [] → rest ≡ r ∷ left → p.book ≡ played_book r
    → played_books books ++ map played_book rest ≡ total → played_books after ++ map played_book left ≡ total
taken_more books after p rest left r total after_is rest_is same sum =
    ap (λ (ps : List PlayingView). played_books ps ++ map played_book left) after_is ∙ push books
    ∙ ap (λ (b : BookView). played_books books ++ b ∷ map played_book left) same
    ∙ ap (λ (rs : List PlayedRun). played_books books ++ map played_book rs) (sym rest_is) ∙ sum
  where
    push : (ps : List PlayingView) → played_books (ps ++ p ∷ []) ++ map played_book left ≡ played_books ps ++ p.book ∷ map played_book left
    push [] = refl
    push (q ∷ ps) = ap (λ (bs : List BookView). q.book ∷ bs) (push ps)

-- the CPUs of the first book are at most 64
pub first_cpus : (rest left : List PlayingView) (p : PlayingView) → rest ≡ p ∷ left → All IsSection (played_histories rest) → p.book.cpus ≤ 64
first_cpus rest left p is are =
    (All-head IsSection (section_of p.book) (played_histories left) (subst (λ (ps : List PlayingView). All IsSection (played_histories ps)) is are)).most_cpus

pub other_sections : (rest left : List PlayingView) (p : PlayingView) → rest ≡ p ∷ left → All IsSection (played_histories rest) → All IsSection (played_histories left)
other_sections rest left p is are =
    All-tail IsSection (section_of p.book) (played_histories left) (subst (λ (ps : List PlayingView). All IsSection (played_histories ps)) is are)

-- ---- they are few enough to be written

pub books_few : (runs : List SwitchesView) (books : List PlayingView) → AreReady books → runs ≡ runs_from 0 (played_histories books) → length (all_entries runs) ≤ 2 ^ 54
books_few runs books ready is =
    let few = ready.few in
    let long = length-map books (λ (p : PlayingView). p.book) in
    let more = length-map (played_books books) section_of in
    let all = all_few 0 (played_histories books) (recursion_from_All IsSection (played_histories books) ready.sections) in
    omega (arith, ap (λ (vs : List SwitchesView). length (all_entries vs)) is, all, few, long, more)

-- the history of a book at a place, from the list of histories
pub history_at : (books : List PlayingView) (i : ℕ) (p : PlayingView) (s : SectionView) → i < length books → get_or (played_histories books) i s ≡ section_of (get_or books i p).book
history_at books i p s inside =
    let many = length-map books (λ (q : PlayingView). q.book) in
    get_or-map section_of (played_books books) i p.book s (omega (arith, inside, many)) ∙ ap section_of (get_or-map (λ (q : PlayingView). q.book) books i p p.book inside)

-- the history of a book at a place
pub section_at : (books : List PlayingView) (i : ℕ) (p : PlayingView) → AreReady books → i < length books → p ≡ get_or books i p → IsSection (section_of p.book)
section_at books i p ready inside is =
    let many = length-map books (λ (q : PlayingView). q.book) in
    let long = length-map (played_books books) section_of in
    let there = ready.sections i (section_of p.book) (omega (arith, inside, many, long)) in
    subst (λ (q : PlayingView). IsSection (section_of q.book)) (sym is) (subst IsSection (history_at books i p (section_of p.book) inside) there)

pub legal_at : (books : List PlayingView) (i : ℕ) (p : PlayingView) → AreReady books → i < length books → p ≡ get_or books i p → IsLegal p.book.cpus p.book.limit p.book.history
legal_at books i p ready inside is =
    let many = length-map books (λ (q : PlayingView). q.book) in
    let long = length-map (played_books books) section_of in
    let there = ready.legal i (section_of p.book) (omega (arith, inside, many, long)) in
    subst (λ (q : PlayingView). IsLegal q.book.cpus q.book.limit q.book.history) (sym is)
    (subst (λ (s : SectionView). IsLegal s.cpus s.limit s.entries) (history_at books i p (section_of p.book) inside) there)

-- what is written can be counted
pub are_countable : (streaming : Streaming) (runs : List PlayedRun) (books : List PlayingView) → AreReady books → map played_book runs ≡ played_books books → wholes (map played_slices runs) ≡ runs_from 0 (played_histories books) → AreCountable streaming runs
are_countable streams.Trace runs books ready same whole = books_few (wholes (map played_slices runs)) books ready whole
are_countable streams.Events runs books ready same whole =
    let long = length-map books (λ (p : PlayingView). p.book) in
    let more = length-map (played_books books) section_of in
    let many = ap (λ (bs : List BookView). length bs) same in
    events_few runs (played_histories books) (omega (arith, many, length-map runs played_book, long, ready.few)) (omega (arith, long, more, ready.few))
    (recursion_from_All IsSection (played_histories books) ready.sections) whole
