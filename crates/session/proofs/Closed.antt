-- Books and tickets at a session's end.
use Rattle.std.proofs.Common.{◌≡◌, ◌≢◌, ℕ, zero, suc, ◌+◌, ◌≤◌, ◌<◌, Bool, true, false, eqb, List, [], ◌∷◌, ◌++◌, length, map, get_or, All, refl, sym, ap, subst, ◌∙◌, arith}
use Rattle.std.proofs.lemmas.Bool.{ne_eqb, eqb-true, eqb-false}
use Rattle.std.proofs.lemmas.List.{get_or_push, get_or_append_left, length_push}
use Rattle.std.proofs.lemmas.List.Sums.{sum_by-le}
use Rattle.bw_gate.specs.Pieces.{GateId, TicketView, bw_in, bw_of_tickets}
use Rattle.call_book.specs.Pieces.{IsTicketOf}
use Rattle.domain_run.specs.Domain.{Domain}
use Rattle.call_book.specs.Book.{BookView}
use Rattle.call_book.specs.Ending.{EndingView}
use Rattle.calls_text.specs.SectionView.{SectionView}
use Rattle.session.specs.SessionId.{SessionId}
use Rattle.session.specs.private.Entering.{IsSessionBook}
use Rattle.session.specs.private.Parts.{AreSessionBooks}
use Rattle.session.specs.private.Closing.{IsEnded, HaveEnded}
use Rattle.session.specs.private.Ending.{AreAllStreamed, books_of, unstreamed_ending}

-- by the place in a list with one element more
pub by_place_more : {X : Type 0} (P : ℕ → X → Type 0) (xs : List X) (y : X)
    → ((d : ℕ) (x : X) → d < length xs → P d (get_or xs d x)) → P (length xs) y
    → (d : ℕ) (x : X) → d < length (xs ++ y ∷ []) → P d (get_or (xs ++ y ∷ []) d x)
by_place_more P xs y each last d x inside = by (eqb d (length xs)) refl
  where
    by : (b : Bool) → eqb d (length xs) ≡ b → P d (get_or (xs ++ y ∷ []) d x)
    by true is =
        let at = eqb-true d (length xs) is in
        subst (λ e. P e (get_or (xs ++ y ∷ []) e x)) (sym at) (subst (P (length xs)) (sym (get_or_push xs y x (length xs) refl)) last)
    by false is =
        let other = eqb-false d (length xs) is in
        let before : d < length xs = omega (arith, inside, length_push xs y, other) in
        subst (P d) (sym (get_or_append_left xs (y ∷ []) x d before)) (each d x before)

pub named_more : (id : SessionId) (books : List BookView) (b : BookView) → AreSessionBooks id books → IsSessionBook id (length books) b → AreSessionBooks id (books ++ b ∷ [])
named_more id books b named last = by_place_more (IsSessionBook id) books b named last

-- tickets of one domain have nothing of another
share_apart : (gate : GateId) (e d : ℕ) (t : TicketView) → IsTicketOf gate e t → d ≢ e → bw_in d t ≤ 0
share_apart gate e d t is other =
    let no : eqb t.domain d ≡ false = ne_eqb _ _ (λ same. other (sym same ∙ is.inside)) in
    rw no (omega arith)

pub apart : (gate : GateId) (e d : ℕ) (ts : List TicketView) → All (IsTicketOf gate e) ts → d ≢ e → bw_of_tickets d ts ≡ 0
apart gate e d ts own other =
    omega (arith, sum_by-le (bw_in d) 0 ts (λ k x inside. share_apart gate e d (get_or ts k x) (own k x inside) other))

-- the books that are left when one more was taken
pub left_next : {X : Type 0} (bs all rest : List X) (b : X) (n m k l : ℕ) → all ≡ b ∷ rest → m ≡ n + 1 → k ≡ l + 1
    → ((j : ℕ) (x : X) → j < k → get_or all j x ≡ get_or bs (n + j) x)
    → (j : ℕ) (x : X) → j < l → get_or rest j x ≡ get_or bs (m + j) x
left_next {X} bs all rest b n m k l is more one each j x inside =
    let same : n + suc j ≡ m + j = omega (arith, more) in
    let there : suc j < k = omega (arith, inside, one) in
    sym (ap (λ (ys : List X). get_or ys (suc j) x) is) ∙ each (suc j) x there ∙ ap (λ (d : ℕ). get_or bs d x) same

-- and the one that was taken
pub taken_first : {X : Type 0} (bs all rest : List X) (b : X) (n k d : ℕ) → all ≡ b ∷ rest → 0 < k → d ≡ n
    → ((j : ℕ) (x : X) → j < k → get_or all j x ≡ get_or bs (n + j) x)
    → (x : X) → get_or bs d x ≡ b
taken_first {X} bs all rest b n k d is some at each x =
    let same : n + 0 ≡ d = omega (arith, at) in
    sym (sym (ap (λ (ys : List X). get_or ys 0 x) is) ∙ each 0 x some ∙ ap (λ (e : ℕ). get_or bs e x) same)

-- one book more has ended
pub ended_more : (books : List EndingView) (histories : List SectionView) (states : List Domain) (b : EndingView) (s : SectionView) (x : Domain)
    → HaveEnded books histories states → ((y : EndingView) → get_or books (length histories) y ≡ b) → IsEnded b s x
    → HaveEnded books (histories ++ s ∷ []) (states ++ x ∷ [])
ended_more books histories states b s x ended at last = record {
  states_count = omega (arith, ended.states_count, length_push histories s, length_push states x);
  each = λ d c t y inside. by d c t y inside (eqb d (length histories)) refl;
}
  where
    by : (d : ℕ) (c : EndingView) (t : SectionView) (y : Domain) → d < length (histories ++ s ∷ []) → (e : Bool) → eqb d (length histories) ≡ e
        → IsEnded (get_or books d c) (get_or (histories ++ s ∷ []) d t) (get_or (states ++ x ∷ []) d y)
    by d c t y inside true is =
        let n = length histories in
        let here : IsEnded (get_or books n c) (get_or (histories ++ s ∷ []) n t) (get_or (states ++ x ∷ []) n y) =
        subst (λ (v : EndingView). IsEnded v (get_or (histories ++ s ∷ []) n t) (get_or (states ++ x ∷ []) n y)) (sym (at c))
        (subst (λ (v : SectionView). IsEnded b v (get_or (states ++ x ∷ []) n y)) (sym (get_or_push histories s t n refl))
        (subst (λ (v : Domain). IsEnded b s v) (sym (get_or_push states x y n ended.states_count)) last)) in
        subst (λ (k : ℕ). IsEnded (get_or books k c) (get_or (histories ++ s ∷ []) k t) (get_or (states ++ x ∷ []) k y)) (sym (eqb-true d n is)) here
    by d c t y inside false is =
        let other = eqb-false d (length histories) is in
        let before : d < length histories = omega (arith, inside, length_push histories s, other) in
        let there : d < length states = omega (arith, before, ended.states_count) in
        subst (λ (v : SectionView). IsEnded (get_or books d c) v (get_or (states ++ x ∷ []) d y)) (sym (get_or_append_left histories (s ∷ []) t d before))
        (subst (λ (v : Domain). IsEnded (get_or books d c) (get_or histories d t) v) (sym (get_or_append_left states (x ∷ []) y d there)) (ended.each d c t y before))

-- ---- books that are ended, and not streamed

books_back : (books : List BookView) → books_of (map unstreamed_ending books) ≡ books
books_back [] = refl
books_back (b ∷ books) = ap (λ (bs : List BookView). b ∷ bs) (books_back books)

pub books_ended : (ending : List EndingView) (books : List BookView) → ending ≡ map unstreamed_ending books → books_of ending ≡ books
books_ended ending books is = ap books_of is ∙ books_back books

none_streamed : (books : List BookView) → AreAllStreamed false (map unstreamed_ending books)
none_streamed [] d e inside = absurd (omega (arith, inside))
none_streamed (b ∷ books) zero e inside = refl
none_streamed (b ∷ books) (suc d) e inside = none_streamed books d e (omega (arith, inside))

pub all_unstreamed : (ending : List EndingView) (books : List BookView) → ending ≡ map unstreamed_ending books → AreAllStreamed false ending
all_unstreamed ending books is = subst (AreAllStreamed false) (sym is) (none_streamed books)
