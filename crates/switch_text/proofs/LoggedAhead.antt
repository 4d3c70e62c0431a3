-- The next of what happens in several domains, found domain by domain.
use Rattle.std.proofs.Common.{◌≡◌, ℕ, ◌+◌, ◌<◌, ◌≢◌, true, false, List, [], ◌∷◌, ◌++◌, length, set, get_or, refl, sym, ap, subst, ◌∙◌, append_assoc, append-nil, arith}
use Rattle.std.specs.List.{AllByRecursion}
use Rattle.std.proofs.lemmas.List.{length-set, length-append, get_or-set_same, get_or-set_other}
use Rattle.switch_text.specs.Events.{LoggedView, Event, comes_before}
use Rattle.switch_text.specs.private.LoggedMerging.{events_from, left_logged, IsLoggedAhead}
use Rattle.switch_text.proofs.Order.{AllByRecursion-weaker, AllByRecursion-append}
use Rattle.switch_text.proofs.EventOrder.{earlier_trans, not_later_trans, earlier_then}

left_logged-more : (logged : List LoggedView) (r : LoggedView) (places : List ℕ) → length logged < length places
    → left_logged (logged ++ r ∷ []) places ≡ left_logged logged places ++ events_from r (get_or places (length logged) 0)
left_logged-more [] r [] h = absurd (omega arith)
left_logged-more [] r (p ∷ ps) h = append-nil (events_from r p)
left_logged-more (x ∷ xs) r [] h = absurd (omega arith)
left_logged-more (x ∷ xs) r (p ∷ ps) h =
    let more = left_logged-more xs r ps (omega arith) in
    ap (λ (es : List Event). events_from x p ++ es) more ∙ sym (append_assoc (events_from x p) (left_logged xs ps) (events_from r (get_or ps (length xs) 0)))

-- a place after the domains doesn't matter
left_logged-set_past : (logged : List LoggedView) (places : List ℕ) (v : ℕ) → left_logged logged (set places (length logged) v) ≡ left_logged logged places
left_logged-set_past [] places v = refl
left_logged-set_past (x ∷ xs) [] v = refl
left_logged-set_past (x ∷ xs) (p ∷ ps) v = ap (λ (es : List Event). events_from x p ++ es) (left_logged-set_past xs ps v)

-- a domain of which nothing is left
pub left_logged-done : (logged : List LoggedView) (r : LoggedView) (places : List ℕ) → length logged < length places → events_from r (get_or places (length logged) 0) ≡ []
    → left_logged (logged ++ r ∷ []) places ≡ left_logged logged places
left_logged-done logged r places h none = left_logged-more logged r places h ∙ ap (λ (es : List Event). left_logged logged places ++ es) none ∙ append-nil (left_logged logged places)

-- the first event that is left of one more domain, where it comes before all that are left before
-- it
pub IsLoggedAhead-new : (logged : List LoggedView) (r : LoggedView) (places : List ℕ) (e : Event) (rest : List Event) → length logged < length places
    → events_from r (get_or places (length logged) 0) ≡ e ∷ rest → events_from r (get_or places (length logged) 0 + 1) ≡ rest
    → AllByRecursion (λ x. comes_before e x ≡ true) (left_logged logged places) → AllByRecursion (λ x. comes_before x e ≡ false) rest
    → IsLoggedAhead (logged ++ r ∷ []) places (length logged) e
IsLoggedAhead-new logged r places e rest h here next earlier not_later =
    let n = length logged in
    let v = get_or places n 0 + 1 in
    let long : n < length (set places n v) = omega (arith, length-set places n v) in
    let at : get_or (set places n v) n 0 ≡ v = get_or-set_same places n v 0 h in
    record {
      before = left_logged logged places;
      after = rest;
      inside = omega (arith, length-append logged (r ∷ []));
      split = left_logged-more logged r places h ∙ ap (λ (es : List Event). left_logged logged places ++ es) here;
      moved = left_logged-more logged r (set places n v) long ∙ ap (λ (k : ℕ). left_logged logged (set places n v) ++ events_from r k) at
          ∙ ap (λ (es : List Event). left_logged logged (set places n v) ++ es) next ∙ ap (λ (es : List Event). es ++ rest) (left_logged-set_past logged places v);
      earlier = earlier;
      not_later = not_later;
    }

-- one more domain of which nothing comes before it
pub IsLoggedAhead-kept : (logged : List LoggedView) (r : LoggedView) (places : List ℕ) (i : ℕ) (e : Event) → length logged < length places
    → IsLoggedAhead logged places i e → AllByRecursion (λ x. comes_before x e ≡ false) (events_from r (get_or places (length logged) 0))
    → IsLoggedAhead (logged ++ r ∷ []) places i e
IsLoggedAhead-kept logged r places i e h a not_later =
    let n = length logged in
    let v = get_or places i 0 + 1 in
    let more = events_from r (get_or places n 0) in
    let long : n < length (set places i v) = omega (arith, length-set places i v) in
    let inside : i < n = a.inside in
    let other : n ≢ i = omega arith in
    let at : get_or (set places i v) n 0 ≡ get_or places n 0 = get_or-set_other places i n v 0 other in
    record {
      before = a.before;
      after = a.after ++ more;
      inside = omega (arith, length-append logged (r ∷ []));
      split = left_logged-more logged r places h ∙ ap (λ (es : List Event). es ++ more) a.split ∙ append_assoc a.before (e ∷ a.after) more;
      moved = left_logged-more logged r (set places i v) long ∙ ap (λ (k : ℕ). left_logged logged (set places i v) ++ events_from r k) at
          ∙ ap (λ (es : List Event). es ++ more) a.moved ∙ append_assoc a.before a.after more;
      earlier = a.earlier;
      not_later = AllByRecursion-append (λ x. comes_before x e ≡ false) a.after more a.not_later not_later;
    }

-- what comes before the next event comes before all that is left
pub all_left-earlier : (logged : List LoggedView) (places : List ℕ) (i : ℕ) (e h : Event) → IsLoggedAhead logged places i e → comes_before h e ≡ true → AllByRecursion (λ x. comes_before h x ≡ true) (left_logged logged places)
all_left-earlier logged places i e h a lt =
    let front = AllByRecursion-weaker (λ x. comes_before e x ≡ true) (λ x. comes_before h x ≡ true) a.before (λ x q. earlier_trans h e x lt q) a.earlier in
    let back = AllByRecursion-weaker (λ x. comes_before x e ≡ false) (λ x. comes_before h x ≡ true) a.after (λ x q. earlier_then h e x lt q) a.not_later in
    subst (λ (es : List Event). AllByRecursion (λ x. comes_before h x ≡ true) es) (sym a.split) (AllByRecursion-append (λ x. comes_before h x ≡ true) a.before (e ∷ a.after) front (lt, back))

-- where the first of a domain does not come before it, none of it does
pub domain_not_earlier : (e h : Event) (rest : List Event) → comes_before h e ≡ false → AllByRecursion (λ x. comes_before h x ≡ true) rest → AllByRecursion (λ x. comes_before x e ≡ false) (h ∷ rest)
domain_not_earlier e h rest le rising = (le, AllByRecursion-weaker (λ x. comes_before h x ≡ true) (λ x. comes_before x e ≡ false) rest (λ x q. not_later_trans e h x le q) rising)
