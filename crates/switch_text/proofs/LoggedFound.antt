-- The search for what happens next goes on by one domain.
use Rattle.std.proofs.Common.{◌≡◌, ℕ, zero, suc, ◌+◌, ◌^◌, ◌<◌, ◌≤◌, Bool, true, false, List, [], ◌∷◌, ◌++◌, length, map, take, drop, set, get_or, Option, Some, None, refl, sym, ap, subst, ◌∙◌, arith}
use Rattle.std.specs.Prelude.{All, IsTrue, filter}
use Rattle.std.specs.List.{AllByRecursion}
use Rattle.std.proofs.lemmas.Bool.Decides.{nat_tests}
use Rattle.std.proofs.lemmas.List.{length-map, length-take-le, length-drop, get_or-take, get_or-map, get_or-drop, get_or_default, drop_more, drop_all, map_more}
use Rattle.std.proofs.lemmas.List.Elements.{recursion_from_All}
use Rattle.domain_run.specs.declared.happened.Happened.{Happened}
use Rattle.switch_text.specs.declared.logged.DomainEvents.{DomainEvents}
use Rattle.switch_text.specs.declared.logged_merge.NextLogged.{NextLogged}
use Rattle.switch_text.specs.Events.{LoggedView, Event, logged_event, comes_before}
use Rattle.switch_text.specs.EventLines.{logged_view, logged_views, IsLogged, HasLoggedLine, is_sooner_unless_cut}
use Rattle.switch_text.specs.private.Merging.{places_stepped}
use Rattle.switch_text.specs.private.LoggedMerging.{is_line_logged, events_from, left_logged, count_left, IsLoggedAhead, IsShown, IsNextOrCut, IsNextLogged, IsLoggedFound, next_logged_event, is_better_logged}
use Rattle.switch_text.proofs.Order.{AllByRecursion-weaker}
use Rattle.switch_text.proofs.EventOrder.{not_later-from_earlier}
use Rattle.switch_text.proofs.LoggedAhead.{left_logged-done, IsLoggedAhead-new, IsLoggedAhead-kept, all_left-earlier, domain_not_earlier}

-- ---- one domain from a place on

none_from : (t : LoggedView) (p : ℕ) → length t.happened ≤ p → events_from t p ≡ []
none_from t p le = ap (λ (hs : List Happened). map (logged_event t) (filter is_line_logged hs)) (drop_all p t.happened le)

filter-shown : (h : Happened) (hs : List Happened) → is_line_logged h ≡ true → filter is_line_logged (h ∷ hs) ≡ h ∷ filter is_line_logged hs
filter-shown h hs s = rw s refl

filter-cut : (h : Happened) (hs : List Happened) → is_line_logged h ≡ false → filter is_line_logged (h ∷ hs) ≡ filter is_line_logged hs
filter-cut h hs s = rw s refl

here_from : (t : LoggedView) (p : ℕ) (h : Happened) → p < length t.happened → h ≡ get_or t.happened p h → drop p t.happened ≡ h ∷ drop (p + 1) t.happened
here_from t p h lt is = drop_more t.happened p h lt ∙ ap (λ (x : Happened). x ∷ drop (p + 1) t.happened) (sym is)

-- the first event from a place on, and the others
shown_from : (t : LoggedView) (p : ℕ) (h : Happened) → p < length t.happened → h ≡ get_or t.happened p h → is_line_logged h ≡ true → events_from t p ≡ logged_event t h ∷ events_from t (p + 1)
shown_from t p h lt is s =
    ap (λ (hs : List Happened). map (logged_event t) (filter is_line_logged hs)) (here_from t p h lt is) ∙ ap (map (logged_event t)) (filter-shown h (drop (p + 1) t.happened) s)

-- a cut is none
cut_from : (t : LoggedView) (p : ℕ) (h : Happened) → p < length t.happened → h ≡ get_or t.happened p h → is_line_logged h ≡ false → events_from t (p + 1) ≡ events_from t p
cut_from t p h lt is s =
    sym (ap (λ (hs : List Happened). map (logged_event t) (filter is_line_logged hs)) (here_from t p h lt is) ∙ ap (map (logged_event t)) (filter-cut h (drop (p + 1) t.happened) s))

sooner_event : (t : LoggedView) (a b : Happened) → is_line_logged a ≡ true → is_line_logged b ≡ true → IsTrue (is_sooner_unless_cut a b) → comes_before (logged_event t a) (logged_event t b) ≡ true
sooner_event t a b p q h = grind (arith, nat_tests)

-- what is after something that happens comes after it
later_among : (t : LoggedView) (h : Happened) (hs : List Happened) → is_line_logged h ≡ true → AllByRecursion (λ x. IsTrue (is_sooner_unless_cut h x)) hs
    → AllByRecursion (λ x. comes_before (logged_event t h) x ≡ true) (map (logged_event t) (filter is_line_logged hs))
later_among t h [] s all = tt
later_among t h (x ∷ xs) s all = by_shown (is_line_logged x) refl (later_among t h xs s all.1)
  where
    by_shown : (b : Bool) → is_line_logged x ≡ b → AllByRecursion (λ e. comes_before (logged_event t h) e ≡ true) (map (logged_event t) (filter is_line_logged xs))
        → AllByRecursion (λ e. comes_before (logged_event t h) e ≡ true) (map (logged_event t) (filter is_line_logged (x ∷ xs)))
    by_shown true q more = subst (λ (hs : List Happened). AllByRecursion (λ e. comes_before (logged_event t h) e ≡ true) (map (logged_event t) hs)) (sym (filter-shown x xs q)) (sooner_event t h x s q all.0, more)
    by_shown false q more = subst (λ (hs : List Happened). AllByRecursion (λ e. comes_before (logged_event t h) e ≡ true) (map (logged_event t) hs)) (sym (filter-cut x xs q)) more

later_from : (t : DomainEvents) (p : ℕ) (h : Happened) → IsLogged t → p < length t.happened.now → h ≡ get_or t.happened.now p h → is_line_logged h ≡ true
    → AllByRecursion (λ x. comes_before (logged_event (logged_view t) h) x ≡ true) (events_from (logged_view t) (p + 1))
later_from t p h good lt is s = later_among (logged_view t) h (drop (p + 1) t.happened.now) s (recursion_from_All (λ x. IsTrue (is_sooner_unless_cut h x)) (drop (p + 1) t.happened.now) all)
  where
    all : All (λ x. IsTrue (is_sooner_unless_cut h x)) (drop (p + 1) t.happened.now)
    all k d lt' =
        let hs = t.happened.now in
        let below : p + 1 + k < length hs = omega (arith, length-drop (p + 1) hs) in
        let rises : IsTrue (is_sooner_unless_cut (get_or hs p h) (get_or hs (p + 1 + k) h)) = good.rising p (p + 1 + k) h (omega arith) below in
        let at : get_or (drop (p + 1) hs) k d ≡ get_or hs (p + 1 + k) h = get_or-drop (p + 1) hs k d ∙ get_or_default hs (p + 1 + k) d h below in
        rw at (subst (λ (x : Happened). IsTrue (is_sooner_unless_cut x (get_or hs (p + 1 + k) h))) (sym is) rises)

-- ---- the domains that were looked at

-- one of the domains, and its place
pub record IsHere (logged : List DomainEvents) (places : List ℕ) (i : ℕ) (t : DomainEvents) : Type 0 where
  pub inside : i < length logged
  pub room : i < length places
  pub is : t ≡ get_or logged i t
  pub good : IsLogged t

views_more : (logged : List DomainEvents) (places : List ℕ) (i : ℕ) (t : DomainEvents) → IsHere logged places i t → logged_views (take (i + 1) logged) ≡ logged_views (take i logged) ++ logged_view t ∷ []
views_more logged places i t here = map_more logged_view logged i t here.inside ∙ ap (λ (u : DomainEvents). logged_views (take i logged) ++ logged_view u ∷ []) (sym here.is)

length-views_take : (logged : List DomainEvents) (places : List ℕ) (i : ℕ) (t : DomainEvents) → IsHere logged places i t → length (logged_views (take i logged)) ≡ i
length-views_take logged places i t here =
    let inside : i < length logged = here.inside in
    length-map (take i logged) logged_view ∙ length-take-le i logged (omega arith)

-- the place of the domain after those seen
place_is : (logged : List DomainEvents) (places : List ℕ) (i : ℕ) (t : DomainEvents) → IsHere logged places i t → get_or places (length (logged_views (take i logged))) 0 ≡ get_or places i 0
place_is logged places i t here = ap (λ (k : ℕ). get_or places k 0) (length-views_take logged places i t here)

in_places : (logged : List DomainEvents) (places : List ℕ) (i : ℕ) (t : DomainEvents) → IsHere logged places i t → length (logged_views (take i logged)) < length places
in_places logged places i t here =
    let room : i < length places = here.room in
    omega (arith, length-views_take logged places i t here)

-- which domain it is of, and its place there
pub record IsAtPlace (logged : List DomainEvents) (places : List ℕ) (n : NextLogged) : Type 0 where
  pub inside : n.index < length logged
  pub logged_is : n.logged.now ≡ get_or logged n.index n.logged.now
  pub left : get_or places n.index 0 < length n.logged.now.happened.now
  pub is : n.happened.now ≡ get_or n.logged.now.happened.now (get_or places n.index 0) n.happened.now
  pub small : get_or places n.index 0 + 1 < 2 ^ 64

IsAtPlace-more : (logged : List DomainEvents) (places : List ℕ) (i : ℕ) (n : NextLogged) → i < length logged → IsAtPlace (take i logged) places n → IsAtPlace (take (i + 1) logged) places n
IsAtPlace-more logged places i n inside h =
    let seen : n.index < i = omega (arith, length-take-le i logged (omega arith), h.inside) in
    record {
      inside = omega (arith, length-take-le (i + 1) logged (omega arith));
      logged_is = h.logged_is ∙ get_or-take i logged n.index n.logged.now seen ∙ sym (get_or-take (i + 1) logged n.index n.logged.now (omega arith));
      left = h.left;
      is = h.is;
      small = h.small;
    }

-- the best of the domains
pub record IsBestOf (logged : List DomainEvents) (places : List ℕ) (n : NextLogged) : Type 0 where
  pub ahead : IsLoggedAhead (logged_views logged) places n.index (next_logged_event n)
  pub shown : IsShown n
  pub at : IsAtPlace logged places n

abbrev pub IsBest : List DomainEvents → List ℕ → Option NextLogged → Type 0
IsBest logged places None = left_logged (logged_views logged) places ≡ []
IsBest logged places (Some n) = IsBestOf logged places n

-- ---- one domain more

pub IsBest-done : (logged : List DomainEvents) (places : List ℕ) (i : ℕ) (t : DomainEvents) (best : Option NextLogged) → IsHere logged places i t → length t.happened.now ≤ get_or places i 0
    → IsBest (take i logged) places best → IsBest (take (i + 1) logged) places best
IsBest-done logged places i t None here past found =
    let none = none_from (logged_view t) (get_or places i 0) past in
    let none_there : events_from (logged_view t) (get_or places (length (logged_views (take i logged))) 0) ≡ [] = ap (events_from (logged_view t)) (place_is logged places i t here) ∙ none in
    ap (λ (vs : List LoggedView). left_logged vs places) (views_more logged places i t here) ∙ left_logged-done (logged_views (take i logged)) (logged_view t) places (in_places logged places i t here) none_there ∙ found
IsBest-done logged places i t (Some n) here past found =
    let none = none_from (logged_view t) (get_or places i 0) past in
    let none_there : events_from (logged_view t) (get_or places (length (logged_views (take i logged))) 0) ≡ [] = ap (events_from (logged_view t)) (place_is logged places i t here) ∙ none in
    let e = next_logged_event n in
    let kept = IsLoggedAhead-kept (logged_views (take i logged)) (logged_view t) places n.index e (in_places logged places i t here) found.ahead
    (subst (λ (es : List Event). AllByRecursion (λ x. comes_before x e ≡ false) es) (sym none_there) tt) in
    record {
      ahead = subst (λ (vs : List LoggedView). IsLoggedAhead vs places n.index e) (sym (views_more logged places i t here)) kept;
      shown = found.shown;
      at = IsAtPlace-more logged places i n here.inside found.at;
    }

-- the next of a domain
pub record IsNextIn (logged : List DomainEvents) (places : List ℕ) (n : NextLogged) : Type 0 where
  pub here : IsHere logged places n.index n.logged.now
  pub left : get_or places n.index 0 < length n.logged.now.happened.now
  pub is : n.happened.now ≡ get_or n.logged.now.happened.now (get_or places n.index 0) n.happened.now
  pub small : get_or places n.index 0 + 1 < 2 ^ 64

-- known by equations
pub IsNextIn-from : (logged : List DomainEvents) (places : List ℕ) (i : ℕ) (t : DomainEvents) (n : NextLogged) → IsHere logged places i t → n.index ≡ i → n.logged.now ≡ t → get_or places i 0 < length t.happened.now
    → n.happened.now ≡ get_or t.happened.now (get_or places i 0) n.happened.now → get_or places i 0 + 1 < 2 ^ 64 → IsNextIn logged places n
IsNextIn-from logged places i t n here index domain left is small =
    let left' : get_or places i 0 < length n.logged.now.happened.now = subst (λ (u : DomainEvents). get_or places i 0 < length u.happened.now) (sym domain) left in
    let is' : n.happened.now ≡ get_or n.logged.now.happened.now (get_or places i 0) n.happened.now = subst (λ (u : DomainEvents). n.happened.now ≡ get_or u.happened.now (get_or places i 0) n.happened.now) (sym domain) is in
    record {
      here = subst (λ (k : ℕ). IsHere logged places k n.logged.now) (sym index) (subst (IsHere logged places i) (sym domain) here);
      left = subst (λ (k : ℕ). get_or places k 0 < length n.logged.now.happened.now) (sym index) left';
      is = subst (λ (k : ℕ). n.happened.now ≡ get_or n.logged.now.happened.now (get_or places k 0) n.happened.now) (sym index) is';
      small = subst (λ (k : ℕ). get_or places k 0 + 1 < 2 ^ 64) (sym index) small;
    }

pub has_logged_line : (logged : List DomainEvents) (places : List ℕ) (n : NextLogged) → IsNextIn logged places n → HasLoggedLine n.logged.now.names.now n.logged.now.base n.happened.now
has_logged_line logged places n next =
    subst (λ (h : Happened). HasLoggedLine n.logged.now.names.now n.logged.now.base h) (sym next.is) (next.here.good.lines (get_or places n.index 0) n.happened.now next.left)

pub IsShown-next : (logged : List DomainEvents) (places : List ℕ) (n : NextLogged) → IsNextIn logged places n → is_line_logged n.happened.now ≡ true → IsShown n
IsShown-next logged places n next s = record { shown = s; line = has_logged_line logged places n next }

left_there : (logged : List DomainEvents) (places : List ℕ) (n : NextLogged) → IsNextIn logged places n → is_line_logged n.happened.now ≡ true
    → events_from (logged_view n.logged.now) (get_or places (length (logged_views (take n.index logged))) 0) ≡ next_logged_event n ∷ events_from (logged_view n.logged.now) (get_or places n.index 0 + 1)
left_there logged places n next s =
    ap (events_from (logged_view n.logged.now)) (place_is logged places n.index n.logged.now next.here) ∙ shown_from (logged_view n.logged.now) (get_or places n.index 0) n.happened.now next.left next.is s

later_there : (logged : List DomainEvents) (places : List ℕ) (n : NextLogged) → IsNextIn logged places n → is_line_logged n.happened.now ≡ true
    → AllByRecursion (λ x. comes_before (next_logged_event n) x ≡ true) (events_from (logged_view n.logged.now) (get_or places n.index 0 + 1))
later_there logged places n next s = later_from n.logged.now (get_or places n.index 0) n.happened.now next.here.good next.left next.is s

-- it is the best, where it comes before all that is left before it
found_there : (logged : List DomainEvents) (places : List ℕ) (n : NextLogged) → IsNextIn logged places n → is_line_logged n.happened.now ≡ true
    → AllByRecursion (λ x. comes_before (next_logged_event n) x ≡ true) (left_logged (logged_views (take n.index logged)) places) → IsBestOf (take (n.index + 1) logged) places n
found_there logged places n next s earlier =
    let e = next_logged_event n in
    let t = n.logged.now in
    let here = next.here in
    let inside : n.index < length logged = here.inside in
    let seen = logged_views (take n.index logged) in
    let rest = events_from (logged_view t) (get_or places n.index 0 + 1) in
    let not_later = AllByRecursion-weaker (λ x. comes_before e x ≡ true) (λ x. comes_before x e ≡ false) rest (λ x q. not_later-from_earlier e x q) (later_there logged places n next s) in
    let after : events_from (logged_view t) (get_or places (length seen) 0 + 1) ≡ rest = ap (λ (k : ℕ). events_from (logged_view t) (k + 1)) (place_is logged places n.index t here) in
    let new : IsLoggedAhead (seen ++ logged_view t ∷ []) places (length seen) e = IsLoggedAhead-new seen (logged_view t) places e rest (in_places logged places n.index t here) (left_there logged places n next s) after earlier not_later in
    let at : IsLoggedAhead (seen ++ logged_view t ∷ []) places n.index e = subst (λ (k : ℕ). IsLoggedAhead (seen ++ logged_view t ∷ []) places k e) (length-views_take logged places n.index t here) new in
    record {
      ahead = subst (λ (vs : List LoggedView). IsLoggedAhead vs places n.index e) (sym (views_more logged places n.index t here)) at;
      shown = IsShown-next logged places n next s;
      at = record {
        inside = omega (arith, length-take-le (n.index + 1) logged (omega arith));
        logged_is = here.is ∙ sym (get_or-take (n.index + 1) logged n.index n.logged.now (omega arith));
        left = next.left;
        is = next.is;
        small = next.small;
      };
    }

pub IsBest-better : (logged : List DomainEvents) (places : List ℕ) (n : NextLogged) (best : Option NextLogged) → IsNextIn logged places n → is_line_logged n.happened.now ≡ true
    → is_better_logged n best ≡ true → IsBest (take n.index logged) places best → IsBestOf (take (n.index + 1) logged) places n
IsBest-better logged places n None next s better found =
    found_there logged places n next s (subst (λ (es : List Event). AllByRecursion (λ x. comes_before (next_logged_event n) x ≡ true) es) (sym found) tt)
IsBest-better logged places n (Some b) next s better found =
    found_there logged places n next s (all_left-earlier (logged_views (take n.index logged)) places b.index (next_logged_event b) (next_logged_event n) found.ahead better)

pub IsBest-kept : (logged : List DomainEvents) (places : List ℕ) (n : NextLogged) (best : Option NextLogged) → IsNextIn logged places n → is_line_logged n.happened.now ≡ true
    → is_better_logged n best ≡ false → IsBest (take n.index logged) places best → IsBest (take (n.index + 1) logged) places best
IsBest-kept logged places n None next s worse found = absurd cc
IsBest-kept logged places n (Some b) next s worse found =
    let seen = logged_views (take n.index logged) in
    let t = n.logged.now in
    let e = next_logged_event b in
    let rest = events_from (logged_view t) (get_or places n.index 0 + 1) in
    let not_earlier = domain_not_earlier e (next_logged_event n) rest worse (later_there logged places n next s) in
    let left = subst (λ (es : List Event). AllByRecursion (λ x. comes_before x e ≡ false) es) (sym (left_there logged places n next s)) not_earlier in
    record {
      ahead = subst (λ (vs : List LoggedView). IsLoggedAhead vs places b.index e) (sym (views_more logged places n.index t next.here)) (IsLoggedAhead-kept seen (logged_view t) places b.index e (in_places logged places n.index t next.here) found.ahead left);
      shown = found.shown;
      at = IsAtPlace-more logged places n.index b next.here.inside found.at;
    }

pub IsBest-better_at : (logged : List DomainEvents) (places : List ℕ) (i : ℕ) (n : NextLogged) (best : Option NextLogged) → n.index ≡ i → IsNextIn logged places n → is_line_logged n.happened.now ≡ true
    → is_better_logged n best ≡ true → IsBest (take i logged) places best → IsBest (take (i + 1) logged) places (Some n)
IsBest-better_at logged places i n best index next s better found =
    let new = IsBest-better logged places n best next s better (subst (λ (k : ℕ). IsBest (take k logged) places best) (sym index) found) in
    subst (λ (k : ℕ). IsBestOf (take (k + 1) logged) places n) index new

pub IsBest-kept_at : (logged : List DomainEvents) (places : List ℕ) (i : ℕ) (n : NextLogged) (best : Option NextLogged) → n.index ≡ i → IsNextIn logged places n → is_line_logged n.happened.now ≡ true
    → is_better_logged n best ≡ false → IsBest (take i logged) places best → IsBest (take (i + 1) logged) places best
IsBest-kept_at logged places i n best index next s worse found =
    let new = IsBest-kept logged places n best next s worse (subst (λ (k : ℕ). IsBest (take k logged) places best) (sym index) found) in
    subst (λ (k : ℕ). IsBest (take (k + 1) logged) places best) index new

-- ---- one step

-- a step of one domain, after which as much is left of it
left_logged-set_same : (logged : List LoggedView) (places : List ℕ) (i v : ℕ) (t : LoggedView) → t ≡ get_or logged i t → i < length logged → i < length places
    → events_from t v ≡ events_from t (get_or places i 0) → left_logged logged (set places i v) ≡ left_logged logged places
left_logged-set_same [] places i v t is inside room same = absurd (omega arith)
left_logged-set_same (x ∷ xs) [] i v t is inside room same = absurd (omega arith)
left_logged-set_same (x ∷ xs) (p ∷ ps) zero v t is inside room same =
    ap (λ (es : List Event). es ++ left_logged xs ps) (subst (λ (u : LoggedView). events_from u v ≡ events_from u p) is same)
left_logged-set_same (x ∷ xs) (p ∷ ps) (suc i) v t is inside room same =
    ap (λ (es : List Event). events_from x p ++ es) (left_logged-set_same xs ps i v t is (omega arith) (omega arith) same)

count_left-set_less : (logged : List LoggedView) (places : List ℕ) (i : ℕ) (t : LoggedView) → t ≡ get_or logged i t → i < length logged → i < length places
    → get_or places i 0 < length t.happened → count_left logged (set places i (get_or places i 0 + 1)) < count_left logged places
count_left-set_less [] places i t is inside room lt = absurd (omega arith)
count_left-set_less (x ∷ xs) [] i t is inside room lt = absurd (omega arith)
count_left-set_less (x ∷ xs) (p ∷ ps) zero t is inside room lt =
    let below : p < length x.happened = subst (λ (u : LoggedView). p < length u.happened) is lt in
    omega (arith, length-drop p x.happened, length-drop (p + 1) x.happened)
count_left-set_less (x ∷ xs) (p ∷ ps) (suc i) t is inside room lt =
    let less = count_left-set_less xs ps i t is (omega arith) (omega arith) lt in
    omega (arith, less)

view_is : (logged : List DomainEvents) (i : ℕ) (t : DomainEvents) → t ≡ get_or logged i t → i < length logged → logged_view t ≡ get_or (logged_views logged) i (logged_view t)
view_is logged i t is inside = ap logged_view is ∙ sym (get_or-map logged_view logged i t (logged_view t) inside)

smaller_at : (logged : List DomainEvents) (places : List ℕ) (n : NextLogged) → IsAtPlace logged places n → length logged ≤ length places
    → count_left (logged_views logged) (places_stepped places n.index) < count_left (logged_views logged) places
smaller_at logged places n at few =
    let inside : n.index < length logged = at.inside in
    count_left-set_less (logged_views logged) places n.index (logged_view n.logged.now) (view_is logged n.index n.logged.now at.logged_is at.inside) (omega (arith, length-map logged logged_view)) (omega arith) at.left

-- the best of all domains is the next
pub IsLoggedFound-best : (logged : List DomainEvents) (places : List ℕ) (best : Option NextLogged) → length logged ≤ length places → IsBest logged places best → IsLoggedFound logged places best
IsLoggedFound-best logged places None few found = found
IsLoggedFound-best logged places (Some n) few found =
    let shown : is_line_logged n.happened.now ≡ true = found.shown.shown in
    record {
      inside = found.at.inside;
      place = found.at.small;
      smaller = smaller_at logged places n found.at few;
      next = subst (IsNextOrCut logged places n) (sym shown) (found.ahead, found.shown);
    }

pub at_place-next : (logged : List DomainEvents) (places : List ℕ) (n : NextLogged) → IsNextIn logged places n → IsAtPlace logged places n
at_place-next logged places n next = record { inside = next.here.inside; logged_is = next.here.is; left = next.left; is = next.is; small = next.small }

-- so is a cut, at once
pub IsNextLogged-cut : (logged : List DomainEvents) (places : List ℕ) (n : NextLogged) → length logged ≤ length places → IsNextIn logged places n → is_line_logged n.happened.now ≡ false → IsNextLogged logged places n
IsNextLogged-cut logged places n few next cut =
    let inside : n.index < length logged = next.here.inside in
    let t = logged_view n.logged.now in
    let same = left_logged-set_same (logged_views logged) places n.index (get_or places n.index 0 + 1) t (view_is logged n.index n.logged.now next.here.is next.here.inside) (omega (arith, length-map logged logged_view)) (omega arith)
    (cut_from t (get_or places n.index 0) n.happened.now next.left next.is cut) in
    record {
      inside = next.here.inside;
      place = next.small;
      smaller = smaller_at logged places n (at_place-next logged places n next) few;
      next = subst (IsNextOrCut logged places n) (sym cut) same;
    }
