-- A task that moves between two domains.
use Rattle.std.proofs.Common.{◌≡◌, ◌≢◌, ◌<◌, ℕ, Bool, true, false, not, cond, List, [], ◌∷◌, length, set, get_or, Option, Some, None, refl, sym, ap, ◌∙◌, subst, ⊎_elim, arith, eq-eqb, nat_lt}
use Rattle.std.specs.Prelude.{◌==◌, find, position, slice_get, slice_set}
use Rattle.std.specs.List.{list_any, position_or_len}
use Rattle.std.proofs.lemmas.Bool.{eqb-true, cases_Bool, and_parts, not-true, false≢true}
use Rattle.std.proofs.lemmas.Bool.Decides.{nat_tests}
use Rattle.std.proofs.lemmas.List.{length-set, set-set, set_comm, set-get_or, get_or-set_other}
use Rattle.std.proofs.lemmas.List.Folds.{find_at, list_any-append, position_or_len-set}
use Rattle.std.proofs.lemmas.Map.Views.{any-filter_same}
use Rattle.std.proofs.lemmas.Option.{slice_get-get_or, get_or_from_slice_get, slice_get_within, slice_get_past, slice_get_read}
use Rattle.bw_world.specs.declared.step.Outcome.TheVariants.{Done}
use Rattle.bw_world.specs.declared.step.Step.TheVariants.{Move}
use Rattle.bw_world.specs.declared.ticket.Ticket.{Ticket}
use Rattle.bw_world.specs.declared.ticket.Task.{Task}
use Rattle.bw_world.specs.WorldView.{DomainView}
use Rattle.bw_world.specs.DomainStep.{DomainStep, in_hand_of, admitted_of, is_admitted, is_live_in, without_task, entered, released, released_found}
use Rattle.bw_world.specs.WorldStep.{WorldStep, misfit, at_found, at_place, at_home, fits_found, fits_move, fits_homes, home_of, may_move, moved, stepped}
use Rattle.bw_world.proofs.Counted.{found_any}

-- what is found is at the first place
find_place : {X : Type 0} (p : X → Bool) (xs : List X) (k : ℕ) → position p xs ≡ Some k → find p xs ≡ slice_get xs k
find_place p xs k is = grind (arith, nat_tests, find_at p xs)

find_nowhere : {X : Type 0} (p : X → Bool) (xs : List X) → position p xs ≡ None → find p xs ≡ None
find_nowhere p xs none = grind (arith, nat_tests, find_at p xs, slice_get_past xs (position_or_len p xs))

-- a write that a test cannot tell leaves the first place where it was
position_kept : {X : Type 0} (p : X → Bool) (xs : List X) (k : ℕ) (y d : X) → p y ≡ p (get_or xs k d) → position p (set xs k y) ≡ position p xs
position_kept p xs k y d same =
    ap (λ n. cond (nat_lt n (length (set xs k y))) (Some n) None) (position_or_len-set p xs k y d same)
    ∙ ap (λ n. cond (nat_lt (position_or_len p xs) n) (Some (position_or_len p xs)) None) (length-set xs k y)

-- what is found settles the answer to another test that it passes
any_found : {X : Type 0} (p q : X → Bool) (xs : List X) (t : X) → find p xs ≡ Some t → q t ≡ true → list_any q xs ≡ true
any_found p q [] t found at = cc
any_found p q (x ∷ xs) t found at = grind (arith, any_found p q xs t)

-- where a ticket is released, the same ids are live
freed_same : (old : ℕ) (d : DomainView) (t : Task) → admitted_of old d ≡ Some t → is_live_in old (released_found old d (Some t)).domain ≡ is_live_in old d
freed_same old d t is =
    let ticket : Ticket = record { id = old; bw = t.bw } in
    grind (arith, eq-eqb old old refl, list_any-append (λ (x : Ticket). x.id == old) d.in_hand (ticket ∷ []), found_any (λ (x : Task). x.ticket == old) d.admitted t is)

not_freed : (old id : ℕ) (x : Task) → (old == id) ≡ false → (x.ticket == id) ≡ true → not (x.ticket == old) ≡ true
not_freed old id x apart at = grind (arith, nat_tests)

freed_other : (old id : ℕ) (d : DomainView) (t : Task) → (old == id) ≡ false → is_live_in id (released_found old d (Some t)).domain ≡ is_live_in id d
freed_other old id d t apart =
    let ticket : Ticket = record { id = old; bw = t.bw } in
    let kept : list_any (λ (x : Task). x.ticket == id) (without_task old d.admitted) ≡ list_any (λ (x : Task). x.ticket == id) d.admitted = any-filter_same (λ (x : Task). x.ticket == id) (λ x. not (x.ticket == old)) true (λ x at. not_freed old id x apart at) d.admitted in
    grind (arith, apart, kept, list_any-append (λ (x : Ticket). x.id == id) d.in_hand (ticket ∷ []))

freed_live : (old id : ℕ) (d : DomainView) (t : Task) → admitted_of old d ≡ Some t → is_live_in id (released_found old d (Some t)).domain ≡ is_live_in id d
freed_live old id d t is =
    ⊎_elim
    (λ (yes : (old == id) ≡ true). subst (λ n. is_live_in n (released_found old d (Some t)).domain ≡ is_live_in n d) (eqb-true old id yes) (freed_same old d t is))
    (λ (no : (old == id) ≡ false). freed_other old id d t no)
    (cases_Bool (old == id))

released_live : (old id : ℕ) (d : DomainView) (t : Task) → admitted_of old d ≡ Some t → is_live_in id (released old d).domain ≡ is_live_in id d
released_live old id d t is = ap (λ found. is_live_in id (released_found old d found).domain) is ∙ freed_live old id d t is

-- what is known where a move fits
pub record Fits (old new number : ℕ) (from to : DomainView) : Type 0 where
  pub task : Task
  pub ticket : Ticket
  pub leaves : admitted_of old from ≡ Some task
  pub arrives : in_hand_of new to ≡ Some ticket
  pub number_is : task.number ≡ number
  pub bw_is : task.bw ≡ ticket.bw
  pub free : is_admitted number to ≡ false

fits_parts : (old new number : ℕ) (from to : DomainView) (task : Option Task) (hand : Option Ticket) → admitted_of old from ≡ task → in_hand_of new to ≡ hand → fits_found number to task hand ≡ true → Fits old new number from to
fits_parts old new number from to None hand is is' fits = absurd cc
fits_parts old new number from to (Some t) None is is' fits = absurd cc
fits_parts old new number from to (Some t) (Some u) is is' fits =
    let parts = and_parts _ _ fits in
    let equal = and_parts _ _ parts.0 in
    record {
      task = t;
      ticket = u;
      leaves = is;
      arrives = is';
      number_is = eqb-true t.number number equal.0;
      bw_is = eqb-true t.bw u.bw equal.1;
      free = not-true (is_admitted number to) parts.1;
    }

pub fits_facts : (old new number : ℕ) (from to : DomainView) → fits_move old new number from to ≡ true → Fits old new number from to
fits_facts old new number from to fits = fits_parts old new number from to (admitted_of old from) (in_hand_of new to) refl refl fits

-- these are two domains
pub fits_two : (old new number : ℕ) (d : DomainView) → fits_move old new number d d ≡ true → ⊥
fits_two old new number d fits =
    let f = fits_facts old new number d d fits in
    let there : is_admitted number d ≡ true = any_found (λ (t : Task). t.ticket == old) (λ t. t.number == number) d.admitted f.task f.leaves (eq-eqb f.task.number number f.number_is) in
    absurd (false≢true (sym f.free ∙ there))

-- a step within the domain in which a ticket is live
at_home_is : (ds : List DomainView) (id k : ℕ) (rule : DomainView → DomainStep) (d : DomainView) → position (is_live_in id) ds ≡ Some k → slice_get ds k ≡ Some d → at_home ds id rule ≡ record { domains = slice_set ds k (rule d).domain; outcome = (rule d).outcome }
at_home_is ds id k rule d place is = ap (at_place ds rule) place ∙ ap (at_found ds k rule) is

entered_done : (new number : ℕ) (to : DomainView) (u : Ticket) → in_hand_of new to ≡ Some u → is_admitted number to ≡ false → (entered new number to).outcome ≡ Done
entered_done new number to u is free = rw is (rw free refl)

pub places_differ : (old new number : ℕ) (ds : List DomainView) (i j : ℕ) (from to : DomainView) → slice_get ds i ≡ Some from → slice_get ds j ≡ Some to → fits_move old new number from to ≡ true → j ≢ i
places_differ old new number ds i j from to is is' fits = λ e.
    let same : to ≡ from = sym (get_or_from_slice_get ds j to from is') ∙ ap (λ k. get_or ds k from) e ∙ get_or_from_slice_get ds i from from is in
    fits_two old new number from (subst (λ d. fits_move old new number from d ≡ true) same fits)

-- the domains in which two tickets are live, and their places
pub record AreHomes (old new : ℕ) (ds : List DomainView) (i j : ℕ) (from to : DomainView) : Type 0 where
  pub here : position (is_live_in old) ds ≡ Some i
  pub from_is : slice_get ds i ≡ Some from
  pub there : position (is_live_in new) ds ≡ Some j
  pub to_is : slice_get ds j ≡ Some to

pub place_at : (id : ℕ) (ds s : List DomainView) (found : Option ℕ) → s ≡ ds → found ≡ position (is_live_in id) s → position (is_live_in id) ds ≡ found
place_at id ds s found same is = ap (position (is_live_in id)) (sym same) ∙ sym is

pub homes : (old new : ℕ) (ds s u : List DomainView) (i j : ℕ) (from to : DomainView) → s ≡ ds → Some i ≡ position (is_live_in old) s → i < length s → from ≡ get_or ds i from → u ≡ ds → Some j ≡ position (is_live_in new) u → j < length u → to ≡ get_or ds j to → AreHomes old new ds i j from to
homes old new ds s u i j from to same here within is same' there within' is' =
    record {
      here = place_at old ds s (Some i) same here;
      from_is = slice_get_read ds (length s) i from (ap length same) within is;
      there = place_at new ds u (Some j) same' there;
      to_is = slice_get_read ds (length u) j to (ap length same') within' is';
    }

-- both halves of a move that fits
pub moved_is : (old new number : ℕ) (ds : List DomainView) (i j : ℕ) (from to : DomainView) → AreHomes old new ds i j from to → fits_move old new number from to ≡ true → moved old new number ds ≡ record { domains = slice_set (slice_set ds i (released old from).domain) j (entered new number to).domain; outcome = Done }
moved_is old new number ds i j from to h fits =
    let f = fits_facts old new number from to fits in
    let left : DomainView = (released old from).domain in
    let mid : List DomainView = slice_set ds i left in
    let alike : is_live_in new left ≡ is_live_in new (get_or ds i from) = released_live old new from f.task f.leaves ∙ ap (is_live_in new) (sym (get_or_from_slice_get ds i from from h.from_is)) in
    let other : j ≢ i = places_differ old new number ds i j from to h.from_is h.to_is fits in
    let within : j < length mid = omega (arith, slice_get_within ds j to h.to_is, length-set ds i left) in
    let got : slice_get mid j ≡ Some to = slice_get-get_or mid j to within ∙ ap Some (get_or-set_other ds i j left to other ∙ get_or_from_slice_get ds j to to h.to_is) in
    ap (λ (s : WorldStep). at_home s.domains new (entered new number)) (at_home_is ds old i (released old) from h.here h.from_is)
    ∙ at_home_is mid new j (entered new number) to (position_kept (is_live_in new) ds i left from alike ∙ h.there) got
    ∙ ap (λ o. record { domains = slice_set mid j (entered new number to).domain; outcome = o }) (entered_done new number to f.ticket f.arrives f.free)

-- what a Move does, by where the tickets are live
may_at : (old new number : ℕ) (ds : List DomainView) (i j : ℕ) (from to : DomainView) → AreHomes old new ds i j from to → may_move old new number ds ≡ fits_move old new number from to
may_at old new number ds i j from to h =
    ap (λ home. fits_homes old new number home (home_of new ds)) (find_place (is_live_in old) ds i h.here ∙ h.from_is)
    ∙ ap (fits_homes old new number (Some from)) (find_place (is_live_in new) ds j h.there ∙ h.to_is)

pub move_done : (old new number : ℕ) (ds : List DomainView) (i j : ℕ) (from to : DomainView) → AreHomes old new ds i j from to → fits_move old new number from to ≡ true → stepped (Move old new number) ds ≡ record { domains = slice_set (slice_set ds i (released old from).domain) j (entered new number to).domain; outcome = Done }
move_done old new number ds i j from to h fits =
    ap (λ b. cond b (moved old new number ds) (misfit ds)) (may_at old new number ds i j from to h ∙ fits)
    ∙ moved_is old new number ds i j from to h fits

pub move_misfit : (old new number : ℕ) (ds : List DomainView) (i j : ℕ) (from to : DomainView) → AreHomes old new ds i j from to → fits_move old new number from to ≡ false → stepped (Move old new number) ds ≡ misfit ds
move_misfit old new number ds i j from to h fits =
    ap (λ b. cond b (moved old new number ds) (misfit ds)) (may_at old new number ds i j from to h ∙ fits)

pub move_from_nowhere : (old new number : ℕ) (ds : List DomainView) → position (is_live_in old) ds ≡ None → stepped (Move old new number) ds ≡ misfit ds
move_from_nowhere old new number ds none =
    ap (λ home. cond (fits_homes old new number home (home_of new ds)) (moved old new number ds) (misfit ds)) (find_nowhere (is_live_in old) ds none)

fits_nowhere : (old new number : ℕ) (home : Option DomainView) → fits_homes old new number home None ≡ false
fits_nowhere old new number None = refl
fits_nowhere old new number (Some from) = refl

pub move_to_nowhere : (old new number : ℕ) (ds : List DomainView) → position (is_live_in new) ds ≡ None → stepped (Move old new number) ds ≡ misfit ds
move_to_nowhere old new number ds none =
    ap (λ b. cond b (moved old new number ds) (misfit ds)) (ap (fits_homes old new number (home_of old ds)) (find_nowhere (is_live_in new) ds none) ∙ fits_nowhere old new number (home_of old ds))

-- one domain is taken out, with another one left in its place, and put back after the other is
-- written
pub taken_out : (old new : ℕ) (ds : List DomainView) (i j : ℕ) (from to at left : DomainView) → AreHomes old new ds i j from to → left ≡ at → at ≡ get_or ds i at → left ≡ from
taken_out old new ds i j from to at left h same is = same ∙ is ∙ get_or_from_slice_get ds i from at h.from_is

pub other_one : (old new number : ℕ) (ds : List DomainView) (i j : ℕ) (from to none right : DomainView) → AreHomes old new ds i j from to → fits_move old new number from to ≡ true → right ≡ get_or (set ds i none) j right → right ≡ to
other_one old new number ds i j from to none right h fits is =
    is ∙ get_or-set_other ds i j none right (places_differ old new number ds i j from to h.from_is h.to_is fits) ∙ get_or_from_slice_get ds j to right h.to_is

pub handed_over : (old new number : ℕ) (ds : List DomainView) (i j : ℕ) (from to none x y : DomainView) → AreHomes old new ds i j from to → fits_move old new number from to ≡ true → x ≡ (released old from).domain → y ≡ (entered new number to).domain → set (set (set ds i none) j y) i x ≡ (stepped (Move old new number) ds).domains
handed_over old new number ds i j from to none x y h fits is is' =
    set_comm (set ds i none) j i y x (places_differ old new number ds i j from to h.from_is h.to_is fits)
    ∙ ap (λ l. set l j y) (set-set ds i none x)
    ∙ ap (λ d. set (set ds i d) j y) is
    ∙ ap (set (set ds i (released old from).domain) j) is'
    ∙ ap (λ (s : WorldStep). s.domains) (sym (move_done old new number ds i j from to h fits))

pub put_back : (old new number : ℕ) (ds : List DomainView) (i j : ℕ) (from to none x y : DomainView) → AreHomes old new ds i j from to → fits_move old new number from to ≡ true → x ≡ from → y ≡ to → set (set (set ds i none) j y) i x ≡ ds
put_back old new number ds i j from to none x y h fits is is' =
    set_comm (set ds i none) j i y x (places_differ old new number ds i j from to h.from_is h.to_is fits)
    ∙ ap (λ l. set l j y) (set-set ds i none x)
    ∙ ap (λ d. set (set ds i d) j y) (is ∙ sym (get_or_from_slice_get ds i from from h.from_is))
    ∙ ap (λ l. set l j y) (set-get_or ds i from)
    ∙ ap (set ds j) (is' ∙ sym (get_or_from_slice_get ds j to to h.to_is))
    ∙ set-get_or ds j to
