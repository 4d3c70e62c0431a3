-- What happens and rises, at a cut in time: what is logged by then is the first of it.
use Rattle.std.proofs.Common.{◌≡◌, ℕ, zero, suc, ◌+◌, ◌<◌, ◌≤◌, Bool, true, false, not, Option, Some, None, List, [], ◌∷◌, ◌++◌, length, take, drop, get_or, refl, sym, ap, subst, ◌∙◌, append-nil, arith, inl, inr}
use Rattle.std.specs.Prelude.{All, AllPairs, IsTrue, filter}
use Rattle.std.specs.List.{AllByRecursion}
use Rattle.std.proofs.lemmas.Bool.{cases_lt}
use Rattle.std.proofs.lemmas.Bool.Decides.{nat_tests}
use Rattle.std.proofs.lemmas.List.{take-append-drop, get_or-drop, length-drop, get_or_default}
use Rattle.std.proofs.lemmas.List.Elements.{filter-append, recursion_from_All}
use Rattle.domain_run.specs.declared.happened.Happened.{Happened}
use Rattle.switch_text.specs.LoggedLine.{has_line}
use Rattle.switch_text.specs.EventLines.{is_sooner, is_sooner_unless_cut}
use Rattle.switch_text.specs.private.EventSlicing.{is_logged_before, logged_before, logged_from_cut}
use Rattle.switch_text.proofs.Cutting.{filter_every, filter_none}
use Rattle.switch_text.proofs.Order.{AllByRecursion-weaker}

abbrev Rise : List Happened → Type 0
Rise hs = AllPairs (λ a b. IsTrue (is_sooner_unless_cut a b)) hs

abbrev Shown : List Happened → Type 0
Shown hs = All (λ h. IsTrue (has_line h.what)) hs

abbrev pub IsLoggedEarly : Option ℕ → Happened → Type 0
IsLoggedEarly cut h = is_logged_before cut h ≡ true

abbrev pub IsLoggedLate : Option ℕ → Happened → Type 0
IsLoggedLate cut h = is_logged_before cut h ≡ false

-- of two with a line, the first is sooner
shown_sooner : (a b : Happened) → IsTrue (has_line a.what) → IsTrue (has_line b.what) → IsTrue (is_sooner_unless_cut a b) → is_sooner a b ≡ true
shown_sooner a b p q h = grind arith

late_up : (cut : Option ℕ) (a b : Happened) → is_sooner a b ≡ true → is_logged_before cut a ≡ false → is_logged_before cut b ≡ false
late_up None a b h is = is
late_up (Some t) a b h is = grind (arith, nat_tests)

pub logged_counted : (cut : Option ℕ) (hs : List Happened) (n : ℕ) → AllByRecursion (IsLoggedEarly cut) (take n hs) → AllByRecursion (IsLoggedLate cut) (drop n hs) → take n hs ≡ logged_before cut hs
logged_counted cut hs n firsts others =
    let p : Happened → Bool = is_logged_before cut in
    sym (
    ap (filter p) (sym (take-append-drop n hs)) ∙ filter-append p (take n hs) (drop n hs) ∙ ap (λ (xs : List Happened). xs ++ filter p (drop n hs)) (filter_every p (take n hs) firsts)
    ∙ ap (λ (xs : List Happened). take n hs ++ xs) (filter_none p (drop n hs) others) ∙ append-nil (take n hs)
    )

pub logged_counted_from : (cut : Option ℕ) (hs : List Happened) (n : ℕ) → AllByRecursion (IsLoggedEarly cut) (take n hs) → AllByRecursion (IsLoggedLate cut) (drop n hs) → drop n hs ≡ logged_from_cut cut hs
logged_counted_from cut hs n firsts others =
    let p : Happened → Bool = λ h. not (is_logged_before cut h) in
    let none = AllByRecursion-weaker (IsLoggedEarly cut) (λ h. p h ≡ false) (take n hs) (λ h is. ap not is) firsts in
    let every = AllByRecursion-weaker (IsLoggedLate cut) (λ h. p h ≡ true) (drop n hs) (λ h is. ap not is) others in
    sym (
    ap (filter p) (sym (take-append-drop n hs)) ∙ filter-append p (take n hs) (drop n hs) ∙ ap (λ (xs : List Happened). xs ++ filter p (drop n hs)) (filter_none p (take n hs) none)
    ∙ filter_every p (drop n hs) every
    )

-- where one is not logged by then, none after it is
pub others_unlogged : (cut : Option ℕ) (hs : List Happened) (n : ℕ) (h : Happened) → Rise hs → Shown hs → n < length hs → get_or hs n h ≡ h → IsLoggedLate cut h → AllByRecursion (IsLoggedLate cut) (drop n hs)
others_unlogged cut hs n h rise shown inside at is =
    recursion_from_All (IsLoggedLate cut) (drop n hs) (λ k d w. subst (IsLoggedLate cut) (sym (get_or-drop n hs k d)) (from k d (omega (arith, w, length-drop n hs))))
  where
    from : (k : ℕ) (d : Happened) → n + k < length hs → IsLoggedLate cut (get_or hs (n + k) d)
    from zero d w = let here : n ≡ n + 0 = omega arith in subst (IsLoggedLate cut) (sym at ∙ get_or_default hs n h d inside ∙ ap (λ i. get_or hs i d) here) is
    from (suc k) d w =
        let pair = rise n (n + suc k) d (omega arith) w in
        let here : IsLoggedLate cut (get_or hs n d) = subst (IsLoggedLate cut) (sym at ∙ get_or_default hs n h d inside) is in
        late_up cut (get_or hs n d) (get_or hs (n + suc k) d) (shown_sooner (get_or hs n d) (get_or hs (n + suc k) d) (shown n d inside) (shown (n + suc k) d w) pair) here

-- those up to a place
pub firsts_logged : (cut : Option ℕ) (hs : List Happened) (n : ℕ) → n ≤ length hs → ((k : ℕ) (d : Happened) → k < n → IsLoggedEarly cut (get_or hs k d)) → AllByRecursion (IsLoggedEarly cut) (take n hs)
firsts_logged cut hs zero h all = tt
firsts_logged cut [] (suc n) h all = absurd (omega (arith, h))
firsts_logged cut (x ∷ hs) (suc n) h all = (all 0 x (omega arith), firsts_logged cut hs n (omega (arith, h)) (λ k d less. all (suc k) d (omega (arith, less))))

pub one_more_logged : (cut : Option ℕ) (hs : List Happened) (n : ℕ) (h : Happened) → n < length hs → ((k : ℕ) (d : Happened) → k < n → IsLoggedEarly cut (get_or hs k d)) → get_or hs n h ≡ h → IsLoggedEarly cut h → (k : ℕ) (d : Happened) → k < n + 1 → IsLoggedEarly cut (get_or hs k d)
one_more_logged cut hs n h inside so_far at is k d w = elim (cases_lt k n) [
  | inl less ↦ so_far k d less
  | inr more ↦
      let same : k ≡ n = omega (arith, more, w) in
      subst (IsLoggedEarly cut) (sym at ∙ get_or_default hs n h d inside ∙ ap (λ i. get_or hs i d) (sym same)) is
]

-- where all are, nothing is left
pub none_after : (cut : Option ℕ) (hs : List Happened) (n : ℕ) → length hs ≤ n → drop n hs ≡ [] → AllByRecursion (IsLoggedLate cut) (drop n hs)
none_after cut hs n h none = subst (AllByRecursion (IsLoggedLate cut)) (sym none) tt
