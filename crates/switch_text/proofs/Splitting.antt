-- Switches that rise, at a cut in time: those before it are the first ones.
use Rattle.std.proofs.Common.{◌≡◌, ℕ, zero, suc, ◌+◌, ◌<◌, ◌≤◌, Bool, true, false, not, Option, Some, None, List, [], ◌∷◌, ◌++◌, length, take, drop, get_or, refl, sym, ap, subst, ◌∙◌, append-nil, arith, inl, inr}
use Rattle.std.specs.Prelude.{All, AllPairs, IsTrue, filter}
use Rattle.std.specs.List.{AllByRecursion}
use Rattle.std.proofs.lemmas.Bool.{cases_lt}
use Rattle.std.proofs.lemmas.Bool.Decides.{nat_tests}
use Rattle.std.proofs.lemmas.List.{take-append-drop, take_all, drop_all, get_or-drop, length-drop, get_or_default}
use Rattle.std.proofs.lemmas.List.Elements.{filter-append, recursion_from_All}
use Rattle.domain_run.specs.Switch.{Switch}
use Rattle.domain_run.specs.Switches.{is_switch_before}
use Rattle.switch_text.specs.private.Sliced.{is_before_cut, switches_before, switches_from_cut}
use Rattle.switch_text.proofs.Cutting.{filter_every, filter_none}
use Rattle.switch_text.proofs.Order.{AllByRecursion-weaker}

abbrev Rise : List Switch → Type 0
Rise ss = AllPairs (λ a b. IsTrue (is_switch_before a b)) ss

time_rises : (a b : Switch) → IsTrue (is_switch_before a b) → a.time ≤ b.time
time_rises a b h = grind (arith, nat_tests)

before_down : (cut : Option ℕ) (a b : ℕ) → a ≤ b → is_before_cut cut b ≡ true → is_before_cut cut a ≡ true
before_down None a b h is = refl
before_down (Some t) a b h is = grind (arith, nat_tests)

after_up : (cut : Option ℕ) (a b : ℕ) → a ≤ b → is_before_cut cut a ≡ false → is_before_cut cut b ≡ false
after_up None a b h is = is
after_up (Some t) a b h is = grind (arith, nat_tests)

abbrev pub IsEarly : Option ℕ → Switch → Type 0
IsEarly cut s = is_before_cut cut s.time ≡ true

abbrev pub IsLate : Option ℕ → Switch → Type 0
IsLate cut s = is_before_cut cut s.time ≡ false

pub counted_before : (cut : Option ℕ) (ss : List Switch) (n : ℕ) → AllByRecursion (IsEarly cut) (take n ss) → AllByRecursion (IsLate cut) (drop n ss) → take n ss ≡ switches_before cut ss
counted_before cut ss n firsts others =
    let p : Switch → Bool = λ s. is_before_cut cut s.time in
    sym (
    ap (filter p) (sym (take-append-drop n ss)) ∙ filter-append p (take n ss) (drop n ss) ∙ ap (λ (xs : List Switch). xs ++ filter p (drop n ss)) (filter_every p (take n ss) firsts)
    ∙ ap (λ (xs : List Switch). take n ss ++ xs) (filter_none p (drop n ss) others) ∙ append-nil (take n ss)
    )

pub counted_from : (cut : Option ℕ) (ss : List Switch) (n : ℕ) → AllByRecursion (IsEarly cut) (take n ss) → AllByRecursion (IsLate cut) (drop n ss) → drop n ss ≡ switches_from_cut cut ss
counted_from cut ss n firsts others =
    let p : Switch → Bool = λ s. not (is_before_cut cut s.time) in
    let none = AllByRecursion-weaker (IsEarly cut) (λ s. p s ≡ false) (take n ss) (λ s is. ap not is) firsts in
    let every = AllByRecursion-weaker (IsLate cut) (λ s. p s ≡ true) (drop n ss) (λ s is. ap not is) others in
    sym (
    ap (filter p) (sym (take-append-drop n ss)) ∙ filter-append p (take n ss) (drop n ss) ∙ ap (λ (xs : List Switch). xs ++ filter p (drop n ss)) (filter_none p (take n ss) none)
    ∙ filter_every p (drop n ss) every
    )

-- ---- where all are before it

pub all_firsts : (cut : Option ℕ) (ss : List Switch) → All (IsEarly cut) ss → AllByRecursion (IsEarly cut) (take (length ss) ss)
all_firsts cut ss all = subst (AllByRecursion (IsEarly cut)) (sym (take_all (length ss) ss (omega arith))) (recursion_from_All (IsEarly cut) ss all)

pub no_others : (cut : Option ℕ) (ss : List Switch) → AllByRecursion (IsLate cut) (drop (length ss) ss)
no_others cut ss = subst (AllByRecursion (IsLate cut)) (sym (drop_all (length ss) ss (omega arith))) tt

-- where the last one is, all are
pub last_before : (cut : Option ℕ) (ss : List Switch) (n : ℕ) (last : Switch) → Rise ss → n + 1 ≡ length ss → get_or ss n last ≡ last → IsEarly cut last → All (IsEarly cut) ss
last_before cut ss n last rise long at is k d h = elim (cases_lt k n) [
  | inl less ↦
      let pair : a_rise (get_or ss k d) (get_or ss n d) = rise k n d less (omega (arith, long)) in
      before_down cut (get_or ss k d).time (get_or ss n d).time (time_rises (get_or ss k d) (get_or ss n d) pair) (subst (IsEarly cut) (sym at ∙ get_or_default ss n last d (omega (arith, long))) is)
  | inr more ↦
      let same : k ≡ n = omega (arith, more, h, long) in
      subst (IsEarly cut) (sym at ∙ get_or_default ss n last d (omega (arith, long)) ∙ ap (λ i. get_or ss i d) (sym same)) is
]
  where
    a_rise : Switch → Switch → Type 0
    a_rise a b = IsTrue (is_switch_before a b)

-- ---- where one is not

pub others_late : (cut : Option ℕ) (ss : List Switch) (n : ℕ) (s : Switch) → Rise ss → n < length ss → get_or ss n s ≡ s → IsLate cut s → AllByRecursion (IsLate cut) (drop n ss)
others_late cut ss n s rise inside at is =
    recursion_from_All (IsLate cut) (drop n ss) (λ k d h. subst (IsLate cut) (sym (get_or-drop n ss k d)) (from k d (omega (arith, h, length-drop n ss))))
  where
    from : (k : ℕ) (d : Switch) → n + k < length ss → IsLate cut (get_or ss (n + k) d)
    from zero d h = let here : n ≡ n + 0 = omega arith in subst (IsLate cut) (sym at ∙ get_or_default ss n s d inside ∙ ap (λ i. get_or ss i d) here) is
    from (suc k) d h =
        let pair = rise n (n + suc k) d (omega arith) h in
        let here : IsLate cut (get_or ss n d) = subst (IsLate cut) (sym at ∙ get_or_default ss n s d inside) is in
        after_up cut (get_or ss n d).time (get_or ss (n + suc k) d).time (time_rises (get_or ss n d) (get_or ss (n + suc k) d) pair) here

-- those up to a place
pub firsts_early : (cut : Option ℕ) (ss : List Switch) (n : ℕ) → n ≤ length ss → ((k : ℕ) (d : Switch) → k < n → IsEarly cut (get_or ss k d)) → AllByRecursion (IsEarly cut) (take n ss)
firsts_early cut ss zero h all = tt
firsts_early cut [] (suc n) h all = absurd (omega (arith, h))
firsts_early cut (s ∷ ss) (suc n) h all = (all 0 s (omega arith), firsts_early cut ss n (omega (arith, h)) (λ k d less. all (suc k) d (omega (arith, less))))

pub one_more_early : (cut : Option ℕ) (ss : List Switch) (n : ℕ) (s : Switch) → n < length ss → ((k : ℕ) (d : Switch) → k < n → IsEarly cut (get_or ss k d)) → get_or ss n s ≡ s → IsEarly cut s → (k : ℕ) (d : Switch) → k < n + 1 → IsEarly cut (get_or ss k d)
one_more_early cut ss n s inside so_far at is k d h = elim (cases_lt k n) [
  | inl less ↦ so_far k d less
  | inr more ↦
      let same : k ≡ n = omega (arith, more, h) in
      subst (IsEarly cut) (sym at ∙ get_or_default ss n s d inside ∙ ap (λ i. get_or ss i d) (sym same)) is
]
