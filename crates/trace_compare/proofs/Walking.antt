-- A step through two lists of runs that lie in memory.
use Rattle.std.proofs.Common.{◌≡◌, ℕ, ◌+◌, ◌-◌, ◌<◌, ◌≤◌, suc, Bool, true, List, [], ◌∷◌, ◌++◌, length, get_or, take, drop, Option, Some, None, sym, ap, ◌∙◌, subst, append_assoc}
use Rattle.std.proofs.lemmas.List.{drop_more, drop_all, length-drop}
use Rattle.std.proofs.Math.Seq.{take-length}
use Rattle.trace_compare.specs.declared.clock.ClockShift.{ClockShift}
use Rattle.trace_compare.specs.declared.run.Run.{Run}
use Rattle.std.specs.Prelude.{All, IfSome}
use Rattle.std.proofs.lemmas.List.Elements.{All-push}
use Rattle.trace_compare.specs.Runs.{InTurn, IsShort}
use Rattle.trace_compare.specs.Matched.{ArePartnersShort}
use Rattle.trace_compare.specs.Pairs.{fits, partners, left_over, count_matched}
use Rattle.trace_compare.specs.private.Meetings.{IsTooEarly, IsLate}
use Rattle.trace_compare.proofs.SideBySide.{rest_in_turn, partners_both, partners_early, partners_past, left_both, left_early, left_past, partners_end, partners_rest, no_partners, left_end, all_left}

abbrev pub no_run : Run
no_run = record { start = 0; «end» = 0; cpu = 0 }

pub turn_more : (ms : List Run) (i : ℕ) → i < length ms → InTurn (drop i ms) → InTurn (drop (i + 1) ms)
turn_more ms i l t = rest_in_turn (get_or ms i no_run) (drop (i + 1) ms) (subst InTurn (drop_more ms i no_run l) t)

module _ (within : ℕ) (shift : ClockShift) (ms rs : List Run) (i j : ℕ) (l : i < length ms) (k : j < length rs) where
  abbrev m : Run
  m = get_or ms i no_run

  abbrev r : Run
  r = get_or rs j no_run

  turn_m : InTurn (drop i ms) → InTurn (m ∷ drop (i + 1) ms)
  turn_m t = subst InTurn (drop_more ms i no_run l) t

  turn_r : InTurn (drop j rs) → InTurn (r ∷ drop (j + 1) rs)
  turn_r t = subst InTurn (drop_more rs j no_run k) t

  heads : {A : Type 0} (f : List Run → List Run → A) → f (drop i ms) (drop j rs) ≡ f (m ∷ drop (i + 1) ms) (r ∷ drop (j + 1) rs)
  heads f = ap (λ xs. f xs (drop j rs)) (drop_more ms i no_run l) ∙ ap (λ ys. f (m ∷ drop (i + 1) ms) ys) (drop_more rs j no_run k)

  pub walk_fit : fits within shift m r ≡ true → partners (fits within shift) (drop i ms) (drop j rs) ≡ Some r ∷ partners (fits within shift) (drop (i + 1) ms) (drop (j + 1) rs)
  walk_fit h = heads (partners (fits within shift)) ∙ partners_both within shift m (drop (i + 1) ms) r (drop (j + 1) rs) h

  pub walk_early : InTurn (drop i ms) → IsTooEarly within shift m r → partners (fits within shift) (drop i ms) (drop j rs) ≡ partners (fits within shift) (drop i ms) (drop (j + 1) rs)
  walk_early t h = heads (partners (fits within shift)) ∙ partners_early within shift m (drop (i + 1) ms) r (drop (j + 1) rs) (turn_m t) h ∙ ap (λ xs. partners (fits within shift) xs (drop (j + 1) rs)) (sym (drop_more ms i no_run l))

  pub walk_late : InTurn (drop j rs) → IsLate within shift m r → partners (fits within shift) (drop i ms) (drop j rs) ≡ None ∷ partners (fits within shift) (drop (i + 1) ms) (drop j rs)
  walk_late t h = heads (partners (fits within shift)) ∙ partners_past within shift m (drop (i + 1) ms) r (drop (j + 1) rs) (turn_r t) h ∙ ap (λ ys. None ∷ partners (fits within shift) (drop (i + 1) ms) ys) (sym (drop_more rs j no_run k))

  pub left_of_fit : fits within shift m r ≡ true → left_over (fits within shift) (drop i ms) (drop j rs) ≡ left_over (fits within shift) (drop (i + 1) ms) (drop (j + 1) rs)
  left_of_fit h = heads (left_over (fits within shift)) ∙ left_both within shift m (drop (i + 1) ms) r (drop (j + 1) rs) h

  pub left_of_early : InTurn (drop i ms) → IsTooEarly within shift m r → left_over (fits within shift) (drop i ms) (drop j rs) ≡ r ∷ left_over (fits within shift) (drop i ms) (drop (j + 1) rs)
  left_of_early t h = heads (left_over (fits within shift)) ∙ left_early within shift m (drop (i + 1) ms) r (drop (j + 1) rs) (turn_m t) h ∙ ap (λ xs. r ∷ left_over (fits within shift) xs (drop (j + 1) rs)) (sym (drop_more ms i no_run l))

  pub left_of_late : InTurn (drop j rs) → IsLate within shift m r → left_over (fits within shift) (drop i ms) (drop j rs) ≡ left_over (fits within shift) (drop (i + 1) ms) (drop j rs)
  left_of_late t h = heads (left_over (fits within shift)) ∙ left_past within shift m (drop (i + 1) ms) r (drop (j + 1) rs) (turn_r t) h ∙ ap (λ ys. left_over (fits within shift) (drop (i + 1) ms) ys) (sym (drop_more rs j no_run k))

  pub count_fit : fits within shift m r ≡ true → count_matched (partners (fits within shift) (drop i ms) (drop j rs)) ≡ suc (count_matched (partners (fits within shift) (drop (i + 1) ms) (drop (j + 1) rs)))
  count_fit h = ap count_matched (walk_fit h)

  pub count_late : InTurn (drop j rs) → IsLate within shift m r → count_matched (partners (fits within shift) (drop i ms) (drop j rs)) ≡ count_matched (partners (fits within shift) (drop (i + 1) ms) (drop j rs))
  count_late t h = ap count_matched (walk_late t h)

-- ---- where one of the lists has come to its end

module _ (fit : Run → Run → Bool) (ms rs : List Run) (i j : ℕ) where
  nothing : (xs : List Run) (k : ℕ) → length xs ≤ k → drop k xs ≡ []
  nothing xs k h = drop_all k xs h

  pub count_model_end : length ms ≤ i → count_matched (partners fit (drop i ms) (drop j rs)) ≡ 0
  count_model_end h = ap (λ xs. count_matched (partners fit xs (drop j rs))) (nothing ms i h) ∙ ap count_matched (no_partners fit (drop j rs))

  pub count_recorded_end : length rs ≤ j → count_matched (partners fit (drop i ms) (drop j rs)) ≡ 0
  count_recorded_end h = ap (λ ys. count_matched (partners fit (drop i ms) ys)) (nothing rs j h) ∙ partners_end fit (drop i ms)

  pub partners_model_end : length ms ≤ i → partners fit (drop i ms) (drop j rs) ≡ []
  partners_model_end h = ap (λ xs. partners fit xs (drop j rs)) (nothing ms i h) ∙ no_partners fit (drop j rs)

  pub left_model_end : length ms ≤ i → left_over fit (drop i ms) (drop j rs) ≡ drop j rs
  left_model_end h = ap (λ xs. left_over fit xs (drop j rs)) (nothing ms i h) ∙ all_left fit (drop j rs)

  pub partners_one : i < length ms → length rs ≤ j → partners fit (drop i ms) (drop j rs) ≡ None ∷ partners fit (drop (i + 1) ms) (drop j rs)
  partners_one l h =
      ap (λ xs. partners fit xs (drop j rs)) (drop_more ms i no_run l) ∙ ap (λ ys. partners fit (get_or ms i no_run ∷ drop (i + 1) ms) ys) (nothing rs j h)
      ∙ partners_rest fit (get_or ms i no_run) (drop (i + 1) ms) ∙ ap (λ ys. None ∷ partners fit (drop (i + 1) ms) ys) (sym (nothing rs j h))

  pub left_one : length rs ≤ j → left_over fit (drop i ms) (drop j rs) ≡ left_over fit (drop (i + 1) ms) (drop j rs)
  left_one h =
      ap (λ ys. left_over fit (drop i ms) ys) (nothing rs j h) ∙ left_end fit (drop i ms)
      ∙ sym (ap (λ ys. left_over fit (drop (i + 1) ms) ys) (nothing rs j h) ∙ left_end fit (drop (i + 1) ms))

-- what was told, and one more
pub told_more : {A : Type 0} (so_far : List A) (x : A) (rest all now : List A) → now ≡ x ∷ rest → so_far ++ now ≡ all → (so_far ++ x ∷ []) ++ rest ≡ all
told_more so_far x rest all now e h = append_assoc so_far (x ∷ []) rest ∙ ap (λ ys. so_far ++ ys) (sym e) ∙ h

pub told_same : {A : Type 0} (so_far rest all now : List A) → now ≡ rest → so_far ++ now ≡ all → so_far ++ rest ≡ all
told_same so_far rest all now e h = ap (λ ys. so_far ++ ys) (sym e) ∙ h

-- a slice from k on is what is dropped to
pub rest_of : {X : Type 0} (k : ℕ) (items : List X) → take (length items - k) (drop k items) ≡ drop k items
rest_of k items = ap (λ (n : ℕ). take n (drop k items)) (sym (length-drop k items)) ∙ take-length (drop k items)

pub told_pushed : {A : Type 0} (so_far after : List A) (x : A) (rest all now : List A) → after ≡ so_far ++ x ∷ [] → now ≡ x ∷ rest → so_far ++ now ≡ all → after ++ rest ≡ all
told_pushed so_far after x rest all now p e h = ap (λ ps. ps ++ rest) p ∙ told_more so_far x rest all now e h

pub partner_pushed : (ps after : List (Option Run)) (p : Option Run) → ArePartnersShort ps → IfSome p IsShort → after ≡ ps ++ p ∷ [] → ArePartnersShort after
partner_pushed ps after p all one e = subst ArePartnersShort (sym e) (All-push (λ p. IfSome p IsShort) ps p all one)

pub run_pushed : (rs after : List Run) (r : Run) → All IsShort rs → IsShort r → after ≡ rs ++ r ∷ [] → All IsShort after
run_pushed rs after r all one e = subst (All IsShort) (sym e) (All-push IsShort rs r all one)
