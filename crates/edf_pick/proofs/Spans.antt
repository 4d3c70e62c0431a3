-- The tasks that run from one place of a room up to another, after a move.
use Rattle.std.proofs.Common.{◌≡◌, ◌<◌, ◌≤◌, ◌+◌, ◌-◌, ℕ, List, length, drop, get_or, set, sym, ap, ◌∙◌, arith, inl, inr}
use Rattle.std.specs.List.{insert, remove}
use Rattle.std.proofs.lemmas.Bool.{cases_eq, cases_lt}
use Rattle.std.proofs.lemmas.List.{ext_get_or, length-take-le, length-drop, get_or-take, get_or-drop, length-set, get_or-set_same, get_or-set_other}
use Rattle.std.proofs.lemmas.List.Edits.{length-insert, length-remove, get_or-insert_at, get_or-insert_below, get_or-insert_above, get_or-remove_below, get_or-remove_above}
use Rattle.edf_pick.specs.declared.candidate.Candidate.{Candidate}
use Rattle.edf_pick.specs.private.Room.{tasks_between}

nobody : Candidate
nobody = record { deadline = 0; number = 0; home = 0 }

pub between_len : (front end : ℕ) (xs : List Candidate) → front ≤ end → end ≤ length xs → length (tasks_between front end xs) ≡ end - front
between_len front end xs h k =
    let rest : length (drop front xs) ≡ length xs - front = length-drop front xs in
    length-take-le (end - front) (drop front xs) (omega (arith, h, k, rest))

pub between_get : (front end : ℕ) (xs : List Candidate) (i : ℕ) (d : Candidate) → front + i < end → get_or (tasks_between front end xs) i d ≡ get_or xs (front + i) d
between_get front end xs i d h = get_or-take (end - front) (drop front xs) i d (omega (arith, h)) ∙ get_or-drop front xs i d

-- one more
module _ (front end low high place : ℕ) (xs ys : List Candidate) (c : Candidate) (there : front + place ≤ end) (inside : end ≤ length xs) (within : high ≤ length ys) (many : high + front ≡ end + low + 1)
    (below : (i : ℕ) (d : Candidate) → i < place → get_or ys (low + i) d ≡ get_or xs (front + i) d)
    (at : (d : Candidate) → get_or ys (low + place) d ≡ c)
    (above : (i : ℕ) (d : Candidate) → place ≤ i → front + i < end → get_or ys (low + (i + 1)) d ≡ get_or xs (front + i) d) where
  old : length (tasks_between front end xs) ≡ end - front
  old = between_len front end xs (omega (arith, there)) inside

  new : length (tasks_between low high ys) ≡ high - low
  new = between_len low high ys (omega (arith, there, many)) within

  fits : place ≤ length (tasks_between front end xs)
  fits = omega (arith, there, old)

  later : (j : ℕ) (d : Candidate) → place ≤ j → front + j < end → get_or (tasks_between low high ys) (j + 1) d ≡ get_or (insert (tasks_between front end xs) place c) (j + 1) d
  later j d h k =
      between_get low high ys (j + 1) d (omega (arith, k, many)) ∙ above j d h k ∙ sym (between_get front end xs j d k) ∙ sym (get_or-insert_above (tasks_between front end xs) place c d j h fits)

  each : (i : ℕ) (d : Candidate) → low + i < high → get_or (tasks_between low high ys) i d ≡ get_or (insert (tasks_between front end xs) place c) i d
  each i d h =
      elim (cases_lt i place) [
        | inl less ↦
            between_get low high ys i d h ∙ below i d less ∙ sym (between_get front end xs i d (omega (arith, less, there))) ∙ sym (get_or-insert_below (tasks_between front end xs) place c d i less fits)
        | inr more ↦ elim (cases_eq i place) [
          | inl same ↦
              ap (λ (k : ℕ). get_or (tasks_between low high ys) k d) same
              ∙ between_get low high ys place d (omega (arith, h, same)) ∙ at d ∙ sym (get_or-insert_at (tasks_between front end xs) place c d fits)
              ∙ ap (λ (k : ℕ). get_or (insert (tasks_between front end xs) place c) k d) (sym same)
          | inr apart ↦
              let one : i ≡ (i - 1) + 1 = omega (arith, more, apart) in
              ap (λ (k : ℕ). get_or (tasks_between low high ys) k d) one
              ∙ later (i - 1) d (omega (arith, more, apart)) (omega (arith, h, many, more, apart))
              ∙ ap (λ (k : ℕ). get_or (insert (tasks_between front end xs) place c) k d) (sym one)
        ]
      ]

  pub between_inserted : tasks_between low high ys ≡ insert (tasks_between front end xs) place c
  between_inserted =
      let more : length (insert (tasks_between front end xs) place c) ≡ length (tasks_between front end xs) + 1 = length-insert (tasks_between front end xs) place c fits in
      ext_get_or nobody (tasks_between low high ys) (insert (tasks_between front end xs) place c) (omega (arith, old, new, more, many, there)) (λ i h. each i nobody (omega (arith, h, new)))

-- one less
module _ (front end low high place : ℕ) (xs ys : List Candidate) (there : front + place < end) (inside : end ≤ length xs) (within : high ≤ length ys) (many : high + front + 1 ≡ end + low)
    (below : (i : ℕ) (d : Candidate) → i < place → get_or ys (low + i) d ≡ get_or xs (front + i) d)
    (above : (i : ℕ) (d : Candidate) → place ≤ i → front + (i + 1) < end → get_or ys (low + i) d ≡ get_or xs (front + (i + 1)) d) where
  old_len : length (tasks_between front end xs) ≡ end - front
  old_len = between_len front end xs (omega (arith, there)) inside

  new_len : length (tasks_between low high ys) ≡ high - low
  new_len = between_len low high ys (omega (arith, there, many)) within

  is_on_cpu : place < length (tasks_between front end xs)
  is_on_cpu = omega (arith, there, old_len)

  left : (i : ℕ) (d : Candidate) → low + i < high → get_or (tasks_between low high ys) i d ≡ get_or (remove (tasks_between front end xs) place) i d
  left i d h =
      elim (cases_lt i place) [
        | inl less ↦
            between_get low high ys i d h ∙ below i d less ∙ sym (between_get front end xs i d (omega (arith, less, there))) ∙ sym (get_or-remove_below (tasks_between front end xs) place d i less is_on_cpu)
        | inr more ↦
            between_get low high ys i d h ∙ above i d more (omega (arith, h, many)) ∙ sym (between_get front end xs (i + 1) d (omega (arith, h, many))) ∙ sym (get_or-remove_above (tasks_between front end xs) place d i more is_on_cpu)
      ]

  pub between_removed : tasks_between low high ys ≡ remove (tasks_between front end xs) place
  between_removed =
      let less : length (remove (tasks_between front end xs) place) + 1 ≡ length (tasks_between front end xs) = length-remove (tasks_between front end xs) place is_on_cpu in
      ext_get_or nobody (tasks_between low high ys) (remove (tasks_between front end xs) place) (omega (arith, old_len, new_len, less, many, there)) (λ i h. left i nobody (omega (arith, h, new_len)))

-- ---- WHAT A COPY WITHIN THE ROOM LEAVES
module _ (front end place : ℕ) (xs zs : List Candidate) (len : length zs ≡ length xs) (inside : end ≤ length xs) where
  -- those from the place on have gone up by one
  pub inserted_above : (c : Candidate) → front + place ≤ end → end < length xs
      → ((k : ℕ) (d : Candidate) → front + place + 1 ≤ k → k < front + place + 1 + (end - (front + place)) → get_or zs k d ≡ get_or xs (front + place + (k - (front + place + 1))) d)
      → ((k : ℕ) (d : Candidate) → k < front + place + 1 → get_or zs k d ≡ get_or xs k d)
      → tasks_between front (end + 1) (set zs (front + place) c) ≡ insert (tasks_between front end xs) place c
  inserted_above c there free moved still =
      let many : length (set zs (front + place) c) ≡ length zs = length-set zs (front + place) c in
      between_inserted front end front (end + 1) place xs (set zs (front + place) c) c there inside (omega (arith, many, len, free)) (omega arith)
      (λ i d h. get_or-set_other zs (front + place) (front + i) c d (omega (arith, h)) ∙ still (front + i) d (omega (arith, h)))
      (λ d. get_or-set_same zs (front + place) c d (omega (arith, there, free, len)))
      (λ i d h k.
      get_or-set_other zs (front + place) (front + (i + 1)) c d (omega (arith, h))
      ∙ moved (front + (i + 1)) d (omega (arith, h)) (omega (arith, h, k))
      ∙ ap (λ (n : ℕ). get_or xs n d) (let e : front + place + (front + (i + 1) - (front + place + 1)) ≡ front + i = omega (arith, h) in e))

  -- those before the place have gone down by one
  pub inserted_below : (c : Candidate) → front + place ≤ end → 0 < front
      → ((k : ℕ) (d : Candidate) → front - 1 ≤ k → k < front - 1 + (front + place - front) → get_or zs k d ≡ get_or xs (front + (k - (front - 1))) d)
      → ((k : ℕ) (d : Candidate) → front - 1 + (front + place - front) ≤ k → get_or zs k d ≡ get_or xs k d)
      → tasks_between (front - 1) end (set zs (front + place - 1) c) ≡ insert (tasks_between front end xs) place c
  inserted_below c there free moved still =
      let at = front + place - 1 in
      let many : length (set zs (front + place - 1) c) ≡ length zs = length-set zs (front + place - 1) c in
      between_inserted front end (front - 1) end place xs (set zs (front + place - 1) c) c there inside (omega (arith, many, len, inside)) (omega (arith, free))
      (λ i d h.
      get_or-set_other zs (front + place - 1) (front - 1 + i) c d (omega (arith, h, free))
      ∙ moved (front - 1 + i) d (omega arith) (omega (arith, h))
      ∙ ap (λ (n : ℕ). get_or xs n d) (let e : front + (front - 1 + i - (front - 1)) ≡ front + i = omega arith in e))
      (λ d.
      ap (λ (n : ℕ). get_or (set zs (front + place - 1) c) n d) (let e : front - 1 + place ≡ front + place - 1 = omega (arith, free) in e)
      ∙ get_or-set_same zs (front + place - 1) c d (omega (arith, there, inside, free, len)))
      (λ i d h k.
      ap (λ (n : ℕ). get_or (set zs (front + place - 1) c) n d) (let e : front - 1 + (i + 1) ≡ front + i = omega (arith, free) in e)
      ∙ get_or-set_other zs (front + place - 1) (front + i) c d (omega (arith, h, free))
      ∙ still (front + i) d (omega (arith, h, free)))

  -- those before the place have gone up by one
  pub removed_below : front + place < end
      → ((k : ℕ) (d : Candidate) → front + 1 ≤ k → k < front + 1 + (front + place - front) → get_or zs k d ≡ get_or xs (front + (k - (front + 1))) d)
      → ((k : ℕ) (d : Candidate) → front + 1 + (front + place - front) ≤ k → get_or zs k d ≡ get_or xs k d)
      → tasks_between (front + 1) end zs ≡ remove (tasks_between front end xs) place
  removed_below there moved still =
      between_removed front end (front + 1) end place xs zs there inside (omega (arith, len, inside)) (omega arith)
      (λ i d h. moved (front + 1 + i) d (omega arith) (omega (arith, h)) ∙ ap (λ (n : ℕ). get_or xs n d) (let e : front + (front + 1 + i - (front + 1)) ≡ front + i = omega arith in e))
      (λ i d h k. still (front + 1 + i) d (omega (arith, h)) ∙ ap (λ (n : ℕ). get_or xs n d) (let e : front + 1 + i ≡ front + (i + 1) = omega arith in e))

  -- those after the place have gone down by one
  pub removed_above : front + place < end
      → ((k : ℕ) (d : Candidate) → front + place ≤ k → k < front + place + (end - (front + place + 1)) → get_or zs k d ≡ get_or xs (front + place + 1 + (k - (front + place))) d)
      → ((k : ℕ) (d : Candidate) → k < front + place → get_or zs k d ≡ get_or xs k d)
      → tasks_between front (end - 1) zs ≡ remove (tasks_between front end xs) place
  removed_above there moved still =
      between_removed front end front (end - 1) place xs zs there inside (omega (arith, len, inside)) (omega (arith, there))
      (λ i d h. still (front + i) d (omega (arith, h)))
      (λ i d h k.
      moved (front + i) d (omega (arith, h)) (omega (arith, h, k))
      ∙ ap (λ (n : ℕ). get_or xs n d) (let e : front + place + 1 + (front + i - (front + place)) ≡ front + (i + 1) = omega (arith, h) in e))
