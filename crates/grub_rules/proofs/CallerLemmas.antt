-- What a caller of the running sums shows by the list of shares that they count.
use Rattle.std.proofs.Common.{◌≡◌, ℕ, ◌+◌, ◌-◌, ◌^◌, ◌<◌, ◌≤◌, Bool, true, false, cond, eqb, eq-eqb, ◌&&◌, List, [], ◌∷◌, ◌++◌, length, refl, ap, ◌∙◌, arith, take, drop, set, get_or, map, sym, subst, add-one}
use Rattle.std.specs.Prelude.{sum_by, All, slice_index, filter}
use Rattle.std.proofs.lemmas.List.Elements.{All-head, filter_more}
use Rattle.std.proofs.lemmas.List.Sums.{sum_by-cons, sum_by-le}
use Rattle.grub_rules.specs.Sums.{Share, total_bw, this_bw, running_bw, uinact}
use Rattle.grub_rules.specs.Accounts.{AccountsView, AreAccounts, Holds, Exchanges}
use Rattle.grub_rules.proofs.Exchanging.{this_bw-append, running_bw-append, All-back, joined, parted, turned}
use Rattle.std.proofs.Math.Seq.{drop-cons}
use Rattle.std.proofs.Math.ListN.{drop_of_length-le}
use Rattle.std.proofs.lemmas.List.{take-append-drop, take-set, drop-set, map-append, take_all, append-nil, append_assoc}
-- of the rate
pub use Rattle.grub_rules.proofs.Rating.{taken_is, bw_most, used_most, rounded, rate_is, rate_on_is, slow}

-- one share alone
alone : (p : Bool) (s : Share) → sum_by (λ x. x.bw) (cond p (s ∷ []) []) ≡ cond p s.bw 0
alone true s = omega arith
alone false s = refl

pub this_bw-one : (cpu : ℕ) (s : Share) → this_bw cpu (s ∷ []) ≡ cond (eqb s.cpu cpu) s.bw 0
this_bw-one cpu s = alone (eqb s.cpu cpu) s

pub running_bw-one : (cpu : ℕ) (s : Share) → running_bw cpu (s ∷ []) ≡ cond (eqb s.cpu cpu && s.active) s.bw 0
running_bw-one cpu s = alone (eqb s.cpu cpu && s.active) s

running_least : (here active : Bool) (bw : ℕ) → cond (here && active) bw 0 ≤ cond here bw 0
running_least true true bw = omega arith
running_least true false bw = omega arith
running_least false active bw = omega arith

-- the active tasks of a CPU have no more than all of it, and these no more than all of the domain
pub running_bw-le-this_bw : (cpu : ℕ) (shares : List Share) → running_bw cpu shares ≤ this_bw cpu shares
running_bw-le-this_bw cpu [] = omega arith
running_bw-le-this_bw cpu (s ∷ shares) =
    omega (
      arith,
      this_bw-append cpu (s ∷ []) shares,
      running_bw-append cpu (s ∷ []) shares,
      this_bw-one cpu s,
      running_bw-one cpu s,
      running_least (eqb s.cpu cpu) s.active s.bw,
      running_bw-le-this_bw cpu shares,
    )

this_least : (here : Bool) (bw : ℕ) → cond here bw 0 ≤ bw
this_least true bw = omega arith
this_least false bw = omega arith

pub this_bw-le-total_bw : (cpu : ℕ) (shares : List Share) → this_bw cpu shares ≤ total_bw shares
this_bw-le-total_bw cpu [] = omega arith
this_bw-le-total_bw cpu (s ∷ shares) =
    omega (
      arith,
      this_bw-append cpu (s ∷ []) shares,
      this_bw-one cpu s,
      this_least (eqb s.cpu cpu) s.bw,
      sum_by-cons (λ (x : Share). x.bw) s shares,
      this_bw-le-total_bw cpu shares,
    )

pub uinact-le-total_bw : (cpu : ℕ) (shares : List Share) → uinact cpu shares ≤ total_bw shares
uinact-le-total_bw cpu shares = omega (arith, this_bw-le-total_bw cpu shares)

-- at most 256 shares of at most one CPU each
pub total_bw-few : (shares : List Share) → length shares ≤ 256 → All (λ s. s.bw ≤ 2 ^ 20) shares → total_bw shares ≤ 2 ^ 28
total_bw-few shares few small = omega (arith, sum_by-le (λ (s : Share). s.bw) (2 ^ 20) shares small)

-- sums that count two lists count the same of both
pub uinact_same : (a : AccountsView) (xs ys : List Share) → AreAccounts a xs → AreAccounts a ys → (cpu : ℕ) → uinact cpu xs ≡ uinact cpu ys
uinact_same a xs ys x y cpu = omega (arith, x.all cpu, x.active cpu, y.all cpu, y.active cpu)

pub total_bw_same : (a : AccountsView) (xs ys : List Share) → AreAccounts a xs → AreAccounts a ys → total_bw xs ≡ total_bw ys
total_bw_same a xs ys x y = omega (arith, x.total, y.total)

-- JOIN: there is room for one share more
pub fits : (a : AccountsView) (shares : List Share) (bw : ℕ) → AreAccounts a shares → total_bw shares ≤ 2 ^ 28 → bw ≤ 2 ^ 20 → a.total + bw < 2 ^ 64
fits a shares bw was few small = omega (arith, was.total)

-- TRACK: and for another in the place of one
pub fits_instead : (a : AccountsView) (shares : List Share) (less bw : ℕ) → AreAccounts a shares → total_bw shares ≤ 2 ^ 28 → bw ≤ 2 ^ 20 → a.total - less + bw < 2 ^ 64
fits_instead a shares less bw was few small = omega (arith, was.total)

-- PART, WAKE, IDLE, SHIFT, TRACK: a listed share is held
held_bw : (active : Bool) (bw all run xall xrun yall yrun : ℕ) → xrun ≤ xall → yrun ≤ yall → all ≡ xall + (bw + yall) → run ≡ xrun + (cond active bw 0 + yrun) → bw ≤ cond active run (all - run)
held_bw true bw all run xall xrun yall yrun hx hy ha hr = omega arith
held_bw false bw all run xall xrun yall yrun hx hy ha hr = omega arith

at_home : (s : Share) → this_bw s.cpu (s ∷ []) ≡ s.bw
at_home s = this_bw-one s.cpu s ∙ rw (eq-eqb s.cpu s.cpu refl)

active_at_home : (s : Share) → running_bw s.cpu (s ∷ []) ≡ cond s.active s.bw 0
active_at_home s = running_bw-one s.cpu s ∙ rw (eq-eqb s.cpu s.cpu refl)

pub held : (a : AccountsView) (s : Share) (xs ys : List Share) → AreAccounts a (xs ++ s ∷ ys) → Holds a s
held a s xs ys was = record {
  home = let P : Share → Type 0 = λ x. x.cpu < length a.all in All-head P s ys (All-back P xs (s ∷ ys) was.homes);
  bw = held_bw s.active s.bw (slice_index a.all s.cpu) (slice_index a.active s.cpu) (this_bw s.cpu xs) (running_bw s.cpu xs) (this_bw s.cpu ys) (running_bw s.cpu ys) (running_bw-le-this_bw s.cpu xs) (running_bw-le-this_bw s.cpu ys)
      (was.all s.cpu ∙ this_bw-append s.cpu xs (s ∷ ys) ∙ ap (λ n. this_bw s.cpu xs + n) (this_bw-append s.cpu (s ∷ []) ys ∙ ap (λ n. n + this_bw s.cpu ys) (at_home s)))
      (was.active s.cpu ∙ running_bw-append s.cpu xs (s ∷ ys) ∙ ap (λ n. running_bw s.cpu xs + n) (running_bw-append s.cpu (s ∷ []) ys ∙ ap (λ n. n + running_bw s.cpu ys) (active_at_home s)));
}

-- ---- LOOPS over a caller's tasks that keep running sums exact: `share` is a task as the sums see it

drop_at : {X : Type 0} (xs : List X) (i : ℕ) (d : X) → i < length xs → drop i xs ≡ get_or xs i d ∷ drop (i + 1) xs
drop_at xs i d h = rw (add-one, drop-cons xs i d h) refl

pub at : {X : Type 0} (xs : List X) (i : ℕ) (d : X) → i < length xs → xs ≡ take i xs ++ get_or xs i d ∷ drop (i + 1) xs
at xs i d h = sym (take-append-drop i xs) ∙ ap (λ ys. take i xs ++ ys) (drop_at xs i d h)

pub set_at : {X : Type 0} (xs : List X) (i : ℕ) (y : X) → i < length xs → set xs i y ≡ take i xs ++ y ∷ drop (i + 1) xs
set_at xs i y h = sym (take-append-drop i (set xs i y)) ∙ ap (λ ys. ys ++ drop i (set xs i y)) (take-set xs i y) ∙ ap (λ ys. take i xs ++ ys) (drop-set xs i y h)

shares_at : {X : Type 0} (share : X → Share) (items : List X) (i : ℕ) (d : X) → i < length items → map share items ≡ map share (take i items) ++ share (get_or items i d) ∷ map share (drop (i + 1) items)
shares_at share items i d h = ap (map share) (at items i d h) ∙ map-append share (take i items) (get_or items i d ∷ drop (i + 1) items)

shares-set : {X : Type 0} (share : X → Share) (items : List X) (i : ℕ) (y : X) → i < length items → map share (set items i y) ≡ map share (take i items) ++ share y ∷ map share (drop (i + 1) items)
shares-set share items i y h = ap (map share) (set_at items i y h) ∙ map-append share (take i items) (y ∷ drop (i + 1) items)

-- A LOOP THAT CHANGES TASKS: the task at a place is held, and the sums follow its change
pub held_at : {X : Type 0} (share : X → Share) (a : AccountsView) (items : List X) (i : ℕ) (d : X) → i < length items → AreAccounts a (map share items) → Holds a (share (get_or items i d))
held_at share a items i d h was = held a (share (get_or items i d)) (map share (take i items)) (map share (drop (i + 1) items)) (subst (AreAccounts a) (shares_at share items i d h) was)

pub turned_at : {X : Type 0} (share : X → Share) (old new : AccountsView) (items : List X) (i : ℕ) (d y : X) → i < length items → (share y).cpu < length old.all → Exchanges old new (share (get_or items i d) ∷ []) (share y ∷ []) → AreAccounts old (map share items) → AreAccounts new (map share (set items i y))
turned_at share old new items i d y h home change was =
    subst (AreAccounts new) (sym (shares-set share items i y h)) (turned old new (share (get_or items i d)) (share y) (map share (take i items)) (map share (drop (i + 1) items)) change home (subst (AreAccounts old) (shares_at share items i d h) was))

-- A TASK AT THE END of the list
pub joined_last : {X : Type 0} (share : X → Share) (old new : AccountsView) (items : List X) (y : X) → (share y).cpu < length old.all → Exchanges old new [] (share y ∷ []) → AreAccounts old (map share items) → AreAccounts new (map share (items ++ y ∷ []))
joined_last share old new items y home change was =
    subst (AreAccounts new) (sym (map-append share items (y ∷ []))) (joined old new (share y) (map share items) [] change home (subst (AreAccounts old) (sym (append-nil (map share items))) was))

-- A TASK AT A PLACE that goes off the list
pub parted_at : {X : Type 0} (share : X → Share) (old new : AccountsView) (items : List X) (i : ℕ) (d : X) → i < length items → Exchanges old new (share (get_or items i d) ∷ []) [] → AreAccounts old (map share items) → AreAccounts new (map share (take i items ++ drop (i + 1) items))
parted_at share old new items i d h change was =
    subst (AreAccounts new) (sym (map-append share (take i items) (drop (i + 1) items))) (parted old new (share (get_or items i d)) (map share (take i items)) (map share (drop (i + 1) items)) change (subst (AreAccounts old) (shares_at share items i d h) was))

-- A LOOP THAT PARTS WITH TASKS, before `retain` takes them off the list: of those that it has passed the sums count the ones
-- that stay, and of the others all
abbrev pub still_counted : {X : Type 0} → (X → Share) → (X → Bool) → List X → ℕ → List Share
still_counted share stays items i = map share (filter stays (take i items)) ++ map share (drop i items)

pub still_counted-start : {X : Type 0} (share : X → Share) (stays : X → Bool) (a : AccountsView) (items : List X) → AreAccounts a (map share items) → AreAccounts a (still_counted share stays items 0)
still_counted-start share stays a items was = was

still_counted_at : {X : Type 0} (share : X → Share) (stays : X → Bool) (items : List X) (i : ℕ) (d : X) → i < length items → still_counted share stays items i ≡ map share (filter stays (take i items)) ++ share (get_or items i d) ∷ map share (drop (i + 1) items)
still_counted_at share stays items i d h = ap (λ ys. map share (filter stays (take i items)) ++ map share ys) (drop_at items i d h)

still_counted_more : {X : Type 0} (share : X → Share) (stays : X → Bool) (items : List X) (i : ℕ) (d : X) → i < length items → still_counted share stays items (i + 1) ≡ map share (filter stays (take i items) ++ cond (stays (get_or items i d)) (get_or items i d ∷ []) []) ++ map share (drop (i + 1) items)
still_counted_more share stays items i d h = ap (λ ys. map share ys ++ map share (drop (i + 1) items)) (filter_more stays items i d h)

pub still_counted-held : {X : Type 0} (share : X → Share) (stays : X → Bool) (a : AccountsView) (items : List X) (i : ℕ) (d : X) → i < length items → AreAccounts a (still_counted share stays items i) → Holds a (share (get_or items i d))
still_counted-held share stays a items i d h was = held a (share (get_or items i d)) (map share (filter stays (take i items))) (map share (drop (i + 1) items)) (subst (AreAccounts a) (still_counted_at share stays items i d h) was)

-- a task that stays
pub still_counted-stayed : {X : Type 0} (share : X → Share) (stays : X → Bool) (a : AccountsView) (items : List X) (i : ℕ) (d : X) → i < length items → stays (get_or items i d) ≡ true → AreAccounts a (still_counted share stays items i) → AreAccounts a (still_counted share stays items (i + 1))
still_counted-stayed share stays a items i d h stay was =
    let kept = map share (filter stays (take i items)) in
    let rest = map share (drop (i + 1) items) in
    let here = share (get_or items i d) in
    let e : still_counted share stays items (i + 1) ≡ kept ++ here ∷ rest =
    still_counted_more share stays items i d h ∙ rw stay (ap (λ ys. ys ++ rest) (map-append share (filter stays (take i items)) (get_or items i d ∷ [])) ∙ append_assoc kept (here ∷ []) rest) in
    subst (AreAccounts a) (still_counted_at share stays items i d h ∙ sym e) was

-- a task that goes
pub still_counted-parted : {X : Type 0} (share : X → Share) (stays : X → Bool) (old new : AccountsView) (items : List X) (i : ℕ) (d : X) → i < length items → stays (get_or items i d) ≡ false → Exchanges old new (share (get_or items i d) ∷ []) [] → AreAccounts old (still_counted share stays items i) → AreAccounts new (still_counted share stays items (i + 1))
still_counted-parted share stays old new items i d h gone change was =
    let kept = map share (filter stays (take i items)) in
    let rest = map share (drop (i + 1) items) in
    let e : still_counted share stays items (i + 1) ≡ kept ++ rest =
    still_counted_more share stays items i d h ∙ rw gone (ap (λ ys. map share ys ++ rest) (append-nil (filter stays (take i items)))) in
    subst (AreAccounts new) (sym e) (parted old new (share (get_or items i d)) kept rest change (subst (AreAccounts old) (still_counted_at share stays items i d h) was))

pub still_counted-done : {X : Type 0} (share : X → Share) (stays : X → Bool) (a : AccountsView) (items : List X) (i : ℕ) → length items ≤ i → AreAccounts a (still_counted share stays items i) → AreAccounts a (map share (filter stays items))
still_counted-done share stays a items i h was =
    let e : still_counted share stays items i ≡ map share (filter stays items) =
    ap (λ ys. map share (filter stays ys) ++ map share (drop i items)) (take_all i items h) ∙ ap (λ ys. map share (filter stays items) ++ map share ys) (drop_of_length-le items h) ∙ append-nil (map share (filter stays items)) in
    subst (AreAccounts a) e was
