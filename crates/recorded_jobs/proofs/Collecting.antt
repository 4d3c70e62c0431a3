-- Stretches collected from the last moment to the first.
use Rattle.std.proofs.Common.{◌≡◌, ℕ, zero, suc, ◌<◌, ◌≤◌, ⊎_elim, true, false, List, [], ◌∷◌, ◌++◌, length, get_or, drop, Option, Some, None, refl, sym, ap, ◌∙◌, arith, subst, append-nil}
use Rattle.std.specs.Prelude.{reverse, All}
use Rattle.std.proofs.Math.ListN.{set}
use Rattle.std.specs.Option.{option_to_list}
use Rattle.std.specs.List.{cons_option}
use Rattle.std.proofs.lemmas.Bool.{cases_eq, ne_eqb, eq-eqb}
use Rattle.std.proofs.lemmas.List.{drop_more, drop_all, reverse-append, get_or-set_same, get_or-set_other}
use Rattle.recorded_jobs.specs.declared.moment.Moment.{Moment}
use Rattle.recorded_jobs.specs.declared.stretch.Stretch.{Stretch}
use Rattle.recorded_jobs.specs.Stretches.{is_switch, switch_after, stretch_at, all_stretches}
use Rattle.recorded_jobs.specs.private.After.{AreStretchesAfter}

rev_more : (o : Option Stretch) (xs : List Stretch) → reverse (xs ++ option_to_list o) ≡ cons_option o (reverse xs)
rev_more None xs = ap reverse (append-nil xs)
rev_more (Some x) xs = reverse-append xs (x ∷ [])

found_more : (last : ℕ) (old new : List Stretch) (m : Moment) (rest : List Moment) (n : Option Moment) → n ≡ switch_after m.cpu rest → new ≡ old ++ option_to_list (stretch_at last m n) → reverse old ≡ all_stretches last rest → reverse new ≡ all_stretches last (m ∷ rest)
unfolding all_stretches
found_more last old new m rest n e is h =
    ap reverse is ∙ rev_more (stretch_at last m n) old ∙ ap (cons_option (stretch_at last m n)) h ∙ ap (λ (t : Option Moment). cons_option (stretch_at last m t) (all_stretches last rest)) e

read_at : (next : List (Option Moment)) (k : ℕ) (t : Option Moment) → k < length next → t ≡ get_or next k t → t ≡ get_or next k None
read_at [] k t l e = absurd (omega (arith, l))
read_at (x ∷ xs) zero t l e = e
read_at (x ∷ xs) (suc k) t l e = read_at xs k t (omega (arith, l)) e

here_switch : (m : Moment) (rest : List Moment) (c : ℕ) → is_switch m.what ≡ true → c ≡ m.cpu → switch_after c (m ∷ rest) ≡ Some m
here_switch m rest c holds e = rw (holds, eq-eqb m.cpu c (sym e)) refl

other_switch : (m : Moment) (rest : List Moment) (c : ℕ) → is_switch m.what ≡ true → (c ≡ m.cpu → ⊥) → switch_after c (m ∷ rest) ≡ switch_after c rest
other_switch m rest c holds h = rw (holds, ne_eqb m.cpu c (λ e. h (sym e))) refl

no_switch : (m : Moment) (rest : List Moment) (c : ℕ) → is_switch m.what ≡ false → switch_after c (m ∷ rest) ≡ switch_after c rest
no_switch m rest c fails = rw fails refl

pub switch_taken : (last : ℕ) (next : List (Option Moment)) (old new : List Stretch) (m : Moment) (rest : List Moment) (k : ℕ) (n : Option Moment) → length next ≡ 65536 → m.cpu < 65536 → k ≡ m.cpu → n ≡ get_or next k n → is_switch m.what ≡ true → new ≡ old ++ option_to_list (stretch_at last m n) → AreStretchesAfter last next old rest → AreStretchesAfter last (set next k (Some m)) new (m ∷ rest)
switch_taken last next old new m rest k n many small is read holds more h =
    let l : k < length next = omega (arith, many, small, is) in
    let told : n ≡ switch_after m.cpu rest = read_at next k n l read ∙ ap (λ (c : ℕ). get_or next c None) is ∙ h.switches m.cpu small in
    record {
      switches = λ c lt. ⊎_elim
          (λ same. ap (λ (x : ℕ). get_or (set next k (Some m)) x None) (same ∙ sym is) ∙ get_or-set_same next k (Some m) None l ∙ sym (here_switch m rest c holds same))
          (λ other. get_or-set_other next k c (Some m) None (λ e. other (e ∙ is)) ∙ h.switches c lt ∙ sym (other_switch m rest c holds other))
          (cases_eq c m.cpu);
      found = found_more last old new m rest n told more h.found;
    }

pub wake_taken : (last : ℕ) (next : List (Option Moment)) (old new : List Stretch) (m : Moment) (rest : List Moment) (k : ℕ) (n : Option Moment) → length next ≡ 65536 → m.cpu < 65536 → k ≡ m.cpu → n ≡ get_or next k n → is_switch m.what ≡ false → new ≡ old ++ option_to_list (stretch_at last m n) → AreStretchesAfter last next old rest → AreStretchesAfter last next new (m ∷ rest)
wake_taken last next old new m rest k n many small is read fails more h =
    let l : k < length next = omega (arith, many, small, is) in
    let told : n ≡ switch_after m.cpu rest = read_at next k n l read ∙ ap (λ (c : ℕ). get_or next c None) is ∙ h.switches m.cpu small in
    record {
      switches = λ c lt. h.switches c lt ∙ sym (no_switch m rest c fails);
      found = found_more last old new m rest n told more h.found;
    }

pub none_taken : (last : ℕ) (next : List (Option Moment)) (stretches : List Stretch) (moments : List Moment) (i : ℕ) → length next ≡ 65536 → All (λ t. t ≡ None) next → stretches ≡ [] → length moments ≤ i → AreStretchesAfter last next stretches (drop i moments)
unfolding all_stretches
none_taken last next stretches moments i many none empty l =
    subst (λ (ms : List Moment). AreStretchesAfter last next stretches ms) (sym (drop_all i moments l)) (record {
      switches = λ c lt. none c None (omega (arith, many, lt));
      found = ap reverse empty;
    })
