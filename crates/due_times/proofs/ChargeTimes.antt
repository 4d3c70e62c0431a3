-- When open charges end.
use Rattle.std.proofs.Common.{◌≡◌, ℕ, zero, suc, ◌^◌, ◌<◌, ◌≤◌, Option, Some, None, List, [], ◌∷◌, length, map, get_or, replicate, refl, sym, ap, subst, ◌∙◌, arith}
use Rattle.std.specs.Prelude.{All, IfSome}
use Rattle.std.proofs.lemmas.List.{get_or-map, get_or-replicate, length-map, length-replicate}
use Rattle.due_times.specs.declared.charges.OpenCharge.{OpenCharge}
use Rattle.due_times.specs.OpenCharges.{end_of, IsAhead}
use Rattle.due_times.specs.Timers.{least, AreLater}

-- time goes on, and no open charge ends
pub charges_later : (upto time : ℕ) (charges : List (Option OpenCharge)) → upto ≤ time → All (λ o. IfSome o (IsAhead upto)) charges → AreLater (map end_of charges) time 0 (length charges) → All (λ o. IfSome o (IsAhead time)) charges
charges_later upto time charges h ahead later k d within =
    let long : length (map end_of charges) ≡ length charges = simp length-map in
    one (get_or charges k d) (ahead k d within) (subst (λ (n : ℕ). time < n) (get_or-map end_of charges k d 0 within) (later k (omega arith) within (omega (arith, within, long))))
  where
    one : (o : Option OpenCharge) → IfSome o (IsAhead upto) → time < end_of o → IfSome o (IsAhead time)
    one None is more = tt
    one (Some s) is more = let since = is.since in record { since = omega (arith, since, h); ahead = more; soon = is.soon; slow = is.slow }

-- the first end is ahead
pub first_ahead : (upto : ℕ) (charges : List (Option OpenCharge)) → upto ≤ 2 ^ 62 → All (λ o. IfSome o (IsAhead upto)) charges → upto < least (map end_of charges)
first_ahead upto [] early ahead = omega (arith, early)
first_ahead upto (o ∷ charges) early ahead =
    let first : upto < end_of o = one o (ahead zero o (omega arith)) in
    let more = first_ahead upto charges early (λ k d h. ahead (suc k) d (omega arith)) in
    omega (arith, first, more)
  where
    one : (p : Option OpenCharge) → IfSome p (IsAhead upto) → upto < end_of p
    one None is = omega (arith, early)
    one (Some s) is = is.ahead

-- no charge is open
pub none_ahead : (count : ℕ) → All (λ o. IfSome o (IsAhead 0)) (replicate count None)
none_ahead count k d within = subst (λ o. IfSome o (IsAhead 0)) (sym (get_or-replicate {A = Option OpenCharge} count k None d (omega (arith, within, length-replicate {A = Option OpenCharge} count None)))) tt

pub none_end : (count : ℕ) → replicate count (end_of None) ≡ map end_of (replicate count None)
none_end zero = refl
none_end (suc count) = ap (λ ends. end_of None ∷ ends) (none_end count)

pub none_length : (count : ℕ) → length (map end_of (replicate count None)) ≡ count
none_length count = ap (λ (ns : List ℕ). length ns) (sym (none_end count)) ∙ length-replicate count (end_of None)
