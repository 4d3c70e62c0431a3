-- How much a piece of an advance holds at most, and where it ends.
use Rattle.std.proofs.Common.{◌≡◌, ℕ, ◌+◌, ◌<◌, ◌≤◌, Bool, true, false, cond, leb, ◌||◌, List, [], length, refl, ap, arith, length-append}
use Rattle.std.proofs.lemmas.Bool.{leb-false}
use Rattle.domain_run.specs.declared.happened.Happened.{Happened}
use Rattle.domain_run.specs.Domain.{Domain}
use Rattle.domain_run.specs.Log.{LogView, HasLogged}
use Rattle.jump_run.specs.Pieces.{has_enough, AddsAnEvent, IsBounded}

neither : (a b : Bool) → (a || b) ≡ false → (a ≡ false) × (b ≡ false)
neither true b is = absurd cc
neither false b is = (refl, is)

-- after one event more
pub adds : (enough : ℕ) (d e : Domain) (log after : LogView) → has_enough enough d log ≡ false → AddsAnEvent d log e after → IsBounded enough e after
adds enough d e log after fewer event =
    let both = neither (leb enough (length d.switches)) (leb enough (length log.happened)) fewer in
    let first = leb-false enough (length d.switches) both.0 in
    let second = leb-false enough (length log.happened) both.1 in
    record { switches = omega (arith, first, event.switches); logged = omega (arith, second, event.logged) }

-- after a leap, which stops there
pub leapt : (enough : ℕ) (d e : Domain) (log after : LogView) → has_enough enough d log ≡ false
    → (length d.switches < enough → length log.happened < enough → length e.switches < enough + 64)
    → (length d.switches < enough → length log.happened < enough → length after.happened < enough + 2304) → IsBounded enough e after
leapt enough d e log after fewer switches logged =
    let both = neither (leb enough (length d.switches)) (leb enough (length log.happened)) fewer in
    let first = leb-false enough (length d.switches) both.0 in
    let second = leb-false enough (length log.happened) both.1 in
    record { switches = switches first second; logged = logged first second }

-- a log that was logged so much has no more
wanted_few : (b : Bool) (hs : List Happened) → length (cond b hs []) ≤ length hs
wanted_few true hs = omega arith
wanted_few false hs = omega arith

pub logs_few : (n : ℕ) (hs : List Happened) (a b : LogView) → length hs ≤ n → HasLogged a hs b → length b.happened ≤ length a.happened + n
logs_few n hs a b few has_logged =
    omega (arith, ap (λ (xs : List Happened). length xs) has_logged.happened, length-append a.happened (cond a.wanted hs []), wanted_few a.wanted hs, few)
