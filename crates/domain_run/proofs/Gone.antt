-- A domain that goes on without a tick keeps what every domain keeps.
use Rattle.std.proofs.Common.{◌≡◌, ℕ, ◌+◌, ◌^◌, ◌≤◌, List, [], ◌∷◌, length, map, append-nil, refl, sym, ap, subst, ◌∙◌, arith}
use Rattle.std.specs.Prelude.{All}
use Rattle.domain_run.specs.declared.pace.Pace.{Pace}
use Rattle.domain_run.specs.Coming.{switches_to_come}
use Rattle.domain_run.specs.Domain.{Domain}
use Rattle.domain_run.specs.GoneOn.{gone_on, MayGoOn}
use Rattle.domain_run.specs.Later.{later_switch}
use Rattle.domain_run.specs.LowTimes.{HasTime}
use Rattle.domain_run.specs.Passing.{without_switches, with_past}
use Rattle.domain_run.specs.Shift.{given_again}
use Rattle.domain_run.specs.Sound.{IsDomain}
use Rattle.domain_run.specs.Switch.{Switch}
use Rattle.domain_run.specs.Tick.{ticks}
use Rattle.domain_run.proofs.Passing.{forgets_keeps, ticks_after}
use Rattle.domain_run.proofs.Repeating.{again_is}

no_later : (ss : List Switch) → map (later_switch 0) ss ≡ ss
no_later [] = refl
no_later (s ∷ ss) =
    let time : s.time + 0 ≡ s.time = omega arith in
    let rest = no_later ss in
    λ i. record s { time = time i } ∷ rest i

-- the switches so far are not read
bare : (k : ℕ) (d : Domain) → without_switches (ticks k d) ≡ without_switches (ticks k (without_switches d))
bare k d =
    let past : with_past d.switches (without_switches d) ≡ d = ap (λ (ss : List Switch). record d { switches = ss }) (append-nil d.switches) in
    ap (λ (e : Domain). without_switches e) (sym (ap (λ (e : Domain). ticks k e) past) ∙ ticks_after k d.switches (without_switches d))

-- with the switches that the ticks would make, it is the domain to which they lead
with_switches : (k : ℕ) (paces : List Pace) (d : Domain) → MayGoOn k paces d → ticks k (without_switches d) ≡ given_again k paces 0 (switches_to_come k d) (without_switches d)
with_switches k paces d is =
    let period = switches_to_come k d in
    ap (λ (e : Domain). record e { switches = period }) (sym (bare k d) ∙ is.there)
    ∙ ap (λ (ss : List Switch). record (gone_on k paces d) { switches = ss }) (sym (no_later period))

pub gone_is : (k : ℕ) (paces : List Pace) (d : Domain) → IsDomain d → d.time + k ≤ 2 ^ 42 → All HasTime d.tasks → MayGoOn k paces d → IsDomain (gone_on k paces d)
gone_is k paces d is early low may =
    let e = without_switches d in
    forgets_keeps (given_again k paces 0 (switches_to_come k d) e)
    (again_is k 0 paces (switches_to_come k d) e (forgets_keeps d is) early may.many may.may low (with_switches k paces d may))
