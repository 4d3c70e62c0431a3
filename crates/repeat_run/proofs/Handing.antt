-- A period is given, and what is known goes on.
use Rattle.std.proofs.Common.{◌≡◌, ℕ, suc, ◌+◌, ◌-◌, ◌<◌, ap, sym, subst, ◌∙◌, arith}
use Rattle.domain_run.specs.Domain.{Domain}
use Rattle.domain_run.specs.Passing.{without_switches, with_past}
use Rattle.domain_run.specs.Tick.{ticks}
use Rattle.domain_run.proofs.CallerLemmas.{ticks_time}
use Rattle.repeat_run.specs.declared.phase.Phase.{Phase}
use Rattle.repeat_run.specs.declared.phase.Phase.TheVariants.{Fresh, Tired, Looking, Recording, Giving}
use Rattle.repeat_run.specs.declared.phase.Kept.{Kept}
use Rattle.repeat_run.specs.Gives.{IsGiven, GivesPeriods}
use Rattle.repeat_run.specs.private.Knows.{IsGiving, KnowsInPhase}
use Rattle.repeat_run.proofs.Giving.{ticks_bare, bare_ticks}

one_less : (n : ℕ) → 0 < n → n ≡ suc (n - 1)
one_less n some = omega (arith, some)

module _ (micros later_by left : ℕ) (kept : Kept) (d : Domain) (is : IsGiving micros later_by left kept d) (some : 0 < left) where
  both : GivesPeriods (suc (left - 1)) micros kept.paces.items later_by kept.period.items (without_switches d)
  both = subst (λ n. GivesPeriods n micros kept.paces.items later_by kept.period.items (without_switches d)) (one_less left some) is.gives

  pub given_now : IsGiven micros kept.paces.items later_by kept.period.items d
  given_now =
      let bare = both.0 in
      record {
        many = bare.many;
        may = bare.may;
        again = ticks_bare micros d ∙ ap (with_past d.switches) bare.again;
      }

  pub given_next : (e : Domain) → e ≡ ticks micros d → IsGiving micros (later_by + micros) (left - 1) kept e
  given_next e same =
      let time : e.time ≡ (ticks micros d).time = ap (λ (x : Domain). x.time) same in
      let passed = ticks_time micros d in
      let past = is.past in
      let here : without_switches (ticks micros (without_switches d)) ≡ without_switches e = sym (bare_ticks micros d) ∙ ap (λ (x : Domain). without_switches x) (sym same) in
      record {
        some = is.some;
        past = omega (arith, time, passed, past);
        gives = subst (λ (x : Domain). GivesPeriods (left - 1) micros kept.paces.items (later_by + micros) kept.period.items x) here both.1;
      }

-- what is known speaks of no switch so far
pub knows_bare : (phase : Phase) (kept : Kept) (d e : Domain) → without_switches e ≡ without_switches d → KnowsInPhase phase kept d → KnowsInPhase phase kept e
knows_bare Fresh kept d e same h = tt
knows_bare Tired kept d e same h = tt
knows_bare (Looking watch) kept d e same h = tt
knows_bare (Recording r) kept d e same h = (h.0, record { start = h.1.start; domain = h.1.domain; seen = h.1.seen; running = h.1.running; there = same ∙ h.1.there; period = h.1.period })
knows_bare (Giving g) kept d e same h =
    let time : e.time ≡ d.time = ap (λ (x : Domain). x.time) same in
    let past = h.past in
    record {
      some = h.some;
      past = omega (arith, time, past);
      gives = subst (λ (x : Domain). GivesPeriods g.left g.micros kept.paces.items g.later_by kept.period.items x) (sym same) h.gives;
    }
