-- A step within one domain, told of the whole list.
use Rattle.std.proofs.Common.{◌≡◌, ◌<◌, ◌≤◌, ◌^◌, ℕ, Bool, true, false, List, length, get_or, Some, None, Result, sym, ap, ◌∙◌, subst, arith, nat_le}
use Rattle.std.specs.Prelude.{position, slice_set, IfOk, OnOk, OnErr}
use Rattle.std.proofs.lemmas.Bool.Decides.{nat_tests}
use Rattle.std.proofs.lemmas.List.{set-get_or}
use Rattle.std.proofs.lemmas.Option.{slice_get-get_or}
use Rattle.std.proofs.lemmas.Result.{on_ok_weaker, on_err_weaker}
use Rattle.no_memory.specs.declared.NoMemory.{NoMemory}
use Rattle.bw_world.specs.declared.step.Outcome.{Outcome}
use Rattle.bw_world.specs.declared.step.Word.{Word}
use Rattle.bw_world.specs.declared.step.Step.TheVariants.{Take, Limit}
use Rattle.bw_world.specs.WorldView.{DomainView}
use Rattle.bw_world.specs.DomainStep.{DomainStep, is_live_in, limited, taken}
use Rattle.bw_world.specs.WorldStep.{WorldStep, misfit, is_live, at_found, at_place, at_home, at_domain, stepped}
use Rattle.limits.specs.Limits.{unit}

-- what a step of a domain makes of the list
abbrev pub written : List DomainView → ℕ → DomainStep → WorldStep
written ds k made = record { domains = slice_set ds k made.domain; outcome = made.outcome }

pub at_domain_is : (ds : List DomainView) (k : ℕ) (d : DomainView) (rule : DomainView → DomainStep) → k < length ds → d ≡ get_or ds k d → at_domain ds k rule ≡ written ds k (rule d)
at_domain_is ds k d rule within is = ap (at_found ds k rule) (slice_get-get_or ds k d within ∙ ap Some (sym is))

-- the home of a ticket, where it was found in another name of the list
pub at_home_is : (id : ℕ) (rule : DomainView → DomainStep) (ds seen : List DomainView) (k : ℕ) (d : DomainView) → seen ≡ ds → Some k ≡ position (is_live_in id) seen → k < length seen → d ≡ get_or ds k d → at_home ds id rule ≡ written ds k (rule d)
at_home_is id rule ds seen k d same found within here =
    ap (at_place ds rule) (ap (position (is_live_in id)) (sym same) ∙ sym found)
    ∙ at_domain_is ds k d rule (subst (λ (xs : List DomainView). k < length xs) same within) here

pub at_no_home : (id : ℕ) (rule : DomainView → DomainStep) (ds seen : List DomainView) → seen ≡ ds → None ≡ position (is_live_in id) seen → at_home ds id rule ≡ misfit ds
at_no_home id rule ds seen same none = ap (at_place ds rule) (ap (position (is_live_in id)) (sym same) ∙ sym none)

-- what the domain tells of its step, told of the whole
pub outcome_told : (r : Result Outcome NoMemory) (ds : List DomainView) (k : ℕ) (made : DomainStep) (w : WorldStep) → w ≡ written ds k made → IfOk r (λ o. o ≡ made.outcome) → IfOk r (λ o. o ≡ w.outcome)
outcome_told r ds k made w is told = subst (λ (v : WorldStep). IfOk r (λ o. o ≡ v.outcome)) (sym is) told

pub domains_told : (r : Result Outcome NoMemory) (ds : List DomainView) (k : ℕ) (new : DomainView) (made : DomainStep) (w : WorldStep) → w ≡ written ds k made → OnOk r (new ≡ made.domain) → OnOk r (slice_set ds k new ≡ w.domains)
domains_told r ds k new made w is told = on_ok_weaker r (λ (e : new ≡ made.domain). ap (slice_set ds k) e ∙ ap (λ (v : WorldStep). v.domains) (sym is)) told

pub kept_on_err : (r : Result Outcome NoMemory) (ds : List DomainView) (k : ℕ) (d new : DomainView) → d ≡ get_or ds k d → OnErr r (new ≡ d) → OnErr r (slice_set ds k new ≡ ds)
kept_on_err r ds k d new is told = on_err_weaker r (λ (e : new ≡ d). ap (slice_set ds k) (e ∙ is) ∙ set-get_or ds k d) told

pub would_do : (r : Result Outcome NoMemory) (o : Outcome) (ds : List DomainView) (k : ℕ) (made : DomainStep) (w : WorldStep) → w ≡ written ds k made → OnErr r (made.outcome ≡ o) → OnErr r (w.outcome ≡ o)
would_do r o ds k made w is told = on_err_weaker r (λ (e : made.outcome ≡ o). ap (λ (v : WorldStep). v.outcome) is ∙ e) told

-- a ticket that may be taken
pub take_is : (ds seen : List DomainView) (k id bw : ℕ) (expected : Word) (d : DomainView) (live : Bool) → bw ≤ unit → seen ≡ ds → live ≡ is_live id seen → live ≡ false → k < length ds → d ≡ get_or ds k d → stepped (Take id k bw expected) ds ≡ written ds k (taken id bw expected d)
take_is ds seen k id bw expected d live few same told fresh_id within here =
    let fresh : is_live id ds ≡ false = ap (is_live id) (sym same) ∙ sym told ∙ fresh_id in
    let small : nat_le bw unit ≡ true = grind (arith, nat_tests) in
    rw small (rw fresh (at_domain_is ds k d (taken id bw expected) within here))

-- a cap that a word may carry
pub limit_is : (ds : List DomainView) (k cap : ℕ) (expected : Word) (d : DomainView) → cap ≤ 2 ^ 26 → k < length ds → d ≡ get_or ds k d → stepped (Limit k cap expected) ds ≡ written ds k (limited cap expected d)
limit_is ds k cap expected d few within here =
    let small : nat_le cap (2 ^ 26) ≡ true = grind (arith, nat_tests) in
    rw small (at_domain_is ds k d (limited cap expected) within here)
