-- A share that belongs to another CPU, in sums that are changed one after the other.
use Rattle.std.proofs.Common.{◌≡◌, ℕ, ◌+◌, ◌-◌, ◌^◌, ◌<◌, ◌≤◌, Bool, true, false, cond, eqb, ◌&&◌, List, [], ◌∷◌, length, refl, ap, subst, ◌∙◌, arith}
use Rattle.std.proofs.lemmas.Bool.{eqb-true}
use Rattle.std.specs.Prelude.{slice_index, sum}
use Rattle.std.proofs.lemmas.List.Sums.{get_or-le-sum_by}
use Rattle.grub_rules.specs.Sums.{Share, this_bw, running_bw}
use Rattle.grub_rules.specs.Accounts.{AccountsView, Exchanges, Holds}
use Rattle.grub_rules.proofs.CallerLemmas.{this_bw-one, running_bw-one}

active_alone : (here active : Bool) (bw : ℕ) → active ≡ true → cond (here && active) bw 0 ≡ cond here bw 0
active_alone here true bw e = active_here here bw
  where
    active_here : (here : Bool) (bw : ℕ) → cond (here && true) bw 0 ≡ cond here bw 0
    active_here true bw = refl
    active_here false bw = refl
active_alone here false bw e = absurd cc

inactive_alone : (here active : Bool) (bw : ℕ) → active ≡ false → cond (here && active) bw 0 ≡ 0
inactive_alone true true bw e = absurd cc
inactive_alone true false bw e = refl
inactive_alone false active bw e = refl

pub this_shifted : (s t : Share) (old mid new : List ℕ) → t.bw ≡ s.bw
    → ((at : ℕ) → slice_index mid at + cond (eqb s.cpu at) s.bw 0 ≡ slice_index old at)
    → ((at : ℕ) → slice_index new at ≡ slice_index mid at + cond (eqb t.cpu at) s.bw 0)
    → (cpu : ℕ) → slice_index new cpu + this_bw cpu (s ∷ []) ≡ slice_index old cpu + this_bw cpu (t ∷ [])
this_shifted s t old mid new same less more cpu =
    let there : this_bw cpu (t ∷ []) ≡ cond (eqb t.cpu cpu) s.bw 0 = this_bw-one cpu t ∙ ap (λ n. cond (eqb t.cpu cpu) n 0) same in
    omega (arith, this_bw-one cpu s, there, less cpu, more cpu)

pub running_shifted : (s t : Share) (old mid new : List ℕ) → t.bw ≡ s.bw → s.active ≡ true → t.active ≡ true
    → ((at : ℕ) → slice_index mid at + cond (eqb s.cpu at) s.bw 0 ≡ slice_index old at)
    → ((at : ℕ) → slice_index new at ≡ slice_index mid at + cond (eqb t.cpu at) s.bw 0)
    → (cpu : ℕ) → slice_index new cpu + running_bw cpu (s ∷ []) ≡ slice_index old cpu + running_bw cpu (t ∷ [])
running_shifted s t old mid new same was is less more cpu =
    let here : running_bw cpu (s ∷ []) ≡ cond (eqb s.cpu cpu) s.bw 0 = running_bw-one cpu s ∙ active_alone (eqb s.cpu cpu) s.active s.bw was in
    let there : running_bw cpu (t ∷ []) ≡ cond (eqb t.cpu cpu) s.bw 0 = running_bw-one cpu t ∙ active_alone (eqb t.cpu cpu) t.active t.bw is ∙ ap (λ n. cond (eqb t.cpu cpu) n 0) same in
    omega (arith, here, there, less cpu, more cpu)

-- sums of active tasks stay, where the share is not active
pub running_stays : (s t : Share) (sums : List ℕ) → s.active ≡ false → t.active ≡ false
    → (cpu : ℕ) → slice_index sums cpu + running_bw cpu (s ∷ []) ≡ slice_index sums cpu + running_bw cpu (t ∷ [])
running_stays s t sums was is cpu =
    let here : running_bw cpu (s ∷ []) ≡ 0 = running_bw-one cpu s ∙ inactive_alone (eqb s.cpu cpu) s.active s.bw was in
    let there : running_bw cpu (t ∷ []) ≡ 0 = running_bw-one cpu t ∙ inactive_alone (eqb t.cpu cpu) t.active t.bw is in
    omega (arith, here, there)

-- a share that is held is no more than all of its CPU
pub held_of_all : (active : Bool) (bw act all : ℕ) → act ≤ all → bw ≤ cond active act (all - act) → bw ≤ all
held_of_all true bw act all within h = omega arith
held_of_all false bw act all within h = omega arith

pub held_active : (active : Bool) (bw act rest : ℕ) → active ≡ true → bw ≤ cond active act rest → bw ≤ act
held_active true bw act rest is h = h
held_active false bw act rest is h = absurd cc

held_inactive : (active : Bool) (bw act rest : ℕ) → active ≡ false → bw ≤ cond active act rest → bw ≤ rest
held_inactive true bw act rest is h = absurd cc
held_inactive false bw act rest is h = h

-- the active tasks of a CPU stay within all of it, where an inactive one goes
left_within : (here : Bool) (bw act all mid : ℕ) → mid + cond here bw 0 ≡ all → act ≤ all → (here ≡ true → bw ≤ all - act) → act ≤ mid
left_within true bw act all mid e within h = let most = h refl in omega arith
left_within false bw act all mid e within h = omega arith

pub still_within : (a : AccountsView) (s : Share) (mid new cpu more : ℕ) → Holds a s → s.active ≡ false → slice_index a.active cpu ≤ slice_index a.all cpu
    → mid + cond (eqb s.cpu cpu) s.bw 0 ≡ slice_index a.all cpu → new ≡ mid + more → slice_index a.active cpu ≤ new
still_within a s mid new cpu more held is within less then =
    let most : eqb s.cpu cpu ≡ true → s.bw ≤ slice_index a.all cpu - slice_index a.active cpu =
    λ e. subst (λ (k : ℕ). s.bw ≤ slice_index a.all k - slice_index a.active k) (eqb-true s.cpu cpu e) (held_inactive s.active s.bw (slice_index a.active s.cpu) (slice_index a.all s.cpu - slice_index a.active s.cpu) is held.bw) in
    let rest = left_within (eqb s.cpu cpu) s.bw (slice_index a.active cpu) (slice_index a.all cpu) mid less within most in
    omega (arith, rest, then)

-- what is added fits, since all of the sums fit
pub place_fits : (sums : List ℕ) (at bw total : ℕ) → at < length sums → sum sums + bw ≡ total → total < 2 ^ 64 → slice_index sums at + bw < 2 ^ 64
place_fits sums at bw total there e fits = omega (arith, get_or-le-sum_by (λ (n : ℕ). n) sums at 0 there, e, fits)

pub active_fits : (act all mid rest c bw : ℕ) → act ≤ all → mid + c ≡ all → rest + c ≡ act → mid + bw < 2 ^ 64 → rest + bw < 2 ^ 64
active_fits act all mid rest c bw within less gone fits = omega arith

-- some shares go, and then others come
pub both : (a b d : AccountsView) (gone came : List Share) → Exchanges a b gone [] → Exchanges b d [] came → Exchanges a d gone came
both a b d gone came first then = record {
  cpus = then.cpus ∙ first.cpus;
  all = λ cpu. omega (arith, first.all cpu, then.all cpu);
  active = λ cpu. omega (arith, first.active cpu, then.active cpu);
  total = omega (arith, first.total, then.total);
}

pub same_share : (s t : Share) → s.cpu ≡ t.cpu → s.bw ≡ t.bw → s.active ≡ t.active → s ≡ t
same_share s t cpu bw active =
    let made : ℕ → ℕ → Bool → Share = λ x y z. record { cpu = x; bw = y; active = z } in
    ap (λ x. made x s.bw s.active) cpu ∙ ap (λ y. made t.cpu y s.active) bw ∙ ap (made t.cpu t.bw) active
