use Rattle.std.proofs.Common.{◌≡◌, ◌≢◌, ◌<◌, ◌+◌, ◌*◌, ◌∙◌, ℕ, inl, inr, get_or, set, sym, ap, subst, arith}
use Rattle.std.specs.Int.{bit_at}
use Rattle.std.proofs.lemmas.Bool.{cases_eq}
use Rattle.std.proofs.lemmas.List.{get_or-set_same, get_or-set_other, length-set}
use Rattle.std.proofs.lemmas.Nat.Bits.{bit_at-zero}
use Rattle.edf_pick.specs.declared.candidate.Candidate.{Candidate}
use Rattle.edf_pick.specs.private.RunningSet.{bare_key, IsLatest}
use Rattle.edf_pick.proofs.running.look_anew.Goals as goal

pub groups-preserved : goal.groups-preserved
groups-preserved c =
    let keys = c.args.keys.now in
    let most = c.groups.most in
    let i = c.first-g.result in
    let r = c.latest_of_eight.result in
    let inv = c.groups.invariant in
    let within : i < 8 = inv.inside i c.first-g.ensures.marked in
    let left = c.without-left.result in
    record {
      eight = length-set most i r ∙ inv.eight;
      inside = λ g e.
          let apart : g ≢ i = λ same. let both : bit_at left g ≡ 0 = ap (bit_at left) same ∙ c.without-left.ensures.bare in omega (arith, e, both) in
          inv.inside g (sym (c.without-left.ensures.others g apart) ∙ e);
      known = λ g h e. elim (cases_eq g i) [
        | inl same ↦
            let at : get_or (set most i r) g bare_key ≡ r = ap (λ (k : ℕ). get_or (set most i r) k bare_key) same ∙ get_or-set_same most i r bare_key (omega (arith, within, inv.eight)) in
            subst (λ (d : Candidate). IsLatest keys (8 * g) (8 * g + 8) d) (sym at) (subst (λ (k : ℕ). IsLatest keys (8 * k) (8 * k + 8) r) (sym same) c.latest_of_eight.ensures)
        | inr apart ↦ subst (λ (d : Candidate). IsLatest keys (8 * g) (8 * g + 8) d) (sym (get_or-set_other most i g r bare_key apart)) (inv.known g h (sym (c.without-left.ensures.others g apart) ∙ e))
      ];
    }

pub returns : goal.returns
returns c = λ g h. c.groups.invariant.known g h (ap (λ (m : ℕ). bit_at m g) c.groups-test.false ∙ bit_at-zero g)
