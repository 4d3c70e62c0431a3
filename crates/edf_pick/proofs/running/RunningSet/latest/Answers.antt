use Rattle.std.proofs.Common.{◌≡◌, ◌∙◌, List, Option, None, false, get_or, sym, ap, subst, arith}
use Rattle.std.specs.Prelude.{All}
use Rattle.std.proofs.lemmas.Nat.Bits.{bit_at-zero}
use Rattle.edf_pick.specs.declared.candidate.Candidate.{Candidate}
use Rattle.edf_pick.specs.Choice.{is_before}
use Rattle.edf_pick.specs.private.Ready.{all_held}
use Rattle.edf_pick.proofs.Stays.{latest_bound, latest_at, held_bound, latest_stays}
use Rattle.edf_pick.proofs.running.RunningSet.latest.Goals as goal

pub invariant_of-self : goal.invariant_of-self
invariant_of-self c =
    let s = c.self.inside in
    let inv = c.self.invariant in
    record {
      few = inv.few;
      full = inv.full;
      eight = omega arith;
      many = inv.many;
      within = inv.within;
      home = inv.home;
      bare = inv.bare;
      groups = λ g e. let none = bit_at-zero g in absurd (omega (arith, e, none));
      known = λ g h e. c.look_anew.ensures g h;
      last = latest_bound s.keys c.look_anew.new.most c.latest_of_eight-latest.result inv.full c.look_anew.ensures c.latest_of_eight-latest.ensures;
    }

pub returns-clause-bound : goal.returns-clause-bound
returns-clause-bound c =
    let s = c.self.inside in
    let inv = c.self.invariant in
    let last = c.latest_of_eight-latest.result in
    subst (λ (stays : List (Option Candidate)). All (λ a. is_before last a ≡ false) (all_held stays)) c.self.view_is
    (held_bound s.marks s.cpus s.keys last inv.full inv.few inv.within (latest_bound s.keys c.look_anew.new.most last inv.full c.look_anew.ensures c.latest_of_eight-latest.ensures))

pub returns-clause-there : goal.returns-clause-there
returns-clause-there c = λ one before.
    let s = c.self.inside in
    let last = c.latest_of_eight-latest.result in
    ap (λ (stays : List (Option Candidate)). get_or stays last.home None) (sym c.self.view_is)
    ∙ latest_stays s.cpus s.busy s.marks s.unknown s.keys s.most s.top one last c.self.invariant before (latest_at s.keys c.look_anew.new.most last c.look_anew.ensures c.latest_of_eight-latest.ensures)
