use Rattle.std.proofs.Common.{◌≡◌, Bool, true, false, not, refl, sym, subst}
use Rattle.std.specs.Prelude.{All, IsTrue}
use Rattle.domain_run.specs.Domain.{Domain}
use Rattle.domain_run.specs.private.DeferringTimers.{IsBare, IsWithoutLag}
use Rattle.domain_run.proofs.Deferring.{all_plain}
use Rattle.domain_run.proofs.state.State.all_stay.Goals as goal

negated : (b : Bool) → IsTrue (not b) → b ≡ false
negated true h = absurd cc
negated false h = refl

pub returns : goal.returns
returns c h =
    let s = c.self.inside in
    subst (λ (d : Domain). All IsWithoutLag d.tasks) c.self.view_is
    (all_plain s.task_table.tasks (subst (λ (d : Domain). All IsBare d.tasks) (sym c.self.view_is) c.requires.bare) (c.may_be_due.ensures (negated c.may_be_due.result h)))
