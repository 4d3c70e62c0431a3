use Rattle.std.proofs.Common.{◌≡◌, ℕ, eqb-true, subst, sym}
use Rattle.edf_pick.specs.Places.{AreTaken}
use Rattle.edf_pick.proofs.Settled.{stay_all}
use Rattle.edf_pick.proofs.renew.all_stay.Goals as goal

pub returns : goal.returns
returns c = λ e.
    let same : c.marks.result ≡ c.taken.result = eqb-true c.marks.result c.taken.result e in
    stay_all c.args.running.now c.args.placement.now c.marks.result c.requires.on c.requires.len c.marks.ensures
    (subst (λ (m : ℕ). AreTaken c.args.placement.now m) (sym same) c.taken.ensures)
