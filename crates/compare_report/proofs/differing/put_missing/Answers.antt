use Rattle.draft.proofs.CallerLemmas.{joined3}
use Rattle.compare_report.proofs.differing.put_missing.Goals as goal

pub returns : goal.returns
returns c =
    joined3 c.args.out.now c.put.new.self c.put_place.new.out c.put_nearest.new.out _ _ _
    c.put.ensures c.put_place.ensures c.put_nearest.ensures
