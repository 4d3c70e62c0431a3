use Rattle.run_figures.proofs.Put.{put_more}
use Rattle.run_figures.proofs.summary.all_figures.Goals as goal

pub loop-place-preserved : goal.loop-place-preserved
loop-place-preserved c =
    put_more c.args.end c.args.tasks.now c.args.logged.now c.args.ran.now c.loop-place.place _ _ _ c.figures_of.result c.loop-place.all.items c.push.new.self.items c.loop-place-test.true c.requires.logged c.requires.ran
    c.loop-place.invariant c.figures_of.ensures c.in_ok-push.ensures.items
