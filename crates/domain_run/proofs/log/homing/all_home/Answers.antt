use Rattle.domain_run.specs.Happened.{with_its_cpu}
use Rattle.domain_run.proofs.Logging.{map_written}
use Rattle.domain_run.proofs.log.homing.all_home.Goals as goal

pub loop-one-preserved : goal.loop-one-preserved
loop-one-preserved c =
    let l = c.loop-one in
    map_written (with_its_cpu c.args.places.now) c.args.logged.now l.logged l.one-index _ _ c.loop-one-test.true l.auto.logged l.invariant c.at_home.ensures
