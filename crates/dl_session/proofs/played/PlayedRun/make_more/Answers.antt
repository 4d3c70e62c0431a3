use Rattle.std.proofs.Common.{arith}
use Rattle.dl_session.proofs.PlayedRuns.{further_cpus, further_named}
use Rattle.dl_session.proofs.EventRuns.{further_tellable}
use Rattle.dl_session.proofs.played.PlayedRun.make_more.Goals as goal

pub invariant_of-self : goal.invariant_of-self
invariant_of-self c =
    let p = c.args.self.now in
    let further = c.fill.ensures.further in
    record {
      inside = omega (arith, further_cpus p.book c.fill.new.self further, p.inside);
      named = further_named p.book c.fill.new.self p.names further p.named;
      tellable = further_tellable p.base p.names p.book c.fill.new.self further c.fill.ensures.logged p.tellable;
    }
