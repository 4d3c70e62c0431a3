use Rattle.std.proofs.Common.{sym, subst, arith}
use Rattle.dl_session.specs.private.Tellable.{IsTellable}
use Rattle.dl_session.proofs.PlayedRuns.{further_cpus, further_named}
use Rattle.dl_session.proofs.played.PlayedRun.make_logged.Goals as goal

pub invariant_of-self : goal.invariant_of-self
invariant_of-self c =
    let p = c.args.self.now in
    let further = c.fill_logged.ensures.further in
    record {
      inside = omega (arith, further_cpus p.book c.fill_logged.new.self further, p.inside);
      named = further_named p.book c.fill_logged.new.self p.names further p.named;
      tellable = subst (IsTellable p.base p.names) (sym c.fill_logged.ensures.logged) p.tellable;
    }
