use Rattle.std.proofs.Common.{refl, arith}
use Rattle.dl_session.proofs.PlayedRuns.{played_named}
use Rattle.dl_session.proofs.EventRuns.{history_tellable, history_logged}
use Rattle.dl_session.proofs.played.PlayedRun.of.Goals as goal

pub invariant_of-result : goal.invariant_of-result
invariant_of-result c = record {
  inside = omega (arith, c.cpus.ensures.same, c.requires.inside);
  named = played_named c.args.book c.args.names c.state.ensures.leads c.requires.named;
  tellable = history_tellable c.args.book c.args.base c.args.names c.state.ensures.domain c.requires.unlogged c.requires.has_logged c.requires.section c.requires.named c.requires.inside;
}

pub returns-clause-logged : goal.returns-clause-logged
returns-clause-logged c = history_logged c.args.book c.args.base c.args.names _ refl c.requires.unlogged c.requires.has_logged c.requires.named
