use Rattle.bw_world.proofs.WorldLaw.{exact_either_way}
use Rattle.bw_world.proofs.world.World.apply.Goals as goal

pub invariant_of-self : goal.invariant_of-self
invariant_of-self c = exact_either_way c.apply.result c.args.step c.self.inside.domains.items c.apply.new.domains.items c.self.invariant c.apply.ensures.domains c.apply.ensures.err

pub returns-clause-exact : goal.returns-clause-exact
returns-clause-exact c = exact_either_way c.apply.result c.args.step c.self.inside.domains.items c.apply.new.domains.items c.self.invariant c.apply.ensures.domains c.apply.ensures.err
