use Rattle.std.proofs.Common.{refl}
use Rattle.session.proofs.Opening.{is_client, is_new}
use Rattle.session.proofs.client.Client.new.Goals as goal

pub invariant_of-result : goal.invariant_of-result
invariant_of-result g c = is_client g.N.Names.id c.args.number c.args.hand c.requires.session c.requires.member c.requires.hand

pub returns : goal.returns
returns g c = record { numbered = refl; passes = is_new g.N.Names.id c.args.number c.args.hand c.requires.session c.requires.hand }
