use Rattle.session.proofs.Sighted.{one_sees_all}
use Rattle.session.proofs.seen.one_client_sees_all.Goals as goal

pub returns : goal.returns
returns c = record { law = one_sees_all }
