use Rattle.std.proofs.Common.{Err, sym, subst}
use Rattle.session.specs.declared.refusal.Refusal.TheVariants as refusals
use Rattle.session.specs.Seen.{EntryWasSeen}
use Rattle.session.specs.Asks.{ClientView, admit_call, part_in}
use Rattle.session.proofs.client.Client.admit_at.Goals as goal

pub returns-in-Some-clause-seen : goal.returns-in-Some-clause-seen
returns-in-Some-clause-seen g c =
    subst (λ (v : ClientView). EntryWasSeen g.N.Names.id c.args.place (part_in v c.args.place) (admit_call c.args.task.now) c.admit_with.result c.admit_with.new.self.hand) c.find_blank.ensures.same
    c.admit_with.ensures.seen

pub returns-in-None-clause-seen : goal.returns-in-None-clause-seen
returns-in-None-clause-seen g c =
    subst (λ (v : ClientView). EntryWasSeen g.N.Names.id c.args.place (part_in c.args.self.now c.args.place) (admit_call c.args.task.now) (Err refusals.Full) v.hand) (sym c.find_blank.ensures.same) tt
