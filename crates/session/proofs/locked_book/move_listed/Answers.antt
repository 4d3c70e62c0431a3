use Rattle.domain_run.specs.declared.call.Call.TheVariants as calls
use Rattle.domain_run.specs.declared.call.Reply.TheVariants as replies
use Rattle.call_book.specs.MoveAnswers.{arrival}
use Rattle.session.specs.declared.refusal.Refusal.TheVariants as refusals
use Rattle.session.proofs.Moved.{entered_named, stays_named, was_changed, no_room, no_place, moved_by, refused_by}
use Rattle.session.proofs.Sighted.{would_reply}
use Rattle.session.proofs.locked_book.move_listed.Goals as goal

pub returns-in-Moved-clause-from : goal.returns-in-Moved-clause-from
returns-in-Moved-clause-from g c = entered_named g.N.Names.id g.row.D _ _ _ _ _ _ c.requires.from c.in-Moved.ensures.left

pub returns-in-Moved-clause-to : goal.returns-in-Moved-clause-to
returns-in-Moved-clause-to g c = entered_named g.N.Names.id g.row.E _ _ _ _ _ _ c.requires.to c.in-Moved.ensures.came

pub returns-in-Moved-clause-answered : goal.returns-in-Moved-clause-answered
returns-in-Moved-clause-answered g c =
    moved_by g.N.Names.id g.row.D g.row.E _ _ c.args.prepared c.args.ticket c.in-Moved.ticket c.give.result c.requires.from c.requires.to c.requires.from_seen c.requires.to_seen c.in-Moved.ensures c.give.ensures

pub returns-in-Full-clause-from : goal.returns-in-Full-clause-from
returns-in-Full-clause-from g c = stays_named g.N.Names.id g.row.D _ _ _ _ c.requires.from c.in-Full.ensures.0.from

pub returns-in-Full-clause-to : goal.returns-in-Full-clause-to
returns-in-Full-clause-to g c = stays_named g.N.Names.id g.row.E _ _ _ _ c.requires.to c.in-Full.ensures.0.to

pub returns-in-Full-clause-answered : goal.returns-in-Full-clause-answered
returns-in-Full-clause-answered g c =
    refused_by g.N.Names.id g.row.D g.row.E _ _ c.args.prepared c.in-Full.prepared c.args.ticket c.in-Full.ticket c.give_back.result refusals.Full c.in-Full.ensures.0 c.give_back.ensures
    (no_place g.N.Names.id g.row.D g.row.E (record { from = c.args.from.now; out = c.args.from_pass.now; to = c.args.to.now; into = c.args.to_pass.now }) c.args.prepared c.requires.from c.requires.to c.requires.from_seen c.requires.to_seen c.in-Full.ensures.1)

pub returns-in-NotListed-clause-from : goal.returns-in-NotListed-clause-from
returns-in-NotListed-clause-from g c = stays_named g.N.Names.id g.row.D _ _ _ _ c.requires.from c.in-NotListed.ensures.0.from

pub returns-in-NotListed-clause-to : goal.returns-in-NotListed-clause-to
returns-in-NotListed-clause-to g c = stays_named g.N.Names.id g.row.E _ _ _ _ c.requires.to c.in-NotListed.ensures.0.to

pub returns-in-NotListed-clause-answered : goal.returns-in-NotListed-clause-answered
returns-in-NotListed-clause-answered g c =
    refused_by g.N.Names.id g.row.D g.row.E _ _ c.args.prepared c.in-NotListed.prepared c.args.ticket c.in-NotListed.ticket c.give_back-in-NotListed.result refusals.Esrch c.in-NotListed.ensures.0 c.give_back-in-NotListed.ensures
    (would_reply g.N.Names.id g.row.D c.args.from.now c.args.from_pass.now (calls.Depart c.args.prepared.number) replies.NotListed c.requires.from c.requires.from_seen c.in-NotListed.ensures.2)

pub returns-in-NotListed-clause-logged : goal.returns-in-NotListed-clause-logged
returns-in-NotListed-clause-logged g c = (c.in-NotListed.ensures.1, c.in-NotListed.ensures.2)

pub returns-in-Stale-clause-from : goal.returns-in-Stale-clause-from
returns-in-Stale-clause-from g c = stays_named g.N.Names.id g.row.D _ _ _ _ c.requires.from c.in-Stale.ensures.0.from

pub returns-in-Stale-clause-to : goal.returns-in-Stale-clause-to
returns-in-Stale-clause-to g c = stays_named g.N.Names.id g.row.E _ _ _ _ c.requires.to c.in-Stale.ensures.0.to

pub returns-in-Stale-clause-answered : goal.returns-in-Stale-clause-answered
returns-in-Stale-clause-answered g c =
    refused_by g.N.Names.id g.row.D g.row.E _ _ c.args.prepared c.in-Stale.prepared c.args.ticket c.in-Stale.ticket c.give_back-in-Stale.result (refusals.Stale c.in-Stale.now) c.in-Stale.ensures.0 c.give_back-in-Stale.ensures
    (was_changed g.N.Names.id g.row.D c.args.from.now c.args.from_pass.now c.args.prepared c.in-Stale.now c.requires.from c.requires.from_seen c.in-Stale.ensures.2)

pub returns-in-Stale-clause-logged : goal.returns-in-Stale-clause-logged
returns-in-Stale-clause-logged g c = (c.in-Stale.ensures.1, c.in-Stale.ensures.2)

pub returns-in-Twice-clause-from : goal.returns-in-Twice-clause-from
returns-in-Twice-clause-from g c = stays_named g.N.Names.id g.row.D _ _ _ _ c.requires.from c.in-Twice.ensures.0.from

pub returns-in-Twice-clause-to : goal.returns-in-Twice-clause-to
returns-in-Twice-clause-to g c = stays_named g.N.Names.id g.row.E _ _ _ _ c.requires.to c.in-Twice.ensures.0.to

pub returns-in-Twice-clause-answered : goal.returns-in-Twice-clause-answered
returns-in-Twice-clause-answered g c =
    refused_by g.N.Names.id g.row.D g.row.E _ _ c.args.prepared c.in-Twice.prepared c.args.ticket c.in-Twice.ticket c.give_back-in-Twice.result refusals.Twice c.in-Twice.ensures.0 c.give_back-in-Twice.ensures
    (would_reply g.N.Names.id g.row.E c.args.to.now c.args.to_pass.now (arrival c.args.prepared) replies.Twice c.requires.to c.requires.to_seen c.in-Twice.ensures.3)

pub returns-in-Twice-clause-logged : goal.returns-in-Twice-clause-logged
returns-in-Twice-clause-logged g c = (c.in-Twice.ensures.1, c.in-Twice.ensures.2, c.in-Twice.ensures.3)

pub returns-in-Busy-clause-from : goal.returns-in-Busy-clause-from
returns-in-Busy-clause-from g c = stays_named g.N.Names.id g.row.D _ _ _ _ c.requires.from c.in-Busy.ensures.0.from

pub returns-in-Busy-clause-to : goal.returns-in-Busy-clause-to
returns-in-Busy-clause-to g c = stays_named g.N.Names.id g.row.E _ _ _ _ c.requires.to c.in-Busy.ensures.0.to

pub returns-in-Busy-clause-answered : goal.returns-in-Busy-clause-answered
returns-in-Busy-clause-answered g c =
    refused_by g.N.Names.id g.row.D g.row.E _ _ c.args.prepared c.in-Busy.prepared c.args.ticket c.in-Busy.ticket c.give_back-in-Busy.result (refusals.Busy c.in-Busy.seen) c.in-Busy.ensures.0 c.give_back-in-Busy.ensures
    (no_room g.N.Names.id g.row.E c.args.to.now c.args.to_pass.now c.args.prepared c.in-Busy.seen c.requires.to c.requires.to_seen c.in-Busy.ensures.3)

pub returns-in-Busy-clause-logged : goal.returns-in-Busy-clause-logged
returns-in-Busy-clause-logged g c = (c.in-Busy.ensures.1, c.in-Busy.ensures.2, c.in-Busy.ensures.3)
