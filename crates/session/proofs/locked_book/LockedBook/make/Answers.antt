use Rattle.std.proofs.Common.{subst, sym}
use Rattle.pass_seats.specs.Lists.{PassView}
use Rattle.calls_text.specs.declared.section.Entry.{Entry}
use Rattle.session.specs.private.Entering.{IsSessionBook, part_with, IsSeenBook, WasSeenFor}
use Rattle.session.proofs.Sighted.{seen_as}
use Rattle.session.proofs.Replied.{same_named}
use Rattle.session.proofs.locked_book.LockedBook.make.Goals as goal

pub invariant_of-self : goal.invariant_of-self
invariant_of-self g c = record {
  named = same_named _ _ _ _ c.make_seen.ensures.same
      (subst (IsSessionBook g.N.Names.id g.row.D) (sym c.agree.ensures.book)
      (subst (IsSessionBook g.N.Names.id g.row.D) (sym c.deref_mut-domain.ensures.value) c.args.self.now.named));
}

pub make_seen-requires-clause-named : goal.make_seen-requires-clause-named
make_seen-requires-clause-named g c =
    subst (IsSessionBook g.N.Names.id g.row.D) (sym c.agree.ensures.book)
    (subst (IsSessionBook g.N.Names.id g.row.D) (sym c.deref_mut-domain.ensures.value) c.args.self.now.named)

pub make_seen-requires-clause-seen : goal.make_seen-requires-clause-seen
make_seen-requires-clause-seen g c = record { history = c.agree.ensures.history; own = c.agree.ensures.own }

pub returns-clause-seen : goal.returns-clause-seen
returns-clause-seen g c =
    let id = g.N.Names.id in
    let d = g.row.D in
    let named = subst (IsSessionBook id d) (sym c.agree.ensures.book) (subst (IsSessionBook id d) (sym c.deref_mut-domain.ensures.value) c.args.self.now.named) in
    let shown : IsSeenBook c.agree.new.self c.agree.new.pass = record { history = c.agree.ensures.history; own = c.agree.ensures.own } in
    subst (λ (p : PassView Entry). WasSeenFor id d (part_with p) c.args.ask c.make_seen.result.answer) c.agree.ensures.pass
    (seen_as id d c.agree.new.self c.agree.new.pass c.args.ask c.make_seen.result.answer named shown c.make_seen.ensures.logged)
