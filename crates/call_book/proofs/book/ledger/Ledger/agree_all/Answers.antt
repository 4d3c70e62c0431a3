-- Terms stand here in place of searches, which take seconds.
use Rattle.std.proofs.Common.{◌≡◌, Some, All, refl, sym, ap, ◌∙◌, subst}
use Rattle.std.proofs.lemmas.List.Elements.{All-pop, All-push}
use Rattle.pass_seats.specs.Lists.{PassView}
use Rattle.calls_text.specs.declared.section.Entry.{Entry}
use Rattle.call_book.specs.Book.{own_entries}
use Rattle.call_book.specs.private.Ledger.{LedgerView}
use Rattle.call_book.proofs.book.ledger.Ledger.agree_all.Goals as goal

pub loop-pass-init : goal.loop-pass-init
loop-pass-init c = record { ledger = refl; passes = c.requires; own = λ h. h }

pub agree-requires : goal.agree-requires
agree-requires c =
    let inv = c.loop-pass.invariant in
    let spine = c.args.self.now.spine in
    let here = (All-pop (λ (p : PassView Entry). p.spine ≡ spine) c.loop-pass.passes.items c.pop.new.self.items (Some c.in-Some.pass) c.in-Some.ensures.items inv.passes).1 in
    here ∙ ap (λ (l : LedgerView). l.spine) (sym inv.ledger)

pub loop-pass-preserved : goal.loop-pass-preserved
loop-pass-preserved c =
    let inv = c.loop-pass.invariant in
    let before = c.args.self.now in
    let rest = c.pop.new.self.items in
    let pass = c.in-Some.pass in
    let same : c.agree.new.self ≡ before = c.agree.ensures.ledger ∙ inv.ledger in
    let is_own : PassView Entry → Type 0 = λ p. p.entries ≡ own_entries p.client before.history in
    let own : is_own pass = subst is_own c.agree.ensures.pass (c.agree.ensures.own ∙ ap (λ (l : LedgerView). own_entries c.agree.new.pass.client l.history) same) in
    record {
      ledger = same;
      passes = (All-pop (λ (p : PassView Entry). p.spine ≡ before.spine) c.loop-pass.passes.items rest (Some pass) c.in-Some.ensures.items inv.passes).0;
      own = λ others. inv.own (subst (All is_own) (sym c.in-Some.ensures.items) (All-push is_own rest pass others own));
    }
