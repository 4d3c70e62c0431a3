use Rattle.std.proofs.Common.{◌≡◌, ◌<◌, ◌∙◌, Ok, get_or, length, refl, sym, ap, subst, arith}
use Rattle.pass_seats.specs.Lists.{PassView}
use Rattle.calls_text.specs.declared.section.Entry.{Entry}
use Rattle.domain_run.specs.declared.call.Call.TheVariants.{Advance}
use Rattle.domain_run.specs.declared.call.Reply.TheVariants as replies
use Rattle.session.specs.Asks.{ClientView}
use Rattle.session.specs.private.Entering.{pass_after}
use Rattle.session.proofs.Asked.{makes_at}
use Rattle.session.proofs.Begun.{ok_so, both_ok, unlogged_still, logs_end}
use Rattle.session.proofs.client.Client.begin_book.Goals as goal

pub returns-clause-made : goal.returns-clause-made
returns-clause-made g c =
    let ps = c.self.inside.passes.items in
    let p = c.index_mut.result.now in
    let q = c.begin_advance.new.pass in
    let d = c.args.place in
    let n = c.args.ticks in
    let inside : d < length ps = omega (arith, c.requires.named.place, c.self.invariant.count) in
    let owner : (get_or ps d p).client ≡ c.args.self.now.number = (c.self.invariant.each d p inside).owner ∙ ap (λ (v : ClientView). v.number) c.self.view_is in
    ok_so c.begin_advance.result _ _ c.begin_advance.ensures.entered (λ is.
    makes_at c.args.self.now _ ps d p q (Advance n) (Ok (replies.Done n)) (sym (ap (λ (v : ClientView). v.passes) c.self.view_is)) refl (ap (λ (v : ClientView). v.number) c.self.view_is) inside owner
    (subst (λ (r : PassView Entry). q ≡ pass_after r (Advance n) (Ok (replies.Done n))) c.index_mut.ensures.value is.entered.pass))

pub returns-clause-unlogged : goal.returns-clause-unlogged
returns-clause-unlogged g c = λ logs was.
    unlogged_still c.begin_advance.result c.args.book.now c.begin_advance.new.self c.begin_advance.new.self.book c.args.ticks logs c.begin_advance.ensures.left c.begin_advance.ensures.same was

pub returns-clause-has_logged : goal.returns-clause-has_logged
returns-clause-has_logged g c =
    let logged = c.begin_advance.ensures in
    both_ok c.begin_advance.result _ _ _ logged.entered logged.left (λ entered left whole.
    logs_end c.args.book.now c.begin_advance.new.self c.index_mut.result.now c.begin_advance.new.pass c.args.ticks (c.state.ensures.run c.requires.made whole) entered left)
