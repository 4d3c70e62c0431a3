use Rattle.std.proofs.Common.{◌≡◌, ◌<◌, length, map, set, get_or, Option, Some, sym, ap, subst, ◌∙◌, arith}
use Rattle.std.specs.Prelude.{IfSome}
use Rattle.pass_seats.specs.Lists.{PassView}
use Rattle.bw_gate.specs.Pieces.{BlankView}
use Rattle.calls_text.specs.declared.section.Entry.{Entry}
use Rattle.session.specs.Asks.{ClientView}
use Rattle.session.specs.private.Entering.{pass_after, NoneIsKept, KeepsHand, IsDone}
use Rattle.session.proofs.Asked.{none_kept, done_anyhow, hand_taken, hand_same, makes_at, done_for}
use Rattle.session.proofs.Passes.{done_kept, still_client}
use Rattle.session.proofs.Sighted.{part_at}
use Rattle.session.proofs.client.Client.enter.Goals.{in-Some-blank+in-Some-1, in-Some-blank+in-None-1, in_default-blank}
use Rattle.session.proofs.client.Client.enter.Goals as goal

pub returns : goal.returns
returns g c =
    let ps = c.self.inside.passes.items in
    let p = c.index_mut.result.now in
    let q = c.make-answer.new.pass in
    let left : c.make-answer.result.blank ≡ c.match-blank.self.hand → NoneIsKept c.args.ask c.make-answer.result.answer c.match-blank.self.hand =
    λ is. subst (λ (h : Option BlankView). NoneIsKept c.args.ask c.make-answer.result.answer h) is c.make-answer.ensures.given in
    let passes : (c.match-blank.self).passes ≡ map (λ (r : PassView Entry). r.entries) (set ps g.row.D q) =
    elim c.match-blank.branch [
      | in-Some-blank+in-Some-1 w ↦ ap (λ (v : ClientView). v.passes) w.self-is
      | in-Some-blank+in-None-1 w ↦ ap (λ (v : ClientView). v.passes) w.self-is
      | in_default-blank w ↦ ap (λ (v : ClientView). v.passes) w.self-is
    ] in
    let number : (c.match-blank.self).number ≡ c.args.self.now.number =
    elim c.match-blank.branch [
      | in-Some-blank+in-Some-1 w ↦ ap (λ (v : ClientView). v.number) w.self-is ∙ ap (λ (v : ClientView). v.number) c.self.view_is
      | in-Some-blank+in-None-1 w ↦ ap (λ (v : ClientView). v.number) w.self-is ∙ ap (λ (v : ClientView). v.number) c.self.view_is
      | in_default-blank w ↦ ap (λ (v : ClientView). v.number) w.self-is ∙ ap (λ (v : ClientView). v.number) c.self.view_is
    ] in
    let inside : g.row.D < length ps = omega (arith, c.requires.place, c.self.invariant.count) in
    let at : p ≡ get_or ps g.row.D p = c.index_mut.ensures.value in
    let owner : (get_or ps g.row.D p).client ≡ c.args.self.now.number = (c.self.invariant.each g.row.D p inside).owner ∙ ap (λ (v : ClientView). v.number) c.self.view_is in
    let given : NoneIsKept c.args.ask c.make-answer.result.answer c.match-blank.self.hand =
    elim c.match-blank.branch [
      | in-Some-blank+in-Some-1 w ↦ left (w.in-Some-blank.is ∙ sym (ap (λ (v : ClientView). v.hand) w.self-is))
      | in-Some-blank+in-None-1 w ↦ left (w.in-Some-blank.is ∙ sym (ap (λ (v : ClientView). v.hand) w.self-is))
      | in_default-blank w ↦ none_kept c.args.ask c.make-answer.result.answer c.match-blank.self.hand (subst (λ (h : Option BlankView). NoneIsKept c.args.ask c.make-answer.result.answer h) w.in_default-blank.is c.make-answer.ensures.given)
    ] in
    let moved : c.make-answer.result.blank ≡ c.match-blank.self.hand → IsDone g.N.Names.id g.row.D p q c.args.ask c.make-answer.result.answer c.match-blank.self.hand =
    λ is. subst (λ (h : Option BlankView). IsDone g.N.Names.id g.row.D p q c.args.ask c.make-answer.result.answer h) is c.make-answer.ensures.done in
    let done : IsDone g.N.Names.id g.row.D p q c.args.ask c.make-answer.result.answer c.match-blank.self.hand =
    elim c.match-blank.branch [
      | in-Some-blank+in-Some-1 w ↦ moved (w.in-Some-blank.is ∙ sym (ap (λ (v : ClientView). v.hand) w.self-is))
      | in-Some-blank+in-None-1 w ↦ moved (w.in-Some-blank.is ∙ sym (ap (λ (v : ClientView). v.hand) w.self-is))
      | in_default-blank w ↦ done_anyhow g.N.Names.id g.row.D p q c.args.ask c.make-answer.result.answer c.match-blank.self.hand
          (subst (λ (h : Option BlankView). IsDone g.N.Names.id g.row.D p q c.args.ask c.make-answer.result.answer h) w.in_default-blank.is c.make-answer.ensures.done)
          (subst (λ (h : Option BlankView). NoneIsKept c.args.ask c.make-answer.result.answer h) w.in_default-blank.is c.make-answer.ensures.given)
    ] in
    let keeps : KeepsHand c.args.ask (c.args.self.now).hand c.match-blank.self.hand =
    elim c.match-blank.branch [
      | in-Some-blank+in-Some-1 w ↦ hand_taken c.args.ask c.make-answer.result.blank w.in-Some-blank.blank (c.args.self.now).hand c.match-blank.self.hand c.make-answer.ensures.none w.in-Some-blank.is
      | in-Some-blank+in-None-1 w ↦ hand_taken c.args.ask c.make-answer.result.blank w.in-Some-blank.blank (c.args.self.now).hand c.match-blank.self.hand c.make-answer.ensures.none w.in-Some-blank.is
      | in_default-blank w ↦ hand_same c.args.ask (c.args.self.now).hand c.match-blank.self.hand (ap (λ (v : ClientView). v.hand) w.self-is ∙ ap (λ (v : ClientView). v.hand) c.self.view_is)
    ] in
    done_for g.N.Names.id g.row.D c.args.self.now c.match-blank.self p q c.args.ask c.make-answer.result.answer
    (part_at c.args.self.now ps g.row.D p (sym (ap (λ (v : ClientView). v.passes) c.self.view_is)) inside at owner)
    (λ call a becomes. makes_at c.args.self.now c.match-blank.self ps g.row.D p q call a (sym (ap (λ (v : ClientView). v.passes) c.self.view_is)) passes number inside owner (subst (λ (r : PassView Entry). q ≡ pass_after r call a) at becomes))
    done
    given
    c.make-answer.ensures.seen
    keeps

pub invariant_of-self : goal.invariant_of-self
invariant_of-self g c =
    let id = g.N.Names.id in
    let ps = c.self.inside.passes.items in
    let p = c.index_mut.result.now in
    let q = c.make-answer.new.pass in
    still_client id c.self.inside.number ps c.self.inside.hand (Some c.in-Some-blank.blank) g.row.D p q c.self.invariant (omega (arith, c.requires.place, c.self.invariant.count)) c.index_mut.ensures.value
    (done_kept id g.row.D p q c.args.ask c.make-answer.result.answer c.make-answer.result.blank c.make-answer.ensures.done)
    (subst (λ (o : Option BlankView). IfSome o (λ b. b.gate ≡ id.gate)) c.in-Some-blank.is c.make-answer.ensures.own)

pub invariant_of-self-in-Some-blank-2 : goal.invariant_of-self-in-Some-blank-2
invariant_of-self-in-Some-blank-2 g c =
    let id = g.N.Names.id in
    let ps = c.self.inside.passes.items in
    let p = c.index_mut.result.now in
    let q = c.make-answer.new.pass in
    still_client id c.self.inside.number ps c.self.inside.hand (Some c.in-Some-blank.blank) g.row.D p q c.self.invariant (omega (arith, c.requires.place, c.self.invariant.count)) c.index_mut.ensures.value
    (done_kept id g.row.D p q c.args.ask c.make-answer.result.answer c.make-answer.result.blank c.make-answer.ensures.done)
    (subst (λ (o : Option BlankView). IfSome o (λ b. b.gate ≡ id.gate)) c.in-Some-blank.is c.make-answer.ensures.own)

pub invariant_of-self-in_default-blank : goal.invariant_of-self-in_default-blank
invariant_of-self-in_default-blank g c =
    let id = g.N.Names.id in
    let ps = c.self.inside.passes.items in
    let p = c.index_mut.result.now in
    let q = c.make-answer.new.pass in
    still_client id c.self.inside.number ps c.self.inside.hand c.self.inside.hand g.row.D p q c.self.invariant (omega (arith, c.requires.place, c.self.invariant.count)) c.index_mut.ensures.value
    (done_kept id g.row.D p q c.args.ask c.make-answer.result.answer c.make-answer.result.blank c.make-answer.ensures.done) c.self.invariant.own
