use Rattle.std.proofs.Common.{◌≡◌, ◌<◌, List, length, get_or, sym, refl, ap, subst, ◌∙◌, arith}
use Rattle.std.proofs.lemmas.List.{length-map}
use Rattle.std.proofs.Math.Seq.{map-set_same}
use Rattle.pass_seats.specs.Lists.{PassView}
use Rattle.calls_text.specs.declared.section.Entry.{Entry}
use Rattle.call_book.specs.Book.{IsFull}
use Rattle.call_book.specs.BookAnswers.{IsNotAdvanced}
use Rattle.session.specs.Asks.{ClientView}
use Rattle.session.proofs.Advanced.{makes_all, logs_end}
use Rattle.session.proofs.client.Client.advance_book.Goals.{in-Ok-Done, in-Err-Full, in_default, in_default-2, in_default-3}
use Rattle.session.proofs.client.Client.advance_book.Goals as goal

pub returns-clause-domains : goal.returns-clause-domains
returns-clause-domains g c =
    let ps = c.self.inside.passes.items in
    sym (ap (λ (v : ClientView). length v.passes) c.self.view_is) ∙ length-map ps (λ (r : PassView Entry). r.entries) ∙ c.self.invariant.count

pub returns-clause-made : goal.returns-clause-made
returns-clause-made g c =
    let ps = c.self.inside.passes.items in
    let p = c.index_mut.result.now in
    let d = c.args.place in
    let inside : d < length ps = omega (arith, c.requires.named.place, c.self.invariant.count) in
    let owner : (get_or ps d p).client ≡ c.args.self.now.number = (c.self.invariant.each d p inside).owner ∙ ap (λ (v : ClientView). v.number) c.self.view_is in
    elim c.match-advance_logged.branch [
      | in-Ok-Done w ↦ rw w.result-is (makes_all c.args.self.now _ ps d c.args.ticks w.in-Ok-Done.made p c.advance_logged.new.pass c.args.domain.now c.advance_logged.new.self w.in-Ok-Done.field-0
          (sym (ap (λ (v : ClientView). v.passes) c.self.view_is)) refl (ap (λ (v : ClientView). v.number) c.self.view_is) inside c.index_mut.ensures.value owner w.in-Ok-Done.ensures.done w.in-Ok-Done.field-0-is w.if-made-ticks.true)
      | in-Err-Full w ↦ rw w.result-is tt
      | in_default w ↦ rw w.result-is tt
      | in_default-2 w ↦ rw w.result-is tt
      | in_default-3 w ↦ rw w.result-is tt
    ]

pub returns-clause-logged : goal.returns-clause-logged
returns-clause-logged g c =
    let p = c.index_mut.result.now in
    elim c.match-advance_logged.branch [
      | in-Ok-Done w ↦ rw w.result-is (logs_end c.args.domain.now c.advance_logged.new.self p c.advance_logged.new.pass c.args.ticks w.in-Ok-Done.made w.in-Ok-Done.field-0 c.args.log.now c.advance_logged.new.log
          w.in-Ok-Done.ensures.done w.in-Ok-Done.ensures.logged w.in-Ok-Done.field-0-is w.if-made-ticks.true)
      | in-Err-Full w ↦ rw w.result-is tt
      | in_default w ↦ rw w.result-is tt
      | in_default-2 w ↦ rw w.result-is tt
      | in_default-3 w ↦ rw w.result-is tt
    ]

pub returns-clause-err : goal.returns-clause-err
returns-clause-err g c =
    let ps = c.self.inside.passes.items in
    let p = c.index_mut.result.now in
    let q = c.advance_logged.new.pass in
    let entries : PassView Entry → List Entry = λ r. r.entries in
    elim c.match-advance_logged.branch [
      | in-Ok-Done w ↦ rw w.result-is tt
      | in-Err-Full w ↦
          let met = subst (IsNotAdvanced c.args.domain.now c.advance_logged.new.self p q) w.in-Err-Full.field-0-is w.in-Err-Full.ensures.stopped in
          let same : entries q ≡ entries (get_or ps c.args.place p) = ap entries (met.stays.pass ∙ c.index_mut.ensures.value) in
          let back = ap (λ (es : List (List Entry)). record { number = c.self.inside.number; passes = es; hand = c.self.inside.hand }) (map-set_same entries ps c.args.place q p same) in
          rw w.result-is (subst IsFull (sym met.stays.book) met.full, back ∙ c.self.view_is)
      | in_default w ↦ rw w.result-is tt
      | in_default-2 w ↦ rw w.result-is tt
      | in_default-3 w ↦ rw w.result-is tt
    ]
