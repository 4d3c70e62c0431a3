use Rattle.std.proofs.Common.{◌≡◌, length, Some, ap, ◌∙◌, arith}
use Rattle.std.proofs.lemmas.List.Elements.{All-pop}
use Rattle.std.proofs.lemmas.List.{length_push}
use Rattle.bw_gate.specs.declared.view.Piece.TheVariants.{Blank}
use Rattle.bw_gate.specs.Pieces.{GateId, BlankView}
use Rattle.bw_gate.specs.Table.{held_by}
use Rattle.bw_gate.proofs.Views.{gathered_holds, gathered_counts}
use Rattle.bw_gate.proofs.Steps.{joins}
use Rattle.bw_gate.proofs.dealing.gather_blanks.Goals as goal

pub join_seat-requires : goal.join_seat-requires
join_seat-requires c =
    let inv = c.loop-blank.invariant in
    let shared = c.args.shared.now in
    let seat = c.loop-blank.seat in
    let other = c.blank.inside.seat in
    let own = (All-pop (λ (x : BlankView). x.gate ≡ record { table = shared.table_id; terms = shared.key }) c.loop-blank.blanks.items c.pop.new.self.items (Some c.in-Some.blank) c.in-Some.ensures.items inv.6).1 in
    let gate = ap (λ (x : BlankView). x.gate) c.blank.view_is ∙ own in (
      inv.0 ∙ c.requires.seat.0,
      ap (λ (g : GateId). g.table) gate,
      c.blank.invariant.0,
      c.requires.words,
      joins shared.key seat.id other.id seat.me.0 other.me.0 inv.3,
    )

pub loop-blank-preserved : goal.loop-blank-preserved
loop-blank-preserved c =
    let inv = c.loop-blank.invariant in
    let shared = c.args.shared.now in
    let seat = c.loop-blank.seat in
    let other = c.blank.inside.seat in
    let t = c.blank.inside in
    let step = c.join_seat.ensures in
    let now = step.2 in
    let one = c.blank.invariant.1 in (
      step.0 ∙ inv.0,
      step.1 ∙ inv.1,
      ap (λ (m : _). m.1) now ∙ inv.2,
      ap (λ (m : _). m.0.terms) now ∙ inv.3,
      (λ d.
          let a = ap (λ (m : _). held_by d m.0) now in
          let b = gathered_holds d seat.me.0 other.me.0 Blank one in
          let i = inv.4 d in
          omega (arith, a, b, i)),
      (
          let a = ap (λ (m : _). length m.0.pieces) now in
          let b = gathered_counts seat.me.0 other.me.0 Blank one in
          let s = ap length c.in-Some.ensures.items ∙ length_push c.pop.new.self.items c.in-Some.blank in
          let i = inv.5 in
          omega (arith, a, b, s, i)
          ),
      (All-pop (λ (x : BlankView). x.gate ≡ record { table = shared.table_id; terms = shared.key }) c.loop-blank.blanks.items c.pop.new.self.items (Some c.in-Some.blank) c.in-Some.ensures.items inv.6).0,
    )
