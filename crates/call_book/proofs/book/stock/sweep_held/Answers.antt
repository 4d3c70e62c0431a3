use Rattle.std.proofs.Common.{◌≡◌, ℕ, ◌+◌, ◌≤◌, true, false, eqb, Option, Some, suc, length, take, drop, All, refl, sym, ap, ◌∙◌, subst, arith}
use Rattle.std.specs.Option.{option_eq}
use Rattle.std.proofs.lemmas.List.{get_or_default, length_push}
use Rattle.std.proofs.lemmas.List.Edits.{length-remove}
use Rattle.std.proofs.lemmas.List.Elements.{All-append, All-take, All-drop}
use Rattle.bw_gate.specs.Answers.{IsGive}
use Rattle.call_book.specs.declared.book.stock.Held.{Held}
use Rattle.call_book.specs.Pieces.{is_kept}
use Rattle.call_book.proofs.Sweeping.{swept_none, swept_keep, swept_give, kept_there, gone_there}
use Rattle.call_book.proofs.book.stock.sweep_held.Goals as goal

pub loop-place-init : goal.loop-place-init
loop-place-init c = record {
  swept = swept_none (is_kept c.args.state.now) c.args.held.now.items c.args.blanks.now.items;
  own = c.requires.own;
  room = c.requires.room;
  held_room = refl;
  free_room = refl;
  within = omega arith;
}

pub loop-place-preserved-then-eq : goal.loop-place-preserved-then-eq
loop-place-preserved-then-eq c =
    let inv = c.loop-place.invariant in
    let h = c.index.result.now in
    let kept = is_kept c.args.state.now in
    let here = ap (λ (o : Option ℕ). option_eq eqb o (Some h.number)) (sym c.number_at.ensures) ∙ sym c.eq.ensures ∙ c.if-eq.true in
    let stays : kept h ≡ true = kept_there c.args.state.now c.loop-place.place h here in
    let within : c.loop-place.place + 1 ≤ length c.loop-place.held.items = omega arith in
    record {
      swept = swept_keep kept c.args.held.now.items c.args.blanks.now.items c.loop-place.held.items c.loop-place.place c.loop-place.blanks.items h inv.swept (omega arith) c.index.ensures stays;
      own = inv.own;
      room = inv.room;
      held_room = inv.held_room;
      free_room = inv.free_room;
      within = within;
    }

pub loop-place-preserved : goal.loop-place-preserved
loop-place-preserved c =
    let inv = c.loop-place.invariant in
    let items = c.loop-place.held.items in
    let place = c.loop-place.place in
    let h = c.index.result.now in
    let kept = is_kept c.args.state.now in
    let P : Held → Type 0 = λ x. x.ticket.gate ≡ c.args.gate.now in
    let other = ap (λ (o : Option ℕ). option_eq eqb o (Some h.number)) (sym c.number_at.ensures) ∙ sym c.eq.ensures ∙ c.if-eq.false in
    let goes : kept h ≡ false = gone_there c.args.state.now c.args.held.now.items c.args.blanks.now.items items place c.loop-place.blanks.items h c.requires.listed inv.swept (omega arith) c.index.ensures other in
    let same : c.remove-ticket.result ≡ h = c.remove-ticket.ensures.value ∙ get_or_default items place c.remove-ticket.result h (omega arith) ∙ sym c.index.ensures in
    let give : IsGive h.ticket c.give.result = subst (λ (x : Held). IsGive x.ticket c.give.result) same c.give.ensures in
    let fewer = ap length c.remove-ticket.ensures.items in
    let gone = length-remove items place (omega arith) in
    let pushed = ap length c.push_reserved.ensures.items ∙ length_push c.loop-place.blanks.items c.give.result in
    let capacity = c.push_reserved.ensures.capacity in
    let room = inv.room in
    record {
      swept = swept_give kept c.args.held.now.items c.args.blanks.now.items items place c.loop-place.blanks.items h c.remove-ticket.new.self.items c.push_reserved.new.self.items c.give.result inv.swept (omega arith) c.index.ensures goes c.remove-ticket.ensures.items c.push_reserved.ensures.items give;
      own = subst (All P) (sym c.remove-ticket.ensures.items) (All-append P (take place items) (drop (suc place) items) (All-take P place items inv.own) (All-drop P (suc place) items inv.own));
      room = omega (arith, fewer, gone, pushed, capacity, room);
      held_room = c.remove-ticket.ensures.capacity ∙ inv.held_room;
      free_room = capacity ∙ inv.free_room;
      within = omega (arith, fewer, gone);
    }
