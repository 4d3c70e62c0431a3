use Rattle.std.proofs.Common.{◌≡◌, ◌<◌, ◌≤◌, ℕ, ◌+◌, List, [], ◌∷◌, ◌++◌, get_or, map, Option, Some, length, ap, sym, subst, true, ◌∙◌, arith}
use Rattle.std.specs.Prelude.{is_some, IfSome}
use Rattle.std.proofs.lemmas.List.{length_push, map_push, replicate_more}
use Rattle.std.proofs.lemmas.List.Elements.{All-pop}
use Rattle.bw_gate.specs.Pieces.{BlankView}
use Rattle.session.specs.declared.parts.Hand.{Hand}
use Rattle.session.specs.private.Parts.{IsHand}
use Rattle.session.proofs.Opening.{some_push}
use Rattle.session.proofs.parts.empty_hands.Goals as goal

pub loop-preserved : goal.loop-preserved
loop-preserved c =
    let inv = c.loop.invariant in
    let was = c.loop.hands.items in
    let hands = c.push_reserved.new.self.items in
    let n = c.loop.counter in
    let passes = c.in_ok-passes.passes in
    let hand : Hand = record { passes = passes; blank = c.pop-blank.result } in
    let items = c.push_reserved.ensures.items in
    let logged = c.in_ok-passes.ensures in
    record {
      some = ap (map is_some) items ∙ map_push is_some was (Some hand) ∙ ap (λ (bs : _). bs ++ true ∷ []) inv.some ∙ replicate_more n true;
      room = λ i x inside.
          subst (λ (hs : List (Option Hand)). i < length hs → IfSome (get_or hs i x) (λ h. c.args.domains ≤ h.passes.cap)) (sym items)
          (λ there. some_push (λ j h. c.args.domains ≤ h.passes.cap) was n i (Some hand) x inv.count there (omega (arith, logged.exact)) (λ front. inv.room i x front))
          inside;
      hands = λ gate own i x inside.
          subst (λ (hs : List (Option Hand)). i < length hs → IfSome (get_or hs i x) (IsHand gate [] (i + 1))) (sym items)
          (λ there. some_push (λ j h. IsHand gate [] (j + 1) h) was n i (Some hand) x inv.count there
          (record { passes = logged.items; own = (All-pop (λ (b : BlankView). b.gate ≡ gate) c.loop.pool.items c.pop-blank.new.self.items c.pop-blank.result c.pop-blank.ensures.items (inv.pool gate own)).1 })
          (λ front. inv.hands gate own i x front))
          inside;
      pool = λ gate own. (All-pop (λ (b : BlankView). b.gate ≡ gate) c.loop.pool.items c.pop-blank.new.self.items c.pop-blank.result c.pop-blank.ensures.items (inv.pool gate own)).0;
      count = ap length items ∙ length_push was (Some hand) ∙ ap (λ (k : ℕ). k + 1) inv.count;
      capacity = omega (arith, c.push_reserved.ensures.capacity, inv.capacity);
    }
