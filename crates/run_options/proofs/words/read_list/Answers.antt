use Rattle.std.proofs.Common.{◌≡◌, ◌<◌, ◌≤◌, ℕ, List, All, Bor, length, ap, subst, sym, ◌∙◌, arith, map, ◌+◌, refl, decimal}
use Rattle.std.specs.List.{slice_split}
use Rattle.std.proofs.lemmas.List.{length-map, length_push}
use Rattle.std.proofs.lemmas.List.Elements.{All-push}
use Rattle.domain_run.specs.Domain.{IsCpus}
use Rattle.run_options.specs.Words.{is_comma}
use Rattle.run_options.proofs.CpuLists.{bad_piece, piece_at, read_one, whole_list}
use Rattle.run_options.proofs.words.read_list.Goals as goal

pub returns-in_default-clause-bad : goal.returns-in_default-clause-bad
returns-in_default-clause-bad c = λ _ cpus list.
    let items = c.deref-piece-items.result.now in
    let pieces = c.in_ok-pieces.pieces.items in
    let i = c.loop-piece.piece-index in
    let inside : i < length items = omega (arith, c.loop-piece-test.true, c.loop-piece.auto.piece-index-end) in
    let count : length items ≡ length (slice_split is_comma c.args.text.now) =
    ap length c.deref-piece-items.ensures.value ∙ sym (length-map pieces (λ (p : Bor (List ℕ)). p.now)) ∙ ap length c.in_ok-pieces.ensures in
    bad_piece c.args.text.now cpus i list (omega (arith, inside, count)) (λ n h e.
    c.in_default.ensures.none refl n h (sym (piece_at c.args.text.now pieces items i _ c.in_ok-pieces.ensures c.deref-piece-items.ensures.value inside) ∙ e))

pub loop-piece-preserved : goal.loop-piece-preserved
loop-piece-preserved c =
    let items = c.deref-piece-items.result.now in
    let pieces = c.in_ok-pieces.pieces.items in
    let i = c.loop-piece.piece-index in
    let inv = c.loop-piece.invariant in
    let pushed = c.push_reserved.ensures.items in
    let inside : i < length items = omega (arith, c.loop-piece-test.true, c.loop-piece.auto.piece-index-end) in
    let count : length items ≡ length (slice_split is_comma c.args.text.now) =
    ap length c.deref-piece-items.ensures.value ∙ sym (length-map pieces (λ (p : Bor (List ℕ)). p.now)) ∙ ap length c.in_ok-pieces.ensures in
    record {
      told = ap (map decimal) pushed ∙ read_one c.args.text.now c.loop-piece.list.items i c.in-Some.cpus inv.told (omega (arith, inside, count))
          (piece_at c.args.text.now pieces items i _ c.in_ok-pieces.ensures c.deref-piece-items.ensures.value inside ∙ c.in-Some.ensures.some.1);
      range = subst (All IsCpus) (sym pushed) (All-push IsCpus c.loop-piece.list.items c.in-Some.cpus inv.range c.in-Some.ensures.some.0);
      count = ap length pushed ∙ length_push c.loop-piece.list.items c.in-Some.cpus ∙ ap (λ (k : ℕ). k + 1) inv.count;
      capacity = omega (arith, c.push_reserved.ensures.capacity, inv.capacity);
    }

pub returns-clause-ok : goal.returns-clause-ok
returns-clause-ok c =
    let items = c.deref-piece-items.result.now in
    let pieces = c.in_ok-pieces.pieces.items in
    let inv = c.loop-piece.invariant in
    let count : length items ≡ length (slice_split is_comma c.args.text.now) =
    ap length c.deref-piece-items.ensures.value ∙ sym (length-map pieces (λ (p : Bor (List ℕ)). p.now)) ∙ ap length c.in_ok-pieces.ensures in
    let few : length pieces ≤ 8 = omega (arith, c.len.ensures, c.if-len-gt-MOST_DOMAINS.false, c.in_ok-pieces.pieces.ok.0) in
    let same : length items ≡ length pieces = ap length c.deref-piece-items.ensures.value in
    whole_list c.args.text.now c.loop-piece.list.items c.loop-piece.piece-index inv.told inv.range
    (omega (arith, count, c.loop-piece-test.false, c.loop-piece.auto.piece-index-end)) (omega (arith, count, same, few))
