use Rattle.std.proofs.Common.{◌≡◌, length, map, get_or, sym, ap, ◌∙◌, arith}
use Rattle.switch_text.specs.SlicedTrace.{whole_of}
use Rattle.switch_text.proofs.SliceFronts.{wholes_each, kept_each}
use Rattle.switch_text.proofs.slices.fill_apart.Goals as goal

pub returns : goal.returns
returns g c =
    let f = g.S.Slices.sliced in
    let h = g.S.Slices.kept in
    record {
      whole = wholes_each f c.args.slices.now c.for_each_mut.new.s c.for_each_mut.auto.s (λ i d within.
          let k = (c.for_each_mut.ensures i d within).1 in
          ap (λ x. whole_of (f x)) (sym k.left) ∙ k.call.0 ∙ ap (λ x. whole_of (f x)) k.argument_is);
      kept = kept_each h c.args.slices.now c.for_each_mut.new.s c.for_each_mut.auto.s (λ i d within.
          let k = (c.for_each_mut.ensures i d within).1 in
          ap h (sym k.left) ∙ k.call.1 ∙ ap h k.argument_is);
    }
