use Rattle.std.proofs.Common.{◌≡◌, map, length, arith, sym, subst, ◌∙◌}
use Rattle.tick_split.specs.Pieces.{piece_of}
use Rattle.tick_split.proofs.Cutting.{next_written, place_long, start_rises, whole_written}
use Rattle.tick_split.proofs.workers.put_back.Goals as goal

pub slice_bounds-copy_from_slice-count : goal.slice_bounds-copy_from_slice-count
slice_bounds-copy_from_slice-count g c =
    rw (c.start_of-from.ensures.value, c.start_of-to.ensures.value) (start_rises c.loop-k.k (length c.args.parts.now) (length c.args.items.now) c.requires.some)

pub copy_from_slice-requires : goal.copy_from_slice-requires
copy_from_slice-requires g c =
    let l = c.loop-k in
    let parts = c.args.parts.now in
    let items = c.args.items.now in
    let part = c.index-parts-k.result in
    let here : part.items ≡ map g.W.Work.done (piece_of l.k (length parts) items) = subst (λ v. v.items ≡ map g.W.Work.done (piece_of l.k (length parts) items)) (sym c.index-parts-k.is) (c.requires.parts l.k part c.loop-k-test.true) in
    rw (c.start_of-from.ensures.value, c.start_of-to.ensures.value) (place_long g.W.Work.done items l.items c.as_slice.result.now l.k (length parts) c.loop-k-test.true l.auto.items (c.as_slice.ensures.value ∙ here))

pub loop-k-preserved : goal.loop-k-preserved
loop-k-preserved g c =
    let l = c.loop-k in
    let parts = c.args.parts.now in
    let items = c.args.items.now in
    let part = c.index-parts-k.result in
    let here : part.items ≡ map g.W.Work.done (piece_of l.k (length parts) items) = subst (λ v. v.items ≡ map g.W.Work.done (piece_of l.k (length parts) items)) (sym c.index-parts-k.is) (c.requires.parts l.k part c.loop-k-test.true) in
    let new : c.copy_from_slice.new.self ≡ map g.W.Work.done (piece_of l.k (length parts) items) = c.copy_from_slice.ensures.after ∙ c.as_slice.ensures.value ∙ here in
    rw (c.start_of-from.ensures.value, c.start_of-to.ensures.value) (next_written g.W.Work.done items (length parts) c.requires.some l.k l.items c.copy_from_slice.new.self c.loop-k-test.true l.invariant new)

pub returns : goal.returns
returns g c =
    let l = c.loop-k in
    let last : l.k ≡ length c.args.parts.now = omega arith in
    whole_written g.W.Work.done c.args.items.now (length c.args.parts.now) c.requires.some l.k l.items last l.invariant
