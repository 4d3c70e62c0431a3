use Rattle.std.proofs.Common.{◌≡◌, true, false, take, sym, ap, ◌∙◌, arith}
use Rattle.std.specs.List.{list_any}
use Rattle.std.proofs.lemmas.List.{take_all}
use Rattle.call_book.specs.Pieces.{is_held}
use Rattle.call_book.proofs.book.stock.place_of.Goals as goal

pub unreachable-requires : goal.unreachable-requires
unreachable-requires c =
    let all : take c.loop-i.i c.args.held.now ≡ c.args.held.now = take_all c.loop-i.i c.args.held.now (omega arith) in
    let no : true ≡ false = sym c.requires ∙ ap (list_any (is_held c.args.number)) (sym all) ∙ c.loop-i.invariant in
    absurd cc
