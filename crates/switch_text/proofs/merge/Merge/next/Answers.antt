use Rattle.std.proofs.Common.{◌∙◌, ◌<◌, ◌≤◌, length, get_or, arith}
use Rattle.std.proofs.lemmas.List.{length-map}
use Rattle.switch_text.specs.Runs.{switches_view_of, views}
use Rattle.switch_text.proofs.Merged.{IsPlaced, left_at-past, left_placed, none_from, found_none, found_by}
use Rattle.switch_text.proofs.merge.Merge.next.Goals as goal

pub returns-then-index-runs : goal.returns-then-index-runs
returns-then-index-runs c =
    let runs = c.args.runs.now in
    let m = c.args.self.now in
    found_none runs m c.requires.few c.requires.runs c.requires.heads (left_at-past (views runs) m.places m.heads.first (omega (arith, length-map runs switches_view_of)))

pub returns-then-is_left : goal.returns-then-is_left
returns-then-is_left c =
    let runs = c.args.runs.now in
    let m = c.args.self.now in
    let run = c.index-runs-index.result in
    let inside : m.heads.first < length runs = omega arith in
    let at : IsPlaced runs m.places m.heads.first run = record { inside = inside; room = omega (arith, inside, c.requires.few); is = c.index-runs-index.is } in
    found_by runs m run c.next_in.result c.requires.few c.requires.runs c.requires.heads at (c.is_left.ensures.inside.0 c.if-is_left.true) c.next_in.ensures.index c.next_in.ensures.run c.next_in.ensures.switch (omega (arith, c.is_left.ensures.counted, c.is_left.ensures.inside.0 c.if-is_left.true))

pub returns : goal.returns
returns c =
    let runs = c.args.runs.now in
    let m = c.args.self.now in
    let run = c.index-runs-index.result in
    let inside : m.heads.first < length runs = omega arith in
    let at : IsPlaced runs m.places m.heads.first run = record { inside = inside; room = omega (arith, inside, c.requires.few); is = c.index-runs-index.is } in
    let past : length run.switches.now ≤ get_or m.places m.heads.first 0 = grind (arith, c.is_left.ensures.inside.1, c.if-is_left.false) in
    found_none runs m c.requires.few c.requires.runs c.requires.heads (left_placed runs m.places m.heads.first run at ∙ none_from (switches_view_of run) (get_or m.places m.heads.first 0) past)
