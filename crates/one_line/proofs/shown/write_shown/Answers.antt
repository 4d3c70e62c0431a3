use Rattle.std.proofs.Common.{ap, sym, ◌∙◌, rules, refl, []}
use Rattle.std.specs.List.{flat_map}
use Rattle.std.proofs.Output.{has_written_of_eq}
use Rattle.std.proofs.lemmas.Iterator.{YieldsList-from_chars}
use Rattle.std.proofs.lemmas.Iterator.Consumers.{YieldsList-end}
use Rattle.std.proofs.lemmas.List.{flat_map_more, map-id}
use Rattle.std.proofs.lemmas.Grind.{put_two}
use Rattle.one_line.specs.Shown.{shown_character}
use Rattle.one_line.proofs.shown.write_shown.Goals as goal

pub returns : goal.returns
returns g c = λ plain _.
    let e = YieldsList-end (YieldsList-from_chars c.args.text.now c.utf8.text cc) c.loop-c.yielded _ c.loop-c.yielded_by _ _ c.in-None.is c.next.ensures.steps in
    has_written_of_eq _ _ _ _ _ (ap (flat_map shown_character) (sym (map-id c.loop-c.yielded) ∙ e.0)) (c.loop-c.invariant plain)

pub loop-c-preserved : goal.loop-c-preserved
loop-c-preserved g c = λ plain.
    put_two _ _ _ _ _ _ _ (c.loop-c.invariant plain) (c.in_ok-write_character.ensures (search rules) refl) (flat_map_more shown_character [] c.loop-c.yielded _)
