use Rattle.std.proofs.Common.{ap, sym, ◌∙◌, []}
use Rattle.std.specs.List.{flat_map}
use Rattle.std.proofs.lemmas.Iterator.{YieldsList-from_chars}
use Rattle.std.proofs.lemmas.Iterator.Consumers.{YieldsList-end}
use Rattle.std.proofs.lemmas.List.{flat_map_more, map-id}
use Rattle.draft.proofs.CallerLemmas.{joined, as_text}
use Rattle.one_line.specs.Shown.{shown_character}
use Rattle.one_line.proofs.shown.put_shown.Goals as goal

pub returns : goal.returns
returns c =
    let e = YieldsList-end (YieldsList-from_chars c.args.text.now c.utf8.text cc) c.loop-c.yielded _ c.loop-c.yielded_by _ _ c.in-None.is c.next.ensures.steps in
    as_text _ _ _ _ (ap (flat_map shown_character) (sym (map-id c.loop-c.yielded) ∙ e.0)) c.loop-c.invariant

pub loop-c-preserved : goal.loop-c-preserved
loop-c-preserved c =
    as_text _ _ _ _ (flat_map_more shown_character [] c.loop-c.yielded _) (joined _ _ _ _ _ c.loop-c.invariant c.put_character.ensures)
