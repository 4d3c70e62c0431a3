use Rattle.std.proofs.Common.{subst}
use Rattle.switch_text.specs.private.EventMerging.{CanShow}
use Rattle.switch_text.proofs.Kept.{IsNamed-among}
use Rattle.switch_text.proofs.events.append_event.Goals as goal

-- what is required has no names here: `few`, `named`, `shown`, `many`, `slots`, `texts` and `room`,
-- in this order

pub append_line-requires : goal.append_line-requires
append_line-requires g c =
    let r = c.requires in
    let runs = c.args.runs.now in
    let next = c.in-Switch.next in
    let shown = subst (CanShow runs) c.in-Switch.is r.1.1.0 in
    let named = IsNamed-among g.names runs next r.1.0 shown.1.0 shown.1.1 in
    (r.0, (shown.0, (shown.1.0, (named, (r.1.1.1.0, (r.1.1.1.1.0, (r.1.1.1.1.1.0, r.1.1.1.1.1.1)))))))
