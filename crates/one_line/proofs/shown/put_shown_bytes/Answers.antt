use Rattle.std.proofs.Common.{ap, ◌∙◌}
use Rattle.draft.proofs.CallerLemmas.{as_text}
use Rattle.one_line.specs.Shown.{shown}
use Rattle.one_line.proofs.Bytes.{utf8_shown, others_shown}
use Rattle.one_line.proofs.shown.put_shown_bytes.Goals as goal

pub returns-in-Ok : goal.returns-in-Ok
returns-in-Ok c =
    let read = c.in-Ok.ensures.cases in
    as_text _ _ _ _ (ap shown read.0 ∙ utf8_shown c.args.bytes.now read.1) c.put_shown.ensures

pub returns-in-Err : goal.returns-in-Err
returns-in-Err c =
    as_text _ _ _ _ (others_shown c.args.bytes.now c.in-Err.ensures.cases.0) c.put_bytes.ensures
