use Rattle.rtapp_dialect.proofs.Scanning.{fill_step, insert_step}
use Rattle.rtapp_dialect.proofs.filling.fill.Goals as goal

pub loop-i-preserved : goal.loop-i-preserved
loop-i-preserved c = record {
  text = fill_step _ _ _ _ _ _ _ _ _ _ _ _ _ _ c.loop-i-test.true c.lacks_value.ensures c.in_ok-add_value.ensures.text c.kept.ensures c.in_ok-push.ensures.items c.in_ok-pass.ensures.quote c.in_ok-pass.ensures.last c.in_ok-pass.ensures.inside c.loop-i.invariant.text;
  insertions = insert_step _ _ _ _ _ _ _ _ _ _ _ _ c.loop-i-test.true c.lacks_value.ensures c.in_ok-add_value.ensures.insertions c.in_ok-pass.ensures.quote c.in_ok-pass.ensures.last c.in_ok-pass.ensures.inside c.loop-i.invariant.insertions;
}
