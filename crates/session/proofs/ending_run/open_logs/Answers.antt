use Rattle.std.proofs.Common.{ℕ, ◌+◌, [], ap, ◌∙◌, arith, length}
use Rattle.std.proofs.lemmas.List.{length_push}
use Rattle.std.proofs.lemmas.List.Elements.{All-push}
use Rattle.session.specs.RunEnd.{IsLogOf}
use Rattle.session.proofs.ending_run.open_logs.Goals as goal

pub loop-preserved : goal.loop-preserved
loop-preserved c =
    let inv = c.loop.invariant in
    let was = c.loop.logs.items in
    let log = c.open_log.result in
    let items = c.push_reserved.ensures.items in
    record {
      many = ap length items ∙ length_push was log ∙ ap (λ (k : ℕ). k + 1) inv.many;
      each = rw items (All-push (IsLogOf c.args.wanted []) was log inv.each c.open_log.ensures);
      room = omega (arith, c.push_reserved.ensures.capacity, inv.room);
    }
