use Rattle.std.proofs.Common.{◌≡◌, sym, ◌∙◌}
use Rattle.std.proofs.lemmas.Result.{IfOk-weaker}
use Rattle.json_order.specs.Fault.{strict, Spells}
use Rattle.json_order.specs.Json.{Json}
use Rattle.json_order.specs.Lent.{lent_json}
use Rattle.json_order.specs.Seen.{json_of}
use Rattle.json_order.proofs.reading.read.Goals as goal

pub returns-in-Ok-clause-only : goal.returns-in-Ok-clause-only
returns-in-Ok-clause-only c =
    IfOk-weaker c.copied.result (λ tree. json_of tree ≡ lent_json c.in-Ok.lent) (λ tree. (value : Json) → Spells strict c.args.bytes.now value → value ≡ json_of tree)
    (λ tree same value spelled. c.in-Ok.ensures.only value spelled ∙ sym same) c.copied.ensures.ok
