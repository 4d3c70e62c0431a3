use Rattle.std.proofs.Common.{ℕ, ◌≡◌, List, Result, Ok, Err, IfOk, IfErr, sym, subst}
use Rattle.json_order.specs.Fault.{strict, Spells, IsJsonFault}
use Rattle.json_order.specs.Json.{Json}
use Rattle.json_order.specs.Lent.{lent_json}
use Rattle.json_order.specs.declared.lent.LentTree.{LentTree}
use Rattle.json_order.specs.declared.fault.JsonFault.{JsonFault}
use Rattle.json_order.specs.declared.fault.JsonKind.TheVariants.{Memory}
use Rattle.json_order.proofs.Bytes.{memory_only}
use Rattle.json_order.proofs.reading.read_lent.Goals as goal

memory_of : (bytes : List ℕ) (v : Json) (r : Result LentTree JsonFault) → Spells strict bytes v → IfErr r (λ f. IsJsonFault bytes f.kind f.at) → IfErr r (λ f. f.kind ≡ Memory)
memory_of bytes v (Ok t) w h = h
memory_of bytes v (Err f) w h = memory_only bytes f.kind f.at v w h

pub returns-in-Ok-clause-only : goal.returns-in-Ok-clause-only
returns-in-Ok-clause-only c = subst (λ b. IfOk c.read_text.result (λ tree. (value : Json) → Spells strict b value → value ≡ lent_json tree)) c.in-Ok.ensures.cases.0 c.read_text.ensures.only

pub returns-in-Ok-clause-accepted : goal.returns-in-Ok-clause-accepted
returns-in-Ok-clause-accepted c = λ value w. memory_of c.in-Ok.text.now value c.read_text.result (subst (λ b. Spells strict b value) (sym c.in-Ok.ensures.cases.0) w) c.read_text.ensures.fault
