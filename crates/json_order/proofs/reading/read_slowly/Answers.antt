use Rattle.std.proofs.Common.{◌≡◌, [], length, refl, sym, subst}
use Rattle.json_order.specs.Fault.{IsJsonFault}
use Rattle.json_order.specs.private.Places.{code_state}
use Rattle.json_order.specs.Lent.{lent_json}
use Rattle.json_order.specs.declared.fault.JsonKind.TheVariants.{End}
use Rattle.json_order.proofs.Bytes.{end_value, end_fault}
use Rattle.json_order.proofs.Turns.{all_seen}
use Rattle.json_order.proofs.reading.read_slowly.Goals as goal

pub returns-in-Some-clause-found : goal.returns-in-Some-clause-found
returns-in-Some-clause-found c =
    let text = c.args.text.now in
    let stands = c.in_default-read_through.ensures.ok in
    let seen = all_seen text stands.0 [] c.utf8.text stands.1 refl in
    (end_value text stands.0 (code_state c.read_through.new.place c.read_through.new.stack.items) (lent_json c.in-Some.tree) seen stands.2 c.in-Some.ensures.some).0

pub returns-in-Some-clause-only : goal.returns-in-Some-clause-only
returns-in-Some-clause-only c =
    let text = c.args.text.now in
    let stands = c.in_default-read_through.ensures.ok in
    let seen = all_seen text stands.0 [] c.utf8.text stands.1 refl in
    (end_value text stands.0 (code_state c.read_through.new.place c.read_through.new.stack.items) (lent_json c.in-Some.tree) seen stands.2 c.in-Some.ensures.some).1

pub returns-clause-fault : goal.returns-clause-fault
returns-clause-fault c =
    let text = c.args.text.now in
    let stands = c.in_default-read_through.ensures.ok in
    let seen = all_seen text stands.0 [] c.utf8.text stands.1 refl in
    let fault = end_fault text stands.0 (code_state c.read_through.new.place c.read_through.new.stack.items) seen stands.2 c.in-None.ensures.none in
    let at : c.fault_at-in-None.result.at ≡ length text = c.fault_at-in-None.ensures.other (λ x. cc) in
    subst (λ k. IsJsonFault text k c.fault_at-in-None.result.at) (sym c.fault_at-in-None.ensures.kind) (subst (λ n. IsJsonFault text End n) (sym at) fault)
