use Rattle.std.proofs.Common.{◌≡◌, ◌+◌, ◌-◌, Ok, length, get_or, set, sym, subst, rules}
use Rattle.json_order.specs.Fault.{strict}
use Rattle.json_order.specs.Lent.{lent_json}
use Rattle.json_order.specs.private.Machine.{under_rules, next_move}
use Rattle.json_order.specs.private.Places.{frames_of, code_state}
use Rattle.json_order.specs.declared.place.Frame.TheVariants.{List as ListFrame}
use Rattle.json_order.proofs.Frames.{item_pushed, on_ok}
use Rattle.json_order.proofs.step.push_item.Goals as goal

pub returns-in_ok-push-in-List-clause-ok : goal.returns-in_ok-push-in-List-clause-ok
returns-in_ok-push-in-List-clause-ok c =
    let fs = c.args.stack.now.items in
    let i = c.len-open.result - 1 in
    let e : i + 1 ≡ length fs = search rules in
    let here : get_or fs i (ListFrame c.in-List.items) ≡ ListFrame c.in-List.items = sym (rw c.in-List.is at c.index_mut.ensures.value) in
    let h = item_pushed fs i c.in-List.items c.push.new.self c.args.value e here c.in_ok-push-in-List.ensures.items in
    on_ok c.go_to.result (subst (λ p. under_rules strict (next_move (lent_json c.args.value) (frames_of fs) 44) ≡ Ok (code_state p (set fs i (ListFrame c.push.new.self)))) (sym c.go_to.ensures.1) h)
