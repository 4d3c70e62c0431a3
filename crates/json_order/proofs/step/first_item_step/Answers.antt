use Rattle.std.specs.Prelude.{OnOk, IfErr}
use Rattle.std.proofs.Common.{◌≡◌, false, Ok, sym, subst, ◌∙◌}
use Rattle.std.proofs.lemmas.Bool.{ne_eqb}
use Rattle.json_order.specs.Fault.{strict}
use Rattle.json_order.specs.Grammar.{is_space}
use Rattle.json_order.specs.private.Machine.{Move, at_first_item, under_rules, move, value_move}
use Rattle.json_order.specs.private.Places.{frames_of, code_state, OutcomeSays}
use Rattle.json_order.proofs.Frames.{list_opened}
use Rattle.json_order.proofs.step.first_item_step.Goals as goal

pub returns-clause-ok : goal.returns-clause-ok
returns-clause-ok c =
    let space : is_space c.args.c ≡ false = sym c.is_space.ensures ∙ c.if-is_space.false in
    let moves : value_move (frames_of c.push.new.self.items) c.args.c ≡ move at_first_item (frames_of c.args.stack.now.items) c.args.c = list_opened c.args.stack.now.items c.push.new.self.items c.new.result c.args.c c.in_ok-push.ensures.items c.new.ensures.items space (ne_eqb c.args.c 93 c.if-c-eq93.false) in
    subst (λ (m : Move). OnOk c.value_step.result (under_rules strict m ≡ Ok (code_state c.value_step.new.place c.push.new.self.items))) moves c.value_step.ensures.ok

pub returns-clause-err : goal.returns-clause-err
returns-clause-err c =
    let space : is_space c.args.c ≡ false = sym c.is_space.ensures ∙ c.if-is_space.false in
    let moves : value_move (frames_of c.push.new.self.items) c.args.c ≡ move at_first_item (frames_of c.args.stack.now.items) c.args.c = list_opened c.args.stack.now.items c.push.new.self.items c.new.result c.args.c c.in_ok-push.ensures.items c.new.ensures.items space (ne_eqb c.args.c 93 c.if-c-eq93.false) in
    subst (λ (m : Move). IfErr c.value_step.result (OutcomeSays (under_rules strict m))) moves c.value_step.ensures.err
