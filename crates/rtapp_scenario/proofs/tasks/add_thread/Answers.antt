use Rattle.std.proofs.Common.{◌≡◌, ◌+◌, ◌++◌, ◌∷◌, [], map, append_assoc, List, ℕ, ap, subst, ◌∙◌, arith}
use Rattle.json_order.specs.Lent.{text_bytes, lent_json}
use Rattle.rtapp_scenario.specs.Threads.{instances}
use Rattle.rtapp_scenario.specs.Scenario.{task_name}
use Rattle.rtapp_scenario.specs.private.Shapes.{IsShape}
use Rattle.std.specs.List.{range_with_len}
use Rattle.std.proofs.lemmas.List.FromFn.{map-range_with_len_more}
use Rattle.std.proofs.Common.{All}
use Rattle.std.proofs.lemmas.List.Elements.{All-append, All-from_recursion}
use Rattle.rtapp_scenario.specs.ScenarioView.{TaskSpecView, IsTaskSpec}
use Rattle.rtapp_scenario.specs.Values.{member_of, members}
use Rattle.rtapp_scenario.proofs.Passing.{name_passes, members_pass}
use Rattle.rtapp_scenario.proofs.tasks.add_thread.Goals as goal

grown : {X : Type 0} (f : ℕ → X) (front items : List X) (k : ℕ) (x : X) → items ≡ front ++ map f (range_with_len 0 k) → x ≡ f k → items ++ x ∷ [] ≡ front ++ map f (range_with_len 0 (k + 1))
grown f front items k x e is =
    let j : 0 + k ≡ k = omega arith in
    rw (map-range_with_len_more f 0 k k j, e, is) (append_assoc front (map f (range_with_len 0 k)) (f k ∷ []))

more_within : (items : List TaskSpecView) (x : TaskSpecView) → IsTaskSpec x → All IsTaskSpec items → All IsTaskSpec (items ++ x ∷ [])
more_within items x is all = All-append IsTaskSpec items (x ∷ []) all (All-from_recursion IsTaskSpec (x ∷ []) (is, tt))

pub shape_of-requires : goal.shape_of-requires
shape_of-requires c = rw c.members.ensures (members_pass (member_of c.args.thread.now) c.requires.passed)

pub task_name-requires : goal.task_name-requires
task_name-requires c = rw c.as_str.ensures (name_passes (member_of c.args.thread.now) c.requires.passed)

pub loop-k-preserved : goal.loop-k-preserved
loop-k-preserved c =
    let shape : IsShape (members (lent_json c.args.thread.now.1)) c.in_ok-shape.shape = subst (λ ms. IsShape ms c.in_ok-shape.shape) c.members.ensures c.in_ok-shape.ensures.is in
    let name : c.in_ok-name.name ≡ task_name (text_bytes c.args.thread.now.0) (instances (members (lent_json c.args.thread.now.1))) c.loop-k.k = c.in_ok-name.ensures.value ∙ ap (λ n. task_name n c.args.instances c.loop-k.k) c.as_str.ensures ∙ ap (λ n. task_name (text_bytes c.args.thread.now.0) n c.loop-k.k) c.requires.instances in
    rw c.in_ok-push.ensures.items (record {
      made = grown _ _ _ c.loop-k.k c.in_ok-task_of.field-0 c.loop-k.invariant.made (c.in_ok-task_of.ensures.value (member_of c.args.thread.now) c.loop-k.k shape name);
      limits = λ all. more_within c.loop-k.tasks.items c.in_ok-task_of.field-0 c.in_ok-task_of.ensures.limits (c.loop-k.invariant.limits all);
    })
