use Rattle.std.proofs.Common.{◌≡◌, ◌+◌, ◌++◌, ◌∷◌, [], ℕ, List, Option, Some, None, map, take, drop, refl, sym, ap, subst, ◌∙◌, arith}
use Rattle.std.proofs.lemmas.List.{map-append, append_assoc}
use Rattle.std.proofs.lemmas.List.Sums.{sum_by_push}
use Rattle.json_order.specs.Lent.{lent_json}
use Rattle.json_order.specs.declared.lent.LentText.{LentText}
use Rattle.json_order.specs.declared.lent.LentTree.{LentTree}
use Rattle.std.proofs.lemmas.Grind.{common_steps}
use Rattle.rtapp_scenario.specs.Values.{Member, member_of, members_of, members}
use Rattle.rtapp_scenario.specs.Faults.{Fault}
use Rattle.rtapp_scenario.specs.Threads.{instances, thread_ref}
use Rattle.rtapp_scenario.specs.ScenarioView.{TaskSpecView}
use Rattle.rtapp_scenario.specs.Scenario.{thread_tasks, tasks_from}
use Rattle.rtapp_scenario.specs.Tests.{own_fault, beside_fault, thread_fault, refs_in, tasks_in}
use Rattle.rtapp_scenario.specs.FaultText.{IsFaultTold, flaw_seen, ref_seen}
use Rattle.rtapp_scenario.proofs.Walks.{here, before_more, order_found, order_passed}
use Rattle.rtapp_scenario.proofs.tasks.tasks_of.Goals as goal

pub loop-thread-preserved : goal.loop-thread-preserved
loop-thread-preserved c =
    let threads : List (LentText × LentTree) = c.args.threads.now in
    let i : ℕ = c.loop-thread.thread-index in
    let thread : LentText × LentTree = c.thread-item.result in
    let inv = c.loop-thread.invariant in
    let left : List (LentText × LentTree) = drop (i + 1) threads in
    let before : List Member = members_of (take i threads) in
    let own_members : List Member = members_of c.members-members.result.now in
    let same : own_members ≡ members (lent_json thread.1) = c.members-members.ensures in
    let own : own_fault (member_of thread) ≡ None = sym c.in_default.ensures in
    let seen : map ref_seen c.deref.result.now ≡ refs_in before = ap (map ref_seen) c.deref.ensures.value ∙ inv.refs in
    let beside : beside_fault (refs_in before) (tasks_in before) (members (lent_json thread.1)) ≡ None =
    sym (ap (λ (rs : List (Option (List ℕ))). beside_fault rs c.loop-thread.others own_members) seen ∙ ap (λ (n : ℕ). beside_fault (refs_in before) n own_members) inv.others ∙ ap (beside_fault (refs_in before) (tasks_in before)) same) ∙ sym (c.in_default-check_beside.ensures.flaw own_members c.instances-instances.ensures.value c.thread_ref-own_ref.ensures) in
    let none : thread_fault before (member_of thread) ≡ None = rw (own, beside) refl in
    let more : members_of (take (i + 1) threads) ≡ before ++ member_of thread ∷ [] = before_more threads i thread c.loop-thread-test.true c.thread-item.is in
    let ref : ref_seen c.thread_ref-own_ref.result ≡ thread_ref (members (lent_json thread.1)) = c.thread_ref-own_ref.ensures ∙ ap thread_ref same in
    let count : c.instances-instances.result ≡ instances (members (lent_json thread.1)) = c.instances-instances.ensures.value ∙ ap instances same in
    let made = thread_tasks (c.loop-thread.others + 1) (member_of thread) in
    let next : (c.loop-thread.others + c.instances-instances.result) + 1 ≡ (c.loop-thread.others + 1) + instances (members (lent_json thread.1)) = omega (arith, count) in
    record {
      passed = order_passed thread_fault threads i thread c.loop-thread-test.true c.thread-item.is none inv.passed;
      made = ap (λ (ts : List TaskSpecView). ts ++ tasks_from ((c.loop-thread.others + c.instances-instances.result) + 1) (members_of left)) c.in_ok-add_thread.ensures.made
          ∙ ap (λ (n : ℕ). (c.loop-thread.tasks.items ++ made) ++ tasks_from n (members_of left)) next
          ∙ append_assoc c.loop-thread.tasks.items made (tasks_from ((c.loop-thread.others + 1) + instances (members (lent_json thread.1))) (members_of left))
          ∙ sym (ap (λ (ts : List TaskSpecView). c.loop-thread.tasks.items ++ ts) (here (λ xs. tasks_from (c.loop-thread.others + 1) (members_of xs)) threads i thread c.loop-thread-test.true c.thread-item.is))
          ∙ inv.made;
      refs = ap (map ref_seen) c.in_ok-push.ensures.items ∙ map-append ref_seen c.loop-thread.refs.items (c.thread_ref-own_ref.result ∷ [])
          ∙ ap (λ (rs : List (Option (List ℕ))). rs ++ ref_seen c.thread_ref-own_ref.result ∷ []) inv.refs ∙ ap (λ (r : Option (List ℕ)). refs_in before ++ r ∷ []) ref
          ∙ sym (ap (λ (ms : List Member). refs_in ms) more ∙ map-append (λ (m : Member). thread_ref (members m.value)) before (member_of thread ∷ []));
      others = ap (λ (n : ℕ). n + c.instances-instances.result) inv.others ∙ ap (λ (n : ℕ). tasks_in before + n) count
          ∙ sym (ap (λ (ms : List Member). tasks_in ms) more ∙ sum_by_push (λ (m : Member). instances (members m.value)) before (member_of thread));
      most = omega (arith, c.in_default-check_beside.ensures.most, c.instances-instances.ensures.value);
      limits = c.in_ok-add_thread.ensures.limits inv.limits;
    }

pub returns-in-Err-clause-fault : goal.returns-in-Err-clause-fault
returns-in-Err-clause-fault c =
    let threads : List (LentText × LentTree) = c.args.threads.now in
    let i : ℕ = c.loop-thread.thread-index in
    let thread : LentText × LentTree = c.thread-item.result in
    let fault : Fault = flaw_seen c.in-Err.flaw in
    let own : own_fault (member_of thread) ≡ Some fault = sym c.in-Err.ensures in
    let found : thread_fault (members_of (take i threads)) (member_of thread) ≡ Some fault = rw own refl in
    subst (λ (o : Option Fault). IsFaultTold o c.fault_of.result) (order_found thread_fault threads i thread fault c.loop-thread-test.true c.thread-item.is found c.loop-thread.invariant.passed) c.fault_of.ensures

pub returns-in-Err-check_beside-clause-fault : goal.returns-in-Err-check_beside-clause-fault
returns-in-Err-check_beside-clause-fault c =
    let threads : List (LentText × LentTree) = c.args.threads.now in
    let i : ℕ = c.loop-thread.thread-index in
    let thread : LentText × LentTree = c.thread-item.result in
    let inv = c.loop-thread.invariant in
    let before : List Member = members_of (take i threads) in
    let own_members : List Member = members_of c.members-members.result.now in
    let fault : Fault = flaw_seen c.in-Err-check_beside.flaw in
    let own : own_fault (member_of thread) ≡ None = sym c.in_default.ensures in
    let seen : map ref_seen c.deref.result.now ≡ refs_in before = ap (map ref_seen) c.deref.ensures.value ∙ inv.refs in
    let beside : beside_fault (refs_in before) (tasks_in before) (members (lent_json thread.1)) ≡ Some fault =
    sym (ap (λ (rs : List (Option (List ℕ))). beside_fault rs c.loop-thread.others own_members) seen ∙ ap (λ (n : ℕ). beside_fault (refs_in before) n own_members) inv.others ∙ ap (beside_fault (refs_in before) (tasks_in before)) c.members-members.ensures) ∙ sym (c.in-Err-check_beside.ensures.flaw own_members c.instances-instances.ensures.value c.thread_ref-own_ref.ensures) in
    let found : thread_fault before (member_of thread) ≡ Some fault = rw (own, beside) refl in
    subst (λ (o : Option Fault). IsFaultTold o c.fault_of-in-Err-check_beside.result) (order_found thread_fault threads i thread fault c.loop-thread-test.true c.thread-item.is found inv.passed) c.fault_of-in-Err-check_beside.ensures

pub loop-thread-init : goal.loop-thread-init
loop-thread-init c = grind (arith, common_steps)

pub returns-in_err-add_thread-clause-fault : goal.returns-in_err-add_thread-clause-fault
returns-in_err-add_thread-clause-fault c = grind (arith, common_steps)

pub returns-in_err-push-clause-fault : goal.returns-in_err-push-clause-fault
returns-in_err-push-clause-fault c = grind (arith, common_steps)

pub returns-clause-passed : goal.returns-clause-passed
returns-clause-passed c = grind (arith, common_steps)

pub returns-clause-found : goal.returns-clause-found
returns-clause-found c = grind (arith, common_steps)

pub returns-clause-limits : goal.returns-clause-limits
returns-clause-limits c = grind (arith, common_steps)

pub add_thread-requires-clause-most : goal.add_thread-requires-clause-most
add_thread-requires-clause-most c = grind (arith, common_steps)

pub add_thread-requires-clause-passed : goal.add_thread-requires-clause-passed
add_thread-requires-clause-passed c = sym c.in_default.ensures

pub overflow_add-others : goal.overflow_add-others
overflow_add-others c = omega (arith, c.in_default-check_beside.ensures.most, c.instances-instances.ensures.value)

pub returns-clause-fault : goal.returns-clause-fault
returns-clause-fault c = grind (arith, common_steps)

pub returns-in-Err-clause-passed : goal.returns-in-Err-clause-passed
returns-in-Err-clause-passed c = grind (arith, common_steps)

pub returns-in-Err-check_beside-clause-passed : goal.returns-in-Err-check_beside-clause-passed
returns-in-Err-check_beside-clause-passed c = grind (arith, common_steps)

pub returns-in_err-add_thread-clause-passed : goal.returns-in_err-add_thread-clause-passed
returns-in_err-add_thread-clause-passed c = grind (arith, common_steps)

pub returns-in_err-push-clause-passed : goal.returns-in_err-push-clause-passed
returns-in_err-push-clause-passed c = grind (arith, common_steps)
