use Rattle.std.proofs.Common.{◌≡◌, ◌/◌, ◌<◌, Some, length, get_or, sym, ap, subst, ◌∙◌, arith, None, Option}
use Rattle.std.specs.Prelude.{IfSome, is_some}
use Rattle.std.specs.Int.{bit_at}
use Rattle.std.proofs.lemmas.List.{get_or_default, get_or-set_same, length-map}
use Rattle.std.proofs.lemmas.Grind.{common_steps}
use Rattle.domain_run.specs.declared.task.Task.{Task}
use Rattle.domain_run.specs.Tick.{shares}
use Rattle.domain_run.specs.private.StaleCharges.{IsTrusted, IsSettled, IsFree, noted_basis}
use Rattle.domain_run.specs.private.TaskTable.{basis_in}
use Rattle.due_times.specs.OpenCharges.{OpenChargesView, IsOn}
use Rattle.due_times.specs.declared.charges.Basis.{Basis}
use Rattle.due_times.specs.declared.charges.OpenCharge.{OpenCharge}
use Rattle.domain_run.specs.private.Owed.{owed, owed_all, AreOpen, IsOpen, MayStart}
use Rattle.domain_run.proofs.Bare.{bare_on}
use Rattle.domain_run.proofs.Counting.{inactive_is}
use Rattle.domain_run.proofs.Stale.{charge_other, noted_by, free_by}
use Rattle.domain_run.proofs.Placing.{one_index}
use Rattle.domain_run.proofs.Chargings.{taken_view, taken_waits}
use Rattle.domain_run.proofs.Owed.{alike_owed, numbered_unlike}
use Rattle.domain_run.proofs.DeferringTimers.{seen_alike}
use Rattle.domain_run.proofs.task_table.starting.start_charge_at.Goals as goal

pub charge_for-open_charge-requires-clause-may : goal.charge_for-open_charge-requires-clause-may
charge_for-open_charge-requires-clause-may c =
    let s = c.args.charges.now in
    let items = c.args.tasks.now in
    let p = c.args.place in
    let x = c.at-task.result.now in
    let read = c.at-task.ensures ∙ get_or_default items p _ x c.requires.at in
    subst MayStart (sym (bare_on s.upto s.charges items p x c.requires.at read c.args.cpu c.requires.free c.requires.home x)) (c.requires.may x)

pub returns-clause-tasks : goal.returns-clause-tasks
returns-clause-tasks c =
    let s = c.args.charges.now in
    let open_charge = c.charge_for-open_charge.result in
    let there : c.args.cpu < length s.charges = omega (arith, c.requires.there, c.requires.wide) in
    let since : open_charge.since ≡ s.upto = c.charge_for-open_charge.ensures.since ∙ c.upto.ensures.upto in
    ap (λ (v : OpenChargesView). owed_all v c.args.tasks.now) c.start_charge.ensures ∙ taken_view s.upto c.args.cpu s.charges open_charge c.requires.free there since c.args.tasks.now

pub returns-clause-waits : goal.returns-clause-waits
returns-clause-waits c =
    let s = c.args.charges.now in
    let items = c.args.tasks.now in
    let p = c.args.place in
    let x = c.at-task.result.now in
    let read = c.at-task.ensures ∙ get_or_default items p _ x c.requires.at in
    let open_charge = c.charge_for-open_charge.result in
    let there : c.args.cpu < length s.charges = omega (arith, c.requires.there, c.requires.wide) in
    let since : open_charge.since ≡ s.upto = c.charge_for-open_charge.ensures.since ∙ c.upto.ensures.upto in
    let numbered = numbered_unlike (owed s.upto s.charges) (alike_owed s.upto s.charges) items c.requires.counts.task_table.numbered in
    subst (λ (v : OpenChargesView). AreOpen v.charges items) (sym c.start_charge.ensures) (taken_waits s.upto c.args.cpu s.charges open_charge c.requires.free there since items
    (λ k d z e n.
    let is = read ∙ get_or_default items p x d c.requires.at in
    let k_is : k ≡ p = one_index items k p d d numbered z c.requires.at (n ∙ c.charge_for-open_charge.ensures.number ∙ ap (λ (t : Task). t.number) is) in
    subst (IsOpen open_charge) (is ∙ ap (λ i. get_or items i d) (sym k_is)) c.charge_for-open_charge.ensures.waits)
    c.requires.counts.waits)

pub returns-clause-keep_fresh : goal.returns-clause-keep_fresh
returns-clause-keep_fresh c i o other was =
    let s = c.args.charges.now in
    let q = c.clear_for.ensures in
    let tasks = owed_all s c.args.tasks.now in
    let w = length c.args.accounts.now.all in
    subst (λ (v : OpenChargesView). IsTrusted c.clear_for.new.self w o v.charges tasks i) (sym c.start_charge.ensures)
    (charge_other c.args.stale.now c.clear_for.new.self w c.args.cpu i o (Some c.charge_for-open_charge.result) s.charges tasks (q.others i other) (q.elsewhere i other) q.sum q.limit other was)

pub rating_of-rating-requires-clause-there : goal.rating_of-rating-requires-clause-there
rating_of-rating-requires-clause-there c = c.requires.there

pub rating_of-rating-requires-clause-cpus : goal.rating_of-rating-requires-clause-cpus
rating_of-rating-requires-clause-cpus c = c.requires.cpus

pub rating_of-rating-requires-clause-limit : goal.rating_of-rating-requires-clause-limit
rating_of-rating-requires-clause-limit c = c.requires.limit

pub rating_of-rating-requires-clause-within : goal.rating_of-rating-requires-clause-within
rating_of-rating-requires-clause-within c = grind (arith, common_steps)

pub charge_for-open_charge-requires-clause-turns : goal.charge_for-open_charge-requires-clause-turns
charge_for-open_charge-requires-clause-turns c = c.rating_of-rating.ensures.some

pub charge_for-open_charge-requires-clause-slow : goal.charge_for-open_charge-requires-clause-slow
charge_for-open_charge-requires-clause-slow c = c.rating_of-rating.ensures.slow

pub charge_for-open_charge-requires-clause-rated : goal.charge_for-open_charge-requires-clause-rated
charge_for-open_charge-requires-clause-rated c = grind (arith, common_steps)

pub charge_for-open_charge-requires-clause-early : goal.charge_for-open_charge-requires-clause-early
charge_for-open_charge-requires-clause-early c = c.upto.ensures.early

pub start_charge-requires-clause-there : goal.start_charge-requires-clause-there
start_charge-requires-clause-there c = grind (arith, common_steps)

pub start_charge-requires-clause-ahead : goal.start_charge-requires-clause-ahead
start_charge-requires-clause-ahead c = grind (arith, common_steps)

pub returns-clause-clock : goal.returns-clause-clock
returns-clause-clock c = ap (λ (v : OpenChargesView). v.upto) c.start_charge.ensures

pub returns-clause-wide : goal.returns-clause-wide
returns-clause-wide c = grind (arith, common_steps)

pub returns-clause-others : goal.returns-clause-others
returns-clause-others c = grind (arith, common_steps)

pub returns-clause-sum : goal.returns-clause-sum
returns-clause-sum c = c.clear_for.ensures.sum

pub returns-clause-limit : goal.returns-clause-limit
returns-clause-limit c = c.clear_for.ensures.limit

pub returns-clause-is_charging : goal.returns-clause-is_charging
returns-clause-is_charging c d =
    let s = c.args.charges.now in
    let p = c.args.place in
    let cpu = c.args.cpu in
    let open_charge = c.charge_for-open_charge.result in
    let rating = c.rating_of-rating in
    let tasks = owed_all s c.args.tasks.now in
    let many : length tasks ≡ length c.args.tasks.now = simp length-map in
    let within : p < length tasks = omega (arith, c.requires.at, many) in
    let there : cpu < length s.charges = omega (arith, c.requires.there, c.requires.wide) in
    let was_started : get_or c.start_charge.new.self.charges cpu None ≡ Some open_charge = ap (λ (v : OpenChargesView). get_or v.charges cpu None) c.start_charge.ensures ∙ get_or-set_same s.charges cpu (Some open_charge) None there in
    let named : open_charge.number ≡ (get_or tasks p d).number = c.charge_for-open_charge.ensures.number ∙ sym (seen_alike s c.args.tasks.now p c.at-task.result.now d within c.at-task.ensures).number in
    let sums = c.requires.counts.sums in
    let inactive = inactive_is c.args.accounts.now (shares tasks) cpu sums in
    let w = length c.args.accounts.now.all in
    let noted = subst (λ (m : Basis). IfSome rating.result.claim (IsOn m)) (λ i. record { uinact = inactive i; share = sums.total i / w; limit = c.args.limit }) rating.ensures.claim in
    subst (λ (o : Option OpenCharge). IsSettled (Some (get_or tasks p d).number) (basis_in w c.args.limit tasks cpu) o) (sym was_started)
    (named, subst (λ o. IfSome o (IsOn (basis_in w c.args.limit tasks cpu))) (sym c.charge_for-open_charge.ensures.claim) noted)

pub returns-clause-here : goal.returns-clause-here
returns-clause-here c d low clear =
    let s = c.args.charges.now in
    let cpu = c.args.cpu in
    let open_charge = c.charge_for-open_charge.result in
    let tasks = owed_all s c.args.tasks.now in
    let w = length c.args.accounts.now.all in
    let n = c.clear_for.new.self in
    let q = c.clear_for.ensures in
    let sums = c.requires.counts.sums in
    let many : length tasks ≡ length c.args.tasks.now = simp length-map in
    let within : c.args.place < length tasks = omega (arith, c.requires.at, many) in
    let there : cpu < length s.charges = omega (arith, c.requires.there, c.requires.wide) in
    let was_started : get_or c.start_charge.new.self.charges cpu None ≡ Some open_charge = ap (λ (v : OpenChargesView). get_or v.charges cpu None) c.start_charge.ensures ∙ get_or-set_same s.charges cpu (Some open_charge) None there in
    let named : open_charge.number ≡ (get_or tasks c.args.place d).number = c.charge_for-open_charge.ensures.number ∙ sym (seen_alike s c.args.tasks.now c.args.place c.at-task.result.now d within c.at-task.ensures).number in
    let inactive = inactive_is c.args.accounts.now (shares tasks) cpu sums in
    let is = subst (λ (m : Basis). IfSome c.rating_of-rating.result.claim (IsOn m)) (λ i. record { uinact = inactive i; share = sums.total i / w; limit = c.args.limit }) c.rating_of-rating.ensures.claim in
    let kept = subst (λ o. IfSome o (IsOn (basis_in w c.args.limit tasks cpu))) (sym c.charge_for-open_charge.ensures.claim) is in
    let rated : c.is_some-is_rated.result ≡ is_some open_charge.claim = c.is_some-is_rated.ensures ∙ ap is_some (sym c.charge_for-open_charge.ensures.claim) in
    let settled = noted_by n w c.args.limit cpu tasks open_charge.claim c.is_some-is_rated.result rated kept (λ t.
    let p = q.noted t clear in
    (q.sum ∙ p.0 ∙ c.total.ensures ∙ sums.total, q.limit ∙ p.1)) in
    subst (λ (o : Option OpenCharge). IsSettled (Some (get_or tasks c.args.place d).number) (noted_basis n w tasks cpu) o × IsFree (bit_at n.rated cpu) o) (sym was_started)
    ((named, settled), free_by open_charge.claim c.is_some-is_rated.result (bit_at n.rated cpu) rated (λ t. q.marked t clear))
