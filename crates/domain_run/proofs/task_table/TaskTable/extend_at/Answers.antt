use Rattle.std.proofs.Common.{◌≡◌, ◌+◌, ◌<◌, ◌≤◌, ℕ, Option, Some, length, map, get_or, set, refl, sym, ap, subst, ◌∙◌, arith}
use Rattle.std.specs.Prelude.{All, option_map}
use Rattle.std.proofs.lemmas.List.{get_or_default, length-map, length-set}
use Rattle.std.proofs.lemmas.List.Elements.{All-set}
use Rattle.domain_run.specs.declared.task.Task.{Task}
use Rattle.due_times.specs.declared.charges.OpenCharge.{OpenCharge}
use Rattle.task_script.specs.script.ScriptView.{CursorView}
use Rattle.task_script.specs.script.Segments.{next_segment, passes_late_timer}
use Rattle.due_times.specs.OpenCharges.{OpenChargesView, ending_at, IsAhead}
use Rattle.domain_run.specs.Sound.{IsSound}
use Rattle.domain_run.specs.private.StaleCharges.{AreSettled}
use Rattle.domain_run.specs.private.Extending.{with_more, GoesOn, MayExtend}
use Rattle.domain_run.specs.private.TaskTable.{TaskTableView}
use Rattle.domain_run.specs.private.RunQueue.{IsCounted}
use Rattle.domain_run.specs.private.Owed.{owed, owed_all, AreOpen}
use Rattle.domain_run.proofs.Extending.{IsStored, stored_at, extended_view, extended_waits, extended_goes, more_counted, more_settled, more_sound}
use Rattle.domain_run.proofs.task_table.TaskTable.extend_at.Goals as goal

pub more_of-requires-clause-timed : goal.more_of-requires-clause-timed
more_of-requires-clause-timed c =
    let i = c.self.inside in
    (stored_at c.args.time (length i.queue.accounts.all) c.args.self.now i.queue i.charges i.tasks c.args.cpu c.args.place c.args.open_charge c.at.result.now c.self.view_is c.self.invariant.counted c.self.invariant.waits c.requires.is_charging c.requires.at c.requires.home c.requires.sound c.at.ensures).timed

pub more_of-requires-clause-waits : goal.more_of-requires-clause-waits
more_of-requires-clause-waits c =
    let i = c.self.inside in
    (stored_at c.args.time (length i.queue.accounts.all) c.args.self.now i.queue i.charges i.tasks c.args.cpu c.args.place c.args.open_charge c.at.result.now c.self.view_is c.self.invariant.counted c.self.invariant.waits c.requires.is_charging c.requires.at c.requires.home c.requires.sound c.at.ensures).waits

-- the same of the task that is changed
stored_mut : (c : goal.After-end_at) → IsStored c.args.time c.self.inside.charges c.self.inside.tasks c.args.cpu c.args.place c.args.open_charge c.at_mut.result.now
stored_mut c =
    let i = c.self.inside in
    stored_at c.args.time (length i.queue.accounts.all) c.args.self.now i.queue i.charges i.tasks c.args.cpu c.args.place c.args.open_charge c.at_mut.result.now c.self.view_is c.self.invariant.counted c.self.invariant.waits c.requires.is_charging c.requires.at c.requires.home c.requires.sound c.at_mut.ensures.value

pub add_work-requires-clause-timed : goal.add_work-requires-clause-timed
add_work-requires-clause-timed c =
    let i = c.self.inside in
    (stored_at c.args.time (length i.queue.accounts.all) c.args.self.now i.queue i.charges i.tasks c.args.cpu c.args.place c.args.open_charge c.at_mut.result.now c.self.view_is c.self.invariant.counted c.self.invariant.waits c.requires.is_charging c.requires.at c.requires.home c.requires.sound c.at_mut.ensures.value).timed

may : (c : goal.After-end_at) → MayExtend (c.self.inside.charges.upto + c.args.ticks) c.args.time c.args.open_charge c.in-Some.more c.at_mut.result.now
may c =
    let x = c.at.result.now in
    let y = c.at_mut.result.now in
    let first : MayExtend (c.upto.result + c.args.ticks) c.args.time c.args.open_charge c.in-Some.more x = c.in-Some.ensures.may in
    let same : x ≡ y = c.at.ensures ∙ get_or_default c.self.inside.tasks c.args.place x y (stored_mut c).inside ∙ sym c.at_mut.ensures.value in
    subst (λ (t : Task). MayExtend (c.self.inside.charges.upto + c.args.ticks) c.args.time c.args.open_charge c.in-Some.more t) same
    (subst (λ (n : ℕ). MayExtend (n + c.args.ticks) c.args.time c.args.open_charge c.in-Some.more x) c.upto.ensures.upto first)

wide : (c : goal.After-end_at) → c.args.cpu < length c.self.inside.charges.charges
wide c =
    let there = subst (λ (r : TaskTableView). c.args.cpu < r.cpus) (sym c.self.view_is) c.requires.there in
    omega (arith, there, c.self.invariant.wide)

ahead : (c : goal.After-end_at) → IsAhead c.self.inside.charges.upto c.args.open_charge
ahead c = subst (λ (r : TaskTableView). IsAhead r.clock c.args.open_charge) (sym c.self.view_is) c.requires.ahead

-- the open charges, and the tasks as they are seen
charges_are : (c : goal.After-end_at) → c.end_at.new.self ≡ record c.self.inside.charges { charges = set c.self.inside.charges.charges c.args.cpu (Some (ending_at c.in-Some.more.end c.args.open_charge)) }
charges_are c =
    let s = c.self.inside.charges in
    c.end_at.ensures ∙ ap (λ (o : Option OpenCharge). record s { charges = set s.charges c.args.cpu (option_map (ending_at c.in-Some.more.end) o) }) (stored_mut c).there

tasks_are : (c : goal.After-end_at) → owed_all c.end_at.new.self (set c.self.inside.tasks c.args.place c.add_work.new.task) ≡ set (owed_all c.self.inside.charges c.self.inside.tasks) c.args.place (with_more c.args.time c.in-Some.more.work (owed c.self.inside.charges.upto c.self.inside.charges.charges c.at_mut.result.now))
tasks_are c =
    let i = c.self.inside in
    let s = i.charges in
    let x = c.at_mut.result.now in
    let st = stored_mut c in
    ap (λ (v : OpenChargesView). owed_all v (set i.tasks c.args.place c.add_work.new.task)) (charges_are c)
    ∙ ap (λ (t : Task). map (owed s.upto (set s.charges c.args.cpu (Some (ending_at c.in-Some.more.end c.args.open_charge)))) (set i.tasks c.args.place t)) c.add_work.ensures.task
    ∙ extended_view s.upto c.args.time c.args.cpu s.charges i.tasks c.args.open_charge st.there (wide c) c.args.place x st.inside c.at_mut.ensures.value st.number st.home st.numbered c.self.invariant.waits (ahead c) c.args.ticks c.in-Some.more (may c)

within : (c : goal.After-end_at) → c.args.place < length (owed_all c.self.inside.charges c.self.inside.tasks)
within c =
    let i = c.self.inside in
    let many : length (map (owed i.charges.upto i.charges.charges) i.tasks) ≡ length i.tasks = simp length-map in
    let inside = (stored_mut c).inside in
    omega (arith, many, inside)

pub invariant_of-self : goal.invariant_of-self
invariant_of-self c =
    let i = c.self.inside in
    let s = i.charges in
    let w = length i.queue.accounts.all in
    let x = c.at_mut.result.now in
    let m = c.in-Some.more in
    let st = stored_mut c in
    let seen = st.seen (owed s.upto s.charges x) in
    let waits = extended_waits s.upto c.args.time c.args.cpu s.charges i.tasks c.args.open_charge st.there (wide c) c.args.place x st.inside c.at_mut.ensures.value st.number st.home st.numbered c.self.invariant.waits (ahead c) c.args.ticks m (may c) in
    let settled = more_settled i.stale w i.queue.schedule.places c.args.cpu c.args.time m.work m.end s.charges (owed_all s i.tasks) c.args.open_charge st.there (wide c) c.args.place (owed s.upto s.charges x) (within c) seen c.self.invariant.settled in
    record {
      counted = subst (IsCounted w i.queue) (sym (tasks_are c)) (more_counted w c.args.time m.work i.queue (owed_all s i.tasks) c.args.place (owed s.upto s.charges x) (within c) seen c.self.invariant.counted);
      waits = subst (λ (v : OpenChargesView). AreOpen v.charges (set i.tasks c.args.place c.add_work.new.task)) (sym (charges_are c))
          (subst (λ (t : Task). AreOpen (set s.charges c.args.cpu (Some (ending_at m.end c.args.open_charge))) (set i.tasks c.args.place t)) (sym c.add_work.ensures.task) waits);
      wide = ap (λ (v : OpenChargesView). length v.charges) (charges_are c) ∙ length-set s.charges c.args.cpu (Some (ending_at m.end c.args.open_charge)) ∙ c.self.invariant.wide;
      settled = subst (λ (v : OpenChargesView). AreSettled i.stale w i.queue.schedule.places v.charges (owed_all c.end_at.new.self (set i.tasks c.args.place c.add_work.new.task))) (sym (charges_are c))
          (subst (AreSettled i.stale w i.queue.schedule.places (set s.charges c.args.cpu (Some (ending_at m.end c.args.open_charge)))) (sym (tasks_are c)) settled);
    }

pub returns-clause-on : goal.returns-clause-on
returns-clause-on c is_so =
    let i = c.self.inside in
    let s = i.charges in
    let x = c.at_mut.result.now in
    let m = c.in-Some.more in
    let st = stored_mut c in
    let old = c.args.self.now in
    let p = c.args.place in
    let later = (may c).later in
    let seen : (d : Task) → owed s.upto s.charges x ≡ get_or old.tasks p d = λ d. st.seen d ∙ ap (λ (r : TaskTableView). get_or r.tasks p d) c.self.view_is in
    let goes = extended_goes s.upto c.args.time c.args.cpu s.charges i.tasks c.args.open_charge st.there (wide c) p x st.inside c.at_mut.ensures.value st.number st.home st.numbered c.self.invariant.waits (ahead c) c.args.ticks m (may c) in
    record {
      work = m.work;
      end = m.end;
      later = subst (λ (r : TaskTableView). r.clock + c.args.ticks < m.end) c.self.view_is later;
      goes = λ d. subst (GoesOn c.args.time c.args.ticks c.args.open_charge.rate m.work) (seen d) goes;
      tasks = λ d. tasks_are c ∙ ap (λ (r : TaskTableView). set r.tasks p (with_more c.args.time m.work (owed s.upto s.charges x))) c.self.view_is ∙ ap (λ (t : Task). set old.tasks p (with_more c.args.time m.work t)) (seen d);
      charges = ap (λ (v : OpenChargesView). v.charges) (charges_are c) ∙ ap (λ (r : TaskTableView). set r.charges c.args.cpu (Some (ending_at m.end c.args.open_charge))) c.self.view_is;
    }

pub returns-clause-sound : goal.returns-clause-sound
returns-clause-sound c =
    let i = c.self.inside in
    let s = i.charges in
    let x = c.at_mut.result.now in
    let m = c.in-Some.more in
    let st = stored_mut c in
    let goes = extended_goes s.upto c.args.time c.args.cpu s.charges i.tasks c.args.open_charge st.there (wide c) c.args.place x st.inside c.at_mut.ensures.value st.number st.home st.numbered c.self.invariant.waits (ahead c) c.args.ticks m (may c) in
    let order : (with_more c.args.time m.work x).cursor.reference ≤ c.args.time = subst (λ (t : Task). t.cursor.reference ≤ c.args.time) c.add_work.ensures.task c.add_work.ensures.timed in
    let one = more_sound c.args.time m.work (owed s.upto s.charges x) goes.ready goes.some (subst (λ (k : CursorView). (next_segment k c.args.time).cursor.reference ≤ c.args.time) (sym st.cursor) order) st.sound in
    subst (All (IsSound c.args.time)) (sym (tasks_are c))
    (All-set (IsSound c.args.time) (owed_all s i.tasks) c.args.place (with_more c.args.time m.work (owed s.upto s.charges x)) one
    (subst (λ (r : TaskTableView). All (IsSound c.args.time) r.tasks) (sym c.self.view_is) c.requires.sound))

pub returns-clause-quiet : goal.returns-clause-quiet
returns-clause-quiet c is_so silent d =
    let i = c.self.inside in
    let x = c.at.result.now in
    let y = c.at_mut.result.now in
    let p = c.args.place in
    let st = stored_mut c in
    let same : x ≡ y = c.at.ensures ∙ get_or_default i.tasks p x y st.inside ∙ sym c.at_mut.ensures.value in
    let seen : owed i.charges.upto i.charges.charges y ≡ get_or c.args.self.now.tasks p d = st.seen d ∙ ap (λ (r : TaskTableView). get_or r.tasks p d) c.self.view_is in
    let cursor : x.cursor ≡ (get_or c.args.self.now.tasks p d).cursor = ap (λ (t : Task). t.cursor) same ∙ sym st.cursor ∙ ap (λ (t : Task). t.cursor) seen in
    ap (λ (k : CursorView). passes_late_timer k c.args.time) (sym cursor) ∙ c.in-Some.ensures.quiet refl silent
