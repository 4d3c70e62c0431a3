use Rattle.std.proofs.Common.{◌≡◌, ◌<◌, ◌+◌, ◌-◌, List, length, get_or, take, drop, map, ap, sym, refl, ◌∙◌, subst, arith, All}
use Rattle.std.specs.Prelude.{nat_le}
use Rattle.std.specs.List.{prefix_len}
use Rattle.std.proofs.lemmas.List.{take_rest, length-drop}
use Rattle.domain_run.specs.declared.happened.Happened.{Happened}
use Rattle.domain_run.specs.Switch.{Switch}
use Rattle.run_figures.specs.private.Keeping.{accounting_view_of}
use Rattle.run_figures.specs.private.Running.{with_stay_of, without_rest_of, with_switch_on}
use Rattle.run_figures.specs.private.Logging.{logged_all, with_preemption, IsLoggedWithin}
use Rattle.run_figures.proofs.After.{blank_cpu}
use Rattle.run_figures.proofs.Streaming.{none_streamed, streamed_keyed, streamed_room, then_keyed, then_few, streamed_ran_keyed, streamed_cpus_keyed, streamed_inside, streamed_small, streamed_few, streamed_cpus_small, streamed_cpus_few, one_streamed, all_streamed}
use Rattle.run_figures.proofs.accounting.stream_piece.Goals as goal

pub loop-switch-init : goal.loop-switch-init
loop-switch-init c = record {
  streamed = none_streamed (accounting_view_of c.args.streamed.now c.args.places.now) c.args.happened.now c.args.switches.now c.args.logged.now.items c.args.ran.now.tasks.items c.args.ran.now.cpus.items c.requires.kept c.requires.next;
  logged_room = refl;
  tasks_room = refl;
  cpus_room = refl;
}

pub log_until-from-requires-clause-keyed : goal.log_until-from-requires-clause-keyed
log_until-from-requires-clause-keyed c =
    streamed_keyed (accounting_view_of c.args.streamed.now c.args.places.now) c.args.happened.now c.args.switches.now c.loop-switch.from c.loop-switch.switch-index c.loop-switch.logged.items c.loop-switch.ran.tasks.items c.loop-switch.ran.cpus.items c.loop-switch.invariant.streamed

pub log_until-from-requires-clause-room : goal.log_until-from-requires-clause-room
log_until-from-requires-clause-room c =
    streamed_room (accounting_view_of c.args.streamed.now c.args.places.now) c.args.happened.now c.args.switches.now c.loop-switch.from c.loop-switch.switch-index c.loop-switch.logged.items c.loop-switch.ran.tasks.items c.loop-switch.ran.cpus.items _ c.loop-switch.invariant.streamed c.requires.next (take_rest c.args.happened.now c.loop-switch.from)

pub log_switch-requires-clause-keyed : goal.log_switch-requires-clause-keyed
log_switch-requires-clause-keyed c =
    let hs = c.args.happened.now in
    let from = c.loop-switch.from in
    let count = c.log_until-from.result in
    let after : c.log_until-from.new.logged.items ≡ map (logged_all c.args.streamed.now.time (take count (drop from hs))) c.loop-switch.logged.items =
    c.log_until-from.ensures.logged ∙ ap (λ (xs : List Happened). map (logged_all c.args.streamed.now.time (take count xs)) c.loop-switch.logged.items) (take_rest hs from) in
    then_keyed (accounting_view_of c.args.streamed.now c.args.places.now) hs c.args.switches.now from c.loop-switch.switch-index count c.loop-switch.logged.items c.log_until-from.new.logged.items c.loop-switch.ran.tasks.items c.loop-switch.ran.cpus.items c.loop-switch.invariant.streamed after

pub log_switch-requires-clause-room : goal.log_switch-requires-clause-room
log_switch-requires-clause-room c =
    let hs = c.args.happened.now in
    let from = c.loop-switch.from in
    let count = c.log_until-from.result in
    let after : c.log_until-from.new.logged.items ≡ map (logged_all c.args.streamed.now.time (take count (drop from hs))) c.loop-switch.logged.items =
    c.log_until-from.ensures.logged ∙ ap (λ (xs : List Happened). map (logged_all c.args.streamed.now.time (take count xs)) c.loop-switch.logged.items) (take_rest hs from) in
    then_few (accounting_view_of c.args.streamed.now c.args.places.now) hs c.args.switches.now from c.loop-switch.switch-index count c.loop-switch.logged.items c.log_until-from.new.logged.items c.loop-switch.ran.tasks.items c.loop-switch.ran.cpus.items c.loop-switch.invariant.streamed c.requires.next c.loop-switch-test.true after

pub put_switch-requires-clause-keyed : goal.put_switch-requires-clause-keyed
put_switch-requires-clause-keyed c =
    streamed_ran_keyed (accounting_view_of c.args.streamed.now c.args.places.now) c.args.happened.now c.args.switches.now c.loop-switch.from c.loop-switch.switch-index c.loop-switch.logged.items c.loop-switch.ran.tasks.items c.loop-switch.ran.cpus.items c.loop-switch.invariant.streamed

pub put_switch-requires-clause-cpu : goal.put_switch-requires-clause-cpu
put_switch-requires-clause-cpu c =
    streamed_cpus_keyed (accounting_view_of c.args.streamed.now c.args.places.now) c.args.happened.now c.args.switches.now c.loop-switch.from c.loop-switch.switch-index c.loop-switch.logged.items c.loop-switch.ran.tasks.items c.loop-switch.ran.cpus.items c.loop-switch.invariant.streamed

pub put_switch-requires-clause-inside : goal.put_switch-requires-clause-inside
put_switch-requires-clause-inside c =
    subst (λ (s : Switch). s.cpu < length c.loop-switch.ran.cpus.items) (sym c.switch-item.is)
    (streamed_inside (accounting_view_of c.args.streamed.now c.args.places.now) c.args.happened.now c.args.switches.now c.loop-switch.from c.loop-switch.switch-index c.switch-item.result c.loop-switch.logged.items c.loop-switch.ran.tasks.items c.loop-switch.ran.cpus.items c.loop-switch.invariant.streamed c.requires.next c.loop-switch-test.true)

pub put_switch-requires-clause-time : goal.put_switch-requires-clause-time
put_switch-requires-clause-time c =
    streamed_small (accounting_view_of c.args.streamed.now c.args.places.now) c.args.happened.now c.args.switches.now c.loop-switch.from c.loop-switch.switch-index c.loop-switch.logged.items c.loop-switch.ran.tasks.items c.loop-switch.ran.cpus.items c.loop-switch.invariant.streamed c.requires.run c.requires.next c.loop-switch-test.true

pub put_switch-requires-clause-moves : goal.put_switch-requires-clause-moves
put_switch-requires-clause-moves c =
    streamed_few (accounting_view_of c.args.streamed.now c.args.places.now) c.args.happened.now c.args.switches.now c.loop-switch.from c.loop-switch.switch-index c.loop-switch.logged.items c.loop-switch.ran.tasks.items c.loop-switch.ran.cpus.items c.loop-switch.invariant.streamed c.requires.next c.loop-switch-test.true

pub put_switch-requires-clause-busy : goal.put_switch-requires-clause-busy
put_switch-requires-clause-busy c =
    streamed_cpus_small (accounting_view_of c.args.streamed.now c.args.places.now) c.args.happened.now c.args.switches.now c.loop-switch.from c.loop-switch.switch-index c.loop-switch.logged.items c.loop-switch.ran.tasks.items c.loop-switch.ran.cpus.items c.loop-switch.invariant.streamed c.requires.run c.requires.next c.loop-switch-test.true

pub put_switch-requires-clause-count : goal.put_switch-requires-clause-count
put_switch-requires-clause-count c =
    streamed_cpus_few (accounting_view_of c.args.streamed.now c.args.places.now) c.args.happened.now c.args.switches.now c.loop-switch.from c.loop-switch.switch-index c.loop-switch.logged.items c.loop-switch.ran.tasks.items c.loop-switch.ran.cpus.items c.loop-switch.invariant.streamed c.requires.next c.loop-switch-test.true

pub loop-switch-preserved : goal.loop-switch-preserved
loop-switch-preserved c =
    let hs = c.args.happened.now in
    let from = c.loop-switch.from in
    let i = c.loop-switch.switch-index in
    let count = c.log_until-from.result in
    let end = c.args.streamed.now.time in
    let item : Switch = c.switch-item.result in
    let same : item ≡ get_or c.args.switches.now i item = c.switch-item.is in
    let rest : take (length hs - from) (drop from hs) ≡ drop from hs = take_rest hs from in
    let logged = c.log_until-from.new.logged.items in
    let ran = c.loop-switch.ran.tasks.items in
    let cpus = c.loop-switch.ran.cpus.items in
    let inv = c.loop-switch.invariant in
    record {
      logged_room = c.log_switch.ensures.same_room ∙ c.log_until-from.ensures.same_room ∙ inv.logged_room;
      tasks_room = c.put_switch.ensures.same_tasks_room ∙ inv.tasks_room;
      cpus_room = c.put_switch.ensures.same_cpus_room ∙ inv.cpus_room;
      streamed = one_streamed (accounting_view_of c.args.streamed.now c.args.places.now) hs c.args.switches.now from i count item blank_cpu c.loop-switch.logged.items logged c.log_switch.new.logged.items
          ran c.put_switch.new.tables.tasks.items cpus c.put_switch.new.tables.cpus.items
          c.loop-switch.invariant.streamed c.requires.run c.requires.next c.loop-switch-test.true
          (c.log_until-from.ensures.count ∙ (λ j. prefix_len (λ h. nat_le h.time ((c.time.ensures ∙ ap (λ (s : Switch). s.time) same) j)) (rest j)))
          (c.log_until-from.ensures.logged ∙ ap (λ (xs : List Happened). map (logged_all end (take count xs)) c.loop-switch.logged.items) rest)
          (λ n all. c.log_switch.ensures.within (n + count) (c.log_until-from.ensures.within n all))
          (c.log_switch.ensures.logged ∙ ap (λ (s : Switch). map (with_preemption s) logged) same)
          (c.put_switch.ensures.tasks blank_cpu ∙ ap (λ (s : Switch). map (without_rest_of (get_or cpus s.cpu blank_cpu).task (end - s.time)) (map (with_stay_of s.next s.cpu (end - s.time)) ran)) same)
          (c.put_switch.ensures.cpus ∙ ap (λ (s : Switch). map (with_switch_on s (end - s.time)) cpus) same);
    }

pub log_all-requires-clause-keyed : goal.log_all-requires-clause-keyed
log_all-requires-clause-keyed c =
    streamed_keyed (accounting_view_of c.args.streamed.now c.args.places.now) c.args.happened.now c.args.switches.now c.loop-switch.from c.loop-switch.switch-index c.loop-switch.logged.items c.loop-switch.ran.tasks.items c.loop-switch.ran.cpus.items c.loop-switch.invariant.streamed

pub log_all-requires-clause-room : goal.log_all-requires-clause-room
log_all-requires-clause-room c =
    streamed_room (accounting_view_of c.args.streamed.now c.args.places.now) c.args.happened.now c.args.switches.now c.loop-switch.from c.loop-switch.switch-index c.loop-switch.logged.items c.loop-switch.ran.tasks.items c.loop-switch.ran.cpus.items _ c.loop-switch.invariant.streamed c.requires.next (take_rest c.args.happened.now c.loop-switch.from)

pub returns-clause-kept : goal.returns-clause-kept
returns-clause-kept c =
    let hs = c.args.happened.now in
    let from = c.loop-switch.from in
    let a = accounting_view_of c.args.streamed.now c.args.places.now in
    let rest : take (length hs - from) (drop from hs) ≡ drop from hs = take_rest hs from in
    let all : length a.happened + from + length (take (length hs - from) (drop from hs)) ≡ length a.happened + length hs =
    omega (arith, ap (λ (xs : List Happened). length xs) rest, length-drop from hs, c.loop-switch.invariant.streamed.inside) in
    all_streamed a hs c.args.switches.now from c.loop-switch.switch-index c.loop-switch.logged.items c.log_all.new.logged.items c.loop-switch.ran.tasks.items c.loop-switch.ran.cpus.items c.loop-switch.invariant.streamed c.loop-switch-test.false
    (c.log_all.ensures.logged ∙ ap (λ (xs : List Happened). map (logged_all a.time xs) c.loop-switch.logged.items) rest)
    (subst (λ n. All (IsLoggedWithin n) c.log_all.new.logged.items) all (c.log_all.ensures.within (length a.happened + from) c.loop-switch.invariant.streamed.logged.within))
