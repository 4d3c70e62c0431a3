use Rattle.std.proofs.Common.{◌≡◌, ◌<◌, Bool, true, false, not, eqb, eqb-true, refl, List, [], ◌∷◌, ◌++◌, ℕ, ◌≤◌, None, get_or, length, sym, ap, ◌∙◌, arith, map, subst}
use Rattle.attr_check.specs.Ratio.{cap}
use Rattle.edf_pick.specs.declared.moves.Moved.{Moved}
use Rattle.edf_pick.specs.Moves.{moved_from}
use Rattle.edf_pick.specs.Places.{Places, placed}
use Rattle.domain_run.specs.Switch.{Switch}
use Rattle.domain_run.specs.declared.task.Task.{Task}
use Rattle.domain_run.specs.Sound.{HasNoTaskTwice}
use Rattle.domain_run.specs.Switches.{switches_from}
use Rattle.domain_run.specs.Tick.{candidates, prepared, sum_of}
use Rattle.std.specs.List.{flat_map}
use Rattle.std.proofs.lemmas.List.{length-append}
use Rattle.domain_run.specs.declared.happened.Happened.{Happened}
use Rattle.domain_run.specs.Log.{if_wanted}
use Rattle.domain_run.specs.private.TransitionLog.{GoHome, logged_of_task}
use Rattle.domain_run.specs.private.Choosing.{switch_made}
use Rattle.domain_run.proofs.Moving.{switched, none_moved}
use Rattle.domain_run.proofs.Starting.{sound_may}
use Rattle.domain_run.proofs.LoggedWoken.{walk_home}
use Rattle.domain_run.proofs.sweep.begin_charging.Goals as goal
use Rattle.domain_run.proofs.sweep.begin_charging.Goals.{After-choose_charging}

pub choose_charging-requires-clause-wide : goal.choose_charging-requires-clause-wide
choose_charging-requires-clause-wide c = ap (λ (ps : Places). length ps) c.wake_all.ensures.places ∙ c.requires.cpus ∙ sym c.wake_all.ensures.cpus

pub choose_charging-requires-clause-apart : goal.choose_charging-requires-clause-apart
choose_charging-requires-clause-apart c = subst HasNoTaskTwice (sym c.wake_all.ensures.places) c.requires.apart

pub choose_charging-requires-clause-cpus : goal.choose_charging-requires-clause-cpus
choose_charging-requires-clause-cpus c = subst (λ (n : ℕ). (0 < n) × (n ≤ 64)) (sym c.wake_all.ensures.cpus) c.requires.narrow

pub choose_charging-requires-clause-within : goal.choose_charging-requires-clause-within
choose_charging-requires-clause-within c =
    subst (λ (ts : List Task). sum_of ts ≤ cap c.wake_all.new.task_table.cpus c.args.limit) (sym c.wake_all.ensures.tasks)
    (subst (λ (n : ℕ). sum_of (prepared c.args.time c.args.task_table.now.tasks) ≤ cap n c.args.limit) (sym c.wake_all.ensures.cpus) c.requires.within)

pub choose_charging-requires-clause-may : goal.choose_charging-requires-clause-may
choose_charging-requires-clause-may c = sound_may c.args.time c.wake_all.new.task_table.tasks c.wake_all.ensures.sound

-- the CPUs that another one has, from those before
moves_are : (c : After-choose_charging) → c.choose_charging.new.self.moves ≡ moved_from 0 c.args.task_table.now.places c.choose_charging.new.self.places
moves_are c = c.choose_charging.ensures.moves ∙ ap (λ (ps : Places). moved_from 0 ps c.choose_charging.new.self.places) c.wake_all.ensures.places

pub choose_charging-requires-clause-spare : goal.choose_charging-requires-clause-spare
choose_charging-requires-clause-spare c = omega (arith, c.requires.room, ap (λ (ps : Places). length ps) c.wake_all.ensures.places)

pub returns-clause-places : goal.returns-clause-places
returns-clause-places c =
    c.choose_charging.ensures.places
    ∙ (λ i. placed (length (c.wake_all.ensures.places i)) (candidates (c.wake_all.ensures.tasks i)) (c.wake_all.ensures.places i))

pub returns-clause-switches : goal.returns-clause-switches
returns-clause-switches c =
    let before = c.args.task_table.now.places in
    let after = c.choose_charging.new.self.places in
    let first = c.wake_all.new.task_table.tasks in
    let time = c.args.time in
    let start = c.args.switches.now.items in
    let are = moves_are (goal.at.returns-clause-switches c).After-choose_charging in
    c.choose_charging.ensures.switches
    ∙ ap (λ (ss : List Switch). start ++ ss)
    (ap (λ (ms : List Moved). map (switch_made time first after) ms) are
    ∙ switched time first first after (λ o. refl) 0 before after (λ i. ap (λ (n : ℕ). get_or after n None) (omega arith))
    ∙ ap (λ (ts : List Task). switches_from time ts 0 before after) c.wake_all.ensures.tasks)

pub returns-clause-none : goal.returns-clause-none
returns-clause-none c none =
    let before = c.args.task_table.now.places in
    let after = c.choose_charging.new.self.places in
    let are = moves_are (goal.at.returns-clause-none c).After-choose_charging in
    let len : length after ≡ length before = c.choose_charging.ensures.wide ∙ ap (λ (ps : Places). length ps) c.wake_all.ensures.places in
    let test : eqb (length c.moves.result.now) 0 ≡ true = sym c.is_empty-is_same.ensures ∙ negated c.is_empty-is_same.result none in
    none_moved 0 before after len (sym are ∙ sym c.moves.ensures ∙ empty_is c.moves.result.now (eqb-true (length c.moves.result.now) 0 test))
  where
    negated : (b : Bool) → not b ≡ false → b ≡ true
    negated true e = refl
    negated false e = absurd cc

    empty_is : (ms : List Moved) → length ms ≡ 0 → ms ≡ []
    empty_is [] e = refl
    empty_is (m ∷ ms) e = absurd (omega (arith, e))

-- what the parts logged, on the CPUs before the placement, is put in the order of those after it
pub returns-clause-logged : goal.returns-clause-logged
returns-clause-logged c =
    let log = c.args.log.now in
    let woken = c.wake_all.new.log in
    let after = c.go_home.new.self in
    let places : Places = c.choose_charging.new.self.places in
    let homes : GoHome places (length log.happened) woken.happened after.happened =
    subst (λ (n : ℕ). GoHome places n woken.happened after.happened) c.len-from.ensures
    (subst (λ (ps : Places). GoHome ps c.len-from.result woken.happened after.happened) c.occupants.ensures.occupants c.go_home.ensures.home) in
    walk_home places c.args.time c.args.task_table.now.tasks log woken after c.requires.numbered c.wake_all.ensures.logged c.go_home.ensures.wanted c.go_home.ensures.room homes

pub go_home-requires-clause-from : goal.go_home-requires-clause-from
go_home-requires-clause-from c =
    let len : List Happened → ℕ = λ hs. length hs in
    omega (arith, c.len-from.ensures, ap len c.wake_all.ensures.logged.happened, length-append c.args.log.now.happened (if_wanted c.args.log.now (flat_map (logged_of_task c.args.time) c.args.task_table.now.tasks)))
