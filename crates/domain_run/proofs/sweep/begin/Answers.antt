use Rattle.std.proofs.Common.{◌≡◌, Bool, true, false, not, eqb, eqb-true, refl, List, [], ◌∷◌, ◌++◌, ℕ, ◌≤◌, None, get_or, length, sym, ap, ◌∙◌, arith, map, subst}
use Rattle.edf_pick.specs.declared.moves.Moved.{Moved}
use Rattle.edf_pick.specs.Moves.{moved_from}
use Rattle.edf_pick.specs.Places.{Places, placed}
use Rattle.edf_pick.proofs.CallerLemmas.{moved_length}
use Rattle.std.proofs.lemmas.Grind.{common_steps}
use Rattle.domain_run.specs.Switch.{Switch}
use Rattle.domain_run.specs.declared.task.Task.{Task}
use Rattle.domain_run.specs.Sound.{HasNoTaskTwice}
use Rattle.domain_run.specs.Switches.{switches_from}
use Rattle.domain_run.specs.Tick.{candidates}
use Rattle.domain_run.specs.private.Choosing.{AreWithin, switch_made}
use Rattle.domain_run.specs.private.TransitionLog.{GoHome}
use Rattle.domain_run.proofs.Moving.{state_homed, switched, moved_within, none_moved}
use Rattle.domain_run.proofs.LoggedWoken.{walk_home}
use Rattle.domain_run.proofs.sweep.begin.Goals as goal
use Rattle.domain_run.proofs.sweep.begin.Goals.{After-choose}

pub choose-requires-clause-wide : goal.choose-requires-clause-wide
choose-requires-clause-wide c = ap (λ (ps : Places). length ps) c.wake_all.ensures.places ∙ c.requires.cpus ∙ sym c.wake_all.ensures.cpus

pub choose-requires-clause-apart : goal.choose-requires-clause-apart
choose-requires-clause-apart c = subst HasNoTaskTwice (sym c.wake_all.ensures.places) c.requires.apart

-- the CPUs that another one has, from those before
moves_are : (c : After-choose) → c.choose.new.self.moves ≡ moved_from 0 c.args.task_table.now.places c.choose.new.self.places
moves_are c = c.choose.ensures.moves ∙ ap (λ (ps : Places). moved_from 0 ps c.choose.new.self.places) c.wake_all.ensures.places

pub add_switches-requires-clause-narrow : goal.add_switches-requires-clause-narrow
add_switches-requires-clause-narrow c =
    let before = c.args.task_table.now.places in
    let few : length before ≤ 64 = omega (arith, c.requires.cpus, c.requires.narrow) in
    subst (AreWithin 64) (sym (moves_are (goal.at.add_switches-requires-clause-narrow c).After-choose))
    (λ k d h. let less = moved_within 0 before c.choose.new.self.places k d h in omega (arith, less, few))

pub add_switches-requires-clause-room : goal.add_switches-requires-clause-room
add_switches-requires-clause-room c =
    let before = c.args.task_table.now.places in
    let are = moves_are (goal.at.add_switches-requires-clause-room c).After-choose in
    omega (arith, c.requires.room, ap (λ (ms : List Moved). length ms) are, moved_length 0 before c.choose.new.self.places)

pub returns-clause-places : goal.returns-clause-places
returns-clause-places c =
    c.choose.ensures.places
    ∙ (λ i. placed (length (c.wake_all.ensures.places i)) (candidates (c.wake_all.ensures.tasks i)) (c.wake_all.ensures.places i))

pub returns-clause-switches : goal.returns-clause-switches
returns-clause-switches c =
    let before = c.args.task_table.now.places in
    let after = c.choose.new.self.places in
    let first = c.wake_all.new.task_table.tasks in
    let tasks = c.choose.new.self.tasks in
    let time = c.args.time in
    let start = c.args.switches.now.items in
    let are = moves_are (goal.at.returns-clause-switches c).After-choose in
    c.add_switches.ensures.switches
    ∙ ap (λ (ss : List Switch). start ++ ss)
    (ap (λ (ms : List Moved). map (switch_made time tasks after) ms) are
    ∙ switched time first tasks after (λ o. state_homed after first tasks o c.choose.ensures.tasks) 0 before after (λ i. ap (λ (n : ℕ). get_or after n None) (omega arith))
    ∙ ap (λ (ts : List Task). switches_from time ts 0 before after) c.wake_all.ensures.tasks)

negated : (b : Bool) → not b ≡ false → b ≡ true
negated true e = refl
negated false e = absurd cc

empty_is : (ms : List Moved) → length ms ≡ 0 → ms ≡ []
empty_is [] e = refl
empty_is (m ∷ ms) e = absurd (omega (arith, e))

pub returns-clause-none : goal.returns-clause-none
returns-clause-none c none =
    let before = c.args.task_table.now.places in
    let after = c.choose.new.self.places in
    let are = moves_are (goal.at.returns-clause-none c).After-choose in
    let len : length after ≡ length before = c.choose.ensures.wide ∙ ap (λ (ps : Places). length ps) c.wake_all.ensures.places in
    let test : eqb (length c.moves.result.now) 0 ≡ true = sym c.is_empty.ensures ∙ negated c.is_empty.result none in
    none_moved 0 before after len (sym are ∙ sym c.moves.ensures ∙ empty_is c.moves.result.now (eqb-true (length c.moves.result.now) 0 test))

-- what the parts logged, on the CPUs before the placement, is put in the order of those after it
pub returns-clause-logged : goal.returns-clause-logged
returns-clause-logged c =
    let log = c.args.log.now in
    let woken = c.wake_all.new.log in
    let after = c.go_home.new.self in
    let places : Places = c.choose.new.self.places in
    let homes : GoHome places (length log.happened) woken.happened after.happened =
    subst (λ (n : ℕ). GoHome places n woken.happened after.happened) c.len-from.ensures
    (subst (λ (ps : Places). GoHome ps c.len-from.result woken.happened after.happened) c.occupants.ensures.occupants c.go_home.ensures.home) in
    walk_home places c.args.time c.args.task_table.now.tasks log woken after c.requires.numbered c.wake_all.ensures.logged c.go_home.ensures.wanted c.go_home.ensures.room homes

pub wake_all-requires-clause-early : goal.wake_all-requires-clause-early
wake_all-requires-clause-early c = grind (arith, common_steps)

pub wake_all-requires-clause-narrow : goal.wake_all-requires-clause-narrow
wake_all-requires-clause-narrow c = grind (arith, common_steps)

pub wake_all-requires-clause-sound : goal.wake_all-requires-clause-sound
wake_all-requires-clause-sound c = grind (arith, common_steps)

pub wake_all-requires-clause-room : goal.wake_all-requires-clause-room
wake_all-requires-clause-room c = grind (arith, common_steps)

pub add_switches-requires-clause-early : goal.add_switches-requires-clause-early
add_switches-requires-clause-early c = grind (arith, common_steps)

pub go_home-requires-clause-from : goal.go_home-requires-clause-from
go_home-requires-clause-from c = grind (arith, common_steps)

pub go_home-requires-clause-narrow : goal.go_home-requires-clause-narrow
go_home-requires-clause-narrow c = grind (arith, common_steps)

pub go_home-requires-clause-wide : goal.go_home-requires-clause-wide
go_home-requires-clause-wide c = grind (arith, common_steps)

pub go_home-requires-clause-apart : goal.go_home-requires-clause-apart
go_home-requires-clause-apart c = grind (arith, common_steps)

pub go_home-requires-clause-homed : goal.go_home-requires-clause-homed
go_home-requires-clause-homed c = grind (arith, common_steps)

pub returns-clause-cpus : goal.returns-clause-cpus
returns-clause-cpus c = grind (arith, common_steps)

pub returns-clause-tasks : goal.returns-clause-tasks
returns-clause-tasks c = grind (arith, common_steps)

pub returns-clause-prepared : goal.returns-clause-prepared
returns-clause-prepared c = grind (arith, common_steps)

pub returns-clause-room : goal.returns-clause-room
returns-clause-room c = grind (arith, common_steps)

pub returns-clause-log : goal.returns-clause-log
returns-clause-log c = grind (arith, common_steps)
