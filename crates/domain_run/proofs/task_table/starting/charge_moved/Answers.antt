use Rattle.std.proofs.Common.{◌≡◌, ◌<◌, ◌≤◌, ◌++◌, ◌∷◌, [], ℕ, Option, List, length, map, take, get_or, inl, inr, sym, ap, subst, refl, ◌∙◌, arith}
use Rattle.std.specs.Prelude.{IfSome}
use Rattle.std.proofs.lemmas.Bool.{cases_eq}
use Rattle.std.proofs.lemmas.List.{get_or_default, append-nil, append_assoc, map-append, take_more}
use Rattle.attr_check.specs.Ratio.{cap}
use Rattle.edf_pick.specs.declared.moves.Moved.{Moved}
use Rattle.edf_pick.specs.Places.{Places}
use Rattle.std.proofs.lemmas.Grind.{common_steps}
use Rattle.domain_run.specs.Switch.{Switch, IsLeftIn}
use Rattle.domain_run.specs.declared.switch.PrevState.{PrevState}
use Rattle.domain_run.specs.declared.task.Task.{Task}
use Rattle.domain_run.specs.Sound.{occupant}
use Rattle.domain_run.specs.Switches.{prev_state_of}
use Rattle.domain_run.specs.Tick.{sum_of}
use Rattle.domain_run.specs.private.Choosing.{AreWithin, switch_made}
use Rattle.domain_run.specs.private.StaleCharges.{IsTrusted, AreSettledBut}
use Rattle.domain_run.specs.private.Owed.{owed, owed_all, MayStartOf}
use Rattle.domain_run.proofs.Choosing.{nobody, homed_more, homed_none}
use Rattle.domain_run.proofs.Starting.{here_sum, here_may_some, left_in_state, state_started}
use Rattle.domain_run.proofs.Owed.{alike_owed, numbered_unlike}
use Rattle.domain_run.proofs.task_table.starting.charge_moved.Goals as goal

pub loop-i-init : goal.loop-i-init
loop-i-init c =
    let tasks = owed_all c.args.charges.now c.args.tasks.now in
    let but = subst (λ (ms : List Moved). AreSettledBut ms c.args.stale.now (length c.args.accounts.now.all) c.args.schedule.now.places c.args.charges.now.charges tasks) (sym c.moves-moves.ensures) c.requires.settled in
    record {
      wide = refl;
      counts = c.requires.counts;
      written = sym (homed_none c.occupants-places.result.now tasks);
      within = c.requires.within;
      may = λ cpu. subst (λ (ps : Places). IfSome (occupant ps cpu) (MayStartOf tasks)) (sym c.occupants-places.ensures.occupants) (c.requires.may cpu);
      clock = refl;
      long = refl;
      trusted = λ cpu others. subst (λ (ps : Places). IsTrusted c.args.stale.now (length c.args.accounts.now.all) (occupant ps cpu) c.args.charges.now.charges tasks cpu) (sym c.occupants-places.ensures.occupants)
          (but cpu (λ j d h. others j d (omega arith) h));
      switches = sym (append-nil c.args.switches.now.items);
      few = omega arith;
      spare = refl;
    }

pub state_of-state-requires : goal.state_of-state-requires
state_of-state-requires c =
    let l = c.loop-i in
    record {
      numbered = (numbered_unlike (owed l.charges.upto l.charges.charges) (alike_owed l.charges.upto l.charges.charges) l.tasks l.invariant.counts.task_table.numbered);
    }

pub switch_of-requires : goal.switch_of-requires
switch_of-requires c =
    let within = subst (AreWithin (length c.args.accounts.now.all)) (sym c.moves-moves.ensures) c.requires.there in
    let less = within c.loop-i.i nobody (omega arith) in
    let l = c.loop-i in
    let m : Moved = get_or c.moves-moves.result.now l.i nobody in
    record {
      early = c.requires.early;
      narrow = omega (arith, less, c.requires.cpus.1);
      left = subst (λ (state : PrevState). IsLeftIn state m.before) (sym c.state_of-state.ensures) (left_in_state l.tasks m.before);
    }

pub charge_next-requires-clause-there : goal.charge_next-requires-clause-there
charge_next-requires-clause-there c =
    let within = subst (AreWithin (length c.args.accounts.now.all)) (sym c.moves-moves.ensures) c.requires.there in
    let less = within c.loop-i.i nobody (omega arith) in
    omega (arith, less, c.loop-i.invariant.wide)

pub charge_next-requires-clause-wide : goal.charge_next-requires-clause-wide
charge_next-requires-clause-wide c = c.loop-i.invariant.long ∙ c.requires.wide ∙ sym c.loop-i.invariant.wide

pub charge_next-requires-clause-cpus : goal.charge_next-requires-clause-cpus
charge_next-requires-clause-cpus c = subst (λ (n : ℕ). (0 < n) × (n ≤ 64)) (sym c.loop-i.invariant.wide) c.requires.cpus

pub charge_next-requires-clause-counts : goal.charge_next-requires-clause-counts
charge_next-requires-clause-counts c = c.loop-i.invariant.counts

pub charge_next-requires-clause-within : goal.charge_next-requires-clause-within
charge_next-requires-clause-within c = subst (λ (n : ℕ). sum_of (owed_all c.loop-i.charges c.loop-i.tasks) ≤ cap n c.args.moment.limit) (sym c.loop-i.invariant.wide) c.loop-i.invariant.within

pub charge_next-requires-clause-may : goal.charge_next-requires-clause-may
charge_next-requires-clause-may c = subst (λ (o : Option ℕ). IfSome o (MayStartOf (owed_all c.loop-i.charges c.loop-i.tasks))) (sym c.occupant_of-next.ensures) (c.loop-i.invariant.may _)

pub loop-i-preserved : goal.loop-i-preserved
loop-i-preserved c =
    let l = c.loop-i in
    let e = c.charge_next.ensures in
    let new = c.charge_next.new in
    let w = length c.args.accounts.now.all in
    let places = c.occupants-places.result.now in
    let moves = c.moves-moves.result.now in
    let cpu : ℕ = (get_or moves l.i nobody).cpu in
    let was = owed_all l.charges l.tasks in
    let now = owed_all new.charges new.tasks in
    let o = c.occupant_of-next.result in
    let m : Moved = get_or moves l.i nobody in
    let first = owed_all c.args.charges.now c.args.tasks.now in
    let f : Moved → Switch = switch_made c.args.moment.time first places in
    let start = c.args.switches.now.items in
    let state : c.state_of-state.result ≡ prev_state_of first m.before =
    c.state_of-state.ensures
    ∙ state_started l.charges.upto l.charges.charges l.tasks first places (take l.i moves) m.before l.invariant.written in
    let one : c.switch_of.result ≡ f m =
    c.switch_of.ensures ∙ (λ i. record { time = c.args.moment.time; prev = m.before; next = c.occupant_of-next.ensures i; cpu = m.cpu; state = state i }) in
    record {
      wide = e.wide ∙ l.invariant.wide;
      counts = e.counts;
      written = e.tasks ∙ homed_more places moves (owed_all c.args.charges.now c.args.tasks.now) was l.i nobody o (omega arith) l.invariant.written c.occupant_of-next.ensures;
      within = subst (λ (n : ℕ). n ≤ cap w c.args.moment.limit) (sym (ap sum_of e.tasks ∙ here_sum o cpu was)) l.invariant.within;
      may = λ i. subst (λ (ts : List Task). IfSome (occupant places i) (MayStartOf ts)) (sym e.tasks) (here_may_some o cpu was (occupant places i) (l.invariant.may i));
      clock = e.clock ∙ l.invariant.clock;
      long = e.charges ∙ l.invariant.long;
      trusted = λ i others. elim (cases_eq i cpu) [
        | inl same ↦
            subst (λ (n : ℕ). IsTrusted new.stale w (occupant places n) new.charges.charges now n) (sym same)
            (subst (λ (x : Option ℕ). IsTrusted new.stale w x new.charges.charges now cpu) c.occupant_of-next.ensures
            (subst (λ (n : ℕ). IsTrusted new.stale n o new.charges.charges now cpu) l.invariant.wide e.here))
        | inr other ↦
            let before : IsTrusted l.stale w (occupant places i) l.charges.charges was i = l.invariant.trusted i (λ j d low h at. elim (cases_eq j l.i) [
              | inl first ↦
                  let read : get_or moves j d ≡ get_or moves l.i nobody = ap (λ k. get_or moves k d) first ∙ get_or_default moves l.i d nobody (omega (arith, h, first)) in
                  other (sym at ∙ ap (λ (m : Moved). m.cpu) read)
              | inr later ↦ others j d (omega (arith, low, later)) h at
            ]) in
            subst (λ (n : ℕ). IsTrusted new.stale n (occupant places i) new.charges.charges now i) l.invariant.wide
            (e.keep_fresh i (occupant places i) other (subst (λ (n : ℕ). IsTrusted l.stale n (occupant places i) l.charges.charges was i) (sym l.invariant.wide) before))
      ];
      switches = c.push_reserved.ensures.items
          ∙ ap (λ (x : Switch). l.switches.items ++ x ∷ []) one
          ∙ ap (λ (ss : List Switch). ss ++ f m ∷ []) l.invariant.switches
          ∙ append_assoc start (map f (take l.i moves)) (f m ∷ [])
          ∙ ap (λ (ss : List Switch). start ++ ss) (sym (ap (map f) (take_more moves l.i nobody c.loop-i-test.true) ∙ map-append f (take l.i moves) (m ∷ [])));
      few = omega (arith, l.invariant.few, c.push_reserved.ensures.len);
      spare = c.push_reserved.ensures.capacity ∙ l.invariant.spare;
    }

pub returns-clause-settled : goal.returns-clause-settled
returns-clause-settled c =
    let l = c.loop-i in
    λ cpu. subst (λ (ps : Places). IsTrusted l.stale (length c.args.accounts.now.all) (occupant ps cpu) l.charges.charges (owed_all l.charges l.tasks) cpu) c.occupants-places.ensures.occupants
    (l.invariant.trusted cpu (λ j d low h. absurd (omega (arith, low, h))))

pub charge_next-requires-clause-limit : goal.charge_next-requires-clause-limit
charge_next-requires-clause-limit c = grind (arith, common_steps)

pub returns-clause-wide : goal.returns-clause-wide
returns-clause-wide c = grind (arith, common_steps)

pub returns-clause-counts : goal.returns-clause-counts
returns-clause-counts c = grind (arith, common_steps)

pub returns-clause-tasks : goal.returns-clause-tasks
returns-clause-tasks c = grind (arith, common_steps)

pub returns-clause-clock : goal.returns-clause-clock
returns-clause-clock c = grind (arith, common_steps)

pub returns-clause-charges : goal.returns-clause-charges
returns-clause-charges c = grind (arith, common_steps)

pub returns-clause-switches : goal.returns-clause-switches
returns-clause-switches c = grind (arith, common_steps)

pub returns-clause-spare : goal.returns-clause-spare
returns-clause-spare c = grind (arith, common_steps)
