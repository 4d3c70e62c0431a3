use Rattle.std.proofs.Common.{◌<◌, ◌^◌, [], length, ap, sym, subst, ◌∙◌, arith}
use Rattle.domain_run.specs.Domain.{Domain}
use Rattle.domain_run.specs.Jump.{under_way}
use Rattle.domain_run.specs.Happened.{logged_by_beginning}
use Rattle.domain_run.specs.Log.{HasLogged}
use Rattle.domain_run.proofs.Logging.{logs_more}
use Rattle.domain_run.proofs.state.State.begin_charging_anew.Goals as goal

pub overflow_mul-len : goal.overflow_mul-len
overflow_mul-len c = omega (arith, c.len.ensures.few)

pub overflow_add-len : goal.overflow_add-len
overflow_add-len c = omega (arith, c.len.ensures.few)

pub begin_charging-requires-clause-early : goal.begin_charging-requires-clause-early
begin_charging-requires-clause-early c = subst (λ (x : Domain). x.time < 2 ^ 42) (sym c.make_room.ensures.same) c.requires

pub begin_charging-requires-clause-log : goal.begin_charging-requires-clause-log
begin_charging-requires-clause-log c wanted = omega (arith, c.in-Ok-make_room.ensures.ok wanted, c.len.ensures.len, ap (λ (x : Domain). length x.tasks) c.self.view_is)

pub returns-then-begin_charging-clause-ok : goal.returns-then-begin_charging-clause-ok
returns-then-begin_charging-clause-ok c = c.begin_charging.ensures.ok c.if-begin_charging.true ∙ ap under_way c.make_room.ensures.same

pub returns-then-begin_charging-clause-begun : goal.returns-then-begin_charging-clause-begun
returns-then-begin_charging-clause-begun c = c.begin_charging.ensures.begun c.if-begin_charging.true

pub returns-then-begin_charging-clause-err : goal.returns-then-begin_charging-clause-err
returns-then-begin_charging-clause-err c = tt

pub returns-then-begin_charging-clause-domain : goal.returns-then-begin_charging-clause-domain
returns-then-begin_charging-clause-domain c = c.make_room.ensures.domain

pub returns-then-begin_charging-clause-logged : goal.returns-then-begin_charging-clause-logged
returns-then-begin_charging-clause-logged c =
    let logged : HasLogged c.make_room-2.new.self (logged_by_beginning c.args.self.now) c.begin_charging.new.log =
    subst (λ (x : Domain). HasLogged c.make_room-2.new.self (logged_by_beginning x) c.begin_charging.new.log) c.make_room.ensures.same (c.begin_charging.ensures.logged c.if-begin_charging.true) in
    logs_more [] (logged_by_beginning c.args.self.now) c.args.log.now c.make_room-2.new.self c.begin_charging.new.log c.make_room-2.ensures.logged logged

pub returns-then-begin_charging-clause-room : goal.returns-then-begin_charging-clause-room
returns-then-begin_charging-clause-room c = c.begin_charging.ensures.room c.if-begin_charging.true

pub returns-then-begin_charging-clause-unlogged : goal.returns-then-begin_charging-clause-unlogged
returns-then-begin_charging-clause-unlogged c = tt

pub returns-else-begin_charging-clause-ok : goal.returns-else-begin_charging-clause-ok
returns-else-begin_charging-clause-ok c = tt

pub returns-else-begin_charging-clause-begun : goal.returns-else-begin_charging-clause-begun
returns-else-begin_charging-clause-begun c = tt

pub returns-else-begin_charging-clause-logged : goal.returns-else-begin_charging-clause-logged
returns-else-begin_charging-clause-logged c = tt

pub returns-else-begin_charging-clause-room : goal.returns-else-begin_charging-clause-room
returns-else-begin_charging-clause-room c = tt

pub returns-else-begin_charging-clause-err : goal.returns-else-begin_charging-clause-err
returns-else-begin_charging-clause-err c = c.begin_charging.ensures.full c.if-begin_charging.false ∙ c.make_room.ensures.same

pub returns-else-begin_charging-clause-domain : goal.returns-else-begin_charging-clause-domain
returns-else-begin_charging-clause-domain c = c.make_room.ensures.domain

pub returns-else-begin_charging-clause-unlogged : goal.returns-else-begin_charging-clause-unlogged
returns-else-begin_charging-clause-unlogged c = subst (λ l. HasLogged c.args.log.now [] l) (sym (c.begin_charging.ensures.unlogged c.if-begin_charging.false)) c.make_room-2.ensures.logged
