use Rattle.std.proofs.Common.{◌<◌, ◌^◌, [], length, ap, sym, subst, ◌∙◌, arith}
use Rattle.domain_run.specs.Domain.{Domain}
use Rattle.domain_run.specs.Jump.{under_way}
use Rattle.domain_run.specs.Happened.{logged_by_beginning}
use Rattle.domain_run.specs.Log.{HasLogged}
use Rattle.domain_run.proofs.Logging.{logs_more}
use Rattle.domain_run.proofs.state.State.begin_unlisted.Goals as goal

pub overflow_mul-len : goal.overflow_mul-len
overflow_mul-len c = omega (arith, c.len.ensures.few)

pub overflow_add-len : goal.overflow_add-len
overflow_add-len c = omega (arith, c.len.ensures.few)

pub begin_in_room-requires-clause-early : goal.begin_in_room-requires-clause-early
begin_in_room-requires-clause-early c = subst (λ (x : Domain). x.time < 2 ^ 42) (sym c.make_room.ensures.same) c.requires

pub begin_in_room-requires-clause-log : goal.begin_in_room-requires-clause-log
begin_in_room-requires-clause-log c wanted = omega (arith, c.in-Ok-make_room.ensures.ok wanted, c.len.ensures.len, ap (λ (x : Domain). length x.tasks) c.self.view_is)

pub returns-then-begin_in_room-clause-ok : goal.returns-then-begin_in_room-clause-ok
returns-then-begin_in_room-clause-ok c = c.begin_in_room.ensures.ok c.if-begin_in_room.true ∙ ap under_way c.make_room.ensures.same

pub returns-then-begin_in_room-clause-begun : goal.returns-then-begin_in_room-clause-begun
returns-then-begin_in_room-clause-begun c = c.begin_in_room.ensures.begun c.if-begin_in_room.true

pub returns-then-begin_in_room-clause-err : goal.returns-then-begin_in_room-clause-err
returns-then-begin_in_room-clause-err c = tt

pub returns-then-begin_in_room-clause-domain : goal.returns-then-begin_in_room-clause-domain
returns-then-begin_in_room-clause-domain c = c.make_room.ensures.domain

pub returns-then-begin_in_room-clause-logged : goal.returns-then-begin_in_room-clause-logged
returns-then-begin_in_room-clause-logged c =
    let logged : HasLogged c.make_room-2.new.self (logged_by_beginning c.args.self.now) c.begin_in_room.new.log =
    subst (λ (x : Domain). HasLogged c.make_room-2.new.self (logged_by_beginning x) c.begin_in_room.new.log) c.make_room.ensures.same (c.begin_in_room.ensures.logged c.if-begin_in_room.true) in
    logs_more [] (logged_by_beginning c.args.self.now) c.args.log.now c.make_room-2.new.self c.begin_in_room.new.log c.make_room-2.ensures.logged logged

pub returns-then-begin_in_room-clause-room : goal.returns-then-begin_in_room-clause-room
returns-then-begin_in_room-clause-room c = c.begin_in_room.ensures.room c.if-begin_in_room.true

pub returns-then-begin_in_room-clause-unlogged : goal.returns-then-begin_in_room-clause-unlogged
returns-then-begin_in_room-clause-unlogged c = tt

pub returns-else-begin_in_room-clause-ok : goal.returns-else-begin_in_room-clause-ok
returns-else-begin_in_room-clause-ok c = tt

pub returns-else-begin_in_room-clause-begun : goal.returns-else-begin_in_room-clause-begun
returns-else-begin_in_room-clause-begun c = tt

pub returns-else-begin_in_room-clause-logged : goal.returns-else-begin_in_room-clause-logged
returns-else-begin_in_room-clause-logged c = tt

pub returns-else-begin_in_room-clause-room : goal.returns-else-begin_in_room-clause-room
returns-else-begin_in_room-clause-room c = tt

pub returns-else-begin_in_room-clause-err : goal.returns-else-begin_in_room-clause-err
returns-else-begin_in_room-clause-err c = c.begin_in_room.ensures.full c.if-begin_in_room.false ∙ c.make_room.ensures.same

pub returns-else-begin_in_room-clause-domain : goal.returns-else-begin_in_room-clause-domain
returns-else-begin_in_room-clause-domain c = c.make_room.ensures.domain

pub returns-else-begin_in_room-clause-unlogged : goal.returns-else-begin_in_room-clause-unlogged
returns-else-begin_in_room-clause-unlogged c = subst (λ l. HasLogged c.args.log.now [] l) (sym (c.begin_in_room.ensures.unlogged c.if-begin_in_room.false)) c.make_room-2.ensures.logged
