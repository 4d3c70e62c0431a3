use Rattle.std.proofs.Common.{◌≤◌, length, arith}
use Rattle.switch_text.proofs.EventRoom.{pid_fits}
use Rattle.switch_text.proofs.logged_lines.put_fields.Goals as goal

pub put_decimal-at-requires : goal.put_decimal-at-requires
put_decimal-at-requires c =
    let short : length c.as_bytes.result.now ≤ 15 = rw (c.as_bytes.ensures.value, c.name_of.ensures) c.requires.name.most in
    omega (arith, short, pid_fits c.pid_for.result c.pid_for.ensures.small)

pub put_last-at-requires-clause-room : goal.put_last-at-requires-clause-room
put_last-at-requires-clause-room c =
    let short : length c.as_bytes.result.now ≤ 15 = rw (c.as_bytes.ensures.value, c.name_of.ensures) c.requires.name.most in
    omega (arith, short, pid_fits c.pid_for.result c.pid_for.ensures.small)

pub put-requires : goal.put-requires
put-requires c =
    let short : length c.as_bytes.result.now ≤ 15 = rw (c.as_bytes.ensures.value, c.name_of.ensures) c.requires.name.most in
    omega (arith, short, pid_fits c.pid_for.result c.pid_for.ensures.small)

pub returns-clause-short : goal.returns-clause-short
returns-clause-short c =
    let short : length c.as_bytes.result.now ≤ 15 = rw (c.as_bytes.ensures.value, c.name_of.ensures) c.requires.name.most in
    omega (arith, short, pid_fits c.pid_for.result c.pid_for.ensures.small)
