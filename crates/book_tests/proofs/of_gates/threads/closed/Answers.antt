use Rattle.std.proofs.Common.{◌≡◌, ◌<◌, ◌*◌, length, ap, arith}
use Rattle.bw_gate.specs.Pieces.{cpus_of}
use Rattle.book_tests.proofs.Quarters.{quarters}
use Rattle.book_tests.proofs.of_gates.threads.closed.Goals as goal

pub returns-clause-four : goal.returns-clause-four
returns-clause-four c =
    let gate = c.args.gate in
    let one : 0 < length gate.terms.cpus = omega (arith, c.requires.cap.0) in
    let sum = quarters gate c.args.tickets.items c.requires.tickets in
    let low = c.close.ensures.room 0 in
    let high = c.close.ensures.capped 0 in
    let cap = c.close.ensures.caps 0 one in
    let product : cpus_of gate 0 * cap.limit ≡ 1 * cap.limit = ap (λ n. n * cap.limit) c.requires.cap.1 in
    let count = c.len-count.ensures in
    omega (arith, sum, low, high, cap.product, product, cap.a_limit.most, count)
