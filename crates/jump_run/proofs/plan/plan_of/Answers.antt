use Rattle.std.proofs.Common.{◌≡◌, ◌*◌, ◌^◌, ◌<◌, ◌≤◌, to_z, of_z, ◌∙◌, arith}
use Rattle.std.specs.Prelude.{ℤ, pos, negsuc, ◌<ℤ◌, ◌≤ℤ◌, unsigned_abs}
use Rattle.std.proofs.Math.Nat.{mul-le-mul}
use Rattle.std.proofs.Math.Facts.{to_z-of_z}
use Rattle.std.proofs.lemmas.Int.{ints, fits_signed_from_abs}
use mir.Syntax.{w128}
use Rattle.jump_run.proofs.plan.plan_of.Goals as goal

-- what is left is within 127 bits
within : (z : ℤ) → pos 0 <ℤ z → z ≤ℤ pos (2 ^ 52) → unsigned_abs z < 2 ^ 127
within (pos n) some most = omega (arith, ints, some, most)
within (negsuc n) some most = omega (arith, ints, some, most)

pub returns-clause-fit : goal.returns-clause-fit
returns-clause-fit c =
    let z = c.args.runner.now.left in
    let left_is : to_z w128 (of_z w128 z) ≡ z = to_z-of_z {w = w128} {z = z} (fits_signed_from_abs w128 z (within z c.requires.lifted c.requires.high)) in
    let sum = c.sum.ensures.within in
    let cpus = c.cpus.ensures.within in
    let few : c.args.state.now.cpus ≤ 64 = omega (arith, c.cpus.ensures.cpus, cpus.1) in
    let low : c.args.state.now.limit ≤ 1048576 = omega (arith, c.limit.ensures.limit, c.limit.ensures.within.1) in
    let product : c.args.state.now.cpus * c.args.state.now.limit ≤ 64 * 1048576 = mul-le-mul few low in
    record {
      ordered = c.ordered.ensures.ordered;
      can = record {
        uinact = c.requires.short;
        sum = omega (arith, sum, product);
        some_cpu = omega (arith, c.from.ensures, cpus.0);
        most_cpus = omega (arith, c.from.ensures, cpus.1);
        least_limit = c.limit.ensures.within.0;
        most_limit = c.limit.ensures.within.1;
        some_left = rw left_is c.requires.lifted;
        most_left = omega (arith, ints, left_is, c.requires.high);
      };
      within = rw (c.from.ensures ∙ c.cpus.ensures.cpus, c.limit.ensures.limit) sum;
      high = rw left_is c.requires.high;
    }
