use Rattle.std.proofs.Common.{subst, sym, refl, arith, ℕ, List, get_or}
use Rattle.std.specs.Int.{IsInRange}
use Rattle.run_options.proofs.CpuLists.{first_digit, parsed_decimal, same_number, unread}
use Rattle.run_options.proofs.words.read_cpus.Goals as goal

pub returns-then-not-begins_well-clause-none : goal.returns-then-not-begins_well-clause-none
returns-then-not-begins_well-clause-none c = λ _ n h e.
    c.if-not-begins_well.ensures.no refl (subst (λ (t : List ℕ). IsInRange 49 57 (get_or t 0 0)) (sym e) (first_digit n h))

pub returns-in-Ok-clause-some : goal.returns-in-Ok-clause-some
returns-in-Ok-clause-some c =
    parsed_decimal c.args.piece.now c.in-Ok.cpus c.in-Ok.ensures.value.0 (c.if-not-begins_well.ensures.yes refl) c.if-cpus-le64.true

pub returns-in_default-clause-none : goal.returns-in_default-clause-none
returns-in_default-clause-none c = λ _ n h e.
    let same = same_number c.args.piece.now c.in-Ok.cpus n c.in-Ok.ensures.value.0 h e in
    absurd (omega (arith, same, h.1, c.if-cpus-le64.false))

pub returns-in_default-2-clause-none : goal.returns-in_default-2-clause-none
returns-in_default-2-clause-none c = λ _ n h e. unread c.args.piece.now n c.in_default.ensures.value.0 h e
