use Rattle.std.proofs.Common.{◌≡◌, ◌∷◌, [], Bool, true, false, refl, sym, subst, arith}
use mathlib.Core.Bool.{beq}
use Rattle.grub_rules.specs.Sums.{Share}
use Rattle.grub_rules.specs.Accounts.{Exchanges, Holds, active_share, inactive_share}
use Rattle.grub_rules.proofs.Shifting.{both, same_share}
use Rattle.grub_rules.proofs.accounts.Accounts.track.Goals.{else-before-after-via-then-before-after+else-before-after-2, else-before-after-via-else-before-after}
use Rattle.grub_rules.proofs.accounts.Accounts.track.Goals as goal

same_flag : (a b : Bool) → beq a b ≡ true → a ≡ b
same_flag true true e = refl
same_flag true false e = absurd cc
same_flag false true e = absurd cc
same_flag false false e = refl

not_true : (a b : Bool) → beq a b ≡ false → b ≡ true → a ≡ false
not_true true true e is = absurd cc
not_true true false e is = absurd cc
not_true false b e is = refl

not_false : (a b : Bool) → beq a b ≡ false → b ≡ false → a ≡ true
not_false true b e is = refl
not_false false true e is = absurd cc
not_false false false e is = absurd cc

pub wake-requires : goal.wake-requires
wake-requires c =
    let before = c.args.before.now in
    let after = c.args.after.now in
    let changed : beq before.active after.active ≡ false =
    elim c.else-before-after.branch [
      | else-before-after-via-then-before-after+else-before-after-2 w ↦ w.if-before-after-2.false
      | else-before-after-via-else-before-after w ↦ absurd (w.if-before-after.false c.if-before-after-3.true)
    ] in
    let was = same_share before (inactive_share after.cpu after.bw) c.if-before-after-4.true c.if-before-after-3.true (not_true before.active after.active changed c.if-after.true) in
    subst (λ (s : Share). Holds c.args.self.now s) was c.requires.held

pub returns-then-after : goal.returns-then-after
returns-then-after c =
    let before = c.args.before.now in
    let after = c.args.after.now in
    let changed : beq before.active after.active ≡ false =
    elim c.else-before-after.branch [
      | else-before-after-via-then-before-after+else-before-after-2 w ↦ w.if-before-after-2.false
      | else-before-after-via-else-before-after w ↦ absurd (w.if-before-after.false c.if-before-after-3.true)
    ] in
    let was = same_share before (inactive_share after.cpu after.bw) c.if-before-after-4.true c.if-before-after-3.true (not_true before.active after.active changed c.if-after.true) in
    let is = same_share (active_share after.cpu after.bw) after refl refl (sym c.if-after.true) in
    subst (λ (s : Share). Exchanges c.args.self.now c.wake.new.self (before ∷ []) (s ∷ [])) is
    (subst (λ (s : Share). Exchanges c.args.self.now c.wake.new.self (s ∷ []) (active_share after.cpu after.bw ∷ [])) (sym was) c.wake.ensures)

pub idle-requires : goal.idle-requires
idle-requires c =
    let before = c.args.before.now in
    let after = c.args.after.now in
    let changed : beq before.active after.active ≡ false =
    elim c.else-before-after.branch [
      | else-before-after-via-then-before-after+else-before-after-2 w ↦ w.if-before-after-2.false
      | else-before-after-via-else-before-after w ↦ absurd (w.if-before-after.false c.if-before-after-3.true)
    ] in
    let was = same_share before (active_share after.cpu after.bw) c.if-before-after-4.true c.if-before-after-3.true (not_false before.active after.active changed c.if-after.false) in
    subst (λ (s : Share). Holds c.args.self.now s) was c.requires.held

pub returns-else-after : goal.returns-else-after
returns-else-after c =
    let before = c.args.before.now in
    let after = c.args.after.now in
    let changed : beq before.active after.active ≡ false =
    elim c.else-before-after.branch [
      | else-before-after-via-then-before-after+else-before-after-2 w ↦ w.if-before-after-2.false
      | else-before-after-via-else-before-after w ↦ absurd (w.if-before-after.false c.if-before-after-3.true)
    ] in
    let was = same_share before (active_share after.cpu after.bw) c.if-before-after-4.true c.if-before-after-3.true (not_false before.active after.active changed c.if-after.false) in
    let is = same_share (inactive_share after.cpu after.bw) after refl refl (sym c.if-after.false) in
    subst (λ (s : Share). Exchanges c.args.self.now c.idle.new.self (before ∷ []) (s ∷ [])) is
    (subst (λ (s : Share). Exchanges c.args.self.now c.idle.new.self (s ∷ []) (inactive_share after.cpu after.bw ∷ [])) (sym was) c.idle.ensures)

pub join-requires-clause-fits : goal.join-requires-clause-fits
join-requires-clause-fits c = omega (arith, c.part.ensures.total, c.requires.fits)

pub returns-then-before-after-2 : goal.returns-then-before-after-2
returns-then-before-after-2 c =
    let before = c.args.before.now in
    let after = c.args.after.now in
    subst (λ (s : Share). Exchanges c.args.self.now c.shift.new.self (before ∷ []) (s ∷ [])) (same_share (record before { cpu = after.cpu }) after refl c.if-before-after.true (same_flag before.active after.active c.if-before-after-2.true)) c.shift.ensures

pub returns-else-before-after-3 : goal.returns-else-before-after-3
returns-else-before-after-3 c = both c.args.self.now c.part.new.self c.join.new.self (c.args.before.now ∷ []) (c.args.after.now ∷ []) c.part.ensures c.join.ensures
