-- What is true of one of two.
use Rattle.std.proofs.Common.{◌≡◌, Bool, true, false, ◌||◌, refl}

pub none_of : (a b : Bool) → a ≡ false → b ≡ false → (a || b) ≡ false
none_of false b e f = f
none_of true b e f = absurd cc

pub by_first : (a b : Bool) → a ≡ true → (a || b) ≡ true
by_first true b e = refl
by_first false b e = absurd cc

pub by_second : (a b : Bool) → b ≡ true → (a || b) ≡ true
by_second true b e = refl
by_second false b e = e
