-- The rows of tasks, and how they are found.
use Rattle.std.proofs.Common.{◌≡◌, ℕ, suc, Some, List, [], ◌∷◌, ◌++◌, length, refl, arith}
use Rattle.std.specs.Prelude.{slice_get}
use Rattle.domain_run.specs.Domain.{Domain}
use Rattle.calls_text.specs.SectionView.{SectionView}
use Rattle.calls_text.specs.Histories.{AreRuns}
use Rattle.session.specs.RunEnd.{run_in}
use Rattle.dl_session.specs.Promised.{AreEach, domains_of}

-- one row more
pub each_more : {X Y : Type 0} (is : X → Y → Type 0) (xs : List X) (ys : List Y) (x : X) (y : Y) → AreEach is xs ys → is x y → AreEach is (xs ++ x ∷ []) (ys ++ y ∷ [])
each_more is [] [] x y all one = (one, tt)
each_more is [] (b ∷ ys) x y all one = absurd all
each_more is (a ∷ xs) [] x y all one = absurd all
each_more is (a ∷ xs) (b ∷ ys) x y all one = (all.0, each_more is xs ys x y all.1 one)

-- another thing said of each
pub each_as : {X Y : Type 0} (is was : X → Y → Type 0) (xs : List X) (ys : List Y) → ((k : ℕ) (x : X) → slice_get xs k ≡ Some x → (y : Y) → was x y → is x y) → AreEach was xs ys → AreEach is xs ys
each_as is was [] [] f all = tt
each_as is was [] (b ∷ ys) f all = absurd all
each_as is was (a ∷ xs) [] f all = absurd all
each_as is was (a ∷ xs) (b ∷ ys) f all = (f 0 a refl b all.0, each_as is was xs ys (λ k x at y h. f (suc k) x at y h) all.1)

-- the states are the domains of the histories
pub states_are : (hs : List SectionView) (states : List Domain) → length states ≡ length hs → AreRuns hs states → states ≡ domains_of hs
states_are [] [] count runs = refl
states_are [] (d ∷ states) count runs = absurd (omega (arith, count))
states_are (h ∷ hs) [] count runs = absurd (omega (arith, count))
states_are (h ∷ hs) (d ∷ states) count runs =
    let first : d ≡ run_in h = runs 0 h d (omega arith) in
    let rest : states ≡ domains_of hs = states_are hs states (omega (arith, count)) (λ k s x inside. runs (suc k) s x (omega (arith, inside))) in
    (λ i. first i ∷ rest i)
