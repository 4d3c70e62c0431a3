-- What a caller of a session shows of its domains and clients.
use Rattle.std.proofs.Common.{◌≡◌, ℕ, ◌<◌, List, [], ◌∷◌, ◌++◌, length, get_or}
use Rattle.session.specs.SessionId.{cpu_sets_from}
use Rattle.session.proofs.Opening as opening
use Rattle.session.proofs.Closed as closed

-- a set of CPUs for each domain
pub length_sets : (base : ℕ) (domains : List ℕ) → length (cpu_sets_from base domains) ≡ length domains
length_sets base domains = opening.length_sets base domains

-- what is so at each place of a list, and of one element more
pub by_place_more : {X : Type 0} (P : ℕ → X → Type 0) (xs : List X) (y : X)
    → ((d : ℕ) (x : X) → d < length xs → P d (get_or xs d x)) → P (length xs) y
    → (d : ℕ) (x : X) → d < length (xs ++ y ∷ []) → P d (get_or (xs ++ y ∷ []) d x)
by_place_more P xs y each last d x inside = closed.by_place_more P xs y each last d x inside
