-- What it means that tests pass.
use Rattle.std.proofs.Common.{◌≡◌, Bool, true, false, List, [], ◌∷◌, ◌++◌, find, refl, Option, Some, None, IfSome, unwrap_or}
use Rattle.rtapp_scenario.specs.Values.{Member, object_of, members}
use Rattle.rtapp_scenario.specs.Faults.{Fault, name, unless, first, first_fault_in}
use Rattle.rtapp_scenario.specs.Tests.{is_name, own_fault, members_fault, members_fault_in}

-- the first test passes, and the others do
pub first_split : {X : Type 0} (o : Option X) (others : List (Option X)) → first (o ∷ others) ≡ None → (o ≡ None) × (first others ≡ None)
first_split None others h = (refl, h)
first_split (Some x) others h = absurd cc

pub unless_passes : (b : Bool) (fault : Fault) → unless b fault ≡ None → b ≡ true
unless_passes true fault h = refl
unless_passes false fault h = absurd cc

pub in_object : (o : Option (List Member)) (thread : Member) → members_fault_in o thread ≡ None → members_fault (unwrap_or o []) ≡ None
in_object None thread h = absurd cc
in_object (Some ms) thread h = h

pub name_passes : (thread : Member) → own_fault thread ≡ None → is_name thread.key ≡ true
unfolding own_fault
name_passes thread h = unless_passes _ _ (first_split _ _ h).0

pub members_pass : (thread : Member) → own_fault thread ≡ None → members_fault (members thread.value) ≡ None
unfolding own_fault
members_pass thread h =
    let p = first_split (unless (is_name thread.key) name) (members_fault_in (object_of thread.value) thread ∷ []) h in
    in_object (object_of thread.value) thread (first_split (members_fault_in (object_of thread.value) thread) [] p.1).0

-- the member that a search finds passes its test, behind some others
pub record Passes (test : List Member → Member → Option Fault) (p : Member → Bool) (m : Member) : Type 0 where
  pub before : List Member
  pub passes : test before m ≡ None
  pub is : p m ≡ true

pub found_passes : (test : List Member → Member → Option Fault) (p : Member → Bool) (before ms : List Member) → first_fault_in test before ms ≡ None → IfSome (find p ms) (Passes test p)
found_passes test p before [] h = tt
found_passes test p before (m ∷ ms) h =
    let s = first_split _ _ h in
    let rest = found_passes test p (before ++ m ∷ []) ms (first_split _ _ s.1).0 in
    by_test (p m) refl s.0 rest
  where
    by_test : (b : Bool) → p m ≡ b → test before m ≡ None → IfSome (find p ms) (Passes test p) → IfSome (find p (m ∷ ms)) (Passes test p)
    by_test true e passes rest = rw e (record { before = before; passes = passes; is = e })
    by_test false e passes rest = rw e rest
