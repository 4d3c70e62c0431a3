-- The moments of a run, and of the next piece of it.
use Rattle.std.proofs.Common.{◌≡◌, ℕ, suc, ◌+◌, ◌≤◌, ◌<◌, Bool, true, cond, List, [], ◌∷◌, ◌++◌, length, take, drop, map, refl, sym, ap, ◌∙◌, arith, append_assoc, All, length-append}
use Rattle.std.specs.Prelude.{nat_le}
use Rattle.std.specs.List.{prefix_len}
use Rattle.std.proofs.Math.Seq.{drop-append-add}
use Rattle.std.proofs.lemmas.Bool.{le-leb, lt-leb}
use Rattle.std.proofs.lemmas.List.{map-append, take-append-le, drop-append-le, length-take}
use Rattle.std.proofs.lemmas.List.Elements.{All-head, All-tail, All-drop, All-weaker}
use Rattle.std.proofs.lemmas.List.Sums.{prefix_len-le-length}
use Rattle.domain_run.specs.declared.happened.Happened.{Happened}
use Rattle.domain_run.specs.Switch.{Switch}
use Rattle.run_figures.specs.Throttling.{up_to}
use Rattle.chart_pieces.specs.declared.status.Moment.{Moment}
use Rattle.chart_pieces.specs.Moments.{moment_of, moments_by, beyond, moments}

-- WHAT IS LATER than a time is beyond it
none_passes : (time : ℕ) (hs : List Happened) → All (λ h. time < h.time) hs → prefix_len (λ h. nat_le h.time time) hs ≡ 0
none_passes time [] all = refl
none_passes time (h ∷ hs) all =
    ap (λ b. cond b (1 + prefix_len (λ (x : Happened). nat_le x.time time) hs) 0) (lt-leb h.time time (All-head (λ (x : Happened). time < x.time) h hs all))

stays_at : (time : ℕ) (before hs : List Happened) → All (λ h. time < h.time) hs → prefix_len (λ h. nat_le h.time time) (before ++ hs) ≡ prefix_len (λ h. nat_le h.time time) before
stays_at time [] hs all = none_passes time hs all
stays_at time (x ∷ xs) hs all = ap (λ (k : ℕ). cond (nat_le x.time time) (1 + k) 0) (stays_at time xs hs all)

up_to_stays : (time : ℕ) (before hs : List Happened) → All (λ h. time < h.time) hs → up_to time (before ++ hs) ≡ up_to time before
up_to_stays time before hs all =
    ap (λ (k : ℕ). take k (before ++ hs)) (stays_at time before hs all)
    ∙ take-append-le (prefix_len (λ (h : Happened). nat_le h.time time) before) before hs (prefix_len-le-length (λ (h : Happened). nat_le h.time time) before)

-- WHAT IS NOT LATER is passed
up_to_all : (time : ℕ) (before hs : List Happened) → All (λ h. h.time ≤ time) before → up_to time (before ++ hs) ≡ before ++ up_to time hs
up_to_all time [] hs all = refl
up_to_all time (x ∷ xs) hs all =
    let passes : nat_le x.time time ≡ true = le-leb x.time time (All-head (λ (h : Happened). h.time ≤ time) x xs all) in
    let n = prefix_len (λ (h : Happened). nat_le h.time time) (xs ++ hs) in
    let one : 1 + n ≡ suc n = omega arith in
    ap (λ (b : Bool). take (cond b (1 + n) 0) (x ∷ (xs ++ hs))) passes
    ∙ ap (λ k. take k (x ∷ (xs ++ hs))) one
    ∙ ap (λ (ys : List Happened). x ∷ ys) (up_to_all time xs hs (All-tail (λ (h : Happened). h.time ≤ time) x xs all))

beyond_all : (time : ℕ) (before hs : List Happened) → All (λ h. h.time ≤ time) before → beyond time (before ++ hs) ≡ beyond time hs
beyond_all time before hs all =
    ap (λ (xs : List Happened). drop (length xs) (before ++ hs)) (up_to_all time before hs all)
    ∙ ap (λ k. drop k (before ++ hs)) (length-append before (up_to time hs))
    ∙ drop-append-add before hs (length (up_to time hs))

up_to_short : (time : ℕ) (hs : List Happened) → length (up_to time hs) ≤ length hs
up_to_short time hs = omega (arith, length-take (prefix_len (λ (h : Happened). nat_le h.time time) hs) hs)

-- the first switch of the next piece, or none
then_next : (old hs : List Happened) (ss : List Switch) → All (λ s. All (λ h. h.time ≤ s.time) old) ss → moments (old ++ hs) ss ≡ map moment_of old ++ moments hs ss
then_next old hs [] logged = map-append moment_of old hs
then_next old hs (s ∷ ss) logged =
    let all : All (λ (h : Happened). h.time ≤ s.time) old = All-head (λ (x : Switch). All (λ h. h.time ≤ x.time) old) s ss logged in
    let rest : List Happened → List Moment = λ xs. moments_by s ++ moments xs ss in
    (λ i. map moment_of (up_to_all s.time old hs all i) ++ rest (beyond_all s.time old hs all i))
    ∙ ap (λ (ms : List Moment). ms ++ rest (beyond s.time hs)) (map-append moment_of old (up_to s.time hs))
    ∙ append_assoc (map moment_of old) (map moment_of (up_to s.time hs)) (rest (beyond s.time hs))

pub moments_next : (old hs : List Happened) (before ss : List Switch) → All (λ s. All (λ h. h.time ≤ s.time) old) ss → All (λ h. All (λ s. s.time < h.time) before) hs
    → moments (old ++ hs) (before ++ ss) ≡ moments old before ++ moments hs ss
moments_next old hs [] ss logged later = then_next old hs ss logged
moments_next old hs (b ∷ bs) ss logged later =
    let first : All (λ (h : Happened). b.time < h.time) hs =
    All-weaker (λ (h : Happened). All (λ s. s.time < h.time) (b ∷ bs)) (λ (h : Happened). b.time < h.time) (λ h all. All-head (λ (s : Switch). s.time < h.time) b bs all) hs later in
    let more : All (λ (h : Happened). All (λ s. s.time < h.time) bs) hs =
    All-weaker (λ (h : Happened). All (λ s. s.time < h.time) (b ∷ bs)) (λ (h : Happened). All (λ s. s.time < h.time) bs) (λ h all. All-tail (λ (s : Switch). s.time < h.time) b bs all) hs later in
    let left = beyond b.time old in
    let passed : All (λ s. All (λ h. h.time ≤ s.time) left) ss =
    All-weaker (λ (s : Switch). All (λ h. h.time ≤ s.time) old) (λ (s : Switch). All (λ h. h.time ≤ s.time) left) (λ s all. All-drop (λ (h : Happened). h.time ≤ s.time) (length (up_to b.time old)) old all) ss logged in
    let same : up_to b.time (old ++ hs) ≡ up_to b.time old = up_to_stays b.time old hs first in
    let n = length (up_to b.time old) in
    let beyond_is : beyond b.time (old ++ hs) ≡ left ++ hs =
    ap (λ (xs : List Happened). drop (length xs) (old ++ hs)) same ∙ drop-append-le n old hs (up_to_short b.time old) in
    (λ i. map moment_of (same i) ++ (moments_by b ++ moments (beyond_is i) (bs ++ ss)))
    ∙ ap (λ (ms : List Moment). map moment_of (up_to b.time old) ++ (moments_by b ++ ms)) (moments_next left hs bs ss passed more)
    ∙ ap (λ (ms : List Moment). map moment_of (up_to b.time old) ++ ms) (sym (append_assoc (moments_by b) (moments left bs) (moments hs ss)))
    ∙ sym (append_assoc (map moment_of (up_to b.time old)) (moments_by b ++ moments left bs) (moments hs ss))
