-- Which CPUs are stale: on the others the running task has the right open charge.
use Rattle.std.proofs.Common.{◌≡◌, ◌≢◌, ℕ, zero, suc, ◌+◌, ◌-◌, ◌/◌, ◌<◌, ◌≤◌, Bool, true, false, cond, eqb, eq-eqb, ◌&&◌, ◌++◌, Option, Some, None, List, [], ◌∷◌, length, map, get_or, set, refl, sym, ap, ◌∙◌, subst, arith, inl, inr}
use Rattle.std.specs.Prelude.{◌⊎◌, IfSome, All, IsTrue, is_none, is_some, filter, sum_by}
use Rattle.std.specs.Int.{bit_at}
use Rattle.std.proofs.lemmas.Bool.{cases_eq, cases_lt, ne_eqb}
use Rattle.std.proofs.lemmas.Nat.Bits.{bit_at-lt}
use Rattle.std.proofs.lemmas.List.{get_or-map, get_or_default, get_or-set_other, get_or-set_same, map-set, length-map}
use Rattle.grub_rules.specs.declared.share.Share.{Share}
use Rattle.grub_rules.specs.Sums.{uinact}
use Rattle.edf_pick.specs.declared.moves.Moved.{Moved}
use Rattle.edf_pick.specs.Moves.{moved_from, same_occupant}
use Rattle.edf_pick.specs.Places.{Places}
use Rattle.edf_pick.proofs.CallerLemmas.{same_is}
use Rattle.due_times.specs.declared.stale.StaleCharges.{StaleCharges}
use Rattle.due_times.specs.declared.charges.OpenCharge.{OpenCharge}
use Rattle.due_times.specs.declared.charges.Basis.{Basis}
use Rattle.due_times.specs.declared.charges.Claim.{Claim}
use Rattle.domain_run.specs.declared.task.Task.{Task}
use Rattle.domain_run.specs.Parts.{with_cpu}
use Rattle.domain_run.specs.Sound.{occupant}
use Rattle.domain_run.specs.Tick.{share_of, shares, sum_of}
use Rattle.domain_run.specs.private.StaleCharges.{IsSettled, IsFree, noted_basis, IsTrusted, AreSettled, IsMarked}
use Rattle.domain_run.specs.private.TaskTable.{rate_in, basis_in, HasItsCharge}
use Rattle.grub_rules.proofs.CallerLemmas.{rate_on_is}
use Rattle.due_times.specs.OpenCharges.{OpenChargesView, IsOn, charge_by, left_if, without_charge}
use Rattle.domain_run.specs.private.Timers.{IsTimerStep}
use Rattle.domain_run.specs.private.Owed.{charge_of_task, charges_without, owed, owed_all, AreOpen, IsRight, rate_by}
use Rattle.domain_run.proofs.Jumping.{shares_alike}
use Rattle.domain_run.proofs.Owed.{alike_owed, read_owed}
use Rattle.domain_run.proofs.Chargings.{basis_right, right_rate}

-- ---- THE INACTIVE BANDWIDTH of a CPU: tasks of others do not matter

-- in the place of an element that a test refuses another one that it refuses
filter_out : {X : Type 0} (q : X → Bool) (xs : List X) (p : ℕ) (x y : X) → p < length xs → x ≡ get_or xs p x → q x ≡ false → q y ≡ false → filter q (set xs p y) ≡ filter q xs
filter_out q [] p x y h read a b = absurd (omega (arith, h))
filter_out q (z ∷ xs) zero x y h read a b = ap (λ t. cond t (y ∷ filter q xs) (filter q xs)) b ∙ sym (ap (λ t. cond t (z ∷ filter q xs) (filter q xs)) (ap q (sym read) ∙ a))
filter_out q (z ∷ xs) (suc p) x y h read a b = ap (λ r. cond (q z) (z ∷ r) r) (filter_out q xs p x y (omega (arith, h)) read a b)

filter_one : {X : Type 0} (q : X → Bool) (xs : List X) (y : X) → q y ≡ false → filter q (xs ++ y ∷ []) ≡ filter q xs
filter_one q [] y b = ap (λ t. cond t (y ∷ []) []) b
filter_one q (x ∷ xs) y b = ap (λ r. cond (q x) (x ∷ r) r) (filter_one q xs y b)

other_cpu : (cpu : ℕ) (t : Task) → t.cpu ≢ cpu → eqb (share_of t).cpu cpu ≡ false
other_cpu cpu t apart = ne_eqb t.cpu cpu apart

other_active : (cpu : ℕ) (t : Task) → t.cpu ≢ cpu → (eqb (share_of t).cpu cpu && (share_of t).active) ≡ false
other_active cpu t apart = ap (λ b. b && (share_of t).active) (other_cpu cpu t apart)

pub uinact_set : (cpu : ℕ) (tasks : List Task) (p : ℕ) (x y : Task) → p < length tasks → x ≡ get_or tasks p x → x.cpu ≢ cpu → y.cpu ≢ cpu → uinact cpu (shares (set tasks p y)) ≡ uinact cpu (shares tasks)
uinact_set cpu tasks p x y h read a b =
    let xs : List Share = shares tasks in
    let many : length xs ≡ length tasks = simp length-map in
    let there : share_of x ≡ get_or xs p (share_of x) = ap share_of read ∙ sym (get_or-map share_of tasks p x (share_of x) h) in
    let inside : p < length xs = omega (arith, h, many) in
    let all = filter_out (λ (s : Share). eqb s.cpu cpu) xs p (share_of x) (share_of y) inside there (other_cpu cpu x a) (other_cpu cpu y b) in
    let active = filter_out (λ (s : Share). eqb s.cpu cpu && s.active) xs p (share_of x) (share_of y) inside there (other_active cpu x a) (other_active cpu y b) in
    ap (uinact cpu) (map-set share_of tasks p y) ∙ (λ i. sum_by (λ (s : Share). s.bw) (all i) - sum_by (λ (s : Share). s.bw) (active i))

shares_one : (tasks : List Task) (y : Task) → shares (tasks ++ y ∷ []) ≡ shares tasks ++ share_of y ∷ []
shares_one [] y = refl
shares_one (t ∷ tasks) y = ap (λ r. share_of t ∷ r) (shares_one tasks y)

pub uinact_one : (cpu : ℕ) (tasks : List Task) (y : Task) → y.cpu ≢ cpu → uinact cpu (shares (tasks ++ y ∷ [])) ≡ uinact cpu (shares tasks)
uinact_one cpu tasks y b =
    let xs : List Share = shares tasks in
    let all = filter_one (λ (s : Share). eqb s.cpu cpu) xs (share_of y) (other_cpu cpu y b) in
    let active = filter_one (λ (s : Share). eqb s.cpu cpu && s.active) xs (share_of y) (other_active cpu y b) in
    ap (uinact cpu) (shares_one tasks y) ∙ (λ i. sum_by (λ (s : Share). s.bw) (all i) - sum_by (λ (s : Share). s.bw) (active i))

-- ---- MARKS that go on

-- a CPU without a mark is not one that has one
apart : (marks cpu i : ℕ) → (cpu < 64 → bit_at marks cpu ≡ 1) → i < 64 → bit_at marks i ≡ 0 → i ≢ cpu
apart marks cpu i marked few bare e =
    let one : bit_at marks cpu ≡ 1 = marked (subst (λ (n : ℕ). n < 64) e few) in
    let none : bit_at marks cpu ≡ 0 = subst (λ (n : ℕ). bit_at marks n ≡ 0) e bare in
    absurd (omega (arith, one, none))

-- a mark stays where others come
pub kept_mark : (a b cpu : ℕ) → ((i : ℕ) → bit_at b i ≡ 0 → bit_at a i ≡ 0) → (cpu < 64 → bit_at a cpu ≡ 1) → cpu < 64 → bit_at b cpu ≡ 1
kept_mark a b cpu bare before few = elim (cases_eq (bit_at b cpu) 0) [
  | inl none ↦ absurd (let was = bare cpu none in let one = before few in omega (arith, was, one))
  | inr some ↦ omega (arith, some, bit_at-lt b cpu)
]

pub marked_trans : (r a b c : ℕ) (first then last : List (Option OpenCharge)) (x y z : List Task) → IsMarked r a b first then x y → IsMarked r b c then last y z → IsMarked r a c first last x z
marked_trans r a b c first then last x y z one two = record {
  bare = λ i e. one.bare i (two.bare i e);
  charges = λ i h e. two.charges i h e ∙ one.charges i h (two.bare i e);
  sums = λ i h e. both i (one.sums i h (two.bare i e)) (two.sums i h e);
}
  where
    both : (i : ℕ) → ((uinact i (shares y) ≡ uinact i (shares x)) ⊎ (bit_at r i ≡ 0)) → ((uinact i (shares z) ≡ uinact i (shares y)) ⊎ (bit_at r i ≡ 0)) → (uinact i (shares z) ≡ uinact i (shares x)) ⊎ (bit_at r i ≡ 0)
    both i (inl p) (inl q) = inl (q ∙ p)
    both i (inl p) (inr q) = inr q
    both i (inr p) q = inr p

-- nothing but marks
pub marked_more : (r a b : ℕ) (charges : List (Option OpenCharge)) (tasks : List Task) → ((i : ℕ) → bit_at b i ≡ 0 → bit_at a i ≡ 0) → IsMarked r a b charges charges tasks tasks
marked_more r a b charges tasks bare = record { bare = bare; charges = λ i h e. refl; sums = λ i h e. inl refl }

-- another open charge for a CPU
pub marked_set : (r a b cpu : ℕ) (o : Option OpenCharge) (charges : List (Option OpenCharge)) (tasks now : List Task) → (cpu < 64 → bit_at b cpu ≡ 1) → ((i : ℕ) → bit_at b i ≡ 0 → bit_at a i ≡ 0) → now ≡ tasks → IsMarked r a b charges (set charges cpu o) tasks now
marked_set r a b cpu o charges tasks now marked bare same = record {
  bare = bare;
  charges = λ i h e. get_or-set_other charges cpu i o None (apart b cpu i marked h e);
  sums = λ i h e. inl (ap (λ (ts : List Task). uinact i (shares ts)) same);
}

left_elsewhere : (cpu number i : ℕ) (charges : List (Option OpenCharge)) → i ≢ cpu → get_or (without_charge cpu number charges) i None ≡ get_or charges i None
left_elsewhere cpu number i charges other = by_charge (charge_by number (get_or charges cpu None))
  where
    by_charge : (o : Option OpenCharge) → get_or (left_if cpu charges o) i None ≡ get_or charges i None
    by_charge None = refl
    by_charge (Some s) = get_or-set_other charges cpu i None None other

left_none : (cpu number : ℕ) (charges : List (Option OpenCharge)) → charge_by number (get_or charges cpu None) ≡ None → without_charge cpu number charges ≡ charges
left_none cpu number charges none = ap (left_if cpu charges) none

-- a CPU that a task has left: it has a mark, or its open charge keeps nothing and is not the task's
abbrev pub IsLeft : ℕ → ℕ → ℕ → ℕ → List (Option OpenCharge) → Type 0
IsLeft r b c m charges = c < 64 → bit_at b c ≡ 0 → (bit_at r c ≡ 0) × (charge_by m (get_or charges c None) ≡ None)

-- a task that sat has left a mark
pub left_uncharged : (r b c m : ℕ) (charges : List (Option OpenCharge)) (o : Option OpenCharge) (was_started : Bool) → o ≡ charge_by m (get_or charges c None) → was_started ≡ is_some o → (IsTrue was_started → c < 64 → bit_at b c ≡ 1) → (was_started ≡ false → c < 64 → bit_at b c ≡ 0 → bit_at r c ≡ 0) → IsLeft r b c m charges
left_uncharged r b c m charges None was_started is same marked free few none = (free same few none, sym is)
left_uncharged r b c m charges (Some s) was_started is same marked free few none = let one = marked same few in absurd (omega (arith, one, none))

-- another task at a place of the list, where neither that nor the one before has an open charge
pub marked_at : (r a b c d n m : ℕ) (charges : List (Option OpenCharge)) (tasks : List Task) (p : ℕ) (x y : Task) → p < length tasks → x ≡ get_or tasks p x → x.cpu ≡ c → y.cpu ≡ d
    → IsLeft r b c m charges → (d < 64 → bit_at b d ≡ 1) → ((i : ℕ) → bit_at b i ≡ 0 → bit_at a i ≡ 0)
    → IsMarked r a b charges (without_charge d n (without_charge c m charges)) tasks (set tasks p y)
marked_at r a b c d n m charges tasks p x y h read x_is y_is one two bare = record {
  bare = bare;
  charges = λ i few e. left_elsewhere d n i (without_charge c m charges) (apart b d i two few e) ∙ elim (cases_eq i c) [
    | inl same ↦ ap (λ (xs : List (Option OpenCharge)). get_or xs i None) (left_none c m charges (here i same few e).1)
    | inr other ↦ left_elsewhere c m i charges other
  ];
  sums = λ i few e. elim (cases_eq i c) [
    | inl same ↦ inr (subst (λ (k : ℕ). bit_at r k ≡ 0) (sym same) (here i same few e).0)
    | inr other ↦ inl (uinact_set i tasks p x y h read (λ q. other (sym q ∙ x_is)) (λ q. apart b d i two few e (sym q ∙ y_is)))
  ];
}
  where
    here : (i : ℕ) → i ≡ c → i < 64 → bit_at b i ≡ 0 → (bit_at r c ≡ 0) × (charge_by m (get_or charges c None) ≡ None)
    here i same few e = one (subst (λ (k : ℕ). k < 64) same few) (subst (λ (k : ℕ). bit_at b k ≡ 0) same e)

-- another task at a place of the list, on the same CPU, where neither has an open charge then
pub marked_home : (r a b c m : ℕ) (charges : List (Option OpenCharge)) (tasks : List Task) (p : ℕ) (x y : Task) → p < length tasks → x ≡ get_or tasks p x → x.cpu ≡ c → y.cpu ≡ c
    → IsLeft r b c m charges → ((i : ℕ) → bit_at b i ≡ 0 → bit_at a i ≡ 0)
    → IsMarked r a b charges (without_charge c m (without_charge c m charges)) tasks (set tasks p y)
marked_home r a b c m charges tasks p x y h read x_is y_is one bare = record {
  bare = bare;
  charges = λ i few e. elim (cases_eq i c) [
    | inl same ↦
        let none = left_none c m charges (here i same few e).1 in
        ap (λ (xs : List (Option OpenCharge)). get_or (without_charge c m xs) i None) none ∙ ap (λ (xs : List (Option OpenCharge)). get_or xs i None) none
    | inr other ↦ left_elsewhere c m i (without_charge c m charges) other ∙ left_elsewhere c m i charges other
  ];
  sums = λ i few e. elim (cases_eq i c) [
    | inl same ↦ inr (subst (λ (k : ℕ). bit_at r k ≡ 0) (sym same) (here i same few e).0)
    | inr other ↦ inl (uinact_set i tasks p x y h read (λ q. other (sym q ∙ x_is)) (λ q. other (sym q ∙ y_is)))
  ];
}
  where
    here : (i : ℕ) → i ≡ c → i < 64 → bit_at b i ≡ 0 → (bit_at r c ≡ 0) × (charge_by m (get_or charges c None) ≡ None)
    here i same few e = one (subst (λ (k : ℕ). k < 64) same few) (subst (λ (k : ℕ). bit_at b k ≡ 0) same e)

-- a task that starts on a CPU
pub start_marked : (r a b cpu : ℕ) (s after : OpenChargesView) (tasks : List Task) (p : ℕ) (x y : Task) → p < length tasks → x ≡ get_or tasks p x → y ≡ with_cpu (Some cpu) (owed s.upto s.charges x)
    → after ≡ record s { charges = without_charge cpu x.number (without_charge x.cpu x.number s.charges) } → owed_all after (set tasks p y) ≡ set (owed_all s tasks) p y
    → IsLeft r b x.cpu x.number s.charges → (cpu < 64 → bit_at b cpu ≡ 1) → ((i : ℕ) → bit_at b i ≡ 0 → bit_at a i ≡ 0)
    → IsMarked r a b s.charges after.charges (owed_all s tasks) (owed_all after (set tasks p y))
start_marked r a b cpu s after tasks p x y h read is are view one two bare =
    let many : length (owed_all s tasks) ≡ length tasks = simp length-map in
    subst (λ (v : OpenChargesView). IsMarked r a b s.charges v.charges (owed_all s tasks) (owed_all after (set tasks p y))) (sym are)
    (subst (IsMarked r a b s.charges (without_charge cpu x.number (without_charge x.cpu x.number s.charges)) (owed_all s tasks)) (sym view)
    (marked_at r a b x.cpu cpu x.number x.number s.charges (owed_all s tasks) p (owed s.upto s.charges x) y (omega (arith, h, many)) (read_owed s.upto s.charges tasks p x h read)
    (alike_owed s.upto s.charges x).cpu (ap (λ (t : Task). t.cpu) is) one two bare))

-- ---- WHO IS SETTLED

-- an open charge that keeps nothing is right on each basis
free_settled : (o : Option ℕ) (a b : Basis) (x : Option OpenCharge) → IsSettled o a x → IfSome x (λ s. s.claim ≡ None) → IsSettled o b x
free_settled None a b x is free = is
free_settled (Some n) a b None is free = absurd is
free_settled (Some n) a b (Some s) is free = (is.0, subst (λ k. IfSome k (IsOn b)) (sym free) tt)

-- who was trusted is where nothing has changed but marks, and what those log of
pub trusted_again : (d e : StaleCharges) (w cpu : ℕ) (o : Option ℕ) (charges after : List (Option OpenCharge)) (tasks then : List Task)
    → e.rated ≡ d.rated → e.sum ≡ d.sum → e.limit ≡ d.limit → IsMarked d.rated d.cpus e.cpus charges after tasks then
    → IsTrusted d w o charges tasks cpu → IsTrusted e w o after then cpu
trusted_again d e w cpu o charges after tasks then rated sum limit marks are few bare =
    let was = are few (marks.bare cpu bare) in
    let open_charge = sym (marks.charges cpu few bare) in (
      subst (IsSettled o (noted_basis e w then cpu)) open_charge (by_sums was (marks.sums cpu few bare)),
      subst (IsFree (bit_at e.rated cpu)) open_charge (subst (λ (n : ℕ). IsFree (bit_at n cpu) (get_or charges cpu None)) (sym rated) was.1),
    )
  where
    by_sums : IsSettled o (noted_basis d w tasks cpu) (get_or charges cpu None) × IsFree (bit_at d.rated cpu) (get_or charges cpu None) → ((uinact cpu (shares then) ≡ uinact cpu (shares tasks)) ⊎ (bit_at d.rated cpu ≡ 0)) → IsSettled o (noted_basis e w then cpu) (get_or charges cpu None)
    by_sums was (inl equal) =
        let basis : noted_basis d w tasks cpu ≡ noted_basis e w then cpu = λ i. record { uinact = (sym equal) i; share = (sym sum) i / w; limit = (sym limit) i } in
        subst (λ (b : Basis). IsSettled o b (get_or charges cpu None)) basis was.0
    by_sums was (inr bare_of) = free_settled o (noted_basis d w tasks cpu) (noted_basis e w then cpu) (get_or charges cpu None) was.0 (was.1 bare_of)

pub settled_again : (d e : StaleCharges) (w : ℕ) (places now : Places) (charges after : List (Option OpenCharge)) (tasks then : List Task)
    → e.rated ≡ d.rated → e.sum ≡ d.sum → e.limit ≡ d.limit → IsMarked d.rated d.cpus e.cpus charges after tasks then
    → ((cpu : ℕ) → cpu < 64 → bit_at e.cpus cpu ≡ 0 → occupant now cpu ≡ occupant places cpu)
    → AreSettled d w places charges tasks → AreSettled e w now after then
settled_again d e w places now charges after tasks then rated sum limit marks same are cpu few bare =
    let is = trusted_again d e w cpu (occupant places cpu) charges after tasks then rated sum limit marks (are cpu) few bare in
    (subst (λ o. IsSettled o (noted_basis e w then cpu) (get_or after cpu None)) (sym (same cpu few bare)) is.0, is.1)

-- where those are stale whose open charges keep something, neither the tasks nor the sums matter
pub rated_settled : (d e : StaleCharges) (w v : ℕ) (places : Places) (charges : List (Option OpenCharge)) (tasks then : List Task)
    → ((i : ℕ) → bit_at e.cpus i ≡ 0 → bit_at d.cpus i ≡ 0) → ((i : ℕ) → bit_at e.cpus i ≡ 0 → bit_at d.rated i ≡ 0) → e.rated ≡ d.rated
    → AreSettled d w places charges tasks → AreSettled e v places charges then
rated_settled d e w v places charges tasks then bare free rated are cpu few none =
    let was = are cpu few (bare cpu none) in
    let nothing = was.1 (free cpu none) in
    (free_settled (occupant places cpu) (noted_basis d w tasks cpu) (noted_basis e v then cpu) (get_or charges cpu None) was.0 nothing, λ z. nothing)

pub none_is : (o : Option OpenCharge) → IsTrue (is_none o) → o ≡ None
none_is None is = refl
none_is (Some s) is = absurd cc

-- where each CPU is stale nobody is
pub settled_none : (d : StaleCharges) (w : ℕ) (places : Places) (charges : List (Option OpenCharge)) (tasks : List Task) → ((i : ℕ) → i < 64 → bit_at d.cpus i ≡ 1) → AreSettled d w places charges tasks
settled_none d w places charges tasks all cpu few bare = let one = all cpu few in absurd (omega (arith, one, bare))

-- who is settled on the basis of now has an open charge rightly
pub settled_right : (w limit upto cpu : ℕ) (o : Option ℕ) (charges : List (Option OpenCharge)) (items : List Task)
    → IsSettled o (basis_in w limit (map (owed upto charges) items) cpu) (get_or charges cpu None) → AreOpen charges items
    → All (λ t. t.cpu ≡ cpu → IsRight o t.number (rate_in w limit (map (owed upto charges) items) t) (charge_of_task charges t)) (map (owed upto charges) items)
settled_right w limit upto cpu None charges items is waits k d h e =
    let t = get_or (map (owed upto charges) items) k d in
    ap (λ c. charge_by t.number (get_or charges c None)) e ∙ ap (charge_by t.number) is
settled_right w limit upto cpu (Some n) charges items is waits k d h e = by_charge (get_or charges cpu None) refl is
  where
    tasks : List Task
    tasks = map (owed upto charges) items

    b : Basis
    b = basis_in w limit tasks cpu

    by_charge : (x : Option OpenCharge) → get_or charges cpu None ≡ x → IsSettled (Some n) b x → IsRight (Some n) (get_or tasks k d).number (rate_in w limit tasks (get_or tasks k d)) (charge_of_task charges (get_or tasks k d))
    by_charge None q r = absurd r
    by_charge (Some s) q r =
        let t = get_or tasks k d in
        let mine : charge_by n (get_or charges cpu None) ≡ Some s = ap (charge_by n) q ∙ ap (λ z. cond z (Some s) None) (eq-eqb s.number n r.0) in
        right_rate n t.number (rate_by b t) (rate_in w limit tasks t) (charge_of_task charges t) (λ z. ap (λ c. rate_by (basis_in w limit tasks c) t) (sym e) ∙ rate_on_is t.params (uinact t.cpu (shares tasks)) (sum_of tasks) w limit)
        (basis_right upto cpu n charges items s b mine r.1 waits k d h e)

noted_alike : (d e : StaleCharges) (w : ℕ) (tasks : List Task) (cpu : ℕ) → e.sum / w ≡ d.sum / w → e.limit ≡ d.limit → noted_basis d w tasks cpu ≡ noted_basis e w tasks cpu
noted_alike d e w tasks cpu share limit = λ i. record { uinact = uinact cpu (shares tasks); share = (sym share) i; limit = (sym limit) i }

noted_same : (d e : StaleCharges) (w : ℕ) (tasks : List Task) (cpu : ℕ) → e.sum ≡ d.sum → e.limit ≡ d.limit → noted_basis d w tasks cpu ≡ noted_basis e w tasks cpu
noted_same d e w tasks cpu sum limit = noted_alike d e w tasks cpu (ap (λ n. n / w) sum) limit

pub noted_now : (d : StaleCharges) (w limit : ℕ) (tasks : List Task) (cpu : ℕ) → d.sum ≡ sum_of tasks → d.limit ≡ limit → noted_basis d w tasks cpu ≡ basis_in w limit tasks cpu
noted_now d w limit tasks cpu sum lim = λ i. record { uinact = uinact cpu (shares tasks); share = sum i / w; limit = lim i }

-- an open charge whose claim runs now has one that runs on what is noted, if that is of now
pub noted_by : (d : StaleCharges) (w limit cpu : ℕ) (tasks : List Task) (o : Option Claim) (rated : Bool) → rated ≡ is_some o → IfSome o (IsOn (basis_in w limit tasks cpu)) → (IsTrue rated → (d.sum ≡ sum_of tasks) × (d.limit ≡ limit)) → IfSome o (IsOn (noted_basis d w tasks cpu))
noted_by d w limit cpu tasks None rated e is noted = tt
noted_by d w limit cpu tasks (Some k) rated e is noted =
    let p = noted e in
    subst (λ (b : Basis). IsOn b k) (sym (noted_now d w limit tasks cpu p.0 p.1)) is

pub free_by : (o : Option Claim) (rated : Bool) (mark : ℕ) → rated ≡ is_some o → (IsTrue rated → mark ≡ 1) → mark ≡ 0 → o ≡ None
free_by None rated mark e one none = refl
free_by (Some k) rated mark e one none = absurd (omega (arith, one e, none))

-- another sum or another limit is noted, and then those are marked whose open charges keep
-- something
pub renew_settled : (d e : StaleCharges) (w : ℕ) (places : Places) (charges : List (Option OpenCharge)) (tasks : List Task) (sum limit : ℕ)
    → ((i : ℕ) → bit_at e.cpus i ≡ 0 → bit_at d.cpus i ≡ 0) → ((i : ℕ) → bit_at e.cpus i ≡ 0 → (bit_at d.rated i ≡ 0) ⊎ ((d.sum / w ≡ sum / w) × (d.limit ≡ limit)))
    → e.rated ≡ d.rated → e.sum ≡ sum → e.limit ≡ limit
    → AreSettled d w places charges tasks → AreSettled e w places charges tasks
renew_settled d e w places charges tasks sum limit bare free rated sum_is limit_is are cpu few none =
    let was = are cpu few (bare cpu none) in (
      elim (free cpu none) [
        | inl nothing ↦ free_settled (occupant places cpu) (noted_basis d w tasks cpu) (noted_basis e w tasks cpu) (get_or charges cpu None) was.0 (was.1 nothing)
        | inr same ↦ subst (λ (x : Basis). IsSettled (occupant places cpu) x (get_or charges cpu None)) (noted_alike d e w tasks cpu (ap (λ n. n / w) sum_is ∙ sym same.0) (limit_is ∙ sym same.1)) was.0
      ],
      subst (λ (n : ℕ). IsFree (bit_at n cpu) (get_or charges cpu None)) (sym rated) was.1,
    )

-- one CPU is stale no more
pub fresh_settled : (d e : StaleCharges) (w limit cpu : ℕ) (places : Places) (charges : List (Option OpenCharge)) (tasks : List Task) (is_rated : Bool)
    → ((i : ℕ) → i ≢ cpu → bit_at e.cpus i ≡ bit_at d.cpus i) → ((i : ℕ) → i ≢ cpu → bit_at e.rated i ≡ bit_at d.rated i)
    → (IsTrue is_rated → bit_at e.rated cpu ≡ 1) → (is_rated ≡ false → IfSome (get_or charges cpu None) (λ s. s.claim ≡ None))
    → e.sum ≡ d.sum → e.limit ≡ d.limit → (IsTrue is_rated → (d.sum ≡ sum_of tasks) × (d.limit ≡ limit))
    → IsSettled (occupant places cpu) (basis_in w limit tasks cpu) (get_or charges cpu None)
    → AreSettled d w places charges tasks → AreSettled e w places charges tasks
fresh_settled d e w limit cpu places charges tasks is_rated others elsewhere marked free sum limit_same noted here are i few bare = elim (cases_eq i cpu) [
  | inl same ↦
      subst (λ (n : ℕ). IsSettled (occupant places n) (noted_basis e w tasks n) (get_or charges n None) × IsFree (bit_at e.rated n) (get_or charges n None)) (sym same) (
        settled_by is_rated refl,
        λ none. by_rate is_rated refl none,
      )
  | inr other ↦
      let was = are i few (sym (others i other) ∙ bare) in (
        subst (λ (x : Basis). IsSettled (occupant places i) x (get_or charges i None)) (noted_same d e w tasks i sum limit_same) was.0,
        subst (λ (n : ℕ). IsFree n (get_or charges i None)) (sym (elsewhere i other)) was.1,
      )
]
  where
    by_rate : (b : Bool) → is_rated ≡ b → bit_at e.rated cpu ≡ 0 → IfSome (get_or charges cpu None) (λ s. s.claim ≡ None)
    by_rate true same none = let one = marked same in absurd (omega (arith, one, none))
    by_rate false same none = free same

    settled_by : (b : Bool) → is_rated ≡ b → IsSettled (occupant places cpu) (noted_basis e w tasks cpu) (get_or charges cpu None)
    settled_by true same =
        let is = noted same in
        subst (λ (x : Basis). IsSettled (occupant places cpu) x (get_or charges cpu None)) (sym (noted_now e w limit tasks cpu (sum ∙ is.0) (limit_same ∙ is.1))) here
    settled_by false same = free_settled (occupant places cpu) (basis_in w limit tasks cpu) (noted_basis e w tasks cpu) (get_or charges cpu None) here (free same)

-- where neither its marks nor what is noted is another
pub same_trusted : (d e : StaleCharges) (w i : ℕ) (o : Option ℕ) (charges : List (Option OpenCharge)) (tasks : List Task)
    → bit_at e.cpus i ≡ bit_at d.cpus i → bit_at e.rated i ≡ bit_at d.rated i → e.sum ≡ d.sum → e.limit ≡ d.limit
    → IsTrusted d w o charges tasks i → IsTrusted e w o charges tasks i
same_trusted d e w i o charges tasks marks rated sum limit are few bare =
    let was = are few (sym marks ∙ bare) in (
      subst (λ (b : Basis). IsSettled o b (get_or charges i None)) (noted_same d e w tasks i sum limit) was.0,
      subst (λ (n : ℕ). IsFree n (get_or charges i None)) (sym rated) was.1,
    )

-- another open charge for a CPU changes nothing on the others
pub charge_other : (d e : StaleCharges) (w cpu i : ℕ) (o : Option ℕ) (x : Option OpenCharge) (charges : List (Option OpenCharge)) (tasks : List Task)
    → bit_at e.cpus i ≡ bit_at d.cpus i → bit_at e.rated i ≡ bit_at d.rated i → e.sum ≡ d.sum → e.limit ≡ d.limit → i ≢ cpu
    → IsTrusted d w o charges tasks i → IsTrusted e w o (set charges cpu x) tasks i
charge_other d e w cpu i o x charges tasks marks rated sum limit other are few bare =
    let was = same_trusted d e w i o charges tasks marks rated sum limit are few bare in
    let open_charge = sym (get_or-set_other charges cpu i x None other) in
    (subst (IsSettled o (noted_basis e w tasks i)) open_charge was.0, subst (IsFree (bit_at e.rated i)) open_charge was.1)

-- the tasks of the CPUs that are not stale sit rightly
pub seated_all : (d : StaleCharges) (w limit : ℕ) (places : Places) (s : OpenChargesView) (items : List Task) → w ≤ 64 → d.sum ≡ sum_of (owed_all s items) → d.limit ≡ limit
    → All (λ t. t.cpu < w) (owed_all s items) → AreOpen s.charges items → AreSettled d w places s.charges (owed_all s items)
    → All (λ t. bit_at d.cpus t.cpu ≡ 0 → HasItsCharge places w limit (owed_all s items) s.charges t) (owed_all s items)
seated_all d w limit places s items narrow sum limit_is homes waits are k x h bare =
    let tasks = owed_all s items in
    let cpu : ℕ = (get_or tasks k x).cpu in
    let few : cpu < 64 = let home = homes k x h in omega (arith, home, narrow) in
    let here : IsSettled (occupant places cpu) (basis_in w limit tasks cpu) (get_or s.charges cpu None) =
    subst (λ (b : Basis). IsSettled (occupant places cpu) b (get_or s.charges cpu None)) (noted_now d w limit tasks cpu sum limit_is) (are cpu few bare).0 in
    settled_right w limit s.upto cpu (occupant places cpu) s.charges items here waits k x h refl

-- ---- The task that runs on a CPU that no choice has given away

still_moved : (k : ℕ) (before after : Places) (i : ℕ) → length after ≡ length before → All (λ m. m.cpu ≢ k + i) (moved_from k before after) → get_or after i None ≡ get_or before i None
still_moved k [] [] i len all = refl
still_moved k [] (a ∷ after) i len all = absurd (omega (arith, len))
still_moved k (b ∷ before) [] i len all = absurd (omega (arith, len))
still_moved k (b ∷ before) (a ∷ after) zero len all =
    let m : Moved = record { cpu = k; before = b } in
    let rest = moved_from (k + 1) before after in
    elim (same_occupant b a) as (λ t. same_occupant b a ≡ t → All (λ m. m.cpu ≢ k + zero) (cond t rest (m ∷ rest)) → a ≡ b) [
      | true ↦ λ same every. sym (same_is b a same)
      | false ↦ λ same every. absurd (every 0 m (omega arith) (omega arith))
    ] refl all
still_moved k (b ∷ before) (a ∷ after) (suc i) len all =
    let m : Moved = record { cpu = k; before = b } in
    let rest = moved_from (k + 1) before after in
    let shift : (k + 1) + i ≡ k + suc i = omega arith in
    let back : All (λ m. m.cpu ≢ k + suc i) rest = elim (same_occupant b a) as (λ t. All (λ m. m.cpu ≢ k + suc i) (cond t rest (m ∷ rest)) → All (λ m. m.cpu ≢ k + suc i) rest) [
      | true ↦ λ every. every
      | false ↦ λ every j d h. every (suc j) d (omega (arith, h))
    ] all in
    still_moved (k + 1) before after i (omega (arith, len)) (λ j d h e. back j d h (e ∙ shift))

pub still_first : (before after : Places) (i : ℕ) → length after ≡ length before → All (λ m. m.cpu ≢ i) (moved_from 0 before after) → get_or after i None ≡ get_or before i None
still_first before after i len all = let none : 0 + i ≡ i = omega arith in still_moved 0 before after i len (λ k d h e. all k d h (e ∙ none))

-- the CPUs that a choice has given away, one after another
pub marked_next : (a b i : ℕ) (moves : List Moved) (j : ℕ) (d e : Moved) → j < i + 1 → (get_or moves j d).cpu < 64
    → ((k : ℕ) (x : Moved) → k < i → (get_or moves k x).cpu < 64 → bit_at a (get_or moves k x).cpu ≡ 1)
    → ((k : ℕ) → bit_at b k ≡ 0 → bit_at a k ≡ 0) → ((get_or moves i e).cpu < 64 → bit_at b (get_or moves i e).cpu ≡ 1) → i < length moves
    → bit_at b (get_or moves j d).cpu ≡ 1
marked_next a b i moves j d e h few before bare here within = elim (cases_lt j i) [
  | inl less ↦ kept_mark a b (get_or moves j d).cpu bare (before j d less) few
  | inr last ↦
      let same : j ≡ i = omega (arith, h, last) in
      let read : get_or moves i e ≡ get_or moves j d = get_or_default moves i e d within ∙ ap (λ n. get_or moves n d) (sym same) in
      subst (λ (m : Moved). bit_at b m.cpu ≡ 1) read (here (subst (λ (m : Moved). m.cpu < 64) (sym read) few))
]

-- no CPU that a choice has given away is one without a mark
pub moved_apart : (marks i : ℕ) (moves : List Moved) → All (λ m. m.cpu < 64 → bit_at marks m.cpu ≡ 1) moves → i < 64 → bit_at marks i ≡ 0 → All (λ m. m.cpu ≢ i) moves
moved_apart marks i moves all few bare k d h e = apart marks (get_or moves k d).cpu i (all k d h) few bare (sym e)

-- ---- THE Task table, where an open charge or the clock changes

-- only the clock of the open charges is another
pub marked_clock : (r a : ℕ) (s v : OpenChargesView) (items : List Task) → v.charges ≡ s.charges → IsMarked r a a s.charges v.charges (owed_all s items) (owed_all v items)
marked_clock r a s v items same = record {
  bare = λ i e. e;
  charges = λ i h e. ap (λ (xs : List (Option OpenCharge)). get_or xs i None) same;
  sums = λ i h e. inl (ap (uinact i) (shares_alike (owed v.upto v.charges) (alike_owed v.upto v.charges) items ∙ sym (shares_alike (owed s.upto s.charges) (alike_owed s.upto s.charges) items)));
}

pub clock_settled : (d : StaleCharges) (w : ℕ) (places : Places) (s v : OpenChargesView) (items : List Task) → v.charges ≡ s.charges → AreSettled d w places s.charges (owed_all s items) → AreSettled d w places v.charges (owed_all v items)
clock_settled d w places s v items same are = settled_again d d w places places s.charges v.charges (owed_all s items) (owed_all v items) refl refl refl (marked_clock d.rated d.cpus s v items same) (λ i h e. refl) are

-- another open charge for a CPU, which is marked
pub set_settled : (d e : StaleCharges) (w : ℕ) (places : Places) (s v : OpenChargesView) (items after : List Task) (cpu : ℕ) (o : Option OpenCharge) → v ≡ record s { charges = set s.charges cpu o } → owed_all v after ≡ owed_all s items
    → (cpu < 64 → bit_at e.cpus cpu ≡ 1) → ((i : ℕ) → bit_at e.cpus i ≡ 0 → bit_at d.cpus i ≡ 0) → e.rated ≡ d.rated → e.sum ≡ d.sum → e.limit ≡ d.limit
    → AreSettled d w places s.charges (owed_all s items) → AreSettled e w places v.charges (owed_all v after)
set_settled d e w places s v items after cpu o is same marked bare rated sum limit are =
    subst (λ (x : OpenChargesView). AreSettled e w places x.charges (owed_all v after)) (sym is)
    (settled_again d e w places places s.charges (set s.charges cpu o) (owed_all s items) (owed_all v after) rated sum limit
    (marked_set d.rated d.cpus e.cpus cpu o s.charges (owed_all s items) (owed_all v after) marked bare same) (λ i h q. refl) are)

-- another open charge for a CPU, of the task that runs there, by a claim that runs now
pub claimed_settled : (d e : StaleCharges) (w limit cpu : ℕ) (places : Places) (s v : OpenChargesView) (items after : List Task) (next : OpenCharge) (k : Claim) → v ≡ record s { charges = set s.charges cpu (Some next) } → owed_all v after ≡ owed_all s items
    → cpu < length s.charges → occupant places cpu ≡ Some next.number → next.claim ≡ Some k → IsOn (basis_in w limit (owed_all s items) cpu) k
    → ((i : ℕ) → i ≢ cpu → bit_at e.cpus i ≡ bit_at d.cpus i) → ((i : ℕ) → i ≢ cpu → bit_at e.rated i ≡ bit_at d.rated i)
    → (bit_at e.cpus cpu ≡ 0 → bit_at e.rated cpu ≡ 1) → (bit_at e.cpus cpu ≡ 0 → (d.sum ≡ sum_of (owed_all s items)) × (d.limit ≡ limit))
    → e.sum ≡ d.sum → e.limit ≡ d.limit → AreSettled d w places s.charges (owed_all s items) → AreSettled e w places v.charges (owed_all v after)
claimed_settled d e w limit cpu places s v items after next k is same inside is_on_cpu claim on others elsewhere marked noted sum limit_same are =
    subst (λ (x : OpenChargesView). AreSettled e w places x.charges (owed_all v after)) (sym is)
    (subst (AreSettled e w places charges) (sym same) (λ i. elim (cases_eq i cpu) [
      | inl at ↦ subst (λ (n : ℕ). IsTrusted e w (occupant places n) charges tasks n) (sym at) here
      | inr other ↦ charge_other d e w cpu i (occupant places i) (Some next) s.charges tasks (others i other) (elsewhere i other) sum limit_same other (are i)
    ]))
  where
    charges : List (Option OpenCharge)
    charges = set s.charges cpu (Some next)

    tasks : List Task
    tasks = owed_all s items

    here : IsTrusted e w (occupant places cpu) charges tasks cpu
    here few bare =
        let was_started : get_or charges cpu None ≡ Some next = get_or-set_same s.charges cpu (Some next) None inside in
        let rated : true ≡ is_some next.claim = sym (ap (λ (o : Option Claim). is_some o) claim) in
        let kept = noted_by e w limit cpu tasks next.claim true rated (subst (λ o. IfSome o (IsOn (basis_in w limit tasks cpu))) (sym claim) on) (λ t. (sum ∙ (noted bare).0, limit_same ∙ (noted bare).1)) in
        subst (λ (o : Option OpenCharge). IsSettled (occupant places cpu) (noted_basis e w tasks cpu) o × IsFree (bit_at e.rated cpu) o) (sym was_started)
        (subst (λ (n : Option ℕ). IsSettled n (noted_basis e w tasks cpu) (Some next)) (sym is_on_cpu) (refl, kept), free_by next.claim true (bit_at e.rated cpu) rated (λ t. marked bare))

-- one task more
pub push_settled : (d e : StaleCharges) (w : ℕ) (places : Places) (s v : OpenChargesView) (items after : List Task) (t : Task) → v ≡ record s { charges = without_charge t.cpu t.number s.charges } → owed_all v after ≡ owed_all s items ++ t ∷ []
    → (t.cpu < 64 → bit_at e.cpus t.cpu ≡ 1) → ((i : ℕ) → bit_at e.cpus i ≡ 0 → bit_at d.cpus i ≡ 0) → e.rated ≡ d.rated → e.sum ≡ d.sum → e.limit ≡ d.limit
    → AreSettled d w places s.charges (owed_all s items) → AreSettled e w places v.charges (owed_all v after)
push_settled d e w places s v items after t is more marked bare rated sum limit are =
    subst (λ (x : OpenChargesView). AreSettled e w places x.charges (owed_all v after)) (sym is)
    (subst (AreSettled e w places (without_charge t.cpu t.number s.charges)) (sym more)
    (settled_again d e w places places s.charges (without_charge t.cpu t.number s.charges) (owed_all s items) (owed_all s items ++ t ∷ []) rated sum limit
    (record {
      bare = bare;
      charges = λ i h q. left_elsewhere t.cpu t.number i s.charges (apart e.cpus t.cpu i marked h q);
      sums = λ i h q. inl (uinact_one i (owed_all s items) t (λ z. apart e.cpus t.cpu i marked h q (sym z)));
    })
    (λ i h q. refl) are))

-- a task at a place of the list has changed, and has no open charge on its CPU
pub apply_settled : (d e : StaleCharges) (w : ℕ) (places : Places) (charges after : List (Option OpenCharge)) (tasks now : List Task) (p cpu number : ℕ) (f : Task → Task) (x : Task) → p < length tasks → x ≡ get_or tasks p x → x.cpu ≡ cpu → x.number ≡ number → (f x).cpu ≡ x.cpu → (f x).number ≡ x.number
    → IsTimerStep f p tasks now → ((t : Task) → after ≡ charges_without (get_or now p t) (charges_without (get_or tasks p t) charges))
    → IsLeft d.rated e.cpus cpu number charges → ((i : ℕ) → bit_at e.cpus i ≡ 0 → bit_at d.cpus i ≡ 0) → e.rated ≡ d.rated → e.sum ≡ d.sum → e.limit ≡ d.limit
    → AreSettled d w places charges tasks → AreSettled e w places after now
apply_settled d e w places charges after tasks now p cpu number f x h read home named stays keeps step left_are left_it bare rated sum limit are =
    let y = f x in
    let now_is : now ≡ set tasks p y = step.is x ∙ ap (λ (t : Task). set tasks p (f t)) (sym read) in
    let there : get_or now p x ≡ y = ap (λ (ts : List Task). get_or ts p x) now_is ∙ get_or-set_same tasks p y x h in
    let first : charges_without (get_or tasks p x) charges ≡ without_charge cpu number charges = ap (λ (t : Task). charges_without t charges) (sym read) ∙ (λ i. without_charge (home i) (named i) charges) in
    let charges_are : after ≡ without_charge cpu number (without_charge cpu number charges) =
    left_are x
    ∙ (λ i. charges_without (there i) (first i))
    ∙ (λ i. without_charge ((stays ∙ home) i) ((keeps ∙ named) i) (without_charge cpu number charges)) in
    subst (λ (xs : List (Option OpenCharge)). AreSettled e w places xs now) (sym charges_are)
    (subst (AreSettled e w places (without_charge cpu number (without_charge cpu number charges))) (sym now_is)
    (settled_again d e w places places charges (without_charge cpu number (without_charge cpu number charges)) tasks (set tasks p y) rated sum limit
    (marked_home d.rated d.cpus e.cpus cpu number charges tasks p x y h read home (stays ∙ home) left_it bare)
    (λ i h q. refl) are))

-- a task of a CPU without an open charge has changed, and belongs to it still: an empty open charge
-- is right whatever the inactive bandwidth is
pub free_applied : (d : StaleCharges) (w : ℕ) (places : Places) (charges : List (Option OpenCharge)) (tasks : List Task) (p : ℕ) (x y : Task) → p < length tasks → x ≡ get_or tasks p x → y.cpu ≡ x.cpu → get_or charges x.cpu None ≡ None
    → AreSettled d w places charges tasks → AreSettled d w places charges (set tasks p y)
free_applied d w places charges tasks p x y h read stays none are cpu few bare =
    let was = are cpu few bare in (
      elim (cases_eq cpu x.cpu) [
        | inl same ↦
            let free : get_or charges cpu None ≡ None = ap (λ (n : ℕ). get_or charges n None) same ∙ none in
            free_settled (occupant places cpu) (noted_basis d w tasks cpu) (noted_basis d w (set tasks p y) cpu) (get_or charges cpu None) was.0
            (subst (λ (o : Option OpenCharge). IfSome o (λ s. s.claim ≡ None)) (sym free) tt)
        | inr other ↦
            let sums = uinact_set cpu tasks p x y h read (λ q. other (sym q)) (λ q. other (sym q ∙ stays)) in
            subst (λ (n : ℕ). IsSettled (occupant places cpu) (record { uinact = n; share = d.sum / w; limit = d.limit }) (get_or charges cpu None)) (sym sums) was.0
      ],
      was.1,
    )
