-- What running sums count when some shares come in the place of others.
use Rattle.std.proofs.Common.{◌≡◌, ℕ, ◌+◌, ◌<◌, Bool, eqb, ◌&&◌, List, [], ◌∷◌, ◌++◌, length, ap, ◌∙◌, arith}
use Rattle.std.specs.Prelude.{filter, sum_by, All, slice_index}
use Rattle.std.proofs.lemmas.List.Elements.{filter-append, All-append, All-nil, All-cons, All-head, All-tail, All-weaker}
use Rattle.std.proofs.lemmas.List.Sums.{sum_by-append}
use Rattle.grub_rules.specs.Sums.{Share, total_bw, this_bw, running_bw}
use Rattle.grub_rules.specs.Accounts.{AccountsView, AreAccounts, Exchanges}

sum_if-append : (p : Share → Bool) (xs ys : List Share) → sum_by (λ s. s.bw) (filter p (xs ++ ys)) ≡ sum_by (λ s. s.bw) (filter p xs) + sum_by (λ s. s.bw) (filter p ys)
sum_if-append p xs ys = rw (filter-append p xs ys) (sum_by-append (λ (s : Share). s.bw) (filter p xs) (filter p ys))

pub this_bw-append : (cpu : ℕ) (xs ys : List Share) → this_bw cpu (xs ++ ys) ≡ this_bw cpu xs + this_bw cpu ys
this_bw-append cpu xs ys = sum_if-append (λ s. eqb s.cpu cpu) xs ys

pub running_bw-append : (cpu : ℕ) (xs ys : List Share) → running_bw cpu (xs ++ ys) ≡ running_bw cpu xs + running_bw cpu ys
running_bw-append cpu xs ys = sum_if-append (λ s. eqb s.cpu cpu && s.active) xs ys

pub total_bw-append : (xs ys : List Share) → total_bw (xs ++ ys) ≡ total_bw xs + total_bw ys
total_bw-append xs ys = sum_by-append (λ (s : Share). s.bw) xs ys

pub All-front : {X : Type 0} (P : X → Type 0) (xs ys : List X) → All P (xs ++ ys) → All P xs
All-front P [] ys h = All-nil P
All-front P (x ∷ xs) ys h = All-cons P x xs (All-head P x (xs ++ ys) h) (All-front P xs ys (All-tail P x (xs ++ ys) h))

pub All-back : {X : Type 0} (P : X → Type 0) (xs ys : List X) → All P (xs ++ ys) → All P ys
All-back P [] ys h = h
All-back P (x ∷ xs) ys h = All-back P xs ys (All-tail P x (xs ++ ys) h)

middle : (f : List Share → ℕ) → ((xs ys : List Share) → f (xs ++ ys) ≡ f xs + f ys) → (xs zs ys : List Share) → f (xs ++ (zs ++ ys)) ≡ f xs + (f zs + f ys)
middle f law xs zs ys = law xs (zs ++ ys) ∙ ap (λ n. f xs + n) (law zs ys)

-- a sum over the list, where the sum at hand goes along with the shares that go and come
along : (f : List Share → ℕ) → ((xs ys : List Share) → f (xs ++ ys) ≡ f xs + f ys) → (old new : ℕ) (xs gone came ys : List Share) → new + f gone ≡ old + f came → old ≡ f (xs ++ (gone ++ ys)) → new ≡ f (xs ++ (came ++ ys))
along f law old new xs gone came ys change was = omega (arith, middle f law xs gone ys, middle f law xs came ys)

-- sums that count a list count it still when some of it is exchanged for other shares
pub exchanged : (old new : AccountsView) (xs gone came ys : List Share) → Exchanges old new gone came → All (λ s. s.cpu < length old.all) came → AreAccounts old (xs ++ (gone ++ ys)) → AreAccounts new (xs ++ (came ++ ys))
exchanged old new xs gone came ys change homes was =
    let P : Share → Type 0 = λ s. s.cpu < length old.all in
    let Q : Share → Type 0 = λ s. s.cpu < length new.all in
    let same : length new.all ≡ length old.all = change.cpus in
    let rest : All P ys = All-back P gone ys (All-back P xs (gone ++ ys) was.homes) in
    record {
      homes = All-weaker P Q (λ s h. omega arith) (xs ++ (came ++ ys)) (All-append P xs (came ++ ys) (All-front P xs (gone ++ ys) was.homes) (All-append P came ys homes rest));
      all = λ cpu. along (this_bw cpu) (this_bw-append cpu) (slice_index old.all cpu) (slice_index new.all cpu) xs gone came ys (change.all cpu) (was.all cpu);
      active = λ cpu. along (running_bw cpu) (running_bw-append cpu) (slice_index old.active cpu) (slice_index new.active cpu) xs gone came ys (change.active cpu) (was.active cpu);
      total = along total_bw total_bw-append old.total new.total xs gone came ys change.total was.total;
    }

-- one share comes
pub joined : (old new : AccountsView) (s : Share) (xs ys : List Share) → Exchanges old new [] (s ∷ []) → s.cpu < length old.all → AreAccounts old (xs ++ ys) → AreAccounts new (xs ++ s ∷ ys)
joined old new s xs ys change home was = let P : Share → Type 0 = λ x. x.cpu < length old.all in exchanged old new xs [] (s ∷ []) ys change (All-cons P s [] home (All-nil P)) was

-- one share goes
pub parted : (old new : AccountsView) (s : Share) (xs ys : List Share) → Exchanges old new (s ∷ []) [] → AreAccounts old (xs ++ s ∷ ys) → AreAccounts new (xs ++ ys)
parted old new s xs ys change was = let P : Share → Type 0 = λ x. x.cpu < length old.all in exchanged old new xs (s ∷ []) [] ys change (All-nil P) was

-- one share is another now
pub turned : (old new : AccountsView) (s t : Share) (xs ys : List Share) → Exchanges old new (s ∷ []) (t ∷ []) → t.cpu < length old.all → AreAccounts old (xs ++ s ∷ ys) → AreAccounts new (xs ++ t ∷ ys)
turned old new s t xs ys change home was = let P : Share → Type 0 = λ x. x.cpu < length old.all in exchanged old new xs (s ∷ []) (t ∷ []) ys change (All-cons P t [] home (All-nil P)) was
