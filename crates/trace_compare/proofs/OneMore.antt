-- One more element of a list that is looked at, or made.
use borrow.Author.Count.{below_more}
use Rattle.std.proofs.Common.{ℕ, ◌≡◌, ◌+◌, ◌<◌, ◌≤◌, List, [], ◌∷◌, ◌++◌, length, reverse, get_or, All, length-append, append-nil, take, sym, ap, ◌∙◌, subst, arith}
use Rattle.std.proofs.Math.ListN.{get_or-append}
use Rattle.std.proofs.lemmas.List.{get_or_default, get_or_push, take_more}
use Rattle.std.proofs.lemmas.Grind.{flat_map-append}
use Rattle.std.specs.List.{flat_map}
use Rattle.std.proofs.lemmas.List.Elements.{All-push}
use Rattle.std.specs.declared.vec.Vec.{Vec}
use Rattle.std.specs.Global.{Global}
use Rattle.trace_compare.specs.Runs.{runs_of}
use Rattle.trace_compare.specs.Tasks.{AreSoundRuns}
use Rattle.trace_compare.specs.private.Behind.{Lists, AreRunsSettled}
use Rattle.trace_compare.specs.Pairs.{fits, partners, left_over}
use Rattle.trace_compare.specs.Compared.{AreMatched}
use Rattle.trace_compare.specs.declared.clock.ClockShift.{ClockShift}
use Rattle.trace_compare.specs.declared.pairs.Matching.{Matching}
use Rattle.trace_compare.specs.declared.run.Run.{Run}
use Rattle.trace_compare.specs.declared.task.TaskRuns.{TaskRuns}

-- what holds of each element holds of one more
pushed_holds : {X : Type 0} (P : ℕ → X → Type 0) (xs after : List X) (x : X) (n : ℕ) → length xs ≡ n → after ≡ xs ++ x ∷ [] → ((j : ℕ) (d : X) → j < n → P j (get_or xs j d)) → P n x → (j : ℕ) (d : X) → j < n + 1 → P j (get_or after j d)
pushed_holds P xs after x n many e all one j d h =
    subst (λ ys. P j (get_or ys j d)) (sym e)
    (below_more (λ k. P k (get_or (xs ++ x ∷ []) k d)) n
    (λ k b. subst (P k) (sym (get_or-append xs (x ∷ []) d k (omega (arith, many, b)))) (all k d b))
    (subst (P n) (sym (get_or_push xs x d n many)) one) j h)

pub matched_more : (within : ℕ) (shift : ClockShift) (tasks : List TaskRuns) (n : ℕ) (ms after : List Matching) (m : Matching) (task : TaskRuns) → AreMatched within shift tasks n ms → after ≡ ms ++ m ∷ [] → n < length tasks → task ≡ get_or tasks n task → m.partners.items ≡ partners (fits within shift) task.model.items task.recorded.items → m.left.items ≡ left_over (fits within shift) task.model.items task.recorded.items → AreMatched within shift tasks (n + 1) after
matched_more within shift tasks n ms after m task v e more here takes leaves =
    let same : (t : TaskRuns) → task ≡ get_or tasks n t = λ t. here ∙ get_or_default tasks n task t more in
    record {
      as_many = ap length e ∙ length-append ms (m ∷ []) ∙ ap (λ k. k + 1) v.as_many;
      takes = λ j t d h. pushed_holds (λ k x. x.partners.items ≡ partners (fits within shift) (get_or tasks k t).model.items (get_or tasks k t).recorded.items) ms after m n v.as_many e
          (λ k x b. v.takes k t x b) (takes ∙ ap (λ (u : TaskRuns). partners (fits within shift) u.model.items u.recorded.items) (same t)) j d h;
      leaves = λ j t d h. pushed_holds (λ k x. x.left.items ≡ left_over (fits within shift) (get_or tasks k t).model.items (get_or tasks k t).recorded.items) ms after m n v.as_many e
          (λ k x b. v.leaves k t x b) (leaves ∙ ap (λ (u : TaskRuns). left_over (fits within shift) u.model.items u.recorded.items) (same t)) j d h;
    }

pub settled_more : (noise : ℕ) (model recorded : Lists) (n : ℕ) (ts after : List TaskRuns) (t : TaskRuns) (m r : Vec Run Global) → AreRunsSettled noise model recorded n ts → after ≡ ts ++ t ∷ [] → n < length model → n < length recorded → m ≡ get_or model n m → r ≡ get_or recorded n r → t.model.items ≡ runs_of noise (reverse m.items) → t.recorded.items ≡ runs_of noise (reverse r.items) → AreSoundRuns t → AreRunsSettled noise model recorded (n + 1) after
settled_more noise model recorded n ts after t m r v e within also here there of_model of_recorded sound =
    let same : (d : Vec Run Global) → m ≡ get_or model n d = λ d. here ∙ get_or_default model n m d within in
    let alike : (d : Vec Run Global) → r ≡ get_or recorded n d = λ d. there ∙ get_or_default recorded n r d also in
    record {
      as_many = ap length e ∙ length-append ts (t ∷ []) ∙ ap (λ k. k + 1) v.as_many;
      of_model = λ j u d h. pushed_holds (λ k x. x.model.items ≡ runs_of noise (reverse (get_or model k d).items)) ts after t n v.as_many e
          (λ k x b. v.of_model k x d b) (of_model ∙ ap (λ (l : Vec Run Global). runs_of noise (reverse l.items)) (same d)) j u h;
      of_recorded = λ j u d h. pushed_holds (λ k x. x.recorded.items ≡ runs_of noise (reverse (get_or recorded k d).items)) ts after t n v.as_many e
          (λ k x b. v.of_recorded k x d b) (of_recorded ∙ ap (λ (l : Vec Run Global). runs_of noise (reverse l.items)) (alike d)) j u h;
      sound = subst (All AreSoundRuns) (sym e) (All-push AreSoundRuns ts t v.sound sound);
    }

-- the least so far, where the next is no less, and where it is
pub least_stays : (f : Run → ℕ) (xs : List Run) (n i : ℕ) → ((d : Run) → f (get_or xs n d) ≤ f (get_or xs i d)) → ((j : ℕ) (d : Run) → j < i → f (get_or xs n d) ≤ f (get_or xs j d)) → (j : ℕ) (d : Run) → j < i + 1 → f (get_or xs n d) ≤ f (get_or xs j d)
least_stays f xs n i here least j d h = below_more (λ k. f (get_or xs n d) ≤ f (get_or xs k d)) i (λ k b. least k d b) (here d) j h

pub least_moves : (f : Run → ℕ) (xs : List Run) (n i : ℕ) → ((d : Run) → f (get_or xs i d) < f (get_or xs n d)) → ((j : ℕ) (d : Run) → j < i → f (get_or xs n d) ≤ f (get_or xs j d)) → (j : ℕ) (d : Run) → j < i → f (get_or xs i d) < f (get_or xs j d)
least_moves f xs n i here least j d h = let a = here d in let b = least j d h in omega (arith, a, b)

pub least_here : (f : Run → ℕ) (xs : List Run) (i : ℕ) → ((j : ℕ) (d : Run) → j < i → f (get_or xs i d) < f (get_or xs j d)) → (j : ℕ) (d : Run) → j < i + 1 → f (get_or xs i d) ≤ f (get_or xs j d)
least_here f xs i first j d h = below_more (λ k. f (get_or xs i d) ≤ f (get_or xs k d)) i (λ k b. let a = first k d b in omega (arith, a)) (omega arith) j h

-- what each element gives, one after the other
pub flat_told : {A B : Type 0} (f : A → List B) (before after : List B) (xs : List A) (i : ℕ) (x : A) → i < length xs → x ≡ get_or xs i x → before ≡ flat_map f (take i xs) → after ≡ before ++ f x → after ≡ flat_map f (take (i + 1) xs)
flat_told f before after xs i x within here b a =
    a ∙ ap (λ ys. ys ++ f x) b ∙ ap (λ ys. flat_map f (take i xs) ++ ys) (sym (append-nil (f x))) ∙ sym (flat_map-append f (take i xs) (x ∷ []))
    ∙ ap (λ (y : _). flat_map f (take i xs ++ y ∷ [])) here ∙ ap (flat_map f) (sym (take_more xs i x within))
