-- Each kind of step keeps the rule.
use Rattle.std.proofs.Common.{◌≡◌, ◌≢◌, ◌≤◌, ◌<◌, All, ℕ, zero, suc, ◌+◌, ◌-◌, ◌==◌, Bool, true, false, true≢false, List, [], ◌∷◌, ◌++◌, set, take, drop, sym, refl, ap, ◌∙◌, subst, arith, eq-eqb, ne_eqb, append-nil}
use Rattle.std.specs.Prelude.{if◌then◌else◌}
use Rattle.std.specs.List.{sum_by}
use Rattle.std.proofs.lemmas.List.{take-append-drop}
use Rattle.std.proofs.lemmas.List.Elements.{All-nil, All-cons, All-head, All-push, All-set, All-append, All-take, All-drop}
use Rattle.std.proofs.lemmas.List.Sums.{sum_by-cons, sum_by-append, sum_by_push}
use mathlib.Core.Option.{some, none}
use native.Mathlib.Decide.{ℕ_discrete}
use lib.ListN.{get_elem?}
use Rattle.atomic_table.specs.Table.{State, Me, step, keeps, Allows, Splits, Joins}
use Rattle.atomic_table.proofs.Lists.{set_else, set_again}
use Rattle.pass_seats.specs.declared.view.Mine.{Mine}
use Rattle.pass_seats.specs.declared.view.View.{View}
use Rattle.pass_seats.specs.Lists.{own}
use Rattle.pass_seats.specs.Listed.{spine_in, pass_in, passes_in, Knows, IsListed, fresh, opened}
use Rattle.pass_seats.specs.private.Pass.{pass_view}
use Rattle.pass_seats.specs.Kinds.{joined, spent_seat, first_pass, other_passes, listed, grown, with_entries, Appends, Agrees}
use Rattle.pass_seats.proofs.Views.{sum_set, sum_two, sum_at, all_at, all_from_at, all_set}

off : false ≡ true → ⊥
off f = true≢false (sym f)

module _ {E : Type 0} where
  own_step : (b : Bool) (x : E) (xs ys zs : List E) → xs ≡ ys ++ zs → (if b then (x ∷ xs) else xs) ≡ (if b then (x ∷ ys) else ys) ++ zs
  own_step true x xs ys zs e = ap (λ l. x ∷ l) e
  own_step false x xs ys zs e = e

  own-append : (c : ℕ) (xs ys : List (ℕ × E)) → own c (xs ++ ys) ≡ own c xs ++ own c ys
  own-append c [] ys = refl
  own-append c (x ∷ xs) ys = own_step (x.0 == c) x.1 (own c (xs ++ ys)) (own c xs) (own c ys) (own-append c xs ys)

  own_said : (c : ℕ) (said : List E) → own c (listed c said) ≡ said
  own_said c [] = refl
  own_said c (e ∷ said) = rw (eq-eqb c c refl) (ap (λ l. e ∷ l) (own_said c said))

  own_other : (c d : ℕ) (said : List E) → c ≢ d → own d (listed c said) ≡ []
  own_other c d [] ne = refl
  own_other c d (e ∷ said) ne = rw (ne_eqb c d ne) (own_other c d said ne)

  -- a pass has the list's entries of its client
  abbrev Fits : List (ℕ × E) → Mine E → Type 0
  Fits log p = p.entries ≡ own p.client log

  -- the rule of a spine
  module _ {S : Type 0} where
    abbrev pub Rule : State S (View E) → Type 0
    Rule s = IsListed s.views

    pub joins : (id other : ℕ) (v w : View E) → Joins Rule id v other w (joined v w) spent_seat
    joins id other v w s kept at apart there =
        let both = joined v w in
        let views = set s.views id both in
        let knows_v = all_at (Knows kept.log) s.views id v at kept.known in
        let knows_w = all_at (Knows kept.log) s.views other w (sym (set_else s.views id other both apart) ∙ there) kept.known in
        let knows_both : Knows kept.log both = record { whole = knows_v.whole; mine = All-append (Fits kept.log) v.passes w.passes knows_v.mine knows_w.mine } in
        let knows_spent : Knows kept.log spent_seat = record { whole = λ f. absurd (off f); mine = All-nil (Fits kept.log) } in
        record {
          log = kept.log;
          known = All-set (Knows kept.log) views other spent_seat knows_spent (All-set (Knows kept.log) s.views id both knows_both kept.known);
          one_spine =
              let a = sum_set spine_in s.views id v both at in
              let b = sum_set spine_in views other w spent_seat there in
              let k = kept.one_spine in
              omega (arith, a, b, k);
          one_pass = λ c.
              let a = sum_set (passes_in c) s.views id v both at in
              let b = sum_set (passes_in c) views other w spent_seat there in
              let j = sum_by-append (pass_in c) v.passes w.passes in
              let k = kept.one_pass c in
              omega (arith, a, b, j, k);
        }

    pub splits : (id : ℕ) (v : View E) → Splits Rule id v (other_passes v) (first_pass v)
    splits id v s kept at =
        let l = other_passes v in
        let r = first_pass v in
        let views = set s.views id l in
        let knows_v = all_at (Knows kept.log) s.views id v at kept.known in
        let knows_l : Knows kept.log l = record { whole = knows_v.whole; mine = All-drop (Fits kept.log) 1 v.passes knows_v.mine } in
        let knows_r : Knows kept.log r = record { whole = λ f. absurd (off f); mine = All-take (Fits kept.log) 1 v.passes knows_v.mine } in
        let whole : take 1 v.passes ++ drop 1 v.passes ≡ v.passes = take-append-drop 1 v.passes in
        record {
          log = kept.log;
          known = All-push (Knows kept.log) views r (All-set (Knows kept.log) s.views id l knows_l kept.known) knows_r;
          one_spine =
              let a = sum_by_push spine_in views r in
              let b = sum_set spine_in s.views id v l at in
              let k = kept.one_spine in
              omega (arith, a, b, k);
          one_pass = λ c.
              let a = sum_by_push (passes_in c) views r in
              let b = sum_set (passes_in c) s.views id v l at in
              let j : passes_in c r + passes_in c l ≡ passes_in c v = sym (sum_by-append (pass_in c) r.passes l.passes) ∙ ap (sum_by (pass_in c)) whole in
              let k = kept.one_pass c in
              omega (arith, a, b, j, k);
        }

    pub agrees : (slots id : ℕ) (me : Me S (View E)) → Allows Rule slots id me 0 (λ n. n) (Agrees (step slots 0 0 0 none) me)
    agrees slots id me s kept homes at bound =
        let v = me.0 in
        let knows = all_at (Knows kept.log) s.views id v at kept.known in
        let same : set s.views id v ≡ s.views = set_again s.views id v at in (
          v,
          keeps,
          tt,
          subst (λ (views : List (View E)). IsListed views) (sym same) kept,
          (refl, λ spine. subst (λ (log : List (ℕ × E)). All (λ p. p.entries ≡ own p.client log) v.passes) (sym (knows.whole spine)) knows.mine),
        )

    -- the view of a spine with one pass, in which both lists grow
    module _ (said : List E) (id : ℕ) (v : View E) (p : Mine E) (spine : v.is_spine ≡ true) (one : v.passes ≡ p ∷ []) (s : State S (View E)) (kept : Rule s) (at : get_elem? s.views id ≡ some v) where
      abbrev new : View E
      new = record v { log = v.log ++ listed p.client said; passes = record p { entries = p.entries ++ said } ∷ [] }

      abbrev log : List (ℕ × E)
      log = kept.log ++ listed p.client said

      knows_v : Knows kept.log v
      knows_v = all_at (Knows kept.log) s.views id v at kept.known

      mine_before : Fits kept.log p
      mine_before = All-head (Fits kept.log) p [] (subst (All (Fits kept.log)) one knows_v.mine)

      knows_new : Knows log new
      knows_new = record {
        whole = λ _. ap (λ l. l ++ listed p.client said) (knows_v.whole spine);
        mine = All-cons (Fits log) (record p { entries = p.entries ++ said }) [] (ap (λ l. l ++ said) mine_before ∙ ap (λ l. own p.client kept.log ++ l) (sym (own_said p.client said)) ∙ sym (own-append p.client kept.log (listed p.client said))) (All-nil (Fits log));
      }

      -- the pass is the only one of its client
      has_one : (c : ℕ) → passes_in c v ≡ pass_in c p
      has_one c = ap (sum_by (pass_in c)) one ∙ sum_by-cons (pass_in c) p [] ∙ (let e : pass_in c p + 0 ≡ pass_in c p = omega arith in e)

      apart : (j k : ℕ) (u : View E) (q : Mine E) → j ≢ id → get_elem? s.views j ≡ some u → get_elem? u.passes k ≡ some q → p.client ≢ q.client
      apart j k u q ne there has same =
          let two = sum_two (passes_in p.client) s.views id j v u ne at there in
          let most = kept.one_pass p.client in
          let a = has_one p.client in
          let b : pass_in p.client p ≡ 1 = rw (eq-eqb p.client p.client refl) refl in
          let d : pass_in p.client q ≡ 1 = rw (eq-eqb q.client p.client (sym same)) refl in
          let e = sum_at (pass_in p.client) u.passes k q has in
          absurd (omega (arith, two, most, a, b, d, e))

      not_spine : (j : ℕ) (u : View E) → j ≢ id → get_elem? s.views j ≡ some u → u.is_spine ≡ true → ⊥
      not_spine j u ne there is =
          let two = sum_two spine_in s.views id j v u ne at there in
          let most = kept.one_spine in
          let a : spine_in v ≡ 1 = rw spine refl in
          let b : spine_in u ≡ 1 = rw is refl in
          omega (arith, two, most, a, b)

      knows_other : (j : ℕ) (u : View E) → j ≢ id → get_elem? s.views j ≡ some u → Knows log u
      knows_other j u ne there =
          let knows = all_at (Knows kept.log) s.views j u there kept.known in
          record {
            whole = λ is. absurd (not_spine j u ne there is);
            mine = all_from_at (Fits log) u.passes (λ k q has.
                all_at (Fits kept.log) u.passes k q has knows.mine
                ∙ sym (append-nil (own q.client kept.log))
                ∙ ap (λ l. own q.client kept.log ++ l) (sym (own_other p.client q.client said (apart j k u q ne there has)))
                ∙ sym (own-append q.client kept.log (listed p.client said)));
          }

      kept_new : IsListed (set s.views id new)
      kept_new = record {
        log = log;
        known = all_set (Knows log) s.views id new knows_new knows_other;
        one_spine =
            let a = sum_set spine_in s.views id v new at in
            let k = kept.one_spine in
            omega (arith, a, k);
        one_pass = λ c.
            let a = sum_set (passes_in c) s.views id v new at in
            let b = has_one c in
            let d : passes_in c new ≡ pass_in c p = sum_by-cons (pass_in c) (record p { entries = p.entries ++ said }) [] ∙ (let e : pass_in c p + 0 ≡ pass_in c p = omega arith in e) in
            let k = kept.one_pass c in
            omega (arith, a, b, d, k);
      }

    pub appends : (said : List E) (slots id : ℕ) (me : Me S (View E)) (p : Mine E) → me.0.is_spine ≡ true → me.0.passes ≡ p ∷ [] → Allows Rule slots id me 0 (λ n. n) (Appends said (step slots 0 0 0 none) me)
    appends said slots id me p spine one s kept homes at bound =
        let v = me.0 in
        let same : new said id v p spine one s kept at ≡ with_entries said v = ap (grown said v) (sym one) in
        (new said id v p spine one s kept at, keeps, tt, kept_new said id v p spine one s kept at, ap (λ (u : View E). (u, me.1)) same)

-- the rule at the start
module _ (E : Type 0) where
  abbrev bare : ℕ → Mine E
  bare d = record { client = d; entries = [] }

  none_below : (c d n : ℕ) → c < d → sum_by (pass_in {E = E} c) (fresh d n) ≡ 0
  none_below c d zero lt = refl
  none_below c d (suc n) lt =
      let p = bare d in
      let a = sum_by-cons (pass_in {E = E} c) p (fresh (d + 1) n) in
      let b = none_below c (d + 1) n (omega arith) in
      let e : pass_in {E = E} c p ≡ 0 = rw (ne_eqb d c (λ s. absurd (omega (arith, s)))) refl in
      omega (arith, a, b, e)

  one_at_most : (c d n : ℕ) → sum_by (pass_in {E = E} c) (fresh d n) ≤ 1
  one_at_most c d zero = omega arith
  one_at_most c d (suc n) = at_first (ℕ_discrete d c) (one_at_most c (d + 1) n)
    where
      at_first : Dec (d ≡ c) → sum_by (pass_in {E = E} c) (fresh (d + 1) n) ≤ 1 → sum_by (pass_in {E = E} c) (fresh d (suc n)) ≤ 1
      at_first (yes e) le =
          let p = bare d in
          let a = sum_by-cons (pass_in {E = E} c) p (fresh (d + 1) n) in
          let b = none_below c (d + 1) n (omega (arith, e)) in
          let f : pass_in {E = E} c p ≡ 1 = rw (eq-eqb d c e) refl in
          omega (arith, a, b, f)
      at_first (no ne) le =
          let p = bare d in
          let a = sum_by-cons (pass_in {E = E} c) p (fresh (d + 1) n) in
          let f : pass_in {E = E} c p ≡ 0 = rw (ne_eqb d c ne) refl in
          omega (arith, a, le, f)

  no_entries : (d n : ℕ) → All (λ (p : Mine E). p.entries ≡ own p.client []) (fresh d n)
  no_entries d zero = All-nil (λ (p : Mine E). p.entries ≡ own p.client [])
  no_entries d (suc n) = All-cons (λ (p : Mine E). p.entries ≡ own p.client []) (bare d) (fresh (d + 1) n) refl (no_entries (d + 1) n)

  pub begins : (clients : ℕ) → IsListed {E = E} (opened clients ∷ [])
  begins clients = record {
    log = [];
    known = All-cons (Knows []) (opened clients) [] (record { whole = λ _. refl; mine = no_entries 1 clients }) (All-nil (Knows []));
    one_spine = (let a = sum_by-cons (spine_in {E = E}) (opened clients) [] in omega (arith, a));
    one_pass = λ c. (let a = sum_by-cons (passes_in {E = E} c) (opened clients) [] in let b = one_at_most c 1 clients in omega (arith, a, b));
  }

  -- the first of some fresh passes, and the others
  pub first_fresh : (c n : ℕ) → 0 < n → take 1 (fresh {E = E} c n) ≡ bare c ∷ []
  first_fresh c zero lt = absurd (omega arith)
  first_fresh c (suc n) lt = refl

  pub others_fresh : (c n : ℕ) → 0 < n → drop 1 (fresh {E = E} c n) ≡ fresh (c + 1) (n - 1)
  others_fresh c zero lt = absurd (omega arith)
  others_fresh c (suc n) lt = ap (λ k. fresh (c + 1) k) (let e : n ≡ suc n - 1 = omega arith in e)

-- the passes of a seat that a badge was made into
module _ {E : Type 0} where
  abbrev first_passes : List (View E) → List (Mine E)
  first_passes [] = []
  first_passes (v ∷ views) = v.passes

  pub passes_back : (was views : List (View E)) (v : View E) (c : ℕ) (entries : List E) → views ≡ v ∷ [] → views ≡ was → was ≡ pass_view c entries ∷ [] → v.passes ≡ record { client = c; entries = entries } ∷ []
  passes_back was views v c entries a b d = ap first_passes (sym a ∙ b ∙ d)

  -- the view of a pass that has just been split off, and of the passes that are left
  pub dealt_pass : (v : View E) (c n : ℕ) → 0 < n → v.passes ≡ fresh c n → first_pass v ≡ pass_view c []
  dealt_pass v c n lt e =
      let seat : List (Mine E) → View E = λ ps. record { is_spine = false; log = []; passes = ps } in
      ap seat (ap (take 1) e ∙ first_fresh E c n lt)
