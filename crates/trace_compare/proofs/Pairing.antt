-- Matched runs, one after the other.
use Rattle.std.proofs.Common.{◌≡◌, ℕ, ◌+◌, ◌<◌, ◌≤◌, ◌⊎◌, inl, inr, List, [], ◌∷◌, ◌++◌, length, get_or, drop, Option, None, refl, sym, ap, ◌∙◌, map, append_assoc, append-nil}
use Rattle.std.specs.Prelude.{filter, nat_eq}
use Rattle.std.proofs.lemmas.List.{drop_more, drop_all, map-append, length-append}
use Rattle.std.proofs.lemmas.List.Elements.{filter-append}
use Rattle.trace_compare.specs.declared.run.Run.{Run}
use Rattle.trace_compare.specs.Differences.{one_pair, pairs_of, same_cpu}
use Rattle.trace_compare.proofs.Walking.{no_run}

pub pairs_step : (ms : List Run) (ps : List (Option Run)) (i : ℕ) → i < length ms → i < length ps → pairs_of (drop i ms) (drop i ps) ≡ one_pair (get_or ms i no_run) (get_or ps i None) ++ pairs_of (drop (i + 1) ms) (drop (i + 1) ps)
unfolding pairs_of
pairs_step ms ps i l k = ap (λ xs. pairs_of xs (drop i ps)) (drop_more ms i no_run l) ∙ ap (λ ys. pairs_of (get_or ms i no_run ∷ drop (i + 1) ms) ys) (drop_more ps i None k)

no_second : (ms : List Run) → pairs_of ms [] ≡ []
unfolding pairs_of
no_second [] = refl
no_second (m ∷ ms) = refl

no_first : (ps : List (Option Run)) → pairs_of [] ps ≡ []
unfolding pairs_of
no_first ps = refl

pub pairs_end : (ms : List Run) (ps : List (Option Run)) (i : ℕ) → (length ms ≤ i) ⊎ (length ps ≤ i) → pairs_of (drop i ms) (drop i ps) ≡ []
pairs_end ms ps i (inl h) = ap (λ xs. pairs_of xs (drop i ps)) (drop_all i ms h) ∙ no_first (drop i ps)
pairs_end ms ps i (inr h) = ap (λ ys. pairs_of (drop i ms) ys) (drop_all i ps h) ∙ no_second (drop i ms)

pub mapped_more : (f : Run × Run → ℕ) (old after all : List ℕ) (xs ys zs : List (Run × Run)) → after ≡ old ++ map f xs → zs ≡ xs ++ ys → old ++ map f zs ≡ all → after ++ map f ys ≡ all
mapped_more f old after all xs ys zs e z h =
    ap (λ a. a ++ map f ys) e ∙ append_assoc old (map f xs) (map f ys) ∙ ap (λ b. old ++ b) (sym (ap (map f) z ∙ map-append f xs ys)) ∙ h

pub mapped_end : (f : Run × Run → ℕ) (found all : List ℕ) (zs : List (Run × Run)) → zs ≡ [] → found ++ map f zs ≡ all → found ≡ all
mapped_end f found all zs e h = sym (ap (λ z. found ++ map f z) e ∙ append-nil found) ∙ h

pub same_more : (xs ys zs : List (Run × Run)) → zs ≡ xs ++ ys → same_cpu zs ≡ same_cpu xs + same_cpu ys
same_more xs ys zs e =
    let p = λ (q : Run × Run). nat_eq q.0.cpu q.1.cpu in
    ap same_cpu e ∙ ap length (filter-append p xs ys) ∙ length-append (filter p xs) (filter p ys)
