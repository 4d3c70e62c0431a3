-- Names, numbered as they come.
use Rattle.std.proofs.Common.{◌≡◌, ℕ, zero, suc, ◌-◌, ◌<◌, ⊎_elim, Bool, true, false, List, [], ◌∷◌, ◌++◌, length, get_or, Some, Result, Ok, Err, refl, sym, ap, ◌∙◌, arith, subst, Vec, Global, map}
use Rattle.std.specs.Prelude.{slice_get, IfOk, OnErr, bytes_eq}
use Rattle.std.specs.Option.{option_map}
use Rattle.std.specs.List.{list_any, position}
use Rattle.std.proofs.lemmas.List.{map-append, get_or_append_left, length-append}
use Rattle.std.proofs.lemmas.List.{get_or-append_right}
use Rattle.std.proofs.lemmas.Bool.{cases_lt, or_parts}
use Rattle.std.proofs.lemmas.Slice.Eq.{bytes_eq-Decides}
use Rattle.std.proofs.lemmas.Option.{slice_get-map, slice_get-get_or}
use Rattle.std.proofs.lemmas.List.Quantifiers.{position-Some}
use Rattle.recorded_text.specs.Names.{Differ, names_with}
use Rattle.indexmap.specs.IndexSet.{insert_key}

abbrev pub texts : List (Vec ℕ Global) → List (List ℕ)
texts keys = map (λ v. v.items) keys

pub found_named : (name : List ℕ) (keys : List (Vec ℕ Global)) (i : ℕ) → position (λ k. bytes_eq name k.items) keys ≡ Some i → slice_get (texts keys) i ≡ Some name
found_named name [] i h = absurd cc
found_named name (k ∷ ks) i h =
    let p = position-Some (λ (v : Vec ℕ Global). bytes_eq name v.items) (k ∷ ks) i k h in
    slice_get-map (λ (v : Vec ℕ Global). v.items) (k ∷ ks) i ∙ ap (λ o. option_map (λ (v : Vec ℕ Global). v.items) o) (slice_get-get_or (k ∷ ks) i k p.0) ∙ ap Some (sym ((bytes_eq-Decides name (get_or (k ∷ ks) i k).items).0 p.1))

pub stored_named : (name : List ℕ) (value : Vec ℕ Global) (keys : List (Vec ℕ Global)) (i : ℕ) → value.items ≡ name → (k : Vec ℕ Global) × (slice_get keys i ≡ Some k) × (bytes_eq value.items k.items ≡ true) → slice_get (texts keys) i ≡ Some name
stored_named name value keys i e (k, s, t) =
    slice_get-map (λ (v : Vec ℕ Global). v.items) keys i ∙ ap (λ o. option_map (λ (v : Vec ℕ Global). v.items) o) s ∙ ap Some (sym ((bytes_eq-Decides value.items k.items).0 t) ∙ e)

absent : (name : List ℕ) (keys : List (Vec ℕ Global)) → list_any (λ k. bytes_eq name k.items) keys ≡ false → (j : ℕ) (d : List ℕ) → j < length (texts keys) → get_or (texts keys) j d ≡ name → ⊥
absent name [] h j d l e = absurd (omega (arith, l))
absent name (k ∷ ks) h zero d l e =
    let p = or_parts (bytes_eq name k.items) (list_any (λ (v : Vec ℕ Global). bytes_eq name v.items) ks) h in
    let yes = (bytes_eq-Decides name k.items).1 (sym e) in
    cc
absent name (k ∷ ks) h (suc j) d l e =
    let p = or_parts (bytes_eq name k.items) (list_any (λ (v : Vec ℕ Global). bytes_eq name v.items) ks) h in
    absent name ks p.1 j d (omega (arith, l)) e

pub one_more : (names : List (List ℕ)) (name : List ℕ) → Differ names → ((j : ℕ) (d : List ℕ) → j < length names → get_or names j d ≡ name → ⊥) → Differ (names ++ name ∷ [])
one_more names name h new =
    let len = length-append names (name ∷ []) in
    let at_end : (j : ℕ) (d : List ℕ) → j ≡ length names → get_or (names ++ name ∷ []) j d ≡ name =
    λ j d e. get_or-append_right names (name ∷ []) (length names) j d refl (omega (arith, e)) ∙ ap (λ (n : ℕ). get_or (name ∷ []) n d) (let z : j - length names ≡ 0 = omega (arith, e) in z) in
    record {
      apart = λ i j d less within same. ⊎_elim
          (λ inside. h.apart i j d less inside (sym (get_or_append_left names (name ∷ []) d i (omega (arith, less, inside))) ∙ same ∙ get_or_append_left names (name ∷ []) d j inside))
          (λ last. new i d (omega (arith, less, within, len, last)) (sym (get_or_append_left names (name ∷ []) d i (omega (arith, less, within, len))) ∙ same ∙ at_end j d (omega (arith, within, len, last))))
          (cases_lt j (length names));
    }

pub kept_differ : {E : Type 0} (r : Result (ℕ × Bool) E) (old new : List (Vec ℕ Global)) (name : List ℕ) (k : Vec ℕ Global) → Differ (texts old) → list_any (λ v. bytes_eq name v.items) old ≡ false → k.items ≡ name → IfOk r (λ p. new ≡ insert_key (λ a b. bytes_eq a.items b.items) old k) → OnErr r (new ≡ old) → Differ (texts new)
kept_differ (Ok p) old new name k h none is ok err =
    let none_of : list_any (λ (v : Vec ℕ Global). bytes_eq k.items v.items) old ≡ false = subst (λ (t : List ℕ). list_any (λ (v : Vec ℕ Global). bytes_eq t v.items) old ≡ false) (sym is) none in
    let keys : new ≡ old ++ k ∷ [] = ok ∙ rw none_of refl in
    let same : texts new ≡ texts old ++ k.items ∷ [] = ap texts keys ∙ map-append (λ (v : Vec ℕ Global). v.items) old (k ∷ []) in
    subst Differ (sym same) (one_more (texts old) k.items h (λ j d l e. absent name old none j d l (e ∙ is)))
kept_differ (Err e) old new name k h none is ok err = subst (λ keys. Differ (texts keys)) (sym err) h

among : (name : List ℕ) (keys : List (Vec ℕ Global)) → list_any (bytes_eq name) (texts keys) ≡ list_any (λ k. bytes_eq name k.items) keys
among name [] = refl
among name (k ∷ ks) = rw (among name ks) refl

-- a name that is there already, and a new one
pub known_called : (name : List ℕ) (keys : List (Vec ℕ Global)) → list_any (λ k. bytes_eq name k.items) keys ≡ true → texts keys ≡ names_with (texts keys) name
known_called name keys h = rw (among name keys, h) refl

pub new_called : (old new : List (Vec ℕ Global)) (name : List ℕ) (k : Vec ℕ Global) → list_any (λ v. bytes_eq name v.items) old ≡ false → k.items ≡ name → new ≡ insert_key (λ a b. bytes_eq a.items b.items) old k → texts new ≡ names_with (texts old) name
new_called old new name k none is inserted =
    let none_of : list_any (λ (v : Vec ℕ Global). bytes_eq k.items v.items) old ≡ false = subst (λ (t : List ℕ). list_any (λ (v : Vec ℕ Global). bytes_eq t v.items) old ≡ false) (sym is) none in
    let keys : new ≡ old ++ k ∷ [] = inserted ∙ rw none_of refl in
    let same : texts new ≡ texts old ++ name ∷ [] = ap texts keys ∙ map-append (λ (v : Vec ℕ Global). v.items) old (k ∷ []) ∙ ap (λ (n : List ℕ). texts old ++ n ∷ []) is in
    same ∙ rw (among name old, none) refl
