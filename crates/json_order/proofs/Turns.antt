-- The loop over the characters of a text.
use Rattle.std.specs.Prelude.{encode_utf8, encode_utf8_all, IsUtf8}
use Rattle.std.proofs.Common.{ℕ, ◌+◌, ◌≡◌, ◌≢◌, List, [], ◌∷◌, ◌++◌, length, refl, sym, ap, ◌∙◌, subst, arith, Ok, Err, append-nil, append_assoc, length-append}
use Rattle.std.proofs.lemmas.Str.{encodes-append}
use Rattle.json_order.specs.Fault.{strict, IsJsonFault}
use Rattle.json_order.specs.private.Machine.{State, step, start, run, IsFinePlace}
use Rattle.json_order.specs.private.AtOnce.{Stands}
use Rattle.json_order.specs.private.Places.{OutcomeSays}
use Rattle.json_order.specs.declared.fault.JsonKind.{JsonKind}
use Rattle.json_order.specs.declared.fault.JsonKind.TheVariants.{Syntax, End, Depth, Duplicate, Utf8, Memory}
use Rattle.json_order.proofs.Runs.{sound_run, run_step}
use Rattle.json_order.proofs.Bytes.{AtEnd, fault_at}

-- what is known of a fault that is told
pub record Told (k : JsonKind) (at : ℕ) (kind : JsonKind) (place : ℕ) : Type 0 where
  pub same : kind ≡ k
  pub memory : k ≡ Memory → place ≡ 0
  pub other : k ≢ Memory → place ≡ at

pub fault_told : (bytes ys : List ℕ) (c : ℕ) (rest z : List ℕ) (s : State) (k : JsonKind) (at : ℕ) (kind : JsonKind) (place : ℕ) →
    IsUtf8 bytes → bytes ≡ encode_utf8_all ys ++ rest → rest ≡ encode_utf8 c ++ z → run strict (Ok start) ys ≡ Ok s → OutcomeSays (step strict s c) k → at ≡ length (encode_utf8_all ys) → Told k at kind place → IsJsonFault bytes kind place
fault_told bytes ys c rest z s k at kind place u seen next ran says here told = subst (λ x. IsJsonFault bytes x place) (sym told.same) (go k says told)
  where
    real : (k : JsonKind) → k ≢ Memory → step strict s c ≡ Err k → Told k at kind place → IsJsonFault bytes k place
    real k n e t =
        subst (λ x. IsJsonFault bytes k x) (sym (t.other n ∙ here))
        (fault_at bytes ys c z s k (record { utf8 = u; here = seen ∙ ap (λ x. encode_utf8_all ys ++ x) next }) (record { until = ran; refused = e }))

    go : (k : JsonKind) → OutcomeSays (step strict s c) k → Told k at kind place → IsJsonFault bytes k place
    go Syntax e t = real Syntax (λ x. cc) e t
    go End e t = real End (λ x. cc) e t
    go Depth e t = real Depth (λ x. cc) e t
    go Duplicate e t = real Duplicate (λ x. cc) e t
    go Utf8 e t = real Utf8 (λ x. cc) e t
    go Memory e t = t.memory refl

pub seen_more : (bytes ys : List ℕ) (c : ℕ) (rest z : List ℕ) → bytes ≡ encode_utf8_all ys ++ rest → rest ≡ encode_utf8 c ++ z → bytes ≡ encode_utf8_all (ys ++ c ∷ []) ++ z
seen_more bytes ys c rest z seen next =
    seen ∙ ap (λ x. encode_utf8_all ys ++ x) next ∙ sym (append_assoc (encode_utf8_all ys) (encode_utf8 c) z)
    ∙ ap (λ x. encode_utf8_all ys ++ x ++ z) (sym (append-nil (encode_utf8 c))) ∙ ap (λ x. x ++ z) (sym (encodes-append ys (c ∷ [])))

pub ran_more : (ys : List ℕ) (c : ℕ) (s u : State) → run strict (Ok start) ys ≡ Ok s → step strict s c ≡ Ok u → run strict (Ok start) (ys ++ c ∷ []) ≡ Ok u
ran_more ys c s u ran e = run_step strict ys c s ran ∙ e

pub fine_more : (ys : List ℕ) (u : State) → run strict (Ok start) ys ≡ Ok u → IsFinePlace u.place
fine_more ys u ran = (sound_run strict ys u ran).fine

nothing : (xs : List ℕ) → length xs ≡ 0 → xs ≡ []
nothing [] e = refl
nothing (x ∷ xs) e = absurd (omega arith)

pub all_seen : (bytes ys rest : List ℕ) → IsUtf8 bytes → bytes ≡ encode_utf8_all ys ++ rest → length rest ≡ 0 → AtEnd bytes ys
all_seen bytes ys rest u seen e = record { utf8 = u; here = seen ∙ ap (λ x. encode_utf8_all ys ++ x) (nothing rest e) ∙ append-nil (encode_utf8_all ys) }

-- THE STATE BEHIND A CHARACTER

pub stands_more : (text rest z : List ℕ) (c : ℕ) (s u : State) → Stands text s rest → rest ≡ encode_utf8 c ++ z → step strict s c ≡ Ok u → Stands text u z
stands_more text rest z c s u h next e = (h.0 ++ c ∷ [], seen_more text h.0 c rest z h.1 next, ran_more h.0 c s u h.2 e)

pub stands_fine : (text rest : List ℕ) (s : State) → Stands text s rest → IsFinePlace s.place
stands_fine text rest s h = fine_more h.0 s h.2

-- how much of the text stands before a character and what is left behind it
pub left_length : (text ys rest z : List ℕ) (c n : ℕ) → text ≡ encode_utf8_all ys ++ rest → rest ≡ encode_utf8 c ++ z → n ≡ length (encode_utf8 c) → length text ≡ length (encode_utf8_all ys) + (n + length z)
left_length text ys rest z c n e f g =
    let a = ap length e in let b = length-append (encode_utf8_all ys) rest in
    let d = ap length f in let i = length-append (encode_utf8 c) z in omega arith
