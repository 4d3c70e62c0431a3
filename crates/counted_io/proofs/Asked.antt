-- Calls behind those before.
use Rattle.std.proofs.Common.{◌≡◌, ℕ, ◌+◌, ◌-◌, ◌<◌, List, [], ◌∷◌, ◌++◌, length, All, Option, Some, refl, sym, ap, ◌∙◌, arith}
use Rattle.std.proofs.lemmas.List.{append_assoc, append-nil, length-append}
use Rattle.std.proofs.lemmas.List.Elements.{All-nil, All-push}
use Rattle.std.proofs.lemmas.List.Sums.{sum_by-append}
use Rattle.counted_io.specs.declared.call.Call.{Call}
use Rattle.counted_io.specs.Calls.{Moves, moved_by, bytes_moved, EndsIn, AskForTheRest, IsWriting, IsStoppedWriting}

-- one more
pub behind : (old calls now next : List Call) (one : Call) → now ≡ old ++ calls → next ≡ now ++ one ∷ [] → next ≡ old ++ (calls ++ one ∷ [])
behind old calls now next one p q = q ∙ ap (λ (xs : List Call). xs ++ one ∷ []) p ∙ append_assoc old calls (one ∷ [])

-- so many reads, each of which gave some bytes
pub record AreReads (old now : List Call) (n : ℕ) : Type 0 where
  pub calls : List Call
  pub since : now ≡ old ++ calls
  pub moves : All Moves calls
  pub count : length calls ≡ n

pub no_reads : (old : List Call) → AreReads old old 0
no_reads old = record { calls = []; since = sym (append-nil old); moves = All-nil Moves; count = refl }

pub read_on : (old now next : List Call) (one : Call) (n : ℕ) → AreReads old now n → next ≡ now ++ one ∷ [] → Moves one → AreReads old next (n + 1)
read_on old now next one n r q m = record {
  calls = r.calls ++ one ∷ [];
  since = behind old r.calls now next one r.since q;
  moves = All-push Moves r.calls one r.moves m;
  count = length-append r.calls (one ∷ []) ∙ ap (λ (k : ℕ). k + 1) r.count;
}

pub read_to : (a : Option ℕ) (old now next : List Call) (one : Call) (n : ℕ) → AreReads old now n → next ≡ now ++ one ∷ [] → one.answer ≡ a → (calls : List Call) × (next ≡ old ++ calls) × EndsIn calls a
read_to a old now next one n r q e =
    (r.calls ++ one ∷ [], behind old r.calls now next one r.since q, record { before = r.calls; last = one; whole = refl; moves = r.moves; answered = e })

-- writes that took some bytes each, so many of so many
pub record AreWrites (old now : List Call) (n at : ℕ) : Type 0 where
  pub calls : List Call
  pub since : now ≡ old ++ calls
  pub written : IsWriting n at calls

pub no_writes : (old : List Call) (n : ℕ) → AreWrites old old n 0
no_writes old n = record { calls = []; since = sym (append-nil old); written = record { moves = All-nil Moves; taken = refl; asked = tt } }

pub asks_on : (n : ℕ) (calls : List Call) (one : Call) → AskForTheRest n calls → one.most ≡ n - bytes_moved calls → AskForTheRest n (calls ++ one ∷ [])
asks_on n [] one a e = (omega (arith, e), tt)
asks_on n (c ∷ calls) one a e =
    let all : one.most ≡ n - (0 + moved_by c.answer + bytes_moved calls) = e ∙ ap (λ (m : ℕ). n - m) (sum_by-append (λ (x : Call). moved_by x.answer) (c ∷ []) calls) in
    (a.0, asks_on (n - moved_by c.answer) calls one a.1 (omega (arith, all)))

pub write_on : (old now next : List Call) (one : Call) (n at k : ℕ) → AreWrites old now n at → next ≡ now ++ one ∷ [] → one.most ≡ n - at → one.answer ≡ Some k → 0 < k → AreWrites old next n (at + k)
write_on old now next one n at k r q most answer some =
    let f : Call → ℕ = λ c. moved_by c.answer in
    let here : f one ≡ k = ap moved_by answer in
    record {
      calls = r.calls ++ one ∷ [];
      since = behind old r.calls now next one r.since q;
      written = record {
        moves = All-push Moves r.calls one r.written.moves (rw answer some);
        taken = sum_by-append f r.calls (one ∷ []) ∙ omega (arith, r.written.taken, here);
        asked = asks_on n r.calls one r.written.asked (most ∙ ap (λ (m : ℕ). n - m) (sym r.written.taken));
      };
    }

pub write_stop : (old now next : List Call) (one : Call) (n at : ℕ) → AreWrites old now n at → next ≡ now ++ one ∷ [] → one.most ≡ n - at → moved_by one.answer ≡ 0 → (calls : List Call) × (next ≡ old ++ calls) × IsStoppedWriting n at calls
write_stop old now next one n at r q most none =
    (r.calls ++ one ∷ [], behind old r.calls now next one r.since q, record { before = r.calls; last = one; whole = refl; written = r.written; asked = most; refused = none })
