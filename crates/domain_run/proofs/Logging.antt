-- A log that is logged one thing after another.
use Rattle.std.proofs.Common.{◌≡◌, ℕ, ◌+◌, ◌-◌, ◌<◌, ◌≤◌, Bool, true, false, cond, List, [], ◌++◌, length, map, take, drop, set, get_or, refl, sym, subst, ap, ◌∙◌, arith}
use borrow.Rule.Slice.PartMut.{mid_of, put_mid, post_of}
use Rattle.std.specs.Prelude.{AllPairs}
use Rattle.std.specs.List.Sorted.{IsPermutation}
use Rattle.std.proofs.lemmas.List.{append-nil, append_assoc, length-append, length-map, take_at, take_all, take-append-le, drop_at, get_or_default}
use Rattle.std.proofs.lemmas.List.Edits.{map_over_more}
use Rattle.std.proofs.lemmas.List.Sorted.{IsPermutation-trans, IsPermutation-append_right}
use Rattle.std.proofs.lemmas.Slice.{take-put_mid}
use Rattle.edf_pick.specs.Places.{Places}
use Rattle.domain_run.specs.declared.happened.Happened.{Happened}
use Rattle.domain_run.specs.Happened.{in_order, with_its_cpu}
use Rattle.domain_run.specs.Log.{LogView, if_wanted, HasLogged}
use Rattle.domain_run.specs.private.Expiring.{LogsPart}
use Rattle.domain_run.specs.private.TransitionLog.{IsApart, InOrderFrom, GoHome}
use Rattle.domain_run.proofs.LoggedSorted.{pairs_none, pairs_mixed, order_alike, length-in_order}

-- ---- Logged, one list after another

kept_alike : (a b : LogView) (hs : List Happened) → b.wanted ≡ a.wanted → if_wanted b hs ≡ if_wanted a hs
kept_alike a b hs same = ap (λ w. cond w hs []) same

-- one that keeps nothing is as it was
pub logs_silent : (logged : List Happened) (log : LogView) → log.wanted ≡ false → HasLogged log logged log
logs_silent logged log silent = record {
  wanted = refl;
  happened = sym (append-nil log.happened) ∙ ap (λ w. log.happened ++ cond w logged []) (sym silent);
  room = omega arith;
}

kept_none : (w : Bool) (xs : List Happened) → xs ≡ xs ++ cond w [] []
kept_none true xs = sym (append-nil xs)
kept_none false xs = sym (append-nil xs)

pub logs_none : (log : LogView) → HasLogged log [] log
logs_none log = record { wanted = refl; happened = kept_none log.wanted log.happened; room = omega arith }

kept_append : (w : Bool) (hs gs : List Happened) → cond w hs [] ++ cond w gs [] ≡ cond w (hs ++ gs) []
kept_append true hs gs = refl
kept_append false hs gs = refl

pub logs_more : (hs gs : List Happened) (a b c : LogView) → HasLogged a hs b → HasLogged b gs c → HasLogged a (hs ++ gs) c
logs_more hs gs a b c one two = record {
  wanted = two.wanted ∙ one.wanted;
  happened = two.happened ∙ (λ i. one.happened i ++ kept_alike a b gs one.wanted i) ∙ append_assoc a.happened (if_wanted a hs) (if_wanted a gs) ∙ ap (λ ks. a.happened ++ ks) (kept_append a.wanted hs gs);
  room = omega (arith, one.room, two.room);
}

-- ---- IN ORDER, what it has logged last

-- where as much runs in another order there is as much room
room_kept : (a b c : LogView) (hs gs : List Happened) → a.room + length a.happened ≤ b.room + length b.happened → b.happened ≡ a.happened ++ hs → c.room ≡ b.room → c.happened ≡ a.happened ++ gs → length gs ≡ length hs
    → a.room + length a.happened ≤ c.room + length c.happened
room_kept a b c hs gs le logged room put same =
    let len : List Happened → ℕ = λ xs. length xs in
    omega (arith, le, ap len logged, ap len put, length-append a.happened hs, length-append a.happened gs, same, room)

apart_kept : (w : Bool) (hs : List Happened) → AllPairs IsApart hs → AllPairs IsApart (cond w hs [])
apart_kept true hs apart = apart
apart_kept false hs apart = pairs_none IsApart

order_kept : (w : Bool) (hs gs : List Happened) → in_order hs ≡ gs → in_order (cond w hs []) ≡ cond w gs []
order_kept true hs gs same = same
order_kept false hs gs same = refl

-- logged in whatever order, it is logged in its own
pub logs_order : (hs gs : List Happened) (a b c : LogView) → IsPermutation hs gs → AllPairs IsApart hs → HasLogged a gs b → c.wanted ≡ b.wanted → c.room ≡ b.room → InOrderFrom (length a.happened) b.happened c.happened → HasLogged a (in_order hs) c
logs_order hs gs a b c mixed apart logged wanted room order =
    let put = order a.happened (if_wanted a gs) refl logged.happened (apart_kept a.wanted gs (pairs_mixed hs gs mixed apart)) in
    record {
      wanted = wanted ∙ logged.wanted;
      happened = put ∙ ap (λ ks. a.happened ++ ks) (order_kept a.wanted gs (in_order hs) (order_alike hs gs mixed apart));
      room = room_kept a b c (if_wanted a gs) (in_order (if_wanted a gs)) logged.room logged.happened room put (length-in_order (if_wanted a gs));
    }

home_kept : (places : Places) (w : Bool) (hs : List Happened) → in_order (map (with_its_cpu places) (cond w hs [])) ≡ cond w (in_order (map (with_its_cpu places) hs)) []
home_kept places true hs = refl
home_kept places false hs = refl

pub logs_home : (places : Places) (hs : List Happened) (a b c : LogView) → AllPairs IsApart hs → HasLogged a hs b → c.wanted ≡ b.wanted → c.room ≡ b.room → GoHome places (length a.happened) b.happened c.happened → HasLogged a (in_order (map (with_its_cpu places) hs)) c
logs_home places hs a b c apart logged wanted room homes =
    let kept = if_wanted a hs in
    let put = homes a.happened kept refl logged.happened (apart_kept a.wanted hs apart) in
    let same : length (in_order (map (with_its_cpu places) kept)) ≡ length kept = length-in_order (map (with_its_cpu places) kept) ∙ length-map kept (with_its_cpu places) in
    record {
      wanted = wanted ∙ logged.wanted;
      happened = put ∙ ap (λ ks. a.happened ++ ks) (home_kept places a.wanted hs);
      room = room_kept a b c kept (in_order (map (with_its_cpu places) kept)) logged.room logged.happened room put same;
    }

-- a log that has logged this, in whatever order
pub record LogsMixed (logged : List Happened) (before after : LogView) : Type 0 where
  pub tail : List Happened
  pub is : HasLogged before tail after
  pub mixed : IsPermutation logged tail

-- it has no more than it was logged
kept_few : (w : Bool) (hs : List Happened) → length (cond w hs []) ≤ length hs
kept_few true hs = omega arith
kept_few false hs = omega arith

pub logs_few : (n : ℕ) (hs : List Happened) (a b : LogView) → length hs ≤ n → HasLogged a hs b → length b.happened ≤ length a.happened + n
logs_few n hs a b few has_logged =
    omega (arith, ap (λ (xs : List Happened). length xs) has_logged.happened, length-append a.happened (cond a.wanted hs []), kept_few a.wanted hs, few)

-- of what was left to log it was logged a part
pub logs_parts : (all rest last : List Happened) (a b c : LogView) → LogsPart all rest a b → LogsPart rest last b c → LogsPart all last a c
logs_parts all rest last a b c one two = record {
  tail = one.tail ++ two.tail;
  is = logs_more one.tail two.tail a b c one.is two.is;
  mixed = IsPermutation-trans all (one.tail ++ rest) ((one.tail ++ two.tail) ++ last) one.mixed
      (subst (IsPermutation (one.tail ++ rest)) (sym (append_assoc one.tail two.tail last)) (IsPermutation-append_right one.tail rest (two.tail ++ last) two.mixed));
}

-- ---- THE REST OF A LIST, from a place on, is written anew

rest_is : (base others d : List Happened) (from : ℕ) → length base ≡ from → d ≡ base ++ others → mid_of from (length d - from) d ≡ others
rest_is base others d from len is =
    ap (λ (xs : List Happened). take (length xs - from) (drop from xs)) is
    ∙ ap (take (length (base ++ others) - from)) (drop_at base others from len)
    ∙ take_all (length (base ++ others) - from) others (omega (arith, len, length-append base others))

rest_written : (base others new items d : List Happened) (from n : ℕ) → length base ≡ from → items ≡ base ++ others → d ≡ items → length new ≡ length others → length d ≡ n
    → take n (put_mid from (length d - from) d new ++ drop (length (put_mid from (length d - from) d new)) items) ≡ base ++ new
rest_written base others new items d from n len is same long whole =
    let k : ℕ = length d - from in
    let all = put_mid from k d new in
    let post = post_of from k d in
    let size_of : List Happened → ℕ = λ xs. length xs in
    let front : take from d ≡ base = ap (take from) (same ∙ is) ∙ take_at base others from len in
    let size : length d ≡ from + length new = omega (arith, ap size_of (same ∙ is), length-append base others, len, long) in
    let most : n ≤ length all = omega (arith, size, whole, ap size_of front, len, length-append (take from d) (new ++ post), length-append new post) in
    take-append-le n all (drop (length all) items) most ∙ take-put_mid from k d new n (omega (arith, whole, size)) (omega (arith, size)) ∙ ap (λ xs. xs ++ new) front

pub written_from : (f : List Happened → List Happened) → ((hs : List Happened) → length (f hs) ≡ length hs) → (from n : ℕ) (items d new : List Happened) → d ≡ items → length d ≡ n
    → (AllPairs IsApart (mid_of from (length d - from) d) → new ≡ f (mid_of from (length d - from) d))
    → (base others : List Happened) → length base ≡ from → items ≡ base ++ others → AllPairs IsApart others
    → take n (put_mid from (length d - from) d new ++ drop (length (put_mid from (length d - from) d new)) items) ≡ base ++ f others
written_from f keeps from n items d new same whole puts base others len is apart =
    let rest : mid_of from (length d - from) d ≡ others = rest_is base others d from len (same ∙ is) in
    let put : new ≡ f others = puts (subst (AllPairs IsApart) (sym rest) apart) ∙ ap f rest in
    rest_written base others new items d from n len is same (ap (λ (xs : List Happened). length xs) put ∙ keeps others) whole ∙ ap (λ hs. base ++ hs) put

-- one after another
pub map_written : (f : Happened → Happened) (xs ys : List Happened) (i : ℕ) (d y : Happened) → i < length xs → length ys ≡ length xs → ys ≡ map f (take i xs) ++ drop i xs → y ≡ f (get_or ys i d) → set ys i y ≡ map f (take (i + 1) xs) ++ drop (i + 1) xs
map_written f xs ys i d y within long so_far is =
    ap (set ys i) is ∙ map_over_more f xs ys i (get_or ys i d) within so_far (get_or_default ys i d (get_or ys i d) (omega (arith, within, long)))
