-- All tasks, moment by moment.
use Rattle.std.proofs.Common.{◌≡◌, ℕ, ◌+◌, ◌≤◌, ◌<◌, ⊎_elim, Bool, true, false, cond, eqb, drop-drop, drop_of_length-le, None, List, [], ◌∷◌, ◌++◌, length, get_or, take, drop, map, refl, sym, ap, ◌∙◌, arith}
use Rattle.std.specs.Prelude.{nat_le}
use Rattle.std.specs.List.{prefix_len}
use Rattle.std.proofs.lemmas.Bool.{le-leb, lt-leb, cases_lt}
use Rattle.std.proofs.lemmas.List.{map_more, map-id, get_or_default, drop_more}
use Rattle.std.proofs.lemmas.List.Sums.{fold-append, prefix_len_is}
use Rattle.std.proofs.lemmas.List.Folds.{length-prefix_len}
use Rattle.domain_run.specs.declared.happened.What.TheVariants.{JobEnds}
use Rattle.domain_run.specs.declared.happened.Happened.{Happened}
use Rattle.domain_run.specs.Switch.{Switch}
use Rattle.domain_run.specs.declared.switch.PrevState.TheVariants.{Running}
use Rattle.chart_pieces.specs.declared.status.Moment.{Moment}
use Rattle.chart_pieces.specs.declared.window.Window.{Window}
use Rattle.chart_pieces.specs.Moments.{moment_of, moments_by, beyond, moments}
use Rattle.chart_pieces.specs.private.LineView.{ChartLineView}
use Rattle.chart_pieces.specs.private.Lines.{bars_after, bars_if, bars_all}

pub map-map : {X Y Z : Type 0} (f : Y → Z) (g : X → Y) (xs : List X) → map f (map g xs) ≡ map (λ x. f (g x)) xs
map-map f g [] = refl
map-map f g (x ∷ xs) = λ i. f (g x) ∷ map-map f g xs i

pub map_same : {X Y : Type 0} (f g : X → Y) (xs : List X) → ((x : X) → f x ≡ g x) → map f xs ≡ map g xs
map_same f g [] same = refl
map_same f g (x ∷ xs) same = λ i. same x i ∷ map_same f g xs same i

-- NUMBERS STAY
number_kept : (w : Window) (l : ChartLineView) (m : Moment) → (bars_if w l m).number ≡ l.number
number_kept w l m = elim (eqb l.number m.number) as (λ b. (cond b (bars_after w m l) l).number ≡ l.number) [ true ↦ refl | false ↦ refl ]

pub number_of_line : (w : Window) (ms : List Moment) (l : ChartLineView) → (bars_all w ms l).number ≡ l.number
number_of_line w [] l = refl
number_of_line w (m ∷ ms) l = number_of_line w ms (bars_if w l m) ∙ number_kept w l m

pub numbers_of_lines : (w : Window) (ms : List Moment) (ls now : List ChartLineView) (numbers : List ℕ) → now ≡ map (bars_all w ms) ls → map (λ l. l.number) ls ≡ numbers → map (λ l. l.number) now ≡ numbers
numbers_of_lines w ms ls now numbers is keyed =
    ap (λ (xs : List ChartLineView). map (λ l. l.number) xs) is
    ∙ map-map (λ (l : ChartLineView). l.number) (bars_all w ms) ls ∙ map_same (λ l. (bars_all w ms l).number) (λ l. l.number) ls (number_of_line w ms) ∙ keyed

-- some moments, and others after them
pub both_logged : (w : Window) (xs ys : List Moment) (old before now : List ChartLineView) → before ≡ map (bars_all w xs) old → now ≡ map (bars_all w ys) before → now ≡ map (bars_all w (xs ++ ys)) old
both_logged w xs ys old before now b n =
    n ∙ ap (map (bars_all w ys)) b ∙ map-map (bars_all w ys) (bars_all w xs) old
    ∙ map_same (λ l. bars_all w ys (bars_all w xs l)) (bars_all w (xs ++ ys)) old (λ l. sym (fold-append (bars_if w) l xs ys))

pub none_logged : (w : Window) (ls : List ChartLineView) → ls ≡ map (bars_all w []) ls
none_logged w ls = sym (map-id ls)

-- one entry more
pub one_logged : (w : Window) (hs : List Happened) (i : ℕ) (d : Happened) (old before now : List ChartLineView) → i < length hs → before ≡ map (bars_all w (map moment_of (take i hs))) old → now ≡ map (λ l. bars_if w l (moment_of (get_or hs i d))) before → now ≡ map (bars_all w (map moment_of (take (i + 1) hs))) old
one_logged w hs i d old before now l b n =
    both_logged w (map moment_of (take i hs)) (moment_of (get_or hs i d) ∷ []) old before now b n
    ∙ ap (λ (ms : List Moment). map (bars_all w ms) old) (sym (map_more moment_of hs i d l))

-- HOW FAR
abbrev pub blank : Happened
blank = record { time = 0; what = JobEnds; number = 0; cpu = 0 }

pub one_passed : (hs : List Happened) (i : ℕ) (d : Happened) (time : ℕ) → i < length hs → ((k : ℕ) (e : Happened) → k < i → (get_or hs k e).time ≤ time) → (get_or hs i d).time ≤ time → (k : ℕ) (e : Happened) → k < i + 1 → (get_or hs k e).time ≤ time
one_passed hs i d time l before here k e lt = ⊎_elim
    (λ (less : k < i). before k e less)
    (λ (more : i ≤ k).
    let at : k ≡ i = omega (arith, lt, more) in
    let same : get_or hs k e ≡ get_or hs i d = ap (λ n. get_or hs n e) at ∙ get_or_default hs i e d l in
    omega (arith, here, ap (λ (x : Happened). x.time) same))
    (cases_lt k i)

pub all_passed : (hs : List Happened) (i time : ℕ) → i ≤ length hs → ((k : ℕ) (e : Happened) → k < i → (get_or hs k e).time ≤ time) → ((d : Happened) → i < length hs → time < (get_or hs i d).time) → i ≡ prefix_len (λ h. nat_le h.time time) hs
all_passed hs i time l before later =
    sym (prefix_len_is (λ (h : Happened). nat_le h.time time) hs i blank l
    (λ k lt. le-leb (get_or hs k blank).time time (before k blank lt))
    (λ lt. lt-leb (get_or hs i blank).time time (later blank lt)))

-- THE REST: what is left to log makes the whole
abbrev pub blank_switch : Switch
blank_switch = record { time = 0; prev = None; next = None; cpu = 0; state = Running }

abbrev pub IsRest : Window → List Happened → List Switch → List ChartLineView → ℕ → ℕ → List ChartLineView → Type 0
IsRest w hs ss old j k now = map (bars_all w (moments (drop j hs) (drop k ss))) now ≡ map (bars_all w (moments hs ss)) old

-- after the next switch
pub next_rest : (w : Window) (hs : List Happened) (ss : List Switch) (old : List ChartLineView) (j k n : ℕ) (d : Switch) (now logged last : List ChartLineView) → k < length ss → n ≡ prefix_len (λ h. nat_le h.time (get_or ss k d).time) (drop j hs)
    → logged ≡ map (bars_all w (map moment_of (take n (drop j hs)))) now → last ≡ map (bars_all w (moments_by (get_or ss k d))) logged
    → IsRest w hs ss old j k now → IsRest w hs ss old (j + n) (k + 1) last
next_rest w hs ss old j k n d now logged last l count a b rest =
    let s = get_or ss k d in
    let here = drop j hs in
    let p : Happened → Bool = λ h. nat_le h.time s.time in
    let front = map moment_of (take n here) in
    let following = moments (drop (j + n) hs) (drop (k + 1) ss) in
    let left : drop (j + n) hs ≡ beyond s.time here =
    sym (drop-drop n j hs) ∙ ap (λ m. drop m here) (count ∙ sym (length-prefix_len p here)) in
    let first : map moment_of (take n here) ≡ map moment_of (take (prefix_len p here) here) = ap (λ m. map moment_of (take m here)) count in
    let whole : front ++ (moments_by s ++ following) ≡ moments here (drop k ss) =
    ap (λ (xs : List Moment). xs ++ (moments_by s ++ following)) first
    ∙ ap (λ (xs : List Happened). map moment_of (take (prefix_len p here) here) ++ (moments_by s ++ moments xs (drop (k + 1) ss))) left
    ∙ ap (λ (xs : List Switch). moments here xs) (sym (drop_more ss k d l)) in
    both_logged w front (moments_by s ++ following) now logged (map (bars_all w following) last) a
    (ap (map (bars_all w following)) b ∙ map-map (bars_all w following) (bars_all w (moments_by s)) logged
    ∙ map_same (λ x. bars_all w following (bars_all w (moments_by s) x)) (bars_all w (moments_by s ++ following)) logged (λ x. sym (fold-append (bars_if w) x (moments_by s) following)))
    ∙ ap (λ (ms : List Moment). map (bars_all w ms) now) whole ∙ rest

-- at the end
pub last_rest : (w : Window) (hs : List Happened) (ss : List Switch) (old : List ChartLineView) (j k : ℕ) (rest : List Happened) (now last : List ChartLineView) → length ss ≤ k → rest ≡ drop j hs → last ≡ map (bars_all w (map moment_of rest)) now → IsRest w hs ss old j k now → last ≡ map (bars_all w (moments hs ss)) old
last_rest w hs ss old j k rest now last l is a whole =
    let none : drop k ss ≡ [] = drop_of_length-le ss l in
    a ∙ ap (λ (xs : List Happened). map (bars_all w (map moment_of xs)) now) is
    ∙ ap (λ (xs : List Switch). map (bars_all w (moments (drop j hs) xs)) now) (sym none) ∙ whole
