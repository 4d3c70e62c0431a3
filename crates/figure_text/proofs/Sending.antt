-- A text that goes out piece by piece.
use Rattle.std.proofs.Common.{◌≡◌, ℕ, suc, ◌+◌, ◌%◌, ◌<◌, ◌≤◌, ◌^◌, List, [], ◌++◌, get_or, length, take, drop, Option, refl, sym, ap, ◌∙◌, subst, append_assoc, append-nil, arith, length-append, length-drop}
use Rattle.std.specs.Prelude.{Result, Ok, Err, OnOk, OnErr, flat_map, codes, decimal}
use Rattle.std.specs.Io.KnownBytes.{Appends}
use Rattle.std.proofs.KnownBytes.{Appends-nil, Appends-trans}
use Rattle.std.proofs.lemmas.List.{length-take-le, take-append-drop, drop_all}
use Rattle.std.proofs.Math.Seq.{take-append_seam, drop-cons}
use Rattle.counted_io.specs.Faults.{TakesFront}
use Rattle.draft.specs.Columns.{right, column}
use Rattle.run_figures.specs.declared.job.Job.{Job}
use Rattle.figure_text.specs.Columns.{pid}
use Rattle.figure_text.specs.Jobs.{end_columns, job_line}
use Rattle.figure_text.specs.private.JobLine.{after_name}
use Rattle.figure_text.specs.private.Outgoing.{OutgoingView, Puts, Stops}

-- the text waits, and nothing went out
pub puts_waiting : (known : Option (List ℕ)) (first last : OutgoingView) (text : List ℕ) → last ≡ record first { waiting = first.waiting ++ text } → Puts known known first last text
puts_waiting known first last text is = record {
  gone = [];
  taken = Appends-nil known;
  count = (ap (λ (o : OutgoingView). o.written % 2 ^ 64) is ∙ ap (λ (n : ℕ). n % 2 ^ 64) (omega arith));
  whole = sym (ap (λ (o : OutgoingView). o.waiting) is);
}

-- the writer took the front of what waits and the text
pub stops_at : (before after : Option (List ℕ)) (first last : OutgoingView) (text all : List ℕ) (n : ℕ) → first.waiting ++ text ≡ all → last.written ≡ (first.written + n) % 2 ^ 64 → TakesFront before after all n → Stops before after first last text
stops_at before after first last text all n is count front =
    let some_left : n < length all = front.some_left in
    record {
      gone = take n all;
      left = drop n all;
      taken = front.taken;
      count =
          (let len : length (take n all) ≡ n = length-take-le n all (omega arith) in
          omega (arith, count, len));
      whole = is ∙ sym (take-append-drop n all);
      some_left = omega (arith, length-drop n all, some_left);
    }

-- one text after another
pub puts_then : (before mid after : Option (List ℕ)) (first here last : OutgoingView) (text more : List ℕ) → Puts before mid first here text → Puts mid after here last more → Puts before after first last (text ++ more)
puts_then before mid after first here last text more p q = record {
  gone = p.gone ++ q.gone;
  taken = Appends-trans before mid after p.gone q.gone p.taken q.taken;
  count = omega (arith, p.count, q.count, length-append p.gone q.gone);
  whole =
      sym (append_assoc first.waiting text more)
      ∙ ap (λ (xs : List ℕ). xs ++ more) p.whole
      ∙ append_assoc p.gone here.waiting more
      ∙ ap (λ (xs : List ℕ). p.gone ++ xs) q.whole
      ∙ sym (append_assoc p.gone q.gone last.waiting);
}

pub stops_then : (before mid after : Option (List ℕ)) (first here last : OutgoingView) (text more : List ℕ) → Puts before mid first here text → Stops mid after here last more → Stops before after first last (text ++ more)
stops_then before mid after first here last text more p q = record {
  gone = p.gone ++ q.gone;
  left = q.left;
  taken = Appends-trans before mid after p.gone q.gone p.taken q.taken;
  count = omega (arith, p.count, q.count, length-append p.gone q.gone);
  whole =
      sym (append_assoc first.waiting text more)
      ∙ ap (λ (xs : List ℕ). xs ++ more) p.whole
      ∙ append_assoc p.gone here.waiting more
      ∙ ap (λ (xs : List ℕ). p.gone ++ xs) q.whole
      ∙ sym (append_assoc p.gone q.gone q.left);
  some_left = q.some_left;
}

-- a fault in a text is one in all that begins with it
pub stops_before : (before after : Option (List ℕ)) (first last : OutgoingView) (text more : List ℕ) → Stops before after first last text → Stops before after first last (text ++ more)
stops_before before after first last text more s = record {
  gone = s.gone;
  left = s.left ++ more;
  taken = s.taken;
  count = s.count;
  whole = sym (append_assoc first.waiting text more) ∙ ap (λ (xs : List ℕ). xs ++ more) s.whole ∙ append_assoc s.gone s.left more;
  some_left = (let some_left = s.some_left in omega (arith, length-append s.left more, some_left));
}

-- what holds of a success, or of a failure, and something that follows from it
pub on_ok : {T E A B : Type 0} (r : Result T E) → (A → B) → OnOk r A → OnOk r B
on_ok (Ok x) f a = f a
on_ok (Err e) f a = tt

pub on_err : {T E A B : Type 0} (r : Result T E) → (A → B) → OnErr r A → OnErr r B
on_err (Ok x) f a = tt
on_err (Err e) f a = f a

pub anyway : {T E A : Type 0} (r : Result T E) → A → OnErr r A
anyway (Ok x) a = tt
anyway (Err e) a = a

-- ---- a text of which the front was added

pub record IsUnderWay (before after : Option (List ℕ)) (first last : OutgoingView) (text left : List ℕ) : Type 0 where
  pub done : List ℕ
  pub puts : Puts before after first last done
  pub whole : text ≡ done ++ left

pub begins : (known : Option (List ℕ)) (o : OutgoingView) (text : List ℕ) → IsUnderWay known known o o text text
begins known o text = record {
  done = [];
  puts = puts_waiting known o o [] (λ i. record { waiting = sym (append-nil o.waiting) i; written = o.written });
  whole = refl;
}

pub goes_on : (before mid after : Option (List ℕ)) (first here last : OutgoingView) (text left piece rest : List ℕ) → IsUnderWay before mid first here text left → left ≡ piece ++ rest → Puts mid after here last piece → IsUnderWay before after first last text rest
goes_on before mid after first here last text left piece rest u is p = record {
  done = u.done ++ piece;
  puts = puts_then before mid after first here last u.done piece u.puts p;
  whole = u.whole ∙ ap (λ (xs : List ℕ). u.done ++ xs) is ∙ sym (append_assoc u.done piece rest);
}

pub stops_there : (before mid after : Option (List ℕ)) (first here last : OutgoingView) (text left piece rest : List ℕ) → IsUnderWay before mid first here text left → left ≡ piece ++ rest → Stops mid after here last piece → Stops before after first last text
stops_there before mid after first here last text left piece rest u is s =
    subst (Stops before after first last)
    (sym (u.whole ∙ ap (λ (xs : List ℕ). u.done ++ xs) is))
    (stops_then before mid after first here last u.done (piece ++ rest) u.puts (stops_before mid after here last piece rest s))

pub ends : (before after : Option (List ℕ)) (first last : OutgoingView) (text left : List ℕ) → IsUnderWay before after first last text left → left ≡ [] → Puts before after first last text
ends before after first last text left u none =
    subst (Puts before after first last) (sym (u.whole ∙ ap (λ (xs : List ℕ). u.done ++ xs) none ∙ append-nil u.done)) u.puts

-- ---- a whole text

-- nothing waited before, and nothing waits in the end: all of it went out
pub all_out : (before after : Option (List ℕ)) (first last : OutgoingView) (text : List ℕ) → first.waiting ≡ [] → last.waiting ≡ [] → Puts before after first last text → Appends before after text
all_out before after first last text none nothing p =
    subst (Appends before after)
    (sym (ap (λ (xs : List ℕ). xs ++ text) (sym none) ∙ p.whole ∙ ap (λ (xs : List ℕ). p.gone ++ xs) nothing ∙ append-nil p.gone))
    p.taken

-- the writer failed in a text that can be counted
pub front_out : (before after : Option (List ℕ)) (first last : OutgoingView) (text : List ℕ) (written : ℕ) → first.waiting ≡ [] → first.written ≡ 0 → length text < 2 ^ 64 → written ≡ last.written → written < 2 ^ 64 → Stops before after first last text → TakesFront before after text written
front_out before after first last text written none start countable is small s =
    let whole : text ≡ s.gone ++ s.left = ap (λ (xs : List ℕ). xs ++ text) (sym none) ∙ s.whole in
    let some_left = s.some_left in
    let len : length text ≡ length s.gone + length s.left = ap length whole ∙ length-append s.gone s.left in
    let n : written ≡ length s.gone = omega (arith, s.count, is, start, len, countable, small) in
    let front : take written text ≡ s.gone = ap (λ (k : ℕ). take k text) n ∙ ap (take (length s.gone)) whole ∙ take-append_seam s.gone s.left in
    record {
      taken = subst (Appends before after) (sym front) s.taken;
      some_left = omega (arith, n, len, some_left);
    }

-- ---- lists of which the texts are added one after another

pub next_piece : {X : Type 0} (f : X → List ℕ) (xs : List X) (i : ℕ) (x : X) → i < length xs → x ≡ get_or xs i x → flat_map f (drop i xs) ≡ f x ++ flat_map f (drop (i + 1) xs)
next_piece f xs i x inside is =
    let e : suc i ≡ i + 1 = omega arith in
    ap (flat_map f) (drop-cons xs i x inside) ∙ (λ k. f (sym is k) ++ flat_map f (drop (e k) xs))

pub no_piece : {X : Type 0} (f : X → List ℕ) (xs : List X) (i : ℕ) → length xs ≤ i → flat_map f (drop i xs) ≡ []
no_piece f xs i over = ap (flat_map f) (drop_all i xs over)

-- the line of a job, put together in another order
pub reordered : (r a c e d n : List ℕ) → r ++ ((((a ++ c) ++ e) ++ d) ++ n) ≡ (r ++ a) ++ (c ++ (e ++ (d ++ n)))
reordered r a c e d n =
    ap (λ (xs : List ℕ). r ++ xs)
    (append_assoc ((a ++ c) ++ e) d n ∙ append_assoc (a ++ c) e (d ++ n) ∙ append_assoc a c (e ++ (d ++ n)))
    ∙ sym (append_assoc r a (c ++ (e ++ (d ++ n))))

pub line_is : (name : List ℕ) (number place : ℕ) (j : Job) → right 15 name ++ after_name number place j ≡ job_line name number place j
line_is name number place j =
    reordered (right 15 name) (column 6 (pid number) ++ column 6 (decimal place)) (column 11 (decimal j.release)) (end_columns j j.ended) (column 9 (decimal j.throttled)) (codes "\n")
