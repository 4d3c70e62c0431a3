-- The options of `run` and of `replay` have texts that they take, where clap's rules refuse no word.
use Rattle.std.proofs.Common.{◌≡◌, ◌∙◌, ◌⊎◌, ◌||◌, ℕ, true, false, List, [], ◌∷◌, map, Option, Some, None, is_some, unwrap_or, refl, sym, ap, subst, inl, inr, ⊎_elim, option_map, arith, find, codes, Bor, Result, Ok, Err, IfOk, slice_index, true≢false}
use Rattle.std.specs.List.{AllByRecursion, list_any}
use Rattle.std.specs.Option.{option_map_or}
use Rattle.std.specs.Str.{bytes_eq}
use Rattle.std.proofs.lemmas.Slice.Eq.{bytes_eq-Decides}
use Rattle.clap.specs.Values.{read_as, reading_of}
use Rattle.clap.specs.Words.{App, kind_of, IsUnsignedIn, Row, Rule, Text, built, fault_of, first_of, one_of, subcommand_of}
use Rattle.clap.specs.Facts.{parser_of_value}
use Rattle.clap.specs.Faults.{entered_fault, level_fault, walk_fault}
use Rattle.clap.specs.Simple.{Shape, argument_words, entered, label_of, names_of, rows_at}
use Rattle.clap.specs.Walk.{answers_to, nothing_held, rows_after, stop_after, walk_from}
use Rattle.clap.specs.ValueTests.{accepts}
use Rattle.clap.proofs.ValueTestLemmas.{accepts-Accepts}
use Rattle.clap.specs.declared.builder.value_parser.ValueParser.TheVariants.{Unsigned}
use Rattle.clap.specs.declared.error.Error.{Error}
use Rattle.clap.specs.declared.error.kind.ErrorKind.TheVariants.{OutOfMemory}
use Rattle.clap.specs.declared.parser.matches.ArgMatches.{ArgMatches}
use Rattle.command_line.specs.Commands.{AreHeld, AreTexts, HeldNames, import_texts, program_app, replay_texts, run_texts}
use Rattle.command_line.specs.Reading.{HasNumber, HasReplayTexts, HasTexts, HasTextsOfReplay, HasTextsOfRun, IsMomentIfAny, IsOneAt, ReadsWords}
use Rattle.command_line.proofs.Passed.{HasPassing, HasPassingIfAny, IsKnown, found_has, level_has, level_may, neither, or_cases}

abbrev app : HeldNames → HeldNames → HeldNames → App
app run replay import = built (program_app run replay import)

-- a command as it is built
abbrev shape_of : Text → HeldNames → HeldNames → HeldNames → Shape
shape_of name run replay import = unwrap_or (find (λ s. bytes_eq s.name name) (app run replay import).subs) (app run replay import).top

abbrev run_shape : HeldNames → HeldNames → HeldNames → Shape
run_shape run replay import = shape_of (codes "run") run replay import

abbrev replay_shape : HeldNames → HeldNames → HeldNames → Shape
replay_shape run replay import = shape_of (codes "replay") run replay import

known_replay : (run replay import : HeldNames) → AllByRecursion (IsKnown (replay_shape run replay import).rules) (replay_shape run replay import).rules
known_replay run replay import = (
  record { by_id = refl; action = inl (refl, refl) },
  (
    record { by_id = refl; action = inl (refl, refl) },
    (
      record { by_id = refl; action = inl (refl, refl) },
      (record { by_id = refl; action = inr (inr refl) }, tt),
    ),
  ),
)

known : (run replay import : HeldNames) → AllByRecursion (IsKnown (run_shape run replay import).rules) (run_shape run replay import).rules
known run replay import = (
  record { by_id = refl; action = inl (refl, refl) },
  (
    record { by_id = refl; action = inl (refl, refl) },
    (
      record { by_id = refl; action = inl (refl, refl) },
      (
        record { by_id = refl; action = inl (refl, refl) },
        (
          record { by_id = refl; action = inl (refl, refl) },
          (
            record { by_id = refl; action = inr (inl (refl, (codes "true", refl))) },
            (
              record { by_id = refl; action = inl (refl, refl) },
              (
                record { by_id = refl; action = inl (refl, refl) },
                (
                  record { by_id = refl; action = inl (refl, refl) },
                  (record { by_id = refl; action = inr (inr refl) }, tt),
                ),
              ),
            ),
          ),
        ),
      ),
    ),
  ),
)

-- a text that passes the test of a number option
number_in : (rows : List Row) (a : Rule) (least most : ℕ) → a.parser ≡ Some (Unsigned least most) → HasPassing a a.id rows
    → (text : Text) × (one_of a.id rows ≡ Some text) × IsUnsignedIn least most text
number_in rows a least most is has = (
  has.first,
  has.one_is ∙ subst (λ p. Some (read_as (reading_of (parser_of_value p)) has.first) ≡ Some has.first) (sym is) refl,
  accepts-Accepts a.ignore_case (Unsigned least most) has.first (subst (λ p. accepts a.ignore_case (parser_of_value p) has.first ≡ true) is has.passes),
)

number_at : (rows : List Row) (a : Rule) (most : ℕ) → a.parser ≡ Some (Unsigned 1 most) → HasPassing a a.id rows → HasNumber rows a.id most
number_at rows a most is has = number_in rows a 1 most is has

-- the same of an option without a default, where it has a text
moment_at : (rows : List Row) (a : Rule) → a.parser ≡ Some (Unsigned 0 4398046511104) → HasPassingIfAny a rows → IsMomentIfAny rows a.id
moment_at rows a is has text at =
    let number = number_in rows a 0 4398046511104 is (has text at) in
    subst (λ t. IsUnsignedIn 0 4398046511104 t) (ap (λ (o : Option Text). unwrap_or o text) (sym number.1 ∙ at)) number.2

-- a test of texts passes one of them
one_among : (rows : List Row) (name text : Text) (texts : List Text) → first_of name rows ≡ Some text → list_any (λ t. bytes_eq t text) texts ≡ true → IsOneAt rows name texts
one_among rows name text [] is e = true≢false (sym e)
one_among rows name text (t ∷ ts) is e =
    ⊎_elim (λ first. inl (is ∙ ap (λ x. Some x) (sym ((bytes_eq-Decides t text).0 first)))) (λ later. inr (one_among rows name text ts is later)) (or_cases (bytes_eq t text) _ e)

any_now : (names : HeldNames) (text : Text) → list_any (λ name. bytes_eq name.now text) names.now ≡ list_any (λ name. bytes_eq name text) (map (λ name. name.now) names.now)
any_now names text = go names.now
  where
    go : (xs : List (Bor Text)) → list_any (λ name. bytes_eq name.now text) xs ≡ list_any (λ name. bytes_eq name text) (map (λ name. name.now) xs)
    go [] = refl
    go (x ∷ xs) = ap (λ t. bytes_eq x.now text || t) (go xs)

-- at an option with names that clap holds is one of them
held_at : (rows : List Row) (name text : Text) (texts : List Text) (names : HeldNames) → AreTexts texts names → first_of name rows ≡ Some text
    → list_any (λ t. bytes_eq t.now text) names.now ≡ true → IsOneAt rows name texts
held_at rows name text texts names are is passes =
    one_among rows name text texts is (subst (λ ts. list_any (λ t. bytes_eq t text) ts ≡ true) are (sym (any_now names text) ∙ passes))

run_has : (run replay import : HeldNames) → AreHeld run replay import → (words : List Text) → level_fault (run_shape run replay import) [] nothing_held words false [] ≡ []
    → HasTexts (rows_after (run_shape run replay import).rules [] words)
run_has run replay import held words e =
    let rows = rows_after (run_shape run replay import).rules [] words in
    let has = level_has (run_shape run replay import) (known run replay import) (λ i. refl) words e in
    let may = level_may (run_shape run replay import) (known run replay import) (λ i. refl) words e in
    let domains = has.0 refl in
    let reclaim = has.1.1.1.1.1.0 refl in
    let print = has.1.1.1.1.1.1.0 refl in
    record {
      domains = (domains.first, domains.first_is);
      rt_runtime = number_at rows _ 1000000000 refl (has.1.0 refl);
      rt_period = number_at rows _ 1000000000 refl (has.1.1.0 refl);
      clients = number_at rows _ 64 refl (has.1.1.1.0 refl);
      workers = number_at rows _ 8 refl (has.1.1.1.1.0 refl);
      reclaim = ⊎_elim (λ is. inl (reclaim.one_is ∙ ap (λ t. Some t) is)) (λ is. inr (reclaim.one_is ∙ ap (λ t. Some t) is))
          (is_bool reclaim.first reclaim.passes);
      print = held_at rows (codes "print") print.first run_texts run held.of_run print.first_is print.passes;
      from = moment_at rows _ refl may.1.1.1.1.1.1.1.0;
      to = moment_at rows _ refl may.1.1.1.1.1.1.1.1.0;
    }
  where
    is_bool : (text : Text) → (bytes_eq text (codes "true") || bytes_eq text (codes "false")) ≡ true → (text ≡ codes "true") ⊎ (text ≡ codes "false")
    is_bool text e = ⊎_elim (λ t. inl ((bytes_eq-Decides text (codes "true")).0 t)) (λ f. inr ((bytes_eq-Decides text (codes "false")).0 f)) (or_cases (bytes_eq text (codes "true")) _ e)

replay_has : (run replay import : HeldNames) → AreHeld run replay import → (words : List Text) → level_fault (replay_shape run replay import) [] nothing_held words false [] ≡ []
    → HasReplayTexts (rows_after (replay_shape run replay import).rules [] words)
replay_has run replay import held words e =
    let rows = rows_after (replay_shape run replay import).rules [] words in
    let print = (level_has (replay_shape run replay import) (known_replay run replay import) (λ i. refl) words e).0 refl in
    let may = level_may (replay_shape run replay import) (known_replay run replay import) (λ i. refl) words e in
    record {
      print = held_at rows (codes "print") print.first replay_texts replay held.of_replay print.first_is print.passes;
      from = moment_at rows _ refl may.1.0;
      to = moment_at rows _ refl may.1.1.0;
    }

-- what a command of this name has
abbrev HasThen : Text → (List Row → Type 0) → Shape → Type 0
HasThen named P s = (words : List Text) → s.name ≡ named → level_fault s [] nothing_held words false [] ≡ [] → P (rows_after s.rules [] words)

each_run : (run replay import : HeldNames) → AreHeld run replay import → AllByRecursion (HasThen (codes "run") HasTexts) (app run replay import).subs
each_run run replay import held = (
  λ words name e. run_has run replay import held words e,
  (
    λ words name e. let bad : 101 ≡ 117 = ap (λ xs. slice_index xs 1) name in absurd (omega arith),
    (
      λ words name e. let bad : 99 ≡ 114 = ap (λ xs. slice_index xs 0) name in absurd (omega arith),
      (
        λ words name e. let bad : 105 ≡ 114 = ap (λ xs. slice_index xs 0) name in absurd (omega arith),
        (λ words name e. let bad : 104 ≡ 114 = ap (λ xs. slice_index xs 0) name in absurd (omega arith), tt),
      ),
    ),
  ),
)

each_replay : (run replay import : HeldNames) → AreHeld run replay import → AllByRecursion (HasThen (codes "replay") HasReplayTexts) (app run replay import).subs
each_replay run replay import held = (
  λ words name e. let bad : 117 ≡ 101 = ap (λ xs. slice_index xs 1) name in absurd (omega arith),
  (
    λ words name e. replay_has run replay import held words e,
    (
      λ words name e. let bad : 99 ≡ 114 = ap (λ xs. slice_index xs 0) name in absurd (omega arith),
      (
        λ words name e. let bad : 105 ≡ 114 = ap (λ xs. slice_index xs 0) name in absurd (omega arith),
        (λ words name e. let bad : 104 ≡ 114 = ap (λ xs. slice_index xs 0) name in absurd (omega arith), tt),
      ),
    ),
  ),
)

at_shape : (named : Text) (P : List Row → Type 0) (o : Option Shape) (words : List Text) (rows : List Row) → ((s : Shape) → o ≡ Some s → HasThen named P s)
    → option_map (λ s. rows_at s words) o ≡ Some (named, rows) → option_map_or (λ s. level_fault s [] nothing_held words false []) o [] ≡ [] → P rows
at_shape named P None words rows known is e = absurd (true≢false (sym (ap is_some is)))
at_shape named P (Some s) words rows known is e =
    let pair = ap (λ (o : Option (Text × List Row)). unwrap_or o (named, rows)) is in
    subst P (ap (λ (p : Text × List Row). p.1) pair) (known s refl words (ap (λ (p : Text × List Row). p.0) pair) e)

at_stop : (a : App) (named : Text) (P : List Row → Type 0) → AllByRecursion (HasThen named P) a.subs → (stop : Option (Text × List Text)) (rows : List Row) → entered a stop ≡ Some (named, rows)
    → entered_fault a stop ≡ [] → P rows
at_stop a named P each None rows is e = absurd (true≢false (sym (ap is_some is)))
at_stop a named P each (Some p) rows is e =
    at_shape named P (find (λ s. answers_to p.0 (label_of s)) a.subs) p.1 rows (λ s found. found_has (HasThen named P) (λ x. answers_to p.0 (label_of x)) a.subs s each found) is e

-- where clap's rules find a command in the words and refuse none, its options have texts that they take
found_at : (run replay import : HeldNames) (named : Text) (P : List Row → Type 0) → AllByRecursion (HasThen named P) (app run replay import).subs → (words : List Text) (rows : List Row)
    → subcommand_of (program_app run replay import) words ≡ Some (named, rows) → fault_of (program_app run replay import) words ≡ [] → P rows
found_at run replay import named P each words rows is e =
    let given = argument_words (program_app run replay import) words in
    let a = app run replay import in
    let stop = stop_after a.top.rules (names_of a) given in
    let past_walk = neither (walk_fault a.top (names_of a) (walk_from nothing_held) given) _ e in
    at_stop a named P each stop rows is (neither _ _ past_walk.1).0

-- what was read has them
pub reading_has : (words : List Text) (r : Result ArgMatches Error) → ReadsWords words r → IfOk r HasTextsOfRun
reading_has words (Ok m) reading = λ rows is. found_at reading.run reading.replay reading.import (codes "run") HasTexts (each_run reading.run reading.replay reading.import reading.are_held) words rows (sym reading.found ∙ is) reading.refused
reading_has words (Err e) reading = tt

pub reading_has_replay : (words : List Text) (r : Result ArgMatches Error) → ReadsWords words r → IfOk r HasTextsOfReplay
reading_has_replay words (Ok m) reading = λ rows is. found_at reading.run reading.replay reading.import (codes "replay") HasReplayTexts (each_replay reading.run reading.replay reading.import reading.are_held) words rows (sym reading.found ∙ is) reading.refused
reading_has_replay words (Err e) reading = tt

-- words are read where memory runs out before them
pub refused_for_memory : (words : List Text) (e : Error) → kind_of e ≡ OutOfMemory → ReadsWords words (Err e)
refused_for_memory words e is = record {
  run = record { ref_ptr = (0, 0); now = map held run_texts };
  replay = record { ref_ptr = (0, 0); now = map held replay_texts };
  import = record { ref_ptr = (0, 0); now = map held import_texts };
  are_held = record { of_run = refl; of_replay = refl; of_import = refl };
  found = tt;
  refused = inl is;
}
  where
    held : Text → Bor Text
    held text = record { ref_ptr = (0, 0); now = text }
