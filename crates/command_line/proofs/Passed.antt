-- Where clap's rules refuse no word of a command, each of its options has a text, and its first text passes the option's test.
use Rattle.std.proofs.Common.{◌≡◌, ◌∙◌, ◌⊎◌, ◌==◌, ◌||◌, ℕ, zero, suc, Bool, true, false, if◌then◌else◌, List, [], ◌∷◌, ◌++◌, Option, Some, None, is_some, unwrap_or, length, fold, find, refl, sym, ap, subst, inl, inr, ⊎_elim, arith, option_and_then, option_map, true≢false}
use Rattle.std.specs.Prelude.{slice_get}
use Rattle.std.specs.List.{AllByRecursion, list_any}
use Rattle.std.specs.Option.{option_map_or}
use Rattle.std.specs.Str.{bytes_eq, chars}
use Rattle.std.proofs.lemmas.Bool.Decides.{nat_tests}
use Rattle.std.proofs.lemmas.Slice.Eq.{bytes_eq-Decides}
use Rattle.clap.specs.Facts.{parser_of_value, unwrap_or_range}
use Rattle.clap.specs.Kinds.{Kinds, or_else, range_kinds, request_kinds}
use Rattle.clap.specs.Lexer.{long_of, short_of}
use Rattle.clap.specs.Simple.{Shape}
use Rattle.clap.specs.ValueTests.{accepts}
use Rattle.clap.specs.Values.{read_as}
use Rattle.clap.specs.Walk.{Held, Names, Outcome, Row, Rule, Step, Text, Waiting, Walk, action_of, after_flag, after_step, arg_by_id, arg_by_index, arg_by_long, arg_by_short, at_row, attached_value, bundle, bundle_met, bundle_step, default_rows, done, finished, first_of, flag_met, has_row, idle, is_empty, long_met, long_or_other, more_values, next, nothing_held, one_of, option, option_met, option_word, plain, plain_word, positional, reacted, reading_by, refused, row_text, rows_after, settled, settled_rows, short_met, short_or_plain, subcommand, subcommand_met, subcommand_or_other, takes_values, to_positional, trailing, used, used_as, used_by_id, value, values_or_missing, waits, walk, walk_from, walked, walked_from, with_default, with_values, without, word_met}
use Rattle.clap.specs.Faults.{action_fault, bundle_fault, bundle_step_fault, default_fault, defaults_fault, flag_word_fault, flags_fault, given_default_fault, level_fault, long_fault, option_fault, other_fault, react_fault, settle_fault, short_fault, step_fault, turn_fault, use_fault, values_fault, walk_fault, word_fault}
use Rattle.clap.specs.declared.builder.action.ArgAction.TheVariants.{Set, SetTrue, Help}
use Rattle.clap.specs.declared.builder.value_parser.Reading.{Reading}
use Rattle.clap.specs.declared.error.kind.ErrorKind.{ErrorKind}
use Rattle.clap.specs.declared.parser.matches.ValueSource.{ValueSource}
use Rattle.clap.specs.declared.parser.matches.ValueSource.TheVariants.{CommandLine, DefaultValue}

not_empty : (n : ℕ) → (suc n == 0) ≡ false
not_empty n = grind (arith, nat_tests)

-- ---- kinds

cons≢nil : {X : Type 0} (x : X) (xs : List X) → x ∷ xs ≡ [] → ⊥
cons≢nil x xs e = true≢false (ap is_cons e)
  where
    is_cons : {X : Type 0} → List X → Bool
    is_cons [] = false
    is_cons (y ∷ ys) = true

-- no kind comes of two steps where none comes of either
pub neither : (a b : Kinds) → or_else a b ≡ [] → (a ≡ []) × (b ≡ [])
neither [] b e = (refl, e)
neither (k ∷ ks) b e = absurd (cons≢nil k ks e)

passes_if : (t : Bool) (k : ErrorKind) → (if t then [] else k ∷ []) ≡ [] → t ≡ true
passes_if true k e = refl
passes_if false k e = absurd (cons≢nil k [] e)

some_same : {X : Type 0} (x y : X) → Some x ≡ Some y → x ≡ y
some_same x y e = ap (λ o. unwrap_or o x) e

-- ---- rows

each_append : {X : Type 0} (P : X → Type 0) (xs ys : List X) → AllByRecursion P xs → AllByRecursion P ys → AllByRecursion P (xs ++ ys)
each_append P [] ys a b = b
each_append P (x ∷ xs) ys a b = (a.0, each_append P xs ys a.1 b)

choose : {X : Type 0} (P : X → Type 0) (t : Bool) (x y : X) → P x → P y → P (if t then x else y)
choose P true x y a b = a
choose P false x y a b = b

at_row_each : (P : Row → Type 0) (id : Text) (change : Row → List Row) (missing rows : List Row) → AllByRecursion P rows
    → ((r : Row) → P r → AllByRecursion P (change r)) → AllByRecursion P missing → AllByRecursion P (at_row id change missing rows)
at_row_each P id change missing [] all step new = new
at_row_each P id change missing (r ∷ rs) all step new =
    choose (AllByRecursion P) (bytes_eq r.id id) (change r ++ rs) (r ∷ at_row id change missing rs)
    (each_append P (change r) rs (step r all.0) all.1) (all.0, at_row_each P id change missing rs all.1 step new)

-- the first text of the row passes the option's test
pub record FirstPasses (a : Rule) (r : Row) : Type 0 where
  pub first : Text
  pub rest : List Text
  pub values : r.values ≡ first ∷ rest
  pub passes : accepts a.ignore_case (parser_of_value a.parser) first ≡ true
  pub reading : r.reading ≡ reading_by a

abbrev pub RowPasses : List Rule → Row → Type 0
RowPasses c r = (a : Rule) → arg_by_id c r.id ≡ Some a → FirstPasses a r

abbrev pub RowsPass : List Rule → List Row → Type 0
RowsPass c = AllByRecursion (RowPasses c)

-- an option with one value, a flag that stands for a text, or the call for help
abbrev pub IsKnownAction : Rule → Type 0
IsKnownAction a = ((action_of a ≡ Set) × ((unwrap_or_range a.range).start_inclusive ≡ 1))
    ⊎ (((action_of a ≡ SetTrue) × ((text : Text) × (a.missing ≡ text ∷ []))) ⊎ (action_of a ≡ Help))

pub record IsKnown (c : List Rule) (a : Rule) : Type 0 where
  pub by_id : arg_by_id c a.id ≡ Some a
  pub action : IsKnownAction a

more_pass : (c : List Rule) (s : ValueSource) (values : List Text) (r : Row) → RowPasses c r → RowsPass c (more_values s values r)
more_pass c s values r passes = (
  λ a is. let f = passes a is in record {
    first = f.first;
    rest = f.rest ++ values;
    values = ap (λ vs. vs ++ values) f.values;
    passes = f.passes;
    reading = f.reading;
  },
  tt,
)

-- texts of which the first passes join the rows
with_values_pass : (c : List Rule) (a : Rule) (s : ValueSource) (v : Text) (vs : List Text) (rows : List Row) → arg_by_id c a.id ≡ Some a
    → accepts a.ignore_case (parser_of_value a.parser) v ≡ true → RowsPass c rows → RowsPass c (with_values a.id (reading_by a) s (v ∷ vs) rows)
with_values_pass c a s v vs rows by_id passes all =
    at_row_each (RowPasses c) a.id (more_values s (v ∷ vs)) _ rows all (more_pass c s (v ∷ vs)) (
      λ b is. subst (λ x. FirstPasses x (record { id = a.id; values = v ∷ vs; count = None; source = Some s; reading = reading_by a }))
          (some_same a b (sym by_id ∙ is)) (record { first = v; rest = vs; values = refl; passes = passes; reading = refl }),
      tt,
    )

without_pass : (c : List Rule) (id : Text) (rows : List Row) → RowsPass c rows → RowsPass c (without id rows)
without_pass c id rows all = at_row_each (RowPasses c) id (λ _. []) [] rows all (λ r p. tt) tt

first_passes : (a : Rule) (v : Text) (vs : List Text) → values_fault a (v ∷ vs) ≡ [] → accepts a.ignore_case (parser_of_value a.parser) v ≡ true
first_passes a v vs e = passes_if (accepts a.ignore_case (parser_of_value a.parser) v) _ (neither _ _ e).0

-- the texts of a use of an option, where their number is right; a flag stands for a text
set_texts : (a : Rule) (values : List Text) → (unwrap_or_range a.range).start_inclusive ≡ 1
    → range_kinds (unwrap_or_range a.range).start_inclusive (unwrap_or_range a.range).end_inclusive (length values) ≡ []
    → (v : Text) × (vs : List Text) × (values_or_missing a values ≡ v ∷ vs)
set_texts a (v ∷ vs) least e = (v, vs, refl)
set_texts a [] least e =
    let bad = subst (λ n. range_kinds n (unwrap_or_range a.range).end_inclusive 0 ≡ []) least e in
    absurd (cons≢nil _ _ bad)

flag_texts : (a : Rule) (values : List Text) (text : Text) → a.missing ≡ text ∷ [] → (v : Text) × (vs : List Text) × (values_or_missing a values ≡ v ∷ vs)
flag_texts a (v ∷ vs) text is = (v, vs, refl)
flag_texts a [] text is = (text, [], is)

set_pass : (c : List Rule) (a : Rule) (values : List Text) (rows : List Row) (v : Text) (vs : List Text) → values ≡ v ∷ vs → arg_by_id c a.id ≡ Some a
    → values_fault a values ≡ [] → RowsPass c rows → RowsPass c (with_values a.id (reading_by a) CommandLine values (without a.id rows))
set_pass c a values rows v vs is by_id e all =
    subst (λ x. RowsPass c (with_values a.id (reading_by a) CommandLine x (without a.id rows))) (sym is)
    (with_values_pass c a CommandLine v vs _ by_id (first_passes a v vs (subst (λ x. values_fault a x ≡ []) is e)) (without_pass c a.id rows all))

used_pass : (c : List Rule) (again : Bool) (a : Rule) (values : List Text) (rows : List Row) → IsKnown c a → RowsPass c rows
    → use_fault again a values rows ≡ [] → RowsPass c (used a values rows)
used_pass c again a values rows known all e = go known.action
  where
    kinds : (range_kinds (unwrap_or_range a.range).start_inclusive (unwrap_or_range a.range).end_inclusive (length values) ≡ [])
        × (action_fault (action_of a) again a (values_or_missing a values) rows ≡ [])
    kinds = neither _ _ e

    go : IsKnownAction a → RowsPass c (used a values rows)
    go (inl set) =
        let texts = set_texts a values set.1 kinds.0 in
        let fault = subst (λ x. action_fault x again a (values_or_missing a values) rows ≡ []) set.0 kinds.1 in
        subst (λ x. RowsPass c (used_as x a.id (reading_by a) (values_or_missing a values) rows)) (sym set.0)
        (set_pass c a (values_or_missing a values) rows texts.0 texts.1 texts.2 known.by_id (neither _ _ fault).1 all)
    go (inr (inl flag)) =
        let texts = flag_texts a values flag.1.0 flag.1.1 in
        let fault = subst (λ x. action_fault x again a (values_or_missing a values) rows ≡ []) flag.0 kinds.1 in
        subst (λ x. RowsPass c (used_as x a.id (reading_by a) (values_or_missing a values) rows)) (sym flag.0)
        (set_pass c a (values_or_missing a values) rows texts.0 texts.1 texts.2 known.by_id (neither _ _ fault).1 all)
    go (inr (inr help)) =
        let fault = subst (λ x. action_fault x again a (values_or_missing a values) rows ≡ []) help kinds.1 in
        absurd (cons≢nil _ _ fault)

found_step : {X : Type 0} (P : X → Type 0) (t : Bool) (x y : X) (o : Option X) → P y → (o ≡ Some x → P x) → (if t then Some y else o) ≡ Some x → P x
found_step P true x y o here later is = subst P (some_same y x is) here
found_step P false x y o here later is = later is

-- what is found in a list of which each has P has it
pub found_has : {X : Type 0} (P : X → Type 0) (p : X → Bool) (xs : List X) (x : X) → AllByRecursion P xs → find p xs ≡ Some x → P x
found_has P p [] x all is = absurd (true≢false (sym (ap is_some is)))
found_has P p (y ∷ ys) x all is = found_step P (p y) x y (find p ys) all.0 (λ e. found_has P p ys x all.1 e) is

-- ---- the walk over the words of a command without positional arguments

module _ (s : Shape) (known : AllByRecursion (IsKnown s.rules) s.rules) (none : (i : ℕ) → arg_by_index s.rules i ≡ None) where
  abbrev c : List Rule
  c = s.rules

  abbrev again : Bool
  again = s.args_override_self

  abbrev Pass : List Row → Type 0
  Pass = RowsPass s.rules

  abbrev IsKnownIf : Option Rule → Type 0
  IsKnownIf o = (a : Rule) → o ≡ Some a → IsKnown s.rules a

  by_id_pass : (o : Option Rule) (values : List Text) (rows : List Row) → IsKnownIf o → Pass rows
      → option_map_or (λ a. use_fault again a values rows) o [] ≡ [] → Pass (used_by_id o values rows)
  by_id_pass None values rows is all e = all
  by_id_pass (Some a) values rows is all e = used_pass c again a values rows (is a refl) all e

  settled_rows_pass : (p : Option (Text × List Text)) (rows : List Row) → Pass rows
      → option_map_or (λ q. option_map_or (λ a. use_fault again a q.1 rows) (arg_by_id c q.0) []) p [] ≡ [] → Pass (settled_rows c p rows)
  settled_rows_pass None rows all e = all
  settled_rows_pass (Some q) rows all e = by_id_pass (arg_by_id c q.0) q.1 rows (λ a is. found_has (IsKnown c) _ c a known is) all e

  settled_pass : (h : Held) → Pass h.rows → settle_fault c again h ≡ [] → Pass (settled c h).rows
  settled_pass h all e = settled_rows_pass h.pending h.rows all e

  reacted_pass : (a : Rule) (values : List Text) (h : Held) → IsKnown c a → Pass h.rows → react_fault c again a values h ≡ []
      → Pass (reacted c a values h).rows
  reacted_pass a values h is all e =
      used_pass c again a values (settled c h).rows is (settled_pass h all (neither _ _ e).0) (neither _ _ e).1

  option_pass : (a : Rule) (v : Option Text) (h : Held) → IsKnown c a → Pass h.rows → option_fault c again a v h ≡ []
      → Pass (option_met c a v h).0.rows
  option_pass a (Some v) h is all e = reacted_pass a (v ∷ []) h is all e
  option_pass a None h is all e = settled_pass h all e

  flag_pass : (a : Rule) (v : Option Text) (h : Held) (many : Kinds) → IsKnown c a → Pass h.rows
      → (if is_some v then many else react_fault c again a [] h) ≡ [] → Pass (flag_met c a v h).0.rows
  flag_pass a (Some v) h many is all e = all
  flag_pass a None h many is all e = reacted_pass a [] h is all e

  either_pass : (t : Bool) (f g : Kinds) (x y : Held × Outcome) → (if t then f else g) ≡ [] → (f ≡ [] → Pass x.0.rows) → (g ≡ [] → Pass y.0.rows)
      → Pass (if t then x else y).0.rows
  either_pass true f g x y e first second = first e
  either_pass false f g x y e first second = second e

  long_pass : (o : Option Rule) (v : Option Text) (h : Held) → IsKnownIf o → Pass h.rows → long_fault c again o v h ≡ []
      → Pass (long_met c o v h).0.rows
  long_pass None v h is all e = all
  long_pass (Some a) v h is all e = either_pass (takes_values a) _ _ (option_met c a v h) (flag_met c a v h) e
      (option_pass a v h (is a refl) all) (flag_pass a v h _ (is a refl) all)

  short_pass : (o : Option Rule) (rest : Text) (h : Held) (next_met : Held → Held × Outcome) (next_fault : Held → Kinds)
      → ((k : Held) → Pass k.rows → next_fault k ≡ [] → Pass (next_met k).0.rows) → IsKnownIf o → Pass h.rows
      → short_fault c again o rest h next_fault ≡ [] → Pass (short_met c o rest h next_met).0.rows
  short_pass None rest h next_met next_fault later is all e = all
  short_pass (Some a) rest h next_met next_fault later is all e =
      either_pass (takes_values a) _ _ (option_met c a (attached_value rest) h) (next_met (reacted c a [] h)) e
      (option_pass a (attached_value rest) h (is a refl) all)
      (λ f. later (reacted c a [] h) (reacted_pass a [] h (is a refl) all (neither _ _ f).0) (neither _ _ f).1)

  bundle_step_pass : (o : Option ℕ) (flags : Text) (skip : ℕ) (so_far : Outcome) (h : Held)
      (next_met : Text → ℕ → Outcome → Held → Held × Outcome) (next_fault : Text → ℕ → Held → Kinds)
      → ((fs : Text) (n : ℕ) (w : Outcome) (k : Held) → Pass k.rows → next_fault fs n k ≡ [] → Pass (next_met fs n w k).0.rows) → Pass h.rows
      → bundle_step_fault c again o flags skip h next_fault ≡ [] → Pass (bundle_step c o flags skip so_far h next_met).0.rows
  bundle_step_pass None flags skip so_far h next_met next_fault later all e = all
  bundle_step_pass (Some x) flags zero so_far h next_met next_fault later all e =
      short_pass (arg_by_short c x) _ h _ _ (λ k. later _ 0 done k) (λ a is. found_has (IsKnown c) _ c a known is) all e
  bundle_step_pass (Some x) flags (suc skip) so_far h next_met next_fault later all e = later _ skip so_far h all e

  flags_pass_all : (k : ℕ) (flags : Text) (skip : ℕ) (so_far : Outcome) (h : Held) → Pass h.rows → flags_fault c again k flags skip h ≡ []
      → Pass (bundle_met c k flags skip so_far h).0.rows
  unfolding flags_fault bundle_met
  flags_pass_all zero flags skip so_far h all e = all
  flags_pass_all (suc k) flags skip so_far h all e =
      bundle_step_pass (slice_get (chars flags) 0) flags skip so_far h (bundle_met c k) (flags_fault c again k)
      (λ fs n w g p q. flags_pass_all k fs n w g p q) all e

  option_rows : (o : Option Rule) (id word : Text) (h : Held) → (option_word o id word h).0.rows ≡ h.rows
  option_rows None id word h = refl
  option_rows (Some a) id word h = refl

  plain_rows : (waiting : Waiting) (word : Text) (h : Held) → (plain_word c waiting word h).0.rows ≡ h.rows
  plain_rows (option id) word h = option_rows (arg_by_id c id) id word h
  plain_rows idle word h = refl
  plain_rows positional word h = refl

  after_rows : (waiting : Waiting) (word : Text) (h : Held) (outcome : Outcome) → (after_flag c waiting word h outcome).0.rows ≡ h.rows
  after_rows waiting word h done = refl
  after_rows waiting word h (waits id) = refl
  after_rows waiting word h plain = plain_rows waiting word h
  after_rows waiting word h refused = plain_rows waiting word h

  as_rows : (xs ys : List Row) → ys ≡ xs → Pass xs → Pass ys
  as_rows xs ys same all = subst Pass (sym same) all

  short_or_plain_pass : (o : Option Text) (waiting : Waiting) (word : Text) (h : Held) → Pass h.rows
      → option_map_or (λ flags. bundle_fault c again flags h) o [] ≡ [] → Pass (short_or_plain c waiting word o h).0.rows
  short_or_plain_pass None waiting word h all e = as_rows h.rows _ (plain_rows waiting word h) all
  short_or_plain_pass (Some flags) waiting word h all e =
      as_rows (bundle c flags h).0.rows _ (after_rows waiting word (bundle c flags h).0 (bundle c flags h).1)
      (flags_pass_all (length flags) flags h.skip plain (record h { skip = 0 }) all e)

  long_or_other_pass : (o : Option (Text × Option Text)) (waiting : Waiting) (word : Text) (h : Held) → Pass h.rows
      → flag_word_fault c again o word h ≡ [] → Pass (long_or_other c waiting word o h).0.rows
  long_or_other_pass None waiting word h all e = short_or_plain_pass (short_of word) waiting word h all e
  long_or_other_pass (Some p) waiting word h all e =
      let met = long_met c (arg_by_long c p.0) p.1 h in
      as_rows met.0.rows _ (after_rows waiting word met.0 met.1)
      (long_pass (arg_by_long c p.0) p.1 h (λ a is. found_has (IsKnown c) _ c a known is) all e)

  step_either_pass : (t : Bool) (f : Kinds) (x y : Held × Step) → (if t then [] else f) ≡ [] → Pass x.0.rows → (f ≡ [] → Pass y.0.rows)
      → Pass (if t then x else y).0.rows
  step_either_pass true f x y e first second = first
  step_either_pass false f x y e first second = second e

  other_pass : (o : Option Text) (waiting : Waiting) (position : ℕ) (word : Text) (h : Held) → Pass h.rows → other_fault s o word h ≡ []
      → Pass (subcommand_or_other c o waiting position word h).0.rows
  other_pass (Some name) waiting position word h all e = all
  other_pass None waiting position word h all e =
      step_either_pass (bytes_eq word (45 ∷ 45 ∷ [])) _ (h, trailing position) (long_or_other c waiting word (long_of word) h) e all
      (long_or_other_pass (long_of word) waiting word h all)

  word_pass : (names : Names) (is_trailing : Bool) (waiting : Waiting) (position : ℕ) (word : Text) (h : Held) → Pass h.rows
      → word_fault s names is_trailing waiting word h ≡ [] → Pass (word_met c names is_trailing waiting position word h).0.rows
  word_pass names true waiting position word h all e = all
  word_pass names false waiting position word h all e = other_pass (subcommand_met names waiting word) waiting position word h all e

  after_step_pass : (word : Text) (w : Walk) (h : Held) (step : Step) → Pass h.rows → Pass (after_step c word w h step).held.rows
  after_step_pass word w h (next waiting) all = all
  after_step_pass word w h (trailing position) all = all
  after_step_pass word w h (subcommand name) all = all
  after_step_pass word w h value all =
      subst (λ o. Pass (to_positional c o word w h).held.rows) (sym (none w.position)) all

  walked_from_pass : (names : Names) (o : Option (Text × List Text)) (w : Walk) (word : Text) → Pass w.held.rows
      → (if is_some o then [] else or_else (word_fault s names w.is_trailing w.waiting word w.held)
      (step_fault s w.position (word_met c names w.is_trailing w.waiting w.position word w.held).0 (word_met c names w.is_trailing w.waiting w.position word w.held).1)) ≡ []
      → Pass (walked_from c names o w word).held.rows
  walked_from_pass names (Some p) w word all e = all
  walked_from_pass names None w word all e =
      let met = word_met c names w.is_trailing w.waiting w.position word w.held in
      after_step_pass word w met.0 met.1 (word_pass names w.is_trailing w.waiting w.position word w.held all (neither _ _ e).0)

  turn_pass : (names : Names) (w : Walk) (word : Text) → Pass w.held.rows → turn_fault s names w word ≡ [] → Pass (walked c names w word).held.rows
  unfolding walked
  turn_pass names w word all e = walked_from_pass names w.stopped w word all e

  walk_pass : (names : Names) (w : Walk) (words : List Text) → Pass w.held.rows → walk_fault s names w words ≡ []
      → Pass (fold (walked c names) w words).held.rows
  unfolding walk_fault
  walk_pass names w [] all e = all
  walk_pass names w (word ∷ rest) all e =
      walk_pass names (walked c names w word) rest (turn_pass names w word all (neither _ _ e).0) (neither _ _ e).1

  -- ---- defaults

  default_texts_pass : (a : Rule) (rows : List Row) (t : Bool) (texts : List Text) → IsKnown c a → Pass rows
      → (if t || is_empty texts then [] else given_default_fault a texts) ≡ [] → Pass (if t then rows else default_rows a.id (reading_by a) texts rows)
  default_texts_pass a rows true texts is all e = all
  default_texts_pass a rows false [] is all e = all
  default_texts_pass a rows false (v ∷ vs) is all e =
      let fault = subst (λ t. (if t then [] else given_default_fault a (v ∷ vs)) ≡ []) (not_empty (length vs)) e in
      with_values_pass c a DefaultValue v vs rows is.by_id (first_passes a v vs (neither (request_kinds (action_of a)) (values_fault a (v ∷ vs)) fault).1) all

  default_pass : (rows : List Row) (a : Rule) → IsKnown c a → Pass rows → default_fault rows a ≡ [] → Pass (with_default rows a)
  default_pass rows a is all e = default_texts_pass a rows (has_row a.id rows) a.defaults is all e

  defaults_pass : (rest : List Rule) (rows : List Row) → AllByRecursion (IsKnown c) rest → Pass rows → defaults_fault rows rest ≡ []
      → Pass (fold with_default rows rest)
  unfolding defaults_fault
  defaults_pass [] rows are all e = all
  defaults_pass (a ∷ rest) rows are all e =
      defaults_pass rest (with_default rows a) are.1 (default_pass rows a are.0 all (neither _ _ e).0) (neither _ _ e).1

  -- the rows at the end of a level that fails by nothing
  pub level_pass : (names : Names) (h : Held) (words : List Text) (has_subcommand : Bool) (below : Kinds) → Pass h.rows
      → level_fault s names h words has_subcommand below ≡ [] → Pass (finished c (walk c names h words).held)
  level_pass names h words has_subcommand below all e =
      let parts = neither (walk_fault s names (walk_from h) words) _ e in
      let ends = neither _ _ (neither _ _ parts.1).1 in
      let end = (walk c names h words).held in
      defaults_pass c (settled c end).rows known (settled_pass end (walk_pass names (walk_from h) words all parts.0) ends.0) (neither _ _ ends.1).0

-- ---- each option with a default has a row

abbrev has_id : Text → Row → Bool
has_id id r = bytes_eq r.id id

or_left : (a b : Bool) → a ≡ true → (a || b) ≡ true
or_left a b e = subst (λ x. (x || b) ≡ true) (sym e) refl

or_right : (a b : Bool) → b ≡ true → (a || b) ≡ true
or_right true b e = refl
or_right false b e = e

pub or_cases : (a b : Bool) → (a || b) ≡ true → (a ≡ true) ⊎ (b ≡ true)
or_cases true b e = inl refl
or_cases false b e = inr e

any_left : {X : Type 0} (p : X → Bool) (xs ys : List X) → list_any p xs ≡ true → list_any p (xs ++ ys) ≡ true
any_left p [] ys e = absurd (true≢false (sym e))
any_left p (x ∷ xs) ys e =
    ⊎_elim (λ a. or_left (p x) (list_any p (xs ++ ys)) a) (λ b. or_right (p x) _ (any_left p xs ys b)) (or_cases (p x) (list_any p xs) e)

any_right : {X : Type 0} (p : X → Bool) (xs ys : List X) → list_any p ys ≡ true → list_any p (xs ++ ys) ≡ true
any_right p [] ys e = e
any_right p (x ∷ xs) ys e = or_right (p x) _ (any_right p xs ys e)

choose_by : {X : Type 0} (P : X → Type 0) (t : Bool) (x y : X) → (t ≡ true → P x) → P y → P (if t then x else y)
choose_by P true x y a b = a refl
choose_by P false x y a b = b

-- a row stays where rows of some id change
at_row_keeps : (p : Row → Bool) (id : Text) (change : Row → List Row) (missing rows : List Row) → ((r : Row) → p r ≡ true → list_any p (change r) ≡ true)
    → list_any p rows ≡ true → list_any p (at_row id change missing rows) ≡ true
at_row_keeps p id change missing [] keep e = absurd (true≢false (sym e))
at_row_keeps p id change missing (r ∷ rs) keep e =
    choose (λ xs. list_any p xs ≡ true) (bytes_eq r.id id) (change r ++ rs) (r ∷ at_row id change missing rs)
    (⊎_elim (λ a. any_left p (change r) rs (keep r a)) (λ b. any_right p (change r) rs b) (or_cases (p r) (list_any p rs) e))
    (⊎_elim (λ a. or_left (p r) _ a) (λ b. or_right (p r) _ (at_row_keeps p id change missing rs keep b)) (or_cases (p r) (list_any p rs) e))

-- a row of the id is there once rows of the id changed
at_row_has : (id : Text) (change : Row → List Row) (missing rows : List Row) → ((r : Row) → bytes_eq r.id id ≡ true → has_row id (change r) ≡ true)
    → has_row id missing ≡ true → has_row id (at_row id change missing rows) ≡ true
at_row_has id change missing [] keep new = new
at_row_has id change missing (r ∷ rs) keep new =
    choose_by (λ xs. has_row id xs ≡ true) (bytes_eq r.id id) (change r ++ rs) (r ∷ at_row id change missing rs)
    (λ e. any_left (has_id id) (change r) rs (keep r e)) (or_right (bytes_eq r.id id) _ (at_row_has id change missing rs keep new))

same_bytes : (id : Text) → bytes_eq id id ≡ true
same_bytes id = (bytes_eq-Decides id id).1 refl

with_values_has : (id : Text) (how : Reading) (s : ValueSource) (values : List Text) (rows : List Row) → has_row id (with_values id how s values rows) ≡ true
with_values_has id how s values rows =
    at_row_has id (more_values s values) _ rows (λ r e. or_left (bytes_eq r.id id) false e) (or_left (bytes_eq id id) false (same_bytes id))

default_rows_keep : (id other_id : Text) (how : Reading) (texts : List Text) (rows : List Row) → has_row id rows ≡ true
    → has_row id (default_rows other_id how texts rows) ≡ true
default_rows_keep id other_id how [] rows e = e
default_rows_keep id other_id how (v ∷ vs) rows e =
    at_row_keeps (has_id id) other_id (more_values DefaultValue (v ∷ vs)) _ rows (λ r is. or_left (bytes_eq r.id id) false is) e

with_default_keeps : (id : Text) (rows : List Row) (a : Rule) → has_row id rows ≡ true → has_row id (with_default rows a) ≡ true
with_default_keeps id rows a e =
    choose (λ xs. has_row id xs ≡ true) (has_row a.id rows) rows (default_rows a.id (reading_by a) a.defaults rows) e
    (default_rows_keep id a.id (reading_by a) a.defaults rows e)

default_rows_have : (id : Text) (how : Reading) (texts : List Text) (rows : List Row) → is_empty texts ≡ false → has_row id (default_rows id how texts rows) ≡ true
default_rows_have id how [] rows e = absurd (true≢false e)
default_rows_have id how (v ∷ vs) rows e = with_values_has id how DefaultValue (v ∷ vs) rows

with_default_has : (rows : List Row) (a : Rule) → is_empty a.defaults ≡ false → has_row a.id (with_default rows a) ≡ true
with_default_has rows a e =
    choose_by (λ xs. has_row a.id xs ≡ true) (has_row a.id rows) rows (default_rows a.id (reading_by a) a.defaults rows) (λ has. has)
    (default_rows_have a.id (reading_by a) a.defaults rows e)

fold_keeps : (id : Text) (rest : List Rule) (rows : List Row) → has_row id rows ≡ true → has_row id (fold with_default rows rest) ≡ true
fold_keeps id [] rows e = e
fold_keeps id (a ∷ rest) rows e = fold_keeps id rest (with_default rows a) (with_default_keeps id rows a e)

each_has : (rest : List Rule) (rows : List Row) → AllByRecursion (λ a. is_empty a.defaults ≡ false → has_row a.id (fold with_default rows rest) ≡ true) rest
each_has [] rows = tt
each_has (a ∷ rest) rows = (λ e. fold_keeps a.id rest (with_default rows a) (with_default_has rows a e), each_has rest (with_default rows a))

-- ---- what the getters find

-- at the id is a text that passes the option's test
pub record HasPassing (a : Rule) (id : Text) (rows : List Row) : Type 0 where
  pub first : Text
  pub first_is : first_of id rows ≡ Some first
  pub one_is : one_of id rows ≡ Some (read_as (reading_by a) first)
  pub passes : accepts a.ignore_case (parser_of_value a.parser) first ≡ true

row_passes : (c : List Rule) (a : Rule) (id : Text) (rows : List Row) → arg_by_id c id ≡ Some a → RowsPass c rows → has_row id rows ≡ true
    → (r : Row) × (find (λ x. bytes_eq x.id id) rows ≡ Some r) × FirstPasses a r
row_passes c a id [] by_id all e = absurd (true≢false (sym e))
row_passes c a id (r ∷ rs) by_id all e = go (bytes_eq r.id id) refl (λ has. row_passes c a id rs by_id all.1 has)
  where
    go : (t : Bool) → bytes_eq r.id id ≡ t → (has_row id rs ≡ true → (x : Row) × (find (λ y. bytes_eq y.id id) rs ≡ Some x) × FirstPasses a x)
        → (x : Row) × ((if t then Some r else find (λ y. bytes_eq y.id id) rs) ≡ Some x) × FirstPasses a x
    go true same later = (r, refl, all.0 a (subst (λ i. arg_by_id c i ≡ Some a) (sym ((bytes_eq-Decides r.id id).0 same)) by_id))
    go false differ later = ⊎_elim (λ same. absurd (true≢false (sym same ∙ differ))) later (or_cases (bytes_eq r.id id) (has_row id rs) e)

has_passing : (c : List Rule) (a : Rule) (rows : List Row) → arg_by_id c a.id ≡ Some a → RowsPass c rows → has_row a.id rows ≡ true → HasPassing a a.id rows
has_passing c a rows by_id all e =
    let found = row_passes c a a.id rows by_id all e in
    let passes = found.2 in
    record {
      first = passes.first;
      first_is = ap (option_and_then (λ (r : Row). slice_get r.values 0)) found.1 ∙ ap (λ vs. slice_get vs 0) passes.values;
      one_is = ap (option_and_then row_text) found.1 ∙ ap (λ vs. option_map (read_as found.0.reading) (slice_get vs 0)) passes.values
          ∙ ap (λ how. Some (read_as how passes.first)) passes.reading;
      passes = passes.passes;
    }

both_each : {X : Type 0} (P Q R : X → Type 0) (xs : List X) → ((x : X) → P x → Q x → R x) → AllByRecursion P xs → AllByRecursion Q xs → AllByRecursion R xs
both_each P Q R [] make p q = tt
both_each P Q R (x ∷ xs) make p q = (make x p.0 q.0, both_each P Q R xs make p.1 q.1)

-- where a level fails by nothing, each option with a default has a text that passes its test
pub level_has : (s : Shape) → AllByRecursion (IsKnown s.rules) s.rules → ((i : ℕ) → arg_by_index s.rules i ≡ None) → (words : List Text)
    → level_fault s [] nothing_held words false [] ≡ []
    → AllByRecursion (λ a. is_empty a.defaults ≡ false → HasPassing a a.id (rows_after s.rules [] words)) s.rules
level_has s known none words e =
    let end = (walk s.rules [] nothing_held words).held in
    let all = level_pass s known none [] nothing_held words false [] tt e in
    both_each (IsKnown s.rules) _ _ s.rules (λ a is has empty. has_passing s.rules a (rows_after s.rules [] words) is.by_id all (has empty))
    known (each_has s.rules (settled s.rules end).rows)

-- the same of each option, where it has a text
abbrev pub HasPassingIfAny : Rule → List Row → Type 0
HasPassingIfAny a rows = (text : Text) → one_of a.id rows ≡ Some text → HasPassing a a.id rows

one_has : (id : Text) (rows : List Row) (text : Text) → one_of id rows ≡ Some text → has_row id rows ≡ true
one_has id [] text is = absurd (true≢false (sym (ap is_some is)))
one_has id (r ∷ rs) text is = go (bytes_eq r.id id) (λ e. one_has id rs text e) is
  where
    go : (t : Bool) → (option_and_then row_text (find (λ x. bytes_eq x.id id) rs) ≡ Some text → has_row id rs ≡ true)
        → option_and_then row_text (if t then Some r else find (λ x. bytes_eq x.id id) rs) ≡ Some text → (t || has_row id rs) ≡ true
    go true later e = refl
    go false later e = later e

each_may : (c rest : List Rule) (rows : List Row) → RowsPass c rows → AllByRecursion (IsKnown c) rest → AllByRecursion (λ a. HasPassingIfAny a rows) rest
each_may c [] rows all known = tt
each_may c (a ∷ rest) rows all known = (λ text is. has_passing c a rows known.0.by_id all (one_has a.id rows text is), each_may c rest rows all known.1)

pub level_may : (s : Shape) → AllByRecursion (IsKnown s.rules) s.rules → ((i : ℕ) → arg_by_index s.rules i ≡ None) → (words : List Text)
    → level_fault s [] nothing_held words false [] ≡ []
    → AllByRecursion (λ a. HasPassingIfAny a (rows_after s.rules [] words)) s.rules
level_may s known none words e =
    each_may s.rules s.rules (rows_after s.rules [] words) (level_pass s known none [] nothing_held words false [] tt e) known
