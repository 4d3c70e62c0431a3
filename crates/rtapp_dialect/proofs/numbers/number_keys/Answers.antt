use Rattle.std.proofs.Common.{◌≤◌, ◌≡◌, ◌++◌, ◌∙◌, ap, length, arith}
use Rattle.rtapp_dialect.specs.Numbers.{keys_numbered, numbers_inserted}
use Rattle.rtapp_dialect.specs.declared.repeats.Repeat.{Repeat}
use Rattle.rtapp_dialect.proofs.Numbering.{number_step, numbers_step, text_done, numbers_done, numbers_ordered, none_numbered, none_inserted}
use Rattle.rtapp_dialect.proofs.KeptNumbers.{numbers_kept}
use Rattle.rtapp_dialect.proofs.Within.{numbers_within}
use Rattle.rtapp_dialect.proofs.Unrepeated.{no_repeats}
use Rattle.rtapp_dialect.proofs.numbers.number_keys.Goals as goal

pub loop-repeat-preserved : goal.loop-repeat-preserved
loop-repeat-preserved c =
    let rs = c.deref-repeat-items.result.now in
    let none : Repeat = record { at = 0; earlier = 0 } in
    record {
      text = number_step c.args.text.now c.loop-repeat.numbered.items c.put_key.new.out.items (keys_numbered c.args.text.now) rs c.loop-repeat.start c.loop-repeat.repeat-index none c.loop-repeat-test.true c.in_ok-put_key.ensures.text c.loop-repeat.invariant.text;
      insertions = numbers_step c.loop-repeat.insertions.items c.put_key.new.insertions.items (numbers_inserted c.args.text.now) rs c.loop-repeat.repeat-index none c.loop-repeat-test.true c.in_ok-put_key.ensures.insertions c.loop-repeat.invariant.insertions;
    }

text : (c : goal.After-drop-repeats-2) → c.extend_from_slice.new.self.items ≡ keys_numbered c.args.text.now
text c =
    let rs = c.deref-repeat-items.result.now in
    let past : length rs ≤ c.loop-repeat.repeat-index = omega arith in
    text_done c.args.text.now c.loop-repeat.numbered.items c.extend_from_slice.new.self.items (keys_numbered c.args.text.now) rs c.loop-repeat.start c.loop-repeat.repeat-index past (c.in_ok-extend_from_slice.ensures.items ∙ ap (λ x. c.loop-repeat.numbered.items ++ x) c.spelled.ensures) c.loop-repeat.invariant.text

numbers : (c : goal.After-drop-repeats-2) → c.loop-repeat.insertions.items ≡ numbers_inserted c.args.text.now
numbers c =
    let rs = c.deref-repeat-items.result.now in
    let past : length rs ≤ c.loop-repeat.repeat-index = omega arith in
    numbers_done c.loop-repeat.insertions.items (numbers_inserted c.args.text.now) rs c.loop-repeat.repeat-index past c.loop-repeat.invariant.insertions

pub returns-clause-text : goal.returns-clause-text
returns-clause-text c = text c

pub returns-clause-insertions : goal.returns-clause-insertions
returns-clause-insertions c = numbers c

pub returns-clause-order : goal.returns-clause-order
returns-clause-order c = numbers_ordered c.args.text.now c.loop-repeat.insertions.items (numbers c)

pub returns-clause-same : goal.returns-clause-same
returns-clause-same c = λ none. none_numbered c.args.text.now c.extend_from_slice.new.self.items none (text c)

pub returns-clause-within : goal.returns-clause-within
returns-clause-within c = numbers_within c.args.text.now c.extend_from_slice.new.self.items c.loop-repeat.insertions.items (text c) (numbers c)

pub returns-clause-bytes : goal.returns-clause-bytes
returns-clause-bytes c = numbers_kept c.args.text.now c.extend_from_slice.new.self.items c.loop-repeat.insertions.items (text c) (numbers c)

pub returns-clause-strict : goal.returns-clause-strict
returns-clause-strict c = λ json.
    let none = no_repeats c.args.text.now json in (
      none_numbered c.args.text.now c.extend_from_slice.new.self.items none (text c),
      none_inserted c.args.text.now c.loop-repeat.insertions.items none (numbers c),
    )
