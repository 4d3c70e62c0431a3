use Rattle.std.proofs.Common.{◌∙◌, sym, true≢false}
use Rattle.std.proofs.lemmas.Slice.Eq.{bytes_eq-Decides}
use Rattle.command_line.proofs.Printing.{print_named, print_other}
use Rattle.run_options.specs.declared.options.Print.TheVariants as prints
use Rattle.command_line.proofs.words.print_of.Goals as goal

pub returns-in-calls-clause-print : goal.returns-in-calls-clause-print
returns-in-calls-clause-print c = print_named _ _ _ prints.Calls c.text_of-text.ensures c.span_words_of-words.ensures c.in-calls.is (sym c.in_ok-read_uncut.ensures)

pub returns-in-replies-clause-print : goal.returns-in-replies-clause-print
returns-in-replies-clause-print c = print_named _ _ _ prints.Replies c.text_of-text.ensures c.span_words_of-words.ensures c.in-replies.is (sym c.in_ok-read_uncut.ensures)

pub returns-in-events-clause-print : goal.returns-in-events-clause-print
returns-in-events-clause-print c = print_named _ _ _ prints.Events c.text_of-text.ensures c.span_words_of-words.ensures c.in-events.is (sym c.in_ok-read_uncut.ensures)

pub returns-in-jobs-clause-print : goal.returns-in-jobs-clause-print
returns-in-jobs-clause-print c = print_named _ _ _ prints.Jobs c.text_of-text.ensures c.span_words_of-words.ensures c.in-jobs.is (sym c.in_ok-read_uncut.ensures)

pub returns-in-summary-clause-print : goal.returns-in-summary-clause-print
returns-in-summary-clause-print c = print_named _ _ _ prints.Summary c.text_of-text.ensures c.span_words_of-words.ensures c.in-summary.is (sym c.in_ok-read_uncut.ensures)

pub returns-in-promises-clause-print : goal.returns-in-promises-clause-print
returns-in-promises-clause-print c = print_named _ _ _ prints.Promises c.text_of-text.ensures c.span_words_of-words.ensures c.in-promises.is (sym c.in_ok-read_uncut.ensures)

pub returns-in_default-clause-print : goal.returns-in_default-clause-print
returns-in_default-clause-print c =
    print_other _ _ _ c.text_of-text.ensures c.span_words_of-words.ensures c.in_default.not-calls c.in_default.not-promises (record {
      chart = λ is. true≢false (sym ((bytes_eq-Decides _ _).1 is) ∙ (sym c.eq.ensures ∙ c.if-eq.false));
      replies = c.in_default.not-replies;
      events = c.in_default.not-events;
      jobs = c.in_default.not-jobs;
      summary = c.in_default.not-summary;
    }) (sym c.in_ok-read_uncut.ensures)

pub returns-then-eq-clause-print : goal.returns-then-eq-clause-print
returns-then-eq-clause-print c = print_named _ _ _ (prints.Chart _) c.text_of-text.ensures c.span_words_of-words.ensures ((bytes_eq-Decides _ _).0 (sym c.eq.ensures ∙ c.if-eq.true))
    (sym c.in_ok-read_span.ensures.span)
