use Rattle.command_line.proofs.comparison.comparison_of.Goals as goal

pub returns-clause-found : goal.returns-clause-found
returns-clause-found c = record {
  model = record { text = c.text_of.result.now; at = c.text_of.ensures; is = c.in_ok-source_of.ensures };
  recorded = record { text = c.text_of-2.result.now; at = c.text_of-2.ensures; is = c.in_ok-source_of-2.ensures };
  options = c.options_of.ensures.found;
  fail_under = c.fail_under_of.ensures;
}
