use Rattle.std.proofs.Common.{◌∙◌, codes}
use Rattle.clap.specs.Words.{found_of}
use Rattle.clap.proofs.WalkLemmas.{one_text-rows}
use Rattle.command_line.proofs.words.words_of.Goals as goal

pub returns-clause-found : goal.returns-clause-found
returns-clause-found c =
    let found = found_of c.args.found.now in
    let reclaim = one_text-rows found (codes "reclaim") in
    record {
      domains = c.text_of.ensures;
      rt_runtime = c.number.ensures.found;
      rt_period = c.number-2.ensures.found;
      clients = c.number-3.ensures.found;
      workers = c.number-4.ensures.found;
      reclaim = record {
        absent = λ e. c.get_flag.ensures.none (reclaim ∙ e);
        on = λ e. c.get_flag.ensures.value (reclaim ∙ e);
        off = λ e. c.get_flag.ensures.other (reclaim ∙ e);
      };
      print = c.in_ok-print.ensures.print;
    }
