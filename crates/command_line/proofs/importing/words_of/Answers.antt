use Rattle.std.proofs.Common.{◌∙◌, codes}
use Rattle.clap.specs.Words.{found_of}
use Rattle.clap.proofs.WalkLemmas.{one_text-rows}
use Rattle.command_line.proofs.importing.words_of.Goals as goal

pub returns : goal.returns
returns c =
    let any_policy = one_text-rows (found_of c.args.found.now) (codes "any-policy") in
    record {
      cpus = c.read_at.ensures;
      rt_runtime = c.number.ensures.found;
      rt_period = c.number-2.ensures.found;
      from = c.read_at-2.ensures;
      to = c.read_at-3.ensures;
      any_policy = record {
        absent = λ e. c.get_flag.ensures.none (any_policy ∙ e);
        on = λ e. c.get_flag.ensures.value (any_policy ∙ e);
        off = λ e. c.get_flag.ensures.other (any_policy ∙ e);
      };
    }
