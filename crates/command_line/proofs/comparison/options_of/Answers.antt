use Rattle.std.proofs.Common.{◌∙◌, codes}
use Rattle.clap.specs.Words.{found_of}
use Rattle.clap.proofs.WalkLemmas.{one_text-rows}
use Rattle.command_line.proofs.comparison.options_of.Goals as goal

pub returns-clause-found : goal.returns-clause-found
returns-clause-found c =
    let cpus = one_text-rows (found_of c.args.found.now) (codes "cpus") in
    record {
      within = c.within_of.ensures.found;
      noise = c.noise_of.ensures.found;
      shift = c.shift_of.ensures.found;
      cpus = record {
        absent = λ e. c.get_flag.ensures.none (cpus ∙ e);
        on = λ e. c.get_flag.ensures.value (cpus ∙ e);
        off = λ e. c.get_flag.ensures.other (cpus ∙ e);
      };
    }
