use Rattle.std.proofs.Common.{◌∙◌}
use Rattle.std.specs.Str.Parse.{ExplainsUnsignedError, HasUnsignedDigitsIfOk}
use Rattle.clap.specs.Words.{found_of}
use Rattle.clap.proofs.WalkLemmas.{one_text-rows}
use Rattle.command_line.proofs.Numbers.{read_other, read_spelled}
use Rattle.command_line.proofs.found.read_at.Goals as goal

pub returns : goal.returns
returns c =
    let same = one_text-rows (found_of c.args.found.now) c.args.name.now in
    let get = c.get_one in
    record {
      absent = λ none. get.ensures.none (same ∙ none);
      spelled = λ text v at spells. read_spelled (λ bs q. ExplainsUnsignedError 10 bs q) (λ bs q. HasUnsignedDigitsIfOk bs q) text v get.result spells (get.ensures.value text (same ∙ at));
      other = λ text at none. read_other (λ bs q. ExplainsUnsignedError 10 bs q) (λ bs q. HasUnsignedDigitsIfOk bs q) text get.result none (get.ensures.value text (same ∙ at));
    }
