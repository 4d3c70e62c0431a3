use Rattle.std.proofs.Common.{arith, ◌≡◌, ◌∙◌, None, Some, ap}
use Rattle.std.specs.Prelude.{unwrap_or}
use Rattle.std.specs.Str.Parse.{ExplainsUnsignedError, HasUnsignedDigitsIfOk}
use Rattle.clap.specs.Words.{found_of}
use Rattle.clap.proofs.WalkLemmas.{one_text-rows}
use Rattle.command_line.proofs.Numbers.{read_other, read_spelled}
use Rattle.command_line.proofs.found.number.Goals as goal

pub returns-clause-found : goal.returns-clause-found
returns-clause-found c =
    let same = one_text-rows (found_of c.args.found.now) c.args.name.now in
    let get = c.get_one in
    record {
      absent = λ none.
          let read : get.result ≡ None = get.ensures.none (same ∙ none) in
          let is : c.unwrap_or.result ≡ 1 = c.unwrap_or.ensures ∙ ap (λ o. unwrap_or o 1) read in
          omega (arith, c.clamp.ensures, is);
      spelled = λ text v at spells.
          let read : get.result ≡ Some v = read_spelled (λ bs q. ExplainsUnsignedError 10 bs q) (λ bs q. HasUnsignedDigitsIfOk bs q) text v get.result spells (get.ensures.value text (same ∙ at)) in
          let is : c.unwrap_or.result ≡ v = c.unwrap_or.ensures ∙ ap (λ o. unwrap_or o 1) read in
          omega (arith, c.clamp.ensures, is);
      other = λ text at none.
          let read : get.result ≡ None = read_other (λ bs q. ExplainsUnsignedError 10 bs q) (λ bs q. HasUnsignedDigitsIfOk bs q) text get.result none (get.ensures.value text (same ∙ at)) in
          let is : c.unwrap_or.result ≡ 1 = c.unwrap_or.ensures ∙ ap (λ o. unwrap_or o 1) read in
          omega (arith, c.clamp.ensures, is);
    }
