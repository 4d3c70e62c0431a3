use Rattle.std.proofs.lemmas.Result.{IfErr-weaker, IfOk-weaker}
use Rattle.command_line.proofs.importing.options_at.Goals as goal

pub returns-clause-meant : goal.returns-clause-meant
returns-clause-meant c = IfOk-weaker c.options_of.result _ _ (λ o meant. record { words = c.words_of.result; are_found = c.words_of.ensures; meant = meant }) c.options_of.ensures.meant

pub returns-clause-refused : goal.returns-clause-refused
returns-clause-refused c = IfErr-weaker c.options_of.result _ _ (λ fault is. record { words = c.words_of.result; are_found = c.words_of.ensures; is_fault = is }) c.options_of.ensures.refused
