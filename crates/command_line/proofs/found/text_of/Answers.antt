use Rattle.std.proofs.Common.{◌∙◌, ℕ, List, Bor, Option, ap, option_map, sym}
use Rattle.clap.specs.Words.{found_of}
use Rattle.clap.proofs.WalkLemmas.{first_value-rows}
use Rattle.command_line.proofs.Printing.{none_read, text_read}
use Rattle.command_line.proofs.found.text_of.Goals as goal

-- the text of a reference
abbrev text_in : Option (Bor (List ℕ)) → Option (List ℕ)
text_in = option_map (λ text. text.now)

pub returns-in-Some : goal.returns-in-Some
returns-in-Some c =
    text_read _ _ c.in-Some.text.now (sym (ap text_in c.in-Some.is) ∙ (c.get_str.ensures ∙ first_value-rows (found_of c.args.found.now) c.args.name.now))

pub returns-in-None : goal.returns-in-None
returns-in-None c =
    none_read _ _ (sym (ap text_in c.in-None.is) ∙ (c.get_str.ensures ∙ first_value-rows (found_of c.args.found.now) c.args.name.now))
