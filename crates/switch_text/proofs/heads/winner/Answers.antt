use Rattle.std.proofs.Common.{true, false, sym, ◌∙◌}
use Rattle.switch_text.proofs.Winning.{Wins-of_two}
use Rattle.switch_text.proofs.heads.winner.Goals as goal

pub returns-then-is_sooner_than : goal.returns-then-is_sooner_than
returns-then-is_sooner_than c = Wins-of_two c.args.heads.now c.args.a c.args.b true (sym c.if-is_sooner_than.true ∙ c.is_sooner_than.ensures)

pub returns : goal.returns
returns c = Wins-of_two c.args.heads.now c.args.a c.args.b false (sym c.if-is_sooner_than.false ∙ c.is_sooner_than.ensures)
