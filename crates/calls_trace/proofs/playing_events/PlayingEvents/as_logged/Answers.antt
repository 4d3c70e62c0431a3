use Rattle.std.proofs.Common.{◌≡◌, List, length, ap, sym, subst, arith}
use Rattle.std.specs.Prelude.{All, AllPairs, IsTrue}
use Rattle.std.proofs.Math.Logic.{∥∥₁_elim}
use denote.Struct.Props.{props}
use Rattle.domain_run.specs.declared.happened.Happened.{Happened}
use Rattle.switch_text.specs.Names.{name_of_task}
use Rattle.switch_text.specs.EventLines.{HasLoggedLine, is_sooner_unless_cut}
use Rattle.switch_text.specs.LoggedLine.{has_line}
use Rattle.calls_trace.specs.private.PlayingEvents.{calls_to_make, names_to_give}
use Rattle.calls_trace.proofs.EventPieces.{waiting_logged, waiting_named}
use Rattle.calls_trace.proofs.LoggedSoFar.{waiting_rises, waiting_lines}
use Rattle.calls_trace.proofs.playing_events.PlayingEvents.as_logged.Goals as goal

pub returns-clause-logged : goal.returns-clause-logged
returns-clause-logged c =
    let p = c.args.self.now in
    let v = p.run.logged_run in
    let same = sym c.logged.ensures in
    let long = ap (λ (hs : List Happened). length hs) c.logged.ensures in
    record {
      lines = subst (All (HasLoggedLine p.run.names p.base)) same (∥∥₁_elim p.so_far (hlevel props) (λ s. waiting_logged v p.run.names p.base s p.called p.inside (omega (arith, p.early))));
      rising = subst (AllPairs (λ a b. IsTrue (is_sooner_unless_cut a b))) same (∥∥₁_elim p.so_far (hlevel props) (λ s. waiting_rises v s));
      few = omega (arith, long, p.few);
    }

pub returns-clause-lines : goal.returns-clause-lines
returns-clause-lines c =
    let p = c.args.self.now in
    subst (All (λ h. IsTrue (has_line h.what))) (sym c.logged.ensures) (∥∥₁_elim p.past (hlevel props) (λ all. waiting_lines p.run.logged_run.domain.time p.run.logged_run.logged all))

pub returns-clause-names : goal.returns-clause-names
returns-clause-names c =
    let p = c.args.self.now in
    subst (All (λ h. name_of_task p.run.names h.number ≡ names_to_give p h.number)) (sym c.logged.ensures) (∥∥₁_elim p.so_far (hlevel props) (λ s. waiting_named p.run.logged_run (calls_to_make p) (name_of_task p.run.names) s))
