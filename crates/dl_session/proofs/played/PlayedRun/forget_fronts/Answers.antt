use Rattle.std.proofs.Common.{◌≡◌, ◌+◌, ◌≤◌, ◌++◌, drop, refl, sym, ap, subst, ◌∙◌}
use Rattle.domain_run.specs.Passing.{without_front}
use Rattle.switch_text.specs.Names.{name_of_task}
use Rattle.call_book.specs.Playing.{PlayingView, all_logged, switches_ahead, logged_ahead}
use Rattle.dl_session.specs.private.Named.{AreAllNamed}
use Rattle.dl_session.specs.private.Tellable.{IsTellable}
use Rattle.dl_session.proofs.EventRuns.{logged_alike, log_less}
use Rattle.dl_session.proofs.played.PlayedRun.forget_fronts.Goals as goal

pub invariant_of-self : goal.invariant_of-self
invariant_of-self c =
    let p = c.args.self.now in
    let b = p.book in
    let at = without_front c.args.switches b.at in
    let gone : PlayingView = record b { at = at; logged = drop c.args.logged b.logged } in
    let q = c.forget_logged.new.self in
    let is : q ≡ gone = c.forget_logged.ensures ∙ ap (λ (x : PlayingView). record x { logged = drop c.args.logged x.logged }) c.forget_front.ensures in
    let logged : all_logged q ≡ drop c.args.logged b.logged ++ logged_ahead b = ap all_logged is ∙ ap (λ hs. drop c.args.logged b.logged ++ hs) (logged_alike b.logs b.left at b.at refl) in
    record {
      inside = subst (λ (x : PlayingView). p.base + x.at.cpus ≤ 512) (sym is) p.inside;
      named = subst (λ (x : PlayingView). AreAllNamed x.at.used p.names) (sym is) p.named;
      tellable = subst (IsTellable p.base p.names) (sym logged) (log_less p.base p.names c.args.logged b.logged (logged_ahead b) p.tellable);
    }

pub returns-clause-rest : goal.returns-clause-rest
returns-clause-rest c =
    let p = c.args.self.now in
    let b = p.book in
    let at = without_front c.args.switches b.at in
    let gone : PlayingView = record b { at = at; logged = drop c.args.logged b.logged } in
    let q = c.forget_logged.new.self in
    let is : q ≡ gone = c.forget_logged.ensures ∙ ap (λ (x : PlayingView). record x { logged = drop c.args.logged x.logged }) c.forget_front.ensures in
    let ahead = logged_alike b.logs b.left at b.at refl in
    ap (λ (x : PlayingView). record { base = p.base; names = name_of_task p.names; at_hand = x.at.switches; to_come = switches_ahead x; logged = x.logged; to_log = logged_ahead x }) is
    ∙ (λ i. record { base = p.base; names = name_of_task p.names; at_hand = drop c.args.switches b.at.switches; to_come = switches_ahead b; logged = drop c.args.logged b.logged; to_log = ahead i })
