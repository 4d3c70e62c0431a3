use Rattle.std.proofs.Common.{◌≡◌, ◌+◌, ◌≤◌, ◌++◌, refl, sym, ap, subst, ◌∙◌}
use Rattle.domain_run.specs.Passing.{without_front}
use Rattle.call_book.specs.Playing.{PlayingView, all_logged}
use Rattle.dl_session.specs.private.Named.{AreAllNamed}
use Rattle.dl_session.specs.private.Tellable.{IsTellable}
use Rattle.dl_session.proofs.EventRuns.{logged_alike}
use Rattle.dl_session.proofs.played.PlayedRun.forget_first.Goals as goal

pub invariant_of-self : goal.invariant_of-self
invariant_of-self c =
    let p = c.args.self.now in
    let b = p.book in
    let q = c.forget_front.new.self in
    let is = c.forget_front.ensures in
    let logged : all_logged q ≡ all_logged b = ap all_logged is ∙ ap (λ hs. b.logged ++ hs) (logged_alike b.logs b.left (without_front c.args.count b.at) b.at refl) in
    record {
      inside = subst (λ (x : PlayingView). p.base + x.at.cpus ≤ 512) (sym is) p.inside;
      named = subst (λ (x : PlayingView). AreAllNamed x.at.used p.names) (sym is) p.named;
      tellable = subst (IsTellable p.base p.names) (sym logged) p.tellable;
    }
