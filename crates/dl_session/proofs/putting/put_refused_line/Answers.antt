use Rattle.std.proofs.Common.{ap, codes, decimal, ◌++◌, ℕ}
use Rattle.draft.proofs.CallerLemmas.{as_text, joined3}
use Rattle.dl_session.proofs.putting.put_refused_line.Goals as goal

pub returns : goal.returns
returns c =
    joined3 c.args.out.now c.put_counted.new.out c.put.new.self c.put_refusal.new.out _ _ _
    (as_text _ _ _ _ (ap (λ (n : ℕ). codes "dlsim: task " ++ decimal n) c.from.ensures) c.put_counted.ensures) c.put.ensures c.put_refusal.ensures
