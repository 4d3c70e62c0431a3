use Rattle.deadline_promise.proofs.Starting.{never_crowded, has_room}
use Rattle.deadline_promise.proofs.Figuring.{never_late}
use Rattle.deadline_promise.proofs.Promising.{promise_kept}
use Rattle.deadline_promise.proofs.theorem.budgets_isolate.Goals as goal

pub returns : goal.returns
returns c = record { uncrowded = never_crowded; room = has_room; never_late = never_late; kept = promise_kept }
