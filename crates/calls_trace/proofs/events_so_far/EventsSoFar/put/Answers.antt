use Rattle.std.proofs.Common.{◌+◌, ap}
use Rattle.calls_trace.proofs.EventsLeading.{one_more_logged}
use Rattle.calls_trace.proofs.events_so_far.EventsSoFar.put.Goals as goal

pub returns : goal.returns
returns c = λ done s so_far is same.
    one_more_logged done s c.args.self.now _ c.in-Ok.run' so_far c.push_reserved.ensures.items (ap (λ n. c.args.self.now.base + n) same.same_cpus) is (c.in-Ok.ensures s is same)
