use Rattle.std.proofs.Common.{subst}
use Rattle.json_order.specs.private.Entries.{keys_of}
use Rattle.json_order.specs.private.KeySets.{HasKeys}
use Rattle.json_order.proofs.KeySets.{set_pushed}
use Rattle.json_order.proofs.members.Members.push_scattered.Goals as goal

pub invariant_of-self : goal.invariant_of-self
invariant_of-self c =
    let m = c.args.self.now in
    let has : HasKeys c.in_ok-set.set (keys_of m.list.items) = subst (λ ms. HasKeys c.in_ok-set.set (keys_of ms)) c.deref.ensures.value c.in_ok-set.ensures.ok in
    record {
      ordered = λ some many. m.ordered c.requires.none many;
      known = λ d some. set_pushed _ m.sets.items c.push.new.self.items c.in_ok-set.set d (keys_of m.list.items) c.requires.none c.push.ensures.items has some;
    }
