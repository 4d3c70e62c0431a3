use Rattle.std.proofs.Common.{◌<◌, inl, inr, [], ◌∷◌, ◌++◌, length, sym, ap, subst, arith}
use Rattle.json_order.specs.private.Entries.{keys_of, AreOrdered}
use Rattle.json_order.proofs.Keys.{ordered_more, either}
use Rattle.json_order.proofs.members.Members.push_behind.Goals as goal

pub invariant_of-self : goal.invariant_of-self
invariant_of-self c =
    let m = c.args.self.now in
    record {
      ordered = λ none many.
          let some : 15 < length m.list.items = omega (arith, many, c.add_member.ensures.len) in
          let more : AreOrdered m.order (keys_of (m.list.items ++ (c.args.key, c.args.value) ∷ [])) = ordered_more m.order m.list.items c.args.key c.args.value (c.requires.ordered some) (c.requires.last some) in
          elim (either c.add_member.result _ _ c.add_member.ensures.ok c.add_member.ensures.kept) [
            | inl e ↦ subst (λ ms. AreOrdered m.order (keys_of ms)) (sym e) more
            | inr e ↦ subst (λ ms. AreOrdered m.order (keys_of ms)) (sym e) (c.requires.ordered some)
          ];
      known = λ d some. let e = ap length c.requires.none in absurd (omega arith);
    }
