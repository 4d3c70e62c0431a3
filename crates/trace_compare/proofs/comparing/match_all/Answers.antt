use Rattle.std.proofs.Common.{All, sym, subst, ap, ◌∙◌, length, ◌<◌, arith}
use Rattle.std.proofs.lemmas.List.Elements.{All-push}
use Rattle.trace_compare.specs.Matched.{IsSoundMatching}
use Rattle.trace_compare.specs.Pairs.{fits, partners, left_over}
use Rattle.trace_compare.proofs.OneMore.{matched_more}
use Rattle.trace_compare.proofs.comparing.match_all.Goals as goal

pub loop-j-preserved : goal.loop-j-preserved
loop-j-preserved c =
    let f = fits c.args.within c.args.shift in
    let task = c.index-tasks-j.result in
    let model = c.as_slice.ensures.value in
    let recorded = c.as_slice-in-loop-j.ensures.value in
    let within : c.loop-j.j < length c.args.tasks.now = omega arith in
    record {
      matched = matched_more c.args.within c.args.shift c.args.tasks.now c.loop-j.j c.loop-j.matchings.items c.push.new.self.items c.in_ok-matching.matching task c.loop-j.invariant.matched c.in_ok-push.ensures.items within c.index-tasks-j.is
          (c.in_ok-matching.ensures.partners ∙ ap (λ xs. partners f xs c.as_slice-in-loop-j.result.now) model ∙ ap (λ ys. partners f task.model.items ys) recorded)
          (c.in_ok-matching.ensures.left ∙ ap (λ xs. left_over f xs c.as_slice-in-loop-j.result.now) model ∙ ap (λ ys. left_over f task.model.items ys) recorded);
      sound = subst (All IsSoundMatching) (sym c.in_ok-push.ensures.items) (All-push IsSoundMatching c.loop-j.matchings.items c.in_ok-matching.matching c.loop-j.invariant.sound c.in_ok-matching.ensures.sound);
    }
