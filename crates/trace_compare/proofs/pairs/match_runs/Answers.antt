use Rattle.std.proofs.Common.{arith, ◌∙◌, ◌++◌, All, drop, sym, ap, subst, append-nil, Some, None}
use Rattle.std.proofs.lemmas.List.Elements.{All-append, All-drop}
use Rattle.trace_compare.specs.Runs.{IsShort}
use Rattle.trace_compare.specs.Pairs.{fits}
use Rattle.trace_compare.proofs.Walking.{turn_more, walk_fit, walk_early, walk_late, left_of_fit, left_of_early, left_of_late, partners_one, left_one, partners_model_end, left_model_end, told_pushed, told_same, rest_of, partner_pushed, run_pushed}
use Rattle.trace_compare.proofs.pairs.match_runs.Goals as goal

pub loop-i-preserved-in-Fit : goal.loop-i-preserved-in-Fit
loop-i-preserved-in-Fit c =
    let v = c.loop-i.invariant in
    record {
      told = told_pushed c.loop-i.partners.items c.push.new.self.items _ _ _ _ c.in_ok-push-in-Fit.ensures.items (walk_fit c.args.within c.args.shift c.args.ms.now c.args.rs.now c.loop-i.i c.loop-i.j c.loop-i-test.true c.if-j-rs.true c.in-Fit.ensures) v.told;
      left = told_same _ _ _ _ (left_of_fit c.args.within c.args.shift c.args.ms.now c.args.rs.now c.loop-i.i c.loop-i.j c.loop-i-test.true c.if-j-rs.true c.in-Fit.ensures) v.left;
      short = partner_pushed c.loop-i.partners.items c.push.new.self.items (Some _) v.short (c.requires.recorded c.loop-i.j _ c.if-j-rs.true) c.in_ok-push-in-Fit.ensures.items;
      left_short = v.left_short;
      model_turn = turn_more c.args.ms.now c.loop-i.i c.loop-i-test.true v.model_turn;
      recorded_turn = turn_more c.args.rs.now c.loop-i.j c.if-j-rs.true v.recorded_turn;
      i_within = omega (arith, c.loop-i-test.true);
      j_within = omega (arith, c.if-j-rs.true);
    }

pub loop-i-preserved-in-Early : goal.loop-i-preserved-in-Early
loop-i-preserved-in-Early c =
    let v = c.loop-i.invariant in
    record {
      told = told_same _ _ _ _ (walk_early c.args.within c.args.shift c.args.ms.now c.args.rs.now c.loop-i.i c.loop-i.j c.loop-i-test.true c.if-j-rs.true v.model_turn c.in-Early.ensures) v.told;
      left = told_pushed c.loop-i.left.items c.push-in-Early.new.self.items _ _ _ _ c.in_ok-push-in-Early.ensures.items (left_of_early c.args.within c.args.shift c.args.ms.now c.args.rs.now c.loop-i.i c.loop-i.j c.loop-i-test.true c.if-j-rs.true v.model_turn c.in-Early.ensures) v.left;
      short = v.short;
      left_short = run_pushed c.loop-i.left.items c.push-in-Early.new.self.items _ v.left_short (c.requires.recorded c.loop-i.j _ c.if-j-rs.true) c.in_ok-push-in-Early.ensures.items;
      model_turn = v.model_turn;
      recorded_turn = turn_more c.args.rs.now c.loop-i.j c.if-j-rs.true v.recorded_turn;
      i_within = v.i_within;
      j_within = omega (arith, c.if-j-rs.true);
    }

pub loop-i-preserved : goal.loop-i-preserved
loop-i-preserved c =
    let v = c.loop-i.invariant in
    record {
      told = told_pushed c.loop-i.partners.items c.push-in-Late.new.self.items _ _ _ _ c.in_ok-push-in-Late.ensures.items (walk_late c.args.within c.args.shift c.args.ms.now c.args.rs.now c.loop-i.i c.loop-i.j c.loop-i-test.true c.if-j-rs.true v.recorded_turn c.in-Late.ensures) v.told;
      left = told_same _ _ _ _ (left_of_late c.args.within c.args.shift c.args.ms.now c.args.rs.now c.loop-i.i c.loop-i.j c.loop-i-test.true c.if-j-rs.true v.recorded_turn c.in-Late.ensures) v.left;
      short = partner_pushed c.loop-i.partners.items c.push-in-Late.new.self.items None v.short tt c.in_ok-push-in-Late.ensures.items;
      left_short = v.left_short;
      model_turn = turn_more c.args.ms.now c.loop-i.i c.loop-i-test.true v.model_turn;
      recorded_turn = v.recorded_turn;
      i_within = omega (arith, c.loop-i-test.true);
      j_within = v.j_within;
    }

pub rest-preserved : goal.rest-preserved
rest-preserved c =
    let v = c.rest.invariant in
    let f = fits c.args.within c.args.shift in
    record {
      told = told_pushed c.rest.partners.items c.push-in-rest.new.self.items _ _ _ _ c.in_ok-push.ensures.items (partners_one f c.args.ms.now c.args.rs.now c.rest.i c.loop-i.j c.rest-test.true (v.ended c.rest-test.true)) v.told;
      left = told_same _ _ _ _ (left_one f c.args.ms.now c.args.rs.now c.rest.i c.loop-i.j (v.ended c.rest-test.true)) v.left;
      short = partner_pushed c.rest.partners.items c.push-in-rest.new.self.items None v.short tt c.in_ok-push.ensures.items;
      left_short = v.left_short;
      ended = λ more. v.ended c.rest-test.true;
      i_within = omega (arith, c.rest-test.true);
      j_within = v.j_within;
    }

pub returns-clause-partners : goal.returns-clause-partners
returns-clause-partners c =
    let none = partners_model_end (fits c.args.within c.args.shift) c.args.ms.now c.args.rs.now c.rest.i c.loop-i.j c.rest-test.false in
    sym (append-nil c.rest.partners.items) ∙ ap (λ ps. c.rest.partners.items ++ ps) (sym none) ∙ c.rest.invariant.told

pub returns-clause-left : goal.returns-clause-left
returns-clause-left c =
    let all = left_model_end (fits c.args.within c.args.shift) c.args.ms.now c.args.rs.now c.rest.i c.loop-i.j c.rest-test.false in
    c.in_ok-extend_from_slice.ensures.items ∙ ap (λ rs. c.loop-i.left.items ++ rs) (rest_of c.loop-i.j c.args.rs.now ∙ sym all) ∙ c.rest.invariant.left

pub returns-clause-sound : goal.returns-clause-sound
returns-clause-sound c =
    let v = c.rest.invariant in
    record {
      partners = v.short;
      left = subst (All IsShort) (sym (c.in_ok-extend_from_slice.ensures.items ∙ ap (λ rs. c.loop-i.left.items ++ rs) (rest_of c.loop-i.j c.args.rs.now)))
          (All-append IsShort c.loop-i.left.items (drop c.loop-i.j c.args.rs.now) v.left_short (All-drop IsShort c.loop-i.j c.args.rs.now c.requires.recorded));
    }
