use Rattle.std.proofs.Common.{◌≡◌, ◌∙◌, ◌<◌, ◌≤◌, length, true, get_or, subst, sym, arith}
use Rattle.std.proofs.lemmas.List.{take_all}
use Rattle.switch_text.specs.EventLines.{IsLogged}
use Rattle.switch_text.specs.private.LoggedMerging.{is_line_logged}
use Rattle.switch_text.proofs.LoggedFound.{IsHere, IsNextIn, IsNextIn-from, IsBest, IsBest-done, IsBest-better_at, IsBest-kept_at, IsLoggedFound-best, IsNextLogged-cut}
use Rattle.switch_text.proofs.logged_merge.next_logged.Goals as goal
use Rattle.switch_text.proofs.logged_merge.next_logged.Goals.{then-is_left+else-not-has_a_line+then-is_before_best, then-is_left+else-not-has_a_line+else-is_before_best, else-is_left}

pub returns-then-not-has_a_line : goal.returns-then-not-has_a_line
returns-then-not-has_a_line c =
    let logged = c.args.logged.now in
    let places = c.args.places.now in
    let i = c.loop-i.i in
    let t = c.index-logged-i.result in
    let n = c.next_in-next.result in
    let good : IsLogged t = subst IsLogged (sym c.index-logged-i.is) (c.requires.logged i t c.loop-i-test.true) in
    let here : IsHere logged places i t = record { inside = c.loop-i-test.true; room = omega arith; is = c.index-logged-i.is; good = good } in
    let left : get_or places i 0 < length t.happened.now = c.is_left.ensures.inside.0 c.if-is_left.true in
    let next : IsNextIn logged places n = IsNextIn-from logged places i t n here c.next_in-next.ensures.index c.next_in-next.ensures.logged left c.next_in-next.ensures.happened (omega (arith, left, c.is_left.ensures.counted)) in
    IsNextLogged-cut logged places n (omega arith) next (sym c.has_a_line.ensures ∙ c.if-not-has_a_line.true)

pub loop-i-preserved : goal.loop-i-preserved
loop-i-preserved c =
    let logged = c.args.logged.now in
    let places = c.args.places.now in
    let i = c.loop-i.i in
    let t = c.index-logged-i.result in
    let good : IsLogged t = subst IsLogged (sym c.index-logged-i.is) (c.requires.logged i t c.loop-i-test.true) in
    let here : IsHere logged places i t = record { inside = c.loop-i-test.true; room = omega arith; is = c.index-logged-i.is; good = good } in
    elim c.if-is_left.branch [
      | then-is_left+else-not-has_a_line+then-is_before_best w ↦
          let n = w.next_in-next.result in
          let left : get_or places i 0 < length t.happened.now = c.is_left.ensures.inside.0 w.if-is_left.true in
          let next : IsNextIn logged places n = IsNextIn-from logged places i t n here w.next_in-next.ensures.index w.next_in-next.ensures.logged left w.next_in-next.ensures.happened (omega (arith, left, c.is_left.ensures.counted)) in
          let shown : is_line_logged n.happened.now ≡ true = sym w.has_a_line.ensures ∙ w.if-not-has_a_line.false in
          rw w.best-is (IsBest-better_at logged places i n c.loop-i.best w.next_in-next.ensures.index next shown (sym w.is_before_best.ensures ∙ w.if-is_before_best.true) c.loop-i.invariant)
      | then-is_left+else-not-has_a_line+else-is_before_best w ↦
          let n = w.next_in-next.result in
          let left : get_or places i 0 < length t.happened.now = c.is_left.ensures.inside.0 w.if-is_left.true in
          let next : IsNextIn logged places n = IsNextIn-from logged places i t n here w.next_in-next.ensures.index w.next_in-next.ensures.logged left w.next_in-next.ensures.happened (omega (arith, left, c.is_left.ensures.counted)) in
          let shown : is_line_logged n.happened.now ≡ true = sym w.has_a_line.ensures ∙ w.if-not-has_a_line.false in
          rw w.best-is (IsBest-kept_at logged places i n c.loop-i.best w.next_in-next.ensures.index next shown (sym w.is_before_best.ensures ∙ w.if-is_before_best.false) c.loop-i.invariant)
      | else-is_left w ↦
          let past : length t.happened.now ≤ get_or places i 0 = grind (arith, c.is_left.ensures.inside.1, w.if-is_left.false) in
          rw w.best-is (IsBest-done logged places i t c.loop-i.best here past c.loop-i.invariant)
    ]

pub returns : goal.returns
returns c =
    let logged = c.args.logged.now in
    let places = c.args.places.now in
    let whole = subst (λ seen. IsBest seen places c.loop-i.best) (take_all c.loop-i.i logged c.loop-i-test.false) c.loop-i.invariant in
    IsLoggedFound-best logged places c.loop-i.best (omega arith) whole
