use Rattle.std.proofs.Common.{◌≡◌, ◌<◌, ◌∙◌, false, true, List, [], length, get_or, refl, sym, subst, inl, inr}
use Rattle.std.specs.Prelude.{All}
use Rattle.std.proofs.lemmas.List.Elements.{All-weaker}
use Rattle.edf_pick.specs.declared.candidate.Candidate.{Candidate}
use Rattle.edf_pick.specs.Choice.{is_before}
use Rattle.edf_pick.specs.private.RunningSet.{bare_key}
use Rattle.edf_pick.specs.private.Ready.{all_held}
use Rattle.edf_pick.proofs.Rising.{none_there, some_there}
use Rattle.edf_pick.proofs.Stays.{past_both}
use Rattle.edf_pick.proofs.choosing.outdone.Goals as goal

pub as_slice-tasks-requires : goal.as_slice-tasks-requires
as_slice-tasks-requires c = tt

pub returns-then-is_empty-clause-still : goal.returns-then-is_empty-clause-still
returns-then-is_empty-clause-still c = refl

pub returns-then-is_empty-clause-none : goal.returns-then-is_empty-clause-none
returns-then-is_empty-clause-none c =
    inl (subst (λ (xs : List Candidate). xs ≡ []) c.as_slice-tasks.ensures.tasks (none_there c.as_slice-tasks.result.now (sym c.is_empty.ensures ∙ c.if-is_empty.true)))

pub returns-then-is_empty-clause-some : goal.returns-then-is_empty-clause-some
returns-then-is_empty-clause-some c = tt

pub returns-then-is_empty-clause-first : goal.returns-then-is_empty-clause-first
returns-then-is_empty-clause-first c = tt

pub returns-then-is_empty-clause-there : goal.returns-then-is_empty-clause-there
returns-then-is_empty-clause-there c = tt

pub bounds-tasks-0 : goal.bounds-tasks-0
bounds-tasks-0 c = some_there c.as_slice-tasks.result.now (sym c.is_empty.ensures ∙ c.if-is_empty.false)

pub may_outlast-requires : goal.may_outlast-requires
may_outlast-requires c = tt

pub returns-then-not-may_outlast-clause-still : goal.returns-then-not-may_outlast-clause-still
returns-then-not-may_outlast-clause-still c = refl

pub returns-then-not-may_outlast-clause-none : goal.returns-then-not-may_outlast-clause-none
returns-then-not-may_outlast-clause-none c =
    inr (subst (λ (xs : List Candidate). All (λ a. is_before (get_or xs 0 bare_key) a ≡ false) (all_held c.args.running.now)) c.as_slice-tasks.ensures.tasks (c.may_outlast.ensures c.if-not-may_outlast.true))

pub returns-then-not-may_outlast-clause-some : goal.returns-then-not-may_outlast-clause-some
returns-then-not-may_outlast-clause-some c = tt

pub returns-then-not-may_outlast-clause-first : goal.returns-then-not-may_outlast-clause-first
returns-then-not-may_outlast-clause-first c = tt

pub returns-then-not-may_outlast-clause-there : goal.returns-then-not-may_outlast-clause-there
returns-then-not-may_outlast-clause-there c = tt

pub latest-last-requires : goal.latest-last-requires
latest-last-requires c = tt

pub is_before-requires : goal.is_before-requires
is_before-requires c = tt

pub returns-then-is_before-clause-still : goal.returns-then-is_before-clause-still
returns-then-is_before-clause-still c = c.latest-last.ensures.still

pub returns-then-is_before-clause-none : goal.returns-then-is_before-clause-none
returns-then-is_before-clause-none c = tt

pub returns-then-is_before-clause-some : goal.returns-then-is_before-clause-some
returns-then-is_before-clause-some c =
    subst (λ (xs : List Candidate). 0 < length xs) c.as_slice-tasks.ensures.tasks (some_there c.as_slice-tasks.result.now (sym c.is_empty.ensures ∙ c.if-is_empty.false))

pub returns-then-is_before-clause-first : goal.returns-then-is_before-clause-first
returns-then-is_before-clause-first c =
    subst (λ (xs : List Candidate). is_before (get_or xs 0 bare_key) c.latest-last.result ≡ true) c.as_slice-tasks.ensures.tasks (sym c.is_before.ensures ∙ c.if-is_before.true)

pub returns-then-is_before-clause-there : goal.returns-then-is_before-clause-there
returns-then-is_before-clause-there c = c.latest-last.ensures.there (get_or c.as_slice-tasks.result.now 0 bare_key) (sym c.is_before.ensures ∙ c.if-is_before.true)

pub returns-clause-still : goal.returns-clause-still
returns-clause-still c = c.latest-last.ensures.still

pub returns-clause-none : goal.returns-clause-none
returns-clause-none c =
    let one = get_or c.as_slice-tasks.result.now 0 bare_key in
    let last = c.latest-last.result in
    let past : is_before one last ≡ false = sym c.is_before.ensures ∙ c.if-is_before.false in
    inr (subst (λ (xs : List Candidate). All (λ a. is_before (get_or xs 0 bare_key) a ≡ false) (all_held c.args.running.now)) c.as_slice-tasks.ensures.tasks
    (All-weaker (λ a. is_before last a ≡ false) (λ a. is_before one a ≡ false) (λ a h. past_both one last a past h) (all_held c.args.running.now) c.latest-last.ensures.bound))

pub returns-clause-some : goal.returns-clause-some
returns-clause-some c = tt

pub returns-clause-first : goal.returns-clause-first
returns-clause-first c = tt

pub returns-clause-there : goal.returns-clause-there
returns-clause-there c = tt
