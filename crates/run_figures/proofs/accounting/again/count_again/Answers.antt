use Rattle.std.proofs.Common.{◌≡◌, ◌*◌, List, refl, sym, subst, ap, ◌∙◌, All}
use Rattle.run_figures.specs.declared.logged.TaskTally.{TaskTally}
use Rattle.run_figures.specs.declared.ran.Ran.{Ran}
use Rattle.run_figures.specs.declared.ran.Cpu.{Cpu}
use Rattle.run_figures.specs.Accounting.{with_piece}
use Rattle.run_figures.specs.Again.{more_logged, more_switches}
use Rattle.run_figures.specs.private.Keeping.{accounting_view_of, IsAccountingKept}
use Rattle.run_figures.specs.private.Growing.{rows_grown, grown_logged, grown_ran, grown_cpu, AreBoth, IsLoggedBack, IsRanBack, IsCpuBack, IsLoggedCounted, IsRanCounted, IsCpuCounted}
use Rattle.run_figures.proofs.PeriodAgain.{tables_again, tables_counted}
use Rattle.run_figures.proofs.accounting.again.count_again.Goals as goal

pub grow_all_logged-requires-clause-counted : goal.grow_all_logged-requires-clause-counted
grow_all_logged-requires-clause-counted c =
    let shift : c.in-Some.shift ≡ c.args.periods * c.args.micros = c.in-Some.ensures.1 in
    let logged_at : c.deref.result.now ≡ c.mark.inside.logged.items = c.deref.ensures.value in
    let logged_back : AreBoth (IsLoggedBack c.args.micros) c.mark.inside.logged.items c.args.logged.now.items = subst (λ (xs : List TaskTally). AreBoth (IsLoggedBack c.args.micros) xs c.args.logged.now.items) logged_at (subst (λ (xs : List TaskTally). AreBoth (IsLoggedBack c.args.micros) c.deref.result.now xs) c.deref-2.ensures.value (c.if-not-all_logged_back.ensures.back refl)) in
    let ran_at : c.deref-else-not-all_logged_back.result.now ≡ c.mark.inside.ran.items = c.deref-else-not-all_logged_back.ensures.value in
    let ran_now : c.deref-else-not-all_logged_back-2.result.now ≡ c.args.ran.now.tasks.items = c.deref-else-not-all_logged_back-2.ensures.value in
    let ran_back : AreBoth IsRanBack c.mark.inside.ran.items c.args.ran.now.tasks.items = subst (λ (xs : List Ran). AreBoth IsRanBack xs c.args.ran.now.tasks.items) ran_at (subst (λ (xs : List Ran). AreBoth IsRanBack c.deref-else-not-all_logged_back.result.now xs) ran_now (c.if-not-all_ran_back.ensures refl)) in
    let cpus_at : c.deref-else-not-all_ran_back.result.now ≡ c.mark.inside.cpus.items = c.deref-else-not-all_ran_back.ensures.value in
    let cpus_now : c.deref-else-not-all_ran_back-2.result.now ≡ c.args.ran.now.cpus.items = c.deref-else-not-all_ran_back-2.ensures.value in
    let cpus_back : AreBoth IsCpuBack c.mark.inside.cpus.items c.args.ran.now.cpus.items = subst (λ (xs : List Cpu). AreBoth IsCpuBack xs c.args.ran.now.cpus.items) cpus_at (subst (λ (xs : List Cpu). AreBoth IsCpuBack c.deref-else-not-all_ran_back.result.now xs) cpus_now (c.if-not-all_cpus_back.ensures refl)) in
    subst (λ (xs : List TaskTally). All IsLoggedCounted (rows_grown (grown_logged c.in-Some.shift c.args.periods) xs c.args.logged.now.items)) (sym c.deref-3.ensures.value)
    (tables_counted c.args.micros c.args.periods c.in-Some.shift c.mark.inside.of.value c.args.mark.now (accounting_view_of c.args.streamed.now c.args.places.now) c.mark.inside.logged.items c.args.logged.now.items c.mark.inside.ran.items c.args.ran.now.tasks.items c.mark.inside.cpus.items c.args.ran.now.cpus.items (sym c.mark.view_is) shift c.requires.period c.requires.run c.mark.invariant.0 c.requires.kept logged_back ran_back cpus_back).logged

pub grow_all_ran-requires-clause-counted : goal.grow_all_ran-requires-clause-counted
grow_all_ran-requires-clause-counted c =
    let shift : c.in-Some.shift ≡ c.args.periods * c.args.micros = c.in-Some.ensures.1 in
    let logged_at : c.deref.result.now ≡ c.mark.inside.logged.items = c.deref.ensures.value in
    let logged_back : AreBoth (IsLoggedBack c.args.micros) c.mark.inside.logged.items c.args.logged.now.items = subst (λ (xs : List TaskTally). AreBoth (IsLoggedBack c.args.micros) xs c.args.logged.now.items) logged_at (subst (λ (xs : List TaskTally). AreBoth (IsLoggedBack c.args.micros) c.deref.result.now xs) c.deref-2.ensures.value (c.if-not-all_logged_back.ensures.back refl)) in
    let ran_at : c.deref-else-not-all_logged_back.result.now ≡ c.mark.inside.ran.items = c.deref-else-not-all_logged_back.ensures.value in
    let ran_now : c.deref-else-not-all_logged_back-2.result.now ≡ c.args.ran.now.tasks.items = c.deref-else-not-all_logged_back-2.ensures.value in
    let ran_back : AreBoth IsRanBack c.mark.inside.ran.items c.args.ran.now.tasks.items = subst (λ (xs : List Ran). AreBoth IsRanBack xs c.args.ran.now.tasks.items) ran_at (subst (λ (xs : List Ran). AreBoth IsRanBack c.deref-else-not-all_logged_back.result.now xs) ran_now (c.if-not-all_ran_back.ensures refl)) in
    let cpus_at : c.deref-else-not-all_ran_back.result.now ≡ c.mark.inside.cpus.items = c.deref-else-not-all_ran_back.ensures.value in
    let cpus_now : c.deref-else-not-all_ran_back-2.result.now ≡ c.args.ran.now.cpus.items = c.deref-else-not-all_ran_back-2.ensures.value in
    let cpus_back : AreBoth IsCpuBack c.mark.inside.cpus.items c.args.ran.now.cpus.items = subst (λ (xs : List Cpu). AreBoth IsCpuBack xs c.args.ran.now.cpus.items) cpus_at (subst (λ (xs : List Cpu). AreBoth IsCpuBack c.deref-else-not-all_ran_back.result.now xs) cpus_now (c.if-not-all_cpus_back.ensures refl)) in
    subst (λ (xs : List Ran). All IsRanCounted (rows_grown (grown_ran c.args.periods) xs c.args.ran.now.tasks.items)) (sym c.deref-4.ensures.value)
    (tables_counted c.args.micros c.args.periods c.in-Some.shift c.mark.inside.of.value c.args.mark.now (accounting_view_of c.args.streamed.now c.args.places.now) c.mark.inside.logged.items c.args.logged.now.items c.mark.inside.ran.items c.args.ran.now.tasks.items c.mark.inside.cpus.items c.args.ran.now.cpus.items (sym c.mark.view_is) shift c.requires.period c.requires.run c.mark.invariant.0 c.requires.kept logged_back ran_back cpus_back).ran

pub grow_all_cpus-requires-clause-counted : goal.grow_all_cpus-requires-clause-counted
grow_all_cpus-requires-clause-counted c =
    let shift : c.in-Some.shift ≡ c.args.periods * c.args.micros = c.in-Some.ensures.1 in
    let logged_at : c.deref.result.now ≡ c.mark.inside.logged.items = c.deref.ensures.value in
    let logged_back : AreBoth (IsLoggedBack c.args.micros) c.mark.inside.logged.items c.args.logged.now.items = subst (λ (xs : List TaskTally). AreBoth (IsLoggedBack c.args.micros) xs c.args.logged.now.items) logged_at (subst (λ (xs : List TaskTally). AreBoth (IsLoggedBack c.args.micros) c.deref.result.now xs) c.deref-2.ensures.value (c.if-not-all_logged_back.ensures.back refl)) in
    let ran_at : c.deref-else-not-all_logged_back.result.now ≡ c.mark.inside.ran.items = c.deref-else-not-all_logged_back.ensures.value in
    let ran_now : c.deref-else-not-all_logged_back-2.result.now ≡ c.args.ran.now.tasks.items = c.deref-else-not-all_logged_back-2.ensures.value in
    let ran_back : AreBoth IsRanBack c.mark.inside.ran.items c.args.ran.now.tasks.items = subst (λ (xs : List Ran). AreBoth IsRanBack xs c.args.ran.now.tasks.items) ran_at (subst (λ (xs : List Ran). AreBoth IsRanBack c.deref-else-not-all_logged_back.result.now xs) ran_now (c.if-not-all_ran_back.ensures refl)) in
    let cpus_at : c.deref-else-not-all_ran_back.result.now ≡ c.mark.inside.cpus.items = c.deref-else-not-all_ran_back.ensures.value in
    let cpus_now : c.deref-else-not-all_ran_back-2.result.now ≡ c.args.ran.now.cpus.items = c.deref-else-not-all_ran_back-2.ensures.value in
    let cpus_back : AreBoth IsCpuBack c.mark.inside.cpus.items c.args.ran.now.cpus.items = subst (λ (xs : List Cpu). AreBoth IsCpuBack xs c.args.ran.now.cpus.items) cpus_at (subst (λ (xs : List Cpu). AreBoth IsCpuBack c.deref-else-not-all_ran_back.result.now xs) cpus_now (c.if-not-all_cpus_back.ensures refl)) in
    subst (λ (xs : List Cpu). All IsCpuCounted (rows_grown (grown_cpu c.args.periods) xs c.args.ran.now.cpus.items)) (sym c.deref-5.ensures.value)
    (tables_counted c.args.micros c.args.periods c.in-Some.shift c.mark.inside.of.value c.args.mark.now (accounting_view_of c.args.streamed.now c.args.places.now) c.mark.inside.logged.items c.args.logged.now.items c.mark.inside.ran.items c.args.ran.now.tasks.items c.mark.inside.cpus.items c.args.ran.now.cpus.items (sym c.mark.view_is) shift c.requires.period c.requires.run c.mark.invariant.0 c.requires.kept logged_back ran_back cpus_back).cpus

pub returns-clause-kept : goal.returns-clause-kept
returns-clause-kept c made hs ss streamed =
    let shift : c.in-Some.shift ≡ c.args.periods * c.args.micros = c.in-Some.ensures.1 in
    let logged_at : c.deref.result.now ≡ c.mark.inside.logged.items = c.deref.ensures.value in
    let logged_back : AreBoth (IsLoggedBack c.args.micros) c.mark.inside.logged.items c.args.logged.now.items = subst (λ (xs : List TaskTally). AreBoth (IsLoggedBack c.args.micros) xs c.args.logged.now.items) logged_at (subst (λ (xs : List TaskTally). AreBoth (IsLoggedBack c.args.micros) c.deref.result.now xs) c.deref-2.ensures.value (c.if-not-all_logged_back.ensures.back refl)) in
    let ran_at : c.deref-else-not-all_logged_back.result.now ≡ c.mark.inside.ran.items = c.deref-else-not-all_logged_back.ensures.value in
    let ran_now : c.deref-else-not-all_logged_back-2.result.now ≡ c.args.ran.now.tasks.items = c.deref-else-not-all_logged_back-2.ensures.value in
    let ran_back : AreBoth IsRanBack c.mark.inside.ran.items c.args.ran.now.tasks.items = subst (λ (xs : List Ran). AreBoth IsRanBack xs c.args.ran.now.tasks.items) ran_at (subst (λ (xs : List Ran). AreBoth IsRanBack c.deref-else-not-all_logged_back.result.now xs) ran_now (c.if-not-all_ran_back.ensures refl)) in
    let cpus_at : c.deref-else-not-all_ran_back.result.now ≡ c.mark.inside.cpus.items = c.deref-else-not-all_ran_back.ensures.value in
    let cpus_now : c.deref-else-not-all_ran_back-2.result.now ≡ c.args.ran.now.cpus.items = c.deref-else-not-all_ran_back-2.ensures.value in
    let cpus_back : AreBoth IsCpuBack c.mark.inside.cpus.items c.args.ran.now.cpus.items = subst (λ (xs : List Cpu). AreBoth IsCpuBack xs c.args.ran.now.cpus.items) cpus_at (subst (λ (xs : List Cpu). AreBoth IsCpuBack c.deref-else-not-all_ran_back.result.now xs) cpus_now (c.if-not-all_cpus_back.ensures refl)) in
    let v = with_piece (accounting_view_of c.args.streamed.now c.args.places.now) (more_logged c.args.micros c.args.periods hs) (more_switches c.args.micros c.args.periods ss) in
    let logged : rows_grown (grown_logged c.in-Some.shift c.args.periods) c.mark.inside.logged.items c.args.logged.now.items ≡ c.grow_all_logged.new.table.items = ap (λ (xs : List TaskTally). rows_grown (grown_logged c.in-Some.shift c.args.periods) xs c.args.logged.now.items) (sym c.deref-3.ensures.value) ∙ sym c.grow_all_logged.ensures.grown in
    let ran : rows_grown (grown_ran c.args.periods) c.mark.inside.ran.items c.args.ran.now.tasks.items ≡ c.grow_all_ran.new.table.items = ap (λ (xs : List Ran). rows_grown (grown_ran c.args.periods) xs c.args.ran.now.tasks.items) (sym c.deref-4.ensures.value) ∙ sym c.grow_all_ran.ensures.grown in
    let cpus : rows_grown (grown_cpu c.args.periods) c.mark.inside.cpus.items c.args.ran.now.cpus.items ≡ c.grow_all_cpus.new.table.items = ap (λ (xs : List Cpu). rows_grown (grown_cpu c.args.periods) xs c.args.ran.now.cpus.items) (sym c.deref-5.ensures.value) ∙ sym c.grow_all_cpus.ensures.grown in
    subst (λ (xs : List TaskTally). IsAccountingKept v xs c.grow_all_ran.new.table.items c.grow_all_cpus.new.table.items) logged
    (subst (λ (ys : List Ran). IsAccountingKept v (rows_grown (grown_logged c.in-Some.shift c.args.periods) c.mark.inside.logged.items c.args.logged.now.items) ys c.grow_all_cpus.new.table.items) ran
    (subst (λ (zs : List Cpu). IsAccountingKept v (rows_grown (grown_logged c.in-Some.shift c.args.periods) c.mark.inside.logged.items c.args.logged.now.items) (rows_grown (grown_ran c.args.periods) c.mark.inside.ran.items c.args.ran.now.tasks.items) zs) cpus
    (tables_again c.args.micros c.args.periods c.in-Some.shift c.mark.inside.of.value c.args.mark.now (accounting_view_of c.args.streamed.now c.args.places.now) c.mark.inside.logged.items c.args.logged.now.items c.mark.inside.ran.items c.args.ran.now.tasks.items c.mark.inside.cpus.items c.args.ran.now.cpus.items hs ss (sym c.mark.view_is) shift streamed c.requires.period c.requires.run c.mark.invariant.0 c.requires.kept logged_back ran_back cpus_back)))
