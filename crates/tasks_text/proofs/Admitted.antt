-- The admission of a task, as a calls text has it.
use Rattle.std.proofs.Common.{◌≡◌, ℕ, ◌≤◌, List, [], ◌∷◌, ◌++◌, Option, Some, None, refl, sym, ap, subst, ◌∙◌, arith, append_assoc, append-nil}
use Rattle.std.specs.Prelude.{codes, decimal, All, IfSome, slice_get}
use Rattle.std.specs.Fmt.{digits}
use Rattle.std.proofs.lemmas.List.Elements.{All-from_recursion}
use Rattle.task_script.specs.declared.phase.Event.TheVariants as event
use Rattle.task_script.specs.script.ScriptView.{ScriptView, script_of, IsEvent, IsPhase}
use Rattle.domain_run.specs.declared.call.Call.{Call}
use Rattle.domain_run.specs.declared.call.Call.TheVariants.{Admit, Regrade, Wake, Leave, Advance, Limit, Depart, Arrive}
use Rattle.calls_text.specs.declared.section.Entry.{Entry}
use Rattle.calls_text.specs.SectionView.{SectionView}
use Rattle.calls_text.specs.Spelling.{spelling}
use Rattle.calls_text.specs.Limits.{IsCall, IsEntry, IsSection, AreRead}
use Rattle.tasks_text.specs.declared.line.Admission.{Admission}
use Rattle.tasks_text.specs.declared.task.Task.{Task}
use Rattle.tasks_text.specs.declared.fault.LineFault.{LineFault}
use Rattle.tasks_text.specs.declared.fault.LineFault.TheVariants.{Bad, Memory}
use Rattle.tasks_text.specs.Tasks.{pid_text, task_line, IsTask}
use Rattle.tasks_text.specs.private.Lines.{LacksByte, params_fields, admission_text, first_entry, admission_of, admission_at, IsAdmissible, AreFieldsOf, AreTaskFields, numbered_task, unnumbered_task, IsOwnLine, IsNoTask}
use Rattle.tasks_text.proofs.Lacking.{lacks_not, same_front, plain_lacks}
use Rattle.tasks_text.proofs.Spelled.{line_fields}

abbrev waits : ScriptView
waits = script_of (Some 1) (record { count = 1; events = event.Wait ∷ [] } ∷ [])

abbrev entry_for : Admission → Entry
entry_for a = record { client = 1; seq = 0; call = Admit 1 a.name a.params a.delay waits; reply = None }

abbrev pub one_section : Admission → List SectionView
one_section a = record { cpus = 1; limit = 1048576; entries = entry_for a ∷ [] } ∷ []

pub one_spelled : (a : Admission) → admission_text a.name (params_fields a.params) (decimal a.delay) ≡ spelling (one_section a)
unfolding digits admission_text
one_spelled a = simp (append_assoc, append-nil)

pub fields_spelled : (a : Admission) (name rest delay : List ℕ) → AreFieldsOf a name rest delay → admission_text name rest delay ≡ spelling (one_section a)
fields_spelled a name rest delay f = rw (f.name_is, f.rest_is, f.delay_is) (one_spelled a)

pub one_read : (a : Admission) → IsAdmissible a → AreRead (one_section a)
one_read a is = record {
  within = record {
    some = omega arith;
    most = omega arith;
    each = All-from_recursion IsSection (one_section a) (
      record {
        some_cpus = omega arith;
        most_cpus = omega arith;
        least_limit = omega arith;
        most_limit = omega arith;
        most_entries = omega arith;
        entries = All-from_recursion IsEntry (entry_for a ∷ []) (
          record {
            client = (omega arith, omega arith);
            call = record {
              numbered = (omega arith, omega arith);
              named = is.named;
              checked = is.checked;
              soon = is.soon;
              scripted = record {
                rounds = (omega arith, omega arith);
                some_phases = omega arith;
                most_phases = omega arith;
                phases = All-from_recursion IsPhase waits.phases (record { some = omega arith; most = omega arith; some_events = omega arith; most_events = omega arith; events = All-from_recursion IsEvent (event.Wait ∷ []) (tt, tt) }, tt);
              };
            };
          },
          tt,
        );
        numbered = (refl, tt);
      },
      tt,
    );
  };
  no_replies = All-from_recursion (λ (s : SectionView). All (λ (e : Entry). e.reply ≡ None) s.entries) (one_section a) (All-from_recursion (λ (e : Entry). e.reply ≡ None) (entry_for a ∷ []) (refl, tt), tt);
}

call_admitted : (call : Call) (a : Admission) → IsCall call → admission_of call ≡ Some a → IsAdmissible a
call_admitted (Admit number name params delay script) a is e =
    let same : record { name = name; params = params; delay = delay } ≡ a = cc in
    subst IsAdmissible same (record { named = is.named; checked = is.checked; soon = is.soon })
call_admitted (Regrade number params word) a is e = absurd cc
call_admitted (Wake number) a is e = absurd cc
call_admitted (Leave number) a is e = absurd cc
call_admitted (Advance ticks) a is e = absurd cc
call_admitted (Limit limit word) a is e = absurd cc
call_admitted (Depart number) a is e = absurd cc
call_admitted (Arrive number name params script) a is e = absurd cc

entry_admitted : (entries : List Entry) (a : Admission) → All IsEntry entries → admission_at (slice_get entries 0) ≡ Some a → IsAdmissible a
entry_admitted [] a is e = absurd cc
entry_admitted (x ∷ entries) a is e = call_admitted x.call a (is 0 x (omega arith)).call e

pub is_admitted : (sections : List SectionView) (a : Admission) → AreRead sections → admission_at (first_entry sections) ≡ Some a → IsAdmissible a
is_admitted [] a are e = absurd cc
is_admitted (s ∷ sections) a are e = entry_admitted s.entries a (are.within.each 0 s (omega arith)).entries e

-- ---- the task of an admission

abbrev pub admission_for : Task → ℕ → Admission
admission_for t delay = record { name = t.name; params = t.params; delay = delay }

-- the fields of the line of a task are those of an admission
pub record IsAdmittedAs (t : Task) (name rest delay : List ℕ) (n : ℕ) : Type 0 where
  pub within : IsAdmissible (admission_for t n)
  pub fields : AreFieldsOf (admission_for t n) name rest delay

numbered_by : (t : Task) (own : Option ℕ) (first rest name pid : List ℕ) → t.pid ≡ own → IsTask t → AreTaskFields t first rest → LacksByte 61 name → first ≡ name ++ 61 ∷ pid → (n : ℕ) × (t.pid ≡ Some n) × IsAdmittedAs t name rest pid n
numbered_by t None first rest name pid same is fields lacks cut =
    let plain : first ≡ t.name = fields.first_is ∙ ap (λ (p : Option ℕ). t.name ++ pid_text p) same ∙ append-nil t.name in
    absurd (lacks_not 61 name pid (subst (LacksByte 61) (sym plain ∙ cut) (plain_lacks 61 t.name is.plain)))
numbered_by t (Some n) first rest name pid same is fields lacks cut =
    let whole : name ++ 61 ∷ pid ≡ t.name ++ 61 ∷ decimal n = sym cut ∙ fields.first_is ∙ ap (λ (p : Option ℕ). t.name ++ pid_text p) same in
    let both = same_front 61 name t.name pid (decimal n) lacks (plain_lacks 61 t.name is.plain) whole in
    let soon : n ≤ 1000000000 = subst (λ (p : Option ℕ). IfSome p (λ m. m ≤ 1000000000)) same is.numbered in
    (n, same, record { within = record { named = is.named; checked = is.checked; soon = soon }; fields = record { name_is = both.0; rest_is = fields.rest_is; delay_is = both.1 } })

pub numbered_as : (t : Task) (first rest name pid : List ℕ) → IsTask t → AreTaskFields t first rest → LacksByte 61 name → first ≡ name ++ 61 ∷ pid → (n : ℕ) × (t.pid ≡ Some n) × IsAdmittedAs t name rest pid n
numbered_as t first rest name pid is fields lacks cut = numbered_by t t.pid first rest name pid refl is fields lacks cut

zero_spelled : codes "0" ≡ decimal 0
unfolding digits
zero_spelled = refl

unnumbered_by : (t : Task) (own : Option ℕ) (first rest : List ℕ) → t.pid ≡ own → IsTask t → AreTaskFields t first rest → LacksByte 61 first → (t.pid ≡ None) × IsAdmittedAs t first rest (codes "0") 0
unnumbered_by t None first rest same is fields lacks =
    (same, record { within = record { named = is.named; checked = is.checked; soon = omega arith }; fields = record { name_is = fields.first_is ∙ ap (λ (p : Option ℕ). t.name ++ pid_text p) same ∙ append-nil t.name; rest_is = fields.rest_is; delay_is = zero_spelled } })
unnumbered_by t (Some n) first rest same is fields lacks =
    let whole : first ≡ t.name ++ 61 ∷ decimal n = fields.first_is ∙ ap (λ (p : Option ℕ). t.name ++ pid_text p) same in
    absurd (lacks_not 61 t.name (decimal n) (subst (LacksByte 61) whole lacks))

pub unnumbered_as : (t : Task) (first rest : List ℕ) → IsTask t → AreTaskFields t first rest → LacksByte 61 first → (t.pid ≡ None) × IsAdmittedAs t first rest (codes "0") 0
unnumbered_as t first rest is fields lacks = unnumbered_by t t.pid first rest refl is fields lacks

pub numbered_again : (t : Task) (n : ℕ) (b : Admission) → t.pid ≡ Some n → b ≡ admission_for t n → numbered_task b ≡ t
numbered_again t n b pid same = ap numbered_task same ∙ ap (λ (p : Option ℕ). record { name = t.name; pid = p; params = t.params }) (sym pid)

pub unnumbered_again : (t : Task) (n : ℕ) (b : Admission) → t.pid ≡ None → b ≡ admission_for t n → unnumbered_task b ≡ t
unnumbered_again t n b pid same = ap unnumbered_task same ∙ ap (λ (p : Option ℕ). record { name = t.name; pid = p; params = t.params }) (sym pid)

-- ---- the fault of a line

pub fault_by : (e : LineFault) (line first rest : List ℕ) → LacksByte 32 first → line ≡ first ++ 32 ∷ rest → ((t : Task) → IsTask t → AreTaskFields t first rest → e ≡ Memory) → IsNoTask line e
fault_by Bad line first rest lacks parts only = λ t is same.
    let e : Bad ≡ Memory = only t is (line_fields t first rest is lacks (sym parts ∙ same)) in
    absurd cc
fault_by Memory line first rest lacks parts only = tt

pub not_own : (u : Task) (line first rest : List ℕ) → LacksByte 32 first → line ≡ first ++ 32 ∷ rest → ((t : Task) → IsTask t → AreTaskFields t first rest → u ≡ t) → (IsOwnLine u line → ⊥) → (t : Task) → IsTask t → line ≡ task_line t → ⊥
not_own u line first rest lacks parts only none t is same =
    let again : u ≡ t = only t is (line_fields t first rest is lacks (sym parts ∙ same)) in
    none (subst (λ (v : Task). IsOwnLine v line) (sym again) (record { plain = is.plain; line_is = same }))
