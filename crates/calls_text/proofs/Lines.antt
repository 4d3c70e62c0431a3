-- A line that is read is spelled so, and a line that is spelled is read.
use Rattle.std.proofs.Common.{◌≡◌, ℕ, suc, ◌≤◌, ◌<◌, ◌^◌, Bool, true, false, not, ◌&&◌, cond, leb, eqb, List, [], ◌∷◌, ◌++◌, length, All, Option, Some, None, refl, sym, ap, subst, ◌∙◌, append_assoc, arith}
use Rattle.std.specs.Prelude.{decimal, codes, IfSome}
use Rattle.std.specs.Option.{option_map_or}
use Rattle.std.specs.List.{list_all}
use Rattle.std.specs.Str.{bytes_eq}
use Rattle.std.proofs.lemmas.Bool.{and_parts, leb-true, eqb-false, ne_eqb}
use Rattle.std.proofs.lemmas.Option.{same_Some, cond_some}
use Rattle.std.proofs.lemmas.Slice.Eq.{bytes_eq-Decides}
use Rattle.attr_check.specs.ParamsView.{ParamsView}
use Rattle.task_script.specs.NameView.{IsName}
use Rattle.task_script.specs.script.ScriptView.{ScriptView, IsScript}
use Rattle.domain_run.specs.declared.call.Call.{Call}
use Rattle.domain_run.specs.declared.call.Call.TheVariants.{Admit, Regrade, Wake, Leave, Advance, Limit, Depart, Arrive}
use Rattle.calls_text.specs.declared.fault.PartFault.{PartFault}
use Rattle.calls_text.specs.declared.fault.PartFault.TheVariants.{Bad, Memory}
use Rattle.calls_text.specs.declared.times.Times.{Times}
use Rattle.calls_text.specs.declared.line_text.Newcomer.{Newcomer}
use Rattle.calls_text.specs.declared.line_text.Word.{Word}
use Rattle.calls_text.specs.declared.line_text.Word.TheVariants as word
use Rattle.calls_text.specs.Spelling.{line_of, call_fields, flag_text, script_text, is_later}
use Rattle.calls_text.specs.Limits.{IsClient, IsTaskNumber, IsChecked, IsAdmission, IsCall}
use Rattle.calls_text.specs.ReadSoFar.{KnowsLater}
use Rattle.calls_text.specs.private.Reading.{◌>>=◌, PartFails, cut_at, number_within_at, IsFirstNumber, field_at, times_at, flag_at, flagged_at, params_at, name_at, script_at, plan_at, newcomer_at, admit_at, arrive_at, seen_at, answer, answer_at, regrade_at, numbered_at, change, change_at, limit_at, word_spelled, front_of, worded_at, called_at, call_at, known_at, domain_at}
use Rattle.calls_text.proofs.Cuts.{Lacks, Lacks-append, Lacks-written, cut_takes, cut_none, cut_again}
use Rattle.calls_text.proofs.Numbers.{bind_some, within_takes, within_again, decimal_lacks, none_by}
use Rattle.calls_text.proofs.Names.{name_yes, name_takes}
use Rattle.calls_text.proofs.Attributes.{times_of, params_take, AreSmall, params_again, flag_word, flag_takes, flag_again, flag_lacks}
use Rattle.calls_text.proofs.Scripts.{script_takes, script_again, script_lacks}

-- ---- fields

abbrev paired : {A B : Type 0} → A → B → Option (A × B)
paired a b = Some (a, b)

-- what was read of a field, and what follows the space after it
pub record TookField (least most : ℕ) (text : List ℕ) (n : ℕ) (rest : List ℕ) : Type 0 where
  pub text_is : text ≡ decimal n ++ 32 ∷ rest
  pub low : least ≤ n
  pub high : n ≤ most

pub field_takes : (least most : ℕ) (text : List ℕ) (f : ℕ × List ℕ) → field_at least most text ≡ Some f → TookField least most text f.0 f.1
unfolding field_at
field_takes least most text f h =
    let a = bind_some (cut_at 32 text) (λ p. number_within_at least most p.0 >>= λ n. paired n p.1) f h in
    let b = bind_some (number_within_at least most a.0.0) (λ n. paired n a.0.1) f a.2 in
    let w = within_takes least most a.0.0 b.0 b.1 in
    let made : ℕ × List ℕ = (b.0, a.0.1) in
    subst (λ (q : ℕ × List ℕ). TookField least most text q.0 q.1) (same_Some made f b.2)
    (record { text_is = cut_takes 32 text a.0 a.1 ∙ ap (λ (x : List ℕ). x ++ 32 ∷ a.0.1) w.0; low = w.1; high = w.2 })

pub field_again : (least most n : ℕ) (rest : List ℕ) → least ≤ n → n ≤ most → most < 10000000000000000000 → field_at least most (decimal n ++ 32 ∷ rest) ≡ paired n rest
unfolding field_at
field_again least most n rest low high small = rw (cut_again 32 (decimal n) rest (decimal_lacks 32 n refl (omega arith)), within_again least most n low high small) refl

-- a number and a space at the front are a field
pub field_front : (least most : ℕ) (text : List ℕ) (n : ℕ) (after rest : List ℕ) → most < 1000000000000000000 → after ≡ 32 ∷ rest → IsFirstNumber least most text n after → field_at least most text ≡ paired n rest
field_front least most text n after rest small e is =
    ap (field_at least most) (is.text_is ∙ ap (λ (xs : List ℕ). decimal n ++ xs) e) ∙ field_again least most n rest is.low is.high (omega arith)

-- a field that is read is a number at the front, and a space after it
pub front_field : (least most : ℕ) (text : List ℕ) (f : ℕ × List ℕ) → field_at least most text ≡ Some f → IsFirstNumber least most text f.0 (32 ∷ f.1)
front_field least most text f h = let t = field_takes least most text f h in record { text_is = t.text_is; low = t.low; high = t.high }

pub bad_field : (least most : ℕ) (text : List ℕ) (fault : PartFault) → ((n : ℕ) (rest : List ℕ) → IsFirstNumber least most text n (32 ∷ rest) → ⊥) → PartFails fault (field_at least most text)
bad_field least most text Memory none = tt
bad_field least most text Bad none = none_by (field_at least most text) (λ f h. none f.0 f.1 (front_field least most text f h))

-- ---- the flag and the space after it

pub flagged_takes : (text : List ℕ) (f : Bool × List ℕ) → flagged_at text ≡ Some f → text ≡ flag_word f.0 ++ 32 ∷ f.1
unfolding flagged_at
flagged_takes text f h =
    let a = bind_some (cut_at 32 text) (λ p. flag_at p.0 >>= λ reclaim. paired reclaim p.1) f h in
    let b = bind_some (flag_at a.0.0) (λ reclaim. paired reclaim a.0.1) f a.2 in
    let made : Bool × List ℕ = (b.0, a.0.1) in
    subst (λ (q : Bool × List ℕ). text ≡ flag_word q.0 ++ 32 ∷ q.1) (same_Some made f b.2)
    (cut_takes 32 text a.0 a.1 ∙ ap (λ (x : List ℕ). x ++ 32 ∷ a.0.1) (flag_takes a.0.0 b.0 b.1))

pub flagged_again : (reclaim : Bool) (rest : List ℕ) → flagged_at (flag_word reclaim ++ 32 ∷ rest) ≡ paired reclaim rest
unfolding flagged_at
flagged_again reclaim rest = rw (cut_again 32 (flag_word reclaim) rest (flag_lacks 32 reclaim refl refl), flag_again reclaim) refl

no_flag : (text : List ℕ) (reclaim : Bool) (rest : List ℕ) → ((r : List ℕ) → text ≡ codes "R " ++ r → ⊥) → ((r : List ℕ) → text ≡ codes "- " ++ r → ⊥) → text ≡ flag_word reclaim ++ 32 ∷ rest → ⊥
no_flag text true rest r dash e = r rest e
no_flag text false rest r dash e = dash rest e

pub flagged_none : (text : List ℕ) → ((r : List ℕ) → text ≡ codes "R " ++ r → ⊥) → ((r : List ℕ) → text ≡ codes "- " ++ r → ⊥) → flagged_at text ≡ None
flagged_none text r dash = none_by (flagged_at text) (λ f h. no_flag text f.0 f.1 r dash (flagged_takes text f h))

after : (front : List ℕ) {a b : List ℕ} → a ≡ b → front ++ 32 ∷ a ≡ front ++ 32 ∷ b
after front e = ap (λ (r : List ℕ). front ++ 32 ∷ r) e

abbrev times_from : ℕ → ℕ → ℕ → Times
times_from q d p = record { runtime = q; deadline = d; period = p }

abbrev made_times : ℕ → ℕ → ℕ → List ℕ → Option (Times × List ℕ)
made_times q d p rest = Some (times_from q d p, rest)

abbrev times_text : Times → List ℕ → List ℕ
times_text t rest = decimal t.runtime ++ (32 ∷ (decimal t.deadline ++ (32 ∷ (decimal t.period ++ (32 ∷ rest)))))

pub times_take : (text : List ℕ) (f : Times × List ℕ) → times_at text ≡ Some f → (text ≡ times_text f.0 f.1) × AreSmall f.0
unfolding times_at
times_take text f h =
    let a = bind_some (field_at 1 4294967296 text) (λ q. field_at 1 4294967296 q.1 >>= λ d. field_at 1 4294967296 d.1 >>= λ p. made_times q.0 d.0 p.0 p.1) f h in
    let b = bind_some (field_at 1 4294967296 a.0.1) (λ d. field_at 1 4294967296 d.1 >>= λ p. made_times a.0.0 d.0 p.0 p.1) f a.2 in
    let c = bind_some (field_at 1 4294967296 b.0.1) (λ p. made_times a.0.0 b.0.0 p.0 p.1) f b.2 in
    let q = field_takes 1 4294967296 text a.0 a.1 in
    let d = field_takes 1 4294967296 a.0.1 b.0 b.1 in
    let p = field_takes 1 4294967296 b.0.1 c.0 c.1 in
    let made : Times × List ℕ = (times_from a.0.0 b.0.0 c.0.0, c.0.1) in
    let whole : text ≡ times_text (times_from a.0.0 b.0.0 c.0.0) c.0.1 = q.text_is ∙ after (decimal a.0.0) (d.text_is ∙ after (decimal b.0.0) p.text_is) in
    subst (λ (x : Times × List ℕ). (text ≡ times_text x.0 x.1) × AreSmall x.0) (same_Some made f c.2)
    (whole, record { runtime = (q.low, q.high); deadline = (d.low, d.high); period = (p.low, p.high) })

pub times_again : (t : Times) (rest : List ℕ) → AreSmall t → times_at (times_text t rest) ≡ paired t rest
unfolding times_at
times_again t rest s =
    rw (
      field_again 1 4294967296 t.runtime (decimal t.deadline ++ (32 ∷ (decimal t.period ++ (32 ∷ rest)))) s.runtime.0 s.runtime.1 (omega arith),
      field_again 1 4294967296 t.deadline (decimal t.period ++ (32 ∷ rest)) s.deadline.0 s.deadline.1 (omega arith),
      field_again 1 4294967296 t.period rest s.period.0 s.period.1 (omega arith),
    ) refl

-- ---- the delay and the script

abbrev made_plan : ℕ → ScriptView → Option (ℕ × ScriptView)
made_plan delay script = Some (delay, script)

abbrev plan_text : ℕ → ScriptView → List ℕ
plan_text delay script = decimal delay ++ (32 ∷ script_text script)

record TookPlan (text : List ℕ) (delay : ℕ) (script : ScriptView) : Type 0 where
  text_is : text ≡ plan_text delay script
  soon : delay ≤ 1000000000
  scripted : IsScript script

plan_takes : (text : List ℕ) (plan : ℕ × ScriptView) → plan_at text ≡ Some plan → TookPlan text plan.0 plan.1
unfolding plan_at
plan_takes text plan h =
    let a = bind_some (field_at 0 1000000000 text) (λ delay. script_at delay.1 >>= λ script. made_plan delay.0 script) plan h in
    let b = bind_some (script_at a.0.1) (λ script. made_plan a.0.0 script) plan a.2 in
    let delay = field_takes 0 1000000000 text a.0 a.1 in
    let script = script_takes a.0.1 b.0 b.1 in
    let made : ℕ × ScriptView = (a.0.0, b.0) in
    subst (λ (x : ℕ × ScriptView). TookPlan text x.0 x.1) (same_Some made plan b.2)
    (record { text_is = delay.text_is ∙ after (decimal a.0.0) script.1; soon = delay.high; scripted = script.0 })

plan_again : (delay : ℕ) (script : ScriptView) → delay ≤ 1000000000 → IsScript script → plan_at (plan_text delay script) ≡ paired delay script
unfolding plan_at
plan_again delay script soon is = rw (field_again 0 1000000000 delay (script_text script) (omega arith) soon (omega arith), script_again script is) refl

-- ---- what follows the client in a call that is read

abbrev newcomer_text : ℕ → List ℕ → ParamsView → List ℕ → List ℕ
newcomer_text number name params rest = decimal number ++ (32 ∷ (name ++ (32 ∷ times_text (times_of params) (flag_text params ++ (32 ∷ rest)))))

abbrev admit_text : ℕ → List ℕ → ParamsView → ℕ → ScriptView → List ℕ
admit_text number name params delay script = newcomer_text number name params (plan_text delay script)

abbrev arrive_text : ℕ → List ℕ → ParamsView → ScriptView → List ℕ
arrive_text number name params script = newcomer_text number name params (script_text script)

abbrev seen_text : ℕ → List ℕ
seen_text seen = codes "busy" ++ (32 ∷ decimal seen)

abbrev answer_text : ParamsView → Option ℕ → List ℕ
answer_text params None = flag_text params
answer_text params (Some seen) = flag_text params ++ (32 ∷ seen_text seen)

abbrev regrade_text : ℕ → ParamsView → Option ℕ → List ℕ
regrade_text number params word = decimal number ++ (32 ∷ times_text (times_of params) (answer_text params word))

abbrev change_text : ℕ → Option ℕ → List ℕ
change_text limit None = decimal limit
change_text limit (Some seen) = decimal limit ++ (32 ∷ seen_text seen)

abbrev call_text : Call → List ℕ
call_text (Admit number name params delay script) = admit_text number name params delay script
call_text (Regrade number params word) = regrade_text number params word
call_text (Wake number) = decimal number
call_text (Leave number) = decimal number
call_text (Advance ticks) = decimal ticks
call_text (Limit limit word) = change_text limit word
call_text (Depart number) = decimal number
call_text (Arrive number name params script) = arrive_text number name params script

abbrev word_text : Call → List ℕ
word_text (Admit number name params delay script) = codes "admit"
word_text (Regrade number params word) = codes "regrade"
word_text (Wake number) = codes "wake"
word_text (Leave number) = codes "leave"
word_text (Advance ticks) = codes "advance"
word_text (Limit limit word) = codes "limit"
word_text (Depart number) = codes "depart"
word_text (Arrive number name params script) = codes "arrive"

-- what was read of a call
pub record TookCall (word text : List ℕ) (call : Call) : Type 0 where
  is_read : IsCall call
  text_is : text ≡ call_text call
  word_is : word ≡ word_text call

-- ---- tasks that come

abbrev newcomer : ℕ → List ℕ → ParamsView → Newcomer
newcomer number name params = record { number = number; name = name; params = params }

abbrev made_newcomer : ℕ → List ℕ → ParamsView → List ℕ → Option (Newcomer × List ℕ)
made_newcomer number name params rest = Some (newcomer number name params, rest)

record NewcomerParts (text : List ℕ) (new : Newcomer × List ℕ) : Type 0 where
  number : ℕ × List ℕ
  name : List ℕ × List ℕ
  named : List ℕ
  times : Times × List ℕ
  flag : Bool × List ℕ
  params : ParamsView
  number_is : field_at 1 65535 text ≡ Some number
  name_is : cut_at 32 number.1 ≡ Some name
  named_is : name_at name.0 ≡ Some named
  times_is : times_at name.1 ≡ Some times
  flag_is : flagged_at times.1 ≡ Some flag
  params_is : params_at times.0 flag.0 ≡ Some params
  new_is : made_newcomer number.0 named params flag.1 ≡ Some new

-- what follows the name
abbrev timed : ℕ → List ℕ → List ℕ → Option (Newcomer × List ℕ)
timed number named text = times_at text >>= λ times. flagged_at times.1 >>= λ flag. params_at times.0 flag.0 >>= λ params. made_newcomer number named params flag.1

newcomer_parts : (text : List ℕ) (new : Newcomer × List ℕ) → newcomer_at text ≡ Some new → NewcomerParts text new
unfolding newcomer_at
newcomer_parts text new h =
    let a = bind_some (field_at 1 65535 text) (λ number. cut_at 32 number.1 >>= λ name. name_at name.0 >>= λ named. timed number.0 named name.1) new h in
    let b = bind_some (cut_at 32 a.0.1) (λ name. name_at name.0 >>= λ named. timed a.0.0 named name.1) new a.2 in
    let c = bind_some (name_at b.0.0) (λ named. timed a.0.0 named b.0.1) new b.2 in
    let d = bind_some (times_at b.0.1) (λ times. flagged_at times.1 >>= λ flag. params_at times.0 flag.0 >>= λ params. made_newcomer a.0.0 c.0 params flag.1) new c.2 in
    let e = bind_some (flagged_at d.0.1) (λ flag. params_at d.0.0 flag.0 >>= λ params. made_newcomer a.0.0 c.0 params flag.1) new d.2 in
    let f = bind_some (params_at d.0.0 e.0.0) (λ params. made_newcomer a.0.0 c.0 params e.0.1) new e.2 in
    record { number = a.0; name = b.0; named = c.0; times = d.0; flag = e.0; params = f.0; number_is = a.1; name_is = b.1; named_is = c.1; times_is = d.1; flag_is = e.1; params_is = f.1; new_is = f.2 }

three_more : (text numbered after_number name named after_name timed_text : List ℕ) → text ≡ numbered ++ 32 ∷ after_number → after_number ≡ name ++ 32 ∷ after_name → name ≡ named → after_name ≡ timed_text
    → text ≡ numbered ++ (32 ∷ (named ++ (32 ∷ timed_text)))
three_more text numbered after_number name named after_name timed_text e1 e2 e3 e4 = e1 ∙ after numbered (e2 ∙ ap (λ (x : List ℕ). x ++ 32 ∷ after_name) e3 ∙ after named e4)

-- the text of a flag is that of the parameters that have it
flag_of : (text : List ℕ) (reclaim : Bool) (p : ParamsView) → flag_at text ≡ Some reclaim → p.reclaim ≡ reclaim → text ≡ flag_text p
flag_of text reclaim p h e = flag_takes text reclaim h ∙ ap flag_word (sym e)

flagged_is : (text : List ℕ) (f : Bool × List ℕ) (p : ParamsView) → flagged_at text ≡ Some f → p.reclaim ≡ f.0 → text ≡ flag_text p ++ (32 ∷ f.1)
flagged_is text f p h e = flagged_takes text f h ∙ ap (λ (reclaim : Bool). flag_word reclaim ++ (32 ∷ f.1)) (sym e)

timed_is : (text : List ℕ) (t u : Times) (rest written : List ℕ) → text ≡ times_text t rest → u ≡ t → rest ≡ written → text ≡ times_text u written
timed_is text t u rest written e1 e2 e3 = e1 ∙ ap (λ (x : Times). times_text x rest) (sym e2) ∙ ap (times_text u) e3

name_lacks : (c : ℕ) (text : List ℕ) → c < 33 → All (λ b. (33 ≤ b) × (b ≤ 126)) text → Lacks c text
name_lacks c [] low h = tt
name_lacks c (x ∷ xs) low h = ((λ same. omega (arith, same, h 0 0 (omega arith))), name_lacks c xs low (λ k d lt. h (suc k) d (omega arith)))

-- what was read of a task that comes
record TookNewcomer (text : List ℕ) (new : Newcomer) (rest : List ℕ) : Type 0 where
  text_is : text ≡ newcomer_text new.number new.name new.params rest
  numbered : IsTaskNumber new.number
  named : IsName new.name
  checked : IsChecked new.params

took_newcomer : (text : List ℕ) (new : Newcomer × List ℕ) → NewcomerParts text new → TookNewcomer text new.0 new.1
took_newcomer text new p =
    let number = field_takes 1 65535 text p.number p.number_is in
    let name = name_takes p.name.0 p.named p.named_is in
    let times = times_take p.name.1 p.times p.times_is in
    let params = params_take p.times.0 p.flag.0 p.params (omega (arith, times.1.period.0)) p.params_is in
    let flagged = flagged_is p.times.1 p.flag p.params p.flag_is params.flag in
    let timed_text = timed_is p.name.1 p.times.0 (times_of p.params) p.times.1 (flag_text p.params ++ (32 ∷ p.flag.1)) times.0 params.times flagged in
    let whole = three_more text (decimal p.number.0) p.number.1 p.name.0 p.named p.name.1 (times_text (times_of p.params) (flag_text p.params ++ (32 ∷ p.flag.1))) number.text_is (cut_takes 32 p.number.1 p.name p.name_is) name.0 timed_text in
    let made : Newcomer × List ℕ = (newcomer p.number.0 p.named p.params, p.flag.1) in
    subst (λ (x : Newcomer × List ℕ). TookNewcomer text x.0 x.1) (same_Some made new p.new_is)
    (record { text_is = whole; numbered = (omega (arith, number.low), number.high); named = subst IsName name.0 name.1; checked = params.checked })

newcomer_takes : (text : List ℕ) (new : Newcomer × List ℕ) → newcomer_at text ≡ Some new → TookNewcomer text new.0 new.1
newcomer_takes text new h = took_newcomer text new (newcomer_parts text new h)

newcomer_again : (number : ℕ) (name : List ℕ) (params : ParamsView) (rest : List ℕ) → IsTaskNumber number → IsName name → IsChecked params → newcomer_at (newcomer_text number name params rest) ≡ made_newcomer number name params rest
unfolding newcomer_at
newcomer_again number name params rest numbered named checked =
    let flagged = flag_text params ++ (32 ∷ rest) in
    let timed_text = times_text (times_of params) flagged in
    let again = params_again params checked in
    rw (
      field_again 1 65535 number (name ++ (32 ∷ timed_text)) (omega (arith, numbered.0)) numbered.1 (omega arith),
      cut_again 32 name timed_text (name_lacks 32 name (omega arith) named.bytes),
      name_yes name named,
      times_again (times_of params) flagged again.1,
      flagged_again params.reclaim rest,
      again.0,
    ) refl

-- ---- admissions

abbrev made_admit : Newcomer → ℕ × ScriptView → Option Call
made_admit new plan = Some (Admit new.number new.name new.params plan.0 plan.1)

admit_takes : (text : List ℕ) (call : Call) → admit_at text ≡ Some call → TookCall (codes "admit") text call
unfolding admit_at
admit_takes text call h =
    let a = bind_some (newcomer_at text) (λ new. plan_at new.1 >>= λ plan. made_admit new.0 plan) call h in
    let b = bind_some (plan_at a.0.1) (λ plan. made_admit a.0.0 plan) call a.2 in
    let new = newcomer_takes text a.0 a.1 in
    let plan = plan_takes a.0.1 b.0 b.1 in
    subst (TookCall (codes "admit") text) (same_Some (Admit a.0.0.number a.0.0.name a.0.0.params b.0.0 b.0.1) call b.2)
    (record { is_read = record { numbered = new.numbered; named = new.named; checked = new.checked; soon = plan.soon; scripted = plan.scripted }; text_is = new.text_is ∙ ap (newcomer_text a.0.0.number a.0.0.name a.0.0.params) plan.text_is; word_is = refl })

admit_again : (number : ℕ) (name : List ℕ) (params : ParamsView) (delay : ℕ) (script : ScriptView) → IsAdmission number name params delay script
    → admit_at (admit_text number name params delay script) ≡ Some (Admit number name params delay script)
unfolding admit_at
admit_again number name params delay script is =
    rw (newcomer_again number name params (plan_text delay script) is.numbered is.named is.checked, plan_again delay script is.soon is.scripted) refl

-- ---- arrivals

abbrev made_arrival : Newcomer → ScriptView → Option Call
made_arrival new script = Some (Arrive new.number new.name new.params script)

arrive_takes : (text : List ℕ) (call : Call) → arrive_at text ≡ Some call → TookCall (codes "arrive") text call
unfolding arrive_at
arrive_takes text call h =
    let a = bind_some (newcomer_at text) (λ new. script_at new.1 >>= λ script. made_arrival new.0 script) call h in
    let b = bind_some (script_at a.0.1) (λ script. made_arrival a.0.0 script) call a.2 in
    let new = newcomer_takes text a.0 a.1 in
    let script = script_takes a.0.1 b.0 b.1 in
    subst (TookCall (codes "arrive") text) (same_Some (Arrive a.0.0.number a.0.0.name a.0.0.params b.0) call b.2)
    (record { is_read = record { numbered = new.numbered; named = new.named; checked = new.checked; soon = omega arith; scripted = script.0 }; text_is = new.text_is ∙ ap (newcomer_text a.0.0.number a.0.0.name a.0.0.params) script.1; word_is = refl })

arrive_again : (number : ℕ) (name : List ℕ) (params : ParamsView) (script : ScriptView) → IsAdmission number name params 0 script
    → arrive_at (arrive_text number name params script) ≡ Some (Arrive number name params script)
unfolding arrive_at
arrive_again number name params script is =
    rw (newcomer_again number name params (script_text script) is.numbered is.named is.checked, script_again script is.scripted) refl

-- ---- regrades

-- what was read after the flag of a regrade that the bandwidth word refused
seen_takes : (text : List ℕ) (seen : ℕ) → seen_at text ≡ Some seen → (text ≡ seen_text seen) × (seen ≤ 67108864)
unfolding seen_at
seen_takes text seen h =
    let a = bind_some (cut_at 32 text) (λ p. number_within_at 0 67108864 p.1 >>= λ n. cond (bytes_eq p.0 (codes "busy")) (Some n) None) seen h in
    let b = bind_some (number_within_at 0 67108864 a.0.1) (λ n. cond (bytes_eq a.0.0 (codes "busy")) (Some n) None) seen a.2 in
    let w = within_takes 0 67108864 a.0.1 b.0 b.1 in
    let last = cond_some (bytes_eq a.0.0 (codes "busy")) b.0 seen b.2 in
    let word : a.0.0 ≡ codes "busy" = (bytes_eq-Decides a.0.0 (codes "busy")).0 last.0 in
    (cut_takes 32 text a.0 a.1 ∙ ap (λ (x : List ℕ). x ++ 32 ∷ a.0.1) word ∙ after (codes "busy") (w.0 ∙ ap decimal last.1), omega (arith, w.2, last.1))

seen_again : (seen : ℕ) → seen ≤ 67108864 → seen_at (seen_text seen) ≡ Some seen
unfolding seen_at
seen_again seen high = rw (cut_again 32 (codes "busy") (decimal seen) (Lacks-written 32 (codes "busy") refl), within_again 0 67108864 seen (omega arith) high (omega arith)) refl

bind_same : {A : Type 0} (o : Option A) → (o >>= λ x. Some x) ≡ o
bind_same None = refl
bind_same (Some x) = refl

pub seen_later : (text rest : List ℕ) → text ≡ codes "busy " ++ rest → seen_at text ≡ number_within_at 0 67108864 rest
unfolding seen_at
seen_later text rest e =
    let cut : cut_at 32 text ≡ Some (codes "busy", rest) = ap (cut_at 32) e ∙ cut_again 32 (codes "busy") rest (Lacks-written 32 (codes "busy") refl) in
    rw cut (bind_same (number_within_at 0 67108864 rest))

pub seen_none : (text : List ℕ) → ((rest : List ℕ) → text ≡ codes "busy " ++ rest → ⊥) → seen_at text ≡ None
seen_none text none = none_by (seen_at text) (λ seen h. none (decimal seen) (seen_takes text seen h).0)

-- what was read after the times of a regrade
record TookAnswer (text : List ℕ) (reclaim : Bool) (word : Option ℕ) : Type 0 where
  text_is : (p : ParamsView) → p.reclaim ≡ reclaim → text ≡ answer_text p word
  high : IfSome word (λ seen. seen ≤ 2 ^ 26)

answer_by : (text : List ℕ) (a : Bool × Option ℕ) (one : Bool)
    → cond one (flag_at text >>= λ reclaim. answer reclaim None) (flagged_at text >>= λ flag. seen_at flag.1 >>= λ seen. answer flag.0 (Some seen)) ≡ Some a
    → TookAnswer text a.0 a.1
answer_by text a true h =
    let b = bind_some (flag_at text) (λ reclaim. answer reclaim None) a h in
    subst (λ (q : Bool × Option ℕ). TookAnswer text q.0 q.1) (same_Some (b.0, None) a b.2) (record { text_is = λ p e. flag_of text b.0 p b.1 e; high = tt })
answer_by text a false h =
    let b = bind_some (flagged_at text) (λ flag. seen_at flag.1 >>= λ seen. answer flag.0 (Some seen)) a h in
    let c = bind_some (seen_at b.0.1) (λ seen. answer b.0.0 (Some seen)) a b.2 in
    let t = seen_takes b.0.1 c.0 c.1 in
    subst (λ (q : Bool × Option ℕ). TookAnswer text q.0 q.1) (same_Some (b.0.0, Some c.0) a c.2)
    (record { text_is = λ q e. flagged_is text b.0 q b.1 e ∙ after (flag_text q) t.0; high = t.1 })

answer_takes : (text : List ℕ) (a : Bool × Option ℕ) → answer_at text ≡ Some a → TookAnswer text a.0 a.1
unfolding answer_at
answer_takes text a h = answer_by text a (eqb (length text) 1) h

-- a flag is one byte
flag_alone : (reclaim : Bool) → eqb (length (flag_word reclaim)) 1 ≡ true
flag_alone true = refl
flag_alone false = refl

flag_more : (reclaim : Bool) (rest : List ℕ) → eqb (length (flag_word reclaim ++ (32 ∷ rest))) 1 ≡ false
flag_more true rest = ne_eqb _ _ (λ e. omega (arith, e))
flag_more false rest = ne_eqb _ _ (λ e. omega (arith, e))

answer_again : (params : ParamsView) (word : Option ℕ) → IfSome word (λ seen. seen ≤ 2 ^ 26) → answer_at (answer_text params word) ≡ answer params.reclaim word
unfolding answer_at
answer_again params None high = rw (flag_alone params.reclaim, flag_again params.reclaim) refl
answer_again params (Some seen) high = rw (flag_more params.reclaim (seen_text seen), flagged_again params.reclaim (seen_text seen), seen_again seen high) refl

abbrev made_regrade : ℕ → ParamsView → Option ℕ → Option Call
made_regrade number params word = Some (Regrade number params word)

regrade_takes : (text : List ℕ) (call : Call) → regrade_at text ≡ Some call → TookCall (codes "regrade") text call
unfolding regrade_at
regrade_takes text call h =
    let a = bind_some (field_at 1 65535 text) (λ number. times_at number.1 >>= λ times. answer_at times.1 >>= λ last. params_at times.0 last.0 >>= λ params. made_regrade number.0 params last.1) call h in
    let b = bind_some (times_at a.0.1) (λ times. answer_at times.1 >>= λ last. params_at times.0 last.0 >>= λ params. made_regrade a.0.0 params last.1) call a.2 in
    let c = bind_some (answer_at b.0.1) (λ last. params_at b.0.0 last.0 >>= λ params. made_regrade a.0.0 params last.1) call b.2 in
    let d = bind_some (params_at b.0.0 c.0.0) (λ params. made_regrade a.0.0 params c.0.1) call c.2 in
    let number = field_takes 1 65535 text a.0 a.1 in
    let times = times_take a.0.1 b.0 b.1 in
    let params = params_take b.0.0 c.0.0 d.0 (omega (arith, times.1.period.0)) d.1 in
    let last = answer_takes b.0.1 c.0 c.1 in
    let timed_text = timed_is a.0.1 b.0.0 (times_of d.0) b.0.1 (answer_text d.0 c.0.1) times.0 params.times (last.text_is d.0 params.flag) in
    subst (TookCall (codes "regrade") text) (same_Some (Regrade a.0.0 d.0 c.0.1) call d.2)
    (record { is_read = ((omega (arith, number.low), number.high), params.checked, last.high); text_is = number.text_is ∙ after (decimal a.0.0) timed_text; word_is = refl })

regrade_again : (number : ℕ) (params : ParamsView) (word : Option ℕ) → IsCall (Regrade number params word) → regrade_at (regrade_text number params word) ≡ made_regrade number params word
unfolding regrade_at
regrade_again number params word is =
    let again = params_again params is.1 in
    rw (
      field_again 1 65535 number (times_text (times_of params) (answer_text params word)) (omega (arith, is.0.0)) is.0.1 (omega arith),
      times_again (times_of params) (answer_text params word) again.1,
      answer_again params word is.2,
      again.0,
    ) refl

-- ---- calls of a number alone

record TookNumbered (most : ℕ) (call : ℕ → Call) (text : List ℕ) (read : Call) : Type 0 where
  n : ℕ
  some : 0 < n
  high : n ≤ most
  text_is : text ≡ decimal n
  read_is : call n ≡ read

numbered_takes : (most : ℕ) (call : ℕ → Call) (text : List ℕ) (read : Call) → numbered_at most call text ≡ Some read → TookNumbered most call text read
unfolding numbered_at
numbered_takes most call text read h =
    let a = bind_some (number_within_at 1 most text) (λ n. Some (call n)) read h in
    let w = within_takes 1 most text a.0 a.1 in
    record { n = a.0; some = omega (arith, w.1); high = w.2; text_is = w.0; read_is = same_Some (call a.0) read a.2 }

numbered_again : (most : ℕ) (call : ℕ → Call) (n : ℕ) → 0 < n → n ≤ most → most < 10000000000000000000 → numbered_at most call (decimal n) ≡ Some (call n)
unfolding numbered_at
numbered_again most call n low high small = rw (within_again 1 most n (omega arith) high small) refl

wake_takes : (text : List ℕ) (call : Call) → numbered_at 65535 Wake text ≡ Some call → TookCall (codes "wake") text call
wake_takes text call h =
    let t = numbered_takes 65535 Wake text call h in
    subst (TookCall (codes "wake") text) t.read_is (record { is_read = (t.some, t.high); text_is = t.text_is; word_is = refl })

leave_takes : (text : List ℕ) (call : Call) → numbered_at 65535 Leave text ≡ Some call → TookCall (codes "leave") text call
leave_takes text call h =
    let t = numbered_takes 65535 Leave text call h in
    subst (TookCall (codes "leave") text) t.read_is (record { is_read = (t.some, t.high); text_is = t.text_is; word_is = refl })

depart_takes : (text : List ℕ) (call : Call) → numbered_at 65535 Depart text ≡ Some call → TookCall (codes "depart") text call
depart_takes text call h =
    let t = numbered_takes 65535 Depart text call h in
    subst (TookCall (codes "depart") text) t.read_is (record { is_read = (t.some, t.high); text_is = t.text_is; word_is = refl })

advance_takes : (text : List ℕ) (call : Call) → numbered_at 60000000 Advance text ≡ Some call → TookCall (codes "advance") text call
advance_takes text call h =
    let t = numbered_takes 60000000 Advance text call h in
    subst (TookCall (codes "advance") text) t.read_is (record { is_read = (t.some, t.high); text_is = t.text_is; word_is = refl })

-- ---- changes of the limit

-- what was read after the client of a change
record TookChange (text : List ℕ) (limit : ℕ) (word : Option ℕ) : Type 0 where
  text_is : text ≡ change_text limit word
  low : 10485 ≤ limit
  high : limit ≤ 1048576
  seen : IfSome word (λ seen. seen ≤ 2 ^ 26)

change_by : (text : List ℕ) (a : ℕ × Option ℕ) (o : Option (List ℕ × List ℕ)) → cut_at 32 text ≡ o
    → option_map_or (λ p. number_within_at 10485 1048576 p.0 >>= λ limit. seen_at p.1 >>= λ seen. change limit (Some seen)) o (number_within_at 10485 1048576 text >>= λ limit. change limit None) ≡ Some a
    → TookChange text a.0 a.1
change_by text a None cut h =
    let b = bind_some (number_within_at 10485 1048576 text) (λ limit. change limit None) a h in
    let w = within_takes 10485 1048576 text b.0 b.1 in
    subst (λ (q : ℕ × Option ℕ). TookChange text q.0 q.1) (same_Some (b.0, None) a b.2) (record { text_is = w.0; low = w.1; high = w.2; seen = tt })
change_by text a (Some p) cut h =
    let b = bind_some (number_within_at 10485 1048576 p.0) (λ limit. seen_at p.1 >>= λ seen. change limit (Some seen)) a h in
    let c = bind_some (seen_at p.1) (λ seen. change b.0 (Some seen)) a b.2 in
    let w = within_takes 10485 1048576 p.0 b.0 b.1 in
    let t = seen_takes p.1 c.0 c.1 in
    subst (λ (q : ℕ × Option ℕ). TookChange text q.0 q.1) (same_Some (b.0, Some c.0) a c.2)
    (record { text_is = cut_takes 32 text p cut ∙ ap (λ (x : List ℕ). x ++ 32 ∷ p.1) w.0 ∙ after (decimal b.0) t.0; low = w.1; high = w.2; seen = t.1 })

change_takes : (text : List ℕ) (a : ℕ × Option ℕ) → change_at text ≡ Some a → TookChange text a.0 a.1
unfolding change_at
change_takes text a h = change_by text a (cut_at 32 text) refl h

change_again : (limit : ℕ) (word : Option ℕ) → IsCall (Limit limit word) → change_at (change_text limit word) ≡ change limit word
unfolding change_at
change_again limit None is = rw (cut_none 32 (decimal limit) (decimal_lacks 32 limit refl (omega (arith, is.1))), within_again 10485 1048576 limit is.0 is.1 (omega arith)) refl
change_again limit (Some seen) is =
    rw (cut_again 32 (decimal limit) (seen_text seen) (decimal_lacks 32 limit refl (omega (arith, is.1))), within_again 10485 1048576 limit is.0 is.1 (omega arith), seen_again seen is.2) refl

abbrev made_limit : ℕ → Option ℕ → Option Call
made_limit limit word = Some (Limit limit word)

limit_takes : (text : List ℕ) (call : Call) → limit_at text ≡ Some call → TookCall (codes "limit") text call
unfolding limit_at
limit_takes text call h =
    let a = bind_some (change_at text) (λ c. made_limit c.0 c.1) call h in
    let t = change_takes text a.0 a.1 in
    subst (TookCall (codes "limit") text) (same_Some (Limit a.0.0 a.0.1) call a.2) (record { is_read = (t.low, t.high, t.seen); text_is = t.text_is; word_is = refl })

limit_again : (limit : ℕ) (word : Option ℕ) → IsCall (Limit limit word) → limit_at (change_text limit word) ≡ made_limit limit word
unfolding limit_at
limit_again limit word is = rw (change_again limit word is) refl

-- ---- words

-- a word that was read as this one
as_word : (word known text : List ℕ) (call : Call) → bytes_eq word known ≡ true → TookCall known text call → TookCall word text call
as_word word known text call is took = subst (λ (w : List ℕ). TookCall w text call) (sym ((bytes_eq-Decides word known).0 is)) took

by_word : (word text : List ℕ) (call : Call) (admit regrade wake leave advance limit depart arrive : Bool) → bytes_eq word (codes "admit") ≡ admit → bytes_eq word (codes "regrade") ≡ regrade → bytes_eq word (codes "wake") ≡ wake → bytes_eq word (codes "leave") ≡ leave → bytes_eq word (codes "advance") ≡ advance → bytes_eq word (codes "limit") ≡ limit → bytes_eq word (codes "depart") ≡ depart → bytes_eq word (codes "arrive") ≡ arrive
    → cond admit (admit_at text) (cond regrade (regrade_at text) (cond wake (numbered_at 65535 Wake text) (cond leave (numbered_at 65535 Leave text) (cond advance (numbered_at 60000000 Advance text) (cond limit (limit_at text) (cond depart (numbered_at 65535 Depart text) (cond arrive (arrive_at text) None))))))) ≡ Some call → TookCall word text call
by_word word text call true regrade wake leave advance limit depart arrive is e2 e3 e4 e5 e6 e7 e8 h = as_word word (codes "admit") text call is (admit_takes text call h)
by_word word text call false true wake leave advance limit depart arrive e1 is e3 e4 e5 e6 e7 e8 h = as_word word (codes "regrade") text call is (regrade_takes text call h)
by_word word text call false false true leave advance limit depart arrive e1 e2 is e4 e5 e6 e7 e8 h = as_word word (codes "wake") text call is (wake_takes text call h)
by_word word text call false false false true advance limit depart arrive e1 e2 e3 is e5 e6 e7 e8 h = as_word word (codes "leave") text call is (leave_takes text call h)
by_word word text call false false false false true limit depart arrive e1 e2 e3 e4 is e6 e7 e8 h = as_word word (codes "advance") text call is (advance_takes text call h)
by_word word text call false false false false false true depart arrive e1 e2 e3 e4 e5 is e7 e8 h = as_word word (codes "limit") text call is (limit_takes text call h)
by_word word text call false false false false false false true arrive e1 e2 e3 e4 e5 e6 is e8 h = as_word word (codes "depart") text call is (depart_takes text call h)
by_word word text call false false false false false false false true e1 e2 e3 e4 e5 e6 e7 is h = as_word word (codes "arrive") text call is (arrive_takes text call h)
by_word word text call false false false false false false false false e1 e2 e3 e4 e5 e6 e7 e8 h = absurd cc

worded_takes : (word text : List ℕ) (call : Call) → worded_at word text ≡ Some call → TookCall word text call
unfolding worded_at
worded_takes word text call h =
    by_word word text call (bytes_eq word (codes "admit")) (bytes_eq word (codes "regrade")) (bytes_eq word (codes "wake")) (bytes_eq word (codes "leave")) (bytes_eq word (codes "advance")) (bytes_eq word (codes "limit")) (bytes_eq word (codes "depart")) (bytes_eq word (codes "arrive")) refl refl refl refl refl refl refl refl h

worded_again : (call : Call) → IsCall call → worded_at (word_text call) (call_text call) ≡ Some call
unfolding worded_at
worded_again (Admit number name params delay script) is = admit_again number name params delay script is
worded_again (Regrade number params word) is = regrade_again number params word is
worded_again (Wake number) is = numbered_again 65535 Wake number is.0 is.1 (omega arith)
worded_again (Leave number) is = numbered_again 65535 Leave number is.0 is.1 (omega arith)
worded_again (Advance ticks) is = numbered_again 60000000 Advance ticks is.0 is.1 (omega arith)
worded_again (Limit limit word) is = limit_again limit word is
worded_again (Depart number) is = numbered_again 65535 Depart number is.0 is.1 (omega arith)
worded_again (Arrive number name params script) is = arrive_again number name params script is

-- ---- the lines of calls

line_is : (client : ℕ) (call : Call) → line_of (call_fields client call) ≡ word_text call ++ (32 ∷ (decimal client ++ (32 ∷ call_text call)))
line_is client (Admit number name params delay script) = refl
line_is client (Regrade number params None) = refl
line_is client (Regrade number params (Some seen)) = refl
line_is client (Wake number) = refl
line_is client (Leave number) = refl
line_is client (Advance ticks) = refl
line_is client (Limit limit None) = refl
line_is client (Limit limit (Some seen)) = refl
line_is client (Depart number) = refl
line_is client (Arrive number name params script) = refl

abbrev made_call : ℕ → Call → Option (ℕ × Call)
made_call client call = Some (client, call)

pub record TookLine (line : List ℕ) (client : ℕ) (call : Call) : Type 0 where
  pub client_is : IsClient client
  pub is_read : IsCall call
  pub line_is : line ≡ line_of (call_fields client call)

framed : (line word after_word numbered after_client texted worded : List ℕ) → line ≡ word ++ 32 ∷ after_word → after_word ≡ numbered ++ 32 ∷ after_client → after_client ≡ texted → word ≡ worded
    → line ≡ worded ++ (32 ∷ (numbered ++ (32 ∷ texted)))
framed line word after_word numbered after_client texted worded e1 e2 e3 e4 = e1 ∙ ap (λ (x : List ℕ). x ++ 32 ∷ after_word) e4 ∙ after worded (e2 ∙ after numbered e3)

pub call_takes : (line : List ℕ) (p : ℕ × Call) → call_at line ≡ Some p → TookLine line p.0 p.1
unfolding call_at
call_takes line p h =
    let a = bind_some (cut_at 32 line) (λ word. field_at 1 64 word.1 >>= λ client. worded_at word.0 client.1 >>= λ call. made_call client.0 call) p h in
    let b = bind_some (field_at 1 64 a.0.1) (λ client. worded_at a.0.0 client.1 >>= λ call. made_call client.0 call) p a.2 in
    let c = bind_some (worded_at a.0.0 b.0.1) (λ call. made_call b.0.0 call) p b.2 in
    let client = field_takes 1 64 a.0.1 b.0 b.1 in
    let call = worded_takes a.0.0 b.0.1 c.0 c.1 in
    let whole = framed line a.0.0 a.0.1 (decimal b.0.0) b.0.1 (call_text c.0) (word_text c.0) (cut_takes 32 line a.0 a.1) client.text_is call.text_is call.word_is in
    let made : ℕ × Call = (b.0.0, c.0) in
    subst (λ (q : ℕ × Call). TookLine line q.0 q.1) (same_Some made p c.2) (record { client_is = (omega (arith, client.low), client.high); is_read = call.is_read; line_is = whole ∙ sym (line_is b.0.0 c.0) })

letters_lack : (c : ℕ) (word : List ℕ) → c < 97 → list_all (λ b. leb 97 b) word ≡ true → Lacks c word
letters_lack c [] low h = tt
letters_lack c (x ∷ xs) low h =
    let p = and_parts (leb 97 x) (list_all (λ b. leb 97 b) xs) h in
    let high = leb-true _ _ p.0 in
    ((λ same. omega (arith, same, high)), letters_lack c xs low p.1)

word_lacks : (c : ℕ) (call : Call) → c < 97 → Lacks c (word_text call)
word_lacks c (Admit number name params delay script) low = letters_lack c (codes "admit") low refl
word_lacks c (Regrade number params word) low = letters_lack c (codes "regrade") low refl
word_lacks c (Wake number) low = letters_lack c (codes "wake") low refl
word_lacks c (Leave number) low = letters_lack c (codes "leave") low refl
word_lacks c (Advance ticks) low = letters_lack c (codes "advance") low refl
word_lacks c (Limit limit word) low = letters_lack c (codes "limit") low refl
word_lacks c (Depart number) low = letters_lack c (codes "depart") low refl
word_lacks c (Arrive number name params script) low = letters_lack c (codes "arrive") low refl

pub call_again : (client : ℕ) (call : Call) → IsClient client → IsCall call → call_at (line_of (call_fields client call)) ≡ made_call client call
unfolding call_at
call_again client call is read =
    rw (
      line_is client call,
      cut_again 32 (word_text call) (decimal client ++ (32 ∷ call_text call)) (word_lacks 32 call (omega arith)),
      field_again 1 64 client (call_text call) (omega (arith, is.0)) is.1 (omega arith),
      worded_again call read,
    ) refl

-- ---- the word at the front of a line

abbrev word_in : Call → Word
word_in (Admit number name params delay script) = word.Admit
word_in (Regrade number params seen) = word.Regrade
word_in (Wake number) = word.Wake
word_in (Leave number) = word.Leave
word_in (Advance ticks) = word.Advance
word_in (Limit limit seen) = word.Limit
word_in (Depart number) = word.Depart
word_in (Arrive number name params script) = word.Arrive

front_in : (call : Call) (rest : List ℕ) → word_text call ++ (32 ∷ rest) ≡ front_of (word_in call) ++ rest
front_in (Admit number name params delay script) rest = refl
front_in (Regrade number params seen) rest = refl
front_in (Wake number) rest = refl
front_in (Leave number) rest = refl
front_in (Advance ticks) rest = refl
front_in (Limit limit seen) rest = refl
front_in (Depart number) rest = refl
front_in (Arrive number name params script) rest = refl

-- a line that begins with no word is that of no call
pub call_none : (line : List ℕ) → ((w : Word) (rest : List ℕ) → line ≡ front_of w ++ rest → ⊥) → call_at line ≡ None
call_none line none =
    none_by (call_at line) (λ p h.
    let t = call_takes line p h in
    let rest = decimal p.0 ++ (32 ∷ call_text p.1) in
    none (word_in p.1) rest (t.line_is ∙ (line_is p.0 p.1 ∙ front_in p.1 rest)))

front_lacks : (w : Word) → Lacks 32 (word_spelled w)
front_lacks w = letters_lack 32 (word_spelled w) (omega arith) (elim w as (λ v. list_all (λ b. leb 97 b) (word_spelled v) ≡ true) [ word.Admit ↦ refl | word.Regrade ↦ refl | word.Wake ↦ refl | word.Leave ↦ refl | word.Advance ↦ refl | word.Limit ↦ refl | word.Depart ↦ refl | word.Arrive ↦ refl ])

-- the call of a line is that after its word
pub call_after : (line : List ℕ) (w : Word) (rest : List ℕ) → line ≡ front_of w ++ rest → call_at line ≡ called_at (word_spelled w) rest
unfolding call_at
call_after line w rest e =
    let cut : cut_at 32 line ≡ Some (word_spelled w, rest) = ap (cut_at 32) (e ∙ append_assoc (word_spelled w) (codes " ") rest) ∙ cut_again 32 (word_spelled w) rest (front_lacks w) in
    rw cut refl

-- ---- after a header

-- a call is read where the header has such calls
known_by : (later has : Bool) (p q : ℕ × Call) → has ≡ is_later p.1 → cond (has && not later) None (Some p) ≡ Some q → (p ≡ q) × KnowsLater later (is_later q.1)
known_by false false p q is h = let same = same_Some p q h in (same, λ no. ap (λ (x : ℕ × Call). is_later x.1) (sym same) ∙ sym is)
known_by false true p q is h = absurd cc
known_by true false p q is h = (same_Some p q h, λ no. absurd cc)
known_by true true p q is h = (same_Some p q h, λ no. absurd cc)

pub known_takes : (later : Bool) (line : List ℕ) (p : ℕ × Call) → known_at later line ≡ Some p → (call_at line ≡ Some p) × KnowsLater later (is_later p.1)
unfolding known_at
known_takes later line p h =
    let a = bind_some (call_at line) (λ q. cond (is_later q.1 && not later) None (Some q)) p h in
    let b = known_by later (is_later a.0.1) a.0 p refl a.2 in
    (a.1 ∙ ap (λ (x : ℕ × Call). Some x) b.0, b.1)

read_by : (later has : Bool) (client : ℕ) (call : Call) → KnowsLater later has → cond (has && not later) None (Some (client, call)) ≡ made_call client call
read_by false false client call knows = refl
read_by false true client call knows = absurd (let e = knows refl in cc)
read_by true false client call knows = refl
read_by true true client call knows = refl

pub known_again : (later : Bool) (client : ℕ) (call : Call) → IsClient client → IsCall call → KnowsLater later (is_later call) → known_at later (line_of (call_fields client call)) ≡ made_call client call
unfolding known_at
known_again later client call is read knows = rw (call_again client call is read) (read_by later (is_later call) client call knows)

-- ---- a line has no line break

between_lacks : (a b : List ℕ) → Lacks 10 a → Lacks 10 b → Lacks 10 (a ++ (32 ∷ b))
between_lacks a b h k = Lacks-append 10 a (32 ∷ b) h (eqb-false 32 10 refl, k)

times_lack : (t : Times) (rest : List ℕ) → AreSmall t → Lacks 10 rest → Lacks 10 (times_text t rest)
times_lack t rest small h =
    let p = between_lacks (decimal t.period) rest (decimal_lacks 10 t.period refl (omega (arith, small.period.1))) h in
    let d = between_lacks (decimal t.deadline) (decimal t.period ++ (32 ∷ rest)) (decimal_lacks 10 t.deadline refl (omega (arith, small.deadline.1))) p in
    between_lacks (decimal t.runtime) (decimal t.deadline ++ (32 ∷ (decimal t.period ++ (32 ∷ rest)))) (decimal_lacks 10 t.runtime refl (omega (arith, small.runtime.1))) d

number_lacks : (number : ℕ) (rest : List ℕ) → IsTaskNumber number → Lacks 10 rest → Lacks 10 (decimal number ++ (32 ∷ rest))
number_lacks number rest is h = between_lacks (decimal number) rest (decimal_lacks 10 number refl (omega (arith, is.1))) h

answer_lacks : (params : ParamsView) (word : Option ℕ) → IfSome word (λ seen. seen ≤ 2 ^ 26) → Lacks 10 (answer_text params word)
answer_lacks params None high = flag_lacks 10 params.reclaim refl refl
answer_lacks params (Some seen) high =
    between_lacks (flag_text params) (seen_text seen) (flag_lacks 10 params.reclaim refl refl) (between_lacks (codes "busy") (decimal seen) (Lacks-written 10 (codes "busy") refl) (decimal_lacks 10 seen refl (omega (arith, high))))

newcomer_lacks : (number : ℕ) (name : List ℕ) (params : ParamsView) (rest : List ℕ) → IsTaskNumber number → IsName name → IsChecked params → Lacks 10 rest → Lacks 10 (newcomer_text number name params rest)
newcomer_lacks number name params rest numbered is_name checked h =
    let flagged = between_lacks (flag_text params) rest (flag_lacks 10 params.reclaim refl refl) h in
    let planned = flag_text params ++ (32 ∷ rest) in
    let timed_text = times_lack (times_of params) planned (params_again params checked).1 flagged in
    let named = between_lacks name (times_text (times_of params) planned) (name_lacks 10 name (omega arith) is_name.bytes) timed_text in
    number_lacks number (name ++ (32 ∷ times_text (times_of params) planned)) numbered named

call_lacks : (call : Call) → IsCall call → Lacks 10 (call_text call)
call_lacks (Admit number name params delay script) read =
    newcomer_lacks number name params (plan_text delay script) read.numbered read.named read.checked
    (between_lacks (decimal delay) (script_text script) (decimal_lacks 10 delay refl (omega (arith, read.soon))) (script_lacks script read.scripted))
call_lacks (Arrive number name params script) read =
    newcomer_lacks number name params (script_text script) read.numbered read.named read.checked (script_lacks script read.scripted)
call_lacks (Depart number) read = decimal_lacks 10 number refl (omega (arith, read.1))
call_lacks (Regrade number params word) read =
    number_lacks number (times_text (times_of params) (answer_text params word)) read.0 (times_lack (times_of params) (answer_text params word) (params_again params read.1).1 (answer_lacks params word read.2))
call_lacks (Wake number) read = decimal_lacks 10 number refl (omega (arith, read.1))
call_lacks (Leave number) read = decimal_lacks 10 number refl (omega (arith, read.1))
call_lacks (Advance ticks) read = decimal_lacks 10 ticks refl (omega (arith, read.1))
call_lacks (Limit limit None) read = decimal_lacks 10 limit refl (omega (arith, read.1))
call_lacks (Limit limit (Some seen)) read =
    between_lacks (decimal limit) (seen_text seen) (decimal_lacks 10 limit refl (omega (arith, read.1)))
    (between_lacks (codes "busy") (decimal seen) (Lacks-written 10 (codes "busy") refl) (decimal_lacks 10 seen refl (omega (arith, read.2))))

pub line_lacks : (client : ℕ) (call : Call) → IsClient client → IsCall call → Lacks 10 (line_of (call_fields client call))
line_lacks client call is read =
    let texted = between_lacks (decimal client) (call_text call) (decimal_lacks 10 client refl (omega (arith, is.1))) (call_lacks call read) in
    subst (Lacks 10) (sym (line_is client call)) (between_lacks (word_text call) (decimal client ++ (32 ∷ call_text call)) (word_lacks 10 call (omega arith)) texted)

-- ---- the line of a section

abbrev pub domain_text : ℕ → ℕ → List ℕ
domain_text cpus limit = line_of (codes "domain" ∷ decimal cpus ∷ decimal limit ∷ [])

abbrev made_domain : List ℕ → ℕ → ℕ → Option (ℕ × ℕ)
made_domain word cpus limit = cond (bytes_eq word (codes "domain")) (Some (cpus, limit)) None

-- what was read of a section's line
pub record TookDomain (line : List ℕ) (cpus limit : ℕ) : Type 0 where
  pub line_is : line ≡ domain_text cpus limit
  pub some : 0 < cpus
  pub few : cpus ≤ 64
  pub low : 10485 ≤ limit
  pub high : limit ≤ 1048576

pub domain_takes : (line : List ℕ) (d : ℕ × ℕ) → domain_at line ≡ Some d → TookDomain line d.0 d.1
unfolding domain_at
domain_takes line d h =
    let a = bind_some (cut_at 32 line) (λ word. field_at 1 64 word.1 >>= λ cpus. number_within_at 10485 1048576 cpus.1 >>= λ limit. made_domain word.0 cpus.0 limit) d h in
    let b = bind_some (field_at 1 64 a.0.1) (λ cpus. number_within_at 10485 1048576 cpus.1 >>= λ limit. made_domain a.0.0 cpus.0 limit) d a.2 in
    let c = bind_some (number_within_at 10485 1048576 b.0.1) (λ limit. made_domain a.0.0 b.0.0 limit) d b.2 in
    let cpus = field_takes 1 64 a.0.1 b.0 b.1 in
    let limit = within_takes 10485 1048576 b.0.1 c.0 c.1 in
    let made : ℕ × ℕ = (b.0.0, c.0) in
    let last = cond_some (bytes_eq a.0.0 (codes "domain")) made d c.2 in
    let word : a.0.0 ≡ codes "domain" = (bytes_eq-Decides a.0.0 (codes "domain")).0 last.0 in
    let whole = framed line a.0.0 a.0.1 (decimal b.0.0) b.0.1 (decimal c.0) (codes "domain") (cut_takes 32 line a.0 a.1) cpus.text_is limit.0 word in
    subst (λ (q : ℕ × ℕ). TookDomain line q.0 q.1) last.1 (record { line_is = whole; some = omega (arith, cpus.low); few = cpus.high; low = limit.1; high = limit.2 })

pub domain_again : (cpus limit : ℕ) → 0 < cpus → cpus ≤ 64 → 10485 ≤ limit → limit ≤ 1048576 → domain_at (domain_text cpus limit) ≡ paired cpus limit
unfolding domain_at
domain_again cpus limit some few low high =
    rw (cut_again 32 (codes "domain") (decimal cpus ++ (32 ∷ decimal limit)) (Lacks-written 32 (codes "domain") refl), field_again 1 64 cpus (decimal limit) (omega (arith, some)) few (omega arith), within_again 10485 1048576 limit low high (omega arith)) refl

pub domain_lacks : (cpus limit : ℕ) → cpus ≤ 64 → limit ≤ 1048576 → Lacks 10 (domain_text cpus limit)
domain_lacks cpus limit few high =
    between_lacks (codes "domain") (decimal cpus ++ (32 ∷ decimal limit)) (Lacks-written 10 (codes "domain") refl) (between_lacks (decimal cpus) (decimal limit) (decimal_lacks 10 cpus refl (omega (arith, few))) (decimal_lacks 10 limit refl (omega arith)))
