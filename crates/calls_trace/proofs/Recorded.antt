-- The names and the parameters that a legal history's replies tell are those of its run.
use Rattle.std.proofs.Common.{◌≡◌, ℕ, ◌++◌, ◌<◌, ◌≤◌, Bool, true, false, cond, eqb, leb, ltb, ◌+◌, List, [], ◌∷◌, length, map, Option, Some, None, Result, refl, sym, ap, ◌∙◌, subst}
use Rattle.std.specs.Prelude.{All, IfOk}
use Rattle.std.specs.List.{list_any}
use Rattle.std.proofs.lemmas.Result.{IfOk-weaker}
use Rattle.std.proofs.lemmas.List.Elements.{All-head, All-tail}
use Rattle.attr_check.specs.ParamsView.{ParamsView}
use Rattle.attr_check.specs.Ratio.{cap}
use Rattle.domain_run.specs.declared.task.Task.{Task}
use Rattle.domain_run.specs.declared.call.Call.{Call}
use Rattle.domain_run.specs.declared.call.Call.TheVariants.{Admit, Regrade, Wake, Leave, Advance, Limit, Depart, Arrive}
use Rattle.domain_run.specs.declared.call.Reply.{Reply}
use Rattle.domain_run.specs.declared.call.Reply.TheVariants.{Admitted, Full, Twice, Busy}
use Rattle.domain_run.specs.Domain.{Domain, empty_domain}
use Rattle.domain_run.specs.Tick.{sum_of}
use Rattle.domain_run.specs.Calls.{admit_reply, reply_to, is_refusal, after_granted, after_call, task_of, word_reply, regrade_reply, wake_reply, leave_reply, limit_reply, depart_reply}
use Rattle.domain_run.specs.Run.{after_calls, replies_to, run_of}
use Rattle.domain_run.specs.Sound.{IsAdmitted}
use Rattle.domain_run.proofs.CallerLemmas.{with_number_contains}
use Rattle.calls_text.specs.declared.section.Entry.{Entry}
use Rattle.calls_text.specs.SectionView.{SectionView}
use Rattle.calls_text.specs.Limits.{IsCall, IsEntry, IsSection}
use Rattle.calls_text.specs.Histories.{calls_of, IsLegal}
use Rattle.switch_text.specs.Names.{Names, name_of_task}
use Rattle.calls_trace.specs.Replay.{with_name, named_by, names_after, names_of, no_names}
use Rattle.calls_trace.specs.DomainEvents.{names_in, params_in, no_params, with_params, params_by, params_after, params_by_calls}
use Rattle.calls_trace.specs.private.Replaying.{MapGives, Given, GivesParams, given_in, IsRunOf}
use Rattle.calls_trace.specs.private.Recorded.{named_where, names_given_by, given_by_all, HaveNames, params_where, params_given_by, params_given_by_all}
use Rattle.calls_trace.proofs.Naming.{ticks_used, one_more_named}

-- ---- the names are those of the run

-- the names after a call, by its reply
abbrev named_on : Reply → Call → (ℕ → List ℕ) → (ℕ → List ℕ)
named_on r c names = cond (is_refusal r) names (named_by c names)

-- of an admission's replies, Admitted alone is no refusal
admit_on : (a b c : Bool) (sum : ℕ) (call : Call) (names : ℕ → List ℕ) → (r : Reply) → r ≡ cond a Full (cond b Twice (cond c (Busy sum) Admitted)) → named_where (Some r) call names ≡ named_on r call names
admit_on true b c sum call names r is = rw is refl
admit_on false true c sum call names r is = rw is refl
admit_on false false true sum call names r is = rw is refl
admit_on false false false sum call names r is = rw is refl

-- any other call names nobody
other_on : (r : Reply) (call : Call) (names : ℕ → List ℕ) → named_by call names ≡ names → named_where (Some r) call names ≡ named_on r call names
other_on r call names none =
    let either : (b : Bool) → cond b names (named_by call names) ≡ names = λ b. elim b as (λ x. cond x names (named_by call names) ≡ names) [ true ↦ refl | false ↦ none ] in
    elim r as (λ x. named_where (Some x) call names ≡ names) [
      | Admitted ↦ none
      | _ ↦ refl
    ] ∙ sym (either (is_refusal r))

named_as : (d : Domain) (c : Call) (names : ℕ → List ℕ) → named_where (Some (reply_to d c)) c names ≡ names_after d c names
named_as d (Admit number name params delay script) names =
    admit_on (leb 256 (length d.tasks)) (list_any (λ n. eqb n number) d.used) (ltb (cap d.cpus d.limit) (sum_of d.tasks + params.bw)) (sum_of d.tasks) (Admit number name params delay script) names (admit_reply d number params) refl
named_as d (Regrade number params word) names = other_on (regrade_reply d params word (task_of d number)) (Regrade number params word) names refl
named_as d (Wake number) names = other_on (wake_reply (task_of d number)) (Wake number) names refl
named_as d (Leave number) names = other_on (leave_reply (task_of d number)) (Leave number) names refl
named_as d (Advance n) names = refl
named_as d (Limit limit word) names = other_on (limit_reply d limit word) (Limit limit word) names refl
named_as d (Depart number) names = other_on (depart_reply (task_of d number)) (Depart number) names refl
named_as d (Arrive number name params script) names =
    admit_on (leb 256 (length d.tasks)) (list_any (λ n. eqb n number) d.used) (ltb (cap d.cpus d.limit) (sum_of d.tasks + params.bw)) (sum_of d.tasks) (Arrive number name params script) names (admit_reply d number params) refl

-- what legal entries name
pub given_is : (d : Domain) (entries : List Entry) (names : ℕ → List ℕ) → map (λ e. e.reply) entries ≡ map Some (replies_to d (calls_of entries)) → given_by_all entries names ≡ names_of d (calls_of entries) names
given_is d [] names legal = refl
given_is d (e ∷ entries) names legal =
    let first : e.reply ≡ Some (reply_to d e.call) = cc in
    let others : map (λ x. x.reply) entries ≡ map Some (replies_to (after_call d e.call) (calls_of entries)) = cc in
    let here : names_given_by e names ≡ names_after d e.call names = ap (λ (r : Option Reply). named_where r e.call names) first ∙ named_as d e.call names in
    ap (given_by_all entries) here ∙ given_is (after_call d e.call) entries (names_after d e.call names) others

-- ---- and so are the parameters

-- of an admission's replies, Admitted alone gives parameters
admit_gives : (call : Call) (given : ℕ → ParamsView) (a b c : Bool) (sum : ℕ) (r : Reply) → r ≡ cond a Full (cond b Twice (cond c (Busy sum) Admitted))
    → params_where call (Some Admitted) given ≡ params_by call given → params_where call (Some Full) given ≡ given → params_where call (Some Twice) given ≡ given → params_where call (Some (Busy sum)) given ≡ given
    → params_where call (Some r) given ≡ cond (is_refusal r) given (params_by call given)
admit_gives call given true b c sum r is ok full twice busy = rw is full
admit_gives call given false true c sum r is ok full twice busy = rw is twice
admit_gives call given false false true sum r is ok full twice busy = rw is busy
admit_gives call given false false false sum r is ok full twice busy = rw is ok

-- of a change's replies, Changed alone does
changes_on : (number : ℕ) (params : ParamsView) (word : Option ℕ) (given : ℕ → ParamsView) (b : Bool) (sum : ℕ) (w : Option ℕ) (r : Reply) → r ≡ cond b (Busy sum) (word_reply w)
    → params_where (Regrade number params word) (Some r) given ≡ cond (is_refusal r) given (with_params given number params)
changes_on number params word given true sum w r is = rw is refl
changes_on number params word given false sum None r is = rw is refl
changes_on number params word given false sum (Some seen) r is = rw is refl

regrade_gives : (d : Domain) (number : ℕ) (params : ParamsView) (word : Option ℕ) (given : ℕ → ParamsView) (o : Option Task) (r : Reply) → r ≡ regrade_reply d params word o
    → params_where (Regrade number params word) (Some r) given ≡ cond (is_refusal r) given (with_params given number params)
regrade_gives d number params word given None r is = rw is refl
regrade_gives d number params word given (Some t) r is = changes_on number params word given _ _ word r is

-- a call that gives none
same_either : (b : Bool) (given : ℕ → ParamsView) → given ≡ cond b given given
same_either true given = refl
same_either false given = refl

params_as : (d : Domain) (c : Call) (given : ℕ → ParamsView) → params_where c (Some (reply_to d c)) given ≡ params_after d c given
params_as d (Admit number name params delay script) given =
    admit_gives (Admit number name params delay script) given (leb 256 (length d.tasks)) (list_any (λ n. eqb n number) d.used) (ltb (cap d.cpus d.limit) (sum_of d.tasks + params.bw)) (sum_of d.tasks) (admit_reply d number params) refl refl refl refl refl
params_as d (Regrade number params word) given = regrade_gives d number params word given (task_of d number) (regrade_reply d params word (task_of d number)) refl
params_as d (Wake number) given = same_either (is_refusal (wake_reply (task_of d number))) given
params_as d (Leave number) given = same_either (is_refusal (leave_reply (task_of d number))) given
params_as d (Advance n) given = refl
params_as d (Limit limit word) given = same_either (is_refusal (limit_reply d limit word)) given
params_as d (Depart number) given = same_either (is_refusal (depart_reply (task_of d number))) given
params_as d (Arrive number name params script) given =
    admit_gives (Arrive number name params script) given (leb 256 (length d.tasks)) (list_any (λ n. eqb n number) d.used) (ltb (cap d.cpus d.limit) (sum_of d.tasks + params.bw)) (sum_of d.tasks) (admit_reply d number params) refl refl refl refl refl

params_are : (d : Domain) (entries : List Entry) (given : ℕ → ParamsView) → map (λ e. e.reply) entries ≡ map Some (replies_to d (calls_of entries)) → params_given_by_all entries given ≡ params_by_calls d (calls_of entries) given
params_are d [] given legal = refl
params_are d (e ∷ entries) given legal =
    let first : e.reply ≡ Some (reply_to d e.call) = cc in
    let others : map (λ x. x.reply) entries ≡ map Some (replies_to (after_call d e.call) (calls_of entries)) = cc in
    let here : params_given_by e given ≡ params_after d e.call given = ap (λ (r : Option Reply). params_where e.call r given) first ∙ params_as d e.call given in
    ap (params_given_by_all entries) here ∙ params_are (after_call d e.call) entries (params_after d e.call given) others

-- the names and the parameters of a history
pub history_names : {E : Type 0} (s : SectionView) (entries : List Entry) (r : Result Names E) → IsLegal s.cpus s.limit s.entries → entries ≡ s.entries → IfOk r (λ names. MapGives names (given_by_all entries no_names)) → IfOk r (λ names. name_of_task names ≡ names_in s)
history_names s entries r legal same given =
    let are : given_by_all entries no_names ≡ names_in s = ap (λ (es : List Entry). given_by_all es no_names) same ∙ given_is (empty_domain s.cpus s.limit) s.entries no_names legal in
    IfOk-weaker r (λ (names : Names). MapGives names (given_by_all entries no_names)) (λ (names : Names). name_of_task names ≡ names_in s)
    (λ names gives. let each : (n : ℕ) → name_of_task names n ≡ names_in s n = λ n. gives n ∙ ap (λ (f : ℕ → List ℕ). f n) are in λ i n. each n i) given

pub history_params : {E : Type 0} (s : SectionView) (entries : List Entry) (r : Result Given E) → IsLegal s.cpus s.limit s.entries → entries ≡ s.entries → IfOk r (λ given. GivesParams given (params_given_by_all entries no_params)) → IfOk r (λ given. given_in given ≡ params_in s)
history_params s entries r legal same given =
    let are : params_given_by_all entries no_params ≡ params_in s = ap (λ (es : List Entry). params_given_by_all es no_params) same ∙ params_are (empty_domain s.cpus s.limit) s.entries no_params legal in
    IfOk-weaker r (λ (given : Given). GivesParams given (params_given_by_all entries no_params)) (λ (given : Given). given_in given ≡ params_in s)
    (λ found gives. let each : (n : ℕ) → given_in found n ≡ params_in s n = λ n. gives n ∙ ap (λ (f : ℕ → ParamsView). f n) are in λ i n. each n i) given

-- ---- whoever was admitted has a name

named_either : (b : Bool) (d then : Domain) (names more : ℕ → List ℕ) → HaveNames d.used names → HaveNames then.used more → HaveNames (cond b d then).used (cond b names more)
named_either true d then names more old new = old
named_either false d then names more old new = new

named_more : (d : Domain) (c : Call) (names : ℕ → List ℕ) → IsCall c → HaveNames d.used names → HaveNames (after_call d c).used (names_after d c names)
named_more d (Admit number name params delay script) names is old =
    named_either (is_refusal (admit_reply d number params)) d (after_granted d (Admit number name params delay script)) names (with_name names number name) old
    (λ n h. one_more_named d.used number name names is.named old n (sym (with_number_contains number n d.used) ∙ h))
named_more d (Regrade number params word) names is old = named_either (is_refusal (regrade_reply d params word (task_of d number))) d (after_granted d (Regrade number params word)) names names old old
named_more d (Wake number) names is old = named_either (is_refusal (wake_reply (task_of d number))) d (after_granted d (Wake number)) names names old old
named_more d (Leave number) names is old = named_either (is_refusal (leave_reply (task_of d number))) d (after_granted d (Leave number)) names names old old
named_more d (Advance k) names is old = λ n h. old n (subst (λ (us : List ℕ). IsAdmitted us n) (ticks_used k d) h)
named_more d (Limit limit word) names is old = named_either (is_refusal (limit_reply d limit word)) d (after_granted d (Limit limit word)) names names old old
named_more d (Depart number) names is old = named_either (is_refusal (depart_reply (task_of d number))) d (after_granted d (Depart number)) names names old old
named_more d (Arrive number name params script) names is old =
    named_either (is_refusal (admit_reply d number params)) d (after_granted d (Arrive number name params script)) names (with_name names number name) old
    (λ n h. one_more_named d.used number name names is.named old n (sym (with_number_contains number n d.used) ∙ h))

pub all_named : (d : Domain) (entries : List Entry) (names : ℕ → List ℕ) → All IsEntry entries → HaveNames d.used names → HaveNames (after_calls d (calls_of entries)).used (names_of d (calls_of entries) names)
all_named d [] names are old = old
all_named d (e ∷ entries) names are old =
    all_named (after_call d e.call) entries (names_after d e.call names) (All-tail IsEntry e entries are) (named_more d e.call names (All-head IsEntry e entries are).call old)

-- ---- the run of a history

nobody : false ≡ true → ⊥
nobody e = absurd cc

pub run_is : (s : SectionView) (d : Domain) (names : Names) (entries : List Entry) → IsSection s → IsLegal s.cpus s.limit s.entries → d ≡ run_of s.cpus s.limit (calls_of s.entries) → entries ≡ s.entries
    → MapGives names (given_by_all entries no_names) → IsRunOf s d names
run_is s d names entries is legal state same gives =
    let start = empty_domain s.cpus s.limit in
    let ends : ℕ → List ℕ = names_of start (calls_of s.entries) no_names in
    let are : given_by_all entries no_names ≡ ends = ap (λ (es : List Entry). given_by_all es no_names) same ∙ given_is start s.entries no_names legal in
    let called : MapGives names ends = λ n. gives n ∙ ap (λ (f : ℕ → List ℕ). f n) are in
    let have = all_named start s.entries no_names is.entries (λ n h. absurd (nobody h)) in
    record {
      domain = state;
      called = called;
      all_named = λ n h.
          let there = have n (subst (λ (x : Domain). IsAdmitted x.used n) state h) in
          record { some = rw (called n) there.0; most = rw (called n) there.1 };
    }

-- ---- the histories of several domains

-- ---- the logs in their places
