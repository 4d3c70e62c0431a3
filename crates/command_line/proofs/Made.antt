-- How a command is put together: what clap reads of it after each step, while no argument is global.
use Rattle.std.proofs.Common.{◌≡◌, ◌∙◌, ◌||◌, ◌+◌, ◌<◌, ℕ, List, [], ◌∷◌, ◌++◌, length, map, take, get_or, fold, ap, ap₂, subst, sym}
use Rattle.std.proofs.lemmas.List.{map-append, take_more}
use Rattle.clap.specs.Words.{AddsArg, AddsInTurn, AddsSubcommand, App, Rule, with_rule, with_subcommand}
use Rattle.clap.specs.Simple.{app_of_fields}
use Rattle.clap.specs.declared.builder.arg.Arg.{Arg}
use Rattle.clap.specs.declared.builder.command.Command.{Command}
use Rattle.clap.specs.declared.builder.command.Command.TheOpen.{Command-F}
use Rattle.clap.specs.declared.builder.command.Command.TheViews.{out-Command}
use Rattle.command_line.specs.private.Made.{AreInTurn, IsChoiceMade, IsOption, of_choice}
use Rattle.command_line.specs.declared.command.Choice.{Choice}

-- one more at the end of both lists
pub one_more : {X Y : Type 0} (is : X → Y → Type 0) (xs : List X) (ys : List Y) (x : X) (y : Y) → AreInTurn is xs ys → is x y
    → AreInTurn is (xs ++ x ∷ []) (ys ++ y ∷ [])
one_more is [] [] x y all one = (one, tt)
one_more is [] (other ∷ ys) x y all one = absurd all
one_more is (other ∷ xs) [] x y all one = absurd all
one_more is (first ∷ xs) (second ∷ ys) x y all one = (all.0, one_more is xs ys x y all.1 one)

-- one more choice made
pub choices_more : (made : List Arg) (one : Arg) (choices : List Choice) (i : ℕ) (default : Choice) → i < length choices
    → IsOption one (of_choice (get_or choices i default)) → AreInTurn IsOption made (map of_choice (take i choices))
    → AreInTurn IsOption (made ++ one ∷ []) (map of_choice (take (i + 1) choices))
choices_more made one choices i default inside option so_far =
    let last = get_or choices i default in
    let same = sym (map-append of_choice (take i choices) (last ∷ [])) ∙ ap (map of_choice) (sym (take_more choices i default inside)) in
    subst (AreInTurn IsOption (made ++ one ∷ [])) same (one_more IsOption made (map of_choice (take i choices)) one (of_choice last) so_far option)

-- a setting that clap reads as `now`
pub changed : (old new : Command) (fields : Command-F Command) (app now : App) → out-Command new ≡ fields → app_of_fields fields ≡ now
    → fields.has_globals ≡ (out-Command old).has_globals → IsChoiceMade old app → IsChoiceMade new now
changed old new fields app now is reads globals made = record {
  is = ap app_of_fields is ∙ reads;
  local = ap (λ (f : Command-F Command). f.has_globals) is ∙ (globals ∙ made.local);
}

-- an option more
with_option : (old : Command) (arg : Arg) (new : Command) (app : App) (rule : Rule) → IsChoiceMade old app → IsOption arg rule
    → AddsArg old arg new → IsChoiceMade new (with_rule app rule)
with_option old arg new app rule made option adds = record {
  is = adds.shape option.local ∙ ap₂ with_rule made.is option.is;
  local = adds.globals ∙ ap₂ ◌||◌ made.local option.local;
}

-- a list of options more
pub with_options : (old new : Command) (app : App) (args : List Arg) (rules : List Rule) → IsChoiceMade old app → AreInTurn IsOption args rules
    → AddsInTurn AddsArg old args new → IsChoiceMade new (fold with_rule app rules)
with_options old new app [] [] made all adds = subst (λ c. IsChoiceMade c app) adds made
with_options old new app [] (rule ∷ rules) made all adds = absurd all
with_options old new app (arg ∷ args) [] made all adds = absurd all
with_options old new app (arg ∷ args) (rule ∷ rules) made all adds =
    with_options adds.0 new (with_rule app rule) args rules (with_option old arg adds.0 app rule made all.0 adds.1) all.1 adds.2

-- a command more
with_command : (old sub new : Command) (app sub_app : App) → IsChoiceMade old app → IsChoiceMade sub sub_app → AddsSubcommand old sub new
    → IsChoiceMade new (with_subcommand app sub_app.top)
with_command old sub new app sub_app made sub_made adds = record {
  is = adds.shape sub_made.local ∙ ap₂ with_subcommand made.is (ap (λ (a : App). a.top) sub_made.is);
  local = adds.globals ∙ ap₂ ◌||◌ made.local sub_made.local;
}

-- a list of commands more
pub with_commands : (old new : Command) (app : App) (subs : List Command) (apps : List App) → IsChoiceMade old app → AreInTurn IsChoiceMade subs apps
    → AddsInTurn AddsSubcommand old subs new → IsChoiceMade new (fold (λ (all sub : App). with_subcommand all sub.top) app apps)
with_commands old new app [] [] made all adds = subst (λ c. IsChoiceMade c app) adds made
with_commands old new app [] (one ∷ apps) made all adds = absurd all
with_commands old new app (sub ∷ subs) [] made all adds = absurd all
with_commands old new app (sub ∷ subs) (one ∷ apps) made all adds =
    with_commands adds.0 new (with_subcommand app one.top) subs apps (with_command old sub adds.0 app one made all.0 adds.1) all.1 adds.2
