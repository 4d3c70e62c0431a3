use Rattle.std.proofs.Common.{◌∙◌, ap, map, string_bytes, subst, sym}
use Rattle.std.proofs.lemmas.Result.{IfOk-weaker, err_from_is_err_and}
use Rattle.clap.specs.Words.{App, FailsBy, fault_of, is_simple, is_simple_and_free, subcommand_of}
use Rattle.command_line.specs.Reading.{ReadsWords}
use Rattle.command_line.proofs.RunTexts.{reading_has, reading_has_replay, refused_for_memory}
use Rattle.command_line.proofs.reading.matches_of.Goals as goal

pub returns-in_err-program-clause-reading : goal.returns-in_err-program-clause-reading
returns-in_err-program-clause-reading c =
    let gone = err_from_is_err_and c.from_residual.result c.from_residual.ensures.1 in
    subst (ReadsWords (map string_bytes c.args.words.now)) (sym gone.1) (refused_for_memory _ gone.0 gone.2)

pub returns-clause-reading : goal.returns-clause-reading
returns-clause-reading c =
    let made = c.in_ok-program.ensures in
    let parse = c.try_get_matches_from in
    let words = map string_bytes c.args.words.now in
    record {
      run = made.run;
      replay = made.replay;
      import = made.import;
      are_held = made.are_held;
      found = IfOk-weaker parse.result _ _ (λ m has. (has (ap is_simple made.app)).1 ∙ ap (λ (a : App). subcommand_of a words) made.app) parse.ensures.matches;
      refused = subst (λ (a : App). FailsBy (fault_of a words) parse.result) made.app (parse.ensures.kinds (ap is_simple_and_free made.app));
    }

pub returns-clause-texts : goal.returns-clause-texts
returns-clause-texts c = reading_has (map string_bytes c.args.words.now) c.try_get_matches_from.result (returns-clause-reading c)

pub returns-clause-replay_texts : goal.returns-clause-replay_texts
returns-clause-replay_texts c = reading_has_replay (map string_bytes c.args.words.now) c.try_get_matches_from.result (returns-clause-reading c)
