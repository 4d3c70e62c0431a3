use Rattle.std.proofs.Common.{◌≡◌, ℕ, List, ap, ◌∙◌}
use Rattle.domain_run.specs.Domain.{Domain}
use Rattle.switch_text.specs.Names.{name_of_task}
use Rattle.calls_trace.specs.Replay.{names_of}
use Rattle.domain_run.specs.Passing.{without_front, without_switches}
use Rattle.domain_run.specs.Run.{after_calls}
use Rattle.switch_text.specs.SlicedTrace.{SlicedView, without_first}
use Rattle.calls_trace.specs.declared.playing.Playing.{Playing}
use Rattle.calls_trace.specs.private.Playing.{calls_left, all_names, sliced_of}
use Rattle.calls_trace.proofs.Pieces.{names_front}
use Rattle.calls_trace.proofs.playing.Playing.forget_first.Goals as goal

-- as it is written, with another domain
abbrev forgotten_as : Playing → Domain → SlicedView
forgotten_as p d = record { base = p.base; names = names_of d (calls_left p) (name_of_task p.run.names); at_hand = d.switches; to_come = (after_calls (without_switches d) (calls_left p)).switches }

pub returns : goal.returns
returns c =
    let p = c.args.self.now in
    let k = c.args.count in
    let d = p.run.domain in
    let is = c.forget_front.ensures in
    let names : names_of (without_front k d) (calls_left p) (name_of_task p.run.names) ≡ all_names p = λ i n. names_front k d (calls_left p) (name_of_task p.run.names) n i in
    ap (λ (e : Domain). forgotten_as p e) is ∙ ap (λ (f : ℕ → List ℕ). record (without_first k (sliced_of p)) { names = f }) names
