use Rattle.std.proofs.Common.{[]}
use Rattle.calls_trace.proofs.read_text.playing_of_text.Goals as goal

pub read_on-requires : goal.read_on-requires
read_on-requires c = record { under_way = record { text = c.args.text.now; so_far = record { done = []; following = c.in_ok-reader.ensures.following; playing = c.in-Ok.ensures } } }

pub returns : goal.returns
returns c =
    let text = c.args.text.now in
    record {
      runs = c.read_on.ensures.runs text (record { done = []; following = c.in_ok-reader.ensures.following; playing = c.in-Ok.ensures });
      fault = c.read_on.ensures.fault text (record { done = []; following = c.in_ok-reader.ensures.following; playing = c.in-Ok.ensures });
    }
