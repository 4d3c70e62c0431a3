-- The sections of a text that are read for its trace.
use Rattle.std.specs.Prelude.{ℕ, ◌≡◌, ◌≤◌, ◌*◌, List, length, map, sum_by}
use Rattle.calls_text.specs.SectionView.{SectionView}
use Rattle.calls_text.specs.Spelling.{spelling}
use Rattle.calls_text.specs.Limits.{AreRead}
use Rattle.calls_text.specs.Reader.{ReaderView, IsAfter}
use Rattle.switch_text.specs.SlicedTrace.{wholes}
use Rattle.calls_trace.specs.declared.playing.Playing.{Playing}
use Rattle.calls_trace.specs.declared.playing_so_far.PlayingSoFar.{PlayingSoFar}
use Rattle.calls_trace.specs.Replay.{runs_from}
use Rattle.calls_trace.specs.private.Playing.{sliced_of}

-- runs under way that lead to the runs of these sections
abbrev pub LeadTo : List Playing → List SectionView → Type 0
LeadTo runs sections = wholes (map sliced_of runs) ≡ runs_from 0 sections

-- those of these sections, each on a domain of its own
pub record ArePlayingFor (done : List SectionView) (r : PlayingSoFar) : Type 0 where
  pub lead : LeadTo r.runs.items done
  pub count : length r.runs.items ≡ length done
  pub base_is : r.base ≡ sum_by (λ s. s.cpus) done
  pub inside : r.base ≤ 64 * length done

-- those of the sections that were read so far
pub record ArePlayingSoFar (text : List ℕ) (reader : ReaderView) (r : PlayingSoFar) : Type 0 where
  pub done : List SectionView
  pub following : IsAfter text done reader
  pub playing : ArePlayingFor done r

-- so it is for some text
pub record IsPlayingUnderWay (reader : ReaderView) (r : PlayingSoFar) : Type 0 where
  pub text : List ℕ
  pub so_far : ArePlayingSoFar text reader r

-- the text spells sections, and these runs lead to theirs
pub record ArePlaying (text : List ℕ) (runs : List Playing) : Type 0 where
  pub sections : List SectionView
  pub read : AreRead sections
  pub spelled : text ≡ spelling sections
  pub lead : LeadTo runs sections
  pub few : length runs ≤ 8
