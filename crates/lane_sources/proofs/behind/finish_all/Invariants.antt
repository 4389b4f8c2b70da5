use Rattle.std.proofs.Common.{◌≡◌, ◌<◌, ℕ, length, Some}
use Rattle.std.specs.Prelude.{slice_get}
use Rattle.lane_sources.specs.Sources.{SourceOf, IsSourceFinished}
use Rattle.lane_sources.proofs.behind.finish_all.Given as goal

abbrev pub invariant-loop-lane : goal.invariant-loop-lane
invariant-loop-lane g l = record {
  len : length l.sources ≡ length l.fn.sources;
  done : (k : ℕ) (s : SourceOf) → k < l.lane → slice_get l.sources k ≡ Some s → IsSourceFinished g.F.Deals.file k s;
}
