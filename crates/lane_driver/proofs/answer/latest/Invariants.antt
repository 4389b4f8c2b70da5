use Rattle.std.proofs.Common.{◌≡◌, take, IsOk}
use Rattle.std.specs.List.{All}
use Rattle.lane_driver.specs.Gathering.{latest_of}
use Rattle.lane_driver.proofs.answer.latest.Given as goal

abbrev pub invariant-loop-place : goal.invariant-loop-place
invariant-loop-place g l = record {
  ok : All IsOk (take l.place l.answers);
  greatest : l.latest ≡ latest_of (take l.place l.answers);
}
