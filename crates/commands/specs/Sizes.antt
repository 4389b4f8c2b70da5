-- Requests whose numbers are within their limits.
use Rattle.requests.specs.declared.Request.{Request}
use Rattle.commands.specs.Promises.{needs_of}

-- a workload has at most 10,000 transactions, and its shards have at most three disks beside their own
abbrev pub IsSized : Request → Type 0
IsSized r = (needs_of r).sized
