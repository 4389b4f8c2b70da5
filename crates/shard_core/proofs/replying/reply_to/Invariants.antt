use Rattle.std.proofs.Common.{◌≡◌, List, drop}
use Rattle.cbdc_model.specs.Records.{Digest, Record}
use Rattle.cbdc_model.specs.Status.{has}
use Rattle.cbdc_model.specs.Replies.{reply_to}
use Rattle.shard_core.specs.Agrees.{HashesAgree}
use Rattle.shard_core.proofs.replying.reply_to.Given as goal

-- the inputs so far can be held
abbrev pub invariant-loop-x : goal.invariant-loop-x
invariant-loop-x l = (J : List Record) (before : List Digest) → HashesAgree l.unspent.hashes l.locks.held J
    → ((y : Digest) → has l.claimed y ≡ has before y)
    → reply_to J l.batch before l.inputs ≡ reply_to J l.batch before (drop l.x-index l.inputs)
