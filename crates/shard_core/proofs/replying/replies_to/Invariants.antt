use Rattle.std.proofs.Common.{◌≡◌, ◌++◌, List, [], drop, length}
use Rattle.cbdc_model.specs.Records.{Digest, Record}
use Rattle.cbdc_model.specs.Status.{has}
use Rattle.cbdc_model.specs.Replies.{answered, replies}
use Rattle.shard_core.specs.Agrees.{HashesAgree}
use Rattle.shard_core.proofs.replying.replies_to.Given as goal

-- the replies so far are the first ones, and the claimed hashes are those of the Held entries so far
abbrev pub invariant-loop-entry : goal.invariant-loop-entry
invariant-loop-entry l = record {
  len : length l.replies.items ≡ l.entry-index;
  replies : (J : List Record) → HashesAgree l.unspent.hashes l.locks.held J → (before : List Digest) × ((y : Digest) → has l.claimed y ≡ has before y)
      × (l.replies.items ++ replies (answered J l.batch before (drop l.entry-index l.entries)) ≡ replies (answered J l.batch [] l.entries));
}
