-- What is owed to a decision at a coordinator on its disk.
use Rattle.std.specs.Prelude.{ℕ, ◌≤◌, List, length, Option}
use Rattle.cbdc_types.specs.declared.batch.ShardReplies.{ShardReplies}
use Rattle.cbdc_model.specs.Records.{Shape, Compact, Record}
use Rattle.cbdc_model.specs.Next.{next_stamp}
use Rattle.cbdc_model.specs.Deciding.{reply_cause}
use Rattle.cbdc_model.specs.Due.{Due, Writes, unless_broken, if_early, last_late}

-- the lists of a transaction are within the limits
abbrev pub HasShortLists : Compact → Type 0
HasShortLists t = (length t.inputs ≤ 255) × (length t.outputs ≤ 255)

-- what is owed to replies that make this Commit: it is written, if its stamp is within its bound
abbrev pub commit_due : Shape → List ShardReplies → Record → Option ℕ → List Record → Due ℕ
commit_due K replies r broken J = unless_broken broken
    (if_early last_late (next_stamp J (reply_cause K replies)) (Writes (next_stamp J (reply_cause K replies)) r))
