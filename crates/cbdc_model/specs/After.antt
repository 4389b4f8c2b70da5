-- Which record may come next at a node, by its journal alone.
use Rattle.std.specs.Prelude.{◌≡◌, ℕ, ◌+◌, ◌*◌, ◌<◌, Bool, true, List, [], ◌∷◌, length}
use Rattle.cbdc_model.specs.Records.{Shape, Header, Answered, Record, is_held, txs_of, lock_of, last_stamp, Genesis, Lock, Finish, Forget, Start}
use Rattle.cbdc_model.specs.Records.{Prepare, Commit, Discard, Done, Upgrade, Carry, CarryStart, Seal}
use Rattle.cbdc_model.specs.Slots.{slot, Idle, InLock, InFinish, InPrepare, InCommit, InDiscard}
use Rattle.cbdc_model.specs.Replies.{answered, entries}
use Rattle.cbdc_model.specs.Ranges.{home_of}
use Rattle.cbdc_model.specs.Grammar.{IsInGrammar}

-- as many decisions as entries, and commit only for Held
abbrev pub FitsReplies : List Answered → List Bool → Type 0
FitsReplies [] [] = Unit {0}
FitsReplies [] (d ∷ ds) = ⊥
FitsReplies (a ∷ es) [] = ⊥
FitsReplies (a ∷ es) (d ∷ ds) = (d ≡ true → is_held a.reply ≡ true) × FitsReplies es ds

-- no lane has an unfinished batch in a journal
abbrev pub IsAtRest : Shape → List Record → Type 0
IsAtRest K past = (lane : ℕ) → lane < K.coordinators * K.lanes → (slot past lane).phase ≡ Idle

-- no Seal stands in a journal
unfoldable pub IsUnsealed : List Record → Type 0
IsUnsealed [] = Unit {0}
IsUnsealed (Seal stamp to shards ∷ past) = ⊥
IsUnsealed (other ∷ past) = IsUnsealed past

-- the record follows the node's journal `past`: a first record follows an empty one; any other has a stamp above the last one. A Lock is on
-- an idle lane, with a greater number and the replies that the journal gives; a Finish is of the slot's number, which is locked, with as many
-- decisions as entries and commit only for Held; a Forget is of the slot's number, which is finished. A Prepare is on an idle lane, with the slot's
-- number and one more; a Commit, a Discard and a Done are of the slot's number, which is prepared, committed and discarded, the Commit with as many
-- outcomes as transactions; these last four are of the coordinator's own lanes only. An Upgrade and a Seal follow where no lane has an unfinished
-- batch. A Prepare, an Upgrade and a Seal follow no Seal, so nothing follows one
abbrev pub Follows : Header → List Record → Record → Type 0
Follows h past (Genesis header hs) = past ≡ []
Follows h past (Start header) = past ≡ []
Follows h past (Lock stamp b es) =
    (last_stamp past < stamp) × ((slot past b.lane).phase ≡ Idle) × ((slot past b.lane).number < b.number)
    × (es ≡ answered past b [] (entries es))
Follows h past (Finish stamp b ds) =
    (last_stamp past < stamp) × ((slot past b.lane).phase ≡ InLock) × ((slot past b.lane).number ≡ b.number)
    × FitsReplies (lock_of past b) ds
Follows h past (Forget stamp b) =
    (last_stamp past < stamp) × ((slot past b.lane).phase ≡ InFinish) × ((slot past b.lane).number ≡ b.number)
Follows h past (Prepare stamp b txs) =
    (last_stamp past < stamp) × (h.node ≡ home_of h.shape b.lane)
    × ((slot past b.lane).phase ≡ Idle) × (b.number ≡ (slot past b.lane).number + 1) × IsUnsealed past
Follows h past (Commit stamp b os) =
    (last_stamp past < stamp) × (h.node ≡ home_of h.shape b.lane)
    × ((slot past b.lane).phase ≡ InPrepare) × ((slot past b.lane).number ≡ b.number)
    × (length os ≡ length (txs_of past b))
Follows h past (Discard stamp b) =
    (last_stamp past < stamp) × (h.node ≡ home_of h.shape b.lane)
    × ((slot past b.lane).phase ≡ InCommit) × ((slot past b.lane).number ≡ b.number)
Follows h past (Done stamp b) =
    (last_stamp past < stamp) × (h.node ≡ home_of h.shape b.lane)
    × ((slot past b.lane).phase ≡ InDiscard) × ((slot past b.lane).number ≡ b.number)
Follows h past (Upgrade stamp batch) = (last_stamp past < stamp) × IsAtRest h.shape past × IsUnsealed past
Follows h past (Carry stamp header source hs numbers) = past ≡ []
Follows h past (CarryStart stamp header source numbers) = past ≡ []
Follows h past (Seal stamp to shards) = (last_stamp past < stamp) × IsAtRest h.shape past × IsUnsealed past

-- the record is in the grammar and follows the journal
abbrev pub After : Header → List Record → Record → Type 0
After h past r = IsInGrammar h r × Follows h past r

-- a record that a journal begins with
abbrev pub IsFirst : Record → Type 0
IsFirst (Genesis header hs) = Unit {0}
IsFirst (Lock stamp b es) = ⊥
IsFirst (Finish stamp b ds) = ⊥
IsFirst (Forget stamp b) = ⊥
IsFirst (Start header) = Unit {0}
IsFirst (Prepare stamp b txs) = ⊥
IsFirst (Commit stamp b os) = ⊥
IsFirst (Discard stamp b) = ⊥
IsFirst (Done stamp b) = ⊥
IsFirst (Upgrade stamp batch) = ⊥
IsFirst (Carry stamp header source hs numbers) = Unit {0}
IsFirst (CarryStart stamp header source numbers) = Unit {0}
IsFirst (Seal stamp to shards) = ⊥

-- a journal of a node, the newest record first: it begins with a first record, and each later one is after those before it
abbrev pub IsJournal : Header → List Record → Type 0
IsJournal h [] = ⊥
IsJournal h (r ∷ []) = IsFirst r × After h [] r
IsJournal h (r ∷ (q ∷ past)) = After h (q ∷ past) r × IsJournal h (q ∷ past)
