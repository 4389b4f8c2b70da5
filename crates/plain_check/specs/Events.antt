-- The events of the program as those of the definitions.
use Rattle.std.specs.Prelude.{◌≡◌, ℕ, ◌^◌, ◌<◌, List, Some}
use Rattle.cbdc_model.specs.Records.{Digest, Shape, Record}
use Rattle.cbdc_model.specs.Grammar.{IsInGrammar}
use Rattle.cbdc_model.specs.History.{Minted, header_of}
use Rattle.cbdc_model.specs.World as model
use Rattle.plain_check.specs.declared.events.ShardCall.{ShardCall}
use Rattle.plain_check.specs.declared.events.ShardCall.TheVariants.{Lock, Finish, Forget}
use Rattle.plain_check.specs.declared.events.Event.{Event}
use Rattle.plain_check.specs.declared.events.Event.TheVariants.{Begin, End, Crash, Reopen, Repeat}

-- a call of the program as one of the definitions
abbrev pub call_in : ShardCall → model.ShardCall
call_in (Lock c) = model.Lock_call c
call_in (Finish c) = model.Finish_call c
call_in (Forget c) = model.Forget_call c

-- an event of the program as one of the definitions
abbrev pub event_in : Event → model.Event
event_in (Begin n r) = model.Begin n r
event_in (End n) = model.End n
event_in (Crash n kept) = model.Crash n kept
event_in (Reopen n) = model.Reopen n
event_in (Repeat n call) = model.Repeat n (call_in call)

-- a mint by its id and the hashes of its coins
abbrev pub mint_by : Digest → List Digest → Minted
mint_by id hashes = record { id = id; hashes = hashes }

-- the stamp of a call's cause
abbrev pub cause_of : model.ShardCall → ℕ
cause_of (model.Lock_call c) = c.cause
cause_of (model.Finish_call c) = c.cause
cause_of (model.Forget_call c) = c.cause

-- a journal's last stamp and a cause's are below those that no stamp is above
abbrev pub InClock : ℕ → ℕ → Type 0
InClock last cause = (last < 2 ^ 63) × (cause < 2 ^ 63)

-- a call at a node is of a batch that concerns it, its cause stands, and the node answers with a record that may stand in its journal
abbrev pub IsCallAnswered : Shape → Digest → model.World → ℕ → model.ShardCall → Record → Type 0
IsCallAnswered K id w n call r =
    model.IsConcerned K (model.journals w) n (model.batch_of call) × model.CauseStands K (model.journals w) n call
    × (model.record_for (model.journals w n) call ≡ Some r) × IsInGrammar (header_of K id n) r
