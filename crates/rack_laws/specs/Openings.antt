-- A node's disk opens, where it has the room that its journal needs and does not fail.
use Rattle.std.specs.Prelude.{◌≡◌, ◌⊎◌, ℕ, ◌+◌, ◌≤◌, List, Option}
use Rattle.cbdc_types.specs.declared.answer.Answer.{Answer}
use Rattle.cbdc_types.specs.declared.answer.Answer.TheVariants as answers
use Rattle.cbdc_model.specs.Records.{Header, Record}
use Rattle.cbdc_model.specs.Room.{kept_room}
use Rattle.cbdc_model.specs.Due.{used_of}
use Rattle.rack_ledgers.specs.Asked.{asked_of}
use Rattle.rack_ledgers.specs.Refused.{IsNodeJournal, IsNoNode}

-- a disk that holds the journal of a node of this kind, with the room that it needs, is refused for no reason but that it failed, or that memory ran
-- out
abbrev pub NodeOpensLaw : (Header → Type 0) → Type 0
NodeOpensLaw Is = (node : ℕ) (ledger : Option Header) (h : Header) (J : List Record) (limit : ℕ) (bytes : List ℕ) (answer : Answer)
    → IsNodeJournal h J bytes → Is h → h ≡ asked_of node ledger h → used_of J + kept_room h.shape J ≤ limit
    → IsNoNode Is node ledger limit bytes answer
    → (answer ≡ answers.DiskFault node) ⊎ (answer ≡ answers.Memory)
