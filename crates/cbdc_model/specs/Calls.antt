-- Which calls a shard may be asked: those within the limits.
use Rattle.std.specs.Prelude.{ℕ, ◌+◌, ◌^◌, ◌<◌, ◌≤◌, List, [], ◌∷◌, length, All}
use Rattle.cbdc_types.specs.declared.calls.LockCall.{LockCall}
use Rattle.cbdc_types.specs.declared.calls.FinishCall.{FinishCall}
use Rattle.cbdc_types.specs.declared.calls.ForgetCall.{ForgetCall}
use Rattle.cbdc_model.specs.Records.{Header, Entry}
use Rattle.cbdc_model.specs.Grammar.{IsHash, IsHashList, IsBatchOf, AreHere, HasSize}

-- the places rise, and are below the limit
abbrev pub PlacesRise : ℕ → ℕ → List Entry → Type 0
PlacesRise low limit [] = Unit {0}
PlacesRise low limit (e ∷ es) = (low ≤ e.place) × (e.place < limit) × PlacesRise (e.place + 1) limit es

-- an entry of a part names at least one hash, and all of them lie on the node's shard
pub record IsPartEntry (h : Header) (e : Entry) : Type 0 where
  pub id : IsHash e.id
  pub inputs : IsHashList e.inputs
  pub outputs : IsHashList e.outputs
  pub some : 1 ≤ length e.inputs + length e.outputs
  pub inputs_here : AreHere h.shape h.node e.inputs
  pub outputs_here : AreHere h.shape h.node e.outputs

-- a batch of one of the lanes, a cause below 2^63, and 1 to as many entries as a batch may have, whose places rise
pub record IsLockCall (h : Header) (c : LockCall) : Type 0 where
  pub batch : IsBatchOf h.shape c.batch
  pub cause : c.cause < 2 ^ 63
  pub size : HasSize h.shape c.part
  pub places : PlacesRise 0 h.shape.batch c.part
  pub entries : All (IsPartEntry h) c.part

-- a batch of one of the lanes, a cause below 2^63, and 1 to as many decisions as a batch may have entries
pub record IsFinishCall (h : Header) (c : FinishCall) : Type 0 where
  pub batch : IsBatchOf h.shape c.batch
  pub cause : c.cause < 2 ^ 63
  pub size : HasSize h.shape c.decisions

-- a batch of one of the lanes, and a cause below 2^63
pub record IsForgetCall (h : Header) (c : ForgetCall) : Type 0 where
  pub batch : IsBatchOf h.shape c.batch
  pub cause : c.cause < 2 ^ 63
