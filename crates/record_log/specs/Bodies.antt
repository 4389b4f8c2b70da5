-- The one spelling of a record.
use Rattle.std.specs.Prelude.{ℕ, List, [], ◌∷◌, ◌++◌}
use Rattle.cbdc_types.specs.declared.record.Header.{Header}
use Rattle.cbdc_types.specs.declared.record.Record.{Record}
use Rattle.cbdc_types.specs.declared.record.Record.TheVariants.{Genesis, Lock, Finish, Forget, Start, Prepare, Commit, Discard, Done}
use Rattle.cbdc_types.specs.declared.record.Record.TheVariants.{Upgrade, Carry, CarryStart, Seal}
use Rattle.byte_spelling.specs.Spelling.{number, counted}
use Rattle.byte_fields.specs.Records.{hashes, batch_bytes, compact_bytes, answered_bytes, outcome_bytes, decision_bytes}
use Rattle.cbdc_model.specs.Records.{genesis_kind, lock_kind, finish_kind, forget_kind, start_kind, prepare_kind, commit_kind, discard_kind}
use Rattle.cbdc_model.specs.Records.{done_kind}

-- HAMJRNL1, which each journal begins with
abbrev pub magic : List ℕ
magic = 72 ∷ 65 ∷ 77 ∷ 74 ∷ 82 ∷ 78 ∷ 76 ∷ 49 ∷ []

-- the magic, a header's numbers and its genesis id
abbrev pub header_bytes : Header → List ℕ
header_bytes h = magic ++ number h.node ++ number h.shape.shards ++ number h.shape.coordinators ++ number h.shape.lanes ++ number h.shape.batch
    ++ h.genesis

-- a record's kind and its stamp
abbrev pub head : ℕ → ℕ → List ℕ
head kind stamp = kind ∷ [] ++ number stamp

-- the one spelling of a record. An Upgrade, a Carry, a CarryStart and a Seal stand in no journal yet, and have no bytes
abbrev pub body_of : Record → List ℕ
body_of (Genesis h hs) = head genesis_kind 0 ++ header_bytes h ++ hashes hs
body_of (Lock stamp b es) = head lock_kind stamp ++ batch_bytes b ++ counted answered_bytes es
body_of (Finish stamp b ds) = head finish_kind stamp ++ batch_bytes b ++ counted decision_bytes ds
body_of (Forget stamp b) = head forget_kind stamp ++ batch_bytes b
body_of (Start h) = head start_kind 0 ++ header_bytes h
body_of (Prepare stamp b txs) = head prepare_kind stamp ++ batch_bytes b ++ counted compact_bytes txs
body_of (Commit stamp b os) = head commit_kind stamp ++ batch_bytes b ++ counted outcome_bytes os
body_of (Discard stamp b) = head discard_kind stamp ++ batch_bytes b
body_of (Done stamp b) = head done_kind stamp ++ batch_bytes b
body_of (Upgrade stamp batch) = []
body_of (Carry stamp h source hs numbers) = []
body_of (CarryStart stamp h source numbers) = []
body_of (Seal stamp to shards) = []
