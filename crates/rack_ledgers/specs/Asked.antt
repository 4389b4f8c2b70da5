-- The header that a node is asked to have.
use Rattle.std.specs.Prelude.{◌≡◌, ℕ, Option, Some, None}
use Rattle.cbdc_model.specs.Records.{Header}

-- this node's number, with the shape and the genesis of the ledger with this header, or with its own where none is given
abbrev pub asked_of : ℕ → Option Header → Header → Header
asked_of node (Some ledger) kept = record { node = node; shape = ledger.shape; genesis = ledger.genesis }
asked_of node None kept = record { node = node; shape = kept.shape; genesis = kept.genesis }

-- a node's header is the one that it should have (`asked_of`): the number that was asked for, with the shape and genesis of the ledger's header where
-- one is given, else its own
abbrev pub IsHeaderAsked : ℕ → Option Header → Header → Type 0
IsHeaderAsked node ledger kept = kept ≡ asked_of node ledger kept
