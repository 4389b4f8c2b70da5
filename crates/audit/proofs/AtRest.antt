-- Where every batch that was prepared is done, every lane is idle at its coordinator.
use Rattle.std.proofs.Common.{◌≡◌, ◌⊎◌, inl, inr, ℕ, ◌/◌, ◌<◌, true, false, ◌&&◌, ◌==◌, List, ◌++◌, Some, None, is_some, refl, arith}
use Rattle.cbdc_model.specs.Records.{Shape, Batch, Compact, Record, Row, journal, record_of, kind_of, is_of, Genesis, Lock, Finish, Forget, Carry}
use Rattle.cbdc_model.specs.Slots.{slot, Idle, InLock, InFinish, InPrepare, InCommit, InDiscard}
use Rattle.cbdc_model.specs.Grammar.{IsInGrammar}
use Rattle.cbdc_model.specs.History.{Minted, header_of, first_rows}
use Rattle.ledger_laws.proofs.Next.{Steady, has_prepare}
use Rattle.ledger_laws.proofs.More.{has_done}
use Rattle.ledger_laws.proofs.Lookups.{true_false}
use Rattle.ledger_laws.proofs.Moves.{all_structure, all_more}
use Rattle.ledger_laws.proofs.Alikes.{found_passes}
use Rattle.ledger_laws.proofs.Recovered.{all_dones, all_phases}
use Rattle.ledger_laws.proofs.Found.{found_grammar}

-- the kind of a record that is found
kind_is : (kind : ℕ) (r : Record) (b : Batch) → ((kind_of r == kind) && is_of b r) ≡ true → kind_of r ≡ kind
kind_is kind r b t = grind (arith, t)

-- a shard's record stands at no coordinator
not_home : (K : Shape) (h : ℕ) (minting : Minted) (kind : ℕ) (r : Record) → h < K.coordinators → (kind ≡ 2) ⊎ (kind ≡ 3) → kind_of r ≡ kind
    → IsInGrammar (header_of K minting.id h) r → ⊥
not_home K h minting kind (Lock stamp c es) low which k g = omega (arith, low, g.2.0)
not_home K h minting kind (Finish stamp c ds) low which k g = omega (arith, low, g.2.0)
not_home K h minting kind (Forget stamp c) low which k g = omega (arith, low, g.2.0)
not_home K h minting kind (Genesis header hs) low which k g = omega (arith, low, g.2.0)
not_home K h minting kind (Carry stamp header source hs numbers) low which k g = absurd g
not_home K h minting kind other low which k g = grind (arith, k, which)

module _ (K : Shape) (minting : Minted) (P : Compact → Type 0) (shards : 0 < K.shards) (later : List Row) (kept : Steady K minting P later) where
  abbrev J : ℕ → List Record
  J n = journal n (later ++ first_rows K minting)

  none_found : (n kind : ℕ) (b : Batch) → n < K.coordinators → (kind ≡ 2) ⊎ (kind ≡ 3) → is_some (record_of kind (J n) b) ≡ true → ⊥
  none_found n kind b low which h = elim (record_of kind (J n) b) as (λ o. record_of kind (J n) b ≡ o → is_some o ≡ true → ⊥) [
    | None ↦ λ e t. absurd (let z : false ≡ true = t in cc)
    | Some r ↦ λ e t. not_home K n minting kind r low which (kind_is kind r b (found_passes kind (J n) b r e))
        (found_grammar K minting P shards later kept n kind b r e)
  ] refl h

  pub at_rest : ((b : Batch) → has_prepare (J (b.lane / K.lanes)) b ≡ true → has_done (J (b.lane / K.lanes)) b ≡ true)
      → (lane : ℕ) → lane / K.lanes < K.coordinators → (slot (J (lane / K.lanes)) lane).phase ≡ Idle
  at_rest done lane low =
      let b : Batch = record { lane = lane; number = (slot (J (lane / K.lanes)) lane).number } in
      let own = (all_structure K minting P shards later kept).journals (lane / K.lanes) in
      let more = all_more K minting P shards later kept (lane / K.lanes) in
      let dones = all_dones K minting P shards later kept (lane / K.lanes) in
      let phases = all_phases K minting P shards later kept (lane / K.lanes) in
      elim ((slot (J (lane / K.lanes)) lane).phase) as (λ p. (slot (J (lane / K.lanes)) lane).phase ≡ p → p ≡ Idle) [
        | Idle ↦ λ e. refl
        | InLock ↦ λ e. absurd (none_found (lane / K.lanes) 2 b low (inl refl) (own.locked b e refl).0)
        | InFinish ↦ λ e. absurd (none_found (lane / K.lanes) 3 b low (inr refl) (dones.finish_here b e refl))
        | InPrepare ↦ λ e. absurd (true_false _ (done b (own.prepared b e refl).0) (more.in_prepare b e refl).1)
        | InCommit ↦ λ e. absurd (true_false _ (done b (phases.commit_here b e refl).0) (more.in_commit b e refl).1)
        | InDiscard ↦ λ e. absurd (true_false _ (done b (phases.discard_here b e refl).0) (more.in_discard b e refl))
      ] refl
