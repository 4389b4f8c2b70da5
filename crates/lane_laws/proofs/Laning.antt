-- A lane's batches add up.
use Rattle.std.proofs.Common.{◌≡◌, inl, inr, ℕ, ◌<◌, Bool, List, [], ◌∷◌, length, take, drop, refl, sym, ap, ◌∙◌, subst}
use Rattle.std.specs.Prelude.{Contains}
use Rattle.cbdc_types.specs.declared.calls.NodeFault.{NodeFault}
use Rattle.cbdc_model.specs.Records.{Shape, Batch, Compact, Outcome, Record}
use Rattle.cbdc_model.specs.Slots.{slot}
use Rattle.cbdc_model.specs.Lanes.{Made}
use Rattle.cbdc_model.specs.Sights.{Sight}
use Rattle.ledger_laws.proofs.Members.{in_contains, contains_in}
use Rattle.ledger_laws.proofs.Cuts.{made_none, made_trans}
use Rattle.ledger_laws.proofs.Turns.{holds_more}
use Rattle.lane_laws.specs.Batches.{view, prepares_txs, Settled, BatchDone, BatchStopped, LaneSo, LaneStopped}

pub made_more : (K : Shape) (p q : List (List Compact)) (alone : Bool) (lane : ℕ) (I J : ℕ → List Record)
    → ((txs : List Compact) → Contains p txs → Contains q txs) → Made K p alone lane I J → Made K q alone lane I J
made_more K p q alone lane I J h m = record {
  grows = m.grows;
  each = λ n newer rest r e b. elim (m.each n newer rest r e b) [
    | inl o ↦ inl o
    | inr s ↦ inr (s.0, s.1, holds_more p q h r s.2)
  ];
}

in_more : (p : List Compact) (ps : List (List Compact)) (txs : List Compact) → Contains ps txs → Contains (p ∷ ps) txs
in_more p ps txs h = contains_in (p ∷ ps) txs (inr (in_contains ps txs h))

in_first : (p : List Compact) (ps : List (List Compact)) (txs : List Compact) → Contains (p ∷ []) txs → Contains (p ∷ ps) txs
in_first p ps txs h = elim (in_contains (p ∷ []) txs h) [
  | inl e ↦ contains_in (p ∷ ps) txs (inl e)
  | inr n ↦ absurd n
]

pub lane_begins : (K : Shape) (alone : Bool) (lane k : ℕ) (txs : List Compact) (log : Sight) (shards : ℕ → Sight) → Settled K lane k log shards
    → LaneSo K alone lane txs txs log shards log shards
lane_begins K alone lane k txs log shards st = record {
  pieces = [];
  cut = refl;
  made = made_none K [] alone lane (view K lane log shards);
  log_same = refl;
  shard_same = λ s. refl;
  settled = subst (λ n. Settled K lane n log shards) (sym st.number) st;
  prepares = refl;
}

module _ (K : Shape) (alone : Bool) (lane : ℕ) (txs rest : List Compact) (log0 log1 log2 : Sight) (shards0 shards1 shards2 : ℕ → Sight)
    (so : LaneSo K alone lane txs rest log0 shards0 log1 shards1) where
  pub lane_goes_on : (piece : List Compact) (b : Batch) (os : List Outcome) → 0 < length rest → piece ≡ take K.batch rest
      → BatchDone K alone lane (slot log1.seen lane).number piece log1 shards1 log2 shards2 b os
      → LaneSo K alone lane txs (drop K.batch rest) log0 shards0 log2 shards2
  lane_goes_on piece b os some is d = record {
    pieces = piece ∷ so.pieces;
    cut = (rest, so.cut, some, is, refl);
    made = made_trans K (piece ∷ so.pieces) alone lane (view K lane log0 shards0) (view K lane log1 shards1) (view K lane log2 shards2)
        (made_more K so.pieces (piece ∷ so.pieces) alone lane (view K lane log0 shards0) (view K lane log1 shards1) (in_more piece so.pieces) so.made)
        (made_more K (piece ∷ []) (piece ∷ so.pieces) alone lane (view K lane log1 shards1) (view K lane log2 shards2) (in_first piece so.pieces)
        d.made);
    log_same = d.log_same ∙ so.log_same;
    shard_same = λ s. d.shard_same s ∙ so.shard_same s;
    settled = subst (λ n. Settled K lane n log2 shards2) (sym d.settled.number) d.settled;
    prepares = ap prepares_txs d.grew.log_is ∙ ap (λ L. piece ∷ L) so.prepares;
  }

  pub lane_stops : (piece : List Compact) (node : ℕ) (f : NodeFault) → 0 < length rest → piece ≡ take K.batch rest
      → BatchStopped K alone lane piece log1 shards1 log2 shards2 node f → LaneStopped K alone lane txs log0 shards0 log2 shards2 node f
  lane_stops piece node f some is d = record {
    rest = rest;
    left = some;
    before_log = log1;
    before_shards = shards1;
    so = so;
    stopped = subst (λ p. BatchStopped K alone lane p log1 shards1 log2 shards2 node f) is d;
  }
