-- A coordinator's journal has no record of another coordinator's lane.
use Rattle.std.proofs.Common.{◌≡◌, ◌≢◌, ◌⊎◌, inl, inr, ◌<◌, ◌==◌, true, false, ℕ, List, [], ◌∷◌, refl, sym, ap, ◌∙◌, subst, arith}
use Rattle.std.proofs.lemmas.Bool.Decides.{eqb_tells}
use Rattle.cbdc_model.specs.Records.{Header, Record, Genesis, Start, Prepare, Commit, Discard, Done, Upgrade, Carry, CarryStart}
use Rattle.cbdc_model.specs.Records.{Seal}
use Rattle.cbdc_model.specs.Ranges.{home_of}
use Rattle.cbdc_model.specs.Slots.{Slot, slot}
use Rattle.cbdc_model.specs.Grammar.{IsInGrammar}
use Rattle.cbdc_model.specs.After.{IsFirst, IsJournal}
use Rattle.coord_core.specs.Lanes.{CoordOf, IsOwnLane, coord_lane, no_lane}
use Rattle.coord_core.specs.Stands.{CoordStands}

module _ (h : Header) (lane : ℕ) (inside : h.node < h.shape.coordinators) (other : home_of h.shape lane ≢ h.node) where
  -- a record of the coordinator's own lanes is of another one
  not_it : (l : ℕ) → h.node ≡ home_of h.shape l → (l == lane) ≡ false
  not_it l own = go (eqb_tells l lane)
    where
      go : (((l == lane) ≡ true) × (l ≡ lane)) ⊎ (((l == lane) ≡ false) × (l ≢ lane)) → (l == lane) ≡ false
      go (inl (b, is)) = absurd (other (sym (own ∙ ap (home_of h.shape) is)))
      go (inr (b, apart)) = b

  first_slot : (r : Record) → IsFirst r → IsInGrammar h r → slot (r ∷ []) lane ≡ no_lane.slot
  first_slot (Genesis header hs) first grammar = refl
  first_slot (Start header) first grammar = refl
  first_slot (Carry stamp header source hs numbers) first grammar = absurd grammar
  first_slot (CarryStart stamp header source numbers) first grammar = absurd grammar
  first_slot other first grammar = absurd first

  -- so the lane has no batch
  pub no_batch : (J : List Record) → IsJournal h J → slot J lane ≡ no_lane.slot
  no_batch [] j = absurd j
  no_batch (r ∷ []) j = first_slot r j.0 j.1.0
  no_batch (Genesis header hs ∷ (q ∷ past)) j = absurd (let none : q ∷ past ≡ [] = j.0.1 in cc)
  no_batch (Carry stamp header source hs numbers ∷ (q ∷ past)) j = absurd (let none : q ∷ past ≡ [] = j.0.1 in cc)
  no_batch (Start header ∷ (q ∷ past)) j = absurd (let none : q ∷ past ≡ [] = j.0.1 in cc)
  no_batch (CarryStart stamp header source numbers ∷ (q ∷ past)) j = absurd (let none : q ∷ past ≡ [] = j.0.1 in cc)
  no_batch (Prepare stamp b txs ∷ (q ∷ past)) j = rw (not_it b.lane j.0.1.1) (no_batch (q ∷ past) j.1)
  no_batch (Commit stamp b os ∷ (q ∷ past)) j = rw (not_it b.lane j.0.1.1) (no_batch (q ∷ past) j.1)
  no_batch (Discard stamp b ∷ (q ∷ past)) j = rw (not_it b.lane j.0.1.1) (no_batch (q ∷ past) j.1)
  no_batch (Done stamp b ∷ (q ∷ past)) j = rw (not_it b.lane j.0.1.1) (no_batch (q ∷ past) j.1)
  no_batch (Upgrade stamp batch ∷ (q ∷ past)) j = absurd j.0.0
  no_batch (Seal stamp to shards ∷ (q ∷ past)) j = absurd j.0.0
  no_batch (other ∷ (q ∷ past)) j = absurd (let shard = j.0.0.2 in omega (arith, shard, inside))

-- what the lanes say of a lane is what the journal says
pub slot_there : (c : CoordOf) (h : Header) (J : List Record) (lane : ℕ) (s : Slot) → c.header ≡ h → c.header.node < c.header.shape.coordinators
    → CoordStands c J → IsJournal h J
    → (IsOwnLane c.header lane → s ≡ (coord_lane c lane).slot) → (home_of c.header.shape lane ≢ c.header.node → s ≡ no_lane.slot) → s ≡ slot J lane
slot_there c h J lane s same inside stands journal own other = go (eqb_tells (home_of c.header.shape lane) c.header.node)
  where
    go : (((home_of c.header.shape lane == c.header.node) ≡ true) × (home_of c.header.shape lane ≡ c.header.node))
        ⊎ (((home_of c.header.shape lane == c.header.node) ≡ false) × (home_of c.header.shape lane ≢ c.header.node)) → s ≡ slot J lane
    go (inl (b, is)) = own is ∙ stands.slots lane is
    go (inr (b, apart)) = other apart ∙ sym (no_batch c.header lane inside apart J (subst (λ x. IsJournal x J) (sym same) journal))
