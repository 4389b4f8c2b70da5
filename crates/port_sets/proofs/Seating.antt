-- What is seen of a lane's coordinator through a seat.
use Rattle.std.proofs.Common.{◌≡◌, ℕ, Bool, true, false, ◌==◌, refl, ap, arith}
use Rattle.std.specs.Prelude.{if◌then◌else◌}
use Rattle.cbdc_model.specs.Slots.{Phase, slot, Idle, InLock, InPrepare, InCommit, InDiscard}
use Rattle.cbdc_model.specs.Sights.{Sight}
use Rattle.node_ports.specs.Nodes.{no_sight}
use Rattle.port_sets.specs.Seated.{seen_at, seat_phase}

same_number : (n : ℕ) → (n == n) ≡ true
same_number n = grind arith

pub seen_here : (at : ℕ) (s : Sight) → seen_at at s at ≡ s
seen_here at s = ap (λ t. if t then s else no_sight) (same_number at)

-- a coordinator is asked for the seat's lane alone
pub mine_of : (mine : ℕ) (s : Sight) (lane : ℕ) (p : Phase) → (InLock ≡ p → ⊥) → seat_phase mine s lane ≡ p → mine ≡ lane
mine_of mine s lane p never e = go (lane == mine) refl e
  where
    go : (b : Bool) → (lane == mine) ≡ b → (if b then (slot s.seen lane).phase else InLock) ≡ p → mine ≡ lane
    go true t e = grind (arith, t)
    go false t e = absurd (never e)

pub not_idle : InLock ≡ Idle → ⊥
not_idle e = cc

pub not_prepare : InLock ≡ InPrepare → ⊥
not_prepare e = cc

pub not_commit : InLock ≡ InCommit → ⊥
not_commit e = cc

pub not_discard : InLock ≡ InDiscard → ⊥
not_discard e = cc
