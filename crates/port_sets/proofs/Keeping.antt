-- What a call through a seat keeps of its node.
use Rattle.std.proofs.Common.{◌≡◌, ◌≢◌, ℕ, Bool, true, false, ◌==◌, refl, sym, subst, arith}
use Rattle.std.specs.Prelude.{if◌then◌else◌}
use Rattle.cbdc_model.specs.Sights.{Sight}
use Rattle.lane_driver.specs.Told.{IsStillNode, KeepNodes}
use Rattle.lane_driver.proofs.Fitting.{nodes_same}
use Rattle.node_ports.specs.Nodes.{no_sight}
use Rattle.node_lock.specs.declared.views.Hand.{Hand}
use Rattle.node_lock.specs.Tickets.{Called}
use Rattle.node_lock.specs.Viewing.{viewed}
use Rattle.port_sets.specs.Seated.{seen_at}
use Rattle.port_sets.proofs.Lifting.{still}

-- it is the node that it was, as its seat saw it and sees it
pub still_seen : (first s t : Sight) (h g : Hand) → Called first h s t g → (old new : Sight) → old ≡ viewed first h → new ≡ viewed first g
    → IsStillNode old new
still_seen first s t h g called old new o n =
    subst (λ x. IsStillNode x new) (sym o) (subst (λ y. IsStillNode (viewed first h) y) (sym n) (still first s t h g called))

-- and of the coordinators none other is seen
pub seen_elsewhere : (at : ℕ) (old new : Sight) (n : ℕ) → n ≢ at → seen_at at new n ≡ seen_at at old n
seen_elsewhere at old new n ne = go (n == at) refl
  where
    go : (b : Bool) → (n == at) ≡ b → (if b then new else no_sight) ≡ (if b then old else no_sight)
    go true e = absurd (ne (grind (arith, e)))
    go false e = refl

pub still_nodes : (at : ℕ) (old new : Sight) → IsStillNode old new → KeepNodes (seen_at at old) (seen_at at new)
still_nodes at old new still n = elim (n == at) as (λ b. IsStillNode (if b then old else no_sight) (if b then new else no_sight)) [
  | true ↦ still
  | false ↦ nodes_same (λ m. no_sight) n
]
