-- A journal has a Seal, or has none.
use Rattle.std.proofs.Common.{◌≡◌, ◌↔◌, ◌==◌, false, true, List, [], ◌∷◌, refl}
use Rattle.cbdc_model.specs.Records.{Record, kind_of, seal_kind, Seal}
use Rattle.cbdc_model.specs.After.{IsUnsealed}

pub unsealed_none : IsUnsealed []
unfolding IsUnsealed
unsealed_none = tt

pub unsealed_more : (r : Record) (past : List Record) → IsUnsealed (r ∷ past) ↔ (((kind_of r == seal_kind) ≡ false) × IsUnsealed past)
unfolding IsUnsealed
unsealed_more (Seal stamp to shards) past = (λ u. absurd u, λ p. absurd (let z : true ≡ false = p.0 in cc))
unsealed_more other past = (λ u. (refl, u), λ p. p.1)
