-- The parts of a batch: their shards rise and are in range, and none has more entries than there are transactions.
use Rattle.std.proofs.Common.{◌≡◌, ℕ, ◌<◌, ◌≤◌, List, [], ◌∷◌, length, sym, subst}
use Rattle.std.specs.List.{All}
use Rattle.std.proofs.lemmas.List.Elements.{All-nil, All-cons}
use Rattle.cbdc_model.specs.Records.{Shape, Compact, Entry}
use Rattle.cbdc_model.specs.Ranges.{part}
use Rattle.lane_laws.specs.Calls.{Every, IsPart, AreParts}
use Rattle.lane_laws.proofs.Calls.{in_range}
use Rattle.lane_laws.proofs.PartCalls.{few}
use Rattle.lane_driver.specs.Calls.{shard}
use Rattle.lane_driver.specs.Told.{AreShards}

module _ (K : Shape) (txs : List Compact) where
  each_part : {P : ℕ × List Entry → Type 0} → ((p : ℕ × List Entry) → IsPart K txs p → P p) → (ps : List (ℕ × List Entry))
      → Every (IsPart K txs) ps → All P ps
  each_part {P = P} from [] every = All-nil P
  each_part {P = P} from (p ∷ ps) every = All-cons P p ps (from p every.0) (each_part from ps every.1)

  pub parts_rise : (ps : List (ℕ × List Entry)) → AreParts K txs ps → AreShards shard K.shards ps
  parts_rise ps are = (are.rising, each_part {P = λ p. shard p < K.shards} (λ p is. in_range K txs p.0 is.0) ps are.every)

  pub parts_small : (ps : List (ℕ × List Entry)) → AreParts K txs ps → All (λ p. length p.1 ≤ length txs) ps
  parts_small ps are = each_part {P = λ p. length p.1 ≤ length txs}
      (λ p is. subst (λ (es : List Entry). length es ≤ length txs) (sym is.1) (few K p.0 0 txs)) ps are.every
