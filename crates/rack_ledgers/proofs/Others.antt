-- What stays of a rack at the other places, from call to call.
use Rattle.std.proofs.Common.{◌≡◌, ◌≢◌, ◌≤◌, ◌<◌, le_trans, ◌+◌, ℕ, refl, ◌∙◌, arith, inl, inr, ⊎_elim}
use Rattle.std.proofs.lemmas.Bool.{cases_lt}
use Rattle.outside.specs.declared.rack.Rack.{Ghosts}
use Rattle.rack_ledgers.specs.Places.{IsOutsideRange}
use Rattle.rack_ledgers.specs.Others.{KeepsOthers}
use Rattle.rack_ledgers.proofs.Range.{not_outside}

-- a place outside a range is outside a shorter one
pub outside_part : {first behind from end n : ℕ} → from ≤ first → behind ≤ end → IsOutsideRange from end n → IsOutsideRange first behind n
outside_part le ge outside = ⊎_elim (λ below. inl (omega (arith, le, below))) (λ above. inr (omega (arith, ge, above))) outside

-- all places but one are outside its range
pub outside_one : {node n : ℕ} → n ≢ node → IsOutsideRange node (node + 1) n
outside_one {node} {n} differs = ⊎_elim (λ (below : n < node). inl below) (λ (above : node ≤ n). inr (omega (arith, above, differs)))
    (cases_lt n node)

module _ {R D : Type 0} {rack : Ghosts R D} where
  -- nothing was done
  pub kept_same : {first behind : ℕ} {r : R} → KeepsOthers rack first behind r r
  kept_same = record {
    held = λ n outside. refl;
    takes = λ n outside can. can;
    puts = λ n k outside can. can;
    later = λ n. omega arith;
  }

  -- one call at one place
  pub kept_but : {node : ℕ} {r s : R} → ((n : ℕ) → n ≢ node → rack.held s n ≡ rack.held r n)
      → ((n : ℕ) → n ≢ node → rack.can_take r n → rack.can_take s n)
      → ((n k : ℕ) → n ≢ node → rack.can_put r n k → rack.can_put s n k) → ((n : ℕ) → rack.count r n ≤ rack.count s n)
      → KeepsOthers rack node (node + 1) r s
  kept_but {node} held takes puts later = record {
    held = λ n outside. held n (not_outside {m = node} outside (omega arith) (omega arith));
    takes = λ n outside can. takes n (not_outside {m = node} outside (omega arith) (omega arith)) can;
    puts = λ n k outside can. puts n k (not_outside {m = node} outside (omega arith) (omega arith)) can;
    later = later;
  }

  -- of a longer range, less is said
  pub kept_wider : {first behind from end : ℕ} {r s : R} → from ≤ first → behind ≤ end → KeepsOthers rack first behind r s
      → KeepsOthers rack from end r s
  kept_wider le ge kept = record {
    held = λ n outside. kept.held n (outside_part le ge outside);
    takes = λ n outside can. kept.takes n (outside_part le ge outside) can;
    puts = λ n k outside can. kept.puts n k (outside_part le ge outside) can;
    later = kept.later;
  }

  -- one call after another
  pub kept_then : {first behind : ℕ} {r s t : R} → KeepsOthers rack first behind r s → KeepsOthers rack first behind s t
      → KeepsOthers rack first behind r t
  kept_then one other = record {
    held = λ n outside. other.held n outside ∙ one.held n outside;
    takes = λ n outside can. other.takes n outside (one.takes n outside can);
    puts = λ n k outside can. other.puts n k outside (one.puts n k outside can);
    later = λ n. le_trans (one.later n) (other.later n);
  }
