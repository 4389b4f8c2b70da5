-- How many slots there are.
use Rattle.std.proofs.Common.{◌≡◌, ◌≢◌, inl, inr, ℕ, ◌+◌, ◌-◌, ◌*◌, ◌/◌, ◌%◌, ◌^◌, ◌<◌, bit_and, arith, sym, ◌∙◌, subst}
use Rattle.std.proofs.lemmas.Nat.{and_mask, pow-add, pow_pos}
use Rattle.shard_table.specs.Slots.{IsSize}

pow_more : (k : ℕ) → 256 * 2 ^ k ≡ 2 ^ (8 + k)
pow_more k = sym (pow-add 2 8 k)

-- a mask keeps what is left by the number of slots
pub masked : (n homes : ℕ) → IsSize homes → homes ≢ 0 → bit_and n (homes - 1) ≡ n % homes
masked n homes s not = elim s [
  | inl e ↦ absurd (not e)
  | inr p ↦ subst (λ (h : ℕ). bit_and n (h - 1) ≡ n % h) (sym (p.1 ∙ pow_more p.0)) (and_mask n (8 + p.0))
]

pub doubled : (homes : ℕ) → ((k : ℕ) × (homes ≡ 256 * 2 ^ k)) → (k : ℕ) × (homes * 2 ≡ 256 * 2 ^ k)
doubled homes p = (p.0 + 1, let e = p.1 in let t : 2 ^ (p.0 + 1) ≡ 2 ^ p.0 * 2 = pow-add 2 p.0 1 in omega (arith, e, t))

-- pages hold all slots
pub paged : (homes : ℕ) → ((k : ℕ) × (homes ≡ 256 * 2 ^ k)) → (homes / 256 * 256 ≡ homes) × (homes / 4 * 3 < homes)
paged homes p = let e = p.1 in let t = pow_pos p.0 in (omega (arith, e), omega (arith, e, t))
