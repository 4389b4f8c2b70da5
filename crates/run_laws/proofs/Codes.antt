-- A number for each record of a lane's batch that comes behind its Locks.
use Rattle.std.proofs.Common.{◌≡◌, ◌⊎◌, inl, inr, ℕ, ◌+◌, ◌-◌, ◌*◌, ◌<◌, ◌≤◌, ◌/◌, ◌==◌, if◌then◌else◌, sym, ap, ◌∙◌, subst, arith}
use Rattle.std.proofs.Math.Nat.{mul-le-mul_right}
use Rattle.std.proofs.lemmas.Nat.{div-mul-add}
use Rattle.cbdc_model.specs.Records.{Shape}

-- the place of a record of a kind at a node among those of its batch
abbrev pub place_of : Shape → ℕ → ℕ → ℕ
place_of K node kind = if kind == 3 then node - K.coordinators else if kind == 4 then K.shards + (node - K.coordinators)
    else 2 * K.shards + (kind - 7)

abbrev pub code_of : Shape → ℕ → ℕ → ℕ → ℕ
code_of K lane node kind = lane * (2 * K.shards + 3) + place_of K node kind

-- where the records behind the Locks stand: Finishes and Forgets at shards, the others at the lane's coordinator
pub data IsPlaced (K : Shape) (lane node kind : ℕ) : Type 0 where
  at_shard : K.coordinators ≤ node → node < K.coordinators + K.shards → (kind ≡ 3) ⊎ (kind ≡ 4) → IsPlaced K lane node kind
  at_home : node ≡ lane / K.lanes → 7 ≤ kind → kind ≤ 9 → IsPlaced K lane node kind

-- over numbers
abbrev place : ℕ → ℕ → ℕ → ℕ → ℕ
place c s node kind = if kind == 3 then node - c else if kind == 4 then s + (node - c) else 2 * s + (kind - 7)

data Placed (c s home node kind : ℕ) : Type 0 where
  finish : c ≤ node → node < c + s → kind ≡ 3 → Placed c s home node kind
  forget : c ≤ node → node < c + s → kind ≡ 4 → Placed c s home node kind
  others : node ≡ home → 7 ≤ kind → kind ≤ 9 → Placed c s home node kind

finish_place : (c s node kind : ℕ) → kind ≡ 3 → place c s node kind ≡ node - c
finish_place c s node kind e = grind arith

forget_place : (c s node kind : ℕ) → kind ≡ 4 → place c s node kind ≡ s + (node - c)
forget_place c s node kind e = grind arith

others_place : (c s node kind : ℕ) → 7 ≤ kind → place c s node kind ≡ 2 * s + (kind - 7)
others_place c s node kind le = grind arith

place_below : (c s home node kind : ℕ) → Placed c s home node kind → place c s node kind < 2 * s + 3
place_below c s home node kind (finish le lt e) = omega (arith, finish_place c s node kind e)
place_below c s home node kind (forget le lt e) = omega (arith, forget_place c s node kind e)
place_below c s home node kind (others e le lt) = omega (arith, others_place c s node kind le)

place_tells : (c s home node kind other k : ℕ) → Placed c s home node kind → Placed c s home other k → place c s node kind ≡ place c s other k
    → (node ≡ other) × (kind ≡ k)
place_tells c s home node kind other k (finish a b d) (finish x y z) e =
    let p = finish_place c s node kind d in let q = finish_place c s other k z in (omega arith, omega arith)
place_tells c s home node kind other k (finish a b d) (forget x y z) e =
    let p = finish_place c s node kind d in let q = forget_place c s other k z in absurd (omega arith)
place_tells c s home node kind other k (finish a b d) (others x y z) e =
    let p = finish_place c s node kind d in let q = others_place c s other k y in absurd (omega arith)
place_tells c s home node kind other k (forget a b d) (finish x y z) e =
    let p = forget_place c s node kind d in let q = finish_place c s other k z in absurd (omega arith)
place_tells c s home node kind other k (forget a b d) (forget x y z) e =
    let p = forget_place c s node kind d in let q = forget_place c s other k z in (omega arith, omega arith)
place_tells c s home node kind other k (forget a b d) (others x y z) e =
    let p = forget_place c s node kind d in let q = others_place c s other k y in absurd (omega arith)
place_tells c s home node kind other k (others a b d) (finish x y z) e =
    let p = others_place c s node kind b in let q = finish_place c s other k z in absurd (omega arith)
place_tells c s home node kind other k (others a b d) (forget x y z) e =
    let p = others_place c s node kind b in let q = forget_place c s other k z in absurd (omega arith)
place_tells c s home node kind other k (others a b d) (others x y z) e =
    let p = others_place c s node kind b in let q = others_place c s other k y in (omega arith, omega arith)

placed : (K : Shape) (lane node kind : ℕ) → IsPlaced K lane node kind → Placed K.coordinators K.shards (lane / K.lanes) node kind
placed K lane node kind (at_shard le lt (inl e)) = finish le lt e
placed K lane node kind (at_shard le lt (inr e)) = forget le lt e
placed K lane node kind (at_home e le lt) = others e le lt

-- a code tells the lane, the node and the kind
code_tells_lane : (m a b i j : ℕ) → i < m → j < m → a * m + i ≡ b * m + j → (a ≡ b) × (i ≡ j)
code_tells_lane m a b i j lt lu e =
    let same : a ≡ b = sym (div-mul-add a m i lt) ∙ ap (λ n. n / m) e ∙ div-mul-add b m j lu in
    let products : a * m ≡ b * m = ap (λ n. n * m) same in
    (same, omega arith)

pub record SamePlace (lane node kind other n k : ℕ) : Type 0 where
  pub lanes : lane ≡ other
  pub nodes : node ≡ n
  pub kinds : kind ≡ k

pub code_tells : (K : Shape) (lane node kind other n k : ℕ) → IsPlaced K lane node kind → IsPlaced K other n k
    → code_of K lane node kind ≡ code_of K other n k
    → SamePlace lane node kind other n k
code_tells K lane node kind other n k p q e =
    let l = code_tells_lane (2 * K.shards + 3) lane other (place_of K node kind) (place_of K n k)
    (place_below K.coordinators K.shards (lane / K.lanes) node kind (placed K lane node kind p))
    (place_below K.coordinators K.shards (other / K.lanes) n k (placed K other n k q)) e in
    let home : other / K.lanes ≡ lane / K.lanes = ap (λ x. x / K.lanes) (sym l.0) in
    let t = place_tells K.coordinators K.shards (lane / K.lanes) node kind n k (placed K lane node kind p)
    (subst (λ h. Placed K.coordinators K.shards h n k) home (placed K other n k q)) l.1 in
    record { lanes = l.0; nodes = t.0; kinds = t.1 }

-- and is below the number of lanes times the records of a batch
small : (lanes lane m i : ℕ) → lane < lanes → i < m → lane * m + i < lanes * m
small lanes lane m i lt l = let z : (lane + 1) * m ≤ lanes * m = mul-le-mul_right m (omega arith) in omega arith

pub code_below : (K : Shape) (lane node kind : ℕ) → lane < K.coordinators * K.lanes → IsPlaced K lane node kind
    → code_of K lane node kind < K.coordinators * K.lanes * (2 * K.shards + 3)
code_below K lane node kind lt p =
    small (K.coordinators * K.lanes) lane (2 * K.shards + 3) (place_of K node kind) lt
    (place_below K.coordinators K.shards (lane / K.lanes) node kind (placed K lane node kind p))
