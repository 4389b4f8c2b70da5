-- Each stamp above 2^62 is at most one more than those before it, so none is further above it than there are such records.
use Rattle.std.proofs.Common.{◌≡◌, ◌⊎◌, inl, inr, ◌∙◌, ℕ, suc, ◌-◌, ◌+◌, ◌^◌, ◌<◌, ◌≤◌, ◌/◌, Bool, true, false, nat_lt, if◌then◌else◌, List, [], ◌∷◌}
use Rattle.std.proofs.Common.{◌++◌, length, refl, sym, subst, arith, ap}
use Rattle.cbdc_model.specs.Records.{Shape, Batch, Compact, Record, Row, journal, record_of, stamp_of, stamp_in, last_stamp, kind_of, Genesis, Lock}
use Rattle.cbdc_model.specs.Records.{Finish, Forget, Start, Prepare, Commit, Discard, Done, Upgrade, Carry, CarryStart, Seal}
use Rattle.cbdc_model.specs.Causes.{IsCaused, at_shards}
use Rattle.cbdc_model.specs.Ranges.{shard_node, on_shard}
use Rattle.cbdc_model.specs.History.{Minted, header_of, first_rows}
use Rattle.cbdc_model.specs.World.{first_record}
use Rattle.cbdc_model.specs.After.{IsFirst}
use Rattle.ledger_laws.proofs.Resuming.{greatest_le}
use Rattle.ledger_laws.proofs.Next.{Steady}
use Rattle.ledger_laws.proofs.Rows.{at, away, at_node, head_at, head_away}
use Rattle.ledger_laws.proofs.ByKind.{next_not_first}
use Rattle.ledger_laws.proofs.FirstJournals.{first_is, first_beyond}
use Rattle.ledger_laws.proofs.Repeats.{all_order}
pub use Rattle.ledger_laws.proofs.ByKind.{lane_in}
use Rattle.run_laws.proofs.Codes.{code_of}

-- a caused record's stamp is at most one more than all that stand
pub caused_le : (K : Shape) (J : ℕ → List Record) (n top : ℕ) (r : Record) → (IsFirst r → ⊥) → ((m : ℕ) → last_stamp (J m) ≤ top)
    → ((kind m : ℕ) (b : Batch) → stamp_in (record_of kind (J m) b) ≤ top)
    → IsCaused K J n r → stamp_of r ≤ suc top
caused_le K J n top (Prepare stamp b txs) later low all c = omega (arith, low n, c)
caused_le K J n top (Lock stamp b es) later low all c = omega (arith, low n, all 6 (b.lane / K.lanes) b, c.2)
caused_le K J n top (Finish stamp b ds) later low all c = omega (arith, low n, all 7 (b.lane / K.lanes) b, c.2)
caused_le K J n top (Forget stamp b) later low all c = omega (arith, low n, all 8 (b.lane / K.lanes) b, c.1)
caused_le K J n top (Commit stamp b os) later low all c =
    omega (arith, low n, greatest_le (λ s. stamp_in (at_shards K J 2 b s)) top K.shards (λ s. all 2 (shard_node K s) b), c.2)
caused_le K J n top (Discard stamp b) later low all c =
    omega (arith, low n, greatest_le (λ s. stamp_in (at_shards K J 3 b s)) top K.shards (λ s. all 3 (shard_node K s) b), c.1)
caused_le K J n top (Done stamp b) later low all c =
    omega (arith, low n, greatest_le (λ s. stamp_in (at_shards K J 4 b s)) top K.shards (λ s. all 4 (shard_node K s) b), c.1)
caused_le K J n top (Upgrade stamp batch) later low all c = omega (arith, low n, c)
caused_le K J n top (Seal stamp to shards) later low all c = omega (arith, low n, c)
caused_le K J n top (Carry stamp header source hs numbers) later low all c = absurd (later tt)
caused_le K J n top (CarryStart stamp header source numbers) later low all c = absurd (later tt)
caused_le K J n top other later low all c = omega arith

abbrev pub is_late : Record → Bool
is_late r = nat_lt (2 ^ 62) (stamp_of r)

-- the codes of the rows with stamps above 2^62
abbrev pub late_codes : Shape → List Row → List ℕ
late_codes K [] = []
late_codes K (row ∷ later) = if is_late row.what then code_of K (lane_in row.what) row.node (kind_of row.what) ∷ late_codes K later
    else late_codes K later

is_above : (n : ℕ) → nat_lt (2 ^ 62) n ≡ true → 2 ^ 62 < n
is_above n t = grind arith

is_low : (n : ℕ) → nat_lt (2 ^ 62) n ≡ false → n ≤ 2 ^ 62
is_low n t = grind arith

pub late_above : (r : Record) → is_late r ≡ true → 2 ^ 62 < stamp_of r
late_above r t = is_above (stamp_of r) t

more_codes : (K : Shape) (row : Row) (later : List Row) → length (late_codes K later) ≤ length (late_codes K (row ∷ later))
more_codes K row later = elim (is_late row.what) as
    (λ t. length (late_codes K later) ≤ length (if t then code_of K (lane_in row.what) row.node (kind_of row.what) ∷ late_codes K later
    else late_codes K later)) [
      | true ↦ omega arith
      | false ↦ omega arith
    ]

new_stamp : (K : Shape) (row : Row) (later : List Row) → stamp_of row.what ≤ suc (2 ^ 62 + length (late_codes K later))
    → stamp_of row.what ≤ 2 ^ 62 + length (late_codes K (row ∷ later))
new_stamp K row later le = elim (is_late row.what) as
    (λ t. is_late row.what ≡ t → stamp_of row.what ≤ 2 ^ 62
    + length (if t then code_of K (lane_in row.what) row.node (kind_of row.what) ∷ late_codes K later else late_codes K later)) [
      | true ↦ λ t. omega (arith, le)
      | false ↦ λ t. omega (arith, is_low (stamp_of row.what) t)
    ] refl

in_or_beyond : (n m : ℕ) → (n < m) ⊎ (m ≤ n)
in_or_beyond n m = grind arith

-- the first records of a mint have stamp 0
pub first_stamp : (K : Shape) (m : Minted) (n : ℕ) → last_stamp (journal n (first_rows K m)) ≡ 0
first_stamp K m n = elim (in_or_beyond n (K.coordinators + K.shards)) [
  | inr le ↦ ap last_stamp (first_beyond K m n le)
  | inl lt ↦ ap last_stamp (first_is K m n lt) ∙ of_record
]
  where
    of_record : last_stamp (first_record K m n ∷ []) ≡ 0
    of_record = elim (nat_lt n K.coordinators)
        as (λ c. last_stamp ((if c then Start (header_of K m.id n) else Genesis (header_of K m.id n) (on_shard K (n - K.coordinators) m.hashes))
        ∷ []) ≡ 0) [ true ↦ refl | false ↦ refl ]

module _ (K : Shape) (minting : Minted) (P : Compact → Type 0) (shards : 0 < K.shards) where
  abbrev whole : List Row → ℕ → List Record
  whole later n = journal n (later ++ first_rows K minting)

  -- all that is found is no newer than the last
  pub found_le : (later : List Row) → Steady K minting P later → (top : ℕ) → ((m : ℕ) → last_stamp (whole later m) ≤ top) → (kind m : ℕ) (b : Batch)
      → stamp_in (record_of kind (whole later m) b) ≤ top
  found_le later kept top low kind m b = omega (arith, (all_order K minting P shards later kept m).stamps_le kind b, low m)

  pub stamps_le : (later : List Row) → Steady K minting P later → (n : ℕ) → last_stamp (whole later n) ≤ 2 ^ 62 + length (late_codes K later)
  stamps_le [] kept n = omega (arith, first_stamp K minting n)
  stamps_le (row ∷ later) kept n = elim (at_node row.node n) [
    | away a ↦ subst (λ J. last_stamp J ≤ 2 ^ 62 + length (late_codes K (row ∷ later))) (sym (head_away row (later ++ first_rows K minting) n a))
        (let l = stamps_le later kept.3 n in let m = more_codes K row later in omega arith)
    | at a ↦ subst (λ J. last_stamp J ≤ 2 ^ 62 + length (late_codes K (row ∷ later))) (sym (head_at row (later ++ first_rows K minting) n a))
        (new_stamp K row later (caused_le K (whole later) row.node (2 ^ 62 + length (late_codes K later)) row.what
        (next_not_first K row.node (whole later row.node) row.what kept.0) (λ m. stamps_le later kept.3 m)
        (λ kind m b. found_le later kept.3 (2 ^ 62 + length (late_codes K later)) (λ m. stamps_le later kept.3 m) kind m b) kept.1))
  ]
