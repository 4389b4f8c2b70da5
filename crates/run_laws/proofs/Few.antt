-- The records with stamps above 2^62 have codes of their own, so they are few.
use Rattle.std.proofs.Common.{◌≡◌, inl, inr, ℕ, suc, ◌+◌, ◌*◌, ◌^◌, ◌<◌, ◌≤◌, Bool, true, false, ◌&&◌, ◌||◌, ◌==◌, if◌then◌else◌, List, [], ◌∷◌, ◌++◌}
use Rattle.std.proofs.Common.{length, Some, None, is_some, refl, sym, ap, ◌∙◌, subst, arith}
use Rattle.std.proofs.Math.Dec.{eqb}
use Rattle.std.specs.List.{IsDistinct, AllByRecursion, list_any}
use Rattle.std.proofs.lemmas.Bool.{eqb-true}
use Rattle.std.proofs.lemmas.Map.Steps.{length-le_from_distinct_below}
use Rattle.std.proofs.Math.Nat.{mul-le-mul}
use Rattle.cbdc_types.specs.Limits.{IsWithinLimits}
use Rattle.cbdc_model.specs.Records.{Shape, Batch, Compact, Record, Row, journal, record_of, stamp_of, stamp_in, last_stamp, kind_of, is_of, Lock}
use Rattle.cbdc_model.specs.Records.{Finish, Forget, Prepare, Commit, Discard, Done, Upgrade, Seal}
use Rattle.cbdc_model.specs.Causes.{IsCaused}
use Rattle.cbdc_model.specs.Clean.{IsProperCompact}
use Rattle.cbdc_model.specs.Grammar.{IsInGrammar}
use Rattle.cbdc_model.specs.History.{Minted, minted, header_of, first_rows}
use Rattle.ledger_laws.proofs.Next.{Next, Steady}
use Rattle.ledger_laws.proofs.Rows.{at, away, at_node, head_at, head_away}
use Rattle.ledger_laws.proofs.Slots.{same_batch_self}
use Rattle.ledger_laws.proofs.Moves.{once, test_step, all_structure, all_more}
use Rattle.ledger_laws.proofs.Found.{found_new}
use Rattle.ledger_laws.proofs.Late.{one_late}
use Rattle.ledger_laws.proofs.Ledger.{steady}
use Rattle.run_laws.specs.Laws.{late_records, FewLateLaw, NoneRefusedLaw}
use Rattle.run_laws.proofs.Codes.{code_of, IsPlaced, at_shard, at_home, SamePlace, code_tells, code_below}
use Rattle.run_laws.proofs.WorldStamps.{caused_le, found_le, lane_in, is_late, late_above, late_codes, stamps_le}
use Rattle.cbdc_model.specs.After.{IsFirst}

-- a record of a batch, with its place in the lane
pub record Placed (K : Shape) (node : ℕ) (r : Record) : Type 0 where
  pub batch : Batch
  pub is_of : ((kind_of r == kind_of r) && is_of batch r) ≡ true
  pub lane : batch.lane ≡ lane_in r
  pub below : batch.lane < K.coordinators * K.lanes
  pub place : IsPlaced K batch.lane node (kind_of r)

too_late : (stamp : ℕ) → 2 ^ 62 < stamp → stamp ≤ 2 ^ 62 → ⊥
too_late stamp lt le = omega arith

-- a late record is none of those with early stamps
placed : (K : Shape) (minting : Minted) (n : ℕ) (J : List Record) (r : Record) → Next K n J r → IsInGrammar (header_of K minting.id n) r
    → 2 ^ 62 < stamp_of r → Placed K n r
placed K minting n J (Lock stamp b es) next g late = absurd (too_late stamp late g.0.1)
placed K minting n J (Prepare stamp b txs) next g late = absurd (too_late stamp late g.0.1)
placed K minting n J (Finish stamp b ds) next g late =
    record { batch = b; is_of = same_batch_self b; lane = refl; below = g.1.0; place = at_shard next.1.0 next.1.1 (inl refl) }
placed K minting n J (Forget stamp b) next g late =
    record { batch = b; is_of = same_batch_self b; lane = refl; below = g.1.0; place = at_shard next.1.0 next.1.1 (inr refl) }
placed K minting n J (Commit stamp b os) next g late =
    record { batch = b; is_of = same_batch_self b; lane = refl; below = g.1.0; place = at_home next.2 (omega arith) (omega arith) }
placed K minting n J (Discard stamp b) next g late =
    record { batch = b; is_of = same_batch_self b; lane = refl; below = g.1.0; place = at_home next.2 (omega arith) (omega arith) }
placed K minting n J (Done stamp b) next g late =
    record { batch = b; is_of = same_batch_self b; lane = refl; below = g.1.0; place = at_home next.2 (omega arith) (omega arith) }
placed K minting n J (Upgrade stamp batch) next g late = absurd g
placed K minting n J (Seal stamp to shards) next g late = absurd g
placed K minting n J other next g late = absurd next

some_late : (o : ℕ → List Record) (kind n : ℕ) (b : Batch) → 2 ^ 62 < stamp_in (record_of kind (o n) b) → is_some (record_of kind (o n) b) ≡ true
some_late o kind n b lt = elim (record_of kind (o n) b) as (λ f. 2 ^ 62 < stamp_in f → is_some f ≡ true)
    [ None ↦ λ h. absurd (omega arith) | Some r ↦ λ h. refl ] lt

none_equal : (k : ℕ) (xs : List ℕ) → list_any (eqb k) xs ≡ false → AllByRecursion (λ y. eqb k y ≡ false) xs
none_equal k [] h = tt
none_equal k (x ∷ xs) h = (head (eqb k x) (list_any (eqb k) xs) h, none_equal k xs (tail (eqb k x) (list_any (eqb k) xs) h))
  where
    head : (a b : Bool) → (a || b) ≡ false → a ≡ false
    head a b h = grind arith

    tail : (a b : Bool) → (a || b) ≡ false → b ≡ false
    tail a b h = grind arith

module _ (K : Shape) (minting : Minted) (P : Compact → Type 0) (shards : 0 < K.shards) where
  abbrev whole : List Row → ℕ → List Record
  whole later n = journal n (later ++ first_rows K minting)

  -- a record with this code is late
  record LateAt (later : List Row) (code : ℕ) : Type 0 where
    node : ℕ
    kind : ℕ
    batch : Batch
    below : batch.lane < K.coordinators * K.lanes
    place : IsPlaced K batch.lane node kind
    is : code ≡ code_of K batch.lane node kind
    late : 2 ^ 62 < stamp_in (record_of kind (whole later node) batch)

  -- what is late stays so behind another row
  later_late : (row : Row) (later : List Row) → Steady K minting P (row ∷ later) → (n kind : ℕ) (b : Batch)
      → 2 ^ 62 < stamp_in (record_of kind (whole later n) b)
      → 2 ^ 62 < stamp_in (record_of kind (whole (row ∷ later) n) b)
  later_late row later kept n kind b late = elim (at_node row.node n) [
    | away a ↦ subst (λ J. 2 ^ 62 < stamp_in (record_of kind J b)) (sym (head_away row (later ++ first_rows K minting) n a)) late
    | at a ↦ subst (λ J. 2 ^ 62 < stamp_in (record_of kind J b)) (sym (head_at row (later ++ first_rows K minting) n a))
        (elim ((kind_of row.what == kind) && is_of b row.what) as
        (λ t. ((kind_of row.what == kind) && is_of b row.what) ≡ t → 2 ^ 62 < stamp_in (record_of kind (row.what ∷ whole later n) b)) [
          | true ↦ λ t. absurd (once K row.node (whole later row.node) ((all_structure K minting P shards later kept.3).journals row.node)
              (all_more K minting P shards later kept.3 row.node)
              row.what kept.0 kind b t (subst (λ m. is_some (record_of kind (whole later m) b) ≡ true) (sym a)
              (some_late (whole later) kind n b late)))
          | false ↦ λ t. subst (λ o. 2 ^ 62 < stamp_in o) (sym (test_step kind row.what (whole later n) b t)) late
        ] refl)
  ]

  lift : (row : Row) (later : List Row) → Steady K minting P (row ∷ later) → (code : ℕ) → LateAt later code → LateAt (row ∷ later) code
  lift row later kept code l =
      record {
        node = l.node;
        kind = l.kind;
        batch = l.batch;
        below = l.below;
        place = l.place;
        is = l.is;
        late = later_late row later kept l.node l.kind l.batch l.late;
      }

  row_placed : (row : Row) (later : List Row) → Steady K minting P (row ∷ later) → is_late row.what ≡ true → Placed K row.node row.what
  row_placed row later kept t = placed K minting row.node (whole later row.node) row.what kept.0 kept.4 (late_above row.what t)

  row_late : (row : Row) (later : List Row) → is_late row.what ≡ true → (p : Placed K row.node row.what)
      → 2 ^ 62 < stamp_in (record_of (kind_of row.what) (whole (row ∷ later) row.node) p.batch)
  row_late row later t p = subst (λ J. 2 ^ 62 < stamp_in (record_of (kind_of row.what) J p.batch))
      (sym (head_at row (later ++ first_rows K minting) row.node refl))
      (subst (λ o. 2 ^ 62 < stamp_in o) (sym (found_new (kind_of row.what) row.what (whole later row.node) p.batch p.is_of)) (late_above row.what t))

  same_code : (row : Row) (later : List Row) (p : Placed K row.node row.what)
      → code_of K (lane_in row.what) row.node (kind_of row.what) ≡ code_of K p.batch.lane row.node (kind_of row.what)
  same_code row later p = ap (λ l. code_of K l row.node (kind_of row.what)) (sym p.lane)

  -- each code is a late record's
  late_at : (later : List Row) → Steady K minting P later → (code : ℕ) → list_any (eqb code) (late_codes K later) ≡ true → LateAt later code
  late_at [] kept code h = absurd (let z : false ≡ true = h in cc)
  late_at (row ∷ later) kept code h =
      elim (is_late row.what) as (λ t. is_late row.what ≡ t
      → list_any (eqb code) (if t then code_of K (lane_in row.what) row.node (kind_of row.what) ∷ late_codes K later else late_codes K later) ≡ true
      → LateAt (row ∷ later) code) [
        | true ↦ λ t h. elim (eqb code (code_of K (lane_in row.what) row.node (kind_of row.what))) as
            (λ c. eqb code (code_of K (lane_in row.what) row.node (kind_of row.what)) ≡ c
            → (c || list_any (eqb code) (late_codes K later)) ≡ true → LateAt (row ∷ later) code) [
              | true ↦ λ e h.
                  let p = row_placed row later kept t in
                  record {
                    node = row.node;
                    kind = kind_of row.what;
                    batch = p.batch;
                    below = p.below;
                    place = p.place;
                    is = eqb-true code (code_of K (lane_in row.what) row.node (kind_of row.what)) e ∙ same_code row later p;
                    late = row_late row later t p;
                  }
              | false ↦ λ e h. lift row later kept code (late_at later kept.3 code h)
            ] refl h
        | false ↦ λ t h. lift row later kept code (late_at later kept.3 code h)
      ] refl h

  -- a new row's code is none of those before
  new_code : (row : Row) (later : List Row) → Steady K minting P (row ∷ later) → is_late row.what ≡ true
      → list_any (eqb (code_of K (lane_in row.what) row.node (kind_of row.what))) (late_codes K later) ≡ true → ⊥
  new_code row later kept t h = by_place (row_placed row later kept t)
      (late_at later kept.3 (code_of K (lane_in row.what) row.node (kind_of row.what)) h)
    where
      by_place : Placed K row.node row.what → LateAt later (code_of K (lane_in row.what) row.node (kind_of row.what)) → ⊥
      by_place p l =
          let s : SamePlace p.batch.lane row.node (kind_of row.what) l.batch.lane l.node l.kind
          = code_tells K p.batch.lane row.node (kind_of row.what) l.batch.lane l.node l.kind p.place l.place (sym (same_code row later p) ∙ l.is) in
          let one : p.batch ≡ l.batch = one_late K minting P shards (row ∷ later) kept p.batch l.batch
          (row.node, kind_of row.what, row_late row later t p)
          (l.node, l.kind, later_late row later kept l.node l.kind l.batch l.late) s.lanes in
          let found : is_some (record_of l.kind (whole later l.node) l.batch) ≡ true = some_late (whole later) l.kind l.node l.batch l.late in
          let here : is_some (record_of (kind_of row.what) (whole later row.node) l.batch) ≡ true
          = subst (λ k. is_some (record_of k (whole later row.node) l.batch) ≡ true) (sym s.kinds)
          (subst (λ n. is_some (record_of l.kind (whole later n) l.batch) ≡ true) (sym s.nodes) found) in
          once K row.node (whole later row.node) ((all_structure K minting P shards later kept.3).journals row.node)
          (all_more K minting P shards later kept.3 row.node)
          row.what kept.0 (kind_of row.what) l.batch (subst (λ b. ((kind_of row.what == kind_of row.what) && is_of b row.what) ≡ true) one p.is_of)
          here

  apart : (later : List Row) → Steady K minting P later → IsDistinct eqb (late_codes K later)
  unfolding IsDistinct
  apart [] kept = tt
  apart (row ∷ later) kept =
      elim (is_late row.what) as (λ t. is_late row.what ≡ t
      → IsDistinct eqb (if t then code_of K (lane_in row.what) row.node (kind_of row.what) ∷ late_codes K later else late_codes K later)) [
        | true ↦ λ t. (
          none_equal (code_of K (lane_in row.what) row.node (kind_of row.what)) (late_codes K later) (not_any (λ h. new_code row later kept t h)),
          apart later kept.3,
        )
        | false ↦ λ t. apart later kept.3
      ] refl
    where
      not_any : {c : Bool} → (c ≡ true → ⊥) → c ≡ false
      not_any h = grind arith

  few : (later : List Row) → Steady K minting P later → length (late_codes K later) ≤ late_records K
  few later kept = length-le_from_distinct_below (late_codes K later) (late_records K) (apart later kept)
      (λ code h. below code (late_at later kept code h))
    where
      below : (code : ℕ) → LateAt later code → code < late_records K
      below code l = subst (λ c. c < late_records K) (sym l.is) (code_below K l.batch.lane l.node l.kind l.below l.place)

  pub low : (later : List Row) → Steady K minting P later → (n : ℕ) → last_stamp (whole later n) ≤ 2 ^ 62 + late_records K
  low later kept n = let s = stamps_le K minting P shards later kept n in let f = few later kept in omega arith

  pub caused_low : (later : List Row) → Steady K minting P later → (n : ℕ) (r : Record) → (IsFirst r → ⊥) → IsCaused K (whole later) n r
      → stamp_of r ≤ suc (2 ^ 62 + late_records K)
  caused_low later kept n r new caused =
      caused_le K (whole later) n (2 ^ 62 + late_records K) r new (λ m. low later kept m)
      (λ kind m b. found_le K minting P shards later kept (2 ^ 62 + late_records K) (λ m. low later kept m) kind m b) caused

pub few_late_law : FewLateLaw
few_late_law K mint txs J n shards k =
    subst (λ j. last_stamp j ≤ 2 ^ 62 + late_records K) (k.history.journals_are n)
    (low K (minted mint) (IsProperCompact txs) shards k.later (steady K (minted mint) (IsProperCompact txs) k.later k.kept) n)

-- with all limits there are at most 33,536
pub few_enough : (K : Shape) → IsWithinLimits K → late_records K ≤ 33536
few_enough K limits =
    let lanes : K.coordinators * K.lanes ≤ 16 * 16 = mul-le-mul limits.coordinators limits.lanes in
    let each : 2 * K.shards + 3 ≤ 131 = let l = limits.shards in omega arith in
    let all : K.coordinators * K.lanes * (2 * K.shards + 3) ≤ 16 * 16 * 131 = mul-le-mul lanes each in
    omega arith

pub none_refused_law : NoneRefusedLaw
none_refused_law K mint txs J n r limits k later caused =
    let steady_rows = steady K (minted mint) (IsProperCompact txs) k.later k.kept in
    let c : IsCaused K (λ m. journal m (k.later ++ first_rows K (minted mint))) n r =
    subst (λ X. IsCaused K X n r) (λ i m. sym (k.history.journals_are m) i) caused in
    let l : stamp_of r ≤ suc (2 ^ 62 + late_records K) =
    caused_low K (minted mint) (IsProperCompact txs) limits.some_shard k.later steady_rows n r later c in
    let f : late_records K ≤ 33536 = few_enough K limits in
    omega arith
