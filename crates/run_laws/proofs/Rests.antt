-- In kept journals a lane that is idle at its coordinator is settled.
use Rattle.std.proofs.Common.{◌≡◌, ◌⊎◌, inl, inr, ℕ, ◌+◌, ◌-◌, ◌/◌, ◌<◌, ◌≤◌, true, false, ◌&&◌, ◌==◌, nat_lt, if◌then◌else◌, List, [], ◌∷◌, ◌++◌}
use Rattle.std.proofs.Common.{Some, None, is_some, refl, sym, ap, ◌∙◌, subst, arith}
use Rattle.cbdc_model.specs.Records.{Shape, Batch, Compact, Record, Row, kind_of, is_of, record_of, journal, last_stamp, Lock, Finish, Forget}
use Rattle.cbdc_model.specs.Records.{Prepare, Commit, Discard, Done}
use Rattle.cbdc_model.specs.Ranges.{home_of, shard_node}
use Rattle.cbdc_model.specs.Slots.{slot, slot_stamp, Idle}
use Rattle.cbdc_model.specs.Clean.{IsProperCompact}
use Rattle.cbdc_model.specs.History.{Minted, minted, first_rows}
use Rattle.cbdc_model.specs.Sights.{Sight}
use Rattle.lane_laws.specs.Batches.{Settled}
use Rattle.ledger_laws.proofs.Next.{Steady}
use Rattle.ledger_laws.proofs.ByKind.{found_passes, at_a_node}
use Rattle.ledger_laws.proofs.Slots.{JournalOk}
use Rattle.ledger_laws.proofs.More.{MoreOk}
use Rattle.ledger_laws.proofs.Moves.{split_test, all_structure, all_more}
use Rattle.ledger_laws.proofs.FirstJournals.{first_beyond}
use Rattle.ledger_laws.proofs.Ledger.{steady}
use Rattle.ledger_laws.proofs.Settling.{shard_idle, shard_number, shard_stamp}
use Rattle.run_laws.specs.Runs.{seen_by, RestLaw, CheckedRestLaw}
use Rattle.run_laws.proofs.Checked.{Any, rows_of}

-- no record of a batch stands before the lane came to it
none_later : (J : List Record) → JournalOk J → MoreOk J → (kind : ℕ) (b : Batch) → (slot J b.lane).number < b.number → record_of kind J b ≡ None
none_later J ok more kind b lt =
    elim (record_of kind J b) as (λ o. record_of kind J b ≡ o → o ≡ None) [
      | None ↦ λ e. refl
      | Some r ↦ λ e. absurd (below r e (found_passes kind J b r e))
    ] refl
  where
    some : (k : ℕ) (r : Record) → (k ≡ kind) → record_of kind J b ≡ Some r → is_some (record_of k J b) ≡ true
    some k r s e = subst (λ m. is_some (record_of m J b) ≡ true) (sym s) (ap is_some e)

    below : (r : Record) → record_of kind J b ≡ Some r → ((kind_of r == kind) && is_of b r) ≡ true → ⊥
    below (Lock stamp c es) e t = omega (arith, lt, ok.lock_below b (some 2 _ (split_test 2 kind c b t).0 e))
    below (Finish stamp c ds) e t = omega (arith, lt, ok.finish_below b (some 3 _ (split_test 3 kind c b t).0 e))
    below (Forget stamp c) e t = omega (arith, lt, more.forget_below b (some 4 _ (split_test 4 kind c b t).0 e))
    below (Prepare stamp c txs) e t = omega (arith, lt, ok.prepare_below b (some 6 _ (split_test 6 kind c b t).0 e))
    below (Commit stamp c os) e t = omega (arith, lt, more.commit_below b (some 7 _ (split_test 7 kind c b t).0 e))
    below (Discard stamp c) e t = omega (arith, lt, more.discard_below b (some 8 _ (split_test 8 kind c b t).0 e))
    below (Done stamp c) e t = omega (arith, lt, more.done_below b (some 9 _ (split_test 9 kind c b t).0 e))
    below other e t = grind (arith, t)

-- behind the last node there is no journal
pub none_beyond : (K : Shape) (minting : Minted) (P : Compact → Type 0) (later : List Row) → Steady K minting P later → (n : ℕ)
    → K.coordinators + K.shards ≤ n
    → journal n (later ++ first_rows K minting) ≡ []
none_beyond K minting P [] kept n le = first_beyond K minting n le
none_beyond K minting P (row ∷ later) kept n le =
    let below : row.node < K.coordinators + K.shards = at_a_node K row.node (journal row.node (later ++ first_rows K minting)) row.what kept.0 in
    let other : (row.node == n) ≡ false = grind (arith, below, le) in
    ap (λ t. if t then row.what ∷ journal n (later ++ first_rows K minting) else journal n (later ++ first_rows K minting)) other
    ∙ none_beyond K minting P later kept.3 n le

module _ (K : Shape) (minting : Minted) (P : Compact → Type 0) (some : 0 < K.shards) (later : List Row) (kept : Steady K minting P later) (lane : ℕ)
    (home : home_of K lane < K.coordinators) (logs shards : ℕ → Sight)
    (are : (n : ℕ) → journal n (later ++ first_rows K minting) ≡ seen_by K logs shards n)
    (idle : (slot (logs (home_of K lane)).seen lane).phase ≡ Idle) where
  abbrev log : List Record
  log = (logs (home_of K lane)).seen

  -- the coordinator's journal, and a shard's
  at_home : journal (home_of K lane) (later ++ first_rows K minting) ≡ log
  at_home = are (home_of K lane) ∙ ap (λ t. if t then (logs (home_of K lane)).seen else (shards (home_of K lane - K.coordinators)).seen) low
    where
      low : nat_lt (home_of K lane) K.coordinators ≡ true
      low = grind (arith, home)

  at_shard : (s : ℕ) → journal (shard_node K s) (later ++ first_rows K minting) ≡ (shards s).seen
  at_shard s = are (shard_node K s) ∙ ap (λ t. if t then (logs (shard_node K s)).seen else (shards (shard_node K s - K.coordinators)).seen) high
      ∙ ap (λ m. (shards m).seen) back
    where
      high : nat_lt (shard_node K s) K.coordinators ≡ false
      high = grind arith

      back : shard_node K s - K.coordinators ≡ s
      back = omega arith

  idle_home : (slot (journal (lane / K.lanes) (later ++ first_rows K minting)) lane).phase ≡ Idle
  idle_home = ap (λ J. (slot J lane).phase) at_home ∙ idle

  ok_at : (n : ℕ) → JournalOk (journal n (later ++ first_rows K minting))
  ok_at n = (all_structure K minting P some later kept).journals n

  more_at : (n : ℕ) → MoreOk (journal n (later ++ first_rows K minting))
  more_at n = all_more K minting P some later kept n

  no_journal : (s : ℕ) → K.shards ≤ s → (shards s).seen ≡ []
  no_journal s le = sym (at_shard s) ∙ none_beyond K minting P later kept (shard_node K s) (omega arith)

  in_or_beyond : (s : ℕ) → (s < K.shards) ⊎ (K.shards ≤ s)
  in_or_beyond s = grind arith

  idle_there : (s : ℕ) → (slot (shards s).seen lane).phase ≡ Idle
  idle_there s = elim (in_or_beyond s) [
    | inl lt ↦ ap (λ J. (slot J lane).phase) (sym (at_shard s)) ∙ shard_idle K minting P some later kept lane idle_home s lt
    | inr le ↦ ap (λ J. (slot J lane).phase) (no_journal s le)
  ]

  number_there : (s : ℕ) → (slot (shards s).seen lane).number ≤ (slot log lane).number
  number_there s =
      let here : (slot (journal (home_of K lane) (later ++ first_rows K minting)) lane).number ≡ (slot log lane).number =
      ap (λ J. (slot J lane).number) at_home in
      let there : (slot (journal (shard_node K s) (later ++ first_rows K minting)) lane).number ≡ (slot (shards s).seen lane).number =
      ap (λ J. (slot J lane).number) (at_shard s) in
      omega (arith, shard_number K minting P some later kept lane s)

  stamp_there : (s : ℕ) → slot_stamp (shards s).seen lane ≤ last_stamp log
  stamp_there s = elim (in_or_beyond s) [
    | inl lt ↦ inside lt
    | inr le ↦ outside le
  ]
    where
      inside : s < K.shards → slot_stamp (shards s).seen lane ≤ last_stamp log
      inside lt =
          let here : last_stamp (journal (home_of K lane) (later ++ first_rows K minting)) ≡ last_stamp log = ap last_stamp at_home in
          let there : slot_stamp (journal (shard_node K s) (later ++ first_rows K minting)) lane ≡ slot_stamp (shards s).seen lane =
          ap (λ J. slot_stamp J lane) (at_shard s) in
          omega (arith, shard_stamp K minting P some later kept lane idle_home s lt)

      outside : K.shards ≤ s → slot_stamp (shards s).seen lane ≤ last_stamp log
      outside le = let z : slot_stamp (shards s).seen lane ≡ 0 = ap (λ J. slot_stamp J lane) (no_journal s le) in omega arith

  fresh_at : (n : ℕ) (J : List Record) → journal n (later ++ first_rows K minting) ≡ J → (kind : ℕ) (b : Batch) → (slot J b.lane).number < b.number
      → record_of kind J b ≡ None
  fresh_at n J e kind b lt = none_later J (subst JournalOk e (ok_at n)) (subst MoreOk e (more_at n)) kind b lt

  pub rests : (logs (home_of K lane)).header.shape ≡ K → Settled K lane (slot log lane).number (logs (home_of K lane)) shards
  rests shape = record {
    home = home;
    shape = shape;
    number = refl;
    idle = idle;
    shard_idle = idle_there;
    shard_number = number_there;
    shard_stamp = stamp_there;
    fresh_log = λ kind b e lt. fresh_at (home_of K lane) log at_home kind b (same_lane log b e lt);
    fresh_shard = λ s kind b e lt. fresh_at (shard_node K s) (shards s).seen (at_shard s) kind b
        (same_lane (shards s).seen b e (omega (arith, number_there s, lt)));
  }
    where
      same_lane : (J : List Record) (b : Batch) → b.lane ≡ lane → (slot J lane).number < b.number → (slot J b.lane).number < b.number
      same_lane J b e lt = subst (λ l. (slot J l).number < b.number) (sym e) lt

pub rest_law : RestLaw
rest_law K mint submissions lane logs shards some home shape kept idle =
    rests K (minted mint) (IsProperCompact submissions) some kept.later (steady K (minted mint) (IsProperCompact submissions) kept.later kept.kept)
    lane home logs shards kept.history.journals_are idle shape

pub checked_rest_law : CheckedRestLaw
checked_rest_law K m lane logs shards some home shape checked idle =
    rests K m Any some checked.later (rows_of K m (seen_by K logs shards) checked) lane home logs shards checked.history.journals_are idle shape
