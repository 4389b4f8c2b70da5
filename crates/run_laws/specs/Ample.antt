-- Room on the disks, and stamps, for every record that is still to come.
use Rattle.std.specs.Prelude.{◌≡◌, ℕ, ◌+◌, ◌*◌, ◌^◌, ◌<◌, ◌≤◌, Bool, not, ◌==◌, List, [], ◌∷◌, ◌++◌, length, sum_by, is_some, if◌then◌else◌}
use Rattle.std.specs.List.{filter, flat_map, range_with_len}
use Rattle.cbdc_model.specs.Records.{Shape, Compact, Entry, Record, record_of, txs_of, last_stamp, lock_kind, finish_kind, forget_kind, prepare_kind}
use Rattle.cbdc_model.specs.Records.{commit_kind, discard_kind, done_kind}
use Rattle.cbdc_model.specs.Slots.{slot}
use Rattle.cbdc_model.specs.Ranges.{home_of, shard_node, part}
use Rattle.cbdc_model.specs.Causes.{greatest}
use Rattle.cbdc_model.specs.Next.{is_idle}
use Rattle.cbdc_model.specs.Room.{compact_size}
use Rattle.cbdc_model.specs.Due.{used_of, open_batch}
use Rattle.cbdc_model.specs.Coins.{FullTx}
use Rattle.cbdc_model.specs.Waves.{sent_to, IsCut}

-- a record of a batch: its node, its kind, and its largest size in the journal
pub record Coming : Type 0 where
  pub node : ℕ
  pub kind : ℕ
  pub size : ℕ

-- an entry with the longest reply
abbrev pub largest_answered : Entry → ℕ
largest_answered e = 105 + 32 * (length e.inputs + length e.outputs)

-- what a batch of these transactions writes at its coordinator: Prepare, Commit with the longest outcomes, Discard and Done
abbrev pub at_coordinator : Shape → ℕ → List Compact → List Coming
at_coordinator K lane txs =
    record { node = home_of K lane; kind = prepare_kind; size = 42 + sum_by compact_size txs }
    ∷ (record { node = home_of K lane; kind = commit_kind; size = 42 + 57 * length txs }
    ∷ (record { node = home_of K lane; kind = discard_kind; size = 34 }
    ∷ (record { node = home_of K lane; kind = done_kind; size = 34 } ∷ [])))

-- and at a node with this part: Lock, Finish and Forget, and nothing where there is no part
abbrev pub coming_at_shard : ℕ → List Entry → List Coming
coming_at_shard node [] = []
coming_at_shard node (e ∷ es) =
    record { node = node; kind = lock_kind; size = 42 + sum_by largest_answered (e ∷ es) }
    ∷ (record { node = node; kind = finish_kind; size = 42 + length (e ∷ es) }
    ∷ (record { node = node; kind = forget_kind; size = 34 } ∷ []))

-- all records of a lane's batch of these transactions
abbrev pub records_of : Shape → ℕ → List Compact → List Coming
records_of K lane txs = at_coordinator K lane txs ++ flat_map (λ s. coming_at_shard (shard_node K s) (part K s 0 txs)) (range_with_len 0 K.shards)

-- those that the lane's open batch has not written yet, none where the lane is idle
abbrev pub unwritten : Shape → (ℕ → List Record) → ℕ → List Coming
unwritten K E lane =
    let J = E (home_of K lane) in
    let b = open_batch J lane in
    if is_idle (slot J lane).phase then [] else filter (λ c. not (is_some (record_of c.kind (E c.node) b))) (records_of K lane (txs_of J b))

-- the batches that a lane makes of files: of each file in turn, what it gets, cut into pieces of a batch's size
abbrev pub AreCut : Shape → (FullTx → Bool) → List (List FullTx) → ℕ → List (List Compact) → Type 0
AreCut K sound [] lane batches = batches ≡ []
AreCut K sound (file ∷ files) lane batches =
    (own later : List (List Compact)) × IsCut K.batch (sent_to K sound file lane) own × AreCut K sound files lane later × (batches ≡ own ++ later)

-- what is still to come of all lanes: of the open batches, and of the new ones
abbrev pub still_to_come : Shape → (ℕ → List Record) → (ℕ → List (List Compact)) → List Coming
still_to_come K E batches =
    flat_map (λ lane. unwritten K E lane ++ flat_map (records_of K lane) (batches lane)) (range_with_len 0 (K.coordinators * K.lanes))

-- how many bytes a node's records take
abbrev pub bytes_at : ℕ → List Coming → ℕ
bytes_at n coming = sum_by (λ c. c.size) (filter (λ c. c.node == n) coming)

-- from journals E on, for files of which these submissions are sound: each disk holds its used bytes and every record still to come, each
-- at its largest size, and the greatest stamp with the number of these records is at most 2^62
pub record Ample (K : Shape) (sound : FullTx → Bool) (capacity : ℕ → ℕ) (files : List (List FullTx)) (E : ℕ → List Record) : Type 0 where
  pub batches : ℕ → List (List Compact)
  pub cut : (lane : ℕ) → lane < K.coordinators * K.lanes → AreCut K sound files lane (batches lane)
  pub room : (n : ℕ) → n < K.coordinators + K.shards → used_of (E n) + bytes_at n (still_to_come K E batches) ≤ capacity n
  pub stamps : greatest (λ n. last_stamp (E n)) (K.coordinators + K.shards) + length (still_to_come K E batches) ≤ 2 ^ 62
