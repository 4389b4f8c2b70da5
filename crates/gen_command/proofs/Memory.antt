-- Nodes in memory: their disks never fail, and have room for a workload's first records.
use Rattle.std.proofs.Common.{◌≡◌, ◌⊎◌, inl, inr, ◌+◌, ◌-◌, ◌*◌, ◌^◌, ◌<◌, ◌≤◌, ℕ, zero, suc, Bool, true, false, nat_lt, if◌then◌else◌, List, []}
use Rattle.std.proofs.Common.{◌++◌, length, map, get_or, Option, Some, None, refl, ap, subst, arith}
use Rattle.std.specs.Prelude.{slice_get}
use Rattle.std.specs.List.{range_with_len, All}
use Rattle.std.proofs.lemmas.Option.{slice_get_cases}
use Rattle.std.proofs.lemmas.List.Elements.{All-map}
use Rattle.std.proofs.lemmas.List.FromFn.{length-map-range_with_len}
use Rattle.std.proofs.lemmas.List.Sums.{sum_by-le}
use Rattle.outside.specs.Counts.{Rose}
use Rattle.cbdc_types.specs.Limits.{IsWithinLimits}
use Rattle.cbdc_types.specs.declared.answer.Answer.{Answer}
use Rattle.cbdc_types.specs.declared.answer.Answer.TheVariants as answers
use Rattle.cbdc_model.specs.Records.{Shape, Genesis, Start}
use Rattle.cbdc_model.specs.Coins.{Output, FullTx, genesis_id, genesis_hashes}
use Rattle.cbdc_model.specs.Clean.{value_out}
use Rattle.cbdc_model.specs.History.{minted, header_of}
use Rattle.input_files.specs.Contents.{all_txs}
use Rattle.submissions.specs.SoundTest.{sound_by}
use Rattle.rack_laws.specs.Ready.{limit_at}
use Rattle.rack_laws.specs.Small.{AreSmall, AllSmall}
use Rattle.rack_laws.proofs.Small.{new_room}
use Rattle.gen_command.specs.Generated.{all_good, files_of}
use Rattle.cbdc_model.specs.Ranges.{on_shard, node_count}
use Rattle.cbdc_model.specs.Room.{size_of}
use Rattle.mirror_devices.specs.declared.mirror_rack.MirrorRack.{MirrorRack}
use Rattle.mem_devices.specs.Places.{faults_at, disk_in, HasNoDiskOut}
use Rattle.mirror_devices.specs.MirrorRacks.{PlainMirror, NoMirrorOut, mirror_at, plain_mirror}
use Rattle.record_log.specs.Bodies.{body_of}
use Rattle.gate_journal.specs.Rows.{row}
use Rattle.rack_ledgers.specs.Blank.{IsInUse}
use Rattle.ledger_init.specs.Made.{first_record_of, IsUnmade}
use Rattle.workload.specs.Generator.{coin, coin_value, mint_of, minted_of, joined_of, split_of, join_of}
use Rattle.mirror_devices.specs.Empty.{copies_at}
use Rattle.mirror_devices.proofs.Blank.{empty_content, empty_limit}
use Rattle.gen_command.specs.InMemory.{AreDisksReady, AreMirrorsEmpty, HaveRoomForFiles}
use Rattle.gen_command.proofs.FirstShown.{on_length, made_length}

-- ---- the rack

-- each node's disk is there
pub there : (rack : MirrorRack) → NoMirrorOut rack → (n : ℕ) → n < 80 → (d : PlainMirror) × (mirror_at rack n ≡ Some d)
there rack all n low = go ((slice_get_cases rack.places.items n).1)
  where
    in_place : (place : Option PlainMirror) → slice_get rack.places.items n ≡ Some place → (d : PlainMirror) × (mirror_at rack n ≡ Some d)
    in_place None is = absurd (subst HasNoDiskOut is (all n))
    in_place (Some d) is = (d, ap disk_in is)

    go : ((x : Option PlainMirror) × (n < length rack.places.items) × (slice_get rack.places.items n ≡ Some x) × (get_or rack.places.items n x ≡ x))
        ⊎ ((length rack.places.items ≤ n) × (slice_get rack.places.items n ≡ None)) → (d : PlainMirror) × (mirror_at rack n ≡ Some d)
    go (inl (x, inside, is, same)) = in_place x is
    go (inr (past, is)) = absurd (let whole = rack.whole in omega (arith, low, past, whole))

-- none of them ever fails
pub none_rose : (before now n : ℕ) → n < 80 → Rose (faults_at before n) (faults_at now n) → ⊥
none_rose before now n low rose =
    let t : nat_lt n 80 ≡ true = grind (arith, low) in
    let was : faults_at before n ≡ 0 = ap (λ (b : Bool). if b then 0 else before) t in
    let is : faults_at now n ≡ 0 = ap (λ (b : Bool). if b then 0 else now) t in
    omega (arith, rose, was, is)

-- ---- a ledger is made, unless memory runs out

nothing_there : (n : ℕ) → IsInUse n [] → ⊥
nothing_there zero has = no_row (body_of has.what) has.more has.parts
  where
    no_row : (body more : List ℕ) → [] ≡ row body ++ more → ⊥
    no_row body more e = cc
nothing_there (suc n) has = no_row (body_of has.first) has.rest has.parts
  where
    no_row : (body more : List ℕ) → [] ≡ row body ++ more → ⊥
    no_row body more e = cc

module _ (K : Shape) (mint : List Output) (rack : MirrorRack) (ready : AreDisksReady K mint rack) (now : ℕ) where
  few_nodes : (n : ℕ) → n < node_count K → n < 80
  few_nodes n inside = omega (arith, inside, ready.limits.coordinators, ready.limits.shards)

  pub unmade_memory : (a : Answer) → IsUnmade K mint plain_mirror (mirror_at rack) (faults_at rack.misses) (faults_at now) a → a ≡ answers.Memory
  unmade_memory answers.Ok why = absurd why
  unmade_memory answers.BadWords why = absurd why
  unmade_memory (answers.BadInput file at kind) why = absurd why
  unmade_memory (answers.TooMuch total) why = absurd (let fits = ready.fits in let is = why.0 in let much = why.1 in omega (arith, fits, is, much))
  unmade_memory (answers.NotReady k) why = absurd why
  unmade_memory (answers.Foreign k kept asked) why = absurd why
  unmade_memory (answers.NotEmpty k) why =
      let e = ready.empty k why.inside in
      absurd (nothing_there k (why.in_use e.0 e.1 [] e.2))
  unmade_memory (answers.Full k used need capacity) why =
      let e = ready.empty k why.2.inside in
      let need_is = why.2.need_is in
      let capacity_is = why.2.capacity_is e.0 e.1 in
      let passes = why.2.passes in
      let room = e.3 in
      absurd (omega (arith, need_is, capacity_is, passes, room))
  unmade_memory (answers.Unsound place kind) why = absurd why
  unmade_memory (answers.ClockEnd k stamp) why = absurd why
  unmade_memory (answers.Damaged k at) why = absurd why
  unmade_memory (answers.ReadFault file) why = absurd why
  unmade_memory answers.WriteFault why = absurd why
  unmade_memory (answers.DiskFault k) why = absurd (none_rose rack.misses now k (few_nodes k why.1) why.2)
  unmade_memory answers.Memory why = refl

-- ---- a workload's nodes are ready

module _ (K : Shape) (seed n : ℕ) (small : n ≤ 10000) where
  minted_few : length (mint_of seed n) ≤ minted_of n
  minted_few = let many = length-map-range_with_len (coin seed) 0 (minted_of n) in omega (arith, many)

  low_value : (i : ℕ) → coin_value seed i ≤ 101
  low_value i = omega arith

  total_fits : value_out (mint_of seed n) < 2 ^ 64
  total_fits =
      let each : All (λ o. o.value ≤ 101) (mint_of seed n) =
      All-map (λ o. o.value ≤ 101) (coin seed) (range_with_len 0 (minted_of n)) (λ k d lt. low_value _) in
      let sum = sum_by-le (λ o. o.value) 101 (mint_of seed n) each in
      let few = minted_few in
      omega (arith, sum, few, small)

  first_fits : (node : ℕ) → size_of (first_record_of K (mint_of seed n) node) + 1 ≤ 4096 + 400 * n
  first_fits node = go (nat_lt node K.coordinators)
    where
      go : (b : Bool) → size_of (if b then Start (header_of K (genesis_id (mint_of seed n)) node)
          else Genesis (header_of K (genesis_id (mint_of seed n)) node) (on_shard K (node - K.coordinators) (genesis_hashes (mint_of seed n)))) + 1
          ≤ 4096 + 400 * n
      go true = omega arith
      go false =
          let here = on_length K (node - K.coordinators) (genesis_hashes (mint_of seed n)) in
          let all = made_length (genesis_id (mint_of seed n)) 0 (mint_of seed n) in
          let few = minted_few in
          omega (arith, here, all, few)

  pub are_ready : (replicas : ℕ) (rack : MirrorRack) → IsWithinLimits K → AreMirrorsEmpty K replicas n rack → AreDisksReady K (mint_of seed n) rack
  are_ready replicas rack limits empty = record {
    limits = limits;
    fits = total_fits;
    empty = λ node inside.
        let e = empty node inside in
        let room = empty_limit (copies_at K.coordinators replicas node) (4096 + 400 * n) e.0 e.2 in
        let first = first_fits node in
        (e.0, e.1, empty_content (copies_at K.coordinators replicas node) (4096 + 400 * n) e.0 e.2, omega (arith, room, first));
  }

  -- and have room for all that comes of the workload
  minted_many : length (genesis_hashes (mint_of seed n)) ≡ length (mint_of seed n)
  minted_many = made_length (genesis_id (mint_of seed n)) 0 (mint_of seed n)

  all_many : all_txs (files_of seed n) ≡ n
  all_many =
      let a = length-map-range_with_len (split_of seed n (genesis_id (mint_of seed n))) 0 (minted_of n) in
      let b = length-map-range_with_len (join_of seed n (genesis_id (mint_of seed n))) 0 (joined_of n) in
      omega (arith, a, b)

  small_files : AllSmall (files_of seed n)
  small_files = (
    each_small (split_of seed n (genesis_id (mint_of seed n))) (λ i. omega arith) 0 (minted_of n),
    (each_small (join_of seed n (genesis_id (mint_of seed n))) (λ i. omega arith) 0 (joined_of n), tt),
  )
    where
      each_small : (f : ℕ → FullTx) → ((i : ℕ) → length (f i).inputs + length (f i).outputs ≤ 3) → (k m : ℕ) → AreSmall (map f (range_with_len k m))
      each_small f each k zero = tt
      each_small f each k (suc m) = (each k, each_small f each (k + 1) m)

  pub workload_fits : (replicas : ℕ) (rack : MirrorRack) → IsWithinLimits K → AreMirrorsEmpty K replicas n rack
      → HaveRoomForFiles K (mint_of seed n) (files_of seed n) rack
  workload_fits replicas rack limits empty =
      new_room K (minted (mint_of seed n)) (sound_by all_good) (λ node. limit_at plain_mirror (mirror_at rack node)) (files_of seed n) limits
      small_files (omega (arith, all_many, small)) (
        (λ node low. (let e = empty node (omega (arith, low)) in
            omega (arith, all_many, ap (limit_at plain_mirror) e.1, empty_limit (copies_at K.coordinators replicas node) (4096 + 400 * n) e.0 e.2))),
        (λ node high inside. (let e = empty node inside in
            omega (
              arith,
              all_many,
              minted_many,
              minted_few,
              ap (limit_at plain_mirror) e.1,
              empty_limit (copies_at K.coordinators replicas node) (4096 + 400 * n) e.0 e.2,
            ))),
      )
