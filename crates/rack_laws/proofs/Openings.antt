-- The nodes of a ledger that a rack shows open.
use Rattle.std.proofs.Common.{◌≡◌, inl, inr, ℕ, ◌+◌, ◌≤◌, ◌<◌, List, [], ◌∷◌, length, Option, Some, None, slice_get, refl, sym, ap, ap₂, ◌∙◌, subst}
use Rattle.std.proofs.Common.{arith}
use Rattle.outside.specs.Images.{Tells}
use Rattle.outside.specs.declared.disk.Disk.{Ghosts}
use Rattle.cbdc_types.specs.declared.answer.Answer.{Answer}
use Rattle.cbdc_types.specs.declared.answer.Answer.TheVariants as answers
use Rattle.cbdc_model.specs.Records.{Digest, Shape, Header, Record}
use Rattle.cbdc_model.specs.Coins.{Output, FullTx, genesis_id}
use Rattle.cbdc_model.specs.History.{header_of}
use Rattle.cbdc_model.specs.Room.{kept_room}
use Rattle.cbdc_model.specs.Due.{used_of}
use Rattle.node_journal.specs.Nodes.{NodeOf}
use Rattle.coord_log.specs.Opening.{IsCoord}
use Rattle.shard_node.specs.Opening.{IsShardHeader}
use Rattle.rack_ledgers.proofs.Fronts.{has_first, whole_fronts, whole_or_cut}
use Rattle.rack_ledgers.proofs.Once.{opens_once_law}
use Rattle.rack_ledgers.proofs.Refusals.{of_any}
use Rattle.rack_ledgers.specs.Asked.{asked_of}
use Rattle.rack_ledgers.specs.Places.{IsOpening}
use Rattle.rack_ledgers.specs.Racked.{OfTold}
use Rattle.rack_ledgers.specs.Refused.{IsNodeJournal}
use Rattle.rack_ledgers.specs.Ledgers.{IsNodeAt, IsNodeRefused, HasOtherMint, LacksLog, LacksShard, IsUnopenedBy}
use Rattle.cbdc_model.specs.Ranges.{node_count}
use Rattle.rack_laws.specs.Ready.{limit_at, ShowsKept, HasKeptRoom, NoneRises}
use Rattle.rack_laws.specs.Openings.{NodeOpensLaw}

-- bytes open to one node's journal
pub same_node : (h k : Header) (J L : List Record) (bytes : List ℕ) → IsNodeJournal h J bytes → IsNodeJournal k L bytes → (h ≡ k) × (J ≡ L)
same_node h k J L bytes one other = opens_once_law h k J L bytes one.limits other.limits one.journal other.journal one.opens other.opens

pub node_opens : (Is : Header → Type 0) → NodeOpensLaw Is
node_opens Is node ledger h J limit bytes (answers.NotReady n) is of asked room refused =
    absurd (refused.1 (has_first h J is.opens.rest bytes (whole_fronts h J bytes is.limits is.journal is.opens)))
node_opens Is node ledger h J limit bytes (answers.Damaged n at) is of asked room refused =
    let cut = refused.1 in
    absurd (whole_or_cut h cut.header J cut.journal at bytes is.limits is.journal is.opens cut.limits cut.is cut.cut)
node_opens Is node ledger h J limit bytes (answers.Full n used need capacity) is of asked room refused =
    let full = refused.2 in
    let same = same_node h full.header J full.journal bytes is full.is in
    absurd (omega (
      arith,
      room,
      full.passes,
      refused.1,
      full.used_is,
      full.need_is,
      ap used_of same.1,
      ap₂ (λ (g : Header) (l : List Record). kept_room g.shape l) same.0 same.1,
    ))
node_opens Is node ledger h J limit bytes (answers.Foreign n kept other) is of asked room refused =
    let foreign = refused.2 in
    let same = same_node h kept J foreign.journal bytes is foreign.is in
    elim foreign.differs [
      | inl apart ↦ absurd (apart (subst (λ (k : Header). k ≡ asked_of node ledger k) same.0 asked ∙ sym refused.1))
      | inr other_kind ↦ absurd (other_kind (subst Is same.0 of))
    ]
node_opens Is node ledger h J limit bytes (answers.DiskFault n) is of asked room refused = inl (ap (λ k. answers.DiskFault k) refused)
node_opens Is node ledger h J limit bytes answers.Memory is of asked room refused = inr refl
node_opens Is node ledger h J limit bytes answers.Ok is of asked room refused = absurd refused
node_opens Is node ledger h J limit bytes answers.BadWords is of asked room refused = absurd refused
node_opens Is node ledger h J limit bytes (answers.BadInput file at kind) is of asked room refused = absurd refused
node_opens Is node ledger h J limit bytes (answers.TooMuch total) is of asked room refused = absurd refused
node_opens Is node ledger h J limit bytes (answers.NotEmpty n) is of asked room refused = absurd refused
node_opens Is node ledger h J limit bytes (answers.Unsound place kind) is of asked room refused = absurd refused
node_opens Is node ledger h J limit bytes (answers.ClockEnd n stamp) is of asked room refused = absurd refused
node_opens Is node ledger h J limit bytes (answers.ReadFault file) is of asked room refused = absurd refused
node_opens Is node ledger h J limit bytes answers.WriteFault is of asked room refused = absurd refused

module _ {D : Type 0} (device : Ghosts D) (held : ℕ → Option D) (K : Shape) (mint : List Output) (submissions : List FullTx) (E : ℕ → List Record)
    (ready : ShowsKept device held K mint submissions E) where
  -- whatever journal a node's disk opens to is its own
  pub opens_to : (n : ℕ) (h : Header) (J : List Record) → n < node_count K → OfTold (held n) (λ was. Tells (device.content was) (IsNodeJournal h J))
      → (h ≡ header_of K (genesis_id mint) n) × (J ≡ E n)
  opens_to n h J inside opened = let s = ready.shown n inside in
      same_node h (header_of K (genesis_id mint) n) J (E n) s.2.0 (opened s.0 s.1 s.2.0 s.2.1) s.2.2

  some_node : 0 < node_count K
  some_node = let limits = ready.limits in omega (arith, limits.some_coordinator)

module _ {D : Type 0} (device : Ghosts D) (held : ℕ → Option D) (before now : ℕ → ℕ)
    (K : Shape) (mint : List Output) (submissions : List FullTx) (E : ℕ → List Record)
    (ready : ShowsKept device held K mint submissions E) where
  abbrev H : ℕ → Header
  H n = header_of K (genesis_id mint) n

  first_node : 0 < node_count K
  first_node = some_node device held K mint submissions E ready

  log_is : (h : Header) (n : ℕ) (l : NodeOf D) → n < node_count K → IsNodeAt device held IsCoord h n l → header_of h.shape h.genesis n ≡ H n
  log_is h n l inside at =
      sym at.header ∙ (opens_to device held K mint submissions E ready n l.header l.journal inside
      (λ was is c told. of_any IsCoord l.header l.journal c ((at.opened was is).stands c told).0)).0

  module _ (rooms : HasKeptRoom K E (λ n. limit_at device (held n))) (none : NoneRises K before now) where
    -- a node of the ledger is refused for memory alone
    refused_none : (Is : Header → Type 0) (ledger : Option Header) (n : ℕ) (answer : Answer) → n < node_count K → Is (H n)
        → H n ≡ asked_of n ledger (H n)
        → IsNodeRefused device held before now Is ledger n answer → answer ≡ answers.Memory
    refused_none Is ledger n answer inside of asked refused =
        let s = ready.shown n inside in
        let room : used_of (E n) + kept_room K (E n) ≤ device.limit s.0 =
        subst (λ (o : Option D). used_of (E n) + kept_room K (E n) ≤ limit_at device o) s.1 (rooms n inside) in
        elim (node_opens Is n ledger (H n) (E n) (device.limit s.0) s.2.0 answer s.2.2 of asked room (refused.cause s.0 s.1 s.2.0 s.2.1)) [
          | inl failed ↦ absurd (none n inside (subst (λ (a : Answer). IsOpening n (before n) (now n) a) failed refused.fault).1)
          | inr memory ↦ memory
        ]

    -- the header of the ledger is that of node 0, as its first coordinator tells it
    lead_is : (h : Header) (logs : List (NodeOf D)) → 1 ≤ length logs
        → ((n : ℕ) (l : NodeOf D) → slice_get logs n ≡ Some l → IsNodeAt device held IsCoord h n l)
        → (h.shape ≡ K) × (h.genesis ≡ genesis_id mint)
    lead_is h [] some at = absurd (omega (arith, some))
    lead_is h (l ∷ logs) some at = let same = log_is h 0 l first_node (at 0 l refl) in
        (ap (λ (x : Header). x.shape) same, ap (λ (x : Header). x.genesis) same)

    same_asked : (h : Header) (n : ℕ) → h.shape ≡ K → h.genesis ≡ genesis_id mint → H n ≡ asked_of n (Some h) (H n)
    same_asked h n shape genesis = λ i. record { node = n; shape = sym shape i; genesis = sym genesis i }

    lacks_log : (id : Option Digest) (answer : Answer) → LacksLog device held before now id answer → answer ≡ answers.Memory
    lacks_log id answer lacks =
        let lead = lead_is lacks.header lacks.logs lacks.some lacks.logs_at in
        let low : length lacks.logs < K.coordinators = subst (λ (s : Shape). length lacks.logs < s.coordinators) lead.0 lacks.inside in
        refused_none IsCoord (Some lacks.header) (length lacks.logs) answer (omega (arith, low)) low
        (same_asked lacks.header (length lacks.logs) lead.0 lead.1) lacks.refused

    lacks_shard : (id : Option Digest) (answer : Answer) → LacksShard device held before now id answer → answer ≡ answers.Memory
    lacks_shard id answer lacks =
        let own = lacks.limits in
        let lead = lead_is lacks.header lacks.logs (omega (arith, lacks.coordinators, own.some_coordinator)) lacks.logs_at in
        let low : length lacks.shards < K.shards = subst (λ (s : Shape). length lacks.shards < s.shards) lead.0 lacks.inside in
        let count : lacks.header.shape.coordinators ≡ K.coordinators = ap (λ (s : Shape). s.coordinators) lead.0 in
        let place : ℕ = lacks.header.shape.coordinators + length lacks.shards in
        refused_none IsShardHeader (Some lacks.header) (lacks.header.shape.coordinators + length lacks.shards) answer
        (omega (arith, low, device.count)) (omega (arith, device.count), omega (arith, device.count, low))
        (same_asked lacks.header (lacks.header.shape.coordinators + length lacks.shards) lead.0 lead.1) lacks.refused

    unled_none : (answer : Answer) → IsNodeRefused device held before now IsCoord None 0 answer → answer ≡ answers.Memory
    unled_none answer refused = let limits = ready.limits in
        refused_none IsCoord None 0 answer first_node (omega (arith, limits.some_coordinator)) refl refused

    -- whichever mint was asked for, where it is this one, or none
    abbrev IsThisMint : Option Digest → Type 0
    IsThisMint None = Unit {0}
    IsThisMint (Some id) = id ≡ genesis_id mint

    other_none : (id : Option Digest) (answer : Answer) → IsThisMint id → HasOtherMint device held id answer → answer ≡ answers.Memory
    other_none None answer this other = absurd other.other
    other_none (Some id) answer this other =
        let same = log_is other.lead.header 0 other.lead first_node other.lead_at in
        absurd (other.other.0 (ap (λ (x : Header). x.genesis) same ∙ sym this))

    pub unopened_none : (id : Option Digest) (answer : Answer) → IsThisMint id → IsUnopenedBy device held before now id answer
        → answer ≡ answers.Memory
    unopened_none id answer this (inl (inl refused)) = unled_none answer refused
    unopened_none id answer this (inl (inr (inl other))) = other_none id answer this other
    unopened_none id answer this (inl (inr (inr lacks))) = lacks_log id answer lacks
    unopened_none id answer this (inr lacks) = lacks_shard id answer lacks
