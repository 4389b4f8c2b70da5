-- Of a ledger that the disks tell no node is refused for its bytes.
use Rattle.std.proofs.Common.{◌≡◌, ◌<◌, ◌≤◌, ◌+◌, ℕ, List, length, Option, Some, None, inl, inr, ⊎_elim, refl, sym, ap, ap₂, ◌∙◌, subst, arith}
use Rattle.std.proofs.lemmas.Option.{slice_get_cases}
use Rattle.outside.specs.declared.disk.Disk.{Ghosts}
use Rattle.cbdc_types.specs.Limits.{IsWithinLimits}
use Rattle.cbdc_types.specs.declared.answer.Answer.{Answer}
use Rattle.cbdc_types.specs.declared.answer.Answer.TheVariants as answers
use Rattle.cbdc_model.specs.Records.{Digest, Shape, Header, Record}
use Rattle.cbdc_model.specs.History.{header_of}
use Rattle.cbdc_model.specs.Room.{kept_room}
use Rattle.cbdc_model.specs.Due.{used_of}
use Rattle.node_journal.specs.Nodes.{NodeOf}
use Rattle.coord_log.specs.Opening.{IsCoord}
use Rattle.shard_node.specs.Opening.{IsShardHeader}
use Rattle.rack_ledgers.specs.Asked.{asked_of}
use Rattle.rack_ledgers.specs.Refused.{IsNodeJournal, IsNoNode}
use Rattle.rack_ledgers.specs.Ledgers.{ByPlace, IsNodeAt, IsNodeRefused, IsMintOf, HasOtherMint, LacksLog, LacksShard, IsUnopenedBy}
use Rattle.rack_ledgers.proofs.Once.{opens_once_law}
use Rattle.rack_ledgers.proofs.Fronts.{has_first, whole_fronts, whole_or_cut}
use Rattle.rack_ledgers.specs.RefusalLaws.{AllTell, TellLedger, EachOpens, AllHaveRoom, IsAnswerOfBytes, IsOfRoom}

-- a disk that holds the journal of the node that is asked for, with the room that this needs, is not refused for its bytes
node_stands : (h : Header) (J : List Record) (Is : Header → Type 0) (ledger : Option Header) (limit : ℕ) (bytes : List ℕ) (a : Answer)
    → IsNodeJournal h J bytes → asked_of h.node ledger h ≡ h → Is h
    → IsAnswerOfBytes a → (IsOfRoom a → used_of J + kept_room h.shape J ≤ limit) → IsNoNode Is h.node ledger limit bytes a → ⊥
node_stands h J Is ledger limit bytes (answers.NotReady n) node asked is told room refused =
    refused.1 (has_first h J node.opens.rest bytes (whole_fronts h J bytes node.limits node.journal node.opens))
node_stands h J Is ledger limit bytes (answers.Damaged n at) node asked is told room refused =
    let cut = refused.1 in whole_or_cut h cut.header J cut.journal at bytes node.limits node.journal node.opens cut.limits cut.is cut.cut
node_stands h J Is ledger limit bytes (answers.Full n used need capacity) node asked is told room refused =
    let full = refused.2 in
    let fits = room tt in
    let both = opens_once_law h full.header J full.journal bytes node.limits full.is.limits node.journal full.is.journal node.opens full.is.opens in
    absurd (omega (
      arith,
      fits,
      full.passes,
      refused.1,
      full.used_is,
      full.need_is,
      ap used_of both.1,
      ap₂ (λ (g : Header) (l : List Record). kept_room g.shape l) both.0 both.1,
    ))
node_stands h J Is ledger limit bytes (answers.Foreign n kept wanted) node asked is told room refused =
    let foreign = refused.2 in
    let both = opens_once_law h kept J foreign.journal bytes node.limits foreign.is.limits node.journal foreign.is.journal node.opens
    foreign.is.opens in
    let same : kept ≡ wanted = sym both.0 ∙ sym asked ∙ ap (λ (k : Header). asked_of h.node ledger k) both.0 ∙ sym refused.1 in
    ⊎_elim (λ other. other same) (λ kind. kind (subst Is both.0 is)) foreign.differs
node_stands h J Is ledger limit bytes a node asked is told room refused = absurd told

module _ {D : Type 0} (device : Ghosts D) (held : ℕ → Option D) (before now : ℕ → ℕ) (K : Shape) (g : Digest) (J : ℕ → List Record)
    (tell : TellLedger device held K g J) where
  module _ (a : Answer) (told : IsAnswerOfBytes a) (room : IsOfRoom a → AllHaveRoom device held K J) where
    none_at : (n : ℕ) (Is : Header → Type 0) (ledger : Option Header) → n < K.coordinators + K.shards
        → asked_of n ledger (header_of K g n) ≡ header_of K g n → Is (header_of K g n)
        → IsNodeRefused device held before now Is ledger n a → ⊥
    none_at n Is ledger low asked is refused =
        let t = tell.each n low in
        node_stands (header_of K g n) (J n) Is ledger (device.limit t.0) t.2.0 a t.2.2 asked is told (λ full. room full n low t.0 t.1)
        (refused.cause t.0 t.1 t.2.0 t.2.1)

    -- node 0 as it is opened has the header of the ledger
    lead_is : (h : Header) (l : NodeOf D) → IsNodeAt device held IsCoord h 0 l → l.header ≡ header_of K g 0
    lead_is h l log =
        let t = tell.each 0 (omega (arith, tell.limits.some_coordinator)) in
        let opened = ((log.opened t.0 t.1).stands t.2.0 t.2.1).0 in
        (opens_once_law l.header (header_of K g 0) l.journal (J 0) t.2.0 opened.limits tell.limits opened.journal t.2.2.journal opened.opens
        t.2.2.opens).0

    first_is : (h : Header) (logs : List (NodeOf D)) → 1 ≤ length logs → ByPlace (IsNodeAt device held IsCoord h) logs
        → header_of h.shape h.genesis 0 ≡ header_of K g 0
    first_is h logs some logs_at = elim ((slice_get_cases logs 0).1) [
      | inl here ↦ let log = logs_at 0 here.0 here.2 in sym log.header ∙ lead_is h here.0 log
      | inr past ↦ absurd (omega (arith, past.0, some))
    ]

    asked_is : (n : ℕ) (h : Header) → header_of h.shape h.genesis 0 ≡ header_of K g 0 → asked_of n (Some h) (header_of K g n) ≡ header_of K g n
    asked_is n h first = ap (λ (k : Header). header_of k.shape k.genesis n) first

    shape_is : (h : Header) → header_of h.shape h.genesis 0 ≡ header_of K g 0 → h.shape ≡ K
    shape_is h first = ap (λ (k : Header). k.shape) first

    no_other_mint : (id : Option Digest) → IsMintOf id (header_of K g 0) → HasOtherMint device held id a → ⊥
    no_other_mint None mint other = other.other
    no_other_mint (Some id) mint other = other.other.0 (ap (λ (k : Header). k.genesis) (lead_is other.lead.header other.lead other.lead_at) ∙ mint)

    no_log : (id : Option Digest) → LacksLog device held before now id a → ⊥
    no_log id lacks =
        let first = first_is lacks.header lacks.logs lacks.some lacks.logs_at in
        let coordinators : lacks.header.shape.coordinators ≡ K.coordinators = ap (λ (k : Shape). k.coordinators) (shape_is lacks.header first) in
        none_at (length lacks.logs) IsCoord (Some lacks.header) (omega (arith, lacks.inside, coordinators))
        (asked_is (length lacks.logs) lacks.header first)
        (omega (arith, lacks.inside, coordinators)) lacks.refused

    no_shard : (id : Option Digest) → LacksShard device held before now id a → ⊥
    no_shard id lacks =
        let first = first_is lacks.header lacks.logs (omega (arith, lacks.coordinators, lacks.limits.some_coordinator)) lacks.logs_at in
        let coordinators : lacks.header.shape.coordinators ≡ K.coordinators = ap (λ (k : Shape). k.coordinators) (shape_is lacks.header first) in
        let shards : lacks.header.shape.shards ≡ K.shards = ap (λ (k : Shape). k.shards) (shape_is lacks.header first) in
        let n : ℕ = lacks.header.shape.coordinators + length lacks.shards in
        let low : n < K.coordinators + K.shards = omega (arith, lacks.inside, coordinators, shards) in
        let high : K.coordinators ≤ n = omega (arith, coordinators) in
        none_at n IsShardHeader (Some lacks.header) low (asked_is n lacks.header first) (high, low) lacks.refused

    pub none_refused : (id : Option Digest) → IsMintOf id (header_of K g 0) → IsUnopenedBy device held before now id a → ⊥
    none_refused id mint unopened = elim unopened [
      | inl unled ↦ elim unled [
        | inl lead ↦ let some = tell.limits.some_coordinator in none_at 0 IsCoord None (omega (arith, some)) refl (omega (arith, some)) lead
        | inr later ↦ ⊎_elim (no_other_mint id mint) (no_log id) later
      ]
      | inr lacks ↦ no_shard id lacks
    ]

-- disks that are told, with their contents, tell the ledger to whose journals whatever is told of them opens
pub tell_told : {D : Type 0} (device : Ghosts D) (held : ℕ → Option D) (K : Shape) (g : Digest) (J : ℕ → List Record) → IsWithinLimits K
    → EachOpens device held K g J → AllTell device held K
    → TellLedger device held K g J
tell_told device held K g J limits opens tell = record {
  limits = limits;
  each = λ n low. let t = tell n low in (t.0, t.1, (t.2.0, t.2.1, opens n low t.0 t.1 t.2.0 t.2.1));
}
