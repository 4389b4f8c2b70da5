-- Refusals of a node of one kind, as those of a node that is asked for.
use Rattle.std.proofs.Common.{◌≡◌, ◌≢◌, ◌⊎◌, Bool, false, ℕ, ◌+◌, ◌≤◌, List, ◌++◌, Option, refl, sym, ◌∙◌, subst}
use Rattle.cbdc_types.specs.declared.answer.Answer.{Answer}
use Rattle.cbdc_types.specs.declared.answer.Answer.TheVariants as answers
use Rattle.cbdc_types.specs.declared.calls.NodeOpenFault.{NodeOpenFault}
use Rattle.cbdc_types.specs.declared.calls.NodeOpenFault.TheVariants as faults
use Rattle.cbdc_model.specs.Records.{Header, Record, Genesis, Start, Carry, CarryStart}
use Rattle.cbdc_model.specs.Room.{kept_room}
use Rattle.cbdc_model.specs.Due.{used_of}
use Rattle.outside.specs.Counts.{Rose}
use Rattle.record_log.specs.Held.{HasRow}
use Rattle.record_log.specs.Bodies.{body_of}
use Rattle.record_log.specs.Exact.{IsFirstRecord}
use Rattle.gate_journal.specs.Rows.{filling}
use Rattle.gate_journal.proofs.Once.{tail_is, row_once}
use Rattle.record_log.proofs.LogSizes.{first_small}
use Rattle.node_journal.specs.Opening.{IsJournalOf, IsNoNodeOf}
use Rattle.coord_log.specs.Opening.{IsGenesis}
use Rattle.shard_node.specs.Opening.{IsStart}
use Rattle.rack_ledgers.proofs.Wholes.{one_first}
use Rattle.std.specs.Prelude.{IsTrue, ◌↔◌}
use Rattle.std.proofs.lemmas.Bool.{false≢true}
use Rattle.rack_ledgers.specs.Places.{IsOpening}
use Rattle.rack_ledgers.specs.Asked.{asked_of}
use Rattle.rack_ledgers.specs.Refused.{IsNodeJournal, IsNoNode, refusal_answer}

-- a refusal is told as one of that node
pub told_opening : (node before now : ℕ) (f : NodeOpenFault) → (f ≡ faults.DiskFault → Rose before now)
    → IsOpening node before now (refusal_answer node f)
told_opening node before now faults.DiskFault rose = (refl, rose refl)
told_opening node before now faults.NotReady rose = refl
told_opening node before now faults.OtherKind rose = refl
told_opening node before now (faults.Damaged at) rose = refl
told_opening node before now (faults.Full used need capacity) rose = refl
told_opening node before now faults.Memory rose = tt

-- a journal of a kind is one of either kind
pub of_any : (Is : Header → Type 0) (h : Header) (J : List Record) (bytes : List ℕ) → IsJournalOf Is h J bytes → IsNodeJournal h J bytes
of_any Is h J bytes is = record { opens = is.opens; limits = is.limits; journal = is.journal; kind = tt }

module _ (Is : Header → Type 0) (node : ℕ) (ledger : Option Header) (limit : ℕ) (bytes : List ℕ) (Mine : Header → Type 0) where
  -- why a disk is no node of one kind, but for its kind, is why it is no node that is asked for
  pub node_refused : (IsOther : Record → Type 0) (f : NodeOpenFault) → f ≢ faults.OtherKind → IsNoNodeOf Mine IsOther limit bytes f
      → IsNoNode Is node ledger limit bytes (refusal_answer node f)
  node_refused IsOther faults.DiskFault other is = refl
  node_refused IsOther faults.NotReady other is = (refl, is)
  node_refused IsOther faults.OtherKind other is = absurd (other refl)
  node_refused IsOther (faults.Damaged at) other is =
      (refl, record { header = is.header; journal = is.journal; limits = is.limits; is = is.is; kind = tt; cut = is.cut })
  node_refused IsOther (faults.Full used need capacity) other is = (
    refl,
    is.0,
    record {
      header = is.1.header;
      journal = is.1.journal;
      is = of_any Mine is.1.header is.1.journal bytes is.1.is;
      used_is = is.1.used_is;
      need_is = is.1.need_is;
      passes = is.1.passes;
    },
  )
  node_refused IsOther faults.Memory other is = tt

  -- a node of one kind with another header, or of the other kind
  pub other_node : (kept : Header) (J : List Record) → IsJournalOf Mine kept J bytes → used_of J + kept_room kept.shape J ≤ limit
      → (kept ≢ asked_of node ledger kept) ⊎ (Is kept → ⊥)
      → IsNoNode Is node ledger limit bytes (answers.Foreign node kept (asked_of node ledger kept))
  other_node kept J is fits differs = (refl, refl, record { journal = J; is = of_any Mine kept J bytes is; fits = fits; differs = differs })

-- a first record is of one kind
pub start_first : (r : Record) → IsStart r → IsFirstRecord r
start_first (Start h) is = is
start_first (CarryStart stamp h source numbers) is = is
start_first other is = absurd is

pub genesis_first : (r : Record) → IsGenesis r → IsFirstRecord r
genesis_first (Genesis h hs) is = is
genesis_first (Carry stamp h source hs numbers) is = is
genesis_first other is = absurd is

one_kind : (r : Record) → IsStart r → IsGenesis r → ⊥
one_kind (Start h) start is = is
one_kind (CarryStart stamp h source numbers) start is = is
one_kind other start is = start

pub not_both_kinds : (bytes : List ℕ) → HasRow IsStart bytes → HasRow IsGenesis bytes → ⊥
not_both_kinds bytes start genesis =
    let s_first = start_first start.what start.has in
    let g_first = genesis_first genesis.what genesis.has in
    let same : filling (body_of start.what) ++ start.more ≡ filling (body_of genesis.what) ++ genesis.more =
    tail_is 1 1 (filling (body_of start.what) ++ start.more) (filling (body_of genesis.what) ++ genesis.more) (sym start.parts ∙ genesis.parts) in
    let bodies = (row_once (body_of start.what) (body_of genesis.what) start.more genesis.more (first_small start.what s_first)
    (first_small genesis.what g_first) same).0 in
    let one : start.what ≡ genesis.what = one_first start.what genesis.what s_first g_first bodies in
    one_kind genesis.what (subst IsStart one start.has) genesis.has

-- a header that is kept, told in an answer
pub told_foreign : (Is : Header → Type 0) (node : ℕ) (ledger : Option Header) (limit : ℕ) (bytes : List ℕ) (kept h : Header) (a : Answer) → kept ≡ h
    → a ≡ answers.Foreign node kept (asked_of node ledger kept)
    → IsNoNode Is node ledger limit bytes (answers.Foreign node h (asked_of node ledger h)) → IsNoNode Is node ledger limit bytes a
told_foreign Is node ledger limit bytes kept h a same is refused =
    subst (λ (x : Answer). IsNoNode Is node ledger limit bytes x) (sym is)
    (subst (λ (k : Header). IsNoNode Is node ledger limit bytes (answers.Foreign node k (asked_of node ledger k))) (sym same) refused)

-- a header that is not the one asked
pub not_kept : (b : Bool) (node : ℕ) (ledger : Option Header) (kept h : Header) → b ≡ false → (IsTrue b ↔ (kept ≡ asked_of node ledger kept))
    → kept ≡ h → h ≢ asked_of node ledger h
not_kept b node ledger kept h false_is both same = λ is.
    let yes : IsTrue b = both.1 (subst (λ (k : Header). k ≡ asked_of node ledger k) (sym same) is) in
    false≢true (subst (λ (x : Bool). IsTrue x) false_is yes)
