-- A node's disk is refused in one way at most.
use Rattle.std.proofs.Common.{◌≡◌, ℕ, List, [], ◌∷◌, ◌++◌, length, reverse, refl, sym, ap, ap₂, ◌∙◌, subst, arith}
use Rattle.cbdc_types.specs.Limits.{IsWithinLimits}
use Rattle.cbdc_types.specs.declared.calls.NodeOpenFault.TheVariants.{DiskFault, NotReady, OtherKind, Damaged, Full, Memory}
use Rattle.cbdc_model.specs.Records.{Header, Record, Genesis, Start, Carry, CarryStart}
use Rattle.cbdc_model.specs.Grammar.{IsInGrammar}
use Rattle.cbdc_model.specs.Room.{kept_room}
use Rattle.cbdc_model.specs.Due.{used_of}
use Rattle.record_log.specs.Bodies.{body_of}
use Rattle.record_log.specs.Exact.{IsFirstRecord as BeginsJournal}
use Rattle.gate_journal.specs.Rows.{filling, row, rows}
use Rattle.gate_journal.proofs.Once.{tail_is, row_once}
use Rattle.record_log.specs.Held.{bodies_of, HasRow}
use Rattle.record_log.proofs.LogSizes.{body_small, first_small}
use Rattle.node_journal.specs.Opening.{IsJournalOf, IsDamagedAt, IsNoNodeOf}
use Rattle.shard_node.specs.Opening.{IsShardHeader, IsStart}
use Rattle.coord_log.specs.Opening.{IsCoord, IsGenesis}
use Rattle.rack_ledgers.proofs.Once.{same_record}
use Rattle.rack_ledgers.proofs.Refusals.{start_first, genesis_first}
use Rattle.rack_ledgers.proofs.Fronts.{Begins, Fronts, split, journal_begins, one_journal, has_first, whole_fronts, damaged_fronts, whole_or_cut}
use Rattle.rack_ledgers.specs.Refusals.{OneRefusal, NoRefusal, OneRefusalLaw, NoRefusalLaw}

same_full : (used used' need need' capacity capacity' : ℕ) → used ≡ used' → need ≡ need' → capacity ≡ capacity'
    → Full used need capacity ≡ Full used' need' capacity'
same_full used used' need need' capacity capacity' one two three = cc

module _ (Mine : Header → Type 0) (Other : Record → Type 0) (other_first : (r : Record) → Other r → BeginsJournal r)
    (apart : (h : Header) (q x : Record) → IsWithinLimits h.shape → Mine h → Other q → IsInGrammar h x → body_of q ≡ body_of x → ⊥) where
  other_begins : (bytes : List ℕ) → HasRow Other bytes → HasRow BeginsJournal bytes
  other_begins bytes has = record { what = has.what; more = has.more; parts = has.parts; behind = has.behind; has = other_first has.what has.has }

  -- the first record of the other kind stands in front of no such journal
  no_other_row : (h : Header) (R : List Record) (rest bytes : List ℕ) → IsWithinLimits h.shape → Mine h → Begins h R
      → bytes ≡ rows (bodies_of R) ++ rest → HasRow Other bytes → ⊥
  no_other_row h [] rest bytes limits mine begins parts has = begins
  no_other_row h (x ∷ R) rest bytes limits mine begins parts has =
      let behind : row (body_of has.what) ++ has.more ≡ row (body_of x) ++ (rows (bodies_of R) ++ rest) = sym has.parts ∙ parts ∙ split x R rest in
      let both = row_once (body_of has.what) (body_of x) has.more (rows (bodies_of R) ++ rest) (first_small has.what (other_first has.what has.has))
      (body_small h x limits begins.1.0.0)
      (tail_is 1 1 (filling (body_of has.what) ++ has.more) (filling (body_of x) ++ (rows (bodies_of R) ++ rest)) behind) in
      apart h has.what x limits mine has.has begins.1.0.0 both.0

  not_other : (h : Header) (J : List Record) (rest bytes : List ℕ) → Mine h → Fronts h J rest bytes → HasRow Other bytes → ⊥
  not_other h J rest bytes mine fronts has = no_other_row h (reverse J) rest bytes fronts.limits mine (journal_begins h J fronts.journal)
      fronts.parts has

  -- ---- the refusals

  shut_fronts : (h : Header) (J : List Record) (bytes : List ℕ) → (is : IsJournalOf Mine h J bytes) → Fronts h J is.opens.rest bytes
  shut_fronts h J bytes is = whole_fronts h J bytes is.limits is.journal is.opens

  cut_fronts : (at : ℕ) (bytes : List ℕ) → (is : IsDamagedAt Mine at bytes) → Fronts is.header is.journal is.cut.rest bytes
  cut_fronts at bytes is = damaged_fronts is.header is.journal at bytes is.limits is.is is.cut

  never_both : (h : Header) (J : List Record) (at : ℕ) (bytes : List ℕ) → IsJournalOf Mine h J bytes → IsDamagedAt Mine at bytes → ⊥
  never_both h J at bytes whole cut = whole_or_cut h cut.header J cut.journal at bytes whole.limits whole.journal whole.opens cut.limits cut.is
      cut.cut

  one_place : (at other : ℕ) (bytes : List ℕ) → IsDamagedAt Mine at bytes → IsDamagedAt Mine other bytes → at ≡ other
  one_place at other bytes one two =
      let both = one_journal one.header two.header one.journal two.journal one.cut.rest two.cut.rest bytes (cut_fronts at bytes one)
      (cut_fronts other bytes two) in
      one.cut.place ∙ ap (λ (l : List Record). length (rows (bodies_of (reverse l)))) both.1.0 ∙ sym two.cut.place

  one_full : (limit used used' need need' capacity capacity' : ℕ) (bytes : List ℕ) → IsNoNodeOf Mine Other limit bytes (Full used need capacity)
      → IsNoNodeOf Mine Other limit bytes (Full used' need' capacity') → Full used need capacity ≡ Full used' need' capacity'
  one_full limit used used' need need' capacity capacity' bytes one two =
      let first = one.1 in
      let second = two.1 in
      let both = one_journal first.header second.header first.journal second.journal first.is.opens.rest second.is.opens.rest bytes
      (shut_fronts first.header first.journal bytes first.is) (shut_fronts second.header second.journal bytes second.is) in
      same_full used used' need need' capacity capacity' (first.used_is ∙ ap used_of both.1.0 ∙ sym second.used_is)
      (first.need_is ∙ ap₂ (λ (h : Header) (l : List Record). kept_room h.shape l) both.0 both.1.0 ∙ sym second.need_is) (one.0 ∙ sym two.0)

  one_refusal : OneRefusal (IsNoNodeOf Mine Other)
  one_refusal limit bytes DiskFault f told told' one two = absurd told
  one_refusal limit bytes Memory f told told' one two = absurd told
  one_refusal limit bytes NotReady DiskFault told told' one two = absurd told'
  one_refusal limit bytes NotReady Memory told told' one two = absurd told'
  one_refusal limit bytes NotReady NotReady told told' one two = refl
  one_refusal limit bytes NotReady OtherKind told told' one two = absurd (one (other_begins bytes two))
  one_refusal limit bytes NotReady (Damaged at) told told' one two =
      absurd (one (has_first two.header two.journal two.cut.rest bytes (cut_fronts at bytes two)))
  one_refusal limit bytes NotReady (Full used need capacity) told told' one two =
      absurd (one (has_first two.1.header two.1.journal two.1.is.opens.rest bytes (shut_fronts two.1.header two.1.journal bytes two.1.is)))
  one_refusal limit bytes OtherKind DiskFault told told' one two = absurd told'
  one_refusal limit bytes OtherKind Memory told told' one two = absurd told'
  one_refusal limit bytes OtherKind NotReady told told' one two = absurd (two (other_begins bytes one))
  one_refusal limit bytes OtherKind OtherKind told told' one two = refl
  one_refusal limit bytes OtherKind (Damaged at) told told' one two =
      absurd (not_other two.header two.journal two.cut.rest bytes two.kind (cut_fronts at bytes two) one)
  one_refusal limit bytes OtherKind (Full used need capacity) told told' one two =
      absurd (not_other two.1.header two.1.journal two.1.is.opens.rest bytes two.1.is.kind (shut_fronts two.1.header two.1.journal bytes two.1.is)
      one)
  one_refusal limit bytes (Damaged at) DiskFault told told' one two = absurd told'
  one_refusal limit bytes (Damaged at) Memory told told' one two = absurd told'
  one_refusal limit bytes (Damaged at) NotReady told told' one two =
      absurd (two (has_first one.header one.journal one.cut.rest bytes (cut_fronts at bytes one)))
  one_refusal limit bytes (Damaged at) OtherKind told told' one two =
      absurd (not_other one.header one.journal one.cut.rest bytes one.kind (cut_fronts at bytes one) two)
  one_refusal limit bytes (Damaged at) (Damaged other) told told' one two = ap (λ (n : ℕ). Damaged n) (one_place at other bytes one two)
  one_refusal limit bytes (Damaged at) (Full used need capacity) told told' one two =
      absurd (never_both two.1.header two.1.journal at bytes two.1.is one)
  one_refusal limit bytes (Full used need capacity) DiskFault told told' one two = absurd told'
  one_refusal limit bytes (Full used need capacity) Memory told told' one two = absurd told'
  one_refusal limit bytes (Full used need capacity) NotReady told told' one two =
      absurd (two (has_first one.1.header one.1.journal one.1.is.opens.rest bytes (shut_fronts one.1.header one.1.journal bytes one.1.is)))
  one_refusal limit bytes (Full used need capacity) OtherKind told told' one two =
      absurd (not_other one.1.header one.1.journal one.1.is.opens.rest bytes one.1.is.kind (shut_fronts one.1.header one.1.journal bytes one.1.is)
      two)
  one_refusal limit bytes (Full used need capacity) (Damaged at) told told' one two =
      absurd (never_both one.1.header one.1.journal at bytes one.1.is two)
  one_refusal limit bytes (Full used need capacity) (Full used' need' capacity') told told' one two =
      one_full limit used used' need need' capacity capacity' bytes one two

  no_refusal : NoRefusal (IsJournalOf Mine) (IsNoNodeOf Mine Other)
  no_refusal h J limit bytes DiskFault told is room refused = told
  no_refusal h J limit bytes Memory told is room refused = told
  no_refusal h J limit bytes NotReady told is room refused = refused (has_first h J is.opens.rest bytes (shut_fronts h J bytes is))
  no_refusal h J limit bytes OtherKind told is room refused = not_other h J is.opens.rest bytes is.kind (shut_fronts h J bytes is) refused
  no_refusal h J limit bytes (Damaged at) told is room refused = never_both h J at bytes is refused
  no_refusal h J limit bytes (Full used need capacity) told is room refused =
      let full = refused.1 in
      let both = one_journal h full.header J full.journal is.opens.rest full.is.opens.rest bytes (shut_fronts h J bytes is)
      (shut_fronts full.header full.journal bytes full.is) in
      absurd (omega (
        arith,
        room,
        full.passes,
        refused.0,
        full.used_is,
        full.need_is,
        ap used_of both.1.0,
        ap₂ (λ (g : Header) (l : List Record). kept_room g.shape l) both.0 both.1.0,
      ))

-- ---- shards and coordinators

-- a coordinator's first record is none of a shard's journal
no_start : (h : Header) (q x : Record) → IsWithinLimits h.shape → IsShardHeader h → IsStart q → IsInGrammar h x → body_of q ≡ body_of x → ⊥
no_start h (Start header) x limits shard is grammar same =
    let one : Start header ≡ x = same_record header h (Start header) x is.0 limits is.1 grammar same in
    let here : IsInGrammar h (Start header) = subst (IsInGrammar h) (sym one) grammar in
    absurd (omega (arith, here.2, shard.0))
no_start h (CarryStart stamp header source numbers) x limits shard is grammar same = absurd is.1
no_start h other x limits shard is grammar same = absurd is

-- a shard's first record is none of a coordinator's journal
no_genesis : (h : Header) (q x : Record) → IsWithinLimits h.shape → IsCoord h → IsGenesis q → IsInGrammar h x → body_of q ≡ body_of x → ⊥
no_genesis h (Genesis header hs) x limits coordinator is grammar same =
    let one : Genesis header hs ≡ x = same_record header h (Genesis header hs) x is.0 limits is.1 grammar same in
    let here : IsInGrammar h (Genesis header hs) = subst (IsInGrammar h) (sym one) grammar in
    absurd (omega (arith, here.2.0, coordinator))
no_genesis h (Carry stamp header source hs numbers) x limits coordinator is grammar same = absurd is.1
no_genesis h other x limits coordinator is grammar same = absurd is

-- ---- the laws

pub one_refusal_law : OneRefusalLaw
one_refusal_law = (one_refusal IsShardHeader IsStart start_first no_start, one_refusal IsCoord IsGenesis genesis_first no_genesis)

pub no_refusal_law : NoRefusalLaw
no_refusal_law = (no_refusal IsShardHeader IsStart start_first no_start, no_refusal IsCoord IsGenesis genesis_first no_genesis)
