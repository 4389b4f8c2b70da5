-- What a disk's bytes are as the journal of a node of one kind: its headers have a property, and a first record of the other kind has another.
use Rattle.std.specs.Prelude.{◌≡◌, ℕ, ◌+◌, ◌-◌, ◌^◌, ◌<◌, min, List, [], ◌∷◌, ◌++◌, reverse, sum_by}
use Rattle.cbdc_types.specs.declared.calls.NodeOpenFault.{NodeOpenFault}
use Rattle.cbdc_types.specs.declared.calls.NodeOpenFault.TheVariants.{DiskFault, NotReady, OtherKind, Damaged, Full, Memory}
use Rattle.cbdc_types.specs.Limits.{IsWithinLimits}
use Rattle.cbdc_model.specs.Records.{Header, Record}
use Rattle.cbdc_model.specs.After.{After, IsJournal}
use Rattle.cbdc_model.specs.Room.{size_of, kept_room}
use Rattle.cbdc_model.specs.Due.{used_of}
use Rattle.record_log.specs.Held.{OpensTo, HasRow, CutsOff, HasNoRecord}

-- the bytes open to this journal of a node of the kind, the newest record first
pub record IsJournalOf (Is : Header → Type 0) (h : Header) (J : List Record) (bytes : List ℕ) : Type 0 where
  pub opens : OpensTo (reverse J) bytes
  pub limits : IsWithinLimits h.shape
  pub journal : IsJournal h J
  pub kind : Is h

-- a core, which has a header and stands for journals, is that of this journal of a node of the kind
pub record IsPlayed {C : Type 0} (header_of : C → Header) (StandsFor : C → List Record → Type 0) (Is : Header → Type 0) (h : Header) (core : C)
    (J : List Record) : Type 0 where
  pub header : header_of core ≡ h
  pub stands : StandsFor core J
  pub journal : IsJournal h J
  pub kind : Is h

-- behind these records stands one that is not next, at this place
pub record StopsBefore (Is : Header → Type 0) (h : Header) (records : List Record) (at : ℕ) : Type 0 where
  pub before : List Record
  pub next : Record
  pub rest : List Record
  pub parts : records ≡ before ++ next ∷ rest
  pub is : IsJournal h (reverse before)
  pub kind : Is h
  pub none : After h (reverse before) next → ⊥
  pub place : at ≡ min (sum_by size_of before) (2 ^ 64 - 1)

-- why records of the grammar are no journal of the kind
abbrev pub IsUnplayed : (Header → Type 0) → (Record → Type 0) → Header → List Record → NodeOpenFault → Type 0
IsUnplayed Is IsOther h [] fault = ⊥
IsUnplayed Is IsOther h (r ∷ later) OtherKind = IsOther r
IsUnplayed Is IsOther h (r ∷ later) (Damaged at) = StopsBefore Is h (r ∷ later) at
IsUnplayed Is IsOther h (r ∷ later) Memory = Unit {0}
IsUnplayed Is IsOther h (r ∷ later) other = ⊥

-- behind a journal of the kind stands an open gate at this place, and no whole row of a next record
pub record IsDamagedAt (Is : Header → Type 0) (at : ℕ) (bytes : List ℕ) : Type 0 where
  pub header : Header
  pub journal : List Record
  pub limits : IsWithinLimits header.shape
  pub is : IsJournal header journal
  pub kind : Is header
  pub cut : CutsOff (After header journal) (reverse journal) at bytes

-- the bytes open to a journal of the kind, and they pass the capacity with those that are kept for its batches
pub record IsTooFull (Is : Header → Type 0) (used need capacity : ℕ) (bytes : List ℕ) : Type 0 where
  pub header : Header
  pub journal : List Record
  pub is : IsJournalOf Is header journal bytes
  pub used_is : used ≡ used_of journal
  pub need_is : need ≡ kept_room header.shape journal
  pub passes : capacity < used + need

-- why a disk with these bytes and so much room is no node of the kind
abbrev pub IsNoNodeOf : (Header → Type 0) → (Record → Type 0) → ℕ → List ℕ → NodeOpenFault → Type 0
IsNoNodeOf Is IsOther limit bytes DiskFault = Unit {0}
IsNoNodeOf Is IsOther limit bytes NotReady = HasNoRecord bytes
IsNoNodeOf Is IsOther limit bytes OtherKind = HasRow IsOther bytes
IsNoNodeOf Is IsOther limit bytes (Damaged at) = IsDamagedAt Is at bytes
IsNoNodeOf Is IsOther limit bytes (Full used need capacity) = (capacity ≡ limit) × IsTooFull Is used need capacity bytes
IsNoNodeOf Is IsOther limit bytes Memory = Unit {0}
