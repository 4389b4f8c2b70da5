-- What `gen --watch` says of its nodes while lanes ran.
use Rattle.std.specs.Prelude.{◌≡◌, ℕ, Bool, true, false, List, [], ◌∷◌, length, reverse, map, Option, Some, None, codes}
use Rattle.std.specs.Global.{Vec}
use Rattle.line_text.specs.Lines.{Text, counted_line}
use Rattle.cbdc_types.specs.declared.answer.Answer.{Answer}
use Rattle.cbdc_types.specs.declared.answer.Answer.TheVariants as answers
use Rattle.cbdc_model.specs.Records.{Shape, Record, Row, journal}
use Rattle.cbdc_model.specs.Ranges.{node_count}
use Rattle.cbdc_model.specs.Coins.{Output, FullTx}
use Rattle.cbdc_model.specs.Waves.{AreFilesRun}
use Rattle.submissions.specs.SoundTest.{sound_by}
use Rattle.audit.specs.Rows.{journal_in}
use Rattle.audit.specs.declared.parts.Part.{Part}
use Rattle.audit.specs.declared.parts.PartVerdict.{PartVerdict}
use Rattle.audit.specs.declared.parts.PartVerdict.TheVariants.{Sound, Unsound}
use Rattle.audit.specs.Parts.{IsPartVerdict}
use Rattle.cut_audit.specs.Cuts.{up_to, AreFronts, IsKeptCut, IsLeastLast}
use Rattle.cut_audit.specs.Laws.{IsMoment}
use Rattle.lane_waves.specs.declared.watching.Watch.{Watch}
use Rattle.lane_waves.specs.declared.watching.Watch.TheVariants.{Saw}
use Rattle.lane_waves.specs.Watchers.{IfSaw}
use Rattle.file_runs.specs.declared.waves.Wave.{Wave}
use Rattle.workload.specs.Generator.{mint_of, joins_of}
use Rattle.submission_laws.specs.Files.{all_good, all_submissions}

-- of lists of records, one for each node with its oldest record first: the rows are all records up to the least stamp of a last record, a moment of
-- whatever kept ledger the lists were taken of, and this is an audit's verdict on them
pub record IsCutVerdict (K : Shape) (mint : List Output) (handed : List FullTx) (lists : List (List Record)) (verdict : PartVerdict) : Type 0 where
  pub stamp : ℕ
  pub least : IsLeastLast lists stamp
  pub rows : List Row
  pub records_are : (node : ℕ) → journal node rows ≡ up_to stamp (reverse (journal_in lists node))
  pub moment : IsMoment lists rows
  pub is : IsPartVerdict K mint handed (reverse rows) verdict

-- between the two files, from whose journals the second file alone led to these, lists had been taken of all nodes at some moments, each a beginning
-- of its node's journal; this is the verdict on their cut, which is kept
pub record HasCut (K : Shape) (seed n : ℕ) (X : ℕ → List Record) (verdict : PartVerdict) : Type 0 where
  pub middle : ℕ → List Record
  pub second : AreFilesRun K (sound_by all_good) (joins_of seed n ∷ []) middle X
  pub lists : List (List Record)
  pub many : length lists ≡ node_count K
  pub fronts : AreFronts K middle (λ node. reverse (journal_in lists node))
  pub cut : IsCutVerdict K (mint_of seed n) (all_submissions seed n) lists verdict
  pub kept : IsKeptCut K (mint_of seed n) (all_submissions seed n) cut.rows

-- a value is told where an auditor was asked for: that of such a cut
abbrev pub IsCutValue : Shape → ℕ → ℕ → (ℕ → List Record) → Bool → Option ℕ → Type 0
IsCutValue K seed n X false None = Unit {0}
IsCutValue K seed n X true (Some value) = (part : Part) × HasCut K seed n X (Sound part) × (value ≡ part.value)
IsCutValue K seed n X watch value = ⊥

-- the line of the value of a cut, where it is told
abbrev pub cut_text : Option ℕ → Text
cut_text None = []
cut_text (Some value) = counted_line (codes "cut value") value

-- the value that is told, if one is
abbrev pub told_if : Bool → ℕ → Option ℕ
told_if false value = None
told_if true value = Some value

-- ---- what the waves of a run keep of it

-- the items of lists
abbrev pub lists_in : List (Vec Record) → List (List Record)
lists_in lists = map (λ l. l.items) lists

-- these lists were seen
abbrev pub IsSeen : Watch → List (Vec Record) → Type 0
IsSeen (Saw seen) lists = lists ≡ seen.items
IsSeen other lists = ⊥

-- these were seen beside the first wave
abbrev pub IsSeenFirst : List Wave → List (Vec Record) → Type 0
IsSeenFirst [] lists = ⊥
IsSeenFirst (w ∷ more) lists = IsSeen w.looks lists

-- where some were, they are so
abbrev pub IfSeenFirst : List Wave → (List (Vec Record) → Type 0) → Type 0
IfSeenFirst [] P = Unit {0}
IfSeenFirst (w ∷ more) P = IfSaw w.looks P

-- the value of the cut of what was seen beside the first wave, where it was asked for
abbrev pub IsCutTold : Shape → List Output → List FullTx → List Wave → Bool → Option ℕ → Type 0
IsCutTold K mint handed waves false None = Unit {0}
IsCutTold K mint handed waves true (Some value) =
    (lists : List (Vec Record)) × IsSeenFirst waves lists × (part : Part) × IsCutVerdict K mint handed (lists_in lists) (Sound part)
    × (value ≡ part.value)
IsCutTold K mint handed waves watch value = ⊥

-- why there is none: memory ran out, or this is wrong with that cut
abbrev pub WhyNoCut : Shape → List Output → List FullTx → List Wave → Bool → Answer → Type 0
WhyNoCut K mint handed waves watch (answers.Unsound place kind) =
    (watch ≡ true) × (lists : List (Vec Record)) × IsSeenFirst waves lists × IsCutVerdict K mint handed (lists_in lists) (Unsound place kind)
WhyNoCut K mint handed waves watch answers.Memory = Unit {0}
WhyNoCut K mint handed waves watch other = ⊥
