-- What a crash behind a call leaves of a kept ledger.
use Rattle.std.proofs.Common.{◌≡◌, ◌∙◌, ◌⊎◌, inl, inr, ℕ, ◌<◌, ◌≤◌, List, [], ◌∷◌, ◌++◌, reverse, Bool, true, false, ◌==◌, if◌then◌else◌, Option}
use Rattle.std.proofs.Common.{Some, None, refl, sym, ap, subst, arith}
use Rattle.std.proofs.lemmas.List.{append-nil}
use Rattle.outside.specs.Images.{NoMore}
use Rattle.outside.specs.declared.disk.Disk.{Ghosts}
use Rattle.line_text.specs.Lines.{Text}
use Rattle.cbdc_types.specs.Limits.{IsWithinLimits}
use Rattle.cbdc_types.specs.declared.answer.Answer.{Answer}
use Rattle.cbdc_types.specs.declared.answer.Answer.TheVariants as answers
use Rattle.cbdc_model.specs.Records.{Shape, Header, Record, Row, journal}
use Rattle.cbdc_model.specs.Coins.{Output, FullTx, genesis_id}
use Rattle.cbdc_model.specs.After.{After, IsJournal}
use Rattle.cbdc_model.specs.Clean.{IsProperCompact}
use Rattle.cbdc_model.specs.History.{minted, header_of, first_rows, IsSteady}
use Rattle.cbdc_model.specs.Lanes.{IsEnd}
use Rattle.cbdc_model.specs.World.{KeptJournals}
use Rattle.ledger_laws.proofs.FirstJournals.{never_empty}
use Rattle.command_answers.specs.Causes.{IsWell}
use Rattle.command_line.specs.Asked.{WordsAskFor}
use Rattle.requests.specs.declared.Request.{Request}
use Rattle.requests.specs.declared.Request.TheVariants.{Init, Run, Recover, Status, Audit, Gen, Show}
use Rattle.file_runs.specs.Runs.{joined}
use Rattle.ledger_init.specs.Made.{MayBeMade}
use Rattle.record_log.specs.Held.{OpensTo}
use Rattle.rack_ledgers.proofs.Fronts.{has_first, whole_fronts}
use Rattle.rack_ledgers.proofs.Once.{opens_once_law}
use Rattle.rack_ledgers.specs.Racked.{OfTold, AreUnchanged, AreDisksBack}
use Rattle.rack_laws.specs.Shown.{AreImagesLeft, HoldsEach, OpenTo, Shows}
use Rattle.cbdc_model.specs.Ranges.{node_count}
use Rattle.rack_runs.specs.Runs.{IsGrown, SurvivesCrashes}
use Rattle.command_answers.specs.Scene.{Scene}
use Rattle.commands.specs.Left.{AskedLeaves, IsOfNoRack, RequestLeaves}
use Rattle.commands.specs.Outcomes.{AskedDid, Did}
use Rattle.commands.specs.Spared.{AreBadOr}
use Rattle.commands.specs.Survival.{GrewFrom, GrowsWhatever, IsKeptWhatever, Survives}

-- ---- the journals of kept ledgers with one beginning

one_less : (h : Header) (J : List Record) (r : Record) → (J ≡ [] → ⊥) → IsJournal h (r ∷ J) → IsJournal h J
one_less h [] r some is = absurd (some refl)
one_less h (q ∷ J) r some is = is.1

one_more : (h : Header) (J : List Record) (r : Record) → (J ≡ [] → ⊥) → After h J r → IsJournal h J → IsJournal h (r ∷ J)
one_more h [] r some after is = absurd (some refl)
one_more h (q ∷ J) r some after is = (after, is)

module _ (K : Shape) (mint : List Output) (n : ℕ) (inside : n < node_count K) where
  abbrev H : Header
  H = header_of K (genesis_id mint) n

  abbrev at : List Row → List Record
  at later = journal n (later ++ first_rows K (minted mint))

  first_journal : (later : List Row) → IsJournal H (at later) → IsJournal H (at [])
  first_journal [] is = is
  first_journal (row ∷ later) is = first_journal later (go (row.node == n) is)
    where
      go : (b : Bool) → IsJournal H (if b then row.what ∷ at later else at later) → IsJournal H (at later)
      go true more = one_less H (at later) row.what (never_empty K (minted mint) later n inside) more
      go false more = more

  later_journal : (submissions : List FullTx) (later : List Row) → IsSteady K (minted mint) (IsProperCompact submissions) later → IsJournal H (at [])
      → IsJournal H (at later)
  later_journal submissions [] kept is = is
  later_journal submissions (row ∷ later) kept is = go (row.node == n) refl (later_journal submissions later kept.3 is)
    where
      go : (b : Bool) → (row.node == n) ≡ b → IsJournal H (at later) → IsJournal H (if b then row.what ∷ at later else at later)
      go true t rest =
          let same : row.node ≡ n = grind (arith, t) in
          one_more H (at later) row.what (never_empty K (minted mint) later n inside)
          (subst (λ m. After (header_of K (genesis_id mint) m) (journal m (later ++ first_rows K (minted mint))) row.what) same kept.0) rest
      go false t rest = rest

  -- so is each node's journal of the one, if it is of the other
  journal_too : (submissions others : List FullTx) (E X : ℕ → List Record) → KeptJournals K mint submissions E → KeptJournals K mint others X
      → IsJournal H (E n) → IsJournal H (X n)
  journal_too submissions others E X one other is =
      subst (IsJournal H) (other.history.journals_are n)
      (later_journal others other.later other.kept (first_journal one.later (subst (IsJournal H) (sym (one.history.journals_are n)) is)))

-- ---- disks

-- what a disk tells, or nothing
abbrev told_or : Option (List ℕ) → List ℕ
told_or None = []
told_or (Some c) = c

module _ {D : Type 0} (device : Ghosts D) (reads : (d : D) (c : List ℕ) → device.content d ≡ Some c → device.images d c) (before now : ℕ → Option D)
    (K : Shape) (mint : List Output) (submissions : List FullTx) (E : ℕ → List Record) (within : IsWithinLimits K)
    (shown : Shows device before K (genesis_id mint) E) (kept : KeptJournals K mint submissions E) where
  abbrev bytes_of : Option D → List ℕ
  bytes_of None = []
  bytes_of (Some d) = told_or (device.content d)

  -- bytes of a disk that is told now, or else what it told before
  abbrev pick : Option D → List ℕ → List ℕ → List ℕ
  pick None old new = old
  pick (Some d) old new = new

  abbrev chosen : (ℕ → List ℕ) → ℕ → List ℕ
  chosen contents n = pick (now n) (bytes_of (before n)) (contents n)

  shown_bytes : (n : ℕ) (inside : n < node_count K) → bytes_of (before n) ≡ (shown n inside).2.0
  shown_bytes n inside = let s = shown n inside in ap bytes_of s.1 ∙ ap told_or s.2.1

  -- what a disk told is an image of it
  shown_image : (n : ℕ) (d : D) → n < node_count K → before n ≡ Some d → device.images d (bytes_of (before n))
  shown_image n d inside is =
      let s = shown n inside in
      let same : s.0 ≡ d = let z : Some s.0 ≡ Some d = sym s.1 ∙ is in cc in
      subst (λ (c : List ℕ). device.images d c) (sym (shown_bytes n inside)) (subst (λ (x : D). device.images x s.2.0) same (reads s.0 s.2.0 s.2.1))

  -- a crash leaves nothing of the ledger's disks that it could not leave before
  abbrev LeavesNoMore : Type 0
  LeavesNoMore = (n : ℕ) → n < node_count K → OfTold (before n) (λ was. OfTold (now n) (λ is. NoMore (device.images was) (device.images is)))

  left_before : (contents : ℕ → List ℕ) → LeavesNoMore → AreImagesLeft device now K contents → AreImagesLeft device before K (chosen contents)
  left_before contents fewer left n inside d is = go (now n) refl
    where
      go : (o : Option D) → now n ≡ o → device.images d (pick o (bytes_of (before n)) (contents n))
      go None e = shown_image n d inside is
      go (Some x) e = fewer n inside d is x e (contents n) (left n inside x e)

  stays : LeavesNoMore → IsKeptWhatever device before K mint submissions → GrowsWhatever device before now K mint submissions E
  stays fewer whatever contents left = (k.0, opens, k.2, grew)
    where
      old : AreImagesLeft device before K (chosen contents)
      old = left_before contents fewer left

      k : (X : ℕ → List Record) × OpenTo before K (chosen contents) X × KeptJournals K mint submissions X
      k = whatever (chosen contents) old

      opens : OpenTo now K contents k.0
      opens n inside d is =
          let s = shown n inside in
          subst (λ (o : Option D). OpensTo (reverse (k.0 n)) (pick o (bytes_of (before n)) (contents n))) is (k.1 n inside s.0 s.1)

      grew : (n : ℕ) → n < node_count K → OfTold (before n) (λ d. GrewFrom device d (E n) (k.0 n))
      grew n inside d is = record {
        image = chosen contents n;
        could = old n inside d is;
        old = k.0 n;
        opens = k.1 n inside d is;
        grows = ([], refl);
        synced = λ c only. (let s = shown n inside in
            let told : bytes_of (before n) ≡ chosen contents n =
            only (bytes_of (before n)) (shown_image n d inside is) ∙ sym (only (chosen contents n) (old n inside d is)) in
            let opens : OpensTo (reverse (k.0 n)) s.2.0 =
            subst (λ (l : List ℕ). OpensTo (reverse (k.0 n)) l) (sym told ∙ shown_bytes n inside) (k.1 n inside d is) in
            let journal : IsJournal (header_of K (genesis_id mint) n) (k.0 n) =
            journal_too K mint n inside submissions submissions E k.0 kept k.2 s.2.2.journal in
            let one = opens_once_law (header_of K (genesis_id mint) n) (header_of K (genesis_id mint) n) (k.0 n) (E n) s.2.0 s.2.2.limits
            s.2.2.limits journal s.2.2.journal opens s.2.2.opens in
            ([], one.1));
      }

  -- a journal that has grown from the one at entry has grown from that of an image
  from_entry : (X : ℕ → List Record) → ((n : ℕ) → IsEnd (E n) (X n)) → (n : ℕ) → n < node_count K
      → OfTold (before n) (λ d. GrewFrom device d (E n) (X n))
  from_entry X grows n inside d is =
      record {
        image = bytes_of (before n);
        could = shown_image n d inside is;
        old = E n;
        opens = subst (λ (c : List ℕ). OpensTo (reverse (E n)) c) (sym (shown_bytes n inside)) (shown n inside).2.2.opens;
        grows = grows n;
        synced = λ c only. grows n;
      }

  cut_short : (txs : List FullTx) → SurvivesCrashes device now K mint (submissions ++ txs) E
      → GrowsWhatever device before now K mint (submissions ++ txs) E
  cut_short txs crashes contents left = let k = crashes contents left in (k.0, k.1, k.2.kept, from_entry k.0 k.2.grows)

  come_through : (txs : List FullTx) (exit : ℕ → List Record) → HoldsEach device now K exit → IsGrown K mint (submissions ++ txs) E exit
      → GrowsWhatever device before now K mint (submissions ++ txs) E
  come_through txs exit holds grown contents left =
      (exit, (λ n inside d is. holds n inside d is (contents n) (left n inside d is)), grown.kept, from_entry exit grown.grows)

  -- no other ledger is made over the one that the disks show
  in_use : (shape : Shape) (other : List Output) → 0 < shape.coordinators → MayBeMade shape other device before → ⊥
  in_use shape other some was =
      let first : 0 < node_count K = let limits = within in omega (arith, limits.some_coordinator) in
      let s = shown 0 first in
      let is = s.2.2 in
      was.unused 0 (omega (arith, some)) s.0 s.1 s.2.0 s.2.1
      (has_first (header_of K (genesis_id mint) 0) (E 0) is.opens.rest s.2.0
      (whole_fronts (header_of K (genesis_id mint) 0) (E 0) s.2.0 is.limits is.journal is.opens))

module _ {D : Type 0} (device : Ghosts D) (reads : (d : D) (c : List ℕ) → device.content d ≡ Some c → device.images d c) (before after : Scene D)
    (K : Shape) (mint : List Output) (submissions : List FullTx) (E : ℕ → List Record) (within : IsWithinLimits K)
    (shown : Shows device before.disks.held K (genesis_id mint) E) (kept : KeptJournals K mint submissions E)
    (words : List Text) (whatever : IsKeptWhatever device before.disks.held K mint submissions)
    (spared : AreBadOr IsOfNoRack words → (n : ℕ) → after.disks.held n ≡ before.disks.held n) where
  abbrev Survived : Type 0
  Survived = Survives device before after words K mint submissions E

  no_more : GrowsWhatever device before.disks.held after.disks.held K mint (submissions ++ []) E → Survived
  no_more grows = record { txs = []; handed_in = inl refl; grows = grows }

  stayed : LeavesNoMore device reads before.disks.held after.disks.held K mint submissions E within shown kept → Survived
  stayed fewer = no_more (subst (λ (l : List FullTx). GrowsWhatever device before.disks.held after.disks.held K mint l E)
      (sym (append-nil submissions)) (stays device reads before.disks.held after.disks.held K mint submissions E within shown kept fewer whatever))

  same : ((n : ℕ) → after.disks.held n ≡ before.disks.held n) → Survived
  same e = stayed (λ n inside was told is back c image. let one : was ≡ is = let z : Some was ≡ Some is = sym told ∙ sym (e n) ∙ back in cc in
      subst (λ (x : D). device.images x c) (sym one) image)

  unchanged : AreUnchanged device before.disks.held after.disks.held → Survived
  unchanged are = stayed (λ n inside was told is back. (are n was told is back).read.leaves)

  returned : AreDisksBack device before.disks after.disks → Survived
  returned are = stayed (λ n inside was told is back. (are n was told is back).read.leaves)

  made_none : (shape : Shape) (other : List Output) → 1 ≤ shape.coordinators → MayBeMade shape other device before.disks.held → Survived
  made_none shape other some was = absurd (in_use device reads before.disks.held after.disks.held K mint submissions E within shown kept shape other
      (omega (arith, some)) was)

  did_survive : (answer : Answer) (r : Request) → WordsAskFor words r → Did device before after r answer → Survived
  did_survive answer (Init shape mint) asked did = made_none shape did.mint asked.1.1.coordinators.2.some did.was
  did_survive answer (Run verdicts clients options) asked did =
      let told = did.ran K mint submissions E within shown kept in
      record {
        txs = joined did.handed;
        handed_in = inr (Run verdicts clients options, asked, (did.handed, did.read, refl));
        grows = come_through device reads before.disks.held after.disks.held K mint submissions E within shown kept (joined did.handed) told.run.exit
            told.run.disks told.run.grown;
      }
  did_survive answer Recover asked did =
      let told = (did.1 K mint submissions E within shown kept).recovered in
      let grown : IsGrown K mint (submissions ++ []) E told.exit =
      subst (λ (l : List FullTx). IsGrown K mint l E told.exit) (sym (append-nil submissions)) told.grown in
      no_more (come_through device reads before.disks.held after.disks.held K mint submissions E within shown kept [] told.exit told.disks grown)
  did_survive answer (Status hashes) asked did = unchanged did.back
  did_survive answer (Audit mint clients) asked did = unchanged did.was.unchanged
  did_survive answer (Gen shape seed size options) asked did = same did.0
  did_survive answer (Show text) asked did = same (spared (inr (Show text, asked, tt)))

  left_survives : (r : Request) (answer : Answer) → WordsAskFor words r → RequestLeaves device before after r answer → Survived
  left_survives (Init shape mint) answer asked (other, told, inl back) = returned back
  left_survives (Init shape mint) answer asked (other, told, inr (k, stopped)) = made_none shape other asked.1.1.coordinators.2.some stopped.was
  left_survives (Run verdicts clients options) answer asked (handed, read, known, told, inl back) = returned back
  left_survives (Run verdicts clients options) answer asked (handed, read, known, told, inr lane) = record {
    txs = joined handed;
    handed_in = inr (Run verdicts clients options, asked, (handed, read, refl));
    grows = cut_short device reads before.disks.held after.disks.held K mint submissions E within shown kept (joined handed)
        (lane.kept K mint submissions E within shown kept).crashes;
  }
  left_survives Recover answer asked (inl back) = returned back
  left_survives Recover answer asked (inr lane) =
      no_more (cut_short device reads before.disks.held after.disks.held K mint submissions E within shown kept []
      (lane.kept K mint submissions E within shown kept).crashes)
  left_survives (Status hashes) answer asked back = returned back
  left_survives (Audit mint clients) answer asked back = returned back
  left_survives (Gen shape seed size options) answer asked left = same (spared (inr (Gen shape seed size options, asked, tt)))
  left_survives (Show text) answer asked left = same (spared (inr (Show text, asked, tt)))

  by_left : (answer : Answer) → ((n : ℕ) → after.disks.held n ≡ before.disks.held n) ⊎ AskedLeaves device before after words answer → Survived
  by_left answer (inl e) = same e
  by_left answer (inr left) = left_survives left.0 answer left.1 left.2

  -- whatever was answered
  pub survives : (answer : Answer) → (IsWell answer → AskedDid device before after words answer)
      → ((IsWell answer → ⊥) → ((n : ℕ) → after.disks.held n ≡ before.disks.held n) ⊎ AskedLeaves device before after words answer) → Survived
  survives answers.Ok did left = let d = did tt in did_survive answers.Ok d.0 d.1 d.2
  survives answers.WriteFault did left = let d = did tt in did_survive answers.WriteFault d.0 d.1 d.2
  survives answers.BadWords did left = by_left answers.BadWords (left (λ w. w))
  survives (answers.BadInput file at kind) did left = by_left (answers.BadInput file at kind) (left (λ w. w))
  survives (answers.TooMuch total) did left = by_left (answers.TooMuch total) (left (λ w. w))
  survives (answers.NotReady n) did left = by_left (answers.NotReady n) (left (λ w. w))
  survives (answers.Foreign n held asked) did left = by_left (answers.Foreign n held asked) (left (λ w. w))
  survives (answers.NotEmpty n) did left = by_left (answers.NotEmpty n) (left (λ w. w))
  survives (answers.Full n used need capacity) did left = by_left (answers.Full n used need capacity) (left (λ w. w))
  survives (answers.Unsound place kind) did left = by_left (answers.Unsound place kind) (left (λ w. w))
  survives (answers.ClockEnd n stamp) did left = by_left (answers.ClockEnd n stamp) (left (λ w. w))
  survives (answers.Damaged n at) did left = by_left (answers.Damaged n at) (left (λ w. w))
  survives (answers.ReadFault file) did left = by_left (answers.ReadFault file) (left (λ w. w))
  survives (answers.DiskFault n) did left = by_left (answers.DiskFault n) (left (λ w. w))
  survives answers.Memory did left = by_left answers.Memory (left (λ w. w))
