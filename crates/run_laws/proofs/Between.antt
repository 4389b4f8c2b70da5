-- Journals between those of a run are kept.
use Rattle.std.proofs.Common.{◌≡◌, ◌⊎◌, inl, inr, ℕ, zero, suc, ◌<◌, Bool, true, false, ◌&&◌, ◌==◌, List, [], ◌∷◌, ◌++◌, take, drop, Some, None, refl}
use Rattle.std.proofs.Common.{sym, ap, ◌∙◌, subst, append_assoc}
use Rattle.std.specs.Prelude.{slice_get}
use Rattle.cbdc_model.specs.Records.{Shape, Batch, Record, record_of, kind_of, is_of, Lock, Finish, Forget, Commit, Discard, Done}
use Rattle.cbdc_model.specs.Ranges.{home_of, shard_node}
use Rattle.cbdc_model.specs.Coins.{Output, FullTx}
use Rattle.cbdc_model.specs.Clean.{IsProperCompact}
use Rattle.cbdc_model.specs.History.{minted, header_of}
use Rattle.cbdc_model.specs.After.{Follows}
use Rattle.cbdc_model.specs.World.{KeptJournals, replaced}
use Rattle.cbdc_model.specs.Lanes.{IsEnd, Seen, KeptLists, first_of}
use Rattle.cbdc_model.specs.Waves.{Adds, has_prepare, has_done, sent_to, IsFileRun, AreFilesRun}
use Rattle.ledger_laws.proofs.ByKind.{same_batch_self}
use Rattle.ledger_laws.proofs.Lookups.{true_false, not_true}
use Rattle.ledger_laws.proofs.Cuts.{cut, end_self, end_trans, seen_grows}
use Rattle.ledger_laws.proofs.Rows.{at, away, at_node}
use Rattle.ledger_laws.proofs.Finds.{replaced_at, replaced_away}
use Rattle.ledger_laws.proofs.Moves.{SameCauses, caused_same, test_step}
use Rattle.ledger_laws.proofs.Together.{no_room}
use Rattle.ledger_laws.proofs.LaneLaws.{local_law}
use Rattle.run_laws.proofs.WaveTurns.{one_batch, adds_on, grown, not_before, second}
use Rattle.run_laws.specs.Between.{BeginsWave, BeginLaw, BetweenLaw}

-- ---- what is added, and what is found

adds_same : (P : Batch → Type 0) (I J : ℕ → List Record) → ((n : ℕ) → J n ≡ I n) → Adds P I J
adds_same P I J same = record {
  grows = λ n. ([], same n);
  each = λ n newer rest r e h. absurd (no_room (I n) newer rest r h.0 h.1 (sym (same n) ∙ e));
}

-- ---- two beginnings of a journal

heads : (a b : Record) (A B : List Record) → a ∷ A ≡ b ∷ B → A ≡ B
heads a b A B e = cc

either : (p q A B : List Record) → p ++ A ≡ q ++ B → IsEnd A B ⊎ IsEnd B A
either [] q A B e = inr (q, e)
either (r ∷ p) [] A B e = inl (r ∷ p, sym e)
either (r ∷ p) (s ∷ q) A B e = either p q A B (heads r s (p ++ A) (q ++ B) e)

-- ---- journals M, before which only batches came that are prepared in them, and behind which only others come

module _ (K : Shape) (M X : ℕ → List Record) (later : Adds (λ b. has_prepare K M b ≡ false) M X) (c : Batch) (known : has_prepare K M c ≡ true) where
  -- no record behind them is of a batch that is prepared in them
  over : (n : ℕ) (front d : List Record) (kind : ℕ) → X n ≡ front ++ (d ++ M n) → record_of kind (d ++ M n) c ≡ record_of kind (M n) c
  over n front [] kind e = refl
  over n front (r ∷ d) kind e =
      let k = later.each n front (d ++ M n) r e (d, refl) in
      test_step kind r (d ++ M n) c (not_true ((kind_of r == kind) && is_of c r)
      (λ t. true_false (has_prepare K M c) known (subst (λ b. has_prepare K M b ≡ false)
      (one_batch k.0 c r k.1 (second (kind_of r == kind) (is_of c r) t)) k.2)))
      ∙ over n (front ++ r ∷ []) d kind (e ∙ sym (append_assoc front (r ∷ []) (d ++ M n)))

  -- what of the batch stood in a beginning of the journal behind them stood in a beginning of their own
  abbrev pub Within : ℕ → List Record → Type 0
  Within n L = (S : List Record) × IsEnd S (M n) × ((kind : ℕ) → record_of kind L c ≡ record_of kind S c)

  pub within : (n : ℕ) (L : List Record) → IsEnd L (X n) → Within n L
  within n L end =
      let g = later.grows n in
      elim (either end.0 g.0 L (M n) (sym end.1 ∙ g.1)) [
        | inl low ↦ (L, low, λ kind. refl)
        | inr high ↦ (
          M n,
          end_self (M n),
          λ kind. ap (λ l. record_of kind l c) high.1 ∙ over n end.0 high.0 kind (end.1 ∙ ap (λ l. end.0 ++ l) high.1),
        )
      ]

-- causes that stand alike
module _ (K : Shape) (n : ℕ) (rest : List Record) (L S : ℕ → List Record) where
  abbrev Alike : Batch → Type 0
  Alike c = (m kind : ℕ) → record_of kind (L m) c ≡ record_of kind (S m) c

  found_alike : (c : Batch) → Alike c → (m kind : ℕ) → record_of kind (replaced L n rest m) c ≡ record_of kind (replaced S n rest m) c
  found_alike c alike m kind = elim (at_node n m) [
    | at e ↦ ap (λ l. record_of kind l c) (replaced_at L n rest m e ∙ sym (replaced_at S n rest m e))
    | away e ↦ ap (λ l. record_of kind l c) (replaced_away L n rest m e) ∙ alike m kind
        ∙ ap (λ l. record_of kind l c) (sym (replaced_away S n rest m e))
  ]

  at_home : (m : ℕ) → n ≡ m → replaced L n rest m ≡ replaced S n rest m
  at_home m e = replaced_at L n rest m e ∙ sym (replaced_at S n rest m e)

  same_causes : (genesis : List ℕ) (r : Record) → Follows (header_of K genesis n) rest r → ((c : Batch) → is_of c r ≡ true → Alike c)
      → SameCauses K (replaced L n rest) (replaced S n rest) r
  same_causes genesis (Lock stamp b es) follows alike = found_alike b (alike b (same_batch_self b)) (home_of K b.lane) 6
  same_causes genesis (Finish stamp b ds) follows alike = found_alike b (alike b (same_batch_self b)) (home_of K b.lane) 7
  same_causes genesis (Forget stamp b) follows alike = found_alike b (alike b (same_batch_self b)) (home_of K b.lane) 8
  same_causes genesis (Commit stamp b os) follows alike =
      (at_home (home_of K b.lane) follows.1, λ s. found_alike b (alike b (same_batch_self b)) (shard_node K s) 2)
  same_causes genesis (Discard stamp b) follows alike =
      (at_home (home_of K b.lane) follows.1, λ s. found_alike b (alike b (same_batch_self b)) (shard_node K s) 3)
  same_causes genesis (Done stamp b) follows alike =
      (at_home (home_of K b.lane) follows.1, λ s. found_alike b (alike b (same_batch_self b)) (shard_node K s) 4)
  same_causes genesis other follows alike = tt

module _ (K : Shape) (mint : List Output) (submissions : List FullTx) (some : 0 < K.shards) (E M X : ℕ → List Record)
    (kept : KeptJournals K mint submissions E) (kept' : KeptJournals K mint submissions X)
    (new : Adds (λ b. has_prepare K M b ≡ true) E M) (later : Adds (λ b. has_prepare K M b ≡ false) M X) where
  old_lists : KeptLists K (minted mint) (IsProperCompact submissions) E
  old_lists = (local_law K mint submissions E some).0 kept

  lists : KeptLists K (minted mint) (IsProperCompact submissions) X
  lists = (local_law K mint submissions X some).0 kept'

  -- a record that came before them was caused by what stood before them
  seen_before : (n : ℕ) (rest : List Record) (r : Record) (c : Batch) → is_of c r ≡ true → has_prepare K M c ≡ true
      → Follows (header_of K (minted mint).id n) rest r → Seen K X n rest r → Seen K M n rest r
  seen_before n rest r c own known follows seen =
      let short : (m : ℕ) → Within K M X later c known m (seen.lists m) = λ m. within K M X later c known m (seen.lists m) (seen.ends m) in
      record {
        lists = λ m. (short m).0;
        ends = λ m. (short m).1;
        caused = caused_same K (replaced seen.lists n rest) (replaced (λ m. (short m).0) n rest) n r
            (at_home K n rest seen.lists (λ m. (short m).0) n refl)
            (same_causes K n rest seen.lists (λ m. (short m).0) (minted mint).id r follows
            (λ d of_d m kind. subst (λ e. record_of kind (seen.lists m) e ≡ record_of kind (short m).0 e) (one_batch c d r own of_d)
            ((short m).2 kind)))
            seen.caused;
      }

  pub between : KeptJournals K mint submissions M
  between = (local_law K mint submissions M some).1 (record {
    begins = λ n. end_trans (first_of K (minted mint) n) (E n) (M n) (old_lists.begins n) (new.grows n);
    each = λ n newer rest r e h.
        let g = later.grows n in
        let it = lists.each n (g.0 ++ newer) rest r (g.1 ∙ ap (λ l. g.0 ++ l) e ∙ sym (append_assoc g.0 newer (r ∷ rest))) h in (
          it.0,
          elim (cut (new.grows n).0 (E n) newer rest r (sym (new.grows n).1 ∙ e)) [
            | inl f ↦ seen_grows K E M n rest r new.grows (old_lists.each n f.0 rest r f.1 h).1
            | inr f ↦ let k = new.each n newer rest r e (f.back, f.rest_is) in seen_before n rest r k.0 k.1 k.2 it.0.1 it.1
          ],
          it.2,
        );
  })

-- ---- files in turn

pub files_grow : (K : Shape) (sound : FullTx → Bool) (files : List (List FullTx)) (I J : ℕ → List Record) → AreFilesRun K sound files I J → (n : ℕ)
    → IsEnd (I n) (J n)
files_grow K sound [] I J h n = ([], h n)
files_grow K sound (file ∷ files) I J h n = end_trans (I n) (h.0 n) (J n) (h.1.adds.grows n) (files_grow K sound files h.0 J h.2 n)

-- what files add is of batches that are prepared at their end, and were not at their begin
files_new : (K : Shape) (sound : FullTx → Bool) (files : List (List FullTx)) (I J : ℕ → List Record) → AreFilesRun K sound files I J
    → Adds (λ b. has_prepare K J b ≡ true) I J
files_new K sound [] I J h = adds_same (λ b. has_prepare K J b ≡ true) I J h
files_new K sound (file ∷ files) I J h =
    adds_on (λ b. (has_prepare K I b ≡ false) × (has_prepare K h.0 b ≡ true)) (λ b. has_prepare K J b ≡ true) (λ b. has_prepare K J b ≡ true) I h.0 J
    (λ b its. grown 6 b (h.0 (home_of K b.lane)) (J (home_of K b.lane)) (files_grow K sound files h.0 J h.2 (home_of K b.lane)) its.1) (λ b its. its)
    h.1.adds (files_new K sound files h.0 J h.2)

files_later : (K : Shape) (sound : FullTx → Bool) (files : List (List FullTx)) (I J : ℕ → List Record) → AreFilesRun K sound files I J
    → Adds (λ b. has_prepare K I b ≡ false) I J
files_later K sound [] I J h = adds_same (λ b. has_prepare K I b ≡ false) I J h
files_later K sound (file ∷ files) I J h =
    adds_on (λ b. (has_prepare K I b ≡ false) × (has_prepare K h.0 b ≡ true)) (λ b. has_prepare K h.0 b ≡ false) (λ b. has_prepare K I b ≡ false) I
    h.0 J
    (λ b its. its.0) (λ b its. not_before 6 b (I (home_of K b.lane)) (h.0 (home_of K b.lane)) (h.1.adds.grows (home_of K b.lane)) its) h.1.adds
    (files_later K sound files h.0 J h.2)

pub between_law : BetweenLaw
between_law K mint submissions sound files k E X M some kept kept' begins =
    let R = begins.resumed in
    between K mint submissions some E M X kept kept'
    (adds_on (λ b. (has_prepare K E b ≡ true) × (has_done K E b ≡ false)) (λ b. has_prepare K M b ≡ true) (λ b. has_prepare K M b ≡ true) E R M
    (λ b its. grown 6 b (E (home_of K b.lane)) (M (home_of K b.lane))
    (end_trans (E (home_of K b.lane)) (R (home_of K b.lane)) (M (home_of K b.lane)) (begins.is_resumed.adds.grows (home_of K b.lane))
    (files_grow K sound (take k files) R M begins.before (home_of K b.lane))) its.0)
    (λ b its. its) begins.is_resumed.adds (files_new K sound (take k files) R M begins.before))
    (files_later K sound (drop k files) M X begins.behind)

-- the waves of files begin one behind another
parted : (K : Shape) (sound : FullTx → Bool) (files : List (List FullTx)) (k : ℕ) (I J : ℕ → List Record) → AreFilesRun K sound files I J
    → (M : ℕ → List Record) × AreFilesRun K sound (take k files) I M × AreFilesRun K sound (drop k files) M J
parted K sound files zero I J h = (I, (λ n. refl), h)
parted K sound [] (suc k) I J h = (I, (λ n. refl), h)
parted K sound (file ∷ files) (suc k) I J h = let p = parted K sound files k h.0 J h.2 in (p.0, (h.0, h.1, p.1), p.2)

pub begin_law : BeginLaw
begin_law K sound files k E X waves =
    let p = parted K sound files k waves.0 X waves.2 in
    (p.0, record { resumed = waves.0; is_resumed = waves.1; before = p.1; behind = p.2 })

-- a file more behind others
one_more : (K : Shape) (sound : FullTx → Bool) (files : List (List FullTx)) (file : List FullTx) (I M N : ℕ → List Record)
    → AreFilesRun K sound files I M → IsFileRun K (sent_to K sound file) M N
    → AreFilesRun K sound (files ++ file ∷ []) I N
one_more K sound [] file I M N same run = (N, subst (λ Y. IsFileRun K (sent_to K sound file) Y N) (λ i n. same n i) run, λ n. refl)
one_more K sound (f ∷ files) file I M N h run = (h.0, h.1, one_more K sound files file h.0 M N h.2 run)

behind_get : (files : List (List FullTx)) (k : ℕ) (file : List FullTx) → slice_get files k ≡ Some file
    → (take (suc k) files ≡ take k files ++ file ∷ []) × (drop k files ≡ file ∷ drop (suc k) files)
behind_get [] k file e = absurd (let z : None ≡ Some file = e in cc)
behind_get (f ∷ files) zero file e = (ap (λ g. g ∷ []) (some_file f file e), ap (λ g. g ∷ files) (some_file f file e))
  where
    some_file : (f g : List FullTx) → Some f ≡ Some g → f ≡ g
    some_file f g e = cc
behind_get (f ∷ files) (suc k) file e = let r = behind_get files k file e in (ap (λ l. f ∷ l) r.0, r.1)

-- behind its own wave that of the next file begins
pub next_wave : (K : Shape) (sound : FullTx → Bool) (files : List (List FullTx)) (k : ℕ) (file : List FullTx) (E X M : ℕ → List Record)
    → slice_get files k ≡ Some file → BeginsWave K sound files k E X M
    → (N : ℕ → List Record) × IsFileRun K (sent_to K sound file) M N × BeginsWave K sound files (suc k) E X N
next_wave K sound files k file E X M e begins =
    let b = behind_get files k file e in
    let run : AreFilesRun K sound (file ∷ drop (suc k) files) M X = subst (λ fs. AreFilesRun K sound fs M X) b.1 begins.behind in (
      run.0,
      run.1,
      record {
        resumed = begins.resumed;
        is_resumed = begins.is_resumed;
        before = subst (λ fs. AreFilesRun K sound fs begins.resumed run.0) (sym b.0)
            (one_more K sound (take k files) file begins.resumed M run.0 begins.before run.1);
        behind = run.2;
      },
    )
