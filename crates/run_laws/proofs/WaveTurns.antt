-- How far a run has come: through the lanes that an earlier run left open, and through its files.
use Rattle.std.proofs.Common.{◌≡◌, ◌≢◌, ◌⊎◌, inl, inr, ℕ, suc, ◌<◌, ◌≤◌, Bool, true, false, ◌&&◌, ◌==◌, List, [], ◌∷◌, ◌++◌, is_some, refl, sym, ap}
use Rattle.std.proofs.Common.{◌∙◌, subst, arith}
use Rattle.cbdc_model.specs.Records.{Shape, Batch, Record, record_of, is_of, Genesis, Carry}
use Rattle.cbdc_model.specs.Ranges.{home_of}
use Rattle.cbdc_model.specs.Slots.{slot, Idle}
use Rattle.cbdc_model.specs.Coins.{FullTx}
use Rattle.cbdc_model.specs.Lanes.{IsEnd}
use Rattle.cbdc_model.specs.Waves.{Adds, has_prepare, has_done, sent_to, IsFileRun, AreFilesRun}
use Rattle.ledger_laws.proofs.Lookups.{true_false, not_true}
use Rattle.ledger_laws.proofs.Cuts.{cut, end_self, end_trans}
use Rattle.ledger_laws.proofs.Rows.{at, away, at_node}
use Rattle.ledger_laws.proofs.Together.{no_room}
use Rattle.ledger_laws.proofs.Slots.{same_batch_is}
use Rattle.ledger_laws.proofs.Finds.{stands}
use Rattle.run_laws.specs.WaveSteps.{ResumingBeginsLaw, ResumingStepLaw, ResumingSkipLaw, ResumingEndsLaw, WavesBeginLaw, WavesStepLaw}
use Rattle.run_laws.proofs.NewRecords.{in_journal, still_found}

-- what is added step by step
adds_none : (P : Batch → Type 0) (J : ℕ → List Record) → Adds P J J
adds_none P J = record { grows = λ n. end_self (J n); each = λ n newer rest r e h. absurd (no_room (J n) newer rest r h.0 h.1 e) }

pub adds_on : (P Q R : Batch → Type 0) (I J X : ℕ → List Record) → ((b : Batch) → P b → R b) → ((b : Batch) → Q b → R b) → Adds P I J → Adds Q J X
    → Adds R I X
adds_on P Q R I J X p q a b = record {
  grows = λ n. end_trans (I n) (J n) (X n) (a.grows n) (b.grows n);
  each = λ n newer rest r e h. elim (cut (b.grows n).0 (J n) newer rest r (sym (b.grows n).1 ∙ e)) [
    | inr f ↦ let k = b.each n newer rest r e (f.back, f.rest_is) in (k.0, k.1, q k.0 k.2)
    | inl f ↦ let k = a.each n f.0 rest r f.1 h in (k.0, k.1, p k.0 k.2)
  ];
}

-- what was found is still found
pub grown : (kind : ℕ) (c : Batch) (I J : List Record) → IsEnd I J → is_some (record_of kind I c) ≡ true → is_some (record_of kind J c) ≡ true
grown kind c I J h f = subst (λ L. is_some (record_of kind L c) ≡ true) (sym h.1) (still_found h.0 I kind c f)

pub not_before : (kind : ℕ) (c : Batch) (I J : List Record) → IsEnd I J → is_some (record_of kind J c) ≡ false → is_some (record_of kind I c) ≡ false
not_before kind c I J h f = not_true _ (λ t. true_false _ (grown kind c I J h t) f)

-- a record is of one batch
pub one_batch : (c b : Batch) (r : Record) → is_of c r ≡ true → is_of b r ≡ true → c ≡ b
one_batch c b (Genesis header hs) x y = absurd (let z : false ≡ true = x in cc)
one_batch c b (Carry stamp header source hs numbers) x y = absurd (let z : false ≡ true = x in cc)
one_batch c b other x y = same_batch_is c b (grind (arith, x, y))

pub second : (a c : Bool) → (a && c) ≡ true → c ≡ true
second a c h = grind (arith, h)

apart : (a b : ℕ) → (a == b) ≡ false → b ≢ a
apart a b h e = grind (arith, h, e)

pub resuming_begins_law : ResumingBeginsLaw
resuming_begins_law K E = record { adds = adds_none _ E; idle = λ lane lt. absurd (omega arith); rest = λ lane le. refl }

pub resuming_step_law : ResumingStepLaw
resuming_step_law K lane b E J J' so resumes = record {
  adds = adds_on (λ c. (has_prepare K E c ≡ true) × (has_done K E c ≡ false)) (λ c. c ≡ b)
      (λ c. (has_prepare K E c ≡ true) × (has_done K E c ≡ false)) E J J'
      (λ c h. h)
      (λ c e. subst (λ d. (has_prepare K E d ≡ true) × (has_done K E d ≡ false)) (sym e)
      (before, not_before 9 b (E (home_of K b.lane)) (J (home_of K b.lane)) (so.adds.grows (home_of K b.lane)) resumes.undone))
      so.adds resumes.adds;
  idle = λ other lt. elim (at_node lane other) [
    | at e ↦ subst (λ l. (slot (J' (home_of K l)) l).phase ≡ Idle) e resumes.idle
    | away e ↦ ap (λ s. s.phase) (resumes.others.slots other (home_of K other) (apart lane other e)) ∙ so.idle other (lower other lt e)
  ];
  rest = λ other le. resumes.others.slots other (home_of K other) (above other le) ∙ so.rest other (omega (arith, le));
}
  where
    lower : (other : ℕ) → other < suc lane → (lane == other) ≡ false → other < lane
    lower other lt e = grind (arith, lt, e)

    above : (other : ℕ) → suc lane ≤ other → other ≢ lane
    above other le e = omega (arith, le, e)

    -- its Prepare is none of the new records but stood before
    before : has_prepare K E b ≡ true
    before = elim (has_prepare K E b) as (λ t. has_prepare K E b ≡ t → has_prepare K E b ≡ true) [
      | true ↦ λ t. t
      | false ↦ λ t. absurd (none_new t)
    ] refl
      where
        none_new : has_prepare K E b ≡ false → ⊥
        none_new t =
            let q = stands (J (home_of K b.lane)) 6 b resumes.prepare in
            let grows = so.adds.grows (home_of K b.lane) in
            elim (cut grows.0 (E (home_of K b.lane)) q.0 q.2 q.1 (sym grows.1 ∙ q.3)) [
              | inr f ↦
                  let k = so.adds.each (home_of K b.lane) q.0 q.2 q.1 q.3 (f.back, f.rest_is) in
                  true_false (has_prepare K E b) (subst (λ c. has_prepare K E c ≡ true) (one_batch k.0 b q.1 k.1 (second _ _ q.4)) k.2.0) t
              | inl f ↦ true_false (has_prepare K E b) (subst (λ L. is_some (record_of 6 L b) ≡ true) (sym f.1) (in_journal f.0 q.2 q.1 6 b q.4)) t
            ]

pub resuming_skip_law : ResumingSkipLaw
resuming_skip_law K l m E J so le idle = record {
  adds = so.adds;
  idle = λ lane lt. elim (either lane) [
    | inl low ↦ so.idle lane low
    | inr high ↦ idle lane high lt
  ];
  rest = λ lane high. so.rest lane (omega (arith, le, high));
}
  where
    either : (lane : ℕ) → (lane < l) ⊎ (l ≤ lane)
    either lane = grind arith

pub resuming_ends_law : ResumingEndsLaw
resuming_ends_law K E J so = record { adds = so.adds; idle = so.idle }

pub waves_begin_law : WavesBeginLaw
waves_begin_law K sound E R resumed = (R, resumed, λ n. refl)

-- one file more behind the others
files_more : (K : Shape) (sound : FullTx → Bool) (files : List (List FullTx)) (file : List FullTx) (R J X : ℕ → List Record)
    → AreFilesRun K sound files R J → IsFileRun K (sent_to K sound file) J X
    → AreFilesRun K sound (files ++ file ∷ []) R X
files_more K sound [] file R J X h run = (X, subst (λ Z. IsFileRun K (sent_to K sound file) Z X) (λ i n. h n i) run, λ n. refl)
files_more K sound (first ∷ files) file R J X h run = (h.0, h.1, files_more K sound files file h.0 J X h.2 run)

pub waves_step_law : WavesStepLaw
waves_step_law K sound files file E J X waves run = (waves.0, waves.1, files_more K sound files file waves.0 J X waves.2 run)
