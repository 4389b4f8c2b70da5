-- What was seen beside the first file is taken of a kept ledger.
use Rattle.std.proofs.Common.{◌≡◌, inl, inr, ℕ, zero, suc, ◌<◌, ◌≤◌, Bool, true, false, List, [], ◌∷◌, length, reverse, Option, Some, None, refl, sym}
use Rattle.std.proofs.Common.{ap, ◌∙◌, subst, arith}
use Rattle.std.specs.Global.{Vec}
use Rattle.std.proofs.lemmas.Bool.{cases_lt}
use Rattle.std.proofs.lemmas.List.{append-nil, length-map, length-reverse}
use Rattle.cbdc_types.specs.Limits.{IsWithinLimits}
use Rattle.cbdc_types.specs.declared.answer.UnsoundKind.{UnsoundKind}
use Rattle.cbdc_model.specs.Records.{Shape, Record, Row}
use Rattle.cbdc_model.specs.Ranges.{node_count}
use Rattle.cbdc_model.specs.Clean.{Clean, value_out}
use Rattle.cbdc_model.specs.Lanes.{IsEnd}
use Rattle.cbdc_model.specs.World.{KeptJournals}
use Rattle.cbdc_model.specs.Waves.{AreFilesRun}
use Rattle.ledger_laws.proofs.Cuts.{end_trans}
use Rattle.submissions.specs.Checks.{TellsSound}
use Rattle.submissions.specs.SoundTest.{sound_by}
use Rattle.submissions.proofs.Telling.{is_sound_law}
use Rattle.audit.specs.Rows.{journal_in}
use Rattle.audit.specs.declared.parts.PartVerdict.{PartVerdict}
use Rattle.audit.specs.declared.parts.PartVerdict.TheVariants.{Sound, Unsound}
use Rattle.cut_audit.specs.Cuts.{AreFronts}
use Rattle.cut_audit.specs.Laws.{IsMoment, IsMomentOf}
use Rattle.lane_waves.specs.declared.watching.Watch.{Watch}
use Rattle.lane_waves.specs.declared.watching.Watch.TheVariants.{Off, Next, Saw}
use Rattle.lane_waves.specs.Watchers.{IfSaw, list_at}
use Rattle.lane_waves.proofs.Looking.{saw_by}
use Rattle.file_runs.specs.Looking.{AreLooks}
use Rattle.file_runs.specs.Telling.{TellFiles}
use Rattle.file_runs.specs.declared.waves.Wave.{Wave}
use Rattle.workload.specs.Generator.{mint_of, joins_of}
use Rattle.gen_command.specs.Generated.{all_good, files_of, all_submissions}
use Rattle.gen_command.specs.Watched.{IsCutVerdict, HasCut, IsCutValue, told_if, lists_in, IsSeen, IsSeenFirst, IfSeenFirst, IsCutTold}

-- ---- lists of a wave

at_list : (lists : List (Vec Record)) (n : ℕ) → journal_in (lists_in lists) n ≡ list_at lists n
at_list [] n = refl
at_list (l ∷ lists) zero = refl
at_list (l ∷ lists) (suc n) = at_list lists n

past_lists : (lists : List (Vec Record)) (n : ℕ) → length lists ≤ n → list_at lists n ≡ []
past_lists [] n le = refl
past_lists (l ∷ lists) zero le = absurd (omega (arith, le))
past_lists (l ∷ lists) (suc n) le = past_lists lists n (omega (arith, le))

none_ends : (J : List Record) → IsEnd [] J
none_ends J = (J, sym (append-nil J))

-- looks are fronts
pub fronts_of : (K : Shape) (X : ℕ → List Record) (lists : List (Vec Record)) → AreLooks K X lists
    → AreFronts K X (λ k. reverse (journal_in (lists_in lists) k))
fronts_of K X lists looks = record {
  ends = λ k. elim (cases_lt k (node_count K)) [
    | inl inside ↦ subst (λ J. IsEnd (reverse J) (X k)) (sym (at_list lists k)) (looks.fronts k inside)
    | inr past ↦ subst (λ J. IsEnd (reverse J) (X k)) (sym (at_list lists k ∙ past_lists lists k (let m = looks.many in omega (arith, past, m))))
        (none_ends (X k))
  ];
  some = λ k inside. some_back (list_at lists k) (journal_in (lists_in lists) k) (at_list lists k) (looks.some k inside);
}
  where
    some_back : (J L : List Record) → L ≡ J → 0 < length J → 0 < length (reverse L)
    some_back J L same lt = (let n = length-reverse L in let m = ap (λ (l : List Record). length l) same in omega (arith, lt, n, m))

pub lists_some : (K : Shape) (X : ℕ → List Record) (lists : List (Vec Record)) → AreLooks K X lists → (k : ℕ) → k < length lists
    → 0 < length (journal_in (lists_in lists) k)
lists_some K X lists looks k inside = subst (λ (J : List Record). 0 < length J) (sym (at_list lists k))
    (looks.some k (let m = looks.many in omega (arith, inside, m)))

seen_so : (w : Watch) (lists : List (Vec Record)) (P : List (Vec Record) → Type 0) → IsSeen w lists → IfSaw w P → P lists
seen_so Off lists P seen so = absurd seen
seen_so Next lists P seen so = absurd seen
seen_so (Saw v) lists P seen so = subst P (sym seen) so

pub first_so : (ws : List Wave) (lists : List (Vec Record)) (P : List (Vec Record) → Type 0) → IsSeenFirst ws lists → IfSeenFirst ws P → P lists
first_so [] lists P seen so = absurd seen
first_so (w ∷ more) lists P seen so = seen_so w.looks lists P seen so

-- ---- the looks of a workload's first file

tests : TellsSound all_good (sound_by all_good)
tests = is_sound_law all_good

module _ (K : Shape) (seed n : ℕ) (I X : ℕ → List Record) (ws : List Wave) (told : TellFiles K all_good (files_of seed n) I X ws) where
  pub if_first : IfSeenFirst ws (λ lists. (Y : ℕ → List Record) × AreLooks K Y lists)
  if_first =
      let (M, w, more, is, one, rest) = told in
      subst (λ v. IfSeenFirst v (λ lists. (Y : ℕ → List Record) × AreLooks K Y lists)) (sym is)
      (saw_by w.looks (AreLooks K M) (λ lists. (Y : ℕ → List Record) × AreLooks K Y lists) (λ lists looks. (M, looks)) one.looked)

  -- they were taken of the journals between the two files
  pub first_looks : (lists : List (Vec Record)) → IsSeenFirst ws lists
      → (M : ℕ → List Record) × AreFilesRun K (sound_by all_good) (joins_of seed n ∷ []) M X × AreLooks K M lists
  first_looks lists seen =
      let (M, w, more, is, one, (N, w2, more2, is2, two, (none, same))) = told in (
        M,
        (N, two.runs (sound_by all_good) tests, same),
        first_so (w ∷ more) lists (AreLooks K M) (subst (λ v. IsSeenFirst v lists) is seen) one.looked,
      )

module _ (K : Shape) (seed n : ℕ) (within : IsWithinLimits K) (X : ℕ → List Record)
    (kept : KeptJournals K (mint_of seed n) (all_submissions seed n) X) where
  grown : (M : ℕ → List Record) → AreFilesRun K (sound_by all_good) (joins_of seed n ∷ []) M X → (k : ℕ) → IsEnd (M k) (X k)
  grown M second k = let (N, run, same) = second in subst (λ J. IsEnd (M k) J) (sym (same k)) (run.adds.grows k)

  moment_of : (M : ℕ → List Record) (lists : List (List Record)) (rows : List Row) → AreFilesRun K (sound_by all_good) (joins_of seed n ∷ []) M X
      → length lists ≡ node_count K
      → AreFronts K M (λ k. reverse (journal_in lists k)) → IsMoment lists rows → IsMomentOf K (mint_of seed n) (all_submissions seed n) rows
  moment_of M lists rows second many fronts moment =
      moment K (mint_of seed n) (all_submissions seed n) X within.some_shard many kept
      (record { ends = λ k. end_trans (reverse (journal_in lists k)) (M k) (X k) (fronts.ends k) (grown M second k); some = fronts.some })

  module _ (I : ℕ → List Record) (ws : List Wave) (told : TellFiles K all_good (files_of seed n) I X ws) where
    -- the verdict on their cut
    pub has_cut : (lists : List (Vec Record)) → IsSeenFirst ws lists → (v : PartVerdict)
        → IsCutVerdict K (mint_of seed n) (all_submissions seed n) (lists_in lists) v → HasCut K seed n X v
    has_cut lists seen v cut =
        let (M, second, looks) = first_looks K seed n I X ws told lists seen in
        let many : length (lists_in lists) ≡ node_count K = length-map lists (λ (l : Vec Record). l.items) ∙ looks.many in
        let fronts = fronts_of K M lists looks in
        record {
          middle = M;
          second = second;
          lists = lists_in lists;
          many = many;
          fronts = fronts;
          cut = cut;
          kept = (moment_of M (lists_in lists) cut.rows second many fronts cut.moment).kept;
        }

    pub is_value : (watch : Bool) (value : Option ℕ) → IsCutTold K (mint_of seed n) (all_submissions seed n) ws watch value
        → IsCutValue K seed n X watch value
    is_value false None told = tt
    is_value true (Some value) (lists, seen, part, cut, is) = (part, has_cut lists seen (Sound part) cut, is)
    is_value false (Some value) told = absurd told
    is_value true None told = absurd told

  -- where no hashes clash nothing is wrong with it, and its value is the value minted
  pub never_unsound_cut : Clean (mint_of seed n) (all_submissions seed n) → (place : ℕ) (kind : UnsoundKind) → HasCut K seed n X (Unsound place kind)
      → ⊥
  never_unsound_cut clean place kind h =
      ((moment_of h.middle h.lists h.cut.rows h.second h.many h.fronts h.cut.moment).sound clean).verdict (Unsound place kind) h.cut.is

  pub value_told : Clean (mint_of seed n) (all_submissions seed n) → (watch : Bool) (value : Option ℕ) → IsCutValue K seed n X watch value
      → value ≡ told_if watch (value_out (mint_of seed n))
  value_told clean false None is = refl
  value_told clean true (Some value) (part, h, is) =
      let so = ((moment_of h.middle h.lists h.cut.rows h.second h.many h.fronts h.cut.moment).sound clean).verdict (Sound part) h.cut.is in
      ap (λ v. Some v) (is ∙ so.kept ∙ h.cut.is.minted_is)
  value_told clean false (Some value) is = absurd is
  value_told clean true None is = absurd is
