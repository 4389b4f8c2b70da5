-- What the lanes of a file's wave tell of a submission is what the journals at a run's exit decide of it, counted over all files.
use Rattle.std.proofs.Common.{◌≡◌, ℕ, zero, suc, ◌+◌, ◌-◌, ◌*◌, ◌<◌, Bool, true, false, ◌&&◌, ◌==◌, List, [], ◌∷◌, ◌++◌, reverse, length, take, Some}
use Rattle.std.proofs.Common.{None, refl, sym, ap, ◌∙◌, subst, arith, append_assoc}
use Rattle.std.specs.Prelude.{slice_get, is_some}
use Rattle.std.proofs.lemmas.List.{append_cancel_right, length-append, take-append-le, take_all}
use Rattle.cbdc_model.specs.Records.{Shape, Batch, Compact, Record, record_of, kind_of, is_of, outcomes_of, outcomes_in}
use Rattle.cbdc_model.specs.Ranges.{home_of}
use Rattle.cbdc_model.specs.Coins.{FullTx}
use Rattle.cbdc_model.specs.Lanes.{IsEnd}
use Rattle.cbdc_model.specs.Waves.{prepared, has_prepare, IsFileRun, sent_to}
use Rattle.cbdc_model.specs.Places.{Sized, sized_onto, place_of}
use Rattle.ledger_laws.proofs.Lookups.{true_false, not_true}
use Rattle.ledger_laws.proofs.Moves.{test_step}
use Rattle.run_laws.proofs.NewRecords.{still_found}
use Rattle.run_laws.proofs.WaveTurns.{one_batch}
use Rattle.submissions.specs.Checks.{VerdictsOf, TellsSound}
use Rattle.printed_lines.specs.Decided.{added, decided_there as there_decided, decided_at}
use Rattle.ledger_runs.specs.Telling.{SamePrepared, decided_of, kept_by}
use Rattle.ledger_runs.specs.declared.lanes.Lane.{Lane}
use Rattle.ledger_runs.proofs.Sizes.{sized_more, prepared_more, total, joint, total_more, total_is, joint_turned, cut_total, count_is, decided_total}
use Rattle.ledger_runs.proofs.Sizes.{EachSized, decided_as, decided_there, place_behind, place_first, are_decided_as}
use Rattle.ledger_runs.proofs.Stays.{IsOwn, all_own}
use Rattle.file_runs.specs.Telling.{TellsFile, TellFiles}
use Rattle.file_runs.specs.declared.waves.Wave.{Wave}

second : (a c : Bool) → (a && c) ≡ true → c ≡ true
second a c h = grind (arith, h)

-- no record is of the batch
abbrev NoneOf : Batch → List Record → Type 0
NoneOf c [] = Unit {0}
NoneOf c (r ∷ d) = (is_of c r ≡ true → ⊥) × NoneOf c d

found_over : (kind : ℕ) (c : Batch) (d L : List Record) → NoneOf c d → record_of kind (d ++ L) c ≡ record_of kind L c
found_over kind c [] L none = refl
found_over kind c (r ∷ d) L none =
    test_step kind r (d ++ L) c (not_true ((kind_of r == kind) && is_of c r) (λ t. none.0 (second (kind_of r == kind) (is_of c r) t)))
    ∙ found_over kind c d L none.1

-- a batch that was prepared before a wave
module _ (K : Shape) (sent : ℕ → List Compact) (I J : ℕ → List Record) (run : IsFileRun K sent I J) (c : Batch) (old : has_prepare K I c ≡ true) where
  none_from : (n : ℕ) (front d : List Record) → J n ≡ front ++ (d ++ I n) → NoneOf c d
  none_from n front [] e = tt
  none_from n front (r ∷ d) e =
      let k = run.adds.each n front (d ++ I n) r e (d, refl) in (
        λ t. true_false (has_prepare K I c) old (subst (λ b. has_prepare K I b ≡ false) (one_batch k.0 c r k.1 t) k.2.0),
        none_from n (front ++ r ∷ []) d (e ∙ sym (append_assoc front (r ∷ []) (d ++ I n))),
      )

  outcomes_stay : (n : ℕ) → outcomes_of (J n) c ≡ outcomes_of (I n) c
  outcomes_stay n = let g = run.adds.grows n in ap (λ L. outcomes_of L c) g.1 ∙ ap outcomes_in (found_over 7 c g.0 (I n) (none_from n [] g.0 g.1))

  prepared_still : has_prepare K J c ≡ true
  prepared_still = let g = run.adds.grows (home_of K c.lane) in
      ap (λ L. is_some (record_of 6 L c)) g.1 ∙ still_found g.0 (I (home_of K c.lane)) 6 c old

-- what came since, where it is told which records these are
pub added_is : (I J : List Record) (more : List Record) → J ≡ more ++ I → added I J ≡ more
added_is I J more e =
    let long : length J - length I ≡ length more = (let l = ap length e in let a = length-append more I in omega (arith, l, a)) in
    ap (λ n. take n J) long ∙ ap (take (length more)) e ∙ take-append-le (length more) more I (omega arith)
    ∙ take_all (length more) more (omega arith)

module _ (K : Shape) (verdicts : VerdictsOf) (sound : FullTx → Bool) (tells : TellsSound verdicts sound) where
  -- and before the waves of files
  outcomes_later : (files : List (List FullTx)) (I J : ℕ → List Record) (ws : List Wave) → TellFiles K verdicts files I J ws → (c : Batch)
      → has_prepare K I c ≡ true → (n : ℕ) → outcomes_of (J n) c ≡ outcomes_of (I n) c
  outcomes_later [] I J ws (none, same) c old n = ap (λ L. outcomes_of L c) (same n)
  outcomes_later (file ∷ files) I J ws (M, w, more, is, one, rest) c old n =
      let run = one.runs sound tells in
      outcomes_later files M J more rest c (prepared_still K (sent_to K sound file) I M run c old) n
      ∙ outcomes_stay K (sent_to K sound file) I M run c old n

  -- how many transactions of files go to a lane
  abbrev pub sent_of : List (List FullTx) → ℕ → ℕ
  sent_of [] lane = 0
  sent_of (file ∷ files) lane = length (sent_to K sound file lane) + sent_of files lane

  module _ (lane : ℕ) (lt : lane < K.coordinators * K.lanes) where
    -- the records that came to the lane's coordinator have so many transactions of the lane
    pub record Came (I J : ℕ → List Record) (many : ℕ) : Type 0 where
      pub more : List Record
      pub grown : J (home_of K lane) ≡ more ++ I (home_of K lane)
      pub total_is : total (sized_onto lane more []) ≡ many

    pub by_file : (file : List FullTx) (I J : ℕ → List Record) → IsFileRun K (sent_to K sound file) I J
        → Came I J (length (sent_to K sound file lane))
    by_file file I J run =
        let g = run.adds.grows (home_of K lane) in
        let c = run.cut lane lt in
        let same : prepared lane g.0 ≡ reverse c.0 = append_cancel_right (prepared lane g.0) (reverse c.0) (prepared lane (I (home_of K lane)))
        (sym (prepared_more lane g.0 (I (home_of K lane))) ∙ ap (prepared lane) (sym g.1) ∙ c.2) in
        record {
          more = g.0;
          grown = g.1;
          total_is = total_is lane g.0 ∙ ap joint same ∙ joint_turned c.0 ∙ cut_total K.batch (sent_to K sound file lane) c.0 c.1;
        }

    both_came : (I M J : ℕ → List Record) (a b : ℕ) → Came I M a → Came M J b → Came I J (a + b)
    both_came I M J a b one two = record {
      more = two.more ++ one.more;
      grown = two.grown ∙ ap (λ L. two.more ++ L) one.grown ∙ sym (append_assoc two.more one.more (I (home_of K lane)));
      total_is = ap total (sized_more lane two.more one.more) ∙ total_more (sized_onto lane one.more []) (sized_onto lane two.more [])
          ∙ ap (λ n. n + total (sized_onto lane two.more [])) one.total_is ∙ ap (λ n. a + n) two.total_is;
    }

    by_files : (files : List (List FullTx)) (I J : ℕ → List Record) (ws : List Wave) → TellFiles K verdicts files I J ws
        → Came I J (sent_of files lane)
    by_files [] I J ws (none, same) = record { more = []; grown = same (home_of K lane); total_is = refl }
    by_files (file ∷ files) I J ws (M, w, more, is, one, rest) =
        both_came I M J (length (sent_to K sound file lane)) (sent_of files lane) (by_file file I M (one.runs sound tells))
        (by_files files M J more rest)

    -- a file of the run, with what came before and behind it
    record Among (files : List (List FullTx)) (k : ℕ) (file : List FullTx) (w : Wave) (I J : ℕ → List Record) : Type 0 where
      start : ℕ → List Record
      end : ℕ → List Record
      tells_of : TellsFile K verdicts file start end w
      before : Came I start (sent_of (take k files) lane)
      behind : (rest : ℕ) × Came end J rest
      stays : (c : Batch) → has_prepare K end c ≡ true → (n : ℕ) → outcomes_of (J n) c ≡ outcomes_of (end n) c

    some_file : (f g : List FullTx) → Some f ≡ Some g → f ≡ g
    some_file f g e = cc

    some_wave : (v w : Wave) → Some v ≡ Some w → v ≡ w
    some_wave v w e = cc

    among : (files : List (List FullTx)) (k : ℕ) (file : List FullTx) (w : Wave) (I J : ℕ → List Record) (ws : List Wave)
        → TellFiles K verdicts files I J ws → slice_get files k ≡ Some file → slice_get ws k ≡ Some w → Among files k file w I J
    among [] k file w I J ws told here there = absurd (let z : None ≡ Some file = here in cc)
    among (f ∷ files) zero file w I J ws (M, v, more, is, one, rest) here there =
        let same_file = some_file f file here in
        let same_wave = some_wave v w (sym (ap (λ l. slice_get l 0) is) ∙ there) in
        record {
          start = I;
          end = M;
          tells_of = subst (λ g. TellsFile K verdicts g I M w) same_file (subst (λ u. TellsFile K verdicts f I M u) same_wave one);
          before = record { more = []; grown = refl; total_is = refl };
          behind = (sent_of files lane, by_files files M J more rest);
          stays = λ c old n. outcomes_later files M J more rest c old n;
        }
    among (f ∷ files) (suc k) file w I J ws (M, v, more, is, one, rest) here there =
        let a = among files k file w M J more rest here (sym (ap (λ l. slice_get l (suc k)) is) ∙ there) in
        record {
          start = a.start;
          end = a.end;
          tells_of = a.tells_of;
          before = both_came I M a.start (length (sent_to K sound f lane)) (sent_of (take k files) lane) (by_file f I M (one.runs sound tells))
              a.before;
          behind = a.behind;
          stays = a.stays;
        }

    none_sized : (d : List Record) → prepared lane d ≡ [] → sized_onto lane d [] ≡ []
    none_sized d e = go (sized_onto lane d []) (count_is lane d ∙ ap length e)
      where
        go : (S : List Sized) → length S ≡ 0 → S ≡ []
        go [] z = refl
        go (s ∷ S) z = absurd (omega (arith, z))

    has_it : (l : ℕ) (J : ℕ → List Record) (s : Sized) → IsOwn l (J (home_of K l)) s → has_prepare K J s.batch ≡ true
    has_it l J s own = subst (λ m. is_some (record_of 6 (J (home_of K m)) s.batch) ≡ true) (sym own.0) own.1

    each_of : (P Q : Sized → Type 0) (S : List Sized) → ((s : Sized) → P s → Q s) → EachSized P S → EachSized Q S
    each_of P Q [] f all = tt
    each_of P Q (s ∷ S) f all = (f s all.0, each_of P Q S f all.1)

    -- the lane tells of the q-th submission that it got of the file what is decided of the transaction at its turn over all files
    pub decided_is : (files : List (List FullTx)) (k : ℕ) (file : List FullTx) (w : Wave) (x : Lane) (E M X : ℕ → List Record) (ws : List Wave)
        (q : ℕ)
        → ((n : ℕ) → IsEnd (E n) (M n)) → SamePrepared K E M → TellFiles K verdicts files M X ws → slice_get files k ≡ Some file
        → slice_get ws k ≡ Some w → slice_get w.lanes.items lane ≡ Some x
        → q < length (sent_to K sound file lane)
        → (decided_at K E X lane (sent_of (take k files) lane + q) ≡ slice_get (kept_by x.decided.items) q)
        × (length (kept_by x.decided.items) ≡ length (sent_to K sound file lane))
    decided_is files k file w x E M X ws q grows same told here there lane_at low =
        let a = among files k file w M X ws told here there in
        let H = home_of K lane in
        let g = grows (home_of K lane) in
        let old = a.before in
        let own = by_file file a.start a.end (a.tells_of.runs sound tells) in
        let late = a.behind.1 in
        let S : List Sized = sized_onto lane own.more [] in
        let keeps = a.tells_of.tell lane x lane_at own.more own.grown in
        let unprepared : prepared lane g.0 ≡ [] =
        append_cancel_right (prepared lane g.0) [] (prepared lane (E (home_of K lane)))
        (sym (prepared_more lane g.0 (E (home_of K lane))) ∙ ap (prepared lane) (sym g.1) ∙ same lane) in
        let now : X (home_of K lane) ≡ (late.more ++ (own.more ++ (old.more ++ g.0))) ++ E (home_of K lane) =
        late.grown ∙ ap (λ L. late.more ++ L) (own.grown ∙ ap (λ L. own.more ++ L) (old.grown ∙ ap (λ L. old.more ++ L) g.1))
        ∙ ap (λ L. late.more ++ L) (ap (λ L. own.more ++ L) (sym (append_assoc old.more g.0 (E (home_of K lane))))
        ∙ sym (append_assoc own.more (old.more ++ g.0) (E (home_of K lane))))
        ∙ sym (append_assoc late.more (own.more ++ (old.more ++ g.0)) (E (home_of K lane))) in
        let before_is : sized_onto lane (old.more ++ g.0) [] ≡ sized_onto lane old.more []
        = sized_more lane old.more g.0 ∙ ap (λ l. l ++ sized_onto lane old.more []) (none_sized g.0 unprepared) in
        let sizes : sized_onto lane (late.more ++ (own.more ++ (old.more ++ g.0))) []
        ≡ sized_onto lane old.more [] ++ (S ++ sized_onto lane late.more [])
        = sized_more lane late.more (own.more ++ (old.more ++ g.0))
        ∙ ap (λ l. l ++ sized_onto lane late.more []) (sized_more lane own.more (old.more ++ g.0) ∙ ap (λ l. l ++ S) before_is)
        ∙ append_assoc (sized_onto lane old.more []) S (sized_onto lane late.more []) in
        let stay : EachSized (λ s. outcomes_of (X (home_of K lane)) s.batch ≡ outcomes_of (a.end (home_of K lane)) s.batch) S
        = each_of (IsOwn lane (a.end (home_of K lane)))
        (λ s. outcomes_of (X (home_of K lane)) s.batch ≡ outcomes_of (a.end (home_of K lane)) s.batch) S
        (λ s its. a.stays s.batch (has_it lane a.end s its) (home_of K lane))
        (all_own lane (a.end (home_of K lane)) own.more (a.start (home_of K lane)) own.grown) in
        let decided : kept_by x.decided.items ≡ decided_of (X (home_of K lane)) S =
        keeps.decided ∙ sym (decided_as (a.end (home_of K lane)) (X (home_of K lane)) S stay) in
        let place : place_of (sized_onto lane (added (E (home_of K lane)) (X (home_of K lane))) []) (sent_of (take k files) lane + q) ≡ place_of S q =
        ap (λ m. place_of (sized_onto lane m []) (sent_of (take k files) lane + q))
        (added_is (E (home_of K lane)) (X (home_of K lane)) (late.more ++ (own.more ++ (old.more ++ g.0))) now)
        ∙ ap (λ T. place_of T (sent_of (take k files) lane + q)) sizes
        ∙ ap (λ n. place_of (sized_onto lane old.more [] ++ (S ++ sized_onto lane late.more [])) (n + q)) (sym old.total_is)
        ∙ place_behind (sized_onto lane old.more []) (S ++ sized_onto lane late.more []) q
        ∙ place_first S (sized_onto lane late.more []) q (let t = own.total_is in omega (arith, low, t)) in (
          ap (there_decided (X (home_of K lane))) place
              ∙ sym (decided_there (X (home_of K lane)) S q (are_decided_as (a.end (home_of K lane)) (X (home_of K lane)) S stay keeps.each))
              ∙ ap (λ l. slice_get l q) (sym decided),
          ap length keeps.decided ∙ decided_total (a.end (home_of K lane)) S keeps.each ∙ own.total_is,
        )
