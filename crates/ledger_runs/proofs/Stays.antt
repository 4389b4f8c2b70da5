-- What lanes keep of their batches stays where another batch is done.
use Rattle.std.proofs.Common.{◌≡◌, ℕ, ◌+◌, ◌<◌, Bool, true, false, ◌&&◌, ◌==◌, if◌then◌else◌, List, [], ◌∷◌, ◌++◌, map, reverse, length, min, refl}
use Rattle.std.proofs.Common.{sym, ap, ◌∙◌, subst, arith, append_assoc, append-nil}
use Rattle.std.specs.Prelude.{is_some}
use Rattle.std.proofs.lemmas.List.{append_cancel_right, length-append}
use Rattle.cbdc_model.specs.Records.{Shape, Batch, same_batch, Compact, Outcome, Record, record_of, kind_of, is_of, outcomes_of, outcomes_in, Prepare}
use Rattle.cbdc_model.specs.Ranges.{home_of}
use Rattle.cbdc_model.specs.Waves.{Adds, prepared, has_prepare}
use Rattle.cbdc_model.specs.Places.{Sized, sized_before, sized_onto}
use Rattle.ledger_laws.proofs.Lookups.{true_false, not_true}
use Rattle.ledger_laws.proofs.Moves.{test_step}
use Rattle.run_laws.proofs.NewRecords.{in_journal}
use Rattle.run_laws.proofs.WaveTurns.{one_batch}
use Rattle.ledger_runs.specs.Telling.{decided_in, decided_of, KeepsDecided}
use Rattle.ledger_runs.proofs.Sizes.{AllOf, EachSized, sized_more, sized_of, prepared_more, decided_as, are_decided_as, are_decided_both}
use Rattle.ledger_runs.proofs.Sizes.{decided_both}

second : (a c : Bool) → (a && c) ≡ true → c ≡ true
second a c h = grind (arith, h)

itself : (kind : ℕ) (c : Batch) → ((kind == kind) && same_batch c c) ≡ true
itself kind c = grind arith

lane_is : (l lane : ℕ) → (l == lane) ≡ true → l ≡ lane
lane_is l lane h = grind (arith, h)

found_below : (kind : ℕ) (b c : Batch) (d L : List Record) → AllOf b d → (c ≡ b → ⊥) → record_of kind (d ++ L) c ≡ record_of kind L c
found_below kind b c [] L all apart = refl
found_below kind b c (r ∷ d) L all apart =
    test_step kind r (d ++ L) c (not_true ((kind_of r == kind) && is_of c r)
    (λ t. apart (one_batch c b r (second (kind_of r == kind) (is_of c r) t) all.0)))
    ∙ found_below kind b c d L all.1 apart

-- ---- a lane's batches are its own, and have their Prepares

abbrev pub IsOwn : ℕ → List Record → Sized → Type 0
IsOwn lane J s = (s.batch.lane ≡ lane) × (is_some (record_of 6 J s.batch) ≡ true)

own_before : (lane : ℕ) (J : List Record) (r : Record) (front rest : List Record) (os : List Sized) → J ≡ front ++ r ∷ rest
    → EachSized (IsOwn lane J) os → EachSized (IsOwn lane J) (sized_before lane r os)
own_before lane J (Prepare stamp c txs) front rest os e own =
    elim (c.lane == lane) as (λ l. (c.lane == lane) ≡ l → EachSized (IsOwn lane J) (if l then record { batch = c; size = length txs } ∷ os else os)) [
      | true ↦ λ l. (
        (lane_is c.lane lane l, ap (λ K. is_some (record_of 6 K c)) e ∙ in_journal front rest (Prepare stamp c txs) 6 c (itself 6 c)),
        own,
      )
      | false ↦ λ l. own
    ] refl
own_before lane J other front rest os e own = own

own_all : (lane : ℕ) (J front more rest : List Record) (os : List Sized) → J ≡ front ++ (more ++ rest) → EachSized (IsOwn lane J) os
    → EachSized (IsOwn lane J) (sized_onto lane more os)
own_all lane J front [] rest os e own = own
own_all lane J front (r ∷ more) rest os e own =
    own_all lane J (front ++ r ∷ []) more rest (sized_before lane r os) (e ∙ sym (append_assoc front (r ∷ []) (more ++ rest)))
    (own_before lane J r front (more ++ rest) os e own)

pub all_own : (lane : ℕ) (J more rest : List Record) → J ≡ more ++ rest → EachSized (IsOwn lane J) (sized_onto lane more [])
all_own lane J more rest e = own_all lane J [] more rest [] e tt

pub each_by : (P Q : Sized → Type 0) (S : List Sized) → ((s : Sized) → P s → Q s) → EachSized P S → EachSized Q S
each_by P Q [] f all = tt
each_by P Q (s ∷ S) f all = (f s all.0, each_by P Q S f all.1)

-- ---- new records of one batch

module _ (K : Shape) (b : Batch) (I J : ℕ → List Record) (adds : Adds (λ c. c ≡ b) I J) where
  new_from : (n : ℕ) (front d : List Record) → J n ≡ front ++ (d ++ I n) → AllOf b d
  new_from n front [] e = tt
  new_from n front (r ∷ d) e =
      let k = adds.each n front (d ++ I n) r e (d, refl) in
      (subst (λ c. is_of c r ≡ true) k.2 k.1, new_from n (front ++ r ∷ []) d (e ∙ sym (append_assoc front (r ∷ []) (d ++ I n))))

  pub all_new : (n : ℕ) (d : List Record) → J n ≡ d ++ I n → AllOf b d
  all_new n d e = new_from n [] d e

  -- another batch has the outcomes that it had
  pub same_outcomes : (n : ℕ) (c : Batch) → (c ≡ b → ⊥) → outcomes_of (J n) c ≡ outcomes_of (I n) c
  same_outcomes n c apart =
      let g = adds.grows n in
      ap (λ L. outcomes_of L c) g.1 ∙ ap outcomes_in (found_below 7 b c g.0 (I n) (all_new n g.0 g.1) apart)

  module _ (fresh : has_prepare K I b ≡ false) (lane : ℕ) (E more : List Record) (old : I (home_of K lane) ≡ more ++ E) where
    apart : (s : Sized) → IsOwn lane (I (home_of K lane)) s → s.batch ≡ b → ⊥
    apart s own e =
        true_false (has_prepare K I b)
        (subst (λ c. is_some (record_of 6 (I (home_of K c.lane)) c) ≡ true) e
        (subst (λ l. is_some (record_of 6 (I (home_of K l)) s.batch) ≡ true) (sym own.0) own.1)) fresh

    stay : EachSized (λ s. outcomes_of (J (home_of K lane)) s.batch ≡ outcomes_of (I (home_of K lane)) s.batch) (sized_onto lane more [])
    stay = each_by (IsOwn lane (I (home_of K lane))) (λ s. outcomes_of (J (home_of K lane)) s.batch ≡ outcomes_of (I (home_of K lane)) s.batch)
        (sized_onto lane more [])
        (λ s own. same_outcomes (home_of K lane) s.batch (apart s own)) (all_own lane (I (home_of K lane)) more E old)

    -- the lane has prepared these newly
    newly : (d : List Record) (P : List (List Compact)) → J (home_of K lane) ≡ d ++ I (home_of K lane)
        → prepared lane (J (home_of K lane)) ≡ P ++ prepared lane (I (home_of K lane))
        → sized_onto lane d [] ≡ reverse (map (λ txs. record { batch = b; size = length txs }) P) ++ []
    newly d P e now =
        let same : prepared lane d ≡ P = append_cancel_right (prepared lane d) P (prepared lane (I (home_of K lane)))
        (sym (prepared_more lane d (I (home_of K lane))) ∙ ap (prepared lane) (sym e) ∙ now) in
        sized_of lane b d [] (all_new (home_of K lane) d e) ∙ ap (λ l. reverse (map (λ txs. record { batch = b; size = length txs }) l) ++ []) same

    now_is : (d : List Record) → J (home_of K lane) ≡ d ++ I (home_of K lane) → J (home_of K lane) ≡ (d ++ more) ++ E
    now_is d e = e ∙ ap (λ l. d ++ l) old ∙ sym (append_assoc d more E)

    -- what was decided of its new batch is kept too
    pub keeps_more : (kept : List (Batch × Outcome)) (count : ℕ) (txs : List Compact) (os : List Outcome)
        → KeepsDecided (I (home_of K lane)) (sized_onto lane more []) kept count
        → prepared lane (J (home_of K lane)) ≡ txs ∷ prepared lane (I (home_of K lane)) → os ≡ outcomes_of (J (home_of K lane)) b → 0 < length txs
        → length os ≡ length txs
        → (now : List Record) × (J (home_of K lane) ≡ now ++ E)
        × KeepsDecided (J (home_of K lane)) (sized_onto lane now []) (kept ++ decided_in b os) (min (count + 1) 18446744073709551615)
    keeps_more kept count txs os keeps one is some long =
        let g = adds.grows (home_of K lane) in
        let S : List Sized = sized_onto lane more [] in
        let last : List Sized = record { batch = b; size = length txs } ∷ [] in
        let both : sized_onto lane (g.0 ++ more) [] ≡ S ++ last = sized_more lane g.0 more ∙ ap (λ l. S ++ l) (newly g.0 (txs ∷ []) g.1 one) in
        let new : decided_of (J (home_of K lane)) last ≡ decided_in b os =
        append-nil (decided_in b (outcomes_of (J (home_of K lane)) b)) ∙ ap (decided_in b) (sym is) in
        let long_now : length (S ++ last) ≡ length S + 1 = length-append S last in (
          g.0 ++ more,
          now_is g.0 g.1,
          subst (λ T. KeepsDecided (J (home_of K lane)) T (kept ++ decided_in b os) (min (count + 1) 18446744073709551615)) (sym both) (record {
            decided = ap (λ l. l ++ decided_in b os) (keeps.decided ∙ sym (decided_as (I (home_of K lane)) (J (home_of K lane)) S stay))
                ∙ ap (λ l. decided_of (J (home_of K lane)) S ++ l) (sym new)
                ∙ sym (decided_both (J (home_of K lane)) S last);
            each = are_decided_both (J (home_of K lane)) S last (are_decided_as (I (home_of K lane)) (J (home_of K lane)) S stay keeps.each)
                (some, ap length (sym is) ∙ long, tt);
            count_is = let c = keeps.count_is in omega (arith, c, long_now);
          }),
        )
