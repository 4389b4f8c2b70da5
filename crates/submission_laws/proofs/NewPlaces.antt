-- The places of the transactions that a lane's new Prepares have.
use Rattle.std.proofs.Common.{◌≡◌, inl, inr, ℕ, ◌+◌, ◌-◌, ◌<◌, ◌≤◌, true, false, ◌&&◌, ◌==◌, nat_lt, if◌then◌else◌, List, [], ◌∷◌, ◌++◌, map, reverse}
use Rattle.std.proofs.Common.{length, Option, Some, None, is_some, refl, sym, ap, ◌∙◌, subst, arith, append_assoc}
use Rattle.std.proofs.lemmas.Bool.{cases_lt}
use Rattle.std.proofs.lemmas.List.{reverse-append}
use Rattle.cbdc_model.specs.Records.{Shape, Batch, same_batch, Compact, Record, Row, journal, record_of, txs_in, txs_of, Prepare}
use Rattle.cbdc_model.specs.Ranges.{home_of}
use Rattle.cbdc_model.specs.History.{Minted, first_rows}
use Rattle.cbdc_model.specs.Waves.{has_prepare}
use Rattle.cbdc_model.specs.Places.{PlaceIn, place_of}
use Rattle.ledger_laws.proofs.ByKind.{test_itself, some_is}
use Rattle.ledger_laws.proofs.Next.{Steady}
use Rattle.ledger_laws.proofs.Lookups.{true_false, not_true, number_is}
use Rattle.ledger_laws.proofs.Cuts.{cut}
use Rattle.ledger_laws.proofs.Finds.{stands}
use Rattle.run_laws.proofs.LastRecords.{prepare_stands}
use Rattle.run_laws.proofs.NewRecords.{in_journal, still_found}
use Rattle.run_laws.specs.Placing.{tx_at}
use Rattle.run_laws.proofs.Sharing.{joined, Told, told_before, told_in, txs_all, size_told, place_found}
use Rattle.run_laws.proofs.Told.{AllTold, told_append, told_reversed, all_told}
use Rattle.run_laws.proofs.WaveRecords.{never_twice, found_at}
use Rattle.submission_laws.proofs.Lists.{tx_behind, tx_front, tx_low}

some_place : (p q : PlaceIn) → Some p ≡ Some q → p ≡ q
some_place p q e = cc

-- ---- batches, each once

abbrev Other : Batch → Batch → List Compact → Type 0
Other b c txs = c ≡ b → ⊥

abbrev pub Apart : List Told → Type 0
Apart [] = Unit {0}
Apart (t ∷ T) = AllTold (Other t.0) T × Apart T

apart_last : (A : List Told) (t : Told) → Apart A → AllTold (Other t.0) A → Apart (A ++ t ∷ [])
apart_last [] t h others = (tt, tt)
apart_last (a ∷ A) t h others = (told_append (Other a.0) A (t ∷ []) h.0 ((λ e. others.0 (sym e)), tt), apart_last A t h.1 others.1)

apart_reversed : (T : List Told) → Apart T → Apart (reverse T)
apart_reversed [] h = tt
apart_reversed (t ∷ T) h = subst Apart (sym (reverse-append (t ∷ []) T))
    (apart_last (reverse T) t (apart_reversed T h.1) (told_reversed (Other t.0) T h.0))

-- what holds of each batch holds of that of a place
pub among : (Q : Batch → List Compact → Type 0) (T : List Told) (q : ℕ) (p : PlaceIn) → AllTold Q T → place_of (map size_told T) q ≡ Some p
    → (txs : List Compact) × Q p.batch txs
among Q [] q p all e = absurd (let z : None ≡ Some p = e in cc)
among Q (t ∷ T) q p all e = elim (nat_lt q (length t.1))
    as (λ c. (if c then Some (record { batch = t.0; at = q }) else place_of (map size_told T) (q - length t.1)) ≡ Some p
    → (txs : List Compact) × Q p.batch txs) [
      | true ↦ λ f. (t.1, subst (λ r. Q r.batch t.1) (some_place (record { batch = t.0; at = q }) p f) all.0)
      | false ↦ λ f. among Q T (q - length t.1) p all.1 f
    ] e

-- a place is that of one turn
pub one_turn : (T : List Told) (q r : ℕ) (p : PlaceIn) → Apart T → place_of (map size_told T) q ≡ Some p → place_of (map size_told T) r ≡ Some p
    → q ≡ r
one_turn [] q r p apart e f = absurd (let z : None ≡ Some p = e in cc)
one_turn (t ∷ T) q r p apart e f =
    elim (nat_lt q (length t.1)) as (λ c. nat_lt q (length t.1) ≡ c
    → (if c then Some (record { batch = t.0; at = q }) else place_of (map size_told T) (q - length t.1)) ≡ Some p → q ≡ r) [
      | true ↦ λ low g. elim (nat_lt r (length t.1)) as
          (λ d. (if d then Some (record { batch = t.0; at = r }) else place_of (map size_told T) (r - length t.1)) ≡ Some p → q ≡ r) [
            | true ↦ λ h. ap (λ s. s.at) (some_place (record { batch = t.0; at = q }) p g ∙ sym (some_place (record { batch = t.0; at = r }) p h))
            | false ↦ λ h. absurd ((among (Other t.0) T (r - length t.1) p apart.0 h).1
                (ap (λ s. s.batch) (sym (some_place (record { batch = t.0; at = q }) p g))))
          ] f
      | false ↦ λ past g. elim (nat_lt r (length t.1)) as
          (λ d. nat_lt r (length t.1) ≡ d → (if d then Some (record { batch = t.0; at = r }) else place_of (map size_told T) (r - length t.1))
          ≡ Some p → q ≡ r) [
            | true ↦ λ low h. absurd ((among (Other t.0) T (q - length t.1) p apart.0 g).1
                (ap (λ s. s.batch) (sym (some_place (record { batch = t.0; at = r }) p h))))
            | false ↦ λ past' h. back q r (length t.1) (over q (length t.1) past) (over r (length t.1) past')
                (one_turn T (q - length t.1) (r - length t.1) p apart.1 g h)
          ] refl f
    ] refl e
  where
    over : (m n : ℕ) → nat_lt m n ≡ false → n ≤ m
    over m n h = elim (cases_lt m n) [ inl lt ↦ absurd (under m n lt h) | inr le ↦ le ]
      where
        under : (m n : ℕ) → m < n → nat_lt m n ≡ false → ⊥
        under m n lt h = grind (arith, lt, h)

    back : (q r n : ℕ) → n ≤ q → n ≤ r → q - n ≡ r - n → q ≡ r
    back q r n a b e = omega (arith, a, b, e)

-- ---- where a batch stands among them

told_both : (lane : ℕ) (A B : List Record) → told_in lane (A ++ B) ≡ told_in lane A ++ told_in lane B
told_both lane [] B = refl
told_both lane (r ∷ A) B = ap (told_before lane r) (told_both lane A B) ∙ before_both lane r (told_in lane A) (told_in lane B)
  where
    before_both : (lane : ℕ) (r : Record) (S T : List Told) → told_before lane r (S ++ T) ≡ told_before lane r S ++ T
    before_both lane (Prepare stamp b txs) S T = elim (b.lane == lane) as
        (λ c. (if c then (b, txs) ∷ (S ++ T) else S ++ T) ≡ (if c then (b, txs) ∷ S else S) ++ T) [ true ↦ refl | false ↦ refl ]
    before_both lane other S T = refl

pub told_parts : (lane : ℕ) (A B : List Record) → told_in lane (A ++ B) ≡ told_in lane A ++ told_in lane B
told_parts lane A B = told_both lane A B

told_here : (lane stamp : ℕ) (b : Batch) (txs : List Compact) (back : List Record) → (b.lane == lane) ≡ true
    → told_in lane (Prepare stamp b txs ∷ back) ≡ (b, txs) ∷ told_in lane back
told_here lane stamp b txs back own = ap (λ c. if c then (b, txs) ∷ told_in lane back else told_in lane back) own

reversed_parts : (A : List Told) (t : Told) (B : List Told) → reverse (A ++ t ∷ B) ≡ reverse B ++ t ∷ reverse A
reversed_parts A t B =
    reverse-append A (t ∷ B) ∙ ap (λ l. l ++ reverse A) (reverse-append (t ∷ []) B) ∙ append_assoc (reverse B) (t ∷ []) (reverse A)

pub told_split : (lane : ℕ) (newer back : List Record) (stamp : ℕ) (b : Batch) (txs : List Compact) → (b.lane == lane) ≡ true
    → reverse (told_in lane (newer ++ Prepare stamp b txs ∷ back)) ≡ reverse (told_in lane back) ++ (b, txs) ∷ reverse (told_in lane newer)
told_split lane newer back stamp b txs own =
    ap reverse (told_both lane newer (Prepare stamp b txs ∷ back) ∙ ap (λ l. told_in lane newer ++ l) (told_here lane stamp b txs back own))
    ∙ reversed_parts (told_in lane newer) (b, txs) (told_in lane back)

joined_parts : (A : List Told) (t : Told) (B : List Told) → joined (txs_all (A ++ t ∷ B)) ≡ joined (txs_all A) ++ (t.1 ++ joined (txs_all B))
joined_parts [] t B = refl
joined_parts (a ∷ A) t B = ap (λ l. a.1 ++ l) (joined_parts A t B) ∙ sym (append_assoc a.1 (joined (txs_all A)) (t.1 ++ joined (txs_all B)))

-- a transaction of one of the batches has a turn
pub record HasTurn (T : List Told) (b : Batch) (at : ℕ) (c : Compact) : Type 0 where
  pub turn : ℕ
  pub place_is : place_of (map size_told T) turn ≡ Some (record { batch = b; at = at })
  pub tx_is : tx_at (joined (txs_all T)) turn ≡ Some c

pub has_turn : (A : List Told) (b : Batch) (txs : List Compact) (B : List Told) (at : ℕ) (c : Compact) → tx_at txs at ≡ Some c
    → HasTurn (A ++ (b, txs) ∷ B) b at c
has_turn A b txs B at c e = record {
  turn = length (joined (txs_all A)) + at;
  place_is = place_found A b txs B at (length (joined (txs_all A)) + at) (tx_low txs at c e) refl;
  tx_is = ap (λ l. tx_at l (length (joined (txs_all A)) + at)) (joined_parts A (b, txs) B)
      ∙ tx_behind (joined (txs_all A)) (txs ++ joined (txs_all B)) at (length (joined (txs_all A)) + at) refl
      ∙ tx_front txs (joined (txs_all B)) at c e;
}

-- ---- in kept journals

module _ (K : Shape) (minting : Minted) (P : Compact → Type 0) (some : 0 < K.shards) (old new : List Row) (kept : Steady K minting P old)
    (kept' : Steady K minting P new) where
  abbrev I : ℕ → List Record
  I n = journal n (old ++ first_rows K minting)

  abbrev J : ℕ → List Record
  J n = journal n (new ++ first_rows K minting)

  -- a Prepare that came newly is of a batch that was not prepared before, nor elsewhere
  fresh : (n : ℕ) (newer back : List Record) (stamp : ℕ) (c : Batch) (txs : List Compact) → J n ≡ newer ++ Prepare stamp c txs ∷ (back ++ I n)
      → is_some (record_of 6 (back ++ I n) c) ≡ true → ⊥
  fresh n newer back stamp c txs e found = never_twice K minting P some old new kept kept' n newer (back ++ I n) (Prepare stamp c txs) 6 c e
      (back, refl) (test_itself 6 c) found

  module _ (lane : ℕ) (more : List Record) (grown : J (home_of K lane) ≡ more ++ I (home_of K lane)) where
    -- each batch of the lane's new Prepares is of the lane, was not prepared before, and has these transactions now
    abbrev pub IsOwn : Batch → List Compact → Type 0
    IsOwn c txs = (c.lane ≡ lane) × (has_prepare K I c ≡ false) × (txs_of (J (home_of K lane)) c ≡ txs)

    placed_at : (newer back : List Record) (stamp : ℕ) (c : Batch) (txs : List Compact) → more ≡ newer ++ Prepare stamp c txs ∷ back
        → J (home_of K lane) ≡ newer ++ Prepare stamp c txs ∷ (back ++ I (home_of K lane))
    placed_at newer back stamp c txs e = grown ∙ ap (λ m. m ++ I (home_of K lane)) e
        ∙ append_assoc newer (Prepare stamp c txs ∷ back) (I (home_of K lane))

    each_own : (newer back : List Record) (stamp : ℕ) (c : Batch) (txs : List Compact) → [] ++ more ≡ newer ++ Prepare stamp c txs ∷ back
        → (c.lane == lane) ≡ true → IsOwn c txs
    each_own newer back stamp c txs e l =
        let own : c.lane ≡ lane = number_is c.lane lane l in
        let is : J (home_of K lane) ≡ newer ++ Prepare stamp c txs ∷ (back ++ I (home_of K lane)) = placed_at newer back stamp c txs e in (
          own,
          not_true (has_prepare K I c)
              (λ h. fresh (home_of K lane) newer back stamp c txs is
              (still_found back (I (home_of K lane)) 6 c (subst (λ m. is_some (record_of 6 (I (home_of K m)) c) ≡ true) own h))),
          ap txs_in (found_at K minting P some old new kept kept' (home_of K lane) 6 c newer (back ++ I (home_of K lane)) (Prepare stamp c txs) is
              (back, refl) (test_itself 6 c)),
        )

    pub all_own : AllTold IsOwn (reverse (told_in lane more))
    all_own = told_reversed IsOwn (told_in lane more) (all_told IsOwn lane more [] each_own)

    -- no batch has two Prepares
    apart_step : (r : Record) (back front : List Record) → front ++ (r ∷ back) ≡ more → Apart (told_in lane back)
        → Apart (told_before lane r (told_in lane back))
    apart_step (Prepare stamp b txs) back front e h =
        elim (b.lane == lane) as (λ c. Apart (if c then (b, txs) ∷ told_in lane back else told_in lane back)) [
          | true ↦ (
            all_told (Other b) lane back []
                (λ newer later stamp' c txs' f own same.
                fresh (home_of K lane) front back stamp b txs (placed_at front back stamp b txs (sym e))
                (still_in newer later stamp' c txs' back f (subst (λ d. ((6 == 6) && same_batch c d) ≡ true) same (test_itself 6 c)))),
            h,
          )
          | false ↦ h
        ]
      where
        still_in : (newer later : List Record) (stamp' : ℕ) (c : Batch) (txs' : List Compact) (back : List Record)
            → [] ++ back ≡ newer ++ Prepare stamp' c txs' ∷ later → ((6 == 6) && same_batch c b) ≡ true
            → is_some (record_of 6 (back ++ I (home_of K lane)) b) ≡ true
        still_in newer later stamp' c txs' back f t =
            subst (λ l. is_some (record_of 6 l b) ≡ true)
            (sym (ap (λ l. l ++ I (home_of K lane)) f ∙ append_assoc newer (Prepare stamp' c txs' ∷ later) (I (home_of K lane))))
            (in_journal newer (later ++ I (home_of K lane)) (Prepare stamp' c txs') 6 b t)
    apart_step other back front e h = h

    apart_from : (rest front : List Record) → front ++ rest ≡ more → Apart (told_in lane rest)
    apart_from [] front e = tt
    apart_from (r ∷ rest) front e = apart_step r rest front e (apart_from rest (front ++ r ∷ []) (append_assoc front (r ∷ []) rest ∙ e))

    pub all_apart : Apart (reverse (told_in lane more))
    all_apart = apart_reversed (told_in lane more) (apart_from more [] refl)

    -- a transaction of a batch of the lane that was prepared newly has a turn
    pub new_turn : (b : Batch) (at : ℕ) (c : Compact) → b.lane ≡ lane → has_prepare K I b ≡ false
        → tx_at (txs_of (J (home_of K b.lane)) b) at ≡ Some c → HasTurn (reverse (told_in lane more)) b at c
    new_turn b at c own none e =
        let there : is_some (record_of 6 (J (home_of K b.lane)) b) ≡ true = prepared b at c e in
        let p = prepare_stands (J (home_of K b.lane)) b there in
        let q = stands (J (home_of K b.lane)) 6 b there in
        let same : q.1 ≡ Prepare p.0 b (txs_of (J (home_of K b.lane)) b) =
        some_is q.1 (Prepare p.0 b (txs_of (J (home_of K b.lane)) b)) (sym q.5 ∙ p.1) in
        let whole : more ++ I (home_of K b.lane) ≡ q.0 ++ q.1 ∷ q.2 =
        sym (subst (λ m. J (home_of K m) ≡ more ++ I (home_of K m)) (sym own) grown) ∙ q.3 in
        elim (cut more (I (home_of K b.lane)) q.0 q.2 q.1 whole) [
          | inl f ↦ absurd (true_false (has_prepare K I b) (subst (λ M. is_some (record_of 6 M b) ≡ true) (sym f.1) (in_journal f.0 q.2 q.1 6 b q.4))
              none)
          | inr f ↦
              subst (λ T. HasTurn T b at c)
              (sym (ap (λ m. reverse (told_in lane m)) (f.more_is ∙ ap (λ r. q.0 ++ r ∷ f.back) same)
              ∙ told_split lane q.0 f.back p.0 b (txs_of (J (home_of K b.lane)) b) (subst (λ m. (b.lane == m) ≡ true) own (self b.lane))))
              (has_turn (reverse (told_in lane f.back)) b (txs_of (J (home_of K b.lane)) b) (reverse (told_in lane q.0)) at c e)
        ]
      where
        self : (l : ℕ) → (l == l) ≡ true
        self l = grind arith

        prepared : (b : Batch) (at : ℕ) (c : Compact) → tx_at (txs_of (J (home_of K b.lane)) b) at ≡ Some c
            → is_some (record_of 6 (J (home_of K b.lane)) b) ≡ true
        prepared b at c e = some_there (record_of 6 (J (home_of K b.lane)) b) at c e
          where
            some_there : (r : Option Record) (at : ℕ) (c : Compact) → tx_at (txs_in r) at ≡ Some c → is_some r ≡ true
            some_there None at c e = absurd (let z : None ≡ Some c = e in cc)
            some_there (Some r) at c e = refl
