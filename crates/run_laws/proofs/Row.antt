-- The worked number.
use Rattle.std.proofs.Common.{◌≡◌, ℕ, zero, suc, ◌+◌, ◌*◌, ◌^◌, ◌<◌, ◌≤◌, true, List, [], ◌∷◌, ◌++◌, length, map, refl, ap, ◌∙◌, arith}
use Rattle.std.specs.List.{flat_map}
use Rattle.cbdc_model.specs.Records.{Digest, Compact, last_stamp}
use Rattle.cbdc_model.specs.Ranges.{shard_of, on_shard, part}
use Rattle.cbdc_model.specs.Coins.{Output, FullTx, coin_hash, made_coins, tx_id, compact}
use Rattle.cbdc_model.specs.Causes.{greatest}
use Rattle.cbdc_model.specs.Due.{used_of}
use Rattle.cbdc_model.specs.History.{Minted}
use Rattle.cbdc_model.specs.Waves.{IsCut}
use Rattle.ledger_laws.proofs.Lookups.{shard_of-lt}
use Rattle.run_laws.specs.Ample.{Coming, Ample, AreCut, still_to_come, records_of, bytes_at}
use Rattle.run_laws.specs.Row.{one_of_each, first_journals, RowLaw}

one_in : {A : Type 0} (xs : List A) → length xs ≡ 1 → (x : A) × (xs ≡ x ∷ [])
one_in [] e = absurd (omega arith)
one_in (x ∷ []) e = (x, refl)
one_in (x ∷ (y ∷ xs)) e = absurd (omega arith)

-- all hashes lie on the one shard
on_it : (xs : List Digest) → on_shard one_of_each 0 xs ≡ xs
on_it [] = refl
on_it (x ∷ xs) =
    let below : shard_of one_of_each x < 1 = shard_of-lt one_of_each x (omega arith) in
    let here : shard_of one_of_each x ≡ 0 = omega arith in
    rw here (ap (λ l. x ∷ l) (on_it xs))

part_one : (k : Compact) (x : Digest) → k.inputs ≡ x ∷ []
    → part one_of_each 0 0 (k ∷ []) ≡ record { place = 0; id = k.id; inputs = k.inputs; outputs = k.outputs } ∷ []
part_one k x e = rw (on_it k.inputs, on_it k.outputs, e) refl

-- a list of one is cut into one piece
cut_one : (k : Compact) (own : List (List Compact)) → IsCut 16 (k ∷ []) own → own ≡ (k ∷ []) ∷ []
cut_one k [] c = let e : k ∷ [] ≡ [] = c in absurd (cc)
cut_one k (piece ∷ []) c = let e : piece ≡ k ∷ [] = c.1 in cc
cut_one k (piece ∷ (p ∷ more)) c =
    let e : p ≡ [] = c.2.1 in
    let some : 0 < length p = c.2.0 in
    absurd (omega (arith, ap length e))

module _ (m : Minted) (h : Digest) (t : FullTx) (capacity : ℕ → ℕ) (coin : m.hashes ≡ h ∷ []) (one_input : length t.inputs ≡ 1)
    (one_output : length t.outputs ≡ 1) where
  k : Compact
  k = compact t

  k_inputs : (x : Digest) × ((compact t).inputs ≡ x ∷ [])
  k_inputs = let found = one_in t.inputs one_input in (coin_hash found.0, ap (map coin_hash) found.1)

  k_outputs : (x : Digest) × ((compact t).outputs ≡ x ∷ [])
  k_outputs =
      let found = one_in t.outputs one_output in (
        coin_hash (record { point = record { tx = tx_id t; index = 0 }; output = found.0 }),
        ap (λ (os : List Output). map coin_hash (made_coins (tx_id t) 0 os)) found.1,
      )

  -- the seven records
  seven : List Coming
  seven =
      record { node = 0; kind = 6; size = 154 } ∷
      (record { node = 0; kind = 7; size = 99 } ∷ (record { node = 0; kind = 8; size = 34 } ∷ (record { node = 0; kind = 9; size = 34 }
      ∷ (record { node = 1; kind = 2; size = 211 } ∷ (record { node = 1; kind = 3; size = 43 } ∷ (record { node = 1; kind = 4; size = 34 } ∷ []))))))

  are_seven : records_of one_of_each 0 (compact t ∷ []) ≡ seven
  unfolding seven
  are_seven = rw (part_one (compact t) k_inputs.0 k_inputs.1, k_inputs.1, k_outputs.1) refl

  to_come : (batches : ℕ → List (List Compact)) → batches 0 ≡ (compact t ∷ []) ∷ [] → still_to_come one_of_each (first_journals m) batches ≡ seven
  unfolding seven
  to_come batches e = ap (λ bs. flat_map (records_of one_of_each 0) bs ++ []) e ∙ ap (λ l. (l ++ []) ++ []) are_seven

  used_0 : used_of (first_journals m 0) ≡ 99
  used_0 = refl

  used_1 : used_of (first_journals m 1) ≡ 139
  used_1 = rw (on_it m.hashes, coin) refl

  bytes_0 : bytes_at 0 seven ≡ 321
  unfolding seven
  bytes_0 = refl

  bytes_1 : bytes_at 1 seven ≡ 288
  unfolding seven
  bytes_1 = refl

  count : length seven ≡ 7
  unfolding seven
  count = refl

  its_batches : (batches : ℕ → List (List Compact)) → AreCut one_of_each (λ t. true) ((t ∷ []) ∷ []) 0 (batches 0) → batches 0 ≡ (compact t ∷ []) ∷ []
  its_batches batches c =
      let own : c.0 ≡ (compact t ∷ []) ∷ [] = cut_one (compact t) c.0 c.2 in
      let none : c.1 ≡ [] = c.3 in
      let joined : batches 0 ≡ c.0 ++ c.1 = c.4 in
      joined ∙ ap (λ l. l ++ c.1) own ∙ ap (λ l. ((compact t ∷ []) ∷ []) ++ l) none

  enough : Ample one_of_each (λ t. true) capacity ((t ∷ []) ∷ []) (first_journals m) → (420 ≤ capacity 0) × (427 ≤ capacity 1)
  enough a =
      let e = to_come a.batches (its_batches a.batches (a.cut 0 (omega arith))) in (
        omega (arith, a.room 0 (omega arith), used_0, ap (bytes_at 0) e, bytes_0),
        omega (arith, a.room 1 (omega arith), used_1, ap (bytes_at 1) e, bytes_1),
      )

  the_batches : ℕ → List (List Compact)
  the_batches lane = (compact t ∷ []) ∷ []

  is_cut : (lane : ℕ) → lane < 1 * 1 → AreCut one_of_each (λ t. true) ((t ∷ []) ∷ []) lane (the_batches lane)
  unfolding the_batches
  is_cut zero lt = ((compact t ∷ []) ∷ [], [], (omega arith, refl, refl), refl, refl)
  is_cut (suc lane) lt = absurd (omega arith)

  coming_is : still_to_come one_of_each (first_journals m) the_batches ≡ seven
  unfolding the_batches
  coming_is = to_come the_batches refl

  has_room : (420 ≤ capacity 0) × (427 ≤ capacity 1) → (n : ℕ) → n < 1 + 1
      → used_of (first_journals m n) + bytes_at n (still_to_come one_of_each (first_journals m) the_batches) ≤ capacity n
  has_room both zero lt = omega (arith, both.0, used_0, ap (bytes_at 0) coming_is, bytes_0)
  has_room both (suc zero) lt = omega (arith, both.1, used_1, ap (bytes_at 1) coming_is, bytes_1)
  has_room both (suc (suc n)) lt = absurd (omega arith)

  has_stamps : greatest (λ n. last_stamp (first_journals m n)) (1 + 1) + length (still_to_come one_of_each (first_journals m) the_batches) ≤ 2 ^ 62
  has_stamps =
      let none : greatest (λ n. last_stamp (first_journals m n)) (1 + 1) ≡ 0 = refl in
      omega (arith, none, ap length coming_is, count)

  pub is_ample : (420 ≤ capacity 0) × (427 ≤ capacity 1) → Ample one_of_each (λ t. true) capacity ((t ∷ []) ∷ []) (first_journals m)
  is_ample both = record { batches = the_batches; cut = is_cut; room = has_room both; stamps = has_stamps }

pub row : RowLaw
row m h t capacity coin one_input one_output = (enough m h t capacity coin one_input one_output, is_ample m h t capacity coin one_input one_output)
