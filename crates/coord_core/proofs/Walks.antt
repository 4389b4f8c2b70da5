-- One step of a walk over a list, and of what is computed on the way.
use Rattle.std.proofs.Common.{◌≡◌, ℕ, suc, ◌+◌, ◌^◌, ◌<◌, ◌≤◌, max, List, [], ◌∷◌, ◌++◌, length, get_or, set, take, drop, refl, ap, sym, ◌∙◌, subst}
use Rattle.std.proofs.Common.{arith, add-one, drop-cons, append_assoc, Some, true, false}
use Rattle.std.specs.Prelude.{bit_or, if◌then◌else◌, ◌==◌}
use Rattle.std.proofs.lemmas.Bool.{ne_eqb}
use Rattle.std.specs.Int.{bit_at}
use Rattle.std.proofs.lemmas.List.{take_more, take_more_set, take-append-drop, drop-set-lt, drop_all}
use Rattle.cbdc_types.specs.declared.batch.ShardReplies.{ShardReplies}
use Rattle.cbdc_model.specs.Records.{Digest, Shape, Reply, Outcome}
use Rattle.cbdc_model.specs.Slots.{Slot, Phase}
use Rattle.cbdc_model.specs.Ranges.{shard_of}
use Rattle.cbdc_model.specs.Outcomes.{outcome_by}
use Rattle.cbdc_model.specs.Records.{Compact}
use Rattle.coord_core.specs.Masks.{marked, mask_of, masks_of}
use Rattle.std.proofs.Common.{zero, map}
use Rattle.cbdc_model.specs.Records.{Won}
use Rattle.coord_core.specs.Decided.{replied_outcomes, combined_outcomes, latest_reply, StampsBelow, ShardsRise}

-- what is left of a list at a place: the item there, and the rest
pub rest_at : {A : Type 0} (xs : List A) (i : ℕ) (d : A) → i < length xs → drop i xs ≡ get_or xs i d ∷ drop (i + 1) xs
rest_at xs i d lt = rw add-one (drop-cons xs i d lt)

pub rest_is : {A : Type 0} (xs : List A) (i : ℕ) (x : A) → i < length xs → x ≡ get_or xs i x → drop i xs ≡ x ∷ drop (i + 1) xs
rest_is xs i x lt is = rest_at xs i x lt ∙ ap (λ y. y ∷ drop (i + 1) xs) (sym is)

pub marked_step : (K : Shape) (m : ℕ) (xs : List Digest) (i : ℕ) (x : Digest) → i < length xs → x ≡ get_or xs i x
    → marked K (bit_or m (2 ^ shard_of K x)) (drop (i + 1) xs) ≡ marked K m (drop i xs)
marked_step K m xs i x lt is = rw (rest_is xs i x lt is) refl

pub latest_step : (n : ℕ) (rs : List ShardReplies) (i : ℕ) (r : ShardReplies) → i < length rs → r ≡ get_or rs i r
    → latest_reply (max n r.stamp) (drop (i + 1) rs) ≡ latest_reply n (drop i rs)
latest_step n rs i r lt is = rw (rest_is rs i r lt is) refl

pub earlier_step : (limit : ℕ) (rs : List ShardReplies) (i : ℕ) (r : ShardReplies) → i < length rs → r ≡ get_or rs i r
    → StampsBelow limit (drop i rs) → (r.stamp < limit) × StampsBelow limit (drop (i + 1) rs)
earlier_step limit rs i r lt is h = let P : List ShardReplies → Type 0 = λ xs. StampsBelow limit xs in subst P (rest_is rs i r lt is) h

told_none : (s : ℕ) (ms : List ℕ) (os : List Outcome) → replied_outcomes s ms [] os ≡ os
told_none s [] os = refl
told_none s (m ∷ ms) [] = refl
told_none s (m ∷ ms) (o ∷ os) = refl

pub told_cons : (s m : ℕ) (ms : List ℕ) (r : Reply) (rs : List Reply) (o : Outcome) (os : List Outcome) → bit_at m s ≡ 1
    → replied_outcomes s (m ∷ ms) (r ∷ rs) (o ∷ os) ≡ outcome_by (Some r) s o ∷ replied_outcomes s ms rs os
told_cons s m ms r rs o os set = rw set refl

pub told_pass : (s m : ℕ) (ms : List ℕ) (rs : List Reply) (o : Outcome) (os : List Outcome) → (bit_at m s ≡ 1 → ⊥)
    → replied_outcomes s (m ∷ ms) rs (o ∷ os) ≡ o ∷ replied_outcomes s ms rs os
told_pass s m ms [] o os clear = sym (ap (λ x. o ∷ x) (told_none s ms os))
told_pass s m ms (r ∷ rs) o os clear = rw (ne_eqb _ _ clear) refl

-- the shard replies to the transaction at k
pub told_takes : (s k j : ℕ) (ms : List ℕ) (rs : List Reply) (os : List Outcome) (r : Reply) (o : Outcome)
    → k < length ms → k < length os → j < length rs → bit_at (get_or ms k 0) s ≡ 1
    → r ≡ get_or rs j r → o ≡ get_or os k o
    → take (k + 1) (set os k (outcome_by (Some r) s o))
    ++ replied_outcomes s (drop (k + 1) ms) (drop (j + 1) rs) (drop (k + 1) (set os k (outcome_by (Some r) s o)))
    ≡ take k os ++ replied_outcomes s (drop k ms) (drop j rs) (drop k os)
told_takes s k j ms rs os r o kms kos jrs bit r-is o-is =
    rw (take_more_set os k (outcome_by (Some r) s o) kos)
    (rw (drop-set-lt (k + 1) os k (outcome_by (Some r) s o) (omega arith))
    (rw (rest_at ms k 0 kms)
    (rw (rest_is rs j r jrs r-is)
    (rw (rest_is os k o kos o-is)
    (rw (told_cons s (get_or ms k 0) (drop (k + 1) ms) r (drop (j + 1) rs) o (drop (k + 1) os) bit)
    (append_assoc (take k os) (outcome_by (Some r) s o ∷ []) (replied_outcomes s (drop (k + 1) ms) (drop (j + 1) rs) (drop (k + 1) os))))))))

-- it doesn't
pub told_passes : (s k j : ℕ) (ms : List ℕ) (rs : List Reply) (os : List Outcome) (d : Outcome)
    → k < length ms → k < length os → (bit_at (get_or ms k 0) s ≡ 1 → ⊥)
    → take (k + 1) os ++ replied_outcomes s (drop (k + 1) ms) (drop j rs) (drop (k + 1) os)
    ≡ take k os ++ replied_outcomes s (drop k ms) (drop j rs) (drop k os)
told_passes s k j ms rs os d kms kos clear =
    rw (take_more os k d kos)
    (rw (rest_at ms k 0 kms)
    (rw (rest_at os k d kos)
    (rw (told_pass s (get_or ms k 0) (drop (k + 1) ms) (drop j rs) (get_or os k d) (drop (k + 1) os) clear)
    (append_assoc (take k os) (get_or os k d ∷ []) (replied_outcomes s (drop (k + 1) ms) (drop j rs) (drop (k + 1) os))))))

-- no reply is left
pub told_ends : (s k j : ℕ) (ms : List ℕ) (rs : List Reply) (os : List Outcome) → length rs ≤ j
    → take (k + 1) os ++ replied_outcomes s (drop (k + 1) ms) (drop j rs) (drop (k + 1) os)
    ≡ take k os ++ replied_outcomes s (drop k ms) (drop j rs) (drop k os)
told_ends s k j ms rs os past =
    rw (drop_all j rs past)
    (rw (told_none s (drop (k + 1) ms) (drop (k + 1) os))
    (rw (told_none s (drop k ms) (drop k os))
    (take-append-drop (k + 1) os ∙ sym (take-append-drop k os))))

pub rises_at : (low limit : ℕ) (rs : List ShardReplies) (i : ℕ) (d : ShardReplies) → ShardsRise low limit rs → i < length rs
    → (get_or rs i d).shard < limit
rises_at low limit [] i d h lt = absurd (omega arith)
rises_at low limit (r ∷ rs) zero d h lt = h.1
rises_at low limit (r ∷ rs) (suc i) d h lt = rises_at (suc r.shard) limit rs i d h.2 (omega arith)

pub held_step : (ms : List ℕ) (i : ℕ) (os os' : List Outcome) → i < length ms → os ≡ map (λ m. Won) (take i ms) → os' ≡ os ++ Won ∷ []
    → os' ≡ map (λ m. Won) (take (i + 1) ms)
held_step ms i os os' lt held more = more ∙ ap (λ x. x ++ Won ∷ []) held ∙ grow ms i lt
  where
    grow : (ms : List ℕ) (i : ℕ) → i < length ms → map (λ m. Won) (take i ms) ++ Won ∷ [] ≡ map (λ m. Won) (take (i + 1) ms)
    grow [] i lt = absurd (omega arith)
    grow (m ∷ ms) zero lt = refl
    grow (m ∷ ms) (suc i) lt = let e : suc i + 1 ≡ suc (i + 1) = omega arith in rw e (ap (λ x. Won ∷ x) (grow ms i (omega arith)))

pub masks_step : (K : Shape) (txs : List Compact) (i : ℕ) (t : Compact) (ms ms' : List ℕ) → i < length txs → t ≡ get_or txs i t
    → ms ≡ masks_of K (take i txs) → ms' ≡ ms ++ mask_of K t ∷ [] → ms' ≡ masks_of K (take (i + 1) txs)
masks_step K txs i t ms ms' lt is old more = more ∙ ap (λ x. x ++ mask_of K t ∷ []) old ∙ grow txs i t lt is
  where
    grow : (txs : List Compact) (i : ℕ) (t : Compact) → i < length txs → t ≡ get_or txs i t
        → masks_of K (take i txs) ++ mask_of K t ∷ [] ≡ masks_of K (take (i + 1) txs)
    grow [] i t lt is = absurd (omega arith)
    grow (u ∷ us) zero t lt is = ap (λ x. mask_of K x ∷ []) is
    grow (u ∷ us) (suc i) t lt is = let e : suc i + 1 ≡ suc (i + 1) = omega arith in
        rw e (ap (λ x. mask_of K u ∷ x) (grow us i t (omega arith) is))

pub took_one : {A : Type 0} (xs : List A) (i : ℕ) (x : A) (ys zs : List A) → i < length xs → x ≡ get_or xs i x → ys ≡ take i xs → zs ≡ ys ++ x ∷ []
    → zs ≡ take (i + 1) xs
took_one xs i x ys zs lt is old more = more ∙ ap (λ w. w ++ x ∷ []) old ∙ ap (λ w. take i xs ++ w ∷ []) is ∙ sym (take_more xs i x lt)

pub latest-ge : (n : ℕ) (rs : List ShardReplies) → n ≤ latest_reply n rs
latest-ge n [] = omega arith
latest-ge n (r ∷ rs) = omega (arith, latest-ge (max n r.stamp) rs)

pub length-told : (s : ℕ) (ms : List ℕ) (rs : List Reply) (os : List Outcome) → length os ≡ length ms
    → length (replied_outcomes s ms rs os) ≡ length ms
length-told s [] rs os same = same
length-told s (m ∷ ms) rs [] same = same
length-told s (m ∷ ms) [] (o ∷ os) same = same
length-told s (m ∷ ms) (r ∷ rs) (o ∷ os) same =
    elim (bit_at m s == 1) as (λ b. length (if b then outcome_by (Some r) s o ∷ replied_outcomes s ms rs os
    else o ∷ replied_outcomes s ms (r ∷ rs) os) ≡ suc (length ms)) [
      | true ↦ ap (λ n. suc n) (length-told s ms rs os (omega arith))
      | false ↦ ap (λ n. suc n) (length-told s ms (r ∷ rs) os (omega arith))
    ]

pub length-combined : (ms : List ℕ) (rs : List ShardReplies) → length (combined_outcomes ms rs) ≡ length ms
length-combined ms [] = all_held ms
  where
    all_held : (ms : List ℕ) → length (map (λ m. Won) ms) ≡ length ms
    all_held [] = refl
    all_held (m ∷ ms) = ap (λ n. suc n) (all_held ms)
length-combined ms (r ∷ rs) = length-told r.shard ms r.replies (combined_outcomes ms rs) (length-combined ms rs)

pub slot_is : (s : Slot) (n : ℕ) (p : Phase) → n ≡ s.number → s.phase ≡ p → s ≡ record { number = n; phase = p }
slot_is s n p e f = λ i. record { number = sym e i; phase = f i }

pub rises_within : (low limit wider : ℕ) (rs : List ShardReplies) → limit ≤ wider → ShardsRise low limit rs → ShardsRise low wider rs
rises_within low limit wider [] le h = h
rises_within low limit wider (r ∷ rs) le h = (h.0, (omega (arith, h.1)), rises_within (suc r.shard) limit wider rs le h.2)
