-- What it takes for batches to be finished alike, shard by shard and record by record.
use Rattle.std.proofs.Common.{◌≡◌, ◌⊎◌, ◌↔◌, inl, inr, ℕ, zero, suc, ◌-◌, ◌<◌, ◌≤◌, ◌==◌, Bool, true, false, ◌&&◌, List, [], ◌∷◌, length, drop}
use Rattle.std.proofs.Common.{is_some, refl, sym, ap, ◌∙◌, subst, arith, rules}
use Rattle.std.specs.Prelude.{IsTrue}
use Rattle.std.proofs.lemmas.Grind.{common_steps}
use Rattle.std.proofs.lemmas.List.{get_or_past}
use Rattle.std.proofs.lemmas.Bool.{cases_lt}
use Rattle.cbdc_model.specs.Records.{Shape, Batch, Record, Compact, Outcome, kind_of, is_of, same_batch, record_of, txs_of, outcomes_of, decisions_in}
use Rattle.cbdc_model.specs.Records.{Prepare}
use Rattle.cbdc_model.specs.Ranges.{home_of, shard_node, on_shard, is_empty, entry_of, part}
use Rattle.cbdc_model.specs.Outcomes.{won_at, decisions}
use Rattle.cbdc_model.specs.World.{count_of, IsAlike, Alike}
use Rattle.plain_check.specs.Journals.{journals_in}
use Rattle.same_records.proofs.Alikeness.{same_batch_is}
use Rattle.plain_check.specs.Alikes.{IsFinishedAt, HasNone, IsAlikeAt, PreparedAlike}

no_lie : IsTrue false → ⊥
no_lie t = search rules

-- the decisions of a part, transaction by transaction
abbrev pub TellsDecisions : Shape → ℕ → List Compact → List Outcome → List Bool → Bool → Type 0
TellsDecisions K s txs outcomes ds told = (all : List Outcome) (place : ℕ) → outcomes ≡ drop place all
    → IsTrue told ↔ (ds ≡ decisions all (part K s place txs))

drop_next : {A : Type 0} (all : List A) (place : ℕ) → drop 1 (drop place all) ≡ drop (suc place) all
drop_next [] zero = refl
drop_next [] (suc place) = refl
drop_next (o ∷ all) zero = refl
drop_next (o ∷ all) (suc place) = drop_next all place

won_next : (all : List Outcome) (place : ℕ) → won_at (drop place all) 0 ≡ won_at all place
won_next [] zero = refl
won_next [] (suc place) = refl
won_next (o ∷ all) zero = refl
won_next (o ∷ all) (suc place) = won_next all place

elsewhere : (K : Shape) (s k : ℕ) (t : Compact) (ts : List Compact) → is_empty (on_shard K s t.inputs) ≡ true
    → is_empty (on_shard K s t.outputs) ≡ true
    → part K s k (t ∷ ts) ≡ part K s (suc k) ts
elsewhere K s k t ts e f = rw (e, f) refl

here : (K : Shape) (s k : ℕ) (t : Compact) (ts : List Compact) → (is_empty (on_shard K s t.inputs) && is_empty (on_shard K s t.outputs)) ≡ false
    → part K s k (t ∷ ts) ≡ entry_of K s k t ∷ part K s (suc k) ts
here K s k t ts e = rw e refl

pub decides_none : (K : Shape) (s : ℕ) (txs : List Compact) (outcomes : List Outcome) (ds : List Bool) (told : Bool) → txs ≡ []
    → (IsTrue told ↔ (ds ≡ [])) → TellsDecisions K s txs outcomes ds told
decides_none K s txs outcomes ds told e h all place is = subst (λ l. IsTrue told ↔ (ds ≡ decisions all (part K s place l))) (sym e) h

pub decides_elsewhere : (K : Shape) (s : ℕ) (txs : List Compact) (t : Compact) (ts : List Compact) (outcomes back : List Outcome) (ds : List Bool)
    (told : Bool)
    → txs ≡ t ∷ ts → is_empty (on_shard K s t.inputs) ≡ true → is_empty (on_shard K s t.outputs) ≡ true → back ≡ drop 1 outcomes
    → TellsDecisions K s ts back ds told → TellsDecisions K s txs outcomes ds told
decides_elsewhere K s txs t ts outcomes back ds told list e f b rest all place is =
    subst (λ l. IsTrue told ↔ (ds ≡ decisions all (part K s place l))) (sym list)
    (subst (λ es. IsTrue told ↔ (ds ≡ decisions all es)) (sym (elsewhere K s place t ts e f))
    (rest all (suc place) (b ∙ ap (drop 1) is ∙ drop_next all place)))

pub decides_here : (K : Shape) (s : ℕ) (txs : List Compact) (t : Compact) (ts : List Compact) (outcomes back : List Outcome) (all_ds : List Bool)
    (d : Bool) (ds : List Bool) (told : Bool)
    → txs ≡ t ∷ ts → all_ds ≡ d ∷ ds → (is_empty (on_shard K s t.inputs) && is_empty (on_shard K s t.outputs)) ≡ false
    → back ≡ drop 1 outcomes → d ≡ won_at outcomes 0
    → TellsDecisions K s ts back ds told → TellsDecisions K s txs outcomes all_ds told
decides_here K s txs t ts outcomes back all_ds d ds told list list' e b same rest all place is =
    let first : d ≡ won_at all place = same ∙ ap (λ l. won_at l 0) is ∙ won_next all place in
    let later : IsTrue told ↔ (ds ≡ decisions all (part K s (suc place) ts)) = rest all (suc place) (b ∙ ap (drop 1) is ∙ drop_next all place) in
    subst (λ l. IsTrue told ↔ (all_ds ≡ decisions all (part K s place l))) (sym list)
    (subst (λ l. IsTrue told ↔ (l ≡ decisions all (part K s place (t ∷ ts)))) (sym list')
    (subst (λ es. IsTrue told ↔ (d ∷ ds ≡ decisions all es)) (sym (here K s place t ts e)) (
      λ y. (λ i. first i ∷ later.0 y i),
      λ both. later.1 (tails d ds (won_at all place) (decisions all (part K s (suc place) ts)) both),
    )))
  where
    tails : (a : Bool) (rest : List Bool) (b : Bool) (more : List Bool) → a ∷ rest ≡ b ∷ more → rest ≡ more
    tails a rest b more e = cc

pub decides_not : (K : Shape) (s : ℕ) (txs : List Compact) (t : Compact) (ts : List Compact) (outcomes : List Outcome) (ds : List Bool)
    → txs ≡ t ∷ ts → (is_empty (on_shard K s t.inputs) && is_empty (on_shard K s t.outputs)) ≡ false
    → ((d : Bool) (rest : List Bool) → ds ≡ d ∷ rest → d ≡ won_at outcomes 0 → ⊥)
    → TellsDecisions K s txs outcomes ds false
decides_not K s txs t ts outcomes ds list e differ all place is =
    subst (λ l. IsTrue false ↔ (ds ≡ decisions all (part K s place l))) (sym list)
    (subst (λ es. IsTrue false ↔ (ds ≡ decisions all es)) (sym (here K s place t ts e)) (
      λ lie. absurd (no_lie lie),
      λ same. absurd (differ (won_at all place) (decisions all (part K s (suc place) ts)) same
          (sym (ap (λ l. won_at l 0) is ∙ won_next all place))),
    ))

-- what is finished at a shard
pub finished_by : (K : Shape) (J : ℕ → List Record) (b : Batch) (s : ℕ) (told : Bool) (own home : List Record) (txs : List Compact)
    (outcomes : List Outcome) (ds : List Bool)
    → own ≡ J (shard_node K s) → home ≡ J (home_of K b.lane) → txs ≡ txs_of home b → outcomes ≡ outcomes_of home b
    → ds ≡ decisions_in (record_of 3 own b)
    → count_of 2 own b ≡ 1 → count_of 3 own b ≡ 1 → (IsTrue told ↔ (ds ≡ decisions outcomes (part K s 0 txs)))
    → IsTrue told ↔ IsFinishedAt K J b s
finished_by K J b s told own home txs outcomes ds o h t u d one two same =
    let txs_is : txs ≡ txs_of (J (home_of K b.lane)) b = t ∙ ap (λ l. txs_of l b) h in
    let outcomes_is : outcomes ≡ outcomes_of (J (home_of K b.lane)) b = u ∙ ap (λ l. outcomes_of l b) h in
    let ds_is : ds ≡ decisions_in (record_of 3 (J (shard_node K s)) b) = d ∙ ap (λ l. decisions_in (record_of 3 l b)) o in
    let all_is : decisions outcomes (part K s 0 txs)
    ≡ decisions (outcomes_of (J (home_of K b.lane)) b) (part K s 0 (txs_of (J (home_of K b.lane)) b)) =
    λ i. decisions (outcomes_is i) (part K s 0 (txs_is i)) in (
      λ y. record {
        one_lock = subst (λ l. count_of 2 l b ≡ 1) o one;
        one_finish = subst (λ l. count_of 3 l b ≡ 1) o two;
        same_decisions = sym ds_is ∙ same.0 y ∙ all_is;
      },
      λ f. same.1 (ds_is ∙ f.same_decisions ∙ sym all_is),
    )

-- what holds below a number, by what holds of the one before it
pub one_more_below : (P : ℕ → Type 0) (n : ℕ) (told : Bool) → 0 < n → P (n - 1) → (IsTrue told ↔ ((s : ℕ) → s < n - 1 → P s))
    → IsTrue told ↔ ((s : ℕ) → s < n → P s)
one_more_below P n told some last below = (
  λ y s lt. elim (cases_lt s (n - 1)) [
    | inl less ↦ below.0 y s less
    | inr le ↦ subst P (same s lt le) last
  ],
  λ all. below.1 (λ s lt. all s (more s lt)),
)
  where
    same : (s : ℕ) → s < n → n - 1 ≤ s → n - 1 ≡ s
    same s lt le = omega arith

    more : (s : ℕ) → s < n - 1 → s < n
    more s lt = omega arith

-- a batch that is finished alike, shard by shard
pub alike_by : (K : Shape) (J : ℕ → List Record) (b : Batch) (told : Bool) → count_of 7 (J (home_of K b.lane)) b ≡ 1
    → (IsTrue told ↔ ((s : ℕ) → s < K.shards → IsAlikeAt K J b s)) → IsTrue told ↔ IsAlike K J b
alike_by K J b told one each = (
  λ y. let at : (s : ℕ) → s < K.shards → IsAlikeAt K J b s = each.0 y in
      record {
        one_commit = one;
        one_lock = λ s in_part. ((at s in_part.0).finished in_part).one_lock;
        one_finish = λ s in_part. ((at s in_part.0).finished in_part).one_finish;
        same_decisions = λ s in_part. ((at s in_part.0).finished in_part).same_decisions;
        no_other = λ s kind lt none is. other kind (J (shard_node K s)) b ((at s lt).none lt none) is;
      },
  λ alike. each.1 (λ s lt. record {
    finished = λ in_part. record {
      one_lock = alike.one_lock s in_part;
      one_finish = alike.one_finish s in_part;
      same_decisions = alike.same_decisions s in_part;
    };
    none = λ lt none. record {
      lock = alike.no_other s 2 lt none (inl refl);
      finish = alike.no_other s 3 lt none (inr (inl refl));
      forget = alike.no_other s 4 lt none (inr (inr refl));
    };
  }),
)
  where
    other : (kind : ℕ) (past : List Record) (b : Batch) → HasNone past b → (kind ≡ 2) ⊎ (kind ≡ 3) ⊎ (kind ≡ 4) → count_of kind past b ≡ 0
    other kind past b none (inl e) = subst (λ k. count_of k past b ≡ 0) (sym e) none.lock
    other kind past b none (inr (inl e)) = subst (λ k. count_of k past b ≡ 0) (sym e) none.finish
    other kind past b none (inr (inr e)) = subst (λ k. count_of k past b ≡ 0) (sym e) none.forget

pub not_alike : (K : Shape) (J : ℕ → List Record) (b : Batch) → (count_of 7 (J (home_of K b.lane)) b ≡ 1 → ⊥) → IsTrue false ↔ IsAlike K J b
not_alike K J b many = (λ lie. absurd (no_lie lie), λ alike. absurd (many alike.one_commit))

-- the batches that records prepare, one record after another
abbrev Prepares : Record → Batch → Bool
Prepares r b = (kind_of r == 6) && is_of b r

found : (r : Record) (rest : List Record) (b : Batch) → is_some (record_of 6 (r ∷ rest) b) ≡ true
    → (Prepares r b ≡ true) ⊎ (is_some (record_of 6 rest b) ≡ true)
found r rest b h = grind (arith, common_steps)

found_first : (r : Record) (rest : List Record) (b : Batch) → Prepares r b ≡ true → is_some (record_of 6 (r ∷ rest) b) ≡ true
found_first r rest b h = grind (arith, common_steps)

found_later : (r : Record) (rest : List Record) (b : Batch) → is_some (record_of 6 rest b) ≡ true → is_some (record_of 6 (r ∷ rest) b) ≡ true
found_later r rest b h = grind (arith, common_steps)

only : (r : Record) (b : Batch) → is_some (record_of 6 (r ∷ []) b) ≡ true → Prepares r b ≡ true
only r b h = grind (arith, common_steps)

pub prepared_next : (K : Shape) (J : ℕ → List Record) (n : ℕ) (past : List Record) (r : Record) (rest : List Record) (told : Bool) → past ≡ r ∷ rest
    → PreparedAlike K J n (r ∷ [])
    → (IsTrue told ↔ PreparedAlike K J n rest) → IsTrue told ↔ PreparedAlike K J n past
prepared_next K J n past r rest told e first later = subst (λ l. IsTrue told ↔ PreparedAlike K J n l) (sym e) (
  λ y b home is. elim (found r rest b is) [
    | inl f ↦ first b home (found_first r [] b f)
    | inr g ↦ later.0 y b home g
  ],
  λ all. later.1 (λ b home is. all b home (found_later r rest b is)),
)

pub not_prepared : (K : Shape) (J : ℕ → List Record) (n : ℕ) (past : List Record) (r : Record) (rest : List Record) → past ≡ r ∷ rest
    → (PreparedAlike K J n (r ∷ []) → ⊥) → IsTrue false ↔ PreparedAlike K J n past
not_prepared K J n past r rest e other = subst (λ l. IsTrue false ↔ PreparedAlike K J n l) (sym e)
    (λ lie. absurd (no_lie lie), λ all. absurd (other (λ b home is. all b home (found_first r rest b (only r b is)))))

-- a record that prepares nothing
pub prepares_none : (K : Shape) (J : ℕ → List Record) (n : ℕ) (r : Record) → (kind_of r == 6) ≡ false → PreparedAlike K J n (r ∷ [])
prepares_none K J n r other b home is = absurd (never (kind_of r == 6) (is_of b r) other (only r b is))
  where
    never : (p q : Bool) → p ≡ false → (p && q) ≡ true → ⊥
    never p q e h = grind (arith, e, h)

-- and one that prepares a batch
pub prepares_one : (K : Shape) (J : ℕ → List Record) (n : ℕ) (r : Record) (stamp : ℕ) (own : Batch) (txs : List Compact) (told : Bool)
    → r ≡ Prepare stamp own txs
    → (IsTrue told ↔ (home_of K own.lane ≡ n → IsAlike K J own)) → IsTrue told ↔ PreparedAlike K J n (r ∷ [])
prepares_one K J n r stamp own txs told e h = subst (λ q. IsTrue told ↔ PreparedAlike K J n (q ∷ [])) (sym e) (
  λ y b home is. let same : own ≡ b = same_batch_is own b (of_own b is) in subst (IsAlike K J) same (h.0 y (ap (λ c. home_of K c.lane) same ∙ home)),
  λ all. h.1 (λ home. all own home (found_own own)),
)
  where
    of_own : (b : Batch) → is_some (record_of 6 (Prepare stamp own txs ∷ []) b) ≡ true → same_batch own b ≡ true
    of_own b is = grind (arith, common_steps, only (Prepare stamp own txs) b is)

    found_own : (b : Batch) → is_some (record_of 6 (Prepare stamp b txs ∷ []) b) ≡ true
    found_own b = grind (arith, common_steps)

-- every batch with a Prepare has it at its own coordinator
past_end : (all : List (List Record)) (n : ℕ) → length all ≤ n → journals_in all n ≡ []
past_end all n le = get_or_past all n [] le

pub all_alike : (K : Shape) (all : List (List Record)) (told : Bool)
    → (IsTrue told ↔ ((k : ℕ) → k < length all → PreparedAlike K (journals_in all) k (journals_in all k)))
    → IsTrue told ↔ Alike K (journals_in all)
all_alike K all told each = (
  λ y b is. each.0 y (home_of K b.lane) (inside b is) b refl is,
  λ alike. each.1 (λ k lt b home is. alike b (subst (λ n. is_some (record_of 6 (journals_in all n) b) ≡ true) (sym home) is)),
)
  where
    none_there : (b : Batch) (n : ℕ) → journals_in all n ≡ [] → is_some (record_of 6 (journals_in all n) b) ≡ true → ⊥
    none_there b n e is = nothing b (subst (λ J. is_some (record_of 6 J b) ≡ true) e is)
      where
        nothing : (b : Batch) → is_some (record_of 6 [] b) ≡ true → ⊥
        nothing b h = grind (arith, common_steps)

    inside : (b : Batch) → is_some (record_of 6 (journals_in all (home_of K b.lane)) b) ≡ true → home_of K b.lane < length all
    inside b is = elim (cases_lt (home_of K b.lane) (length all)) [
      | inl lt ↦ lt
      | inr le ↦ absurd (none_there b (home_of K b.lane) (past_end all (home_of K b.lane) le) is)
    ]
