-- The entries of a part, as they come.
use Rattle.std.proofs.Common.{◌≡◌, ℕ, suc, ◌+◌, ◌≤◌, true, false, ◌==◌, ◌&&◌, List, [], ◌∷◌, ◌++◌, length, refl, sym, ap, ◌∙◌, arith, cond}
use Rattle.std.specs.Global.{Vec}
use Rattle.cbdc_model.specs.Records.{Digest, Compact, Entry, Shape}
use Rattle.cbdc_model.specs.Ranges.{shard_of, on_shard, is_empty, part, entry_of}
use Rattle.shard_ranges.specs.Parts.{AreBefore, AreGrown, AreSplit, entry_if}

-- the places of a part begin at the first one's and end before the next one's
part_before : (K : Shape) (s k : ℕ) (txs : List Compact) (n : ℕ) → k + length txs ≤ n → AreBefore n (part K s k txs)
part_before K s k [] n h = tt
part_before K s k (t ∷ ts) n h =
    elim (is_empty (on_shard K s t.inputs) && is_empty (on_shard K s t.outputs))
    as (λ c. AreBefore n (cond c (part K s (suc k) ts) (entry_of K s k t ∷ part K s (suc k) ts))) [
      | true ↦ part_before K s (suc k) ts n (omega arith)
      | false ↦ (omega arith, part_before K s (suc k) ts n (omega arith))
    ]

pub part_is_before : (K : Shape) (s : ℕ) (txs : List Compact) (place : ℕ) → length txs ≡ place → AreBefore place (part K s 0 txs)
part_is_before K s txs place e = part_before K s 0 txs place (omega arith)

pub on_shard-append : (K : Shape) (s : ℕ) (xs ys : List Digest) → on_shard K s (xs ++ ys) ≡ on_shard K s xs ++ on_shard K s ys
on_shard-append K s [] ys = refl
on_shard-append K s (x ∷ xs) ys =
    elim (shard_of K x == s)
    as (λ c. cond c (x ∷ on_shard K s (xs ++ ys)) (on_shard K s (xs ++ ys)) ≡ cond c (x ∷ on_shard K s xs) (on_shard K s xs) ++ on_shard K s ys) [
      | true ↦ ap (λ zs. x ∷ zs) (on_shard-append K s xs ys)
      | false ↦ on_shard-append K s xs ys
    ]

-- one more transaction
part-append : (K : Shape) (s k : ℕ) (txs : List Compact) (t : Compact) (n : ℕ) → n ≡ k + length txs
    → part K s k (txs ++ t ∷ []) ≡ part K s k txs ++ entry_if n t.id (on_shard K s t.inputs) (on_shard K s t.outputs)
part-append K s k [] t n e =
    let same : n ≡ k = omega arith in
    rw same refl
part-append K s k (u ∷ us) t n e =
    elim (is_empty (on_shard K s u.inputs) && is_empty (on_shard K s u.outputs))
    as (λ c. cond c (part K s (suc k) (us ++ t ∷ [])) (entry_of K s k u ∷ part K s (suc k) (us ++ t ∷ []))
    ≡ cond c (part K s (suc k) us) (entry_of K s k u ∷ part K s (suc k) us) ++ entry_if n t.id (on_shard K s t.inputs) (on_shard K s t.outputs)) [
      | true ↦ part-append K s (suc k) us t n (omega arith)
      | false ↦ ap (λ es. entry_of K s k u ∷ es) (part-append K s (suc k) us t n (omega arith))
    ]

-- with all its hashes in place, a transaction has its entry everywhere
pub grown_is_split : (K : Shape) (txs : List Compact) (t : Compact) (place : ℕ) (parts : List (Vec Entry)) → length txs ≡ place
    → AreGrown K txs place t.id t.inputs t.outputs parts → AreSplit K (txs ++ t ∷ []) parts
grown_is_split K txs t place parts e grown s p g = grown s p g ∙ sym (part-append K s 0 txs t place (omega arith))
