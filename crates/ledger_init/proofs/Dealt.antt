-- The hashes of a shard, one after another.
use Rattle.std.proofs.Common.{◌≡◌, ℕ, ◌+◌, ◌<◌, List, [], ◌∷◌, ◌++◌, length, take, get_or, sym, ◌∙◌, ap, add-one}
use Rattle.std.proofs.Math.Seq.{take-suc}
use Rattle.cbdc_model.specs.Records.{Digest, Shape}
use Rattle.cbdc_model.specs.Ranges.{on_shard}
use Rattle.shard_ranges.proofs.Entries.{on_shard-append}

-- one hash more
pub taken_one : (K : Shape) (s : ℕ) (xs : List Digest) (i : ℕ) (x : Digest) → i < length xs → x ≡ get_or xs i x
    → on_shard K s (take (i + 1) xs) ≡ on_shard K s (take i xs) ++ on_shard K s (x ∷ [])
taken_one K s xs i x inside here =
    ap (on_shard K s) (ap (λ n. take n xs) (add-one i) ∙ take-suc xs i x inside) ∙ on_shard-append K s (take i xs) (get_or xs i x ∷ [])
    ∙ ap (λ (y : Digest). on_shard K s (take i xs) ++ on_shard K s (y ∷ [])) (sym here)
