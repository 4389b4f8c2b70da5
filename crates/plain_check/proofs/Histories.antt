-- The rows on top of a ledger's first ones, by its mint as a compact transaction, and the whole history.
use Rattle.std.proofs.Common.{◌≡◌, ◌∙◌, ℕ, List, ◌++◌, Some, None, sym, ap, subst}
use Rattle.cbdc_model.specs.Records.{Shape, Compact, Record, Row}
use Rattle.cbdc_model.specs.Coins.{Output, compact, genesis_tx}
use Rattle.cbdc_model.specs.History.{minted, first_rows, history_of}
use Rattle.cbdc_model.specs.World.{IsHistory}
use Rattle.plain_check.specs.Histories.{AreOnNodes, IsWholeHistory}
use Rattle.plain_check.specs.Minting.{compact_mint}

module _ (K : Shape) (mint : List Output) (J : ℕ → List Record) (t : Compact) (e : t ≡ compact (genesis_tx mint)) where
  to_whole : (later : List Row) → IsHistory K (compact_mint t) J later → IsHistory K (minted mint) J later
  to_whole later h = subst (λ m. IsHistory K m J later) (ap compact_mint e) h

  from_whole : (later : List Row) → IsHistory K (minted mint) J later → IsHistory K (compact_mint t) J later
  from_whole later h = subst (λ m. IsHistory K m J later) (sym (ap compact_mint e)) h

  whole_rows : (later rows : List Row) → rows ≡ later ++ first_rows K (compact_mint t) → rows ≡ history_of K mint later
  whole_rows later rows r = r ∙ ap (λ m. later ++ first_rows K m) (ap compact_mint e)

no_rows : (l : List Row) → None ≡ Some l → ⊥
no_rows l h = cc

same_rows : (l k : List Row) → Some l ≡ Some k → l ≡ k
same_rows l k h = cc

-- where none was found there is none
pub none_whole : (K : Shape) (mint : List Output) (J : ℕ → List Record) (t : Compact) → t ≡ compact (genesis_tx mint)
    → ((l : List Row) → IsHistory K (compact_mint t) J l → AreOnNodes K J → None ≡ Some l)
    → (l : List Row) → IsHistory K (minted mint) J l → AreOnNodes K J → None ≡ Some (history_of K mint l)
none_whole K mint J t e found l h on = absurd (no_rows l (found l (from_whole K mint J t e l h) on))

-- what was found, with the first rows, is the whole history
pub is_whole : (K : Shape) (mint : List Output) (J : ℕ → List Record) (t : Compact) → t ≡ compact (genesis_tx mint)
    → (later rows : List Row) → IsHistory K (compact_mint t) J later → rows ≡ later ++ first_rows K (compact_mint t) → IsWholeHistory K mint J rows
is_whole K mint J t e later rows h r = (later, to_whole K mint J t e later h, whole_rows K mint J t e later rows r)

-- and the only one
pub found_whole : (K : Shape) (mint : List Output) (J : ℕ → List Record) (t : Compact) → t ≡ compact (genesis_tx mint)
    → (later rows : List Row) → ((l : List Row) → IsHistory K (compact_mint t) J l → AreOnNodes K J → Some later ≡ Some l)
    → rows ≡ later ++ first_rows K (compact_mint t)
    → (l : List Row) → IsHistory K (minted mint) J l → AreOnNodes K J → Some rows ≡ Some (history_of K mint l)
found_whole K mint J t e later rows found r l h on =
    ap Some (whole_rows K mint J t e later rows r ∙ ap (history_of K mint) (same_rows later l (found l (from_whole K mint J t e l h) on)))
