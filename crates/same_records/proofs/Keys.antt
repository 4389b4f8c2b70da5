-- The keys of outpoints.
use Rattle.std.proofs.Common.{◌≡◌, ℕ, ◌==◌, ◌&&◌, List, sym, Ordering, nat_cmp}
use Rattle.std.proofs.lemmas.Map.Text.{is_eq-slice_cmp}
use Rattle.std.specs.Ordering.{eq_by_cmp}
use Rattle.std.specs.Cmp.Lexicographic.{slice_cmp}
use Rattle.cbdc_model.specs.Records.{same_digest}
use Rattle.cbdc_model.specs.Book.{key}
use Rattle.cbdc_model.specs.Coins.{OutPoint}

abbrev pub key_cmp : List ℕ → List ℕ → Ordering
key_cmp = slice_cmp nat_cmp

pub same_point_is : (p q : OutPoint) → ((p.index == q.index) && same_digest p.tx q.tx) ≡ eq_by_cmp key_cmp (key p) (key q)
unfolding same_digest
same_point_is p q = sym (is_eq-slice_cmp (key p) (key q))
