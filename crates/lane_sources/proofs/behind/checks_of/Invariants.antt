use Rattle.std.proofs.Common.{◌≡◌, ℕ, length, Some}
use Rattle.std.specs.Prelude.{slice_get}
use Rattle.std.specs.Vec.{vec_capacity}
use Rattle.cbdc_model.specs.Coins.{FullTx, tx_id}
use Rattle.submissions.specs.Checks.{IsSaid}
use Rattle.submissions.specs.declared.Checked.{Checked}
use Rattle.lane_sources.proofs.behind.checks_of.Given as goal

abbrev pub invariant-places : goal.invariant-places
invariant-places g l = record {
  count : length l.checked.items ≡ l.place;
  room : vec_capacity l.checked ≡ vec_capacity l.fn.checked;
  said : (j : ℕ) (t : FullTx) (c : Checked) → slice_get g.F.Deals.file j ≡ Some t → slice_get l.checked.items j ≡ Some c
      → (c.id ≡ tx_id t) × IsSaid g.F.Deals.shape g.F.Deals.verdicts g.F.Deals.file j t c.judgement;
}
