use Rattle.std.proofs.Common.{◌≡◌, ℕ, ◌<◌, Some}
use Rattle.std.specs.Prelude.{slice_get}
use Rattle.requests.specs.declared.FileWord.{FileWord}
use Rattle.commands.proofs.top.client_at.Given as goal

abbrev pub invariant-clients : goal.invariant-clients
invariant-clients l = (k : ℕ) (file : FileWord) → slice_get l.clients k ≡ Some file → k < l.client-index → l.place ≡ file.place → ⊥
