-- A ledger is made where its disks are not in use, have room and don't fail.
use Rattle.std.proofs.Common.{◌≡◌, ℕ, ◌<◌, List, Option, refl, arith}
use Rattle.outside.specs.Counts.{Rose}
use Rattle.outside.specs.declared.disk.Disk.{Ghosts}
use Rattle.cbdc_types.specs.declared.answer.Answer.{Answer}
use Rattle.cbdc_types.specs.declared.answer.Answer.TheVariants as answers
use Rattle.cbdc_model.specs.Records.{Shape}
use Rattle.cbdc_model.specs.Coins.{Output}
use Rattle.cbdc_model.specs.Ranges.{node_count}
use Rattle.ledger_init.specs.Made.{IsUnmade}
use Rattle.rack_laws.specs.Making.{CanMake}

pub made : {D : Type 0} (device : Ghosts D) (held : ℕ → Option D) (before now : ℕ → ℕ) (K : Shape) (mint : List Output) (answer : Answer)
    → CanMake device held K mint → ((n : ℕ) → n < node_count K → Rose (before n) (now n) → ⊥) → IsUnmade K mint device held before now answer
    → answer ≡ answers.Memory
made device held before now K mint (answers.TooMuch total) can steady is = let fits = can.fits in absurd (omega (arith, is.0, is.1, fits))
made device held before now K mint (answers.NotEmpty n) can steady is = let u = can.unused n is.inside in
    absurd (u.2.2 (is.in_use u.0 u.1 u.2.0 u.2.1))
made device held before now K mint (answers.Full n used need capacity) can steady is =
    let full = is.2 in
    let u = can.unused n full.inside in
    absurd (omega (arith, full.need_is, full.capacity_is u.0 u.1, full.passes, u.3))
made device held before now K mint (answers.DiskFault n) can steady is = absurd (steady n is.1 is.2)
made device held before now K mint answers.Memory can steady is = refl
made device held before now K mint answers.Ok can steady is = absurd is
made device held before now K mint answers.BadWords can steady is = absurd is
made device held before now K mint (answers.BadInput file at kind) can steady is = absurd is
made device held before now K mint (answers.NotReady n) can steady is = absurd is
made device held before now K mint (answers.Foreign n kept asked) can steady is = absurd is
made device held before now K mint (answers.Unsound at kind) can steady is = absurd is
made device held before now K mint (answers.ClockEnd n stamp) can steady is = absurd is
made device held before now K mint (answers.Damaged n at) can steady is = absurd is
made device held before now K mint (answers.ReadFault file) can steady is = absurd is
made device held before now K mint answers.WriteFault can steady is = absurd is
