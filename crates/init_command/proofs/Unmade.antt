-- A ledger that was not made, and what is left of the disks.
use Rattle.std.proofs.Common.{◌≡◌, ◌⊎◌, inr, ℕ, List, Option, Result, Ok, Err, refl}
use Rattle.std.specs.Prelude.{IfErr}
use Rattle.outside.specs.Images.{Tells}
use Rattle.outside.specs.declared.disk.Disk.{Ghosts}
use Rattle.cbdc_types.specs.declared.answer.Answer.{Answer}
use Rattle.cbdc_types.specs.declared.answer.Answer.TheVariants as answers
use Rattle.cbdc_model.specs.Records.{Shape}
use Rattle.cbdc_model.specs.Coins.{Output}
use Rattle.requests.specs.declared.FileWord.{FileWord}
use Rattle.input_files.specs.Contents.{mint_of_file}
use Rattle.ledger_init.specs.Made.{IsUnmade, AreDisksLeft}
use Rattle.command_answers.specs.Scene.{Scene}
use Rattle.command_answers.specs.Left.{IsBeforeDisks}
use Rattle.init_command.specs.Outcomes.{InitLeaves}

-- of these answers a ledger that is not made gives one alone
too_much_alone : {D : Type 0} (K : Shape) (mint : List Output) (device : Ghosts D) (held : ℕ → Option D) (before now : ℕ → ℕ) (P : Type 0)
    (a : Answer)
    → IsUnmade K mint device held before now a → ((total : ℕ) → a ≡ answers.TooMuch total → P) → IsBeforeDisks a → P
too_much_alone K mint device held before now P answers.Ok un same is = absurd is
too_much_alone K mint device held before now P answers.BadWords un same is = absurd un
too_much_alone K mint device held before now P (answers.BadInput file at kind) un same is = absurd un
too_much_alone K mint device held before now P (answers.TooMuch total) un same is = same total refl
too_much_alone K mint device held before now P (answers.NotReady k) un same is = absurd is
too_much_alone K mint device held before now P (answers.Foreign k kept asked) un same is = absurd is
too_much_alone K mint device held before now P (answers.NotEmpty k) un same is = absurd is
too_much_alone K mint device held before now P (answers.Full k used need capacity) un same is = absurd is
too_much_alone K mint device held before now P (answers.Unsound place kind) un same is = absurd is
too_much_alone K mint device held before now P (answers.ClockEnd k stamp) un same is = absurd is
too_much_alone K mint device held before now P (answers.Damaged k at) un same is = absurd is
too_much_alone K mint device held before now P (answers.ReadFault file) un same is = absurd un
too_much_alone K mint device held before now P answers.WriteFault un same is = absurd is
too_much_alone K mint device held before now P (answers.DiskFault k) un same is = absurd is
too_much_alone K mint device held before now P answers.Memory un same is = absurd is

pub unmade_same : {D T : Type 0} (K : Shape) (mint : List Output) (device : Ghosts D) (held : ℕ → Option D) (before now : ℕ → ℕ) (P : Type 0)
    (r : Result T Answer)
    → IfErr r (IsUnmade K mint device held before now) → IfErr r (λ e. (total : ℕ) → e ≡ answers.TooMuch total → P)
    → IfErr r (λ e. IsBeforeDisks e → P)
unmade_same K mint device held before now P (Ok made) un same = tt
unmade_same K mint device held before now P (Err e) un same = too_much_alone K mint device held before now P e un same

pub unmade_left : {D T : Type 0} (device : Ghosts D) (before after : Scene D) (shape : Shape) (file : FileWord) (mint : List Output) (P : Type 0)
    (r : Result T Answer)
    → Tells (before.file file.name.now) (λ c. mint_of_file c ≡ Ok mint) → IfErr r (AreDisksLeft shape mint device before.disks after.disks)
    → IfErr r (λ e. P ⊎ InitLeaves device before after shape file e)
unmade_left device before after shape file mint P (Ok made) read left = tt
unmade_left device before after shape file mint P (Err e) read left = inr (mint, read, left)
