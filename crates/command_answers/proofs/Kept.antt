-- A command that keeps its promise, by how it ends.
use Rattle.std.proofs.Common.{◌≡◌, ◌⊎◌, ⊎_elim, inl, inr, ◌≤◌, ℕ, subst, sym, arith}
use Rattle.outside.specs.Counts.{Rose}
use Rattle.cbdc_types.specs.declared.answer.Answer.{Answer}
use Rattle.cbdc_types.specs.declared.answer.Answer.TheVariants as answers
use Rattle.line_text.specs.Lines.{Text}
use Rattle.command_answers.specs.Causes.{IsReadOrNodeFault, IsAnswerToRequest, IsWell}
use Rattle.command_answers.specs.Left.{IsBeforeDisks}
use Rattle.command_answers.specs.Promises.{Needs, Promise, HasKept}
use Rattle.command_answers.specs.Scene.{Scene}
use Rattle.command_answers.specs.Texts.{IsPrinted, IsSilent}
use Rattle.command_answers.proofs.Answers.{fault_done, told}
use Rattle.command_answers.proofs.Silent.{silent_same}

-- a fault of reading or of a node is no answer of a command that did all
not_well : (named read : ℕ → Type 0) (a : Answer) → IsReadOrNodeFault named read a → IsWell a → ⊥
not_well named read answers.Ok is well = is
not_well named read answers.WriteFault is well = is
not_well named read other is well = well

-- an answer that comes behind the taking of disks and is no good one is such a fault
pub late_fault : (named read : ℕ → Type 0) (a : Answer) → (IsBeforeDisks a → ⊥) → (IsWell a → ⊥) → IsReadOrNodeFault named read a
late_fault named read answers.Ok late not_well = absurd (not_well tt)
late_fault named read answers.BadWords late not_well = absurd (late tt)
late_fault named read (answers.BadInput file at kind) late not_well = absurd (late tt)
late_fault named read (answers.ReadFault file) late not_well = absurd (late tt)
late_fault named read answers.WriteFault late not_well = absurd (not_well tt)
late_fault named read other late not_well = tt

module _ {D : Type 0} (n : Needs) (p : Promise D) (before after : Scene D) (rack_same inbox_same : Type 0)
    (spared : n.of_no_rack → rack_same) (unread : n.of_no_file → inbox_same) (inbox : (name : Text) → after.file name ≡ before.file name) where
  -- it was not done, and nothing was printed
  pub kept_not : (a : Answer) → IsReadOrNodeFault n.place (n.rose before.file_faults after.file_faults) a → p.why before after a
      → (IsBeforeDisks a → rack_same) → rack_same ⊎ p.leaves before after a
      → after.printed ≡ before.printed → after.print_faults ≡ before.print_faults → HasKept n p before after rack_same inbox_same a
  kept_not a fault why untouched left same count = record {
    cause = fault_done n.place (n.rose before.file_faults after.file_faults) (Rose before.print_faults after.print_faults) a fault;
    did = λ well. absurd (not_well n.place (n.rose before.file_faults after.file_faults) a fault well);
    why = told (p.why before after) a why;
    untouched = untouched;
    spared = spared;
    unread = unread;
    inbox = inbox;
    left = λ _. left;
    silent = subst (λ t. IsSilent before.printed t a) (sym same) (silent_same before.printed a);
    written_later = omega (arith, count);
  }

  -- it was done, and all its lines were printed
  pub kept_done : p.did before.file before.disks after.disks (IsPrinted before.printed after.printed answers.Ok)
      → before.print_faults ≤ after.print_faults → HasKept n p before after rack_same inbox_same answers.Ok
  kept_done did later = record {
    cause = tt;
    did = λ _. did;
    why = tt;
    untouched = λ taken. absurd taken;
    spared = spared;
    unread = unread;
    inbox = inbox;
    left = λ not_well. absurd (not_well tt);
    silent = tt;
    written_later = later;
  }

  -- it was done, and a line could not be printed
  pub kept_cut : p.did before.file before.disks after.disks (IsPrinted before.printed after.printed answers.WriteFault)
      → Rose before.print_faults after.print_faults → before.print_faults ≤ after.print_faults
      → HasKept n p before after rack_same inbox_same answers.WriteFault
  kept_cut did rose later = record {
    cause = rose;
    did = λ _. did;
    why = tt;
    untouched = λ taken. absurd taken;
    spared = spared;
    unread = unread;
    inbox = inbox;
    left = λ not_well. absurd (not_well tt);
    silent = tt;
    written_later = later;
  }

  -- it was done, whether its lines were printed or not
  pub kept_well : (a : Answer) → IsWell a → p.did before.file before.disks after.disks (IsPrinted before.printed after.printed a)
      → (named read : ℕ → Type 0) → IsAnswerToRequest named read (Rose before.print_faults after.print_faults) a
      → before.print_faults ≤ after.print_faults
      → HasKept n p before after rack_same inbox_same a
  kept_well answers.Ok well did named read cause later = kept_done did later
  kept_well answers.WriteFault well did named read cause later = kept_cut did cause later
  kept_well other well did named read cause later = absurd well

-- the same where it is said in other words that nothing was taken or read
pub kept_by : {D : Type 0} (n : Needs) (p : Promise D) (before after : Scene D) (rack_same taken_none inbox_same read_none : Type 0) (a : Answer)
    → (rack_same → taken_none) → (inbox_same → read_none) → HasKept n p before after rack_same inbox_same a
    → HasKept n p before after taken_none read_none a
kept_by n p before after rack_same taken_none inbox_same read_none a rack inbox kept = record {
  cause = kept.cause;
  did = kept.did;
  why = kept.why;
  untouched = λ e. rack (kept.untouched e);
  spared = λ e. rack (kept.spared e);
  unread = λ e. inbox (kept.unread e);
  inbox = kept.inbox;
  left = λ e. ⊎_elim (λ same. inl (rack same)) (λ left. inr left) (kept.left e);
  silent = kept.silent;
  written_later = kept.written_later;
}
