-- The first records, written from the last node on.
use Rattle.std.proofs.Common.{◌≡◌, ℕ, suc, ◌+◌, ◌≤◌, ◌<◌, List, [], ◌∷◌, ◌++◌, length, Option, sym, ◌∙◌, ap, subst, arith, append_assoc}
use Rattle.std.proofs.Common.{length-append}
use Rattle.outside.specs.declared.disk.Disk.{Ghosts}
use Rattle.cbdc_types.specs.declared.answer.Answer.{Answer}
use Rattle.cbdc_model.specs.Records.{Record}
use Rattle.rack_ledgers.specs.Places.{EachFrom}
use Rattle.rack_ledgers.specs.Racked.{OfTold, ListGoesOn}
use Rattle.rack_ledgers.proofs.Each.{each_weaker}
use Rattle.rack_ledgers.proofs.Range.{opening_later}
use Rattle.ledger_init.specs.Places.{WritingStopsAt, IsSafe, IsFirstWritten, IsStopped}

-- it stops at a node, and those before it are closed
pub stops : {X : Type 0} (W F P Q : ℕ → X → Type 0) (front rest whole : List X) (x : X) (node : ℕ) → node ≡ length rest → front ≡ rest ++ x ∷ []
    → ListGoesOn P 0 front whole
    → ((k : ℕ) (d : X) → node < k → P k d → Q k d) → F node x → EachFrom W 0 rest → WritingStopsAt W F Q whole
stops W F P Q front rest whole x node place last so_far keeps fails waits =
    let longer : 0 + length front ≡ suc (length rest) = omega (arith, ap length last, length-append rest (x ∷ [])) in
    let kept = each_weaker P Q (0 + length front) so_far.more (λ k d ge lt p. keeps k d (omega (arith, ge, longer, place)) p) so_far.each in
    record {
      front = rest;
      x = x;
      done = so_far.more;
      parts = so_far.parts ∙ ap (λ (l : List _). l ++ so_far.more) last ∙ append_assoc rest (x ∷ []) so_far.more;
      waiting = waits;
      fails = subst (λ (k : ℕ). F k x) place fails;
      behind = subst (λ (k : ℕ). EachFrom Q k so_far.more) longer kept;
    }

module _ {D : Type 0} (device : Ghosts D) where
  pub done_still : (first : Record) (given : D) (old new : Option D) → new ≡ old → IsFirstWritten device first given old
      → IsFirstWritten device first given new
  done_still first given old new same is = subst (λ (h : Option D). IsFirstWritten device first given h) (sym same) is

  pub stopped_still : (node : ℕ) (first : Record) (a : Answer) (now later : ℕ) (given : D) (old new : Option D) → new ≡ old → now ≤ later
      → IsStopped device node first a now given old → IsStopped device node first a later given new
  stopped_still node first a now later given old new same le is = record {
    safe = subst (λ (h : Option D). OfTold h (IsSafe device node first a given)) (sym same) is.safe;
    refusal = is.refusal;
    opening = opening_later node (device.count given) (device.count given) now later a (omega arith) le is.opening;
  }
