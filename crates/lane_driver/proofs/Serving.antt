-- Calls that were made of a batch are of its lane.
use Rattle.std.proofs.Common.{◌≡◌, ℕ, List, map, refl, subst, sym}
use Rattle.std.specs.List.{All}
use Rattle.std.proofs.lemmas.List.Elements.{All-map, All-same}
use Rattle.cbdc_types.specs.declared.calls.LockCall.{LockCall}
use Rattle.cbdc_types.specs.declared.calls.FinishCall.{FinishCall}
use Rattle.cbdc_types.specs.declared.calls.ForgetCall.{ForgetCall}
use Rattle.cbdc_model.specs.Records.{Batch, Entry, Outcome}
use Rattle.lane_driver.specs.Calls.{lock_call_of, finish_call_of, forget_call_of}

-- lock calls are of the batch that they were made of
pub locks_own : (b : Batch) (t : ℕ) (ps : List (ℕ × List Entry)) (cs : List (ℕ × LockCall)) → cs ≡ map (lock_call_of b t) ps
    → All (λ c. c.1.batch ≡ b) cs
locks_own b t ps cs e =
    let P : ℕ × LockCall → Type 0 = λ c. c.1.batch ≡ b in
    All-same P cs (map (lock_call_of b t) ps) e (All-map P (lock_call_of b t) ps (λ k d inside. refl))

-- where its lane is served, so are they
module _ (P : ℕ → Type 0) (b : Batch) (mine : P b.lane) where
  pub own_served : (cs : List (ℕ × LockCall)) → All (λ c. c.1.batch ≡ b) cs → All (λ c. P c.1.batch.lane) cs
  own_served cs own k d inside = subst (λ (x : Batch). P x.lane) (sym (own k d inside)) mine

  pub locks_served : (t : ℕ) (ps : List (ℕ × List Entry)) (cs : List (ℕ × LockCall)) → cs ≡ map (lock_call_of b t) ps → All (λ c. P c.1.batch.lane) cs
  locks_served t ps cs e = own_served cs (locks_own b t ps cs e)

  pub finishes_served : (t : ℕ) (os : List Outcome) (cs : List (ℕ × LockCall)) (fs : List (ℕ × FinishCall)) → fs ≡ map (finish_call_of b t os) cs
      → All (λ f. P f.1.batch.lane) fs
  finishes_served t os cs fs e =
      let Q : ℕ × FinishCall → Type 0 = λ f. P f.1.batch.lane in
      All-same Q fs (map (finish_call_of b t os) cs) e (All-map Q (finish_call_of b t os) cs (λ k d inside. mine))

  pub forgets_served : (t : ℕ) (cs : List (ℕ × LockCall)) (fs : List (ℕ × ForgetCall)) → fs ≡ map (forget_call_of b t) cs
      → All (λ f. P f.1.batch.lane) fs
  forgets_served t cs fs e =
      let Q : ℕ × ForgetCall → Type 0 = λ f. P f.1.batch.lane in
      All-same Q fs (map (forget_call_of b t) cs) e (All-map Q (forget_call_of b t) cs (λ k d inside. mine))
