-- What a journal says by itself of its lanes' open batches.
use Rattle.std.proofs.Common.{◌≡◌, ◌⊎◌, inl, inr, ℕ, ◌+◌, ◌≤◌, true, false, ◌&&◌, ◌==◌, List, [], ◌∷◌, ◌++◌, length, Some, is_some, refl, sym, ap}
use Rattle.std.proofs.Common.{◌∙◌, subst, arith}
use Rattle.cbdc_model.specs.Records.{Header, Batch, Compact, Outcome, Record, record_of, kind_of, is_of, same_batch, txs_of, outcomes_of, Genesis}
use Rattle.cbdc_model.specs.Records.{Start, Prepare, Commit, Carry, CarryStart}
use Rattle.cbdc_model.specs.Slots.{Phase, slot, Idle, InLock, InFinish, InPrepare, InCommit, InDiscard}
use Rattle.cbdc_model.specs.Grammar.{IsInGrammar}
use Rattle.cbdc_model.specs.After.{IsFirst as BeginsAs, After, IsJournal}
use Rattle.ledger_laws.proofs.Next.{Next, has_commit}
use Rattle.ledger_laws.proofs.Slots.{JournalOk, next_ok, same_batch_is}
use Rattle.ledger_laws.proofs.More.{MoreOk, next_more}
use Rattle.ledger_laws.proofs.Dones.{PhaseOk, next_phase}
use Rattle.ledger_laws.proofs.First.{AllFirst, IsFirst}
use Rattle.ledger_laws.proofs.Lookups.{true_false, not_true}
use Rattle.ledger_laws.proofs.Moves.{none_of, idle, once, test_step}
use Rattle.ledger_laws.proofs.Ledger.{next_of}

-- a committed batch has an outcome for each transaction
abbrev Matches : List Record → Batch → Type 0
Matches J b = has_commit J b ≡ true → length (outcomes_of J b) ≡ length (txs_of J b)

-- a journal of a header
pub record OwnOk (h : Header) (J : List Record) : Type 0 where
  pub ok : JournalOk J
  pub more : MoreOk J
  pub phases : PhaseOk J
  pub grammar : (kind : ℕ) (b : Batch) (r : Record) → record_of kind J b ≡ Some r → IsInGrammar h r
  pub matches : (b : Batch) → Matches J b

module _ (h : Header) (J : List Record) (first : AllFirst J) where
  none : {A : Type 0} (kind : ℕ) (b : Batch) → is_some (record_of kind J b) ≡ true → A
  none kind b t = absurd (true_false _ t (none_of kind J first b))

  rests : {A : Type 0} (lane : ℕ) (p : Phase) → (slot J lane).phase ≡ p → (Idle ≡ p → ⊥) → A
  rests lane p e not_idle = absurd (not_idle (sym (idle J first lane) ∙ e))

  first_own : OwnOk h J
  first_own = record {
    ok = record {
      lock_below = λ b t. none 2 b t;
      finish_below = λ b t. none 3 b t;
      prepare_below = λ b t. none 6 b t;
      locked = λ b p n. rests b.lane InLock p (λ z. cc);
      prepared = λ b p n. rests b.lane InPrepare p (λ z. cc);
      commit_prepared = λ b t. none 7 b t;
    };
    more = record {
      forget_below = λ b t. none 4 b t;
      commit_below = λ b t. none 7 b t;
      discard_below = λ b t. none 8 b t;
      done_below = λ b t. none 9 b t;
      in_lock = λ b p n. none_of 4 J first b;
      in_finish = λ b p n. rests b.lane InFinish p (λ z. cc);
      in_prepare = λ b p n. (none_of 8 J first b, none_of 9 J first b);
      in_commit = λ b p n. (none_of 8 J first b, none_of 9 J first b);
      in_discard = λ b p n. none_of 9 J first b;
      lock_some = λ b t. none 2 b t;
    };
    phases = record {
      commit_here = λ b p n. rests b.lane InCommit p (λ z. cc);
      discard_here = λ b p n. rests b.lane InDiscard p (λ z. cc);
      done_prepared = λ b t. none 9 b t;
    };
    grammar = λ kind b r e. none kind b (ap is_some e);
    matches = λ b t. none 7 b t;
  }

begins : (r : Record) → BeginsAs r → IsFirst r
begins (Genesis header hs) f = tt
begins (Carry stamp header source hs numbers) f = tt
begins (Start header) f = tt
begins (CarryStart stamp header source numbers) f = tt
begins other f = f

some_same : (q r : Record) → Some q ≡ Some r → q ≡ r
some_same q r e = cc

module _ (h : Header) (q : Record) (past : List Record) where
  abbrev J : List Record
  J = q ∷ past

  abbrev Step : Record → Type 0
  Step r = Next h.shape h.node J r

  -- a found record is the new one or was there
  found_in : (kind : ℕ) (b : Batch) (r s : Record) → record_of kind (r ∷ J) b ≡ Some s → (r ≡ s) ⊎ (record_of kind J b ≡ Some s)
  found_in kind b r s e = elim ((kind_of r == kind) && is_of b r) as
      (λ t. ((kind_of r == kind) && is_of b r) ≡ t → (r ≡ s) ⊎ (record_of kind J b ≡ Some s)) [
        | true ↦ λ t. inl (some_same r s (sym (new t) ∙ e))
        | false ↦ λ t. inr (sym (test_step kind r J b t) ∙ e)
      ] refl
    where
      new : ((kind_of r == kind) && is_of b r) ≡ true → record_of kind (r ∷ J) b ≡ Some r
      new t = rw t

  -- neither its Prepare nor its Commit is new
  module _ (own : OwnOk h J) (b : Batch) where
    aside : (r : Record) → record_of 6 (r ∷ J) b ≡ record_of 6 J b → record_of 7 (r ∷ J) b ≡ record_of 7 J b → Matches (r ∷ J) b
    aside r p c t =
        let were : length (outcomes_of J b) ≡ length (txs_of J b) = own.matches b (ap is_some (sym c) ∙ t) in
        rw c (rw p were)

    matches_prepare : (stamp : ℕ) (c : Batch) (txs : List Compact) → Step (Prepare stamp c txs) → Matches (Prepare stamp c txs ∷ J) b
    matches_prepare stamp c txs next = elim (same_batch c b) as (λ t. same_batch c b ≡ t → Matches (Prepare stamp c txs ∷ J) b) [
      | true ↦ λ t h'.
          let e : c ≡ b = same_batch_is c b t in
          let below : b.number ≤ (slot J b.lane).number = own.ok.prepare_below b (own.ok.commit_prepared b h') in
          let new : b.number ≡ (slot J b.lane).number + 1 = subst (λ d. d.number ≡ (slot J d.lane).number + 1) e next.4 in
          absurd (omega (arith, below, new))
      | false ↦ λ t. aside (Prepare stamp c txs) (rw t refl) refl
    ] refl

    matches_commit : (stamp : ℕ) (c : Batch) (os : List Outcome) → Step (Commit stamp c os) → Matches (Commit stamp c os ∷ J) b
    matches_commit stamp c os next = elim (same_batch c b) as (λ t. same_batch c b ≡ t → Matches (Commit stamp c os ∷ J) b) [
      | true ↦ λ t h'. rw t (subst (λ d. length os ≡ length (txs_of J d)) (same_batch_is c b t) next.5)
      | false ↦ λ t. aside (Commit stamp c os) refl (rw t refl)
    ] refl

    matches_next : (r : Record) → Step r → Matches (r ∷ J) b
    matches_next (Genesis header hs) next = absurd next
    matches_next (Carry stamp header source hs numbers) next = absurd next
    matches_next (Start header) next = absurd next
    matches_next (CarryStart stamp header source numbers) next = absurd next
    matches_next (Prepare stamp c txs) next = matches_prepare stamp c txs next
    matches_next (Commit stamp c os) next = matches_commit stamp c os next
    matches_next other next = aside other refl refl

  next_own : (own : OwnOk h J) (r : Record) → After h J r → Step r → OwnOk h (r ∷ J)
  next_own own r after next = record {
    ok = next_ok h.shape h.node J own.ok r next;
    more = next_more h.shape h.node J own.ok own.more r next;
    phases = next_phase h.shape h.node J own.ok own.phases r next;
    grammar = λ kind b s e. elim (found_in kind b r s e) [
      | inl same ↦ subst (IsInGrammar h) same after.0
      | inr was ↦ own.grammar kind b s was
    ];
    matches = λ b. matches_next own b r next;
  }

  no_end : {A : Type 0} → J ≡ [] → A
  no_end e = absurd (let z : q ∷ past ≡ [] = e in cc)

pub own_ok : (h : Header) (J : List Record) → IsJournal h J → OwnOk h J
own_ok h [] j = absurd j
own_ok h (r ∷ []) j = first_own h (r ∷ []) (begins r j.0, tt)
own_ok h (r ∷ (q ∷ past)) j = next_own h q past (own_ok h (q ∷ past) j.1) r j.0
    (next_of h.shape h.genesis h.node (q ∷ past) r (λ lt e. no_end h q past e) j.0)

-- what stands in a journal is not written again
pub stands_still : (h : Header) (newer J : List Record) → IsJournal h J → IsJournal h (newer ++ J) → (kind : ℕ) (b : Batch)
    → is_some (record_of kind J b) ≡ true
    → record_of kind (newer ++ J) b ≡ record_of kind J b
stands_still h [] J i j kind b t = refl
stands_still h (r ∷ newer) [] i j kind b t = absurd i
stands_still h (r ∷ newer) (q ∷ past) i j kind b t = above newer (λ k. stands_still h newer (q ∷ past) i k kind b t) j
  where
    on : (p : Record) (rest : List Record) → record_of kind (p ∷ rest) b ≡ record_of kind (q ∷ past) b → IsJournal h (r ∷ (p ∷ rest))
        → record_of kind (r ∷ (p ∷ rest)) b ≡ record_of kind (q ∷ past) b
    on p rest same j =
        let own : OwnOk h (p ∷ rest) = own_ok h (p ∷ rest) j.1 in
        let next : Next h.shape h.node (p ∷ rest) r = next_of h.shape h.genesis h.node (p ∷ rest) r (λ lt e. no_end h p rest e) j.0 in
        test_step kind r (p ∷ rest) b (not_true _ (λ new. once h.shape h.node (p ∷ rest) own.ok own.more r next kind b new (ap is_some same ∙ t)))
        ∙ same

    above : (newer : List Record) → (IsJournal h (newer ++ q ∷ past) → record_of kind (newer ++ q ∷ past) b ≡ record_of kind (q ∷ past) b)
        → IsJournal h (r ∷ (newer ++ q ∷ past))
        → record_of kind (r ∷ (newer ++ q ∷ past)) b ≡ record_of kind (q ∷ past) b
    above [] same j = on q past refl j
    above (p ∷ newer) same j = on p (newer ++ q ∷ past) (same j.1) j
