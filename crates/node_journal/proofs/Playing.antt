-- A core that takes in the records of a journal.
use Rattle.std.proofs.Common.{◌≡◌, ℕ, min, List, ◌∷◌, ◌∙◌, sym, ap, subst, arith}
use Rattle.std.specs.Prelude.{◌↔◌, IsTrue, Bool, true, false}
use Rattle.cbdc_types.specs.Limits.{IsWithinLimits}
use Rattle.cbdc_model.specs.Records.{Header, Record}
use Rattle.cbdc_model.specs.After.{After, IsJournal}
use Rattle.cbdc_model.specs.Room.{kept_room}
use Rattle.node_journal.specs.Opening.{IsPlayed}
use Rattle.node_journal.proofs.Journals.{journal_goes_on, in_grammar}
use Rattle.node_journal.proofs.Kept.{kept_small}

-- what a core says of a record that may be next
abbrev pub Tells : {C : Type 0} → (C → Header) → (C → List Record → Type 0) → (Header → Type 0) → C → Record → Bool → Type 0
Tells header stands Is core r given = (J : List Record) → stands core J → IsJournal (header core) J → Is (header core)
    → (IsTrue given ↔ After (header core) J r)

module _ {C : Type 0} {header : C → Header} {stands : C → List Record → Type 0} {Is : Header → Type 0} where
  told : (h : Header) (core : C) (J : List Record) (r : Record) (given : Bool) → IsPlayed header stands Is h core J
      → Tells header stands Is core r given → (IsTrue given ↔ After h J r)
  told h core J r given is tells =
      subst (λ (k : Header). IsTrue given ↔ After k J r) is.header
      (tells J is.stands (subst (λ (k : Header). IsJournal k J) (sym is.header) is.journal) (subst Is (sym is.header) is.kind))

  -- a record that was admitted and taken in
  pub plays : (h : Header) (core mid new : C) (J : List Record) (r : Record) (given : Bool) → IsPlayed header stands Is h core J → given ≡ true
      → Tells header stands Is core r given
      → header mid ≡ header core → stands mid J → header new ≡ header mid → stands new (r ∷ J) → IsPlayed header stands Is h new (r ∷ J)
  plays h core mid new J r given is next tells same room after now = record {
    header = after ∙ same ∙ is.header;
    stands = now;
    journal = journal_goes_on h J r is.journal ((told h core J r given is tells).0 next);
    kind = is.kind;
  }

  -- one that was not admitted
  pub not_next : (h : Header) (core : C) (J : List Record) (r : Record) (given : Bool) → IsPlayed header stands Is h core J → given ≡ false
      → Tells header stands Is core r given → After h J r → ⊥
  not_next h core J r given is never tells after = refused ((told h core J r given is tells).1 after) never
    where
      refused : {b : Bool} → IsTrue b → b ≡ false → ⊥
      refused {b} y n = cc

  -- the room that is kept, as the core counts it
  pub kept_is : (h : Header) (core : C) (J : List Record) (kept : ℕ) → IsWithinLimits h.shape → IsPlayed header stands Is h core J
      → ((K : List Record) → stands core K → IsJournal (header core) K → kept ≡ min (kept_room (header core).shape K) 18446744073709551615)
      → kept ≡ kept_room h.shape J
  kept_is h core J kept limits is e =
      let same : kept_room (header core).shape J ≡ kept_room h.shape J = ap (λ (k : Header). kept_room k.shape J) is.header in
      omega (
        arith,
        e J is.stands (subst (λ (k : Header). IsJournal k J) (sym is.header) is.journal),
        same,
        kept_small h J limits (in_grammar h J is.journal),
      )
