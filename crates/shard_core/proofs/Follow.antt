-- Which record is the next one, by the slots.
use Rattle.std.proofs.Common.{◌≡◌, ℕ, suc, ◌<◌, Bool, true, false, ◌==◌, not, List, [], ◌∷◌, ◌++◌, Option, Some, None, option_map, arith, refl, ap}
use Rattle.std.proofs.Common.{sym, ◌∙◌, subst, if◌then◌else◌, is_some, IsTrue}
use Rattle.std.specs.Prelude.{◌↔◌}
use Rattle.std.proofs.lemmas.Bool.Decides.{nat_tests}
use Rattle.cbdc_model.specs.Records.{Digest, Batch, Record, Entry, Reply, Answered, is_held, lock_of}
use Rattle.cbdc_model.specs.Replies.{answered, entries, replies, reply_to}
use Rattle.cbdc_model.specs.Slots.{Slot, Phase, slot, Idle, InLock, InFinish}
use Rattle.cbdc_model.specs.After.{FitsReplies}
use Rattle.shard_core.specs.Places.{first_misfit, fits_reply}
use Rattle.shard_core.specs.Slots.{SlotStands, batch_numbered}
use Rattle.shard_core.specs.declared.slots.LaneSlot.TheVariants.{Locked as Taken}

pub entries_answered : (es : List Entry) (past : List Record) (b : Batch) (claimed : List Digest) → entries (answered past b claimed es) ≡ es
entries_answered [] past b claimed = refl
entries_answered (e ∷ es) past b claimed =
    ap (λ xs. e ∷ xs) (entries_answered es past b (if is_held (reply_to past b claimed e.inputs) then e.inputs ++ claimed else claimed))

-- answered entries are told by the entries and the replies
same_answered : (xs ys : List Answered) → entries xs ≡ entries ys → replies xs ≡ replies ys → xs ≡ ys
same_answered [] [] e r = refl
same_answered [] (y ∷ ys) e r = cc
same_answered (x ∷ xs) [] e r = cc
same_answered (x ∷ xs) (y ∷ ys) e r =
    let entry : x.entry ≡ y.entry = (cc) in
    let reply : x.reply ≡ y.reply = (cc) in
    let rest : xs ≡ ys = same_answered xs ys (cc) (cc) in
    let head : x ≡ y = answered_of x y entry reply in
    cc where
      answered_of : (a b : Answered) → a.entry ≡ b.entry → a.reply ≡ b.reply → a ≡ b
      answered_of a b p q =
          let first : a ≡ record { entry = b.entry; reply = a.reply } = ap (λ e. record { entry = e; reply = a.reply }) p in
          first ∙ ap (λ r. record { entry = b.entry; reply = r }) q

-- a Lock carries the replies that the shard gives
pub answered_same : (past : List Record) (b : Batch) (es : List Answered) → replies (answered past b [] (entries es)) ≡ replies es
    → es ≡ answered past b [] (entries es)
answered_same past b es r = same_answered es (answered past b [] (entries es)) (sym (entries_answered (entries es) past b [])) (sym r)

none_under : (o : Option ℕ) → option_map (λ n. suc n) o ≡ None → o ≡ None
none_under None e = refl
none_under (Some n) e = cc

fits_one : (r : Reply) (d : Bool) → fits_reply r d ≡ true → d ≡ true → is_held r ≡ true
fits_one r true f e = f
fits_one r false f e = cc

not_fits_one : (r : Reply) (d : Bool) → fits_reply r d ≡ false → (d ≡ true → is_held r ≡ true) → ⊥
not_fits_one r true f e = let held = e refl in cc
not_fits_one r false f e = cc

-- decisions fit replies where no place is told
pub fits_all : (es : List Answered) (ds : List Bool) → first_misfit fits_reply (replies es) ds ≡ None → FitsReplies es ds
fits_all [] [] e = tt
fits_all [] (d ∷ ds) e = cc
fits_all (a ∷ es) [] e = cc
fits_all (a ∷ es) (d ∷ ds) e =
    elim (fits_reply a.reply d) as (λ c. fits_reply a.reply d ≡ c
    → (if c then option_map (λ n. suc n) (first_misfit fits_reply (replies es) ds) else Some 0) ≡ None
    → (d ≡ true → is_held a.reply ≡ true) × FitsReplies es ds) [
      | true ↦ λ f h. (fits_one a.reply d f, fits_all es ds (none_under (first_misfit fits_reply (replies es) ds) h))
      | false ↦ λ f h. cc
    ] refl e

pub no_place : (es : List Answered) (ds : List Bool) → FitsReplies es ds → first_misfit fits_reply (replies es) ds ≡ None
no_place [] [] f = refl
no_place [] (d ∷ ds) f = absurd f
no_place (a ∷ es) [] f = absurd f
no_place (a ∷ es) (d ∷ ds) f =
    elim (fits_reply a.reply d) as (λ c. fits_reply a.reply d ≡ c
    → (if c then option_map (λ n. suc n) (first_misfit fits_reply (replies es) ds) else Some 0) ≡ None) [
      | true ↦ λ _. let rest = no_place es ds f.1 in rw rest refl
      | false ↦ λ g. absurd (not_fits_one a.reply d g f.0)
    ] refl

-- a lane in one phase is in no other
pub other_phase : {A B : Type 0} (s : Slot) (n : ℕ) (p q : Phase) → s ≡ record { number = n; phase = p } → (p ≡ q → ⊥)
    → IsTrue false ↔ (A × (s.phase ≡ q) × B)
other_phase s n p q e apart = (λ t. absurd (cc), λ f. absurd (apart (sym (ap (λ (x : Slot). x.phase) e) ∙ f.1)))

pub other_phase_finish : {A B C : Type 0} (s : Slot) (n : ℕ) (p q : Phase) → s ≡ record { number = n; phase = p } → (p ≡ q → ⊥)
    → IsTrue false ↔ (A × (s.phase ≡ q) × B × C)
other_phase_finish s n p q e apart = (λ t. absurd (cc), λ f. absurd (apart (sym (ap (λ (x : Slot). x.phase) e) ∙ f.1)))

-- the number decides in the right phase
pub open_slot : {A : Type 0} (s : Slot) (n m : ℕ) (given : Bool) → s ≡ record { number = n; phase = Idle } → A → (IsTrue given ↔ (n < m))
    → IsTrue given ↔ (A × (s.phase ≡ Idle) × (s.number < m))
open_slot s n m given e a t =
    let number : s.number ≡ n = ap (λ (x : Slot). x.number) e in
    (λ y. (a, ap (λ (x : Slot). x.phase) e, subst (λ (k : ℕ). k < m) (sym number) (t.0 y)), λ f. t.1 (subst (λ (k : ℕ). k < m) number f.2))

pub finished_slot : {A : Type 0} (s : Slot) (n m : ℕ) (given : Bool) → s ≡ record { number = n; phase = InFinish } → A → (IsTrue given ↔ (n ≡ m))
    → IsTrue given ↔ (A × (s.phase ≡ InFinish) × (s.number ≡ m))
finished_slot s n m given e a t =
    let number : s.number ≡ n = ap (λ (x : Slot). x.number) e in
    (λ y. (a, ap (λ (x : Slot). x.phase) e, number ∙ t.0 y), λ f. t.1 (sym number ∙ f.2))

pub other_number : {A B : Type 0} (s : Slot) (n m : ℕ) (p : Phase) → s ≡ record { number = n; phase = p } → (n ≡ m → ⊥)
    → IsTrue (n == m) ↔ (A × (s.phase ≡ p) × (s.number ≡ m) × B)
other_number s n m p e apart =
    let no : (n == m) ≡ false = grind (arith, nat_tests) in
    (λ t. absurd (cc), λ f. absurd (apart (sym (ap (λ (x : Slot). x.number) e) ∙ f.2)))

-- the decisions decide at the right batch
pub locked_slot : {A : Type 0} (past : List Record) (b : Batch) (n t : ℕ) (part : List Entry) (rs : List Reply) (ds : List Bool) (o : Option ℕ)
    (given : Bool)
    → SlotStands (Taken n part rs t) past b.lane → A → n ≡ b.number → o ≡ first_misfit fits_reply rs ds → is_some o ≡ not given
    → IsTrue given ↔ (A × ((slot past b.lane).phase ≡ InLock) × ((slot past b.lane).number ≡ b.number) × FitsReplies (lock_of past b) ds)
locked_slot past b n t part rs ds o given stands a number place some =
    let same : batch_numbered b.lane n ≡ b = batch_is b n number in
    let kept : replies (lock_of past b) ≡ rs = ap (λ (c : Batch). replies (lock_of past c)) (sym same) ∙ stands.3 in
    let told : o ≡ first_misfit fits_reply (replies (lock_of past b)) ds = place ∙ ap (λ xs. first_misfit fits_reply xs ds) (sym kept) in (
      λ y. (
        a,
        ap (λ (x : Slot). x.phase) stands.0,
        ap (λ (x : Slot). x.number) stands.0 ∙ number,
        fits_all (lock_of past b) ds (sym told ∙ none_if o given some y),
      ),
      λ f. yes_if o given some (told ∙ no_place (lock_of past b) ds f.3),
    ) where
      batch_is : (c : Batch) (m : ℕ) → m ≡ c.number → batch_numbered c.lane m ≡ c
      batch_is c m e = ap (λ k. batch_numbered c.lane k) e

      none_if : (p : Option ℕ) (q : Bool) → is_some p ≡ not q → IsTrue q → p ≡ None
      none_if None q e y = refl
      none_if (Some k) true e y = cc
      none_if (Some k) false e y = absurd (cc)

      yes_if : (p : Option ℕ) (q : Bool) → is_some p ≡ not q → p ≡ None → IsTrue q
      yes_if None true e n = refl
      yes_if None false e n = cc
      yes_if (Some k) q e n = cc

-- a Lock follows where the lane is free for it and it carries the replies that the shard gives
pub lock_follows : {A B C : Type 0} (past : List Record) (b : Batch) (es : List Answered) → A × B × C
    → replies (answered past b [] (entries es)) ≡ replies es
    → IsTrue true ↔ (A × B × C × (es ≡ answered past b [] (entries es)))
lock_follows past b es f r = (λ t. (f.0, f.1, f.2, answered_same past b es r), λ g. refl)
