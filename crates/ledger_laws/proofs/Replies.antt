-- What the replies of a Lock say of a hash: a Held entry's input was Unspent, and no two Held entries share one.
use Rattle.std.proofs.Common.{◌≡◌, ◌⊎◌, inl, inr, ◌<◌, ◌≤◌, Bool, true, false, if◌then◌else◌, List, [], ◌∷◌, ◌++◌, refl, subst, arith}
use Rattle.cbdc_model.specs.Records.{Digest, Batch, Entry, Reply, Record, Answered, is_held}
use Rattle.cbdc_model.specs.Replies.{refusal, first_reply, reply_to, answered}
use Rattle.cbdc_model.specs.Status.{Status, status, has, held_inputs, Unspent, Locked, Absent}
use Rattle.ledger_laws.proofs.Counts.{count, count-append, not_has-count, here_or_later}

refusal_none : (st : Status) (x : Digest) (claimed : Bool) (b : Batch) (rest : Reply)
    → is_held (first_reply (refusal st x claimed b) rest) ≡ true → (st ≡ Unspent) × (claimed ≡ false) × (is_held rest ≡ true)
refusal_none Unspent x true b rest h = cc
refusal_none Unspent x false b rest h = (refl, refl, h)
refusal_none (Locked by) x claimed b rest h = cc
refusal_none Absent x claimed b rest h = cc

-- of a Held entry
pub held_input : (past : List Record) (b : Batch) (claimed xs : List Digest) (x : Digest) → is_held (reply_to past b claimed xs) ≡ true
    → 0 < count x xs → (status past x ≡ Unspent) × (count x claimed ≡ 0)
held_input past b claimed [] x h n = absurd (omega arith)
held_input past b claimed (y ∷ ys) x h n =
    let first : (status past y ≡ Unspent) × (has claimed y ≡ false) × (is_held (reply_to past b claimed ys) ≡ true)
    = refusal_none (status past y) y (has claimed y) b (reply_to past b claimed ys) h in
    let cases : (y ≡ x) ⊎ (0 < count x ys) = here_or_later y ys x n in
    elim cases [
      | inl e ↦ (subst (λ v. status past v ≡ Unspent) e first.0, subst (λ v. count v claimed ≡ 0) e (not_has-count y claimed first.1))
      | inr later ↦ held_input past b claimed ys x first.2 later
    ]

-- each entry has a hash once at most
abbrev pub EachOnce : Digest → List Entry → Type 0
EachOnce x [] = Unit {0}
EachOnce x (e ∷ es) = (count x e.inputs ≤ 1) × EachOnce x es

abbrev claimed_after : Reply → List Digest → List Digest → List Digest
claimed_after r inputs claimed = if is_held r then inputs ++ claimed else claimed

held_cons_cases : (r : Reply) (e : Entry) (rest : List Answered) (claimed : List Digest) (x : Digest)
    → 0 < count x (held_inputs (record { entry = e; reply = r } ∷ rest))
    → ((is_held r ≡ true) × (0 < count x e.inputs)) ⊎ (0 < count x (held_inputs rest))
held_cons_cases r e rest claimed x n = grind (arith, count-append)

not_claimed : (r : Reply) (inputs claimed : List Digest) (x : Digest) → count x (claimed_after r inputs claimed) ≡ 0 → count x claimed ≡ 0
not_claimed r inputs claimed x h = grind (arith, count-append)

pub answered_held : (past : List Record) (b : Batch) (claimed : List Digest) (es : List Entry) (x : Digest)
    → 0 < count x (held_inputs (answered past b claimed es)) → (status past x ≡ Unspent) × (count x claimed ≡ 0)
answered_held past b claimed [] x n = absurd (omega arith)
answered_held past b claimed (e ∷ es) x n =
    let r = reply_to past b claimed e.inputs in
    let rest = answered past b (claimed_after r e.inputs claimed) es in
    elim (held_cons_cases r e rest claimed x n) [
      | inl here ↦ held_input past b claimed e.inputs x here.0 here.1
      | inr later ↦
          let more : (status past x ≡ Unspent) × (count x (claimed_after r e.inputs claimed) ≡ 0)
          = answered_held past b (claimed_after r e.inputs claimed) es x later in
          (more.0, not_claimed r e.inputs claimed x more.1)
    ]

once_more : (r : Reply) (e : Entry) (rest : List Answered) (claimed : List Digest) (x : Digest) → count x e.inputs ≤ 1
    → count x (held_inputs rest) ≤ 1
    → (0 < count x (held_inputs rest) → count x (claimed_after r e.inputs claimed) ≡ 0)
    → count x (held_inputs (record { entry = e; reply = r } ∷ rest)) ≤ 1
once_more r e rest claimed x one more none = grind (arith, count-append)

pub answered_once : (past : List Record) (b : Batch) (claimed : List Digest) (es : List Entry) (x : Digest) → EachOnce x es
    → count x (held_inputs (answered past b claimed es)) ≤ 1
answered_once past b claimed [] x once = omega arith
answered_once past b claimed (e ∷ es) x once =
    let r = reply_to past b claimed e.inputs in
    once_more r e (answered past b (claimed_after r e.inputs claimed) es) claimed x once.0
    (answered_once past b (claimed_after r e.inputs claimed) es x once.1)
    (λ n. (answered_held past b (claimed_after r e.inputs claimed) es x n).1)
