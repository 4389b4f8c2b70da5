-- What stands in the first slots.
use Rattle.std.proofs.Common.{◌≡◌, ℕ, zero, suc, ◌+◌, ◌<◌, Bool, true, false, List, [], ◌∷◌, ◌++◌, length, take, replicate, Option, Some, None}
use Rattle.std.proofs.Common.{if◌then◌else◌, arith, refl, ap, sym, ◌∙◌}
use Rattle.cbdc_model.specs.Records.{Digest, same_digest}
use Rattle.shard_table.specs.declared.slots.Kept.{Kept}
use Rattle.shard_table.specs.Entries.{lookup, IsOnce}
use Rattle.shard_table.specs.Slots.{gather, slot_at, AreOnce, IsSound}
use Rattle.shard_table.proofs.Gathers.{same_is, same_of, gathered_none}

pub vacant_at : {V : Type 0} (n i : ℕ) → slot_at {V = V} (replicate n None) i ≡ None
vacant_at zero i = refl
vacant_at (suc n) zero = refl
vacant_at (suc n) (suc i) = vacant_at n i

pub vacant_gather : {V : Type 0} (n : ℕ) → gather {V = V} (replicate n None) ≡ []
vacant_gather zero = refl
vacant_gather (suc n) = vacant_gather n

none_is : {V : Type 0} (f : V) → None ≡ Some f → ⊥
none_is f h = cc

pub vacant_sound : {V : Type 0} (n homes : ℕ) → IsSound {V = V} (replicate n None) homes
vacant_sound n homes = record {
  filled = λ i m e h b c k. absurd (none_is e (sym (vacant_at n i) ∙ h));
  once = λ i j e f h k q. absurd (none_is e (sym (vacant_at n i) ∙ h));
}

pub more_some : {V : Type 0} (slots : List (Option (Kept V))) (i : ℕ) (e : Kept V) → slot_at slots i ≡ Some e
    → gather (take (suc i) slots) ≡ gather (take i slots) ++ e ∷ []
more_some [] i e h = cc
more_some (None ∷ slots) zero e h = cc
more_some (Some f ∷ slots) zero e h = let same : f ≡ e = cc in ap (λ (k : Kept _). k ∷ []) same
more_some (None ∷ slots) (suc i) e h = more_some slots i e h
more_some (Some f ∷ slots) (suc i) e h = let rest = more_some slots i e h in rw rest

pub more_none : {V : Type 0} (slots : List (Option (Kept V))) (i : ℕ) → slot_at slots i ≡ None → gather (take (suc i) slots) ≡ gather (take i slots)
more_none [] zero h = refl
more_none [] (suc i) h = refl
more_none (None ∷ slots) zero h = refl
more_none (Some f ∷ slots) zero h = cc
more_none (None ∷ slots) (suc i) h = more_none slots i h
more_none (Some f ∷ slots) (suc i) h = let rest = more_none slots i h in rw rest

pub data Before {V : Type 0} (slots : List (Option (Kept V))) (i j : ℕ) (f : Kept V) : Type 0 where
  At : j < i → slot_at slots j ≡ Some f → Before slots i j f

pub take_at : {V : Type 0} (slots : List (Option (Kept V))) (i j : ℕ) (f : Kept V) → slot_at (take i slots) j ≡ Some f → Before slots i j f
take_at [] zero j f h = cc
take_at [] (suc i) j f h = cc
take_at (s ∷ slots) zero j f h = cc
take_at (s ∷ slots) (suc i) zero f h = At (omega arith) h
take_at (s ∷ slots) (suc i) (suc j) f h = elim (take_at slots i j f h) [ At l g ↦ At (omega arith) g ]

pub prefix_absent : {V : Type 0} (slots : List (Option (Kept V))) (i : ℕ) (e : Kept V) → AreOnce slots → slot_at slots i ≡ Some e
    → lookup (gather (take i slots)) e.hash ≡ None
prefix_absent slots i e once h =
    gathered_none (take i slots) e.hash (λ j f k. elim (take_at slots i j f k) [
      | At l g ↦
          elim (same_digest f.hash e.hash) as (λ c. same_digest f.hash e.hash ≡ c → c ≡ false) [
            | true ↦ λ t. let q : j ≡ i = once j i f e g h (same_is f.hash e.hash t) in absurd (omega arith)
            | false ↦ λ t. refl
          ] refl
    ])

pub prefix_count : {V : Type 0} (slots : List (Option (Kept V))) (i : ℕ) (e : Kept V) → slot_at slots i ≡ Some e
    → length (gather (take i slots)) < length (gather slots)
prefix_count [] i e h = cc
prefix_count (None ∷ slots) zero e h = cc
prefix_count (Some f ∷ slots) zero e h = omega arith
prefix_count (None ∷ slots) (suc i) e h = prefix_count slots i e h
prefix_count (Some f ∷ slots) (suc i) e h = let rest = prefix_count slots i e h in omega (arith, rest)

differ : false ≡ true → ⊥
differ h = cc

put_by : {V : Type 0} (f : Kept V) (es : List (Kept V)) (e : Kept V) (x : Digest) → (a b d : Bool) → lookup (f ∷ es) e.hash ≡ None
    → (lookup es e.hash ≡ None → lookup (es ++ e ∷ []) x ≡ (if same_digest e.hash x then Some e.value else lookup es x))
    → same_digest f.hash e.hash ≡ a → same_digest f.hash x ≡ b → same_digest e.hash x ≡ d
    → lookup (f ∷ (es ++ e ∷ [])) x ≡ (if same_digest e.hash x then Some e.value else lookup (f ∷ es) x)
put_by f es e x true b d absent rest p q r = absurd (none_is f.value (sym (rw p at absent)))
put_by f es e x false true true absent rest p q r =
    let t : same_digest f.hash e.hash ≡ true = same_of f.hash e.hash (same_is f.hash x q ∙ sym (same_is e.hash x r)) in
    absurd (differ (sym p ∙ t))
put_by f es e x false true false absent rest p q r = rw (q, r)
put_by f es e x false false d absent rest p q r = rw q (rest (rw p at absent))

pub put_last : {V : Type 0} (es : List (Kept V)) (e : Kept V) (x : Digest) → lookup es e.hash ≡ None
    → lookup (es ++ e ∷ []) x ≡ (if same_digest e.hash x then Some e.value else lookup es x)
put_last [] e x absent = refl
put_last (f ∷ es) e x absent =
    put_by f es e x (same_digest f.hash e.hash) (same_digest f.hash x) (same_digest e.hash x) absent (λ h. put_last es e x h) refl refl refl

-- no hash stands twice among what is gathered
pub gathered_once : {V : Type 0} (slots : List (Option (Kept V))) → AreOnce slots → IsOnce (gather slots)
gathered_once [] once = tt
gathered_once (None ∷ slots) once = gathered_once slots (λ i j e f h k q. let s : suc i ≡ suc j = once (suc i) (suc j) e f h k q in omega (arith, s))
gathered_once (Some e ∷ slots) once = (
  gathered_none slots e.hash (λ j f k.
      elim (same_digest f.hash e.hash) as (λ c. same_digest f.hash e.hash ≡ c → c ≡ false) [
        | true ↦ λ t. let q : suc j ≡ 0 = once (suc j) 0 f e k refl (same_is f.hash e.hash t) in absurd (omega (arith, q))
        | false ↦ λ t. refl
      ] refl),
  gathered_once slots (λ i j c f h k q. let s : suc i ≡ suc j = once (suc i) (suc j) c f h k q in omega (arith, s)),
)

pub one_more : {X : Type 0} (xs : List X) (x : X) → length xs + 1 ≡ length (xs ++ x ∷ [])
one_more [] x = refl
one_more (y ∷ ys) x = let rest = one_more ys x in omega (arith, rest)

pub vacant_length : {X : Type 0} (n : ℕ) (x : X) → length (replicate n x) ≡ n
vacant_length zero x = refl
vacant_length (suc n) x = let rest = vacant_length n x in rw rest

pub vacant_many : {X : Type 0} (xs : List X) (n : ℕ) (x : X) → xs ≡ replicate n x → length xs ≡ n
vacant_many xs n x e = ap length e ∙ vacant_length n x
