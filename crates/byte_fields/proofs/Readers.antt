-- Readers put together: what is read is spelled so, and what is spelled so is read again, whatever follows.
use Rattle.std.proofs.Common.{◌≡◌, ℕ, Bool, true, false, ◌⊎◌, inl, inr, cond, List, ◌++◌, Result, Ok, Err, refl, sym, ap, subst, ◌∙◌, append_assoc}
use Rattle.base_types.specs.declared.faults.InputKind.{InputKind}
use Rattle.byte_fields.specs.declared.fault.Fault.{Fault}
use Rattle.byte_fields.specs.Faults.{◌>>=◌, fault}
use Rattle.byte_fields.proofs.Fields.{bind_ok, ok_is, Takes, Takes-then, IsRead}

abbrev read_ok : {X : Type 0} → X → List ℕ → Result (X × List ℕ) Fault
read_ok x rest = Ok (x, rest)

-- what was built of what was taken
built : {X : Type 0} (spelled : X → List ℕ) (Fits : X → Type 0) (bytes : List ℕ) (y x : X) (after rest : List ℕ)
    → Takes bytes (spelled y) after × Fits y → ◌≡◌ {A = X × List ℕ} (y, after) (x, rest)
    → Takes bytes (spelled x) rest × Fits x
built {X = X} spelled Fits bytes y x after rest taken is = subst (λ (z : X × List ℕ). Takes bytes (spelled z.0) z.1 × Fits z.0) is taken

-- a value of one part
module _ {A X : Type 0} (ra : List ℕ → Result (A × List ℕ) Fault) (ta : A → List ℕ) (FA : A → Type 0) (ia : IsRead ra ta FA)
    (mk : A → X) (spelled : X → List ℕ) (Fits : X → Type 0) where
  abbrev pub one_at : List ℕ → Result (X × List ℕ) Fault
  one_at bytes = ra bytes >>= λ a. Ok (mk a.0, a.1)

  pub one_read : ((a : A) → ta a ≡ spelled (mk a)) → ((a : A) → FA a → Fits (mk a)) → ((x : X) → Fits x → (a : A) × FA a × (mk a ≡ x))
      → IsRead one_at spelled Fits
  one_read spell fit unfit = record {
    takes = λ bytes x rest fits e.
        let s = bind_ok (ra bytes) (λ a. Ok (mk a.0, a.1)) (x, rest) e in
        let one = ia.takes bytes s.0.0 s.0.1 fits s.1 in
        built spelled Fits bytes (mk s.0.0) x s.0.1 rest (subst (λ (t : List ℕ). Takes bytes t s.0.1) (spell s.0.0) one.0, fit s.0.0 one.1)
        (ok_is (mk s.0.0, s.0.1) (x, rest) s.2);
    again = λ x rest fits.
        let u = unfit x fits in
        subst (λ (y : X). one_at (spelled y ++ rest) ≡ Ok (y, rest)) u.2
        (ap (λ (t : List ℕ). one_at (t ++ rest)) (sym (spell u.0)) ∙ rw (ia.again u.0 rest u.1) refl);
  }

-- a value of two parts
module _ {A B X : Type 0} (ra : List ℕ → Result (A × List ℕ) Fault) (ta : A → List ℕ) (FA : A → Type 0) (ia : IsRead ra ta FA)
    (rb : List ℕ → Result (B × List ℕ) Fault) (tb : B → List ℕ) (FB : B → Type 0) (ib : IsRead rb tb FB)
    (mk : A → B → X) (spelled : X → List ℕ) (Fits : X → Type 0) where
  abbrev pub two_at : List ℕ → Result (X × List ℕ) Fault
  two_at bytes = ra bytes >>= λ a. rb a.1 >>= λ b. Ok (mk a.0 b.0, b.1)

  pub two_read : ((a : A) (b : B) → ta a ++ tb b ≡ spelled (mk a b)) → ((a : A) (b : B) → FA a → FB b → Fits (mk a b))
      → ((x : X) → Fits x → (a : A) × (b : B) × FA a × FB b × (mk a b ≡ x))
      → IsRead two_at spelled Fits
  two_read spell fit unfit = record {
    takes = λ bytes x rest fits e.
        let s = bind_ok (ra bytes) (λ a. rb a.1 >>= λ b. Ok (mk a.0 b.0, b.1)) (x, rest) e in
        let t = bind_ok (rb s.0.1) (λ b. Ok (mk s.0.0 b.0, b.1)) (x, rest) s.2 in
        let one = ia.takes bytes s.0.0 s.0.1 fits s.1 in
        let two = ib.takes s.0.1 t.0.0 t.0.1 one.0.rest_fits t.1 in
        let all = Takes-then bytes (ta s.0.0) s.0.1 (tb t.0.0) t.0.1 one.0 two.0 in
        built spelled Fits bytes (mk s.0.0 t.0.0) x t.0.1 rest
        (subst (λ (l : List ℕ). Takes bytes l t.0.1) (spell s.0.0 t.0.0) all, fit s.0.0 t.0.0 one.1 two.1)
        (ok_is (mk s.0.0 t.0.0, t.0.1) (x, rest) t.2);
    again = λ x rest fits.
        let u = unfit x fits in
        let whole : (ta u.0 ++ tb u.1) ++ rest ≡ ta u.0 ++ (tb u.1 ++ rest) = append_assoc (ta u.0) (tb u.1) rest in
        subst (λ (y : X). two_at (spelled y ++ rest) ≡ Ok (y, rest)) u.4
        (ap two_at (ap (λ (l : List ℕ). l ++ rest) (sym (spell u.0 u.1)) ∙ whole)
        ∙ rw (ia.again u.0 (tb u.1 ++ rest) u.2, ib.again u.1 rest u.3) refl);
  }

-- a value of three parts
module _ {A B C X : Type 0} (ra : List ℕ → Result (A × List ℕ) Fault) (ta : A → List ℕ) (FA : A → Type 0) (ia : IsRead ra ta FA)
    (rb : List ℕ → Result (B × List ℕ) Fault) (tb : B → List ℕ) (FB : B → Type 0) (ib : IsRead rb tb FB)
    (rc : List ℕ → Result (C × List ℕ) Fault) (tc : C → List ℕ) (FC : C → Type 0) (ic : IsRead rc tc FC)
    (mk : A → B → C → X) (spelled : X → List ℕ) (Fits : X → Type 0) where
  abbrev pub three_at : List ℕ → Result (X × List ℕ) Fault
  three_at bytes = ra bytes >>= λ a. rb a.1 >>= λ b. rc b.1 >>= λ c. Ok (mk a.0 b.0 c.0, c.1)

  pub three_read : ((a : A) (b : B) (c : C) → ta a ++ (tb b ++ tc c) ≡ spelled (mk a b c))
      → ((a : A) (b : B) (c : C) → FA a → FB b → FC c → Fits (mk a b c))
      → ((x : X) → Fits x → (a : A) × (b : B) × (c : C) × FA a × FB b × FC c × (mk a b c ≡ x))
      → IsRead three_at spelled Fits
  three_read spell fit unfit = record {
    takes = λ bytes x rest fits e.
        let s = bind_ok (ra bytes) (λ a. rb a.1 >>= λ b. rc b.1 >>= λ c. Ok (mk a.0 b.0 c.0, c.1)) (x, rest) e in
        let t = bind_ok (rb s.0.1) (λ b. rc b.1 >>= λ c. Ok (mk s.0.0 b.0 c.0, c.1)) (x, rest) s.2 in
        let v = bind_ok (rc t.0.1) (λ c. Ok (mk s.0.0 t.0.0 c.0, c.1)) (x, rest) t.2 in
        let one = ia.takes bytes s.0.0 s.0.1 fits s.1 in
        let two = ib.takes s.0.1 t.0.0 t.0.1 one.0.rest_fits t.1 in
        let three = ic.takes t.0.1 v.0.0 v.0.1 two.0.rest_fits v.1 in
        let all = Takes-then bytes (ta s.0.0) s.0.1 (tb t.0.0 ++ tc v.0.0) v.0.1 one.0
        (Takes-then s.0.1 (tb t.0.0) t.0.1 (tc v.0.0) v.0.1 two.0 three.0) in
        built spelled Fits bytes (mk s.0.0 t.0.0 v.0.0) x v.0.1 rest
        (subst (λ (l : List ℕ). Takes bytes l v.0.1) (spell s.0.0 t.0.0 v.0.0) all, fit s.0.0 t.0.0 v.0.0 one.1 two.1 three.1)
        (ok_is (mk s.0.0 t.0.0 v.0.0, v.0.1) (x, rest) v.2);
    again = λ x rest fits.
        let u = unfit x fits in
        let whole : (ta u.0 ++ (tb u.1 ++ tc u.2)) ++ rest ≡ ta u.0 ++ (tb u.1 ++ (tc u.2 ++ rest)) =
        append_assoc (ta u.0) (tb u.1 ++ tc u.2) rest ∙ ap (λ (l : List ℕ). ta u.0 ++ l) (append_assoc (tb u.1) (tc u.2) rest) in
        subst (λ (y : X). three_at (spelled y ++ rest) ≡ Ok (y, rest)) u.6
        (ap three_at (ap (λ (l : List ℕ). l ++ rest) (sym (spell u.0 u.1 u.2)) ∙ whole)
        ∙ rw (ia.again u.0 (tb u.1 ++ (tc u.2 ++ rest)) u.3, ib.again u.1 (tc u.2 ++ rest) u.4, ic.again u.2 rest u.5) refl);
  }

-- a value of four parts
module _ {A B C D X : Type 0} (ra : List ℕ → Result (A × List ℕ) Fault) (ta : A → List ℕ) (FA : A → Type 0) (ia : IsRead ra ta FA)
    (rb : List ℕ → Result (B × List ℕ) Fault) (tb : B → List ℕ) (FB : B → Type 0) (ib : IsRead rb tb FB)
    (rc : List ℕ → Result (C × List ℕ) Fault) (tc : C → List ℕ) (FC : C → Type 0) (ic : IsRead rc tc FC)
    (rd : List ℕ → Result (D × List ℕ) Fault) (td : D → List ℕ) (FD : D → Type 0) (id : IsRead rd td FD)
    (mk : A → B → C → D → X) (spelled : X → List ℕ) (Fits : X → Type 0) where
  abbrev pub four_at : List ℕ → Result (X × List ℕ) Fault
  four_at bytes = ra bytes >>= λ a. rb a.1 >>= λ b. rc b.1 >>= λ c. rd c.1 >>= λ d. Ok (mk a.0 b.0 c.0 d.0, d.1)

  pub four_read : ((a : A) (b : B) (c : C) (d : D) → ta a ++ (tb b ++ (tc c ++ td d)) ≡ spelled (mk a b c d))
      → ((a : A) (b : B) (c : C) (d : D) → FA a → FB b → FC c → FD d → Fits (mk a b c d))
      → ((x : X) → Fits x → (a : A) × (b : B) × (c : C) × (d : D) × FA a × FB b × FC c × FD d × (mk a b c d ≡ x))
      → IsRead four_at spelled Fits
  four_read spell fit unfit = record {
    takes = λ bytes x rest fits e.
        let s = bind_ok (ra bytes) (λ a. rb a.1 >>= λ b. rc b.1 >>= λ c. rd c.1 >>= λ d. Ok (mk a.0 b.0 c.0 d.0, d.1)) (x, rest) e in
        let t = bind_ok (rb s.0.1) (λ b. rc b.1 >>= λ c. rd c.1 >>= λ d. Ok (mk s.0.0 b.0 c.0 d.0, d.1)) (x, rest) s.2 in
        let v = bind_ok (rc t.0.1) (λ c. rd c.1 >>= λ d. Ok (mk s.0.0 t.0.0 c.0 d.0, d.1)) (x, rest) t.2 in
        let w = bind_ok (rd v.0.1) (λ d. Ok (mk s.0.0 t.0.0 v.0.0 d.0, d.1)) (x, rest) v.2 in
        let one = ia.takes bytes s.0.0 s.0.1 fits s.1 in
        let two = ib.takes s.0.1 t.0.0 t.0.1 one.0.rest_fits t.1 in
        let three = ic.takes t.0.1 v.0.0 v.0.1 two.0.rest_fits v.1 in
        let four = id.takes v.0.1 w.0.0 w.0.1 three.0.rest_fits w.1 in
        let all = Takes-then bytes (ta s.0.0) s.0.1 (tb t.0.0 ++ (tc v.0.0 ++ td w.0.0)) w.0.1 one.0
        (Takes-then s.0.1 (tb t.0.0) t.0.1 (tc v.0.0 ++ td w.0.0) w.0.1 two.0 (Takes-then t.0.1 (tc v.0.0) v.0.1 (td w.0.0) w.0.1 three.0 four.0)) in
        built spelled Fits bytes (mk s.0.0 t.0.0 v.0.0 w.0.0) x w.0.1 rest
        (subst (λ (l : List ℕ). Takes bytes l w.0.1) (spell s.0.0 t.0.0 v.0.0 w.0.0) all, fit s.0.0 t.0.0 v.0.0 w.0.0 one.1 two.1 three.1 four.1)
        (ok_is (mk s.0.0 t.0.0 v.0.0 w.0.0, w.0.1) (x, rest) w.2);
    again = λ x rest fits.
        let u = unfit x fits in
        let whole : (ta u.0 ++ (tb u.1 ++ (tc u.2 ++ td u.3))) ++ rest ≡ ta u.0 ++ (tb u.1 ++ (tc u.2 ++ (td u.3 ++ rest))) =
        append_assoc (ta u.0) (tb u.1 ++ (tc u.2 ++ td u.3)) rest
        ∙ ap (λ (l : List ℕ). ta u.0 ++ l) (append_assoc (tb u.1) (tc u.2 ++ td u.3) rest
        ∙ ap (λ (l : List ℕ). tb u.1 ++ l) (append_assoc (tc u.2) (td u.3) rest)) in
        subst (λ (y : X). four_at (spelled y ++ rest) ≡ Ok (y, rest)) u.8
        (ap four_at (ap (λ (l : List ℕ). l ++ rest) (sym (spell u.0 u.1 u.2 u.3)) ∙ whole)
        ∙ rw (
          ia.again u.0 (tb u.1 ++ (tc u.2 ++ (td u.3 ++ rest))) u.4,
          ib.again u.1 (tc u.2 ++ (td u.3 ++ rest)) u.5,
          ic.again u.2 (td u.3 ++ rest) u.6,
          id.again u.3 rest u.7,
        ) refl);
  }

-- the value of a test that was passed
pub passed : {A : Type 0} (b : Bool) (r : Result A Fault) (d : Fault) (y : A) → cond b r (Err d) ≡ Ok y → (b ≡ true) × (r ≡ Ok y)
passed true r d y e = (refl, e)
passed false r d y e = absurd (cc)

-- a value that has to pass a test
module _ {X : Type 0} (read : List ℕ → Result (X × List ℕ) Fault) (spelled : X → List ℕ) (Fits : X → Type 0) (item : IsRead read spelled Fits)
    (test : X → Bool) (kind : InputKind) where
  pub tested_read : IsRead (λ bytes. read bytes >>= λ x. cond (test x.0) (Ok (x.0, x.1)) (Err (fault kind bytes))) spelled
      (λ x. Fits x × (test x ≡ true))
  tested_read = record {
    takes = λ bytes x rest fits e.
        let s = bind_ok (read bytes) (λ y. cond (test y.0) (Ok (y.0, y.1)) (Err (fault kind bytes))) (x, rest) e in
        let p = passed (test s.0.0) (read_ok s.0.0 s.0.1) (fault kind bytes) (x, rest) s.2 in
        let one = item.takes bytes s.0.0 s.0.1 fits s.1 in
        built spelled (λ y. Fits y × (test y ≡ true)) bytes s.0.0 x s.0.1 rest (one.0, (one.1, p.0)) (ok_is (s.0.0, s.0.1) (x, rest) p.1);
    again = λ x rest fits. rw (item.again x rest fits.0, fits.1) refl;
  }

-- a reader that is also a reader of what fits in other words
pub refits : {X : Type 0} (read : List ℕ → Result (X × List ℕ) Fault) (spelled : X → List ℕ) (F G : X → Type 0) → IsRead read spelled F
    → ((x : X) → F x → G x) → ((x : X) → G x → F x) → IsRead read spelled G
refits read spelled F G item to back = record {
  takes = λ bytes x rest fits e. let one = item.takes bytes x rest fits e in (one.0, to x one.1);
  again = λ x rest fits. item.again x rest (back x fits);
}

-- the same bytes, spelled in other words
pub respells : {X : Type 0} (read : List ℕ → Result (X × List ℕ) Fault) (spelled other : X → List ℕ) (Fits : X → Type 0) → IsRead read spelled Fits
    → ((x : X) → Fits x → spelled x ≡ other x) → IsRead read other Fits
respells read spelled other Fits item same = record {
  takes = λ bytes x rest fits e. let one = item.takes bytes x rest fits e in (subst (λ (t : List ℕ). Takes bytes t rest) (same x one.1) one.0, one.1);
  again = λ x rest fits. ap (λ (t : List ℕ). read (t ++ rest)) (sym (same x fits)) ∙ item.again x rest fits;
}

-- which of two readers was taken
pub chosen : {A : Type 0} (b : Bool) (r s : Result A Fault) (y : A) → cond b r s ≡ Ok y → ((b ≡ true) × (r ≡ Ok y)) ⊎ ((b ≡ false) × (s ≡ Ok y))
chosen true r s y e = inl (refl, e)
chosen false r s y e = inr (refl, e)
