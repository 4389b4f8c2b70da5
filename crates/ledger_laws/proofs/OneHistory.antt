-- Two ordered lists of rows with the same journals are one: a world has one history.
use Rattle.std.proofs.Common.{◌≡◌, inl, inr, ℕ, true, false, ◌&&◌, ◌||◌, ◌==◌, nat_lt, List, [], ◌∷◌, refl, sym, ap, ◌∙◌, subst, arith}
use Rattle.cbdc_model.specs.History.{goes_above, IsAbove, IsOrdered}
use Rattle.cbdc_model.specs.Records.{Record, Row, journal, stamp_of}
use Rattle.ledger_laws.proofs.Lookups.{other_way}
use Rattle.ledger_laws.proofs.Rows.{at, away, at_node, head_at, head_away}
use Rattle.ledger_laws.proofs.Members.{In}

above_numbers : (p q r u v w : ℕ) → (nat_lt q p || ((q == p) && nat_lt v u)) ≡ true → (nat_lt r q || ((r == q) && nat_lt w v)) ≡ true
    → (nat_lt r p || ((r == p) && nat_lt w u)) ≡ true
above_numbers p q r u v w h k = grind arith

above_twice : (a b c : Row) → goes_above a b ≡ true → goes_above b c ≡ true → goes_above a c ≡ true
above_twice a b c h k = above_numbers (stamp_of a.what) (stamp_of b.what) (stamp_of c.what) a.node b.node c.node h k

not_above_both : (a b : Row) → goes_above a b ≡ true → goes_above b a ≡ true → ⊥
not_above_both a b h k = grind arith

-- the head of an ordered list is above each row behind it
pub above_all : (a : Row) (rows : List Row) → IsAbove a rows → IsOrdered rows → (r : Row) → In r rows → goes_above a r ≡ true
above_all a [] h o r i = absurd i
above_all a (b ∷ rows) h o r (inl e) = subst (λ c. goes_above a c ≡ true) (sym e) h
above_all a (b ∷ rows) h o r (inr i) = above_twice a b r h (above_all b rows o.0 o.1 r i)

cons_same : (a b : Record) (J I : List Record) → a ∷ J ≡ b ∷ I → (a ≡ b) × (J ≡ I)
cons_same a b J I e = (cc, cc)

no_cons : (a : Record) (J : List Record) → [] ≡ a ∷ J → ⊥
no_cons a J e = cc

pub row_same : (a b : Row) → a.node ≡ b.node → a.what ≡ b.what → a ≡ b
row_same a b n w = λ i. record { node = n i; what = w i }

-- the newest record of a journal stands in the list
in_rows : (rows : List Row) (n : ℕ) (r : Record) (J : List Record) → journal n rows ≡ r ∷ J → In (record { node = n; what = r }) rows
in_rows [] n r J e = absurd (no_cons r J e)
in_rows (row ∷ rows) n r J e = elim (at_node row.node n) [
  | at s ↦ inl (row_same (record { node = n; what = r }) row (sym s)
      (sym (cons_same row.what r (journal n rows) J (sym (head_at row rows n s) ∙ e)).0))
  | away s ↦ inr (in_rows rows n r J (sym (head_away row rows n s) ∙ e))
]

in_behind : (row : Row) (rows : List Row) (a : Row) → (row.node == a.node) ≡ false → In a (row ∷ rows) → In a rows
in_behind row rows a apart (inr i) = i
in_behind row rows a apart (inl e) = absurd (differ row a apart (ap (λ r. r.node) e))
  where
    differ : (row a : Row) → (row.node == a.node) ≡ false → a.node ≡ row.node → ⊥
    differ row a h e = grind arith

tails_same : (a b : Row) (A B : List Row) → a ≡ b → ((n : ℕ) → journal n (a ∷ A) ≡ journal n (b ∷ B)) → (n : ℕ) → journal n A ≡ journal n B
tails_same a b A B e h n = elim (at_node a.node n) [
  | at s ↦ (cons_same a.what b.what (journal n A) (journal n B) (sym (head_at a A n s) ∙ h n ∙ head_at b B n (sym (ap (λ r. r.node) e) ∙ s))).1
  | away s ↦ sym (head_away a A n s) ∙ h n ∙ head_away b B n (subst (λ r. (r.node == n) ≡ false) e s)
]

pub one_history : (A B : List Row) → IsOrdered A → IsOrdered B → ((n : ℕ) → journal n A ≡ journal n B) → A ≡ B
one_history [] [] o p h = refl
one_history [] (b ∷ B) o p h = absurd (no_cons b.what (journal b.node B) (h b.node ∙ head_at b B b.node refl))
one_history (a ∷ A) [] o p h = absurd (no_cons a.what (journal a.node A) (sym (h a.node) ∙ head_at a A a.node refl))
one_history (a ∷ A) (b ∷ B) o p h = elim (at_node a.node b.node) [
  | at s ↦
      let w : a.what ≡ b.what = (cons_same a.what b.what (journal b.node A) (journal b.node B)
      (sym (head_at a A b.node s) ∙ h b.node ∙ head_at b B b.node refl)).0 in
      let e : a ≡ b = row_same a b s w in
      let t : A ≡ B = one_history A B o.1 p.1 (tails_same a b A B e h) in
      λ i. e i ∷ t i
  | away s ↦
      let in_b : In a B = in_behind b B a (other_way a.node b.node s)
      (in_rows (b ∷ B) a.node a.what (journal a.node A) (sym (h a.node) ∙ head_at a A a.node refl)) in
      let in_a : In b A = in_behind a A b s (in_rows (a ∷ A) b.node b.what (journal b.node B) (h b.node ∙ head_at b B b.node refl)) in
      absurd (not_above_both a b (above_all a A o.0 o.1 b in_a) (above_all b B p.0 p.1 a in_b))
]
