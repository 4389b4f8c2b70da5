-- How many coins a book has: as many as there are hashes in lists without common members that make up those of its coins.
use Rattle.std.proofs.Common.{◌≡◌, ◌⊎◌, inl, inr, ℕ, zero, suc, ◌+◌, ◌-◌, ◌<◌, true, false, cond, List, [], ◌∷◌, length, Option, Some, None, is_some}
use Rattle.std.proofs.Common.{refl, sym, ap, ◌∙◌, subst, arith}
use Rattle.std.specs.FinMap as book
use Rattle.std.specs.FinMap.Entries.{find as find_entry}
use Rattle.std.specs.Ordering.{nat_cmp, is_eq}
use Rattle.std.specs.Cmp.{tied_itself}
use Rattle.std.specs.Cmp.Lexicographic.{slice_cmp, nat_list_cmp_total}
use Rattle.cbdc_model.specs.Records.{Digest, same_digest}
use Rattle.cbdc_model.specs.Status.{has}
use Rattle.cbdc_model.specs.Coins.{Output, Coin, coin_hash}
use Rattle.cbdc_model.specs.Book.{Book, key, InBook}
use Rattle.shard_table.specs.Members.{IsSet}
use Rattle.ledger_laws.proofs.Books.{same_key, other_key, keys, get-remove_same, get-remove_other}
use Rattle.ledger_laws.proofs.Counts.{same_digest_self, other_is_false}
use Rattle.ledger_laws.proofs.Lookups.{true_false, not_true}
use Rattle.audit.proofs.Once.{same_coin}

none_some : (o : Output) → None ≡ Some o → ⊥
none_some o e = cc

some_output : (o p : Output) → Some o ≡ Some p → o ≡ p
some_output o p e = cc

no_entries : (es : List (List ℕ × Output)) → ((q : List ℕ) → find_entry (slice_cmp nat_cmp) q es ≡ None) → length es ≡ 0
no_entries [] none = refl
no_entries (e ∷ es) none =
    absurd (none_some e.1 (sym (none e.0) ∙ ap (λ r. cond (is_eq r) (Some e.1) (find_entry (slice_cmp nat_cmp) e.0 es))
    (tied_itself nat_list_cmp_total e.0)))

pub no_keys : (b : Book) → ((q : List ℕ) (o : Output) → book.get b q ≡ Some o → ⊥) → book.len b ≡ 0
no_keys b none = book.len-entries b ∙ no_entries (book.entries b) (λ q. sym (book.get-entries b q) ∙ nothing (book.get b q) (none q))
  where
    nothing : (r : Option Output) → ((o : Output) → r ≡ Some o → ⊥) → r ≡ None
    nothing None f = refl
    nothing (Some o) f = absurd (f o refl)

pub one_less : (b : Book) (k : List ℕ) (o : Output) → book.get b k ≡ Some o → book.len b ≡ suc (book.len (book.remove b k))
one_less b k o there =
    let some = some_there (book.len b) refl in
    let e : book.len (book.remove b k) ≡ book.len b - 1 =
    book.len-remove nat_list_cmp_total b k ∙ ap (λ r. cond (is_some r) (book.len b - 1) (book.len b)) there in
    omega (arith, e, some)
  where
    some_there : (m : ℕ) → book.len b ≡ m → 0 < m
    some_there zero e = absurd (none_some o (sym (ap (λ d. book.get d k) (book.empty_of_len b e) ∙ book.get-empty (slice_cmp nat_cmp) k) ∙ there))
    some_there (suc m) e = omega arith

-- each entry is a coin of this kind
abbrev pub AllFrom : (Coin → Type 0) → Book → Type 0
AllFrom Named b = (q : List ℕ) (o : Output) → book.get b q ≡ Some o → (c : Coin) × Named c × (q ≡ key c.point) × (o ≡ c.output)

module _ (Named : Coin → Type 0) (same_hash : (c d : Coin) → Named c → Named d → coin_hash c ≡ coin_hash d → c ≡ d) where
  -- the coin of an entry is of that kind
  named_in : (b : Book) → AllFrom Named b → (c : Coin) → book.get b (key c.point) ≡ Some c.output → Named c
  named_in b from c is =
      let f = from (key c.point) c.output is in
      subst Named (sym (same_coin c f.0 f.2 f.3)) f.1

  removed : (b : Book) (k : List ℕ) → AllFrom Named b → AllFrom Named (book.remove b k)
  removed b k from q o e = elim (keys q k) [
    | same_key t s ↦ absurd (none_some o (sym (get-remove_same b k q s) ∙ e))
    | other_key t s ↦ from q o (sym (get-remove_other b k q s) ∙ e)
  ]

  -- without a coin the others are there, and its hash is not
  module _ (b : Book) (from : AllFrom Named b) (c : Coin) (is : book.get b (key c.point) ≡ Some c.output) where
    stays : (y : Digest) → InBook b y → (coin_hash c ≡ y → ⊥) → InBook (book.remove b (key c.point)) y
    stays y i other = (i.0, get-remove_other b (key c.point) (key i.0.point) (λ s. other (ap coin_hash (same s) ∙ i.2)) ∙ i.1, i.2)
      where
        same : key i.0.point ≡ key c.point → c ≡ i.0
        same s = sym (same_coin i.0 c s (some_output i.0.output c.output (sym i.1 ∙ ap (book.get b) s ∙ is)))

    stood : (y : Digest) → InBook (book.remove b (key c.point)) y → InBook b y × (coin_hash c ≡ y → ⊥)
    stood y i = elim (keys (key i.0.point) (key c.point)) [
      | same_key t s ↦ absurd (none_some i.0.output (sym (get-remove_same b (key c.point) (key i.0.point) s) ∙ i.1))
      | other_key t s ↦
          let was : book.get b (key i.0.point) ≡ Some i.0.output = sym (get-remove_other b (key c.point) (key i.0.point) s) ∙ i.1 in (
            (i.0, was, i.2),
            λ e. s (ap (λ d. key d.point) (same_hash i.0 c (named_in b from i.0 was) (named_in b from c is) (i.2 ∙ sym e))),
          )
    ]

  -- what is left of a book without the coins of some of its hashes
  pub record Less (xs : List Digest) (b : Book) : Type 0 where
    pub rest : Book
    pub from : AllFrom Named rest
    pub size : book.len b ≡ length xs + book.len rest
    pub left : (x : Digest) → InBook rest x → InBook b x × (has xs x ≡ false)
    pub kept : (x : Digest) → InBook b x → has xs x ≡ false → InBook rest x

  here : (x : Digest) (xs : List Digest) → has (x ∷ xs) x ≡ true
  here x xs = let t : same_digest x x ≡ true = same_digest_self x in grind (arith, t)

  later : (x y : Digest) (xs : List Digest) → has xs y ≡ true → has (x ∷ xs) y ≡ true
  later x y xs h = grind (arith, h)

  neither : (x y : Digest) (xs : List Digest) → (x ≡ y → ⊥) → has xs y ≡ false → has (x ∷ xs) y ≡ false
  neither x y xs n h = let f : same_digest x y ≡ false = other_is_false x y n in grind (arith, f, h)

  not_later : (x y : Digest) (xs : List Digest) → has (x ∷ xs) y ≡ false → has xs y ≡ false
  not_later x y xs h = grind (arith, h)

  not_here : (x y : Digest) (xs : List Digest) → has (x ∷ xs) y ≡ false → x ≡ y → ⊥
  not_here x y xs h e = true_false (has (x ∷ xs) y) (subst (λ z. has (x ∷ xs) z ≡ true) e (here x xs)) h

  pub less : (xs : List Digest) (b : Book) → AllFrom Named b → IsSet xs → ((x : Digest) → has xs x ≡ true → InBook b x) → Less xs b
  less [] b from once all = record { rest = b; from = from; size = omega arith; left = λ x i. (i, refl); kept = λ x i h. i }
  less (x ∷ xs) b from once all =
      let i : InBook b x = all x (here x xs) in
      let b' : Book = book.remove b (key i.0.point) in
      let one : book.len b ≡ suc (book.len b') = one_less b (key i.0.point) i.0.output i.1 in
      let more : Less xs b' = less xs b' (removed b (key i.0.point) from) once.1
      (λ y h. stays b from i.0 i.1 y (all y (later x y xs h))
      (λ e. true_false (has xs x) (subst (λ z. has xs z ≡ true) (sym (sym i.2 ∙ e)) h) once.0)) in
      record {
        rest = more.rest;
        from = more.from;
        size = longer (book.len b) (book.len b') (book.len more.rest) one more.size;
        left = λ y j.
            let k = more.left y j in
            let was = stood b from i.0 i.1 y k.0 in
            (was.0, neither x y xs (λ e. was.1 (i.2 ∙ e)) k.1);
        kept = λ y j h. more.kept y (stays b from i.0 i.1 y j (λ e. not_here x y xs h (sym i.2 ∙ e))) (not_later x y xs h);
      }
    where
      longer : (m n k : ℕ) → m ≡ suc n → n ≡ length xs + k → m ≡ length (x ∷ xs) + k
      longer m n k e f = omega (arith, e, f)

  -- three lists without common members that make up the hashes of a book have as many hashes as it has coins
  pub three_less : (b : Book) → AllFrom Named b → (us hs os : List Digest) → IsSet us → IsSet hs → IsSet os
      → ((x : Digest) → InBook b x → (has us x ≡ true) ⊎ (has hs x ≡ true) ⊎ (has os x ≡ true))
      → ((x : Digest) → has us x ≡ true → InBook b x × (has hs x ≡ true → ⊥) × (has os x ≡ true → ⊥))
      → ((x : Digest) → has hs x ≡ true → InBook b x × (has os x ≡ true → ⊥)) → ((x : Digest) → has os x ≡ true → InBook b x)
      → length us + length hs + length os ≡ book.len b
  three_less b from us hs os one two three all u h o =
      let first : Less us b = less us b from one (λ x i. (u x i).0) in
      let second : Less hs first.rest = less hs first.rest first.from two (λ x i. first.kept x (h x i).0 (not_true (has us x) (λ t. (u x t).1 i))) in
      let third : Less os second.rest = less os second.rest second.from three
      (λ x i. second.kept x (first.kept x (o x i) (not_true (has us x) (λ t. (u x t).2 i))) (not_true (has hs x) (λ t. (h x t).1 i))) in
      let none : book.len third.rest ≡ 0 = no_keys third.rest (λ q p e.
      let f = third.from q p e in
      let i = third.left (coin_hash f.0) (f.0, subst (λ k. book.get third.rest k ≡ Some f.0.output) f.2 (e ∙ ap (λ t. Some t) f.3), refl) in
      let j = second.left (coin_hash f.0) i.0 in
      let k = first.left (coin_hash f.0) j.0 in
      elim (all (coin_hash f.0) k.0) [
        | inl t ↦ true_false (has us (coin_hash f.0)) t k.1
        | inr r ↦ elim r [
          | inl t ↦ true_false (has hs (coin_hash f.0)) t j.1
          | inr t ↦ true_false (has os (coin_hash f.0)) t i.1
        ]
      ]) in
      let a = first.size in
      let b = second.size in
      let c = third.size in
      omega (arith, a, b, c, none)
