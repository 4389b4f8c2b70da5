-- A book stands for how often each hash is in it: taking and putting coins.
use Rattle.std.proofs.Common.{◌≡◌, ◌⊎◌, inl, inr, ℕ, ◌+◌, ◌-◌, ◌<◌, ◌≤◌, true, if◌then◌else◌, List, [], ◌∷◌, map, Option, Some, None, refl, sym, ap}
use Rattle.std.proofs.Common.{◌∙◌, subst, arith, sum_by}
use Rattle.std.proofs.lemmas.List.Sums.{sum_by-cons}
use Rattle.std.specs.FinMap as book
use Rattle.cbdc_model.specs.Book.{Book, key, total, same_output, taken, take_out, take_all, put_all}
use Rattle.cbdc_model.specs.Coins.{Output, Coin, coin_hash}
use Rattle.cbdc_model.specs.Money.{sum_in}
use Rattle.cbdc_model.specs.Records.{Digest, same_digest}
use Rattle.ledger_laws.proofs.Counts.{count, digests, same_digest_self, count-cons_same, count-cons_other}
use Rattle.ledger_laws.proofs.Books.{same_key, other_key, keys, get-insert_same, get-insert_other, get-remove_same, get-remove_other, total-insert}
use Rattle.ledger_laws.proofs.Books.{total-remove}

abbrev pub point_of : Coin → List ℕ
point_of c = key c.point

abbrev pub hashes_of : List Coin → List Digest
hashes_of cs = map coin_hash cs

abbrev pub EachCoin : (Coin → Type 0) → List Coin → Type 0
EachCoin Q [] = Unit {0}
EachCoin Q (c ∷ cs) = Q c × EachCoin Q cs

same_output_self : (o : Output) → same_output o o ≡ true
same_output_self o = let t : same_digest o.program o.program ≡ true = same_digest_self o.program in grind arith

some_inj : (o p : Output) → Some o ≡ Some p → o ≡ p
some_inj o p e = cc

one_of : (x y : Digest) → (x ≡ y) ⊎ (x ≡ y → ⊥)
one_of x y = digests x y

count_one : (x y : Digest) → x ≡ y → count x (y ∷ []) ≡ 1
count_one x y e = count-cons_same x y [] (sym e)

count_other : (x y : Digest) → (x ≡ y → ⊥) → count x (y ∷ []) ≡ 0
count_other x y n = count-cons_other x y [] (λ e. n (sym e))

-- what is known of the coins: of those that are named no two share a hash, and of those that are made no two share an outpoint
pub record CoinsApart (Named Made : Coin → Type 0) : Type 0 where
  pub same_hash : (c d : Coin) → Named c → Named d → coin_hash c ≡ coin_hash d → c ≡ d
  pub made_named : (c : Coin) → Made c → Named c
  pub same_point : (c d : Coin) → Made c → Made d → point_of c ≡ point_of d → c ≡ d

pub record Origin (Made : Coin → Type 0) (q : List ℕ) (o : Output) : Type 0 where
  pub coin : Coin
  pub made : Made coin
  pub at_point : q ≡ point_of coin
  pub output : o ≡ coin.output

pub record Stands (Named Made : Coin → Type 0) (b : Book) (β : Digest → ℕ) : Type 0 where
  pub origin : (q : List ℕ) (o : Output) → book.get b q ≡ Some o → Origin Made q o
  pub counted : (c : Coin) → Made c → book.get b (point_of c) ≡ Some c.output → 0 < β (coin_hash c)
  pub found : (c : Coin) → Named c → 0 < β (coin_hash c) → book.get b (point_of c) ≡ Some c.output

module _ {Named Made : Coin → Type 0} (apart : CoinsApart Named Made) where
  taken_is : (b : Book) (c : Coin) (r : Option Output) → r ≡ Some c.output → taken b c r ≡ Some (book.remove b (point_of c))
  taken_is b c r e = ap (taken b c) e ∙ ap (λ t. if t then Some (book.remove b (point_of c)) else None) (same_output_self c.output)

  pub take_one : (b : Book) (β γ : Digest → ℕ) (c : Coin) → Stands Named Made b β → Named c → β (coin_hash c) ≡ 1 → γ (coin_hash c) ≡ 0
      → ((x : Digest) → (x ≡ coin_hash c → ⊥) → γ x ≡ β x)
      → (take_out b c ≡ Some (book.remove b (point_of c))) × Stands Named Made (book.remove b (point_of c)) γ
      × ((f : Output → ℕ) → total f b ≡ f c.output + total f (book.remove b (point_of c)))
  take_one b β γ c st named one none same =
      let is : book.get b (point_of c) ≡ Some c.output = st.found c named (omega arith) in (
        taken_is b c (book.get b (point_of c)) is,
        record {
          origin = λ q o e. elim (keys q (point_of c)) [
            | same_key t s ↦ absurd (let n : None ≡ Some o = sym (get-remove_same b (point_of c) q s) ∙ e in cc)
            | other_key t s ↦ st.origin q o (sym (get-remove_other b (point_of c) q s) ∙ e)
          ];
          counted = λ d m e. elim (keys (point_of d) (point_of c)) [
            | same_key t s ↦ absurd (let n : None ≡ Some d.output = sym (get-remove_same b (point_of c) (point_of d) s) ∙ e in cc)
            | other_key t s ↦ elim (one_of (coin_hash d) (coin_hash c)) [
              | inl h ↦ absurd (s (ap point_of (apart.same_hash d c (apart.made_named d m) named h)))
              | inr n ↦ rw (same (coin_hash d) n) (st.counted d m (sym (get-remove_other b (point_of c) (point_of d) s) ∙ e))
            ]
          ];
          found = λ d n k. elim (one_of (coin_hash d) (coin_hash c)) [
            | inl h ↦ absurd (let k' : 0 < γ (coin_hash c) = subst (λ v. 0 < γ v) h k in omega arith)
            | inr o ↦
                let was : book.get b (point_of d) ≡ Some d.output = st.found d n (rw (same (coin_hash d) o) at k) in
                elim (keys (point_of d) (point_of c)) [
                  | same_key t s ↦
                      let both : d.output ≡ c.output = some_inj d.output c.output (sym was ∙ ap (book.get b) s ∙ is) in
                      absurd (o (ap coin_hash (same_coin d c s both)))
                  | other_key t s ↦ get-remove_other b (point_of c) (point_of d) s ∙ was
                ]
          ];
        },
        λ f. total-remove f b (point_of c) c.output is,
      )
    where
      same_coin : (d c : Coin) → point_of d ≡ point_of c → d.output ≡ c.output → d ≡ c
      same_coin d c p o =
          let t : d.point.tx ≡ c.point.tx = cc in
          let i : d.point.index ≡ c.point.index = cc in
          λ j. record { point = record { tx = t j; index = i j }; output = o j }

  pub put_one : (b : Book) (β γ : Digest → ℕ) (c : Coin) → Stands Named Made b β → Made c → β (coin_hash c) ≡ 0 → γ (coin_hash c) ≡ 1
      → ((x : Digest) → (x ≡ coin_hash c → ⊥) → γ x ≡ β x)
      → Stands Named Made (book.insert b (point_of c) c.output) γ
      × ((f : Output → ℕ) → total f (book.insert b (point_of c) c.output) ≡ f c.output + total f b)
  put_one b β γ c st made zero_before one same =
      let free : book.get b (point_of c) ≡ None = no_coin (book.get b (point_of c)) refl in (
        record {
          origin = λ q o e. elim (keys q (point_of c)) [
            | same_key t s ↦ record {
              coin = c;
              made = made;
              at_point = s;
              output = some_inj o c.output (sym e ∙ get-insert_same b (point_of c) c.output q s);
            }
            | other_key t s ↦ st.origin q o (sym (get-insert_other b (point_of c) c.output q s) ∙ e)
          ];
          counted = λ d m e. elim (one_of (coin_hash d) (coin_hash c)) [
            | inl h ↦ rw h (omega arith)
            | inr n ↦ elim (keys (point_of d) (point_of c)) [
              | same_key t s ↦ absurd (n (ap coin_hash (apart.same_point d c m made s)))
              | other_key t s ↦ rw (same (coin_hash d) n) (st.counted d m (sym (get-insert_other b (point_of c) c.output (point_of d) s) ∙ e))
            ]
          ];
          found = λ d n k. elim (one_of (coin_hash d) (coin_hash c)) [
            | inl h ↦
                let is : d ≡ c = apart.same_hash d c n (apart.made_named c made) h in
                subst (λ e. book.get (book.insert b (point_of c) c.output) (point_of e) ≡ Some e.output) (sym is)
                (get-insert_same b (point_of c) c.output (point_of c) refl)
            | inr o ↦
                let was : book.get b (point_of d) ≡ Some d.output = st.found d n (rw (same (coin_hash d) o) at k) in
                elim (keys (point_of d) (point_of c)) [
                  | same_key t s ↦ absurd (let no_more : None ≡ Some d.output = sym free ∙ ap (book.get b) (sym s) ∙ was in cc)
                  | other_key t s ↦ get-insert_other b (point_of c) c.output (point_of d) s ∙ was
                ]
          ];
        },
        λ f. total-insert f b (point_of c) c.output free,
      )
    where
      no_coin : (r : Option Output) → book.get b (point_of c) ≡ r → r ≡ None
      no_coin None e = refl
      no_coin (Some o) e =
          let from : Origin Made (point_of c) o = st.origin (point_of c) o e in
          let is : c ≡ from.coin = apart.same_point c from.coin made from.made from.at_point in
          let here : book.get b (point_of c) ≡ Some c.output = e ∙ ap (λ p. Some p) (from.output ∙ ap (λ d. d.output) (sym is)) in
          absurd (omega (arith, st.counted c made here))

  pub record Took (b : Book) (cs : List Coin) (β : Digest → ℕ) : Type 0 where
    pub rest : Book
    pub taking : take_all (Some b) cs ≡ Some rest
    pub stands : Stands Named Made rest (λ x. β x - count x (hashes_of cs))
    pub flow : (f : Output → ℕ) → total f b ≡ sum_in f cs + total f rest

  take_once : (c : Coin) (cs : List Coin) (β : Digest → ℕ) → ((x : Digest) → count x (hashes_of (c ∷ cs)) ≤ β x) → ((x : Digest) → β x ≤ 1)
      → (β (coin_hash c) ≡ 1) × (β (coin_hash c) - count (coin_hash c) (coin_hash c ∷ []) ≡ 0)
  take_once c cs β enough once =
      let one : count (coin_hash c) (coin_hash c ∷ []) ≡ 1 = count_one (coin_hash c) (coin_hash c) refl in
      (omega (arith, one, enough (coin_hash c), once (coin_hash c)), omega (arith, one, once (coin_hash c)))

  pub stands_same : (b : Book) (β γ : Digest → ℕ) → ((x : Digest) → γ x ≡ β x) → Stands Named Made b β → Stands Named Made b γ
  stands_same b β γ e st = record {
    origin = st.origin;
    counted = λ c m g. rw (e (coin_hash c)) (st.counted c m g);
    found = λ c n k. st.found c n (rw (e (coin_hash c)) at k);
  }

  sub_sub : (b a c : ℕ) → b - (a + c) ≡ b - a - c
  sub_sub b a c = omega arith

  pub take_all_stands : (cs : List Coin) (b : Book) (β : Digest → ℕ) → Stands Named Made b β → EachCoin Named cs
      → ((x : Digest) → count x (hashes_of cs) ≤ β x) → ((x : Digest) → β x ≤ 1) → Took b cs β
  take_all_stands [] b β st each enough once = record
      { rest = b; taking = refl; stands = stands_same b β _ (λ x. omega arith) st; flow = λ f. none_taken f b }
    where
      none_taken : (f : Output → ℕ) (b : Book) → total f b ≡ sum_in f [] + total f b
      none_taken f b = omega arith
  take_all_stands (c ∷ cs) b β st each enough once =
      let k : (β (coin_hash c) ≡ 1) × (β (coin_hash c) - count (coin_hash c) (coin_hash c ∷ []) ≡ 0) = take_once c cs β enough once in
      let γ : Digest → ℕ = λ x. β x - count x (coin_hash c ∷ []) in
      let one : (take_out b c ≡ Some (book.remove b (point_of c))) × Stands Named Made (book.remove b (point_of c)) γ
      × ((f : Output → ℕ) → total f b ≡ f c.output + total f (book.remove b (point_of c)))
      = take_one b β γ c st each.0 k.0 k.1 (λ x n. let z : count x (coin_hash c ∷ []) ≡ 0 = count_other x (coin_hash c) n in omega arith) in
      let rest : Took (book.remove b (point_of c)) cs γ
      = take_all_stands cs (book.remove b (point_of c)) γ one.1 each.1 (λ x. still_enough x) (λ x. omega (arith, once x)) in
      record {
        rest = rest.rest;
        taking = ap (λ r. take_all r cs) one.0 ∙ rest.taking;
        stands = stands_same rest.rest _ _ (λ x. counted_both x) rest.stands;
        flow = λ f. omega (arith, one.2 f, rest.flow f, sum_by-cons (λ c. f c.output) c cs);
      }
    where
      still_enough : (x : Digest) → count x (hashes_of cs) ≤ β x - count x (coin_hash c ∷ [])
      still_enough x = let e : count x (hashes_of (c ∷ cs)) ≤ β x = enough x in omega (arith, e)

      counted_both : (x : Digest) → β x - count x (hashes_of (c ∷ cs)) ≡ β x - count x (coin_hash c ∷ []) - count x (hashes_of cs)
      counted_both x = omega arith

  pub put_all_stands : (cs : List Coin) (b : Book) (β : Digest → ℕ) → Stands Named Made b β → EachCoin Made cs
      → ((x : Digest) → β x + count x (hashes_of cs) ≤ 1)
      → Stands Named Made (put_all b cs) (λ x. β x + count x (hashes_of cs)) × ((f : Output → ℕ) → total f (put_all b cs) ≡ sum_in f cs + total f b)
  put_all_stands [] b β st each room = (stands_same b β _ (λ x. omega arith) st, λ f. none_put f b)
    where
      none_put : (f : Output → ℕ) (b : Book) → total f b ≡ sum_in f [] + total f b
      none_put f b = omega arith
  put_all_stands (c ∷ cs) b β st each room =
      let γ : Digest → ℕ = λ x. β x + count x (coin_hash c ∷ []) in
      let one : count (coin_hash c) (coin_hash c ∷ []) ≡ 1 = count_one (coin_hash c) (coin_hash c) refl in
      let zero_before : β (coin_hash c) ≡ 0 = (let r : β (coin_hash c) + count (coin_hash c) (hashes_of (c ∷ cs)) ≤ 1 = room (coin_hash c) in
      omega (arith, r, one)) in
      let first : Stands Named Made (book.insert b (point_of c) c.output) γ
      × ((f : Output → ℕ) → total f (book.insert b (point_of c) c.output) ≡ f c.output + total f b)
      = put_one b β γ c st each.0 zero_before (omega arith)
      (λ x n. let z : count x (coin_hash c ∷ []) ≡ 0 = count_other x (coin_hash c) n in omega arith) in
      let rest : Stands Named Made (put_all (book.insert b (point_of c) c.output) cs) (λ x. γ x + count x (hashes_of cs))
      × ((f : Output → ℕ) → total f (put_all (book.insert b (point_of c) c.output) cs) ≡ sum_in f cs + total f (book.insert b (point_of c) c.output))
      = put_all_stands cs (book.insert b (point_of c) c.output) γ first.0 each.1 (λ x. still_room x) in (
        stands_same (put_all (book.insert b (point_of c) c.output) cs) _ _ (λ x. counted_both x) rest.0,
        λ f. omega (arith, first.1 f, rest.1 f, sum_by-cons (λ c. f c.output) c cs),
      )
    where
      still_room : (x : Digest) → β x + count x (coin_hash c ∷ []) + count x (hashes_of cs) ≤ 1
      still_room x = let e : β x + count x (hashes_of (c ∷ cs)) ≤ 1 = room x in omega (arith, e)

      counted_both : (x : Digest) → β x + count x (hashes_of (c ∷ cs)) ≡ β x + count x (coin_hash c ∷ []) + count x (hashes_of cs)
      counted_both x = omega arith
