-- What keeps a group small: who is in it stays, or a promotion.
use Rattle.std.proofs.Common.{◌≡◌, inl, inr, ℕ, zero, suc, ◌+◌, ◌<◌, ◌≤◌, true, false, List, [], ◌∷◌, ◌++◌, length, take, drop, replicate, get_or}
use Rattle.std.proofs.Common.{set, get_or-set_same, get_or-set_other, refl, sym, ap, ◌∙◌, subst, arith, take_all}
use Rattle.std.proofs.lemmas.List.{length-set, length-replicate, get_or-replicate, take-append-le}
use Rattle.std.proofs.lemmas.Bool.{cases_eq}
use Rattle.shard_replica.specs.Groups.{Member, no_member}
use Rattle.shard_replica.proofs.Sound.{inside_in}
use Rattle.replica_group.specs.Sizes.{one_if, inside_count, IsSmall}

-- one member more or less
pub inside_count-set : (ms : List Member) (i : ℕ) (m : Member) → i < length ms
    → inside_count (set ms i m) + one_if (get_or ms i no_member).inside ≡ inside_count ms + one_if m.inside
inside_count-set [] i m h = absurd (omega arith)
inside_count-set (x ∷ xs) zero m h = omega arith
inside_count-set (x ∷ xs) (suc i) m h = omega (arith, inside_count-set xs i m (omega arith))

-- a member changes, and is in the group as before
pub small_set : (primary term known i : ℕ) (ms : List Member) (m : Member) → IsSmall primary term ms known → i < length ms
    → m.inside ≡ (get_or ms i no_member).inside → IsSmall primary term (set ms i m) known
small_set primary term known i ms m s lt e = record {
  is_there = omega (arith, s.is_there, length-set ms i m);
  is_inside = elim (cases_eq primary i) [
    | inl same ↦ ap (λ k. (get_or (set ms i m) k no_member).inside) same ∙ ap (λ x. x.inside) (get_or-set_same ms i m no_member lt) ∙ e
        ∙ ap (λ k. (get_or ms k no_member).inside) (sym same) ∙ s.is_inside
    | inr ne ↦ ap (λ x. x.inside) (get_or-set_other ms i primary m no_member ne) ∙ s.is_inside
  ];
  are_few = omega (arith, s.are_few, length-set ms i m);
  few_known = s.few_known;
  low = let same : one_if m.inside ≡ one_if (get_or ms i no_member).inside = ap one_if e in
      omega (arith, s.low, inside_count-set ms i m lt, same);
}

-- a promotion: the primary leaves, and one in the group leads in the next term
pub small_led : (primary term known now b : ℕ) (ms : List Member) (left led : Member) → IsSmall primary term ms known → now ≤ 4
    → (get_or ms b no_member).inside ≡ true → (b ≡ primary → ⊥) → left.inside ≡ false → led.inside ≡ true
    → IsSmall b (term + 1) (set (set ms primary left) b led) now
small_led primary term known now b ms left led s few here ne gone in_after =
    let one = set ms primary left in
    let long : length one ≡ length ms = length-set ms primary left in
    let longer : length (set one b led) ≡ length one = length-set one b led in
    let low : b < length ms = inside_in ms b here in
    let lower : b < length one = omega arith in
    let stays : (get_or one b no_member).inside ≡ true = ap (λ x. x.inside) (get_or-set_other ms primary b left no_member ne) ∙ here in
    let first : inside_count one + one_if (get_or ms primary no_member).inside ≡ inside_count ms + one_if left.inside =
    inside_count-set ms primary left s.is_there in
    let second : inside_count (set one b led) + one_if (get_or one b no_member).inside ≡ inside_count one + one_if led.inside =
    inside_count-set one b led lower in
    let was : one_if (get_or ms primary no_member).inside ≡ 1 = ap one_if s.is_inside in
    let left_none : one_if left.inside ≡ 0 = ap one_if gone in
    let was_there : one_if (get_or one b no_member).inside ≡ 1 = ap one_if stays in
    let leads : one_if led.inside ≡ 1 = ap one_if in_after in
    record {
      is_there = omega arith;
      is_inside = ap (λ x. x.inside) (get_or-set_same one b led no_member lower) ∙ in_after;
      are_few = omega (arith, s.are_few);
      few_known = few;
      low = omega (arith, s.low);
    }

-- what stands in a vector behind a call that was lent its items, and left as many
written_back : {X : Type 0} (n : ℕ) (xs ys : List X) → n ≡ length ys → length xs ≡ length ys → take n (xs ++ drop (length xs) ys) ≡ xs
written_back n xs ys e same = let le : n ≤ length xs = omega arith in
    take-append-le n xs (drop (length xs) ys) le ∙ take_all n xs (omega arith)

-- a member is written, and is in the group as before
pub small_written : (primary term known i n : ℕ) (ms lent new : List Member) (m : Member) → IsSmall primary term ms known → n ≡ length ms
    → lent ≡ ms → i < length ms → new ≡ set lent i m → m.inside ≡ (get_or lent i no_member).inside
    → IsSmall primary term (take n (new ++ drop (length new) ms)) known
small_written primary term known i n ms lent new m s e same lt is here =
    let now : new ≡ set ms i m = is ∙ ap (λ l. set l i m) same in
    let long : length new ≡ length ms = ap length now ∙ length-set ms i m in
    subst (λ l. IsSmall primary term l known) (sym (written_back n new ms e long ∙ now))
    (small_set primary term known i ms m s lt (here ∙ ap (λ l. (get_or l i no_member).inside) same))

-- a promotion is written
pub small_handed : (primary term known now b n : ℕ) (ms lent new : List Member) (left led : Member) → IsSmall primary term ms known → n ≡ length ms
    → lent ≡ ms → new ≡ set (set lent primary left) b led → now ≤ 4 → (get_or ms b no_member).inside ≡ true → (b ≡ primary → ⊥)
    → left.inside ≡ false → led.inside ≡ true → IsSmall b (term + 1) (take n (new ++ drop (length new) ms)) now
small_handed primary term known now b n ms lent new left led s e same is few here ne gone in_after =
    let then : new ≡ set (set ms primary left) b led = is ∙ ap (λ l. set (set l primary left) b led) same in
    let long : length new ≡ length ms = ap length then ∙ length-set (set ms primary left) b led ∙ length-set ms primary left in
    subst (λ l. IsSmall b (term + 1) l now) (sym (written_back n new ms e long ∙ then))
    (small_led primary term known now b ms left led s few here ne gone in_after)

-- so many members in the group
inside_count-replicate : (n : ℕ) (m : Member) → m.inside ≡ true → inside_count (replicate n m) ≡ n
inside_count-replicate zero m e = refl
inside_count-replicate (suc n) m e = let one : one_if m.inside ≡ 1 = ap one_if e in omega (arith, one, inside_count-replicate n m e)

pub small_begun : (n known : ℕ) (m : Member) (ms : List Member) → ms ≡ replicate n m → m.inside ≡ true → 0 < n → n ≤ 4 → known ≤ 4
    → IsSmall 0 1 ms known
small_begun n known m ms is e some few low = subst (λ xs. IsSmall 0 1 xs known) (sym is)
    (let l : length (replicate n m) ≡ n = length-replicate n m in
    record {
      is_there = omega arith;
      is_inside = ap (λ x. x.inside) (get_or-replicate n 0 m no_member some) ∙ e;
      are_few = omega arith;
      few_known = low;
      low = omega (arith, inside_count-replicate n m e);
    })
