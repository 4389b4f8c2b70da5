-- What client files and mint files are, as bytes.
use Rattle.std.proofs.Common.{◌≡◌, ℕ, ◌+◌, ◌-◌, ◌^◌, ◌<◌, ◌≤◌, false, cond, eqb, ltb, List, [], ◌∷◌, ◌++◌, length, Result, Ok, Err, refl, sym, ap}
use Rattle.std.proofs.Common.{subst, ◌∙◌, arith, inl, inr}
use Rattle.std.proofs.lemmas.Bool.{cases_lt, eqb-false, ne_eqb, ltb-false, le-ltb}
use Rattle.std.proofs.lemmas.List.{append-nil}
use Rattle.base_types.specs.declared.faults.InputKind.TheVariants.{TooMany, Zero}
use Rattle.cbdc_types.specs.declared.tx.Output.{Output}
use Rattle.cbdc_types.specs.declared.tx.FullTx.{FullTx}
use Rattle.byte_fields.specs.declared.fault.Fault.{Fault}
use Rattle.byte_fields.specs.Faults.{◌>>=◌, fault, IsBytes}
use Rattle.byte_fields.specs.Reading.{number_at, items_at, list_at}
use Rattle.byte_spelling.specs.Spelling.{counted, output, transaction, FitsList, FitsTransaction}
use Rattle.byte_fields.specs.Transactions.{output_at, transaction_at}
use Rattle.byte_fields.proofs.Fields.{bind_ok, guard_ok, ok_is, Takes, IsRead, read_of, output_item}
use Rattle.byte_fields.proofs.Lists.{list_read, transaction_item}
use Rattle.client_files.specs.declared.fault.BadFile.{BadFile}
use Rattle.client_files.specs.Files.{placed, ended, ended_by, extra, counted_behind, minted_at}
use Rattle.byte_laws.specs.Files.{ClientFileLaw, FitsMinted, MintFileLaw}

abbrev done : {A : Type 0} → A → Result A Fault
done x = Ok x

abbrev given : {A : Type 0} → A → Result A BadFile
given x = Ok x

given_is : {A : Type 0} (x y : A) → given x ≡ given y → x ≡ y
given_is x y e = cc

placed_ok : {X : Type 0} (len : ℕ) (r : Result X Fault) (x : X) → placed len false r ≡ given x → r ≡ done x
placed_ok len (Ok y) x e = ap done (given_is y x e)
placed_ok len (Err f) x e = absurd cc

ends : {X : Type 0} (y : X) (rest : List ℕ) (x : X) → ended_by y (extra false rest) ≡ done x → (y ≡ x) × (rest ≡ [])
ends y [] x e = (ok_is y x e, refl)
ends y (b ∷ bs) x e = absurd cc

-- a file of a list, for any reader of its items
module _ {X : Type 0} (read : List ℕ → Result (X × List ℕ) Fault) (spelled : X → List ℕ) (Fits : X → Type 0) (item : IsRead read spelled Fits)
    (limit : ℕ) (small : limit < 2 ^ 64) where
  whole : IsRead (list_at limit read) (counted spelled) (FitsList limit Fits)
  whole = list_read read spelled Fits item limit small

  file_is : (bytes : List ℕ) (xs : List X) → IsBytes bytes → placed (length bytes) false (list_at limit read bytes >>= ended false) ≡ given xs
      → (bytes ≡ counted spelled xs) × FitsList limit Fits xs
  file_is bytes xs fits e =
      let s = bind_ok (list_at limit read bytes) (ended false) xs (placed_ok (length bytes) (list_at limit read bytes >>= ended false) xs e) in
      let t = ends s.0.0 s.0.1 xs s.2 in
      let taken = whole.takes bytes s.0.0 s.0.1 fits s.1 in (
        taken.0.parts ∙ ap (λ (l : List ℕ). counted spelled s.0.0 ++ l) t.1 ∙ append-nil (counted spelled s.0.0)
            ∙ ap (λ (ys : List X). counted spelled ys) t.0,
        subst (λ (ys : List X). FitsList limit Fits ys) t.0 taken.1,
      )

  file_has : (bytes : List ℕ) (xs : List X) → bytes ≡ counted spelled xs → FitsList limit Fits xs
      → placed (length bytes) false (list_at limit read bytes >>= ended false) ≡ given xs
  file_has bytes xs is fits =
      let again : list_at limit read bytes ≡ done (xs, []) =
      ap (list_at limit read) (is ∙ sym (append-nil (counted spelled xs))) ∙ whole.again xs [] fits in
      ap (λ (r : Result (List X × List ℕ) Fault). placed (length bytes) false (r >>= ended false)) again

-- a client file's count is within its limit, and those of the files before it are then too
few_read : (before : ℕ) (bytes : List ℕ) (r : List FullTx × List ℕ) → counted_behind before bytes ≡ done r
    → (before ≤ 1000000) × (list_at (1000000 - before) transaction_at bytes ≡ done r)
unfolding counted_behind list_at
few_read before bytes r e =
    let s = bind_ok (number_at bytes) (λ n. cond (ltb 1000000 (before + n.0)) (Err (fault TooMany bytes)) (items_at transaction_at n.0 n.1)) r e in
    let few = guard_ok (ltb 1000000 (before + s.0.0)) (fault TooMany bytes) (items_at transaction_at s.0.0 s.0.1) r s.2 in
    let le : before + s.0.0 ≤ 1000000 = ltb-false _ _ few.0 in
    let within : ltb (1000000 - before) s.0.0 ≡ false = le-ltb _ _ (omega (arith, le)) in
    (omega (arith, le), rw (s.1, within) few.1)

few_again : (before : ℕ) (bytes : List ℕ) (r : List FullTx × List ℕ) → before ≤ 1000000 → list_at (1000000 - before) transaction_at bytes ≡ done r
    → counted_behind before bytes ≡ done r
unfolding counted_behind list_at
few_again before bytes r limit e =
    let s = bind_ok (number_at bytes) (λ n. cond (ltb (1000000 - before) n.0) (Err (fault TooMany bytes)) (items_at transaction_at n.0 n.1)) r e in
    let few = guard_ok (ltb (1000000 - before) s.0.0) (fault TooMany bytes) (items_at transaction_at s.0.0 s.0.1) r s.2 in
    let le : s.0.0 ≤ 1000000 - before = ltb-false _ _ few.0 in
    let within : ltb 1000000 (before + s.0.0) ≡ false = le-ltb _ _ (omega (arith, le, limit)) in
    rw (s.1, within) few.1

abbrev at_end : ℕ → Result (List FullTx × List ℕ) Fault → Result (List FullTx) BadFile
at_end len r = placed len false (r >>= ended false)

pub client_file : ClientFileLaw
client_file before bytes txs fits =
    let item = read_of transaction_at transaction FitsTransaction transaction_item in
    let len = length bytes in
    let listed = list_at (1000000 - before) transaction_at bytes in
    let behind = counted_behind before bytes in (
      λ e.
          let s = bind_ok behind (ended false) txs (placed_ok len (behind >>= ended false) txs e) in
          let few = few_read before bytes s.0 s.1 in
          let is = file_is transaction_at transaction FitsTransaction item (1000000 - before) (omega arith) bytes txs fits
          (ap (at_end len) (few.1 ∙ sym s.1) ∙ e) in
          (is.0, omega (arith, is.1.0, few.0), is.1.1),
      λ p.
          let has = file_has transaction_at transaction FitsTransaction item (1000000 - before) (omega arith) bytes txs p.0 (omega (arith, p.1), p.2)
          in
          let s = bind_ok listed (ended false) txs (placed_ok len (listed >>= ended false) txs has) in
          let again = few_again before bytes s.0 (omega (arith, p.1)) s.1 in
          ap (at_end len) (again ∙ sym s.1) ∙ has,
    )

-- a value that is not 0
some_value : (v : ℕ) → eqb v 0 ≡ false → 1 ≤ v
some_value v e =
    elim (cases_lt 0 v) [
      | inl lt ↦ omega (arith, lt)
      | inr le ↦ absurd (eqb-false v 0 e (omega (arith, le)))
    ]

minted_read : IsRead minted_at output FitsMinted
minted_read = record {
  takes = λ bytes o rest fits e.
      let s = bind_ok (output_at bytes) (λ read. cond (eqb read.0.value 0) (Err (fault Zero bytes)) (Ok read)) (o, rest) e in
      let g = guard_ok (eqb s.0.0.value 0) (fault Zero bytes) (Ok s.0) (o, rest) s.2 in
      let taken = output_item.takes bytes s.0.0 s.0.1 fits s.1 in
      subst (λ (y : Output × List ℕ). Takes bytes (output y.0) y.1 × FitsMinted y.0) (ok_is s.0 (o, rest) g.1)
      (taken.0, (taken.1, some_value s.0.0.value g.0));
  again = λ o rest fits.
      let positive : eqb o.value 0 ≡ false = ne_eqb o.value 0 (omega (arith, fits.1)) in
      rw (output_item.again o rest fits.0, positive) refl;
}

pub mint_file : MintFileLaw
mint_file bytes mint fits = (
  λ e. file_is minted_at output FitsMinted minted_read 1000000 (omega arith) bytes mint fits e,
  λ p. file_has minted_at output FitsMinted minted_read 1000000 (omega arith) bytes mint p.0 p.1,
)
