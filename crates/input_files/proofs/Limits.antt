-- What is read of a client file is within the limits.
use Rattle.std.proofs.Common.{◌≡◌, ℕ, zero, suc, ◌+◌, ◌-◌, ◌≤◌, nat_lt, arith, Bool, true, false, List, [], ◌∷◌, length, if◌then◌else◌, Option, Some}
use Rattle.std.proofs.Common.{None, Result, Ok, Err, refl, sym, ap, ◌∙◌, subst}
use Rattle.std.specs.Prelude.{All}
use Rattle.std.proofs.lemmas.Bool.{ltb-false}
use Rattle.std.proofs.lemmas.List.Elements.{All-nil, All-cons}
use Rattle.cbdc_types.specs.declared.tx.Output.{Output}
use Rattle.cbdc_types.specs.declared.tx.FullTx.{FullTx}
use Rattle.byte_fields.specs.declared.fault.Fault.{Fault}
use Rattle.base_types.specs.declared.faults.InputKind.TheVariants.{TooMany}
use Rattle.byte_fields.specs.Faults.{◌>>=◌, fault}
use Rattle.byte_fields.specs.Reading.{number_at, items_at, list_at}
use Rattle.byte_fields.specs.Transactions.{input_at, output_at, witness_at, transaction_at}
use Rattle.client_files.specs.Files.{clients_in, counted_behind, mint_in, minted_at, placed, ended, ended_by, extra}
use Rattle.input_files.specs.Limits.{IsShort}

-- a reading that went well went well at each step
record Went {A B : Type 0} (a : Result A Fault) (f : A → Result B Fault) (b : B) : Type 0 where
  pub x : A
  pub first : a ≡ Ok x
  pub then_ : f x ≡ Ok b

went : {A B : Type 0} (a : Result A Fault) (f : A → Result B Fault) (b : B) → (a >>= f) ≡ Ok b → Went a f b
went (Ok x) f b e = record { x = x; first = refl; then_ = e }
went (Err h) f b e = absurd (cc)

items_size : {X : Type 0} (item : List ℕ → Result (X × List ℕ) Fault) (n : ℕ) (bytes : List ℕ) (r : List X × List ℕ) → items_at item n bytes ≡ Ok r
    → length r.0 ≡ n
unfolding items_at
items_size item zero bytes r e = let h : ([], bytes) ≡ r = cc in ap (λ (p : _ × _). length p.0) (sym h)
items_size item (suc n) bytes r e =
    let w = went (item bytes) _ r e in
    let v = went (items_at item n w.x.1) _ r w.then_ in
    let h : (w.x.0 ∷ v.x.0, v.x.1) ≡ r = cc in
    ap (λ (p : _ × _). length p.0) (sym h) ∙ ap (λ k. suc k) (items_size item n w.x.1 v.x v.first)

items_each : {X : Type 0} (P : X → Type 0) (item : List ℕ → Result (X × List ℕ) Fault)
    → ((bytes : List ℕ) (r : X × List ℕ) → item bytes ≡ Ok r → P r.0)
    → (n : ℕ) (bytes : List ℕ) (r : List X × List ℕ) → items_at item n bytes ≡ Ok r → All P r.0
unfolding items_at
items_each P item each zero bytes r e = let h : ([], bytes) ≡ r = cc in subst (λ (p : _ × _). All P p.0) h (All-nil P)
items_each P item each (suc n) bytes r e =
    let w = went (item bytes) _ r e in
    let v = went (items_at item n w.x.1) _ r w.then_ in
    let h : (w.x.0 ∷ v.x.0, v.x.1) ≡ r = cc in
    subst (λ (p : _ × _). All P p.0) h (All-cons P w.x.0 v.x.0 (each bytes w.x w.first) (items_each P item each n w.x.1 v.x v.first))

-- a list's items, behind their number
record Listed {X : Type 0} (limit : ℕ) (item : List ℕ → Result (X × List ℕ) Fault) (r : List X × List ℕ) : Type 0 where
  pub n : ℕ
  pub rest : List ℕ
  pub few : n ≤ limit
  pub items : items_at item n rest ≡ Ok r

listed : {X : Type 0} (limit : ℕ) (item : List ℕ → Result (X × List ℕ) Fault) (bytes : List ℕ) (r : List X × List ℕ)
    → list_at limit item bytes ≡ Ok r → Listed limit item r
unfolding list_at
listed limit item bytes r e =
    let w = went (number_at bytes) _ r e in
    go w.x (nat_lt limit w.x.0) refl w.then_
  where
    go : (x : ℕ × List ℕ) (b : Bool) → nat_lt limit x.0 ≡ b → (if b then Err (fault TooMany bytes) else items_at item x.0 x.1) ≡ Ok r
        → Listed limit item r
    go x true t h = absurd (cc)
    go x false t h = record { n = x.0; rest = x.1; few = ltb-false limit x.0 t; items = h }

-- so many transactions as a client file's number says
behind_listed : (before : ℕ) (bytes : List ℕ) (r : List FullTx × List ℕ) → counted_behind before bytes ≡ Ok r
    → Listed (1000000 - before) transaction_at r
unfolding counted_behind
behind_listed before bytes r e =
    let w = went (number_at bytes) _ r e in
    go w.x (nat_lt 1000000 (before + w.x.0)) refl w.then_
  where
    go : (x : ℕ × List ℕ) (b : Bool) → nat_lt 1000000 (before + x.0) ≡ b
        → (if b then Err (fault TooMany bytes) else items_at transaction_at x.0 x.1) ≡ Ok r → Listed (1000000 - before) transaction_at r
    go x true t h = absurd (cc)
    go x false t h = record { n = x.0; rest = x.1; few = omega (arith, ltb-false 1000000 (before + x.0) t); items = h }

listed_short : {X : Type 0} (limit : ℕ) (item : List ℕ → Result (X × List ℕ) Fault) (r : List X × List ℕ) → Listed limit item r → length r.0 ≤ limit
listed_short limit item r l = subst (λ n. n ≤ limit) (sym (items_size item l.n l.rest r l.items)) l.few

list_short : {X : Type 0} (limit : ℕ) (item : List ℕ → Result (X × List ℕ) Fault) (bytes : List ℕ) (r : List X × List ℕ)
    → list_at limit item bytes ≡ Ok r → length r.0 ≤ limit
list_short limit item bytes r e = listed_short limit item r (listed limit item bytes r e)

listed_each : {X : Type 0} (P : X → Type 0) (limit : ℕ) (item : List ℕ → Result (X × List ℕ) Fault)
    → ((bytes : List ℕ) (r : X × List ℕ) → item bytes ≡ Ok r → P r.0)
    → (r : List X × List ℕ) → Listed limit item r → All P r.0
listed_each P limit item each r l = items_each P item each l.n l.rest r l.items

tx_short : (bytes : List ℕ) (r : FullTx × List ℕ) → transaction_at bytes ≡ Ok r → IsShort r.0
unfolding transaction_at
tx_short bytes r e =
    let w = went (list_at 255 input_at bytes) _ r e in
    let v = went (list_at 255 output_at w.x.1) _ r w.then_ in
    let u = went (list_at 255 witness_at v.x.1) _ r v.then_ in
    let h : (record { inputs = w.x.0; outputs = v.x.0; witnesses = u.x.0 }, u.x.1) ≡ r = cc in
    subst (λ (p : _ × _). IsShort p.0) h (record {
      inputs = list_short 255 input_at bytes w.x w.first;
      outputs = list_short 255 output_at w.x.1 v.x v.first;
    })

-- the items of a file that ends behind them
record Ended {X : Type 0} (read : Result (X × List ℕ) Fault) (x : X) : Type 0 where
  pub rest : List ℕ
  pub is : read ≡ Ok (x, rest)

ended_ok : {X : Type 0} (more : Bool) (p : X × List ℕ) (x : X) → ended more p ≡ Ok x → p.0 ≡ x
ended_ok more p x e = go (extra more p.1) e
  where
    go : (o : Option Fault) → ended_by p.0 o ≡ Ok x → p.0 ≡ x
    go None h = cc
    go (Some f) h = absurd (cc)

placed_ok : {X : Type 0} (len : ℕ) (more : Bool) (r : Result X Fault) (x : X) → placed len more r ≡ Ok x → r ≡ Ok x
placed_ok len more (Ok y) x e = let h : y ≡ x = cc in ap (λ z. Ok z) h
placed_ok len more (Err f) x e = absurd (cc)

file_read : (before : ℕ) (more : Bool) (bytes : List ℕ) (txs : List FullTx) → clients_in before more bytes ≡ Ok txs
    → Went (counted_behind before bytes) (ended more) txs
file_read before more bytes txs e = went (counted_behind before bytes) (ended more) txs (placed_ok (length bytes) more _ txs e)

pub file_short : (before : ℕ) (more : Bool) (bytes : List ℕ) (txs : List FullTx) → clients_in before more bytes ≡ Ok txs → All IsShort txs
file_short before more bytes txs e =
    let w = file_read before more bytes txs e in
    subst (λ ts. All IsShort ts) (ended_ok more w.x txs w.then_)
    (listed_each IsShort (1000000 - before) transaction_at tx_short w.x (behind_listed before bytes w.x w.first))

pub file_few : (before : ℕ) (more : Bool) (bytes : List ℕ) (txs : List FullTx) → clients_in before more bytes ≡ Ok txs → length txs ≤ 1000000 - before
file_few before more bytes txs e =
    let w = file_read before more bytes txs e in
    subst (λ ts. length ts ≤ 1000000 - before) (ended_ok more w.x txs w.then_)
    (listed_short (1000000 - before) transaction_at w.x (behind_listed before bytes w.x w.first))

pub mint_few : (more : Bool) (bytes : List ℕ) (m : List Output) → mint_in more bytes ≡ Ok m → length m ≤ 1000000
mint_few more bytes m e =
    let w = went (list_at 1000000 minted_at bytes) (ended more) m (placed_ok (length bytes) more _ m e) in
    subst (λ os. length os ≤ 1000000) (ended_ok more w.x m w.then_) (list_short 1000000 minted_at bytes w.x w.first)
