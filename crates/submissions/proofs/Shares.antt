-- What is sent to a lane when a file has one submission more.
use Rattle.std.proofs.Common.{◌≡◌, ℕ, suc, ◌+◌, ◌*◌, ◌%◌, Bool, true, false, ◌==◌, List, [], ◌∷◌, ◌++◌, length, map, if◌then◌else◌, refl, ap, ◌∙◌}
use Rattle.std.proofs.Common.{arith}
use Rattle.std.specs.List.{filter}
use Rattle.std.proofs.lemmas.List.Elements.{filter-append}
use Rattle.std.proofs.lemmas.List.{map-append}
use Rattle.cbdc_model.specs.Records.{Shape, Compact}
use Rattle.cbdc_model.specs.Coins.{FullTx, compact}
use Rattle.cbdc_model.specs.Waves.{share, sent_to}

-- the item, if it goes there
abbrev pub only_if : {A : Type 0} → Bool → A → List A
only_if b x = if b then x ∷ [] else []

front : {A : Type 0} (b : Bool) (y : A) (new old more : List A) → new ≡ old ++ more
    → (if b then y ∷ new else new) ≡ (if b then y ∷ old else old) ++ more
front true y new old more e = ap (λ l. y ∷ l) e
front false y new old more e = e

pub share_more : {A : Type 0} (n lane k : ℕ) (xs : List A) (x : A)
    → share n lane k (xs ++ x ∷ []) ≡ share n lane k xs ++ only_if ((k + length xs) % n == lane) x
share_more n lane k [] x = ap (λ j. only_if (j % n == lane) x) (omega arith)
share_more n lane k (y ∷ ys) x =
    front (k % n == lane) y _ _ _ (share_more n lane (suc k) ys x ∙ ap (λ j. share n lane (suc k) ys ++ only_if (j % n == lane) x) (omega arith))

-- its compact form, if it goes there and is sound
abbrev pub sent_if : Bool → Bool → FullTx → List Compact
sent_if here sound t = if here then (if sound then compact t ∷ [] else []) else []

sent_one : (sound : FullTx → Bool) (t : FullTx) (here : Bool) → map compact (filter sound (only_if here t)) ≡ sent_if here (sound t) t
sent_one sound t false = refl
sent_one sound t true = go (sound t)
  where
    go : (b : Bool) → map compact (if b then t ∷ [] else []) ≡ sent_if true b t
    go true = refl
    go false = refl

pub sent_more : (K : Shape) (sound : FullTx → Bool) (file : List FullTx) (t : FullTx) (lane : ℕ)
    → sent_to K sound (file ++ t ∷ []) lane ≡ sent_to K sound file lane ++ sent_if (length file % (K.coordinators * K.lanes) == lane) (sound t) t
sent_more K sound file t lane =
    let n = K.coordinators * K.lanes in
    let e : share n lane 0 (file ++ t ∷ []) ≡ share n lane 0 file ++ only_if (length file % n == lane) t
    = share_more n lane 0 file t ∙ ap (λ j. share n lane 0 file ++ only_if (j % n == lane) t) (omega arith) in
    ap (λ l. map compact (filter sound l)) e
    ∙ ap (λ l. map compact l) (filter-append sound (share n lane 0 file) (only_if (length file % n == lane) t))
    ∙ map-append compact (filter sound (share n lane 0 file)) (filter sound (only_if (length file % n == lane) t))
    ∙ ap (λ l. sent_to K sound file lane ++ l) (sent_one sound t (length file % n == lane))
