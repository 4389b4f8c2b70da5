-- The nodes whose disks are back, from the last on.
use Rattle.std.proofs.Common.{◌≡◌, ◌≢◌, ◌+◌, ◌++◌, ◌∷◌, [], ℕ, suc, List, length, sym, ◌∙◌, ap, subst, arith, length-append, append_assoc, append-nil}
use Rattle.rack_ledgers.specs.Places.{EachFrom}
use Rattle.rack_ledgers.specs.Racked.{ListGoesOn}
use Rattle.rack_ledgers.proofs.Each.{each_weaker, each_push, each_split}

-- one more
pub closed_more : {N : Type 0} (P Q : ℕ → N → Type 0) (first : ℕ) (front rest whole : List N) (x : N) (node : ℕ) → node ≡ first + length rest
    → front ≡ rest ++ x ∷ []
    → ((k : ℕ) (d : N) → k ≢ node → P k d → Q k d) → Q node x → ListGoesOn P first front whole → ListGoesOn Q first rest whole
closed_more P Q first front rest whole x node place last keeps here so_far =
    let longer : suc (length rest) ≡ length front = omega (arith, ap length last, length-append rest (x ∷ [])) in
    let kept = each_weaker P Q (first + length front) so_far.more
    (λ k d ge lt p. let other : k ≢ node = omega (arith, place, longer) in keeps k d other p) so_far.each in
    record {
      more = x ∷ so_far.more;
      parts = so_far.parts ∙ ap (λ (l : List _). l ++ so_far.more) last ∙ append_assoc rest (x ∷ []) so_far.more;
      each = (subst (λ (k : ℕ). Q k x) place here, subst (λ (k : ℕ). EachFrom Q k so_far.more) (omega (arith, longer)) kept);
    }

-- none yet
pub closed_none : {N : Type 0} (P : ℕ → N → Type 0) (first : ℕ) (whole : List N) → ListGoesOn P first whole whole
closed_none P first whole = record { more = []; parts = sym (append-nil whole); each = tt }

-- all
pub closed_whole : {N : Type 0} (P : ℕ → N → Type 0) (first : ℕ) (front whole : List N) → front ≡ [] → ListGoesOn P first front whole
    → EachFrom P first whole
closed_whole P first front whole none all =
    let same : whole ≡ all.more = all.parts ∙ ap (λ (l : List _). l ++ all.more) none in
    subst (λ (l : List _). EachFrom P first l) (sym same) (subst (λ (k : ℕ). EachFrom P k all.more) (omega (arith, ap length none)) all.each)

-- one more at the end
pub goes_push : {N : Type 0} (P : ℕ → N → Type 0) (first : ℕ) (front whole longer : List N) (x : N) (node : ℕ) → node ≡ first + length whole
    → longer ≡ whole ++ x ∷ [] → P node x → ListGoesOn P first front whole → ListGoesOn P first front longer
goes_push P first front whole longer x node place more here so_far =
    let end : node ≡ first + length front + length so_far.more = omega (arith, place, ap length so_far.parts, length-append front so_far.more) in
    record {
      more = so_far.more ++ x ∷ [];
      parts = more ∙ ap (λ (l : List _). l ++ x ∷ []) so_far.parts ∙ append_assoc front so_far.more (x ∷ []);
      each = each_push P (first + length front) so_far.more x so_far.each (subst (λ (k : ℕ). P k x) end here);
    }

-- those in front
pub goes_front : {N : Type 0} (P Q : ℕ → N → Type 0) (first : ℕ) (front whole : List N) (so_far : ListGoesOn P first front whole)
    → EachFrom Q first whole → EachFrom Q first front × EachFrom Q (first + length front) so_far.more
goes_front P Q first front whole so_far all = each_split Q first front so_far.more (subst (λ (l : List _). EachFrom Q first l) so_far.parts all)
