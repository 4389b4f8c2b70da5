-- Items of a list, one after another.
use Rattle.std.proofs.Common.{◌≡◌, ◌<◌, ◌≤◌, ◌+◌, ◌++◌, ◌∷◌, [], ℕ, zero, suc, List, length, map, take, Some, None, refl, sym, ◌∙◌, ap, arith}
use Rattle.std.specs.Prelude.{slice_get, slice_index_or}
use Rattle.std.proofs.Math.Seq.{take-suc}
use Rattle.std.proofs.lemmas.List.{map-append}
use Rattle.std.proofs.lemmas.Option.{slice_get-get_or, slice_get_past}
use Rattle.cbdc_model.specs.Records.{Digest, Shape, Record}
use Rattle.cbdc_model.specs.Ranges.{shard_of}
use Rattle.cbdc_model.specs.Status.{status, Absent}
use Rattle.node_journal.specs.Nodes.{NodeOf}
use Rattle.status_command.specs.Texts.{journal_there, status_among}

-- one item more was taken through a function
pub map_more : {A B : Type 0} (f : A → B) (xs : List A) (i : ℕ) (x : A) (before now : List B) → i < length xs → x ≡ slice_index_or xs i x
    → now ≡ before ++ f x ∷ [] → before ≡ map f (take i xs) → now ≡ map f (take (i + 1) xs)
map_more {A} {B} f xs i x before now inside here pushed so_far =
    let next : suc i ≡ i + 1 = omega arith in
    pushed ∙ ap (λ (l : List B). l ++ (f x ∷ [])) so_far ∙ ap (λ (y : A). map f (take i xs) ++ (f y ∷ [])) here
    ∙ sym (map-append f (take i xs) (slice_index_or xs i x ∷ []))
    ∙ ap (map f) (sym (take-suc xs i x inside)) ∙ ap (λ (k : ℕ). map f (take k xs)) next

module _ {N : Type 0} (journal : N → List Record) where
  pub journal_some : (nodes : List N) (n : ℕ) (x : N) → slice_get nodes n ≡ Some x → journal_there journal nodes n ≡ journal x
  journal_some [] n x at = absurd (cc)
  journal_some (y ∷ nodes) zero x at = let same : y ≡ x = cc in ap journal same
  journal_some (y ∷ nodes) (suc n) x at = journal_some nodes n x at

  pub journal_none : (nodes : List N) (n : ℕ) → slice_get nodes n ≡ None → journal_there journal nodes n ≡ []
  journal_none [] n at = refl
  journal_none (y ∷ nodes) zero at = absurd (cc)
  journal_none (y ∷ nodes) (suc n) at = journal_none nodes n at

module _ {D : Type 0} (K : Shape) (shards : List (NodeOf D)) (x : Digest) (k : ℕ) (place : k ≡ shard_of K x) where
  -- the shard that holds a hash says its status
  pub status_there : (s : NodeOf D) → k < length shards → s ≡ slice_index_or shards k s → status s.journal x ≡ status_among K shards x
  status_there s inside is =
      let at : slice_get shards k ≡ Some s = slice_get-get_or shards k s inside ∙ ap (λ (y : NodeOf D). Some y) (sym is) in
      ap (λ (J : List Record). status J x) (sym (journal_some (λ (y : NodeOf D). y.journal) shards k s at)
      ∙ ap (λ (n : ℕ). journal_there (λ (y : NodeOf D). y.journal) shards n) place)

  -- where there is none, nothing is known of it
  pub status_past : length shards ≤ k → Absent ≡ status_among K shards x
  status_past past =
      ap (λ (J : List Record). status J x) (sym (journal_none (λ (y : NodeOf D). y.journal) shards k (slice_get_past shards k past))
      ∙ ap (λ (n : ℕ). journal_there (λ (y : NodeOf D). y.journal) shards n) place)
